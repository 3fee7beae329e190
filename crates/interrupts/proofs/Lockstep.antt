-- Demand 3 for any machine: outside handlers, the run under the offers and the plain run go in step, instruction by instruction.
-- Assumes nothing.
use mathlib.Core.Path.{◌≡◌, refl, sym, ap, ◌∙◌}
use mathlib.Core.Logic.{◌⊎◌, inl, inr}
use mathlib.Core.Bool.{Bool, true, false}
use Prim.Native.Nat.{ℕ, zero, suc, ◌+◌, ◌*◌, ◌≤◌, ◌<◌}
use native.Mathlib.Nat.{eq-or-lt_of_le}
use native.Mathlib.Omega.{arith}
use Rattle.basis.proofs.Choice.{clash}
use Rattle.interrupts.specs.Handlers.{iterated, FirstReti, OfHandler, stretch, walk, counted, place_at, counted_at, handler_ticks}
use Rattle.interrupts.proofs.Logic.{grow}
use Rattle.interrupts.specs.Machine.{Machine, Given, AtEnd, InStretch, after, enters_at, returns_at, quiet}

module _ {M : Machine} (G : Given M) where
  open M use {State, Offer, none, tick, Plain, kept, pc, sp, busy, service, rule, bytes}
  open G use {v, s, n, laws, allowed}

  -- the two runs, and what the first does at each tick
  abbrev pub run : ℕ → State
  run j = after M v s j

  abbrev pub plain : ℕ → State
  plain i = after M (quiet M) s i

  abbrev pub en : ℕ → Bool
  en t = enters_at M v s t

  abbrev pub re : ℕ → Bool
  re t = returns_at M v s t

  abbrev pub End : State → Type 0
  End a = AtEnd M (pc s + n) a

  -- both keep the rule that they begin with
  rule_kept : (w : ℕ → Offer) (j : ℕ) → rule (after M w s j) ≡ rule s
  unfolding iterated
  rule_kept w zero = refl
  rule_kept w (suc j) = laws.ruled (w j) (after M w s j) ∙ rule_kept w j

  -- ---- what is known of the ticks done
  -- tick t is no handler's, and writes nothing
  pub record Silent (t : ℕ) : Type 0 where
    pub zero_counted : counted_at en re t ≡ 0
    pub no_handler : ¬ (OfHandler en re t)
    pub same_bytes : bytes (run (suc t)) ≡ bytes (run t)

  -- tick t is a handler's
  pub record Held (t : ℕ) : Type 0 where
    pub one_counted : counted_at en re t ≡ 1
    pub of_handler : OfHandler en re t

  abbrev pub Tick : ℕ → Type 0
  Tick t = Silent t ⊎ Held t

  pub record Past (j : ℕ) : Type 0 where
    pub before : (u : ℕ) → u < j → ¬ (End (run u))
    pub each : (t : ℕ) → t < j → Tick t

  -- the handlers entered before tick j are over before tick j
  abbrev pub Over : ℕ → Type 0
  Over j = (t : ℕ) → t < j → en t ≡ true → (r : ℕ) → FirstReti re t r → r + 3 < j

  pub record PlainPast (i : ℕ) : Type 0 where
    pub before : (u : ℕ) → u < i → ¬ (End (plain u))
    pub wrote : (u : ℕ) → u < suc i → bytes (plain u) ≡ bytes s
    pub goes : (u : ℕ) → u < i → Plain none (plain u)

  -- a state of the run and one of the plain run, both k instructions on
  pub record Alike (k : ℕ) (a q : State) : Type 0 where
    pub same_kept : kept a ≡ kept q
    pub same_sp : sp a ≡ sp q
    pub same_busy : busy a ≡ busy q
    pub here : pc a ≡ pc s + k
    pub plain_here : pc q ≡ pc s + k
    pub free : service a ≡ false
    pub plain_free : service q ≡ false

  -- in step: j ticks of the run, i of the plain run, k instructions
  pub record Link (j i k : ℕ) : Type 0 where
    pub past : Past j
    pub over : Over j
    pub plain_past : PlainPast i
    pub in_stretch : place_at en re j ≡ stretch
    pub alike : Alike k (run j) (plain i)
    pub ticks : j ≡ i + handler_ticks en re j
    pub bound : i + busy (run j) ≤ 2 * k

  -- ---- one tick more
  pub past_on : (j : ℕ) → Past j → ¬ (End (run j)) → Tick j → Past (suc j)
  past_on j p a w = record { before = grow (λ u. ¬ (End (run u))) j p.before a; each = grow Tick j p.each w }

  plain_on : (i : ℕ) → PlainPast i → ¬ (End (plain i)) → Plain none (plain i) → bytes (plain (suc i)) ≡ bytes (plain i) → PlainPast (suc i)
  plain_on i p a g w =
      record {
        before = grow (λ u. ¬ (End (plain u))) i p.before a;
        wrote = grow (λ u. bytes (plain u) ≡ bytes s) (suc i) p.wrote (w ∙ p.wrote i (omega arith));
        goes = grow (λ u. Plain none (plain u)) i p.goes g;
      }

  pub not_yet : (j : ℕ) → Past j → ¬ (End (run j)) → (u : ℕ) → u ≤ j → ¬ (End (run u))
  not_yet j p a u h = grow (λ u. ¬ (End (run u))) j p.before a u (omega arith)

  -- a tick that is done in both runs
  both : (j i k k' : ℕ) → Link j i k → ¬ (End (run j)) → ¬ (End (plain i)) → en j ≡ false → Plain none (plain i)
      → bytes (tick (v j) (run j)) ≡ bytes (run j) → bytes (tick none (plain i)) ≡ bytes (plain i)
      → Alike k' (tick (v j) (run j)) (tick none (plain i)) → suc i + busy (tick (v j) (run j)) ≤ 2 * k' → Link (suc j) (suc i) k'
  unfolding iterated place_at handler_ticks walk counted
  both j i k k' l a q e g w w' x b =
      record {
        past = past_on j l.past a (inl (record { zero_counted = rw (l.in_stretch, e); no_handler = none_here; same_bytes = w }));
        over = grow (λ t. en t ≡ true → (r : ℕ) → FirstReti re t r → r + 3 < suc j) j (λ t h y r f. omega (arith, l.over t h y r f)) (λ y. clash (sym y ∙ e));
        plain_past = plain_on i l.plain_past q g w';
        in_stretch = rw (l.in_stretch, e);
        alike = x;
        ticks = rw (l.in_stretch, e) (omega (arith, l.ticks));
        bound = b;
      }
    where
      none_here : ¬ (OfHandler en re j)
      none_here y =
          elim (eq-or-lt_of_le y.from) [
            | inl z ↦ clash (sym y.entered ∙ ap (λ (t : ℕ). en t) z ∙ e)
            | inr z ↦ omega (arith, l.over y.entry z y.entered y.reti y.first, y.to)
          ]

  -- a wait in both
  waits_both : (j i k b : ℕ) → Link j i k → busy (run j) ≡ suc b → b < 4 → Link (suc j) (suc i) k
  waits_both j i k b l h small =
      let x = l.alike in
      let h' : busy (plain i) ≡ suc b = sym x.same_busy ∙ h in
      let (_, no_entry, wv) = laws.wait (v j) (run j) b h small in
      let (goes, _, wq) = laws.wait none (plain i) b h' small in
      both j i k k l (λ a. omega (arith, a.ready)) (λ a. omega (arith, a.ready)) no_entry goes wv.bytes' wq.bytes'
      (record {
        same_kept = wv.kept' ∙ x.same_kept ∙ sym wq.kept';
        same_sp = wv.sp' ∙ x.same_sp ∙ sym wq.sp';
        same_busy = wv.busy' ∙ sym wq.busy';
        here = wv.pc' ∙ x.here;
        plain_here = wq.pc' ∙ x.plain_here;
        free = wv.service' ∙ x.free;
        plain_free = wq.service' ∙ x.plain_free;
      })
      (omega (arith, wv.busy', l.bound))

  -- the instruction k in both
  runs_both : (j i k : ℕ) → Link j i k → k < n → busy (run j) ≡ 0 → en j ≡ false → Link (suc j) (suc i) (suc k) × (busy (run (suc j)) ≤ 1)
  unfolding iterated
  runs_both j i k l h b e =
      let x = l.alike in
      let in_v : InStretch M (pc s) (pc s + n) (run j) = record { above = omega (arith, x.here); below = omega (arith, x.here); ready = b; free = x.free } in
      let in_q : InStretch M (pc s) (pc s + n) (plain i) = record {
        above = omega (arith, x.plain_here);
        below = omega (arith, x.plain_here);
        ready = sym x.same_busy ∙ b;
        free = x.plain_free;
      } in
      let not_v : ¬ (End (run j)) = λ a. omega (arith, a.there, x.here) in
      let not_q : ¬ (End (plain i)) = λ a. omega (arith, a.there, x.plain_here) in
      let (goes, may, calm) = laws.calm (plain i) in_q in
      let rv = laws.run (v j) (run j) in_v (allowed j (not_yet j l.past not_v)) e in
      let rq = laws.run none (plain i) in_q may calm in
      let same_pc = x.here ∙ sym x.plain_here in
      let same_rule = rule_kept v j ∙ sym (rule_kept (quiet M) i) in
      let cheap = laws.cheap (rule (run j)) (pc (run j)) in_v.above in_v.below in (
        both j i k (suc k) l not_v not_q e goes rv.bytes' rq.bytes'
            (record {
              same_kept = rv.kept' ∙ rw (same_rule, same_pc, x.same_kept) (sym rq.kept');
              same_sp = rv.sp' ∙ x.same_sp ∙ sym rq.sp';
              same_busy = rv.busy' ∙ rw (same_rule, same_pc) (sym rq.busy');
              here = omega (arith, rv.pc', x.here);
              plain_here = omega (arith, rq.pc', x.plain_here);
              free = rv.service' ∙ x.free;
              plain_free = rq.service' ∙ x.plain_free;
            })
            (omega (arith, rv.busy', l.bound, cheap)),
        omega (arith, rv.busy', cheap),
      )

  -- ---- an instruction and its waits
  pub record Ready (k : ℕ) : Type 0 where
    pub at : ℕ
    pub plain_at : ℕ
    pub link : Link at plain_at k
    pub ready : busy (run at) ≡ 0

  drain : (b j i k : ℕ) → Link j i k → busy (run j) ≡ b → b ≤ 1 → Ready k
  unfolding iterated
  drain zero j i k l h small = record { at = j; plain_at = i; link = l; ready = h }
  drain (suc b) j i k l h small =
      drain b (suc j) (suc i) k (waits_both j i k b l h (omega arith)) (laws.wait (v j) (run j) b h (omega arith)).2.busy' (omega arith)

  pub runs_on : (j i k : ℕ) → Link j i k → k < n → busy (run j) ≡ 0 → en j ≡ false → Ready (suc k)
  runs_on j i k l h b f = let x = runs_both j i k l h b f in drain (busy (run (suc j))) (suc j) (suc i) (suc k) x.0 refl x.1
