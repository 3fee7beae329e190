-- Demand 3 for any machine that obeys the laws: both runs get to the end, and are alike there.
-- Assumes nothing.
use mathlib.Core.Path.{◌≡◌, refl, sym, ◌∙◌, subst}
use mathlib.Core.Logic.{◌⊎◌, inl, inr, ◌↔◌}
use mathlib.Core.Bool.{Bool, true, false}
use Prim.Native.Nat.{ℕ, zero, suc, ◌+◌, ◌≤◌, ◌<◌}
use native.Mathlib.Nat.{eq-or-lt_of_le}
use native.Mathlib.Decide.{dec_lt}
use native.Mathlib.Omega.{arith}
use Rattle.basis.proofs.Choice.{clash}
use Rattle.interrupts.specs.Handlers.{iterated, First, NotYet, FirstReti, OfHandler, place_at, counted_at, handler_ticks}
use Rattle.interrupts.proofs.Logic.{grow, first_unique}
use Rattle.interrupts.specs.Machine.{Machine, Given, Laws, Ended, Restored, Handled, Transparent, after, enters_at, returns_at}
use Rattle.interrupts.proofs.Lockstep.{run, en, re, Tick, Link, Ready, runs_on}
use Rattle.interrupts.proofs.Handled.{whole}

module _ {M : Machine} (G : Given M) where
  open M use {busy, service, bytes}
  open G use {v, s, n, laws}

  -- from one instruction to the next, with a handler before it or none
  onward : (j i k : ℕ) → Link G j i k → k < n → busy (run G j) ≡ 0 → (c : Bool) → en G j ≡ c → Ready G (suc k)
  onward j i k l h b false f = runs_on G j i k l h b f
  onward j i k l h b true f =
      let w = whole G j i k l h b f in
      runs_on G w.at i k w.link h w.ready (laws.inhibited (v w.at) (run G w.at) w.inhibits)

  counts_of : (t : ℕ) → Tick G t → (counted_at (en G) (re G) t ≡ 1) ↔ OfHandler (en G) (re G) t
  counts_of t (inl x) = (λ c. absurd (omega (arith, c, x.zero_counted)), λ y. absurd (x.no_handler y))
  counts_of t (inr x) = (λ c. x.of_handler, λ y. x.one_counted)

  wrote_of : (t : ℕ) → Tick G t → ¬ (OfHandler (en G) (re G) t) → bytes (run G (suc t)) ≡ bytes (run G t)
  wrote_of t (inl x) h = x.same_bytes
  wrote_of t (inr x) h = absurd (h x.of_handler)

  -- m instructions are left
  arrives : (m k j i : ℕ) → k + m ≡ n → Link G j i k → busy (run G j) ≡ 0 → (J : ℕ) × (I : ℕ) × Transparent M v s n J I
  arrives zero k j i e l b =
      let x = l.alike in
      let k_n : k ≡ n = omega arith in (
        j,
        i,
        record {
          first = record { reached = record { there = rw k_n at x.here; ready = b; free = x.free }; not_before = l.past.before };
          plain_first = record {
            reached = record { there = rw k_n at x.plain_here; ready = sym x.same_busy ∙ b; free = x.plain_free };
            not_before = l.plain_past.before;
          };
          same_kept = x.same_kept;
          same_sp = x.same_sp;
          same_pc = x.here ∙ sym x.plain_here;
          ticks = l.ticks;
          counts = λ t h. counts_of t (l.past.each t h);
          wrote = λ t h. wrote_of t (l.past.each t h);
          plain_wrote = λ u h. l.plain_past.wrote u (omega arith);
          plain_goes = l.plain_past.goes;
          plain_bound = omega (arith, l.bound);
        },
      )
  arrives (suc m) k j i e l b =
      let r = onward j i k l (omega arith) b (en G j) refl in
      arrives m (suc k) r.at r.plain_at (omega arith) r.link r.ready

  pub transparent : busy s ≡ 0 → service s ≡ false → (J : ℕ) × (I : ℕ) × Transparent M v s n J I
  unfolding iterated place_at handler_ticks
  transparent b f =
      arrives n 0 0 0 (omega arith)
      (record {
        past = record { before = λ u h. absurd (omega arith); each = λ t h. absurd (omega arith) };
        over = λ t h. absurd (omega arith);
        plain_past = record { before = λ u h. absurd (omega arith); wrote = λ u h. (let z : u ≡ 0 = omega arith in rw z); goes = λ u h. absurd (omega arith) };
        in_stretch = refl;
        alike = record { same_kept = refl; same_sp = refl; same_busy = refl; here = omega arith; plain_here = omega arith; free = f; plain_free = f };
        ticks = omega arith;
        bound = omega (arith, b);
      })
      b

-- ---- the same where the run is known to get to the end first after J ticks: the premises speak of ticks before J alone
module _ (M : Machine) (v : ℕ → M.Offer) (s : M.State) (n J : ℕ) (L : Laws M (M.pc s) (M.pc s + n)) (f : First (Ended M v s n) J)
    (allowed : (t : ℕ) → t < J → M.Allowed (v t) (after M v s t))
    (restored : (t r : ℕ) → r < J → enters_at M v s t ≡ true → FirstReti (returns_at M v s) t r → Restored M v s t r) where
  open M use {tick, busy, service}

  before_J : (t : ℕ) → NotYet (Ended M v s n) t → t < J
  before_J t b = elim (dec_lt t J) [ yes h ↦ h | no h ↦ absurd (b J (omega arith) f.reached) ]

  -- after tick t and before tick d nothing executes RETI
  abbrev NoReti : ℕ → ℕ → Type 0
  NoReti t d = (u : ℕ) → t < u → u < d → returns_at M v s u ≡ false

  -- the first RETI after tick t is before tick d, or there is none
  abbrev Search : ℕ → ℕ → Type 0
  Search t d = ((r : ℕ) × (r < d) × FirstReti (returns_at M v s) t r) ⊎ NoReti t d

  -- entered at tick j and no RETI up to J: in service to the end
  lasting : (j : ℕ) → NoReti j J → enters_at M v s j ≡ true → (d : ℕ) → j < d → d ≤ J → service (after M v s d) ≡ true
  unfolding iterated
  lasting j h e zero a b = absurd (omega arith)
  lasting j h e (suc d) a b =
      let a₁ : j ≤ d = omega arith in
      elim (eq-or-lt_of_le a₁) [
        | inl q ↦ subst (λ x. service (tick (v x) (after M v s x)) ≡ true) q (L.enter (v j) (after M v s j) e).service'
        | inr l ↦ L.serve (v d) (after M v s d) (lasting j h e d l (omega arith)) (h d l (omega arith))
      ]

  more : (t d : ℕ) → Search t d → Dec (t < d) → (c : Bool) → returns_at M v s d ≡ c → Search t (suc d)
  more t d (inl x) y c h = inl (x.0, omega (arith, x.1), x.2)
  more t d (inr g) (no a) c h = inr (λ u p q. absurd (omega arith))
  more t d (inr g) (yes a) true h = inl (d, omega arith, record { later = a; here = h; not_between = g })
  more t d (inr g) (yes a) false h = inr (λ u p q. grow (λ u. t < u → returns_at M v s u ≡ false) d (λ u q p. g u p q) (λ p. h) u q p)

  find : (t d : ℕ) → Search t d
  find t zero = inr (λ u a b. absurd (omega arith))
  find t (suc d) = more t d (find t d) (dec_lt t d) (returns_at M v s d) refl

  returned : (t : ℕ) → t < J → enters_at M v s t ≡ true → Search t J → Handled M v s t
  returned t h e (inl x) = record { at = x.0; reti = x.2; restored = restored t x.0 x.1 e x.2 }
  returned t h e (inr g) = clash (sym (lasting t g e J h (omega arith)) ∙ f.reached.free)

  given : Given M
  given =
      record {
        v = v;
        s = s;
        n = n;
        laws = L;
        allowed = λ t a. allowed t (before_J t a);
        handled = λ t a e. returned t (before_J t a) e (find t J);
      }

  pub transparent_at : busy s ≡ 0 → service s ≡ false → (I : ℕ) × Transparent M v s n J I
  unfolding given
  transparent_at b q =
      let (j, I, x) = transparent given b q in
      (I, subst (λ j. Transparent M v s n j I) (first_unique j J x.first f) x)
