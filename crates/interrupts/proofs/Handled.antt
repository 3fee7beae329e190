-- Demand 3 for any machine: one handler, from its entry to the third wait after its RETI, leaves the run where it was.
-- Assumes nothing.
use mathlib.Core.Path.{◌≡◌, refl, sym, ◌∙◌, subst}
use mathlib.Core.Logic.{inl, inr}
use mathlib.Core.Bool.{Bool, true, false}
use Prim.Native.Nat.{ℕ, zero, suc, ◌+◌, ◌-◌, ◌≤◌, ◌<◌}
use native.Mathlib.Nat.{eq-or-lt_of_le}
use native.Mathlib.Decide.{dec_lt}
use native.Mathlib.Omega.{arith}
use Rattle.basis.proofs.Choice.{clash}
use Rattle.interrupts.specs.Handlers.{iterated, FirstReti, Place, stretch, handler, waits3, waits2, waits1, walk, counted, place_at, counted_at, handler_ticks}
use Rattle.interrupts.proofs.Logic.{grow, reti_unique}
use Rattle.interrupts.specs.Machine.{Machine, Given, Restored}
use Rattle.interrupts.proofs.Lockstep as step

module _ {M : Machine} (G : Given M) where
  open M use {State, kept, pc, sp, busy, inhibit, service}
  open G use {v, s, n, laws, handled}

  abbrev run : ℕ → State
  run j = step.run G j

  abbrev en : ℕ → Bool
  en t = step.en G t

  abbrev re : ℕ → Bool
  re t = step.re G t

  abbrev ticks_of : ℕ → ℕ
  ticks_of j = handler_ticks en re j

  -- entered at tick t, with its first RETI at tick r
  module _ (t r : ℕ) (e : en t ≡ true) (f : FirstReti re t r) where
    -- no entry after tick t and before tick j
    abbrev Alone : ℕ → Type 0
    Alone j = (u : ℕ) → u < j → t < u → en u ≡ false

    -- ---- from the entry to the RETI
    record Within (j : ℕ) : Type 0 where
      past : step.Past G j
      alone : Alone j
      in_handler : place_at en re j ≡ handler
      serves : service (run j) ≡ true
      ticks : ticks_of j + t ≡ ticks_of t + j

    held_tick : (j : ℕ) → counted_at en re j ≡ 1 → t ≤ j → j ≤ r + 3 → step.Tick G j
    held_tick j c a b = inr (record { one_counted = c; of_handler = record { entry = t; reti = r; entered = e; first = f; from = a; to = b } })

    alone_on : (j : ℕ) → Alone j → en j ≡ false → Alone (suc j)
    alone_on j a h = grow (λ u. t < u → en u ≡ false) j a (λ l. h)

    not_end : (j : ℕ) → Within j → ¬ (step.End G (run j))
    not_end j w a = clash (sym w.serves ∙ a.free)

    entered : step.Past G t → ¬ (step.End G (run t)) → place_at en re t ≡ stretch → Within (suc t)
    unfolding iterated place_at handler_ticks walk counted
    entered p a m =
        record {
          past = step.past_on G t p a (held_tick t (rw (m, e)) (omega arith) (omega (arith, f.later)));
          alone = λ u h l. absurd (omega arith);
          in_handler = rw (m, e);
          serves = (laws.enter (v t) (run t) e).service';
          ticks = rw (m, e) (omega arith);
        }

    within_on : (j : ℕ) → t < j → j < r → Within j → Within (suc j)
    unfolding iterated place_at handler_ticks walk counted
    within_on j a b w =
        let m = w.in_handler in
        let x = f.not_between j a b in
        record {
          past = step.past_on G j w.past (not_end j w) (held_tick j (rw m) (omega arith) (omega arith));
          alone = alone_on j w.alone (laws.serving (v j) (run j) w.serves);
          in_handler = rw (m, x);
          serves = laws.serve (v j) (run j) w.serves x;
          ticks = rw m (omega (arith, w.ticks));
        }

    within : (j : ℕ) → Within (suc t) → t < j → j ≤ r → Within j
    within zero w h b = absurd (omega arith)
    within (suc j) w h b =
        let h₁ : t ≤ j = omega arith in
        elim (eq-or-lt_of_le h₁) [ inl z ↦ subst (λ x. Within (suc x)) z w | inr l ↦ within_on j l b (within j w l (omega arith)) ]

    -- ---- from the RETI on: at place m, with b waits left
    record Leaving (m : Place) (b j : ℕ) : Type 0 where
      past : step.Past G j
      alone : Alone j
      leaves : place_at en re j ≡ m
      kept_back : kept (run j) ≡ kept (run t)
      sp_back : sp (run j) ≡ sp (run t)
      pc_back : pc (run j) ≡ pc (run t)
      waiting : busy (run j) ≡ b
      inhibits : inhibit (run j) ≡ true
      free : service (run j) ≡ false
      ticks : ticks_of j + t ≡ ticks_of t + j
      left_over : j + b ≡ r + 4

    left : Within r → Restored M v s t r → Leaving waits3 3 (suc r)
    unfolding iterated place_at handler_ticks walk counted
    left w k =
        let m = w.in_handler in
        let n = laws.enter (v t) (run t) e in
        let b = laws.reti (v r) (run r) f.here in
        let fits : sp (run t) < 65536 = omega (arith, k.lower, b.room) in
        let hi : sp (run r) + 1 ≡ sp (run t) - 1 = omega (arith, k.lower) in
        record {
          past = step.past_on G r w.past (not_end r w) (held_tick r (rw m) (omega (arith, f.later)) (omega arith));
          alone = alone_on r w.alone (laws.serving (v r) (run r) w.serves);
          leaves = rw (m, f.here);
          kept_back = b.kept' ∙ k.same;
          sp_back = b.sp' ∙ k.lower;
          pc_back = b.pc' ∙ rw (hi, k.lower, k.low, k.high, n.low fits, n.high fits) (omega arith);
          waiting = b.busy';
          inhibits = b.inhibit';
          free = b.service';
          ticks = rw m (omega (arith, w.ticks));
          left_over = omega arith;
        }

    leaving_on : (m m' : Place) (b j : ℕ) → ((e r : Bool) → walk m e r ≡ m') → ((e : Bool) → counted m e ≡ 1) → b < 4 → t ≤ j
        → Leaving m (suc b) j → Leaving m' b (suc j)
    unfolding iterated place_at handler_ticks
    leaving_on m m' b j g c small a l =
        let (_, no_entry, w) = laws.wait (v j) (run j) b l.waiting small in
        record {
          past = step.past_on G j l.past (λ a. omega (arith, a.ready, l.waiting)) (held_tick j (rw l.leaves (c _)) a (omega (arith, l.left_over)));
          alone = alone_on j l.alone no_entry;
          leaves = rw l.leaves (g _ _);
          kept_back = w.kept' ∙ l.kept_back;
          sp_back = w.sp' ∙ l.sp_back;
          pc_back = w.pc' ∙ l.pc_back;
          waiting = w.busy';
          inhibits = w.inhibit' ∙ l.inhibits;
          free = w.service' ∙ l.free;
          ticks = rw (l.leaves, c) (omega (arith, l.ticks));
          left_over = omega (arith, l.left_over);
        }

    abbrev over : ℕ
    over = suc (suc (suc (suc r)))

    gone : Leaving waits3 3 (suc r) → Leaving stretch 0 over
    unfolding walk counted
    gone l =
        let a = f.later in
        leaving_on waits1 stretch 0 (suc (suc (suc r))) (λ e r. refl) (λ e. refl) (omega arith) (omega arith)
        (leaving_on waits2 waits1 1 (suc (suc r)) (λ e r. refl) (λ e. refl) (omega arith) (omega arith)
        (leaving_on waits3 waits2 2 (suc r) (λ e r. refl) (λ e. refl) (omega arith) (omega arith) l))

    over_then : step.Over G t → Alone over → step.Over G over
    over_then o a u h x r' f' =
        elim (dec_lt u t) [
          | yes l ↦ omega (arith, o u l x r' f', f.later)
          | no l ↦ elim (dec_lt t u) [
            | yes l' ↦ clash (sym x ∙ a u h l')
            | no l' ↦ let z : u ≡ t = omega arith in omega (arith, reti_unique r' r (subst (λ u. FirstReti re u r') z f') f)
          ]
        ]

  -- ---- the whole handler, entered after k instructions: the plain run has not moved, and inhibit lets the next instruction run
  pub record Back (i k : ℕ) : Type 0 where
    pub at : ℕ
    pub link : step.Link G at i k
    pub ready : busy (run at) ≡ 0
    pub inhibits : inhibit (run at) ≡ true

  pub whole : (j i k : ℕ) → step.Link G j i k → k < n → busy (run j) ≡ 0 → en j ≡ true → Back i k
  whole j i k l h b e =
      let x = l.alike in
      let not_v : ¬ (step.End G (run j)) = λ a. omega (arith, a.there, x.here) in
      let y = handled j (step.not_yet G j l.past not_v) e in
      let r = y.at in
      let f = y.reti in
      let w = within j r e f r (entered j r e f l.past not_v l.in_stretch) f.later (omega arith) in
      let z = gone j r e f (left j r e f w y.restored) in
      record {
        at = over j r e f;
        link = record {
          past = z.past;
          over = over_then j r e f l.over z.alone;
          plain_past = l.plain_past;
          in_stretch = z.leaves;
          alike = record {
            same_kept = z.kept_back ∙ x.same_kept;
            same_sp = z.sp_back ∙ x.same_sp;
            same_busy = z.waiting ∙ sym b ∙ x.same_busy;
            here = z.pc_back ∙ x.here;
            plain_here = x.plain_here;
            free = z.free;
            plain_free = x.plain_free;
          };
          ticks = omega (arith, z.ticks, l.ticks);
          bound = omega (arith, z.waiting, l.bound);
        };
        ready = z.waiting;
        inhibits = z.inhibits;
      }
