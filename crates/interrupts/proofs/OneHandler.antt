-- A run with one handler, by computed tests: what demand 3 assumes follows from a test at each tick, and from what the handler put back.
-- Assumes nothing.
use mathlib.Core.Path.{◌≡◌, refl, sym, ◌∙◌, subst}
use mathlib.Core.Bool.{Bool, true, false, not, ◌&&◌, beq}
use mathlib.Core.List.{List, [], ◌∷◌}
use Prim.Native.Nat.{ℕ, suc, ◌+◌, ◌-◌, ◌≤◌, ◌<◌}
use native.Mathlib.Decide.{dec_lt}
use native.Mathlib.Omega.{arith}
use borrow.Author.Tests.{eq-eqb, ne_eqb, eqb-true}
use lib.Dec.{T, T_not, eqb, eqb→eq, leb, leb→le}
use Rattle.basis.proofs.Both.{both_left, both_right}
use Rattle.basis.proofs.Every.{every, at}
use Rattle.basis.proofs.Choice.{same}
use Rattle.interrupts.specs.Handlers.{First, FirstReti}
use Rattle.interrupts.specs.Interrupts.{State, Offers, pc, sp, byte_at, after, number_at, enters, returns, Ended, Restored, Begins, Assumed, AssumedTo}
use Rattle.interrupts.proofs.Logic.{reti_unique}

-- two lists of numbers are the same, as a test
abbrev pub same_list : List ℕ → List ℕ → Bool
same_list [] [] = true
same_list [] (y ∷ l) = false
same_list (x ∷ k) [] = false
same_list (x ∷ k) (y ∷ l) = eqb x y && same_list k l

pub same_list_lem : (k l : List ℕ) → T (same_list k l) → k ≡ l
same_list_lem [] [] t = refl
same_list_lem [] (y ∷ l) t = absurd t
same_list_lem (x ∷ k) [] t = absurd t
same_list_lem (x ∷ k) (y ∷ l) t = cc (eqb→eq x y (both_left (eqb x y) (same_list k l) t), same_list_lem k l (both_right (eqb x y) (same_list k l) t))

denied : (b : Bool) → T (not b) → b ≡ false
denied true t = absurd t
denied false t = refl

module _ (p : List ℕ) (s : State) where
  -- what is put back before tick r, of an entry at tick t, but for SREG
  pub record PutBack (v : Offers) (t r : ℕ) : Type 0 where
    pub regs : T (same_list (after p s v r).core.regs (after p s v t).core.regs)
    pub lower : T (eqb (sp (after p s v r) + 2) (sp (after p s v t)))
    pub low : T (eqb (byte_at (after p s v r) (sp (after p s v t))) (byte_at (after p s v (suc t)) (sp (after p s v t))))
    pub high : T (eqb (byte_at (after p s v r) (sp (after p s v t) - 1)) (byte_at (after p s v (suc t)) (sp (after p s v t) - 1)))

  pub restored_of : (v : Offers) (t r : ℕ) → PutBack v t r → T (eqb (after p s v r).core.sreg (after p s v t).core.sreg) → Restored p s v t r
  restored_of v t r b sreg =
      record {
        same = cc (same_list_lem (after p s v r).core.regs (after p s v t).core.regs b.regs, eqb→eq (after p s v r).core.sreg (after p s v t).core.sreg sreg);
        lower = eqb→eq _ _ b.lower;
        low = eqb→eq _ _ b.low;
        high = eqb→eq _ _ b.high;
      }

module _ (p : List ℕ) (s : State) (n : ℕ) where
  abbrev pub end_test : Offers → ℕ → Bool
  end_test v t = let k = (after p s v t).core in eqb k.pc (pc s + n) && (eqb k.busy 0 && not k.in_service)

  test_of : (v : Offers) (t : ℕ) → Ended p s n v t → T (end_test v t)
  test_of v t a = rw (eq-eqb (pc (after p s v t)) (pc s + n) a.there, eq-eqb (after p s v t).core.busy 0 a.ready, a.free) tt

  pub ended_of : (v : Offers) (t : ℕ) → T (end_test v t) → Ended p s n v t
  ended_of v t x =
      let k = (after p s v t).core in
      let there = eqb k.pc (pc s + n) in
      let ready = eqb k.busy 0 in
      let free = not k.in_service in
      let y = both_right there (ready && free) x in
      record {
        there = eqb→eq k.pc (pc s + n) (both_left there (ready && free) x);
        ready = eqb→eq k.busy 0 (both_left ready free y);
        free = denied k.in_service (both_right ready free y);
      }

  pub first_of : (v : Offers) (J : ℕ) → T (end_test v J) → T (every J (λ t. not (end_test v t))) → First (Ended p s n v) J
  first_of v J x tests =
      record {
        reached = ended_of v J x;
        not_before = λ u h y. T_not (end_test v u) (at (λ t. not (end_test v t)) J tests u h) (test_of v u y);
      }

  -- at the end first after J ticks, no tick refused, the one entry at tick e and the one RETI at tick r
  pub record Walked (v : Offers) (J e r : ℕ) : Type 0 where
    pub ended : T (end_test v J)
    pub not_yet : T (every J (λ t. not (end_test v t)))
    pub allowed : T (every J (λ t. leb 16 (number_at p s v t)))
    pub entry : T (every J (λ t. beq (enters p s v t) (eqb t e)))
    pub reti : T (every J (λ t. beq (returns p s v t) (eqb t r)))
    pub e_r : e < r
    pub r_J : r < J

  module _ {v : Offers} {J e r : ℕ} (w : Walked v J e r) where
    pub walked_first : First (Ended p s n v) J
    walked_first = first_of v J w.ended w.not_yet

    pub walked_allowed : (t : ℕ) → t < J → 16 ≤ number_at p s v t
    walked_allowed t h = leb→le 16 (number_at p s v t) (at (λ t. leb 16 (number_at p s v t)) J w.allowed t h)

    entered_at : (t : ℕ) → t < J → enters p s v t ≡ true → t ≡ e
    entered_at t h x =
        eqb-true t e (sym (same (enters p s v t) (eqb t e) (at (λ t. beq (enters p s v t) (eqb t e)) J w.entry t h)) ∙ x)

    returns_at : (t : ℕ) → t < J → returns p s v t ≡ eqb t r
    returns_at t h = same (returns p s v t) (eqb t r) (at (λ t. beq (returns p s v t) (eqb t r)) J w.reti t h)

    pub walked_reti : FirstReti (returns p s v) e r
    walked_reti =
        let h = w.r_J in
        record { later = w.e_r; here = returns_at r h ∙ eq-eqb r r refl; not_between = λ u a b. returns_at u (omega arith) ∙ ne_eqb u r (omega arith) }

    before_end : (t : ℕ) → ((u : ℕ) → u ≤ t → ¬ (Ended p s n v u)) → t < J
    before_end t b = elim (dec_lt t J) [ yes h ↦ h | no h ↦ absurd (b J (omega arith) (ended_of v J w.ended)) ]

    module _ (b : Begins p s n) (back : Restored p s v e r) where
      pub walked_assumed : Assumed p s n v
      walked_assumed =
          record {
            begins = b;
            allowed = λ t y. walked_allowed t (before_end t y);
            handled = λ t y x. rw (entered_at t (before_end t y) x) (record { at = r; reti = walked_reti; restored = back });
          }

      pub walked_assumed_to : AssumedTo p s n v J
      walked_assumed_to =
          record {
            begins = b;
            first = walked_first;
            allowed = walked_allowed;
            restored = λ t r' h x f.
                let l = f.later in
                let z = entered_at t (omega arith) x in
                let y = reti_unique r' r (subst (λ t. FirstReti (returns p s v) t r') z f) walked_reti in
                rw (z, y) back;
          }
