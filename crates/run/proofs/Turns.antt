-- One turn of a run over a snapshot: a stretch, then a whole tick.
-- Assumes nothing.
use Rattle.std.proofs.Common.{◌≡◌, ℕ, ◌+◌, ◌-◌, ◌<◌, Bool, true, false, ◌||◌, eqb, eqb-true, is_some, Result, Ok, Err, IsOk, Fits, w8, List, length, get_or, take, drop, sym, refl, ap, ◌∙◌, arith, take-append-drop, length-take-le, take_all, subst, ◌⊎◌, inl, inr}
use native.Mathlib.Nat.{sub-zero}
use Rattle.std.proofs.lemmas.Bool.{eqb-false}
use Rattle.basis.specs.Bytes.{Bytes}
use Rattle.basis.proofs.Choice.{clash, test}
use Rattle.cores.specs.declared.Core.{Core}
use Rattle.cores.specs.State.{fresh_of, with_regs, with_pc, with_busy, with_inhibit, with_service, with_chip, Sound}
use Rattle.tick.specs.Tick.{Tick, number_of, refuses, stops, tick_of}
use Rattle.tick.specs.Offer.{Offer}
use Rattle.tick.specs.declared.Answer.{Answer}
use Rattle.tick.specs.declared.Answer.TheVariants.{Ran}
use Rattle.invariants.specs.Ticks.{Offered}
use Rattle.invariants.proofs.Ticks.{ticks_stay_in_range}
use Rattle.snapshot.specs.Snapshot.{core_of, said_read, read_of, said_write, write_of}
use Rattle.snapshot.specs.declared.Unreadable.{Unreadable}
use Rattle.snapshot.specs.declared.Unwritable.{Unwritable}
use Rattle.snapshot.specs.declared.Unwritable.TheVariants.{Length, Busy}
use Rattle.snapshot.proofs.RoundTrips.{written, reading_undoes_writing, writing_undoes_reading}
use Rattle.run.specs.Run.{Run, ended, after, run_of}
use Rattle.run.specs.Over.{said_by, tick_over, TickedOver, Stretches, rest_over, run_over, last_number, Advances}
use Rattle.run.proofs.Ends.{kept, last_kept}
use Rattle.run.proofs.Unroll.{unroll_spent, unroll_refused, unroll_stopped, unroll_on}
use Rattle.run.proofs.Stretched.{said, long, brief, front_bytes}

-- bytes, by their type
pub in_bytes : {s : List ℕ} → ((i : ℕ) → Fits w8 (get_or s i 0)) → Bytes s
in_bytes h = record { byte_lt = λ i. (h i).fits }

-- ---- the core that bytes say is one by its types
module _ (s : List ℕ) (b : Bytes s) (h : (read_of s).refusal ≡ 0) where
  taken_bytes : (i : ℕ) → get_or (take 32 s) i 0 < 256
  taken_bytes = front_bytes (take 32 s) (drop 32 s) (λ i. rw (take-append-drop 32 s) (b.byte_lt i))

  core_sound : Sound (core_of s)
  unfolding fresh_of with_regs with_pc with_busy with_inhibit with_service with_chip
  core_sound =
      let e = long s h in
      let high = b.byte_lt 33 in
      let low = b.byte_lt 34 in
      let sp_high = b.byte_lt 35 in
      let sp_low = b.byte_lt 36 in
      let busy = brief s h in
      record {
        count = length-take-le 32 s (omega arith);
        reg_lt = taken_bytes;
        sreg_lt = b.byte_lt 32;
        pc_lt = omega arith;
        sp_lt = omega arith;
        busy_le = omega arith;
      }

  pub said_sound : Sound (said_by s)
  said_sound = rw (said s h) core_sound

-- the core that was read, and one that is written
pub core_read : (s : List ℕ) {r : Result Core Unreadable} {k : Core} → said_read r ≡ read_of s → r ≡ Ok k → k ≡ said_by s
core_read s e f = ap (λ x. x.core) (sym (ap said_read f) ∙ e)

write_ok : (r : Result (Unit {0}) Unwritable) → said_write r ≡ 0 → IsOk r
write_ok (Ok x) h = refl
write_ok (Err Length) h = absurd (omega (arith, h))
write_ok (Err Busy) h = absurd (omega (arith, h))

-- ---- a whole tick
-- written into any 38 bytes
into : (k : Core) (s s' : List ℕ) → Sound k → length s ≡ 38 → length s' ≡ 38 → (write_of k s).bytes ≡ (write_of k s').bytes
into k s s' z e e' = ap (λ w. w.bytes) (written k s z.busy_le e ∙ sym (written k s' z.busy_le e'))

module _ (s p m : List ℕ) (o : Offer) (h : (read_of s).refusal ≡ 0) (bs : Bytes s) (bp : Bytes p) (bm : Bytes m) (f : Offered o) where
  next_sound : Sound (tick_over s p m o).core
  next_sound = (ticks_stay_in_range (said_by s) p m o (said_sound s bs h) bp bm f).core

  pub next_written : (r : Result (Unit {0}) Unwritable) {k : Core} → k ≡ (tick_over s p m o).core → said_write r ≡ (write_of k s).refusal → IsOk r
  next_written r e w = write_ok r (w ∙ ap (λ (k : Core). (write_of k s).refusal) e ∙ ap (λ w. w.refusal) (written (tick_over s p m o).core s next_sound.busy_le (long s h)))

  pub next_read : {s' : List ℕ} → s' ≡ (write_of (tick_over s p m o).core s).bytes → read_of s' ≡ record { refusal = 0; core = (tick_over s p m o).core }
  next_read e = ap read_of e ∙ reading_undoes_writing (tick_over s p m o).core s next_sound (long s h)

  pub next_into : {s' : List ℕ} (s₀ : List ℕ) → length s₀ ≡ 38 → s' ≡ (write_of (tick_over s p m o).core s).bytes → s' ≡ (write_of (tick_over s p m o).core s₀).bytes
  next_into s₀ l e = e ∙ into (tick_over s p m o).core s s₀ next_sound (long s h) l

-- ---- a turn of the loop
-- the run of b ticks from s₀ stands, with n of them done, at s
pub record Standing (b n : ℕ) (s₀ p m₀ s m : List ℕ) (o : Offer) : Type 0 where
  pub under : n < b
  pub read : (read_of s).refusal ≡ 0
  pub run : run_over b s₀ p m₀ o ≡ rest_over b n s p m o
  pub began : n ≡ 0 → (said_by s ≡ said_by s₀) × (m ≡ m₀)

neither : (a b : Bool) → (a || b) ≡ false → (a ≡ false) × (b ≡ false)
neither true b h = clash h
neither false b h = (refl, h)

-- the part of a program from its first byte
all : (p : List ℕ) → take (length p - 0) p ≡ p
all p = rw sub-zero (take_all (length p) p (omega arith))

-- a stretch from s₁ to s
module _ {b at n : ℕ} {s₀ p m₀ s₁ m₁ s m : List ℕ} {o : Offer} {on : Bool} (h₀ : (read_of s₀).refusal ≡ 0) (i : Standing b at s₀ p m₀ s₁ m₁ o)
    (e : on ≡ is_some o) (c : Stretches s₁ (take (length p - 0) p) m₁ on at b n s m) (bs : Bytes s) where
  went : Stretches s₁ p m₁ on at b n s m
  went = subst (λ (x : List ℕ). Stretches s₁ x m₁ on at b n s m) (all p) c

  h : (read_of s).refusal ≡ 0
  h = went.read

  stands : run_over b s₀ p m₀ o ≡ rest_over b n s p m o
  stands = i.run ∙ went.rest o (sym e)

  -- a run of one tick: the stretch did nothing, or that tick
  first : b ≡ 1 → (said_by s₀).busy ≡ 0 → ((n ≡ 0) × ((said_by s ≡ said_by s₀) × (m ≡ m₀))) ⊎ ((0 < n) × ((tick_over s₀ p m₀ o).answer ≡ Ran))
  first z f =
      let none : at ≡ 0 = omega (arith, i.under, z) in
      let began = i.began none in
      elim (went.first o (sym e) (ap (λ (k : Core). k.busy) began.0 ∙ f)) [
        | inl u ↦ inl (u.0 ∙ none, (u.1.0 ∙ began.0, u.1.1 ∙ began.1))
        | inr u ↦ inr (omega (arith, u.0), ap (λ (k : Core). (tick_of k p m₀ o).answer) (sym began.0) ∙ ap (λ (x : List ℕ). (tick_of (said_by s₁) p x o).answer) (sym began.1) ∙ u.1)
      ]

  -- the budget is spent
  pub turn_spent : n ≡ b → Advances s₀ p m₀ o b (record { answer = 18; ticks = b }) s m
  turn_spent l =
      let r = stands ∙ unroll_spent b n (said_by s) p m o (omega (arith, l)) in
      record {
        answer = sym (ap (λ x. x.answer) r);
        count = sym l ∙ sym (ap (λ x. x.count) r);
        snapshot = sym (ap (λ x. x.bytes) (writing_undoes_reading s s₀ bs h (long s₀ h₀))) ∙ sym (ap (λ x. (write_of x.core s₀).bytes) r);
        bytes = sym (ap (λ x. x.bytes) r);
        one = λ z f. elim (first z f) [ inl u ↦ absurd (omega (arith, l, z, u.0)) | inr u ↦ sym (ap number_of u.1) ];
      }

  -- and a whole tick from s to s'
  module _ (bp : Bytes p) (bm : Bytes m) (f : Offered o) {a : Answer} {s' m' : List ℕ} (d : TickedOver s (take (length p - 0) p) m o a s' m') (l : n ≡ b → ⊥) where
    abbrev t : Tick
    t = tick_over s p m o

    ticked : TickedOver s p m o a s' m'
    ticked = subst (λ (x : List ℕ). TickedOver s x m o a s' m') (all p) d

    near : n < b
    near = omega (arith, went.bounded, l)

    -- a test of the tick's answer, by that of the code's
    by : (test : Answer → Bool) {y : Bool} → test a ≡ y → test t.answer ≡ y
    by test z = ap test (sym ticked.answer) ∙ z

    -- of one tick: the run stands where it began
    one : b ≡ 1 → (said_by s₀).busy ≡ 0 → number_of a ≡ number_of (tick_over s₀ p m₀ o).answer
    one z g =
        elim (first z g) [
          | inl u ↦ ap number_of (ticked.answer ∙ ap (λ (k : Core). (tick_of k p m o).answer) u.1.0 ∙ ap (λ (x : List ℕ). (tick_of (said_by s₀) p x o).answer) u.1.1)
          | inr u ↦ absurd (omega (arith, near, z, u.0))
        ]

    -- the run ends by that tick
    ends : (r : Run) → run_over b s₀ p m₀ o ≡ r → r.core ≡ t.core → r.bytes ≡ t.bytes → kept t.answer ≡ r.answer
        → Advances s₀ p m₀ o b (record { answer = number_of a; ticks = r.count }) s' m'
    ends r z x y k =
        record {
          answer = ap (λ y. last_number (number_of y)) ticked.answer ∙ last_kept (said_by s) p m o ∙ k ∙ sym (ap (λ x. x.answer) z);
          count = sym (ap (λ x. x.count) z);
          snapshot = next_into s p m o h bs bp bm f s₀ (long s₀ h₀) ticked.snapshot ∙ ap (λ (k' : Core). (write_of k' s₀).bytes) (sym x) ∙ sym (ap (λ x. (write_of x.core s₀).bytes) z);
          bytes = ticked.bytes ∙ sym y ∙ sym (ap (λ x. x.bytes) z);
          one = one;
        }

    pub turn_refused : refuses a ≡ true → Advances s₀ p m₀ o b (record { answer = number_of a; ticks = n }) s' m'
    turn_refused x = let z = by refuses x in ends (ended n t) (stands ∙ unroll_refused b n (said_by s) p m o near z) refl refl (rw z)

    module _ (x : refuses a ≡ false) where
      stopped : stops a ≡ true → Advances s₀ p m₀ o b (record { answer = number_of a; ticks = n + 1 }) s' m'
      stopped y =
          let z = by refuses x in
          let v = by stops y in
          ends (ended (n + 1) t) (stands ∙ unroll_stopped b n (said_by s) p m o near z v) refl refl (rw (z, v))

      last : stops a ≡ false → n + 1 ≡ b → Advances s₀ p m₀ o b (record { answer = number_of a; ticks = n + 1 }) s' m'
      last y q =
          let z = by refuses x in
          let v = by stops y in
          ends (record { answer = 24; count = n + 1; core = t.core; bytes = t.bytes })
          (stands ∙ unroll_on b n (said_by s) p m o near z v ∙ unroll_spent b (n + 1) t.core p t.bytes o (omega (arith, q))) refl refl (rw (z, v))

      pub turn_ended : (stops a || eqb (n + 1) b) ≡ true → Advances s₀ p m₀ o b (record { answer = number_of a; ticks = n + 1 }) s' m'
      turn_ended y = test (stops a) stopped (λ v. last v (eqb-true (n + 1) b (ap (λ w. w || eqb (n + 1) b) (sym v) ∙ y)))

      pub turn_on : (stops a || eqb (n + 1) b) ≡ false → Standing b (n + 1) s₀ p m₀ s' m' o
      turn_on y =
          let (v, q) = neither (stops a) (eqb (n + 1) b) y in
          let next = next_read s p m o h bs bp bm f ticked.snapshot in
          record {
            under = omega (arith, near, eqb-false (n + 1) b q);
            read = ap (λ r. r.refusal) next;
            began = λ z. absurd (omega (arith, z));
            run =
                stands ∙ unroll_on b n (said_by s) p m o near (by refuses x) (by stops v)
                ∙ ap (λ (k : Core). after (n + 1) (run_of (b - (n + 1)) k p t.bytes o)) (sym (ap (λ r. r.core) next))
                ∙ ap (λ (x : List ℕ). rest_over b (n + 1) s' p x o) (sym ticked.bytes);
          }
