-- A stretch over a snapshot: the core that its bytes say, in parts, and the core that is left in them.
-- Assumes nothing.
use Rattle.std.proofs.Common.{◌≡◌, ℕ, zero, suc, ◌+◌, ◌-◌, ◌*◌, ◌/◌, ◌%◌, ◌<◌, ◌≤◌, Bool, eqb, ltb, ◌⊎◌, List, [], ◌∷◌, ◌++◌, length, get_or, take, drop, sym, refl, ap, ◌∙◌, inl, inr, arith, length-append, length-drop, take-append-drop, length-take-le, take_at, ltb-false, ltb-true, lt-ltb, eqb-true}
use Rattle.basis.specs.Pick.{pick}
use Rattle.basis.specs.Bit.{one}
use Rattle.basis.specs.Bytes.{Bytes}
use Rattle.basis.proofs.Choice.{test, cases}
use Rattle.cores.specs.declared.Core.{Core}
use Rattle.cores.specs.State.{fresh_of, with_regs, with_sp, with_pc, with_busy, with_inhibit, with_service, with_chip, Sound}
use Rattle.tick.specs.Tick.{tick_of}
use Rattle.tick.specs.Offer.{Offer}
use Rattle.tick.specs.declared.Answer.TheVariants.{Ran}
use Rattle.effects.specs.Parts.{stood, cored}
use Rattle.snapshot.specs.Snapshot.{bytes_of, core_of, read_of}
use Rattle.snapshot.proofs.RoundTrips.{reads, read_is, read_back, at_tail}
use Rattle.snapshot.proofs.Fields.{busy_read}
use Rattle.run.specs.Run.{after, run_of}
use Rattle.run.specs.Lent.{offers, rest_of, went_to, Goes}
use Rattle.run.specs.declared.go.Gone.{Gone}
use Rattle.run.specs.Settling.{word_at, six}
use Rattle.run.specs.Over.{said_by, tick_over, rest_over, Stretches}
use Rattle.run.proofs.Unroll.{unroll_spent}
use Rattle.run.proofs.Waits.{waits_out, busy_kept}

-- ---- a snapshot that is read
-- a flag of the last byte
abbrev flag_at : List ℕ → ℕ → Bool
flag_at s unit = eqb (get_or s 37 0 / unit % 2) 1

-- the core of its bytes in parts, when its waits are over
abbrev pub begins : List ℕ → Core
begins s = cored (take 32 s) (stood (word_at s 33) (word_at s 35) (get_or s 32 0) 0 (flag_at s 16) (flag_at s 8)) (flag_at s 4)

in_parts : (s : List ℕ) → with_busy (core_of s) 0 ≡ begins s
unfolding fresh_of with_regs with_sp with_pc with_busy with_inhibit with_service with_chip
in_parts s = refl

module _ (s : List ℕ) (h : (read_of s).refusal ≡ 0) where
  pub long : length s ≡ 38
  long = eqb-true (length s) 38 (reads 4 core_of s h).long

  pub brief : get_or s 37 0 / 32 ≤ 4
  brief = ltb-false 4 (get_or s 37 0 / 32) (reads 4 core_of s h).brief

  pub said : said_by s ≡ core_of s
  said = ap (λ r. r.core) (read_is 4 core_of s (reads 4 core_of s h))

  pub said_busy : (said_by s).busy ≡ get_or s 37 0 / 32
  said_busy = ap (λ (k : Core). k.busy) said ∙ busy_read s

  said_begins : with_busy (said_by s) 0 ≡ begins s
  said_begins = ap (λ (k : Core). with_busy k 0) said ∙ in_parts s

-- ---- a snapshot whose registers were lent
-- bytes of a list are those of its front
pub front_bytes : (rs t : List ℕ) → ((i : ℕ) → get_or (rs ++ t) i 0 < 256) → (i : ℕ) → get_or rs i 0 < 256
front_bytes [] t h i = omega arith
front_bytes (x ∷ rs) t h zero = h 0
front_bytes (x ∷ rs) t h (suc i) = front_bytes rs t (λ j. h (suc j)) i

-- what is behind the registers is as it was
module _ (rs s : List ℕ) (n : length rs ≡ 32) (e : length s ≡ 38) where
  byte_kept : (i : ℕ) → get_or (rs ++ drop 32 s) (32 + i) 0 ≡ get_or s (32 + i) 0
  byte_kept i =
      let t : length (take 32 s) ≡ 32 = length-take-le 32 s (omega arith) in
      at_tail rs (drop 32 s) n i ∙ sym (at_tail (take 32 s) (drop 32 s) t i) ∙ ap (λ (l : List ℕ). get_or l (32 + i) 0) (take-append-drop 32 s)

  pub long_kept : length (rs ++ drop 32 s) ≡ 38
  long_kept = rw (length-append, length-drop) (omega arith)

  pub sp_kept : word_at s 35 ≡ word_at (rs ++ drop 32 s) 35
  sp_kept = rw (byte_kept 3, byte_kept 4)

-- ---- a snapshot that is left
-- registers rs before the rest of s, and six bytes
module _ (rs s : List ℕ) (sreg pc sp busy : ℕ) (i v c : Bool) where
  abbrev leaves : Core
  leaves = cored rs (stood pc sp sreg busy i v) c

  left_bytes : length rs ≡ 32 → take 32 (rs ++ drop 32 s) ++ six sreg pc sp (busy * 32 + (one i * 16 + one v * 8 + one c * 4)) ≡ bytes_of leaves
  unfolding fresh_of with_regs with_sp with_pc with_busy with_inhibit with_service with_chip
  left_bytes n =
      let last : busy * 32 + (one i * 16 + one v * 8 + one c * 4) ≡ busy * 32 + one i * 16 + one v * 8 + one c * 4 = omega arith in
      rw (take_at rs (drop 32 s) 32 n, last)

  left_sound : length rs ≡ 32 → Bytes rs → sreg < 256 → pc < 65536 → sp < 65536 → busy ≤ 4 → Sound leaves
  unfolding fresh_of with_regs with_sp with_pc with_busy with_inhibit with_service with_chip
  left_sound n b x y z w = record { count = n; reg_lt = b.byte_lt; sreg_lt = x; pc_lt = y; sp_lt = z; busy_le = w }

-- ---- the rest of the run
-- from the tick `at`, where k waits no longer; where the budget ends before, it waits
rest_done : (b at : ℕ) (k : Core) (p m : List ℕ) (o : Offer) → k.busy ≡ 0
    → rest_of b at k p m o ≡ (let done = pick (ltb at b) at b in after done (run_of (b - done) (with_busy k (at - b)) p m o))
unfolding with_busy
rest_done b at k p m o e =
    test (ltb at b)
    (λ t. let h = ltb-true at b t in
    let none : at - b ≡ 0 = omega (arith, h) in
    rw (t, none, ← e))
    (λ t. rw t (sym (unroll_spent b b (with_busy k (at - b)) p m o (omega arith))))

-- what a stretch leaves, by what `go` gave and what is left in the snapshot
module _ (s p m : List ℕ) (on : Bool) (at b : ℕ) (g : Gone) (rs m' : List ℕ) where
  abbrev pub went_in : Type 0
  went_in = Goes (begins s) (at + get_or s 37 0 / 32) p m on (flag_at s 4) b g rs m'

  -- the bytes left
  abbrev pub left_in : List ℕ
  left_in = take 32 (rs ++ drop 32 s) ++ six g.sreg g.pc g.sp ((g.at - b) * 32 + (one g.inhibit * 16 + one g.in_service * 8 + one (flag_at s 4) * 4))

  module _ (h : (read_of s).refusal ≡ 0) (l : at < b) (w : went_in) (n : length rs ≡ 32) (f : Bytes rs) (x : g.sreg < 256) (y : g.pc < 65536) (z : g.sp < 65536) where
    abbrev waiting : Core
    waiting = leaves rs s g.sreg g.pc g.sp (g.at - b) g.inhibit g.in_service (flag_at s 4)

    pub bounded : g.at ≤ b + 4
    bounded = w.bounded (omega (arith, brief s h))

    left_read : read_of left_in ≡ record { refusal = 0; core = waiting }
    left_read =
        ap read_of (left_bytes rs s g.sreg g.pc g.sp (g.at - b) g.inhibit g.in_service (flag_at s 4) n)
        ∙ read_back waiting
        (left_sound rs s g.sreg g.pc g.sp (g.at - b) g.inhibit g.in_service (flag_at s 4) n f x y z (omega (arith, bounded)))

    went_waits : with_busy (went_to rs g (flag_at s 4)) (g.at - b) ≡ waiting
    unfolding fresh_of with_regs with_sp with_pc with_busy with_inhibit with_service with_chip
    went_waits = refl

    went_free : (went_to rs g (flag_at s 4)).busy ≡ 0
    unfolding fresh_of with_regs with_sp with_pc with_busy with_inhibit with_service with_chip
    went_free = refl

    rest_left : (o : Offer) → offers o ≡ on → (let done = pick (ltb g.at b) g.at b in rest_over b at s p m o ≡ after done (run_of (b - done) waiting p m' o))
    rest_left o e =
        waits_out (get_or s 37 0 / 32) b at (said_by s) p m o (said_busy s h) (brief s h) (omega arith)
        ∙ ap (λ (k : Core). rest_of b (at + get_or s 37 0 / 32) k p m o) (said_begins s h)
        ∙ w.rest o e
        ∙ rest_done b g.at (went_to rs g (flag_at s 4)) p m' o went_free
        ∙ (let done = pick (ltb g.at b) g.at b in ap (λ (k : Core). after done (run_of (b - done) k p m' o)) went_waits)

    -- a core that did not wait: untouched, or its first tick was a plain instruction
    first_tick : (o : Offer) → offers o ≡ on → (said_by s).busy ≡ 0
        → (let done = pick (ltb g.at b) g.at b in ((done ≡ at) × ((waiting ≡ said_by s) × (m' ≡ m))) ⊎ ((at < done) × ((tick_over s p m o).answer ≡ Ran)))
    first_tick o e f =
        let none : get_or s 37 0 / 32 ≡ 0 = sym (said_busy s h) ∙ f in
        let begun : begins s ≡ said_by s = sym (said_begins s h) ∙ busy_kept (said_by s) 0 f in
        elim (w.first o e) [
          | inl u ↦
              let same : g.at ≡ at = omega (arith, u.0, none) in
              let short = lt-ltb g.at b (omega (arith, same, l)) in
              let spare : g.at - b ≡ 0 = omega (arith, same, l) in
              inl (rw short same, (sym went_waits ∙ ap (with_busy (went_to rs g (flag_at s 4))) spare ∙ busy_kept (went_to rs g (flag_at s 4)) 0 went_free ∙ u.1.0 ∙ begun, u.1.1))
          | inr u ↦
              inr (
                cases (λ (d : ℕ). at < d) (ltb g.at b) g.at b (λ t. omega (arith, u.0)) (λ t. omega (arith, l)),
                ap (λ (k : Core). (tick_of k p m o).answer) (sym begun) ∙ u.1,
              )
        ]

    pub stretched : {done : ℕ} {s' : List ℕ} → done ≡ pick (ltb g.at b) g.at b → s' ≡ left_in → Stretches s p m on at b done s' m'
    stretched {done} {s'} d e =
        let read : read_of s' ≡ record { refusal = 0; core = waiting } = ap read_of e ∙ left_read in
        let between : (at ≤ done) × (done ≤ b) =
        rw d (cases (λ (x : ℕ). (at ≤ x) × (x ≤ b)) (ltb g.at b) g.at b (λ t. (omega (arith, w.onward), omega (arith, ltb-true g.at b t))) (λ t. (omega arith, omega arith))) in
        record {
          read = ap (λ r. r.refusal) read;
          onward = between.0;
          bounded = between.1;
          rest = λ o t. rest_left o t ∙ rw (← d, ← ap (λ r. r.core) read);
          first = λ o t u. rw (d, ap (λ r. r.core) read) (first_tick o t u);
        }
