-- What the handlers leave is in range, by the shapes that they share: a core by its types but for busy, and data.
-- Assumes nothing.
use mathlib.Core.Path.{◌≡◌, refl, ◌∙◌}
use mathlib.Core.Bool.{Bool, true, false, beq}
use mathlib.Core.List.{List}
use Prim.Native.Nat.{ℕ, ◌+◌, ◌*◌, ◌/◌, ◌%◌, ◌<◌}
use native.Mathlib.Omega.{arith}
use lib.Dec.{eqb}
use lib.ListN.{get_or, set, length, length-set}
use Rattle.basis.specs.Bit.{one, up, down}
use Rattle.basis.proofs.Choice.{either}
use Rattle.basis.specs.Bytes.{Bytes}
use Rattle.alu.specs.Alu.{signed_of, halved_of, doubled_of}
use Rattle.alu.specs.declared.Sum.{Sum}
use Rattle.rule.specs.Rule.{load_waits, store_waits}
use Rattle.cores.specs.declared.Core.{Core}
use Rattle.cores.specs.State.{Out, reg, word, flag, with_reg, with_word, with_sreg, with_pc, with_sp, with_busy, with_service}
use Rattle.cores.specs.Arithmetic.{sum_flags, summed, resulted, multiplied, fractional}
use Rattle.cores.specs.Bits.{shifted}
use Rattle.cores.specs.Flow.{brbx_of, word_pushed, over_second, called, skipped, jumped, ret_of, reti_of}
use Rattle.cores.specs.Transfer.{data_of, set_data_of, pointed_of, word_if, ld_of, st_of, lds_of, lpm_of, pop_of, push_of, sts_of}
use Rattle.invariants.proofs.Bounds.{cz_lt, znvs_lt, cznvs_lt, cznvsh_lt, halved_lt}
use Rattle.invariants.proofs.Fits.{Fits, fits_reg, fits_sreg, fits_pc, fits_sp, fits_busy, fits_inhibit, fits_service, fits_word, reg_word_lt, bytes_set}

-- a core and data in range, the data of the length that it had
pub record OutFits (k : Core) (m before : List ℕ) : Type 0 where
  pub core : Fits k
  pub bytes : Bytes m
  pub same_length : length m ≡ length before

-- no byte stored
pub unstored : {k : Core} {m : List ℕ} → Bytes m → Fits k → OutFits k m m
unstored b f = record { core = f; bytes = b; same_length = refl }

-- one byte stored
pub stored : (k : Core) (m : List ℕ) (at v : ℕ) → Bytes m → v < 256 → Fits k → OutFits k (set m at v) m
stored k m at v b h f = record { core = f; bytes = bytes_set m at v b h; same_length = length-set m at v }

module _ (k : Core) (f : Fits k) where
  -- ---- a register and flags
  pub fits_summed : (d : ℕ) (x : Sum) (z : Bool) → x.value < 256 → Fits (summed k d x z)
  fits_summed d x z h = fits_sreg (with_reg k d x.value) (fits_reg k f d x.value h) (sum_flags k x z) (cznvsh_lt k.sreg f.sreg_lt _ _ _ _ _)

  pub fits_resulted : (d x : ℕ) (v : Bool) → x < 256 → Fits (resulted k d x v)
  fits_resulted d x v h = fits_sreg (with_reg k d x) (fits_reg k f d x h) _ (znvs_lt k.sreg f.sreg_lt _ _ _)

  pub fits_shifted : (d : ℕ) (top : Bool) → Fits (shifted k d top)
  fits_shifted d top =
      let x = halved_of (reg k d) top in
      fits_sreg (with_reg k d x) (fits_reg k f d x (halved_lt (reg k d) top (f.reg_lt d))) _ (cznvs_lt k.sreg f.sreg_lt _ _ _ _)

  -- ---- a word and flags, with one wait
  pub fits_flagged_word : (d v s : ℕ) → v < 65536 → s < 256 → Fits (with_sreg (with_word (with_busy k 1) d v) s)
  fits_flagged_word d v s h g = fits_sreg (with_word (with_busy k 1) d v) (fits_word (with_busy k 1) (fits_busy k f 1) d v h) s g

  pub fits_multiplied : (p : ℕ) → p < 65536 → Fits (multiplied k p)
  fits_multiplied p h = fits_flagged_word 0 p _ h (cz_lt k.sreg f.sreg_lt _ _)

  pub fits_fractional : (p : ℕ) → Fits (fractional k p)
  fits_fractional p = fits_flagged_word 0 (doubled_of p) _ (omega arith) (cz_lt k.sreg f.sreg_lt _ _)

  -- ---- flow
  pub fits_jumped : (t n : ℕ) → t < 65536 → Fits (jumped k t n)
  fits_jumped t n h = fits_pc (with_busy k n) (fits_busy k f n) t h

  pub fits_branch : (s o : ℕ) (on : Bool) → Fits (brbx_of k s o on)
  unfolding brbx_of
  fits_branch s o on =
      let t = up k.pc (signed_of o) in
      either Fits (beq (flag k s) on) (with_busy (with_pc k t) 1) k (fits_busy (with_pc k t) (fits_pc k f t (omega arith)) 1) f

  pub fits_skip : (taken two : Bool) → Fits (skipped k taken two)
  unfolding skipped
  fits_skip taken two =
      let n = 1 + one two in
      let t = up k.pc n in
      either Fits taken (with_busy (with_pc k t) n) k (fits_busy (with_pc k t) (fits_pc k f t (omega arith)) n) f

  pub fits_over_second : Fits (over_second k)
  fits_over_second = fits_pc k f (up k.pc 1) (omega arith)

  -- ---- pointers
  pub pointed_lt : (p : ℕ) (dec : Bool) → pointed_of k p dec < 65536
  unfolding pointed_of
  pointed_lt p dec = either (λ a. a < 65536) dec (down (word k p) 1) (word k p) (omega arith) (reg_word_lt k f p)

  pub fits_word_if : (on : Bool) (p v : ℕ) → v < 65536 → Fits (word_if k on p v)
  unfolding word_if
  fits_word_if on p v h = either Fits on (with_word k p v) k (fits_word k f p v h) f

  -- ---- data m
  module _ (m : List ℕ) (b : Bytes m) where
    pub data_lt : (at : ℕ) → data_of k at m < 256
    unfolding data_of
    data_lt at =
        let P : ℕ → Type 0 = λ x. x < 256 in
        let g = f.sp_lt in
        either P (eqb at 0x3F) _ _ f.sreg_lt (either P (eqb at 0x3E) _ _ (omega arith) (either P (eqb at 0x3D) _ _ (omega arith) (b.byte_lt at)))

    pub set_data_leaves : (at v : ℕ) → v < 256 → OutFits (set_data_of k at v m).core (set_data_of k at v m).bytes m
    unfolding set_data_of
    set_data_leaves at v h =
        let P : Out → Type 0 = λ o. OutFits o.core o.bytes m in
        let g = f.sp_lt in
        let high = v * 256 + k.sp % 256 in
        let low = k.sp / 256 * 256 + v in
        either P (eqb at 0x3F) _ _ (unstored b (fits_sreg k f v h))
        (either P (eqb at 0x3E) _ _ (unstored b (fits_sp k f high (omega arith)))
        (either P (eqb at 0x3D) _ _ (unstored b (fits_sp k f low (omega arith))) (stored k m at v b h f)))

    pub word_pushed_leaves : (v : ℕ) → v < 65536 → OutFits (word_pushed k v m).core (word_pushed k v m).bytes m
    word_pushed_leaves v h =
        let low = set m k.sp (v % 256) in
        record {
          core = fits_sp k f (down k.sp 2) (omega arith);
          bytes = bytes_set low (down k.sp 1) (v / 256) (bytes_set m k.sp (v % 256) b (omega arith)) (omega arith);
          same_length = length-set low (down k.sp 1) (v / 256) ∙ length-set m k.sp (v % 256);
        }

    pub fits_ret : Fits (ret_of k m)
    fits_ret =
        let sp = up k.sp 2 in
        let low = b.byte_lt (up k.sp 2) in
        let high = b.byte_lt (up k.sp 1) in
        fits_pc (with_sp (with_busy k 3) sp) (fits_sp (with_busy k 3) (fits_busy k f 3) sp (omega arith)) _ (omega arith)

    pub fits_reti : Fits (reti_of k m)
    fits_reti = fits_inhibit (with_service (ret_of k m) false) (fits_service (ret_of k m) fits_ret false) true

-- ---- loads and stores
pub fits_lpm : (k : Core) → Fits k → (d : ℕ) (inc : Bool) (p : List ℕ) → Bytes p → Fits (lpm_of k d inc p)
fits_lpm k f d inc p c =
    let x = get_or p (word k 30) 0 in
    fits_word_if (with_reg (with_busy k 2) d x) (fits_reg (with_busy k 2) (fits_busy k f 2) d x (c.byte_lt (word k 30))) inc 30 (up (word k 30) 1) (omega arith)

module _ (k : Core) (f : Fits k) (m : List ℕ) (b : Bytes m) where
  pub fits_lds : (d at : ℕ) → Fits (over_second (lds_of k d at m))
  fits_lds d at = let j = lds_of k d at m in fits_over_second j (fits_reg (with_busy k 2) (fits_busy k f 2) d (data_of k at m) (data_lt k f m b at))

  pub fits_ld : (d p q : ℕ) (dec inc : Bool) → Fits (ld_of k d p q dec inc m)
  fits_ld d p q dec inc =
      let at = pointed_of k p dec in
      let n = load_waits k.chip in
      let k₁ = word_if (with_busy k n) dec p at in
      let f₁ = fits_word_if (with_busy k n) (fits_busy k f n) dec p at (pointed_lt k f p dec) in
      let x = data_of k₁ (at + q) m in
      fits_word_if (with_reg k₁ d x) (fits_reg k₁ f₁ d x (data_lt k₁ f₁ m b (at + q))) inc p (up at 1) (omega arith)

  pub fits_pop : (d : ℕ) → Fits (pop_of k d m)
  fits_pop d =
      let sp = up k.sp 1 in
      let k₁ = with_sp (with_busy k 1) sp in
      let f₁ = fits_sp (with_busy k 1) (fits_busy k f 1) sp (omega arith) in
      fits_reg k₁ f₁ d (data_of k₁ sp m) (data_lt k₁ f₁ m b sp)

  pub st_leaves : (r p q : ℕ) (dec inc : Bool) → OutFits (st_of k r p q dec inc m).core (st_of k r p q dec inc m).bytes m
  st_leaves r p q dec inc =
      let at = pointed_of k p dec in
      let n = store_waits k.chip in
      let k₁ = word_if (with_busy k n) dec p at in
      let f₁ = fits_word_if (with_busy k n) (fits_busy k f n) dec p at (pointed_lt k f p dec) in
      let o = set_data_of k₁ (at + q) (reg k₁ r) m in
      let l = set_data_leaves k₁ f₁ m b (at + q) (reg k₁ r) (f₁.reg_lt r) in
      record { core = fits_word_if o.core l.core inc p (up at 1) (omega arith); bytes = l.bytes; same_length = l.same_length }

  pub sts_leaves : (r at : ℕ) → OutFits (over_second (sts_of k r at m).core) (sts_of k r at m).bytes m
  sts_leaves r at =
      let l = set_data_leaves (with_busy k 1) (fits_busy k f 1) m b at (reg k r) (f.reg_lt r) in
      record { core = fits_over_second (sts_of k r at m).core l.core; bytes = l.bytes; same_length = l.same_length }

  pub push_leaves : (r : ℕ) → OutFits (push_of k r m).core (push_of k r m).bytes m
  push_leaves r =
      let o = set_data_of k k.sp (reg k r) m in
      let l = set_data_leaves k f m b k.sp (reg k r) (f.reg_lt r) in
      record { core = fits_sp o.core l.core (down o.core.sp 1) (omega arith); bytes = l.bytes; same_length = l.same_length }

  pub called_leaves : (back t n : ℕ) → back < 65536 → t < 65536 → OutFits (called k back t n m).core (called k back t n m).bytes m
  called_leaves back t n g h =
      let o = word_pushed (with_busy k n) back m in
      let l = word_pushed_leaves (with_busy k n) (fits_busy k f n) m b back g in
      record { core = fits_pc o.core l.core t h; bytes = l.bytes; same_length = l.same_length }
