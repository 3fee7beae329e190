-- The form of a word by the table is the form of what it decodes to.
-- Assumes nothing.
use mathlib.Core.Bool.{Bool, true, false}
use mathlib.Core.Path.{◌≡◌, refl, sym, ap, ◌∙◌}
use Prim.Native.Nat.{ℕ, zero, suc, ◌+◌, ◌/◌, ◌%◌, ◌<◌, ◌≤◌}
use native.Mathlib.Nat.{add-zero, zero-add, not-suc-le-zero, le_of_suc-le-suc}
use native.Mathlib.Omega.{arith}
use lib.Dec.{T, eqb, eqb→eq, ltb, ltb→lt}
use lib.ListN.{length, get_or, get_or-eq_default}
use borrow.Author.Tests.{ltb-true, ltb-false, ne_eqb}
use Rattle.basis.specs.Pick.{pick}
use Rattle.basis.proofs.Choice.{test}
use Rattle.basis.proofs.Every.{every, at}
use Rattle.instruction.specs.Decode.{decode_of, nop_to_add_of, mulsu_to_fmulsu_of, cpse_to_adc_of, and_to_mov_of, immediate_of, displaced_of, load_of, store_of, one_register_of, control_of, indirect_of, word_immediate_of, port_bit_of, port_of, relative_of, branch_or_bit_of, register_bit_of, ranges}
use Rattle.instruction.specs.declared.Instruction.{Instruction}
use Rattle.instruction.specs.declared.Instruction.TheVariants.{UNDEF}
use Rattle.instruction.proofs.Cases.{past}
use Rattle.instruction.proofs.Tests.{each}
use Rattle.forms.specs.Forms.{form, form_of, mark, index, entry_at, further_of, form_by}
use Rattle.forms.proofs.Alone.{form_alone}
use Rattle.form_table.specs.Rule.{word_at, all_are, entry_of, entries_from, table_of}

-- ---- forms
-- no form is the mark
unmarked : (op : Instruction) → eqb (form op) mark ≡ false
unmarked op =
    let low = ltb→lt (form op) 87 (each (λ op. ltb (form op) 87) (λ a b. tt) tt op) in
    ne_eqb (form op) mark (λ e. omega (arith, low, e))

-- ---- entries
listed : (i n k d : ℕ) → k < n → get_or (entries_from i n) k d ≡ entry_of (i + k)
listed i zero k d h = absurd (not-suc-le-zero h)
listed i (suc n) zero d h = rw (add-zero i)
listed i (suc n) (suc k) d h = let e : suc i + k ≡ i + suc k = omega arith in rw (← e) (listed (suc i) n k d (le_of_suc-le-suc h))

counted : (i n : ℕ) → length (entries_from i n) ≡ n
counted i zero = refl
counted i (suc n) = ap suc (counted (suc i) n)

-- ---- words
index_lt : (w : ℕ) → w < 65536 → index w < 4096
index_lt w h = omega arith

-- a word is the one with its index and its remaining bits
word_again : (w : ℕ) → word_at (index w) (w / 16 % 16) ≡ w
word_again w =
    let high : index w / 16 ≡ w / 256 = omega arith in
    let low : index w % 16 ≡ w % 16 = omega arith in
    rw (high, low) (omega arith)

-- ---- the computed test
-- the further look gives the word with that index and those remaining bits its form
abbrev further_right : ℕ → ℕ → Bool
further_right i b = eqb (further_of (word_at i b)) (form_of (word_at i b))

-- where the sixteen words with an index have more than one form, it gives each its own
looked_further : ℕ → Bool
unfolding decode_of nop_to_add_of mulsu_to_fmulsu_of cpse_to_adc_of and_to_mov_of immediate_of displaced_of load_of store_of one_register_of control_of indirect_of word_immediate_of port_bit_of port_of relative_of branch_or_bit_of register_bit_of further_of
looked_further i = pick (all_are (form_of (word_at i 0)) i 16) true (every 16 (further_right i))

all_looked_further : T (every 4096 looked_further)
unfolding looked_further
all_looked_further = tt

-- ---- a word below 65,536
module _ (w : ℕ) (h : w < 65536) where
  abbrev i : ℕ
  i = index w

  abbrev b : ℕ
  b = w / 16 % 16

  abbrev f : ℕ
  f = form_of (word_at i 0)

  b_lt : b < 16
  b_lt = omega arith

  entry_is : entry_at table_of w ≡ entry_of i
  unfolding table_of
  entry_is = listed 0 4096 i (form UNDEF) (index_lt w h) ∙ ap entry_of (zero-add i)

  -- one form: the word has it
  one_form : T (all_are f i 16) → form_of w ≡ f
  one_form t =
      let e = eqb→eq (form_of (word_at i b)) f (at (λ b. eqb (form_of (word_at i b)) f) 16 t b b_lt) in
      rw (word_again w) at e

  -- more than one: the further look gives the word's
  looked : T (every 16 (further_right i)) → further_of w ≡ form_of w
  looked t =
      let e = eqb→eq (further_of (word_at i b)) (form_of (word_at i b)) (at (further_right i) 16 t b b_lt) in
      rw (word_again w) at e

  by_entry : (one t : Bool) → (T one → form_of w ≡ f) → (T t → further_of w ≡ form_of w) → T (pick one true t)
      → entry_at table_of w ≡ pick one f mark → form_by table_of w ≡ form_of w
  unfolding form_by
  by_entry true t same further u e = rw (e, unmarked (decode_of (word_at i 0) 0)) (sym (same tt))
  by_entry false t same further u e = rw e (further u)

  below : form_by table_of w ≡ form_of w
  unfolding looked_further
  below =
      by_entry (all_are f i 16) (every 16 (further_right i)) one_form looked (at looked_further 4096 all_looked_further i (index_lt w h)) entry_is

-- ---- any other number: the table ends before it, and it is the opcode of nothing
above : (w s : ℕ) → 65536 ≤ w → form_by table_of w ≡ form (decode_of w s)
unfolding form_by table_of decode_of
above w s h =
    let ended : length (entries_from 0 4096) ≤ index w = rw (counted 0 4096) (omega arith) in
    let undefined : decode_of w s ≡ UNDEF = past w (ranges w s) (omega arith) in
    rw (get_or-eq_default (entries_from 0 4096) (form UNDEF) ended, undefined)

pub agrees : (w s : ℕ) → form_by table_of w ≡ form (decode_of w s)
agrees w s = test (ltb w 65536) (λ e. below w (ltb-true w 65536 e) ∙ sym (form_alone w s)) (λ e. above w s (ltb-false w 65536 e))
