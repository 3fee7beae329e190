-- The bytes of a text's records, from record k on: those that a scheduled run reads from them, none refused, with vectors of 16 bits. l is the text, `room` how many records there is room for.
-- Assumes nothing.
use mathlib.Core.Path.{◌≡◌, ap, subst, ◌∙◌}
use mathlib.Core.List.{List}
use Prim.Native.Nat.{ℕ, ◌*◌, ◌/◌}
use native.Mathlib.Omega.{arith}
use lib.ListN.{drop, length}
use Rattle.schedule.specs.Schedule.{records_of, refusal_of}
use Rattle.schedule.specs.declared.list.Record.{Record}
use Rattle.schedule_text.specs.Reading.{read_of, bytes_of}
use Rattle.schedule_text.proofs.Laws as text
use Rattle.rerunning.proofs.Image.{drop_bytes}
use Rattle.rerunning.proofs.Kept.{Vectors, vectors_in}

module _ (l : List ℕ) (room : ℕ) where
  abbrev pub ds : List Record
  ds = (read_of l room).records

  abbrev pub r : List ℕ
  r = bytes_of ds

  cut : (k : ℕ) → drop (k * 5) r ≡ bytes_of (drop k ds)
  cut k = let five : k * 5 ≡ 5 * k = omega arith in ap (λ (n : ℕ). drop n r) five ∙ text.drop_bytes ds k

  pub listed : (k : ℕ) → records_of (drop (k * 5) r) ≡ drop k ds
  listed k = ap records_of (cut k) ∙ (text.text_listed l room k).same

  pub taken : (k : ℕ) → refusal_of (drop (k * 5) r) room ≡ 0
  taken k = ap (λ (s : List ℕ). refusal_of s room) (cut k) ∙ (text.text_listed l room k).taken

  pub vectors : (k : ℕ) → Vectors (drop k ds)
  vectors k =
      let s = drop (k * 5) r in
      subst Vectors (listed k) (vectors_in s (drop_bytes (k * 5) r (text.text_bytes l room)) 0 (length s / 5))
