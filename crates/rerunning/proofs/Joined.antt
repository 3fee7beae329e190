-- What is written for an input that was joined: its numbers and its parts are read back.
-- n is a number, a, u and v are lists one behind another.
-- Assumes nothing.
use mathlib.Core.Path.{◌≡◌, sym, ap, ◌∙◌}
use mathlib.Core.List.{List, ◌++◌, append_assoc}
use Prim.Native.Nat.{ℕ, ◌+◌, ◌*◌, ◌/◌, ◌%◌, ◌<◌}
use native.Mathlib.Omega.{arith}
use lib.ListN.{take, drop, length, length-append}
use lib.Seq.{take-append_seam, drop-append_seam, drop-drop, take-length}
use borrow.Author.Tests.{le-ltb}
use Rattle.rerunning.specs.Rerun.{number_in, part, State, many_of, job_of, told_of, written_of}
use Rattle.rerunning.specs.declared.job.Job.{Job}
use Rattle.std.specs.Prelude.{Option}
use Rattle.rerunning.proofs.Within.{taken, job}
use Rattle.rerunning.specs.Laws.{input_of, Limits, JoinedInput}

-- ---- a number's four bytes
by_bytes : (n a b c x y z w : ℕ) → n ≡ a * 256 + w → a ≡ b * 256 + z → b ≡ c * 256 + y → c ≡ x → x * 16777216 + y * 65536 + z * 256 + w ≡ n
by_bytes n a b c x y z w e f g h = omega (arith, e, f, g, h)

number_back : (n : ℕ) → n < 4294967296 → n / 16777216 % 256 * 16777216 + n / 65536 % 256 * 65536 + n / 256 % 256 * 256 + n % 256 ≡ n
number_back n h =
    let second : n / 65536 ≡ n / 256 / 256 = omega arith in
    let first : n / 16777216 ≡ n / 65536 / 256 = omega arith in
    let top : n / 16777216 ≡ n / 16777216 % 256 = omega (arith, h) in
    by_bytes n (n / 256) (n / 65536) (n / 16777216) (n / 16777216 % 256) (n / 65536 % 256) (n / 256 % 256) (n % 256) (omega arith) (omega (arith, second)) (omega (arith, first)) top

-- ---- parts one behind another
front : (n : ℕ) (a u : List ℕ) → length a ≡ n → take n (a ++ u) ≡ a
front n a u is = rw (sym is) (take-append_seam a u)

rest : (n : ℕ) (a u : List ℕ) → length a ≡ n → drop n (a ++ u) ≡ u
rest n a u is = rw (sym is) (drop-append_seam a u)

module _ (b : ℕ) (z : State) (t l : List ℕ) (small : b < 4294967296) (w : Limits z t l) where
  abbrev s : List ℕ
  s = input_of b z t l

  hex : number_in s 0 ≡ length t
  hex = number_back (length t) (omega (arith, w.hex))

  schedule : number_in s 4 ≡ length l
  schedule = number_back (length l) (omega (arith, w.schedule))

  size : number_in s 8 ≡ length z.bytes
  size = number_back (length z.bytes) (omega (arith, w.size))

  budget : number_in s 12 ≡ b
  budget = number_back b small

  done : number_in s 16 ≡ z.done
  done = number_back z.done w.done

  entered : number_in s 20 ≡ many_of z
  entered = number_back (many_of z) (omega (arith, w.many))

  -- behind the head
  behind : drop 24 s ≡ z.core ++ (z.entered ++ (z.bytes ++ (t ++ l)))
  behind =
      append_assoc (z.core ++ z.entered ++ z.bytes) t l ∙ append_assoc (z.core ++ z.entered) z.bytes (t ++ l) ∙ append_assoc z.core z.entered (z.bytes ++ (t ++ l))

  abbrev at : ℕ
  at = 62 + 4 * many_of z

  from_entered : drop 62 s ≡ z.entered ++ (z.bytes ++ (t ++ l))
  from_entered = sym (drop-drop 38 24 s) ∙ ap (drop 38) behind ∙ rest 38 z.core (z.entered ++ (z.bytes ++ (t ++ l))) w.core

  from_data : drop at s ≡ z.bytes ++ (t ++ l)
  from_data = sym (drop-drop (4 * many_of z) 62 s) ∙ ap (drop (4 * many_of z)) from_entered ∙ rest (4 * many_of z) z.entered (z.bytes ++ (t ++ l)) w.whole

  from_text : drop (at + length z.bytes) s ≡ t ++ l
  from_text = sym (drop-drop (length z.bytes) at s) ∙ ap (drop (length z.bytes)) from_data ∙ drop-append_seam z.bytes (t ++ l)

  from_list : drop (at + length z.bytes + length t) s ≡ l
  from_list = sym (drop-drop (length t) (at + length z.bytes) s) ∙ ap (drop (length t)) from_text ∙ drop-append_seam t l

  all : length s ≡ at + length z.bytes + length t + length l
  all =
      let entries = length-append z.core z.entered in
      let bytes = length-append (z.core ++ z.entered) z.bytes in
      let text = length-append (z.core ++ z.entered ++ z.bytes) t in
      let list = length-append (z.core ++ z.entered ++ z.bytes ++ t) l in
      omega (arith, entries, bytes, text, list, w.core, w.whole)

  passes : job (length s) (length t) (length l) (length z.bytes) b z.done (many_of z) ≡ taken (length t) (length l) (length z.bytes) b z.done (many_of z)
  passes =
      rw (
        le-ltb 1048576 (length t) w.hex,
        le-ltb 1048576 (length l) w.schedule,
        le-ltb 65536 (length z.bytes) w.size,
        le-ltb 65536 (many_of z) w.many,
        le-ltb (length s) (at + length z.bytes + length t + length l) (omega (arith, all)),
      )

  job_is : job_of s ≡ taken (length t) (length l) (length z.bytes) b z.done (many_of z)
  job_is =
      ap (λ (x : ℕ). job (length s) x (number_in s 4) (number_in s 8) (number_in s 12) (number_in s 16) (number_in s 20)) hex
      ∙ ap (λ (x : ℕ). job (length s) (length t) x (number_in s 8) (number_in s 12) (number_in s 16) (number_in s 20)) schedule
      ∙ ap (λ (x : ℕ). job (length s) (length t) (length l) x (number_in s 12) (number_in s 16) (number_in s 20)) size
      ∙ ap (λ (x : ℕ). job (length s) (length t) (length l) (length z.bytes) x (number_in s 16) (number_in s 20)) budget
      ∙ ap (λ (x : ℕ). job (length s) (length t) (length l) (length z.bytes) b x (number_in s 20)) done
      ∙ ap (λ (x : ℕ). job (length s) (length t) (length l) (length z.bytes) b z.done x) entered ∙ passes

  abbrev told : List ℕ → List ℕ → List ℕ → List ℕ → List ℕ → List ℕ
  told k e m u v = told_of b (record { done = z.done; core = k; entered = e; bytes = m }) u v

  parts : written_of (taken (length t) (length l) (length z.bytes) b z.done (many_of z)) s ≡ told_of b z t l
  parts =
      let n = length z.bytes in
      let e = part s 62 (4 * many_of z) in
      let m = part s at n in
      let u = part s (at + n) (length t) in
      let v = part s (at + n + length t) (length l) in
      ap (λ (x : List ℕ). told x e m u v) (ap (take 38) behind ∙ front 38 z.core (z.entered ++ (z.bytes ++ (t ++ l))) w.core)
      ∙ ap (λ (x : List ℕ). told z.core x m u v) (ap (take (4 * many_of z)) from_entered ∙ front (4 * many_of z) z.entered (z.bytes ++ (t ++ l)) w.whole)
      ∙ ap (λ (x : List ℕ). told z.core z.entered x u v) (ap (take n) from_data ∙ take-append_seam z.bytes (t ++ l))
      ∙ ap (λ (x : List ℕ). told z.core z.entered z.bytes x v) (ap (take (length t)) from_text ∙ take-append_seam t l)
      ∙ ap (told z.core z.entered z.bytes t) (ap (take (length l)) from_list ∙ take-length l)

pub joined_input : JoinedInput
joined_input b z t l small w = ap (λ (j : Option Job). written_of j (s b z t l small w)) (job_is b z t l small w) ∙ parts b z t l small w
