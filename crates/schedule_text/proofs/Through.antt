-- The loop that reads a text: what is read so far, with what the lines that are left tell, is the whole; and a turn of it.
-- t is a text, n the number of the next line, `last` the tick of the record before; `list₀` is the list as it was, `list` as it is.
-- Assumes nothing.
use mathlib.Core.Path.{◌≡◌, refl, ◌∙◌}
use mathlib.Core.List.{List, [], ◌∷◌, ◌++◌, append-nil}
use Prim.Native.Nat.{ℕ, suc, ◌+◌, ◌*◌, ◌-◌, ◌/◌, ◌≤◌, ◌<◌}
use native.Mathlib.Omega.{arith}
use native.Mathlib.Nat.{sub-zero}
use lib.ListN.{length, drop, length-append, length-drop}
use lib.Seq.{sets, sets-eq, take_at, drop_at, drop-drop, append_snoc}
use Rattle.hex_line.specs.Line.{lines_of}
use Rattle.hex_line.proofs.Found.{few_lines}
use Rattle.schedule.specs.declared.list.Record.{Record}
use Rattle.std.specs.Prelude.{None, Some, Ok, Err}
use Rattle.schedule_text.specs.declared.line.Firing.{Firing as Fired}
use Rattle.schedule_text.specs.Reading.{line_of, Told, told, read_from, read_of, five_of, bytes_of, outcome_of, list_of}
use Rattle.schedule_text.specs.Judged.{judged_of}
use Rattle.schedule_text.proofs.Turns.{turn, fires_right, no_line}
use Rattle.schedule_text.proofs.Laws.{bytes_length, bytes_append}

-- what is told behind records
abbrev after : List Record → Told → Told
after ds x = record { fault = x.fault; line = x.line; records = ds ++ x.records }

-- how many records a list has room for
abbrev pub room_of : List ℕ → ℕ
room_of list = length list / 5

-- ---- the list behind the records
abbrev written : List Record → List ℕ → List ℕ
written ds list = bytes_of ds ++ drop (5 * length ds) list

written_length : (ds : List Record) (list : List ℕ) → length ds ≤ room_of list → length (written ds list) ≡ length list
written_length ds list h =
    let b = bytes_length ds in
    let d = length-drop (5 * length ds) list in
    rw (length-append (bytes_of ds) (drop (5 * length ds) list)) (omega arith)

-- one record more
written_more : (ds : List Record) (list : List ℕ) (d : Record) → length ds < room_of list → sets (written ds list) (5 * length ds) (five_of d) ≡ written (ds ++ (d ∷ [])) list
unfolding bytes_of
written_more ds list d h =
    let k = 5 * length ds in
    let tail = drop k list in
    let whole : length (written ds list) ≡ length list = written_length ds list (omega arith) in
    let next : k + 5 ≡ 5 * length (ds ++ (d ∷ [])) = rw (length-append ds (d ∷ [])) (omega arith) in
    rw (
      sets-eq (five_of d) (written ds list) k (omega arith),
      ← drop-drop 5 k (written ds list),
      take_at (bytes_of ds) tail k (bytes_length ds),
      drop_at (bytes_of ds) tail k (bytes_length ds),
      drop-drop 5 k list,
      next,
      bytes_append ds (d ∷ []),
    )

-- ---- the loop; `left` are the lines that are left
pub record Through (t list₀ list : List ℕ) (room : ℕ) (left : List (List ℕ)) (n last records : ℕ) : Type 0 where
  pub number : n + length left ≤ length t + 1
  pub few : records ≤ room
  pub done : List Record
  pub many : length done ≡ records
  pub rest : read_of t room ≡ after done (read_from (room - records) n last left)
  pub list_is : list ≡ written done list₀

pub begins : (t list : List ℕ) (room : ℕ) → Through t list list room (lines_of t) 1 0 0
unfolding bytes_of
begins t list room = record { number = omega (arith, few_lines t); few = omega arith; done = []; many = refl; rest = rw (sub-zero room); list_is = refl }

module _ {t list₀ list : List ℕ} {left : List (List ℕ)} {n last records : ℕ} (w : Through t list₀ list (room_of list₀) left n last records) where
  abbrev room : ℕ
  room = room_of list₀ - records

  pub kept : length list ≡ length list₀
  kept = let f = w.few in let m = w.many in rw w.list_is (written_length w.done list₀ (omega arith))

  -- where the rest tells no record, the records are those read so far
  ended : (fault line : ℕ) → read_from room n last left ≡ told fault line → read_of t (room_of list₀) ≡ record { fault = fault; line = line; records = w.done }
  ended fault line e = w.rest ∙ rw (e, append-nil w.done)

  -- what the call answers and leaves
  answered : (fault line : ℕ) → read_from room n last left ≡ told fault line
      → (record { fault = fault; line = line; records = records } ≡ outcome_of t (length list₀)) × (list ≡ list_of t list₀)
  answered fault line e = let m = w.many in rw (ended fault line e) (rw m, w.list_is)

  pub over : left ≡ [] → (record { fault = 0; line = 0; records = records } ≡ outcome_of t (length list₀)) × (list ≡ list_of t list₀)
  over h = answered 0 0 (rw h (no_line room n last))

  -- a turn: a line judged
  module _ (line : List ℕ) (ls : List (List ℕ)) (cut : left ≡ line ∷ ls) where
    pub stopped : (k : ℕ) → Err k ≡ judged_of (line_of line) last room
        → (record { fault = k; line = n; records = records } ≡ outcome_of t (length list₀)) × (list ≡ list_of t list₀)
    stopped k is = answered k n (rw cut (turn room n last line ls (Err k) is))

    pub passed : Ok None ≡ judged_of (line_of line) last room → Through t list₀ list (room_of list₀) ls (n + 1) last records
    passed is =
        let b = w.number in
        let l : length left ≡ suc (length ls) = rw cut in
        record {
          number = omega arith;
          few = w.few;
          done = w.done;
          many = w.many;
          rest = w.rest ∙ rw (cut, turn room n last line ls (Ok None) is);
          list_is = w.list_is;
        }

    pub fired : (d : Fired) (list' : List ℕ) → Ok (Some d) ≡ judged_of (line_of line) last room → list' ≡ sets list (5 * records) (five_of (record { tick = d.tick; vector = d.vector }))
        → Through t list₀ list' (room_of list₀) ls (n + 1) d.tick (records + 1)
    fired d list' is e =
        let f : Record = record { tick = d.tick; vector = d.vector } in
        let some = (fires_right last room line d is).has_room in
        let m = w.many in
        let b = w.number in
        let l : length left ≡ suc (length ls) = rw cut in
        let less : room - 1 ≡ room_of list₀ - (records + 1) = omega arith in
        record {
          number = omega arith;
          few = omega arith;
          done = w.done ++ (f ∷ []);
          many = rw (length-append w.done (f ∷ [])) (omega arith);
          rest = w.rest ∙ rw (cut, turn room n last line ls (Ok (Some d)) is, less, ← append_snoc w.done f _);
          list_is = e ∙ rw (w.list_is, ← m) (written_more w.done list₀ f (omega arith));
        }
