-- What the checks hand back, and their numbers.
-- Assumes nothing.
use Rattle.std.proofs.Common.{◌≡◌, ◌∙◌, refl, sym, ap, subst, Bool, true, false, ℕ, zero, suc, ◌%◌, ◌/◌, List, length, get_or, Result, Ok, Err, is_ok, arith, ne_eqb}
use Rattle.std.specs.Prelude.{eqb, leb, ltb}
use Rattle.basis.specs.Pick.{pick}
use Rattle.basis.proofs.Choice.{clash}
use Rattle.run.proofs.Calls.{ok_or}
use Rattle.cores.specs.declared.Core.{Core}
use Rattle.snapshot.specs.Snapshot.{SnapshotRead, core_of, refused_read, said_read, read_of}
use Rattle.run.specs.Over.{unreadable_of}
use Rattle.schedule.specs.Schedule.{records_of, rising, refusal_of, refusal_in, said_check, unlisted_of, listed, refused_number, started, unlisted_number, ListsRefusedByNumber, StartsRefusedByNumber}
use Rattle.schedule.specs.declared.list.Unlisted.{Unlisted}
use Rattle.schedule.specs.declared.Refused.{Refused}
use Rattle.schedule.specs.declared.Refused.TheVariants as refused

-- ---- the list's
pub list_passed : {r : Result Unit Unlisted} {n : ℕ} {x : Unit} → said_check r ≡ n → r ≡ Ok x → n ≡ 0
list_passed e f = sym e ∙ ap said_check f

pub listed_is : {A : Type 0} {n : ℕ} (x : A) → n ≡ 0 → Ok x ≡ listed n x
listed_is x h = rw h

-- ---- the snapshot's, and then the list's
module _ (s l : List ℕ) (room : ℕ) where
  abbrev by : SnapshotRead → ℕ
  by r = pick (eqb r.refusal 0) (refusal_of l room) r.refusal

  pub read_passed : (k : Core) → said_read (Ok k) ≡ read_of s → refusal_in s l room ≡ refusal_of l room
  read_passed k h = subst (λ (r : SnapshotRead). by r ≡ refusal_of l room) h refl

-- the refusal of a number
abbrev refusal : ℕ → Refused
refusal n = pick (leb 30 n) (refused.Unlisted (unlisted_of n)) (refused.Unreadable (unreadable_of n))

pub started_ok : {A : Type 0} (n : ℕ) (x : A) {y : A} → Ok y ≡ started n x → (n ≡ 0) × (y ≡ x)
started_ok {A} zero x {y} h = (refl, ap (ok_or {A = A} y) h)
started_ok (suc n) x h = let e = ne_eqb (suc n) 0 (λ z. omega (arith, z)) in clash (rw e at (ap is_ok h))

abbrev err_or : {A : Type 0} → Refused → Result A Refused → Refused
err_or d (Ok x) = d
err_or d (Err e) = e

started_err : {A : Type 0} (n : ℕ) (x : A) {e : Refused} → Err e ≡ started n x → (n ≡ 0 → ⊥) × (e ≡ refusal n)
started_err zero x h = clash (sym (ap is_ok h))
started_err {A} (suc n) x {e} h = let f = ne_eqb (suc n) 0 (λ z. omega (arith, z)) in (λ z. omega (arith, z), rw f at (ap (err_or {A = A} e) h))

-- by the tests of both
numbered : (u v w a b c : Bool) (k : Core)
    → (let r : SnapshotRead = pick u (pick v (refused_read 8) (pick w (record { refusal = 0; core = k }) (refused_read 9))) (refused_read 7) in
    let n : ℕ = pick (eqb r.refusal 0) (pick a (pick b (pick c 32 0) 31) 30) r.refusal in
    (n ≡ 0 → ⊥) → refused_number (refusal n) ≡ n)
numbered false v w a b c k h = refl
numbered true true w a b c k h = refl
numbered true false false a b c k h = refl
numbered true false true false b c k h = refl
numbered true false true true false c k h = refl
numbered true false true true true true k h = refl
numbered true false true true true false k h = absurd (h refl)

-- a refusal has the number of the check that refused
pub started_refused : (s l : List ℕ) (room : ℕ) {A : Type 0} (x : A) {e : Refused} → Err e ≡ started (refusal_in s l room) x → ((refusal_in s l room ≡ 0) → ⊥) × (refused_number e ≡ refusal_in s l room)
started_refused s l room x h =
    let (some, is) = started_err (refusal_in s l room) x h in (
      some,
      ap refused_number is
          ∙ numbered (eqb (length s) 38) (ltb 4 (get_or s 37 0 / 32)) (eqb (get_or s 37 0 % 4) 0) (eqb (length l % 5) 0) (rising 0 (records_of l)) (ltb room (length l / 5)) (core_of s) some,
    )

pub starts_refused_by_number : StartsRefusedByNumber
starts_refused_by_number s l room x e h = (started_refused s l room x h).1

-- ---- and the list's alone, by its three tests
abbrev unlisted_or : {A : Type 0} → Unlisted → Result A Unlisted → Unlisted
unlisted_or d (Ok x) = d
unlisted_or d (Err e) = e

listed_err : {A : Type 0} (n : ℕ) (x : A) {e : Unlisted} → Err e ≡ listed n x → (n ≡ 0 → ⊥) × (e ≡ unlisted_of n)
listed_err zero x h = clash (sym (ap is_ok h))
listed_err {A} (suc n) x {e} h = let f = ne_eqb (suc n) 0 (λ z. omega (arith, z)) in (λ z. omega (arith, z), rw f at (ap (unlisted_or {A = A} e) h))

unlisted_numbered : (a b c : Bool) → (let n : ℕ = pick a (pick b (pick c 32 0) 31) 30 in (n ≡ 0 → ⊥) → unlisted_number (unlisted_of n) ≡ n)
unlisted_numbered false b c h = refl
unlisted_numbered true false c h = refl
unlisted_numbered true true true h = refl
unlisted_numbered true true false h = absurd (h refl)

pub lists_refused_by_number : ListsRefusedByNumber
lists_refused_by_number l room x e h =
    let (some, is) = listed_err (refusal_of l room) x h in
    ap unlisted_number is ∙ unlisted_numbered (eqb (length l % 5) 0) (rising 0 (records_of l)) (ltb room (length l / 5)) some
