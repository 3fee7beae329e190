-- What is said of a Result is said of no other.
-- Assumes nothing.
use Rattle.std.proofs.Common.{◌≡◌, ℕ, refl, sym, ap, ◌∙◌, eqb, Result, Ok, Err}
use Rattle.basis.specs.Pick.{pick}
use Rattle.cores.specs.declared.Core.{Core}
use Rattle.snapshot.specs.declared.Unreadable.{Unreadable}
use Rattle.snapshot.specs.declared.Unreadable.TheVariants as unreadable
use Rattle.snapshot.specs.declared.Unwritable.{Unwritable}
use Rattle.snapshot.specs.declared.Unwritable.TheVariants as unwritable
use Rattle.snapshot.specs.Snapshot.{SnapshotRead, said_read, said_write}

abbrev read_back : SnapshotRead → Result Core Unreadable
read_back r = pick (eqb r.refusal 0) (Ok r.core) (Err (pick (eqb r.refusal 7) unreadable.Length (pick (eqb r.refusal 8) unreadable.Busy unreadable.Spare)))

read_is : (a : Result Core Unreadable) → a ≡ read_back (said_read a)
read_is (Ok k) = refl
read_is (Err unreadable.Length) = refl
read_is (Err unreadable.Busy) = refl
read_is (Err unreadable.Spare) = refl

pub said_read_once : (a b : Result Core Unreadable) → said_read a ≡ said_read b → a ≡ b
said_read_once a b e = read_is a ∙ ap read_back e ∙ sym (read_is b)

abbrev write_back : ℕ → Result Unit Unwritable
write_back n = pick (eqb n 0) (Ok tt) (Err (pick (eqb n 7) unwritable.Length unwritable.Busy))

write_is : (a : Result Unit Unwritable) → a ≡ write_back (said_write a)
write_is (Ok tt) = refl
write_is (Err unwritable.Length) = refl
write_is (Err unwritable.Busy) = refl

pub said_write_once : (a b : Result Unit Unwritable) → said_write a ≡ said_write b → a ≡ b
said_write_once a b e = write_is a ∙ ap write_back e ∙ sym (write_is b)
