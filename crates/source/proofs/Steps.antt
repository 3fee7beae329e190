-- A statement that may panic: `pick TEST (ok ..) panic`, and how such tests meet.
-- Assumes nothing.
use mathlib.Core.Path.{◌≡◌, refl, ap}
use mathlib.Core.Bool.{Bool, true, false, ◌&&◌}
use Prim.Native.Nat.{ℕ}
use Rattle.basis.specs.Pick.{pick}
use Rattle.cores.specs.declared.Core.{Core}
use Rattle.cores.specs.State.{Out}
use Rattle.source.specs.Monad.{Self, Outcome, ok, panic, Rust, after, with_core}

-- what an instruction that may store leaves, in the Rust's `self`
abbrev pub with_out : Self → Out → Self
with_out s o = record { core = o.core; ds = o.bytes; progmem = s.progmem; pending = s.pending }

-- nothing returned, and that core left; and data too
abbrev pub leaves : Self → Core → Outcome Unit
leaves s k = ok tt (with_core s k)

abbrev pub leaves_out : Self → Out → Outcome Unit
leaves_out s o = ok tt (with_out s o)

-- the test comes to the front
pub after_pick : {A B : Type 0} (b : Bool) (o : Outcome A) (f : A → Rust B) → after (pick b o panic) f ≡ pick b (after o f) panic
after_pick true o f = refl
after_pick false o f = refl

pub pick_panic : {A : Type 0} (b : Bool) → pick {A = Outcome A} b panic panic ≡ panic
pick_panic true = refl
pick_panic false = refl

-- one test after another
pub and_pick : {A : Type 0} (a b : Bool) (o : Outcome A) → pick a (pick b o panic) panic ≡ pick (a && b) o panic
and_pick true b o = refl
and_pick false b o = refl

-- the Rust asks for a, then for b; the lower number is b's
pub swapped : {A : Type 0} (a b : Bool) (o : Outcome A) → pick a (pick b o panic) panic ≡ pick (b && a) o panic
swapped true true o = refl
swapped true false o = refl
swapped false true o = refl
swapped false false o = refl

pub twice : {A : Type 0} (b : Bool) (o : Outcome A) → pick b (pick b o panic) panic ≡ pick b o panic
twice true o = refl
twice false o = refl

-- what follows a test may use it
pub under : {A : Type 0} (t : Bool) (f : ℕ → Outcome A) (x y : ℕ) → (t ≡ true → x ≡ y) → pick t (f x) panic ≡ pick t (f y) panic
under true f x y h = ap f (h refl)
under false f x y h = refl

-- what follows two tests may use the second
pub and_under : {A : Type 0} (a b : Bool) (f : ℕ → Outcome A) (x y : ℕ) → (b ≡ true → x ≡ y) → pick a (pick b (f x) panic) panic ≡ pick (a && b) (f y) panic
and_under true b f x y h = under b f x y h
and_under false b f x y h = refl
