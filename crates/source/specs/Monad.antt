-- The Rust's `&mut self`, with panic: a statement takes the core with its memories and its interrupt handler, and gives a value and what they are
-- then, or panics. Of the port's definitions the transcription uses the types, a core's setters (crate `cores`), and `pick` for `if`; nothing else.
use Rattle.std.specs.Prelude.{Bool, List, ℕ}
use Rattle.basis.specs.Pick.{pick}
use Rattle.cores.specs.declared.Core.{Core}
use Rattle.cores.specs.State.{with_sreg, with_pc, with_sp, with_busy, with_inhibit, with_service}
use Rattle.tick.specs.Offer.{Offer}

-- cores.rs 29 to 41: the port's core, the bytes of the two memories, and what the interrupt sources have pending. `variant` and `debug` are left out
pub record Self : Type 0 where
  pub core : Core
  pub ds : List ℕ
  pub progmem : List ℕ
  pub pending : Offer

pub data Outcome (A : Type 0) : Type 0 where
  panic : Outcome A
  ok : A → Self → Outcome A

abbrev pub Rust : Type 0 → Type 0
Rust A = Self → Outcome A

-- ---- statements
abbrev pub after : {A B : Type 0} → Outcome A → (A → Rust B) → Outcome B
after panic f = panic
after (ok a s) f = f a s

infixl 10 ◌>>=◌
abbrev pub ◌>>=◌ : {A B : Type 0} → Rust A → (A → Rust B) → Rust B
◌>>=◌ m f = λ s. after (m s) f

infixl 10 ◌>>◌
abbrev pub ◌>>◌ : {A B : Type 0} → Rust A → Rust B → Rust B
◌>>◌ m n = λ s. after (m s) (λ _. n)

abbrev pub return : {A : Type 0} → A → Rust A
return a = λ s. ok a s

-- the Rust's `if`, written `if'`, since the library has an `if` of its own
infix 5 if'◌then◌else◌
abbrev pub if'◌then◌else◌ {ℓ} : {A : Type ℓ} → Bool → A → A → A
if'◌then◌else◌ b x y = pick b x y

-- an `if` with no `else`
abbrev pub when : Bool → Rust Unit → Rust Unit
when b m = if' b then m else return tt

-- a where b holds, else a panic
abbrev pub checked : {A : Type 0} → Bool → A → Rust A
checked b a = λ s. pick b (ok a s) panic

-- ---- `self`'s fields, read
abbrev pub self : Rust Core
self = λ s. ok s.core s

abbrev pub self_sreg : Rust ℕ
self_sreg = λ s. ok s.core.sreg s

abbrev pub self_pc : Rust ℕ
self_pc = λ s. ok s.core.pc s

abbrev pub self_sp : Rust ℕ
self_sp = λ s. ok s.core.sp s

abbrev pub self_busy : Rust ℕ
self_busy = λ s. ok s.core.busy s

abbrev pub self_interupt_inhibit : Rust Bool
self_interupt_inhibit = λ s. ok s.core.inhibit s

-- LVL0EX of Cpuint, as 01 has it: one flag
abbrev pub self_lvl0ex : Rust Bool
self_lvl0ex = λ s. ok s.core.in_service s

abbrev pub self_pending : Rust Offer
self_pending = λ s. ok s.pending s

-- ---- and written
abbrev pub with_core : Self → Core → Self
with_core s k = record { core = k; ds = s.ds; progmem = s.progmem; pending = s.pending }

abbrev pub with_ds : Self → List ℕ → Self
with_ds s m = record { core = s.core; ds = m; progmem = s.progmem; pending = s.pending }

abbrev pub change : (Core → Core) → Rust Unit
change f = λ s. ok tt (with_core s (f s.core))

abbrev pub sreg= : ℕ → Rust Unit
sreg= v = change (λ k. with_sreg k v)

abbrev pub pc= : ℕ → Rust Unit
pc= v = change (λ k. with_pc k v)

abbrev pub sp= : ℕ → Rust Unit
sp= v = change (λ k. with_sp k v)

abbrev pub busy= : ℕ → Rust Unit
busy= v = change (λ k. with_busy k v)

abbrev pub interupt_inhibit= : Bool → Rust Unit
interupt_inhibit= on = change (λ k. with_inhibit k on)

abbrev pub lvl0ex= : Bool → Rust Unit
lvl0ex= on = change (λ k. with_service k on)
