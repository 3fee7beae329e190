-- What the pages of LD, LDD, ST and STD share: the pointers X, Y and Z, and each form of access through one, in c cycles. (P) is a byte of data space.
use Rattle.std.specs.Prelude.{Bool, ◌||◌, List, ℕ, ◌+◌, eqb}
use Rattle.basis.specs.Pick.{pick}
use Rattle.basis.specs.Bit.{up, down}
use Rattle.cores.specs.declared.Core.{Core}
use Rattle.cores.specs.State.{Out, out, reg, word, with_reg, with_word}
use Rattle.cores.specs.Transfer.{data_of, set_data_of}
use Rattle.manual.specs.Notation.{next}
use Rattle.manual.specs.Switches.{loads, stores, Switches}

-- a pointer is the number of its low register: R27:R26, R29:R28, R31:R30
abbrev pub X : ℕ
X = 26

abbrev pub Y : ℕ
Y = 28

abbrev pub Z : ℕ
Z = 30

-- the cycles of LD and LDD, and of ST and STD, from and to SRAM: 2 and 1 by the manual, 3 and 2 in the Rust
abbrev pub load_cycles : Switches → ℕ
load_cycles s = pick (s loads) 3 2

abbrev pub store_cycles : Switches → ℕ
store_cycles s = pick (s stores) 2 1

-- register d is a byte of the pointer P: where P is stepped, the manual leaves the result undefined, and these pages the whole tick
abbrev pub is_in : ℕ → ℕ → Bool
is_in d P = eqb d P || eqb d (P + 1)

-- Rd ← (P + q). The sum is 01's, "not wrapped": it may lie beyond 65,535, here and in `store`
unfoldable pub load : ℕ → Core → ℕ → ℕ → ℕ → List ℕ → Core
load c k d P q m = with_reg (next k 1 c) d (data_of k (word k P + q) m)

-- Rd ← (P), P ← P + 1
unfoldable pub load_inc : ℕ → Core → ℕ → ℕ → List ℕ → Core
load_inc c k d P m = let a = word k P in with_word (with_reg (next k 1 c) d (data_of k a m)) P (up a 1)

-- P ← P - 1, Rd ← (P)
unfoldable pub load_dec : ℕ → Core → ℕ → ℕ → List ℕ → Core
load_dec c k d P m =
    let a = down (word k P) 1 in
    let k₁ = with_word (next k 1 c) P a in
    with_reg k₁ d (data_of k₁ a m)

-- (P + q) ← Rr
unfoldable pub store : ℕ → Core → ℕ → ℕ → ℕ → List ℕ → Out
store c k r P q m = set_data_of (next k 1 c) (word k P + q) (reg k r) m

-- (P) ← Rr, P ← P + 1
unfoldable pub store_inc : ℕ → Core → ℕ → ℕ → List ℕ → Out
store_inc c k r P m =
    let a = word k P in
    let o = set_data_of (next k 1 c) a (reg k r) m in
    out (with_word o.core P (up a 1)) o.bytes

-- P ← P - 1, (P) ← Rr
unfoldable pub store_dec : ℕ → Core → ℕ → ℕ → List ℕ → Out
store_dec c k r P m =
    let a = down (word k P) 1 in
    let k₁ = with_word (next k 1 c) P a in
    set_data_of k₁ a (reg k₁ r) m
