-- 01, 'Memory, stack and flow': transfers, in the order of cores.rs. k is a core, d and r are register numbers, at is an address, v a byte, m the bytes of data,
-- pointer the number of a pointer's low register, q a displacement; dec and inc say whether the pointer is stepped.
use Rattle.std.specs.Prelude.{ℕ, ◌+◌, ◌*◌, ◌/◌, ◌%◌, Bool, true, List, ◌==◌, nat_lt, slice_index, slice_set}
use Rattle.basis.specs.Pick.{pick}
use Rattle.basis.specs.Bit.{up, down}
use Rattle.rule.specs.Rule.{load_waits, store_waits}
use Rattle.cores.specs.declared.Core.{Core}
use Rattle.cores.specs.State.{Out, out, reg, word, with_reg, with_word, with_sreg, with_sp, with_busy}

-- "IN, OUT, LDS, STS, PUSH, POP and the pointer loads and stores take 0x3F as SREG, 0x3E and 0x3D as the high and low byte of SP, data or no data."
-- such an address can be reached, with n bytes of data
unfoldable pub reach_of : ℕ → ℕ → Bool
reach_of at n = pick (at == 0x3F) true (pick (at == 0x3E) true (pick (at == 0x3D) true (nat_lt at n)))

unfoldable pub data_of : Core → ℕ → List ℕ → ℕ
data_of k at m = pick (at == 0x3F) k.sreg (pick (at == 0x3E) (k.sp / 256) (pick (at == 0x3D) (k.sp % 256) (slice_index m at)))

unfoldable pub set_data_of : Core → ℕ → ℕ → List ℕ → Out
set_data_of k at v m =
    pick (at == 0x3F) (out (with_sreg k v) m)
    (pick (at == 0x3E) (out (with_sp k (v * 256 + k.sp % 256)) m)
    (pick (at == 0x3D) (out (with_sp k (k.sp / 256 * 256 + v)) m) (out k (slice_set m at v))))

abbrev pub in_of : Core → ℕ → ℕ → List ℕ → Core
in_of k d A m = with_reg k d (data_of k A m)

-- "A pre-decrement happens before the register or memory is read": lowered where dec
unfoldable pub pointed_of : Core → ℕ → Bool → ℕ
pointed_of k pointer dec = pick dec (down (word k pointer) 1) (word k pointer)

-- a pointer made so, where on
unfoldable pub word_if : Core → Bool → ℕ → ℕ → Core
word_if k on pointer to = pick on (with_word k pointer to) k

-- "a post-increment is written after the load, so it wins over a load into the pointer"; "A displaced address is pointer plus q, not wrapped."
-- The waits go by the rule, and not by the address
abbrev pub ld_of : Core → ℕ → ℕ → ℕ → Bool → Bool → List ℕ → Core
ld_of k d pointer q dec inc m =
    let at = pointed_of k pointer dec in
    let k₁ = word_if (with_busy k (load_waits k.chip)) dec pointer at in
    word_if (with_reg k₁ d (data_of k₁ (at + q) m)) inc pointer (up at 1)

abbrev pub st_of : Core → ℕ → ℕ → ℕ → Bool → Bool → List ℕ → Out
st_of k r pointer q dec inc m =
    let at = pointed_of k pointer dec in
    let k₁ = word_if (with_busy k (store_waits k.chip)) dec pointer at in
    let stored = set_data_of k₁ (at + q) (reg k₁ r) m in
    out (word_if stored.core inc pointer (up at 1)) stored.bytes

abbrev pub lds_of : Core → ℕ → ℕ → List ℕ → Core
lds_of k d at m = with_reg (with_busy k 2) d (data_of k at m)

-- "LPM forms": the program's byte at Z
abbrev pub lpm_of : Core → ℕ → Bool → List ℕ → Core
lpm_of k d inc program = word_if (with_reg (with_busy k 2) d (slice_index program (word k 30))) inc 30 (up (word k 30) 1)

-- "PUSH stores, then lowers SP; POP raises SP, then reads."
abbrev pub pop_of : Core → ℕ → List ℕ → Core
pop_of k d m = let k₁ = with_sp (with_busy k 1) (up k.sp 1) in with_reg k₁ d (data_of k₁ (up k.sp 1) m)

abbrev pub push_of : Core → ℕ → List ℕ → Out
push_of k r m = let stored = set_data_of k k.sp (reg k r) m in out (with_sp stored.core (down stored.core.sp 1)) stored.bytes

abbrev pub sts_of : Core → ℕ → ℕ → List ℕ → Out
sts_of k r at m = set_data_of (with_busy k 1) at (reg k r) m
