-- A core in parts: registers where they are lent, the rest as numbers. rs are the bytes of lent registers, z is the rest of a core but for its rule, s an SREG,
-- m the bytes of data, at is an address, v a byte, p the number of a pointer's low register, x a word; dec and inc say whether the pointer is stepped.
use Rattle.std.specs.Prelude.{ℕ, ◌+◌, ◌*◌, ◌/◌, ◌%◌, Bool, List, [], ◌==◌, slice_set}
use Rattle.basis.specs.Pick.{pick}
use Rattle.basis.specs.Bit.{up}
use Rattle.cores.specs.declared.Core.{Core}
use Rattle.cores.specs.State.{with_sp}
use Rattle.cores.specs.Lent.{holding, lent}
use Rattle.cores.specs.Transfer.{data_of, pointed_of}
use Rattle.registers.specs.Registers.{parted}
use Rattle.effects.specs.declared.Step.{Step}
use Rattle.effects.specs.declared.transfer.Left.{Left}

abbrev pub stood : ℕ → ℕ → ℕ → ℕ → Bool → Bool → Step
stood pc sp s busy inhibit service = record { pc = pc; sp = sp; sreg = s; busy = busy; inhibit = inhibit; in_service = service }

-- the whole core, with its rule
abbrev pub cored : List ℕ → Step → Bool → Core
cored rs z chip = parted rs z.pc z.sp z.sreg z.busy z.inhibit z.in_service chip

-- ---- transfers, in these parts
-- SREG and SP alone: what the data space has of a core
abbrev pub seen : ℕ → ℕ → Core
seen s sp = with_sp (lent [] s) sp

-- SREG, SP and the bytes of data behind a store, which takes "0x3F as SREG, 0x3E and 0x3D as the high and low byte of SP"
abbrev pub sreg_stored : ℕ → ℕ → ℕ → ℕ
sreg_stored at v s = pick (at == 0x3F) v s

abbrev pub sp_stored : ℕ → ℕ → ℕ → ℕ
sp_stored at v sp = pick (at == 0x3F) sp (pick (at == 0x3E) (v * 256 + sp % 256) (pick (at == 0x3D) (sp / 256 * 256 + v) sp))

abbrev pub bytes_stored : ℕ → ℕ → List ℕ → List ℕ
bytes_stored at v m = pick (at == 0x3F) m (pick (at == 0x3E) m (pick (at == 0x3D) m (slice_set m at v)))

abbrev pub left_by : ℕ → ℕ → ℕ → ℕ → ℕ → Left
left_by at v s sp busy = record { sreg = sreg_stored at v s; sp = sp_stored at v sp; busy = busy }

-- a pointer made so, where on
abbrev pub pointer_set : List ℕ → Bool → ℕ → ℕ → List ℕ
pointer_set rs on p x = pick on (slice_set (slice_set rs p (x % 256)) (p + 1) (x / 256)) rs

-- LD and ST: where they point, and the registers with the pointer lowered
abbrev pub pointed_at : List ℕ → ℕ → Bool → ℕ
pointed_at rs p dec = pointed_of (holding rs) p dec

abbrev pub lowered : List ℕ → ℕ → Bool → List ℕ
lowered rs p dec = pointer_set rs dec p (pointed_at rs p dec)

abbrev pub loaded : List ℕ → ℕ → ℕ → ℕ → Bool → Bool → ℕ → ℕ → List ℕ → List ℕ
loaded rs d p q dec inc s sp m =
    let at = pointed_at rs p dec in
    pointer_set (slice_set (lowered rs p dec) d (data_of (seen s sp) (at + q) m)) inc p (up at 1)
