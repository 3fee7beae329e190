-- 02, W3: "Work all flags out first and store SREG once." A handler over lent registers is the handler's own definition on a core of these registers.
-- rs are the bytes of lent registers, s is an SREG.
use Rattle.std.specs.Prelude.{ℕ, List}
use Rattle.cores.specs.declared.Core.{Core}
use Rattle.cores.specs.State.{fresh_of, with_regs, with_sreg}

-- a core of these registers; its other fields are a fresh core's, and play no part
abbrev pub holding : List ℕ → Core
holding rs = with_regs (fresh_of 0) rs

-- and of this SREG
abbrev pub lent : List ℕ → ℕ → Core
lent rs s = with_sreg (holding rs) s
