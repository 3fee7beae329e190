-- The name of each instruction, computed.
use Rattle.std.proofs.Common.{refl}
use Rattle.listing.specs.Names.{name_text}
use Rattle.listing.proofs.shown.shown_of.Goals as goal

pub returns-in-ADC-clause-name : goal.returns-in-ADC-clause-name
returns-in-ADC-clause-name c = unfold name_text in rw c.in-ADC.is refl

pub returns-in-ADD-clause-name : goal.returns-in-ADD-clause-name
returns-in-ADD-clause-name c = unfold name_text in rw c.in-ADD.is refl

pub returns-in-ADIW-clause-name : goal.returns-in-ADIW-clause-name
returns-in-ADIW-clause-name c = unfold name_text in rw c.in-ADIW.is refl

pub returns-in-AND-clause-name : goal.returns-in-AND-clause-name
returns-in-AND-clause-name c = unfold name_text in rw c.in-AND.is refl

pub returns-in-ANDI-clause-name : goal.returns-in-ANDI-clause-name
returns-in-ANDI-clause-name c = unfold name_text in rw c.in-ANDI.is refl

pub returns-in-ASR-clause-name : goal.returns-in-ASR-clause-name
returns-in-ASR-clause-name c = unfold name_text in rw c.in-ASR.is refl

pub returns-in-BCLR-clause-name : goal.returns-in-BCLR-clause-name
returns-in-BCLR-clause-name c = unfold name_text in rw c.in-BCLR.is refl

pub returns-in-BLD-clause-name : goal.returns-in-BLD-clause-name
returns-in-BLD-clause-name c = unfold name_text in rw c.in-BLD.is refl

pub returns-in-BRBC-clause-name : goal.returns-in-BRBC-clause-name
returns-in-BRBC-clause-name c = unfold name_text in rw c.in-BRBC.is refl

pub returns-in-BRBS-clause-name : goal.returns-in-BRBS-clause-name
returns-in-BRBS-clause-name c = unfold name_text in rw c.in-BRBS.is refl

pub returns-in-BREAK-clause-name : goal.returns-in-BREAK-clause-name
returns-in-BREAK-clause-name c = unfold name_text in rw c.in-BREAK.is refl

pub returns-in-BSET-clause-name : goal.returns-in-BSET-clause-name
returns-in-BSET-clause-name c = unfold name_text in rw c.in-BSET.is refl

pub returns-in-BST-clause-name : goal.returns-in-BST-clause-name
returns-in-BST-clause-name c = unfold name_text in rw c.in-BST.is refl

pub returns-in-CALL-clause-name : goal.returns-in-CALL-clause-name
returns-in-CALL-clause-name c = unfold name_text in rw c.in-CALL.is refl

pub returns-in-CBI-clause-name : goal.returns-in-CBI-clause-name
returns-in-CBI-clause-name c = unfold name_text in rw c.in-CBI.is refl

pub returns-in-COM-clause-name : goal.returns-in-COM-clause-name
returns-in-COM-clause-name c = unfold name_text in rw c.in-COM.is refl

pub returns-in-CP-clause-name : goal.returns-in-CP-clause-name
returns-in-CP-clause-name c = unfold name_text in rw c.in-CP.is refl

pub returns-in-CPC-clause-name : goal.returns-in-CPC-clause-name
returns-in-CPC-clause-name c = unfold name_text in rw c.in-CPC.is refl

pub returns-in-CPI-clause-name : goal.returns-in-CPI-clause-name
returns-in-CPI-clause-name c = unfold name_text in rw c.in-CPI.is refl

pub returns-in-CPSE-clause-name : goal.returns-in-CPSE-clause-name
returns-in-CPSE-clause-name c = unfold name_text in rw c.in-CPSE.is refl

pub returns-in-DEC-clause-name : goal.returns-in-DEC-clause-name
returns-in-DEC-clause-name c = unfold name_text in rw c.in-DEC.is refl

pub returns-in-EOR-clause-name : goal.returns-in-EOR-clause-name
returns-in-EOR-clause-name c = unfold name_text in rw c.in-EOR.is refl

pub returns-in-FMUL-clause-name : goal.returns-in-FMUL-clause-name
returns-in-FMUL-clause-name c = unfold name_text in rw c.in-FMUL.is refl

pub returns-in-FMULS-clause-name : goal.returns-in-FMULS-clause-name
returns-in-FMULS-clause-name c = unfold name_text in rw c.in-FMULS.is refl

pub returns-in-FMULSU-clause-name : goal.returns-in-FMULSU-clause-name
returns-in-FMULSU-clause-name c = unfold name_text in rw c.in-FMULSU.is refl

pub returns-in-ICALL-clause-name : goal.returns-in-ICALL-clause-name
returns-in-ICALL-clause-name c = unfold name_text in rw c.in-ICALL.is refl

pub returns-in-IJMP-clause-name : goal.returns-in-IJMP-clause-name
returns-in-IJMP-clause-name c = unfold name_text in rw c.in-IJMP.is refl

pub returns-in-IN-clause-name : goal.returns-in-IN-clause-name
returns-in-IN-clause-name c = unfold name_text in rw c.in-IN.is refl

pub returns-in-INC-clause-name : goal.returns-in-INC-clause-name
returns-in-INC-clause-name c = unfold name_text in rw c.in-INC.is refl

pub returns-in-JMP-clause-name : goal.returns-in-JMP-clause-name
returns-in-JMP-clause-name c = unfold name_text in rw c.in-JMP.is refl

pub returns-in-LDX-clause-name : goal.returns-in-LDX-clause-name
returns-in-LDX-clause-name c = unfold name_text in rw c.in-LDX.is refl

pub returns-in-LDXinc-clause-name : goal.returns-in-LDXinc-clause-name
returns-in-LDXinc-clause-name c = unfold name_text in rw c.in-LDXinc.is refl

pub returns-in-LDXdec-clause-name : goal.returns-in-LDXdec-clause-name
returns-in-LDXdec-clause-name c = unfold name_text in rw c.in-LDXdec.is refl

pub returns-in-LDYinc-clause-name : goal.returns-in-LDYinc-clause-name
returns-in-LDYinc-clause-name c = unfold name_text in rw c.in-LDYinc.is refl

pub returns-in-LDYdec-clause-name : goal.returns-in-LDYdec-clause-name
returns-in-LDYdec-clause-name c = unfold name_text in rw c.in-LDYdec.is refl

pub returns-in-LDZinc-clause-name : goal.returns-in-LDZinc-clause-name
returns-in-LDZinc-clause-name c = unfold name_text in rw c.in-LDZinc.is refl

pub returns-in-LDZdec-clause-name : goal.returns-in-LDZdec-clause-name
returns-in-LDZdec-clause-name c = unfold name_text in rw c.in-LDZdec.is refl

pub returns-in-LDDY-clause-name : goal.returns-in-LDDY-clause-name
returns-in-LDDY-clause-name c = unfold name_text in rw c.in-LDDY.is refl

pub returns-in-LDDZ-clause-name : goal.returns-in-LDDZ-clause-name
returns-in-LDDZ-clause-name c = unfold name_text in rw c.in-LDDZ.is refl

pub returns-in-LDI-clause-name : goal.returns-in-LDI-clause-name
returns-in-LDI-clause-name c = unfold name_text in rw c.in-LDI.is refl

pub returns-in-LDS-clause-name : goal.returns-in-LDS-clause-name
returns-in-LDS-clause-name c = unfold name_text in rw c.in-LDS.is refl

pub returns-in-LPM-clause-name : goal.returns-in-LPM-clause-name
returns-in-LPM-clause-name c = unfold name_text in rw c.in-LPM.is refl

pub returns-in-LPMZ-clause-name : goal.returns-in-LPMZ-clause-name
returns-in-LPMZ-clause-name c = unfold name_text in rw c.in-LPMZ.is refl

pub returns-in-LPMZinc-clause-name : goal.returns-in-LPMZinc-clause-name
returns-in-LPMZinc-clause-name c = unfold name_text in rw c.in-LPMZinc.is refl

pub returns-in-LSL-clause-name : goal.returns-in-LSL-clause-name
returns-in-LSL-clause-name c = unfold name_text in rw c.in-LSL.is refl

pub returns-in-LSR-clause-name : goal.returns-in-LSR-clause-name
returns-in-LSR-clause-name c = unfold name_text in rw c.in-LSR.is refl

pub returns-in-MOV-clause-name : goal.returns-in-MOV-clause-name
returns-in-MOV-clause-name c = unfold name_text in rw c.in-MOV.is refl

pub returns-in-MOVW-clause-name : goal.returns-in-MOVW-clause-name
returns-in-MOVW-clause-name c = unfold name_text in rw c.in-MOVW.is refl

pub returns-in-MUL-clause-name : goal.returns-in-MUL-clause-name
returns-in-MUL-clause-name c = unfold name_text in rw c.in-MUL.is refl

pub returns-in-MULS-clause-name : goal.returns-in-MULS-clause-name
returns-in-MULS-clause-name c = unfold name_text in rw c.in-MULS.is refl

pub returns-in-MULSU-clause-name : goal.returns-in-MULSU-clause-name
returns-in-MULSU-clause-name c = unfold name_text in rw c.in-MULSU.is refl

pub returns-in-NEG-clause-name : goal.returns-in-NEG-clause-name
returns-in-NEG-clause-name c = unfold name_text in rw c.in-NEG.is refl

pub returns-in-NOP-clause-name : goal.returns-in-NOP-clause-name
returns-in-NOP-clause-name c = unfold name_text in rw c.in-NOP.is refl

pub returns-in-OR-clause-name : goal.returns-in-OR-clause-name
returns-in-OR-clause-name c = unfold name_text in rw c.in-OR.is refl

pub returns-in-ORI-clause-name : goal.returns-in-ORI-clause-name
returns-in-ORI-clause-name c = unfold name_text in rw c.in-ORI.is refl

pub returns-in-OUT-clause-name : goal.returns-in-OUT-clause-name
returns-in-OUT-clause-name c = unfold name_text in rw c.in-OUT.is refl

pub returns-in-POP-clause-name : goal.returns-in-POP-clause-name
returns-in-POP-clause-name c = unfold name_text in rw c.in-POP.is refl

pub returns-in-PUSH-clause-name : goal.returns-in-PUSH-clause-name
returns-in-PUSH-clause-name c = unfold name_text in rw c.in-PUSH.is refl

pub returns-in-RCALL-clause-name : goal.returns-in-RCALL-clause-name
returns-in-RCALL-clause-name c = unfold name_text in rw c.in-RCALL.is refl

pub returns-in-RET-clause-name : goal.returns-in-RET-clause-name
returns-in-RET-clause-name c = unfold name_text in rw c.in-RET.is refl

pub returns-in-RETI-clause-name : goal.returns-in-RETI-clause-name
returns-in-RETI-clause-name c = unfold name_text in rw c.in-RETI.is refl

pub returns-in-RJMP-clause-name : goal.returns-in-RJMP-clause-name
returns-in-RJMP-clause-name c = unfold name_text in rw c.in-RJMP.is refl

pub returns-in-ROR-clause-name : goal.returns-in-ROR-clause-name
returns-in-ROR-clause-name c = unfold name_text in rw c.in-ROR.is refl

pub returns-in-SBC-clause-name : goal.returns-in-SBC-clause-name
returns-in-SBC-clause-name c = unfold name_text in rw c.in-SBC.is refl

pub returns-in-SBCI-clause-name : goal.returns-in-SBCI-clause-name
returns-in-SBCI-clause-name c = unfold name_text in rw c.in-SBCI.is refl

pub returns-in-SBI-clause-name : goal.returns-in-SBI-clause-name
returns-in-SBI-clause-name c = unfold name_text in rw c.in-SBI.is refl

pub returns-in-SBIC-clause-name : goal.returns-in-SBIC-clause-name
returns-in-SBIC-clause-name c = unfold name_text in rw c.in-SBIC.is refl

pub returns-in-SBIS-clause-name : goal.returns-in-SBIS-clause-name
returns-in-SBIS-clause-name c = unfold name_text in rw c.in-SBIS.is refl

pub returns-in-SBIW-clause-name : goal.returns-in-SBIW-clause-name
returns-in-SBIW-clause-name c = unfold name_text in rw c.in-SBIW.is refl

pub returns-in-SBRC-clause-name : goal.returns-in-SBRC-clause-name
returns-in-SBRC-clause-name c = unfold name_text in rw c.in-SBRC.is refl

pub returns-in-SBRS-clause-name : goal.returns-in-SBRS-clause-name
returns-in-SBRS-clause-name c = unfold name_text in rw c.in-SBRS.is refl

pub returns-in-SLEEP-clause-name : goal.returns-in-SLEEP-clause-name
returns-in-SLEEP-clause-name c = unfold name_text in rw c.in-SLEEP.is refl

pub returns-in-STX-clause-name : goal.returns-in-STX-clause-name
returns-in-STX-clause-name c = unfold name_text in rw c.in-STX.is refl

pub returns-in-STXdec-clause-name : goal.returns-in-STXdec-clause-name
returns-in-STXdec-clause-name c = unfold name_text in rw c.in-STXdec.is refl

pub returns-in-STXinc-clause-name : goal.returns-in-STXinc-clause-name
returns-in-STXinc-clause-name c = unfold name_text in rw c.in-STXinc.is refl

pub returns-in-STYdec-clause-name : goal.returns-in-STYdec-clause-name
returns-in-STYdec-clause-name c = unfold name_text in rw c.in-STYdec.is refl

pub returns-in-STYinc-clause-name : goal.returns-in-STYinc-clause-name
returns-in-STYinc-clause-name c = unfold name_text in rw c.in-STYinc.is refl

pub returns-in-STZdec-clause-name : goal.returns-in-STZdec-clause-name
returns-in-STZdec-clause-name c = unfold name_text in rw c.in-STZdec.is refl

pub returns-in-STZinc-clause-name : goal.returns-in-STZinc-clause-name
returns-in-STZinc-clause-name c = unfold name_text in rw c.in-STZinc.is refl

pub returns-in-STDY-clause-name : goal.returns-in-STDY-clause-name
returns-in-STDY-clause-name c = unfold name_text in rw c.in-STDY.is refl

pub returns-in-STDZ-clause-name : goal.returns-in-STDZ-clause-name
returns-in-STDZ-clause-name c = unfold name_text in rw c.in-STDZ.is refl

pub returns-in-STS-clause-name : goal.returns-in-STS-clause-name
returns-in-STS-clause-name c = unfold name_text in rw c.in-STS.is refl

pub returns-in-SUB-clause-name : goal.returns-in-SUB-clause-name
returns-in-SUB-clause-name c = unfold name_text in rw c.in-SUB.is refl

pub returns-in-SUBI-clause-name : goal.returns-in-SUBI-clause-name
returns-in-SUBI-clause-name c = unfold name_text in rw c.in-SUBI.is refl

pub returns-in-SWAP-clause-name : goal.returns-in-SWAP-clause-name
returns-in-SWAP-clause-name c = unfold name_text in rw c.in-SWAP.is refl

pub returns-in-WDR-clause-name : goal.returns-in-WDR-clause-name
returns-in-WDR-clause-name c = unfold name_text in rw c.in-WDR.is refl

pub returns-in-UNDEF-clause-name : goal.returns-in-UNDEF-clause-name
returns-in-UNDEF-clause-name c = unfold name_text in rw c.in-UNDEF.is refl
