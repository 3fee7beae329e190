-- `tick` of cores.rs, 1215 to 1373, statement by statement, and `service_pending` of cpuint.rs; printing is left out.
-- What may `return` from the middle of `tick` is a part of its own here, which says whether it did.
use Rattle.std.specs.Prelude.{Bool, true, false, ◌+◌, ltb, Some, None}
use Rattle.tick.specs.Offer.{Offer}
use Rattle.instruction.specs.declared.Instruction.{Instruction}
use Rattle.instruction.specs.declared.Instruction.TheVariants.{ADC, ADD, ADIW, AND, ANDI, ASR, BCLR, BLD, BRBC, BRBS, BREAK, BSET, BST, CALL, CBI, COM, CP, CPC, CPI, CPSE, DEC, EOR, FMUL, FMULS, FMULSU, ICALL, IJMP, IN, INC, JMP, LDX, LDXinc, LDXdec, LDYinc, LDYdec, LDZinc, LDZdec, LDDY, LDDZ, LDI, LDS, LPM, LPMZ, LPMZinc, LSL, LSR, MOV, MOVW, MUL, MULS, MULSU, NEG, NOP, OR, ORI, OUT, POP, PUSH, RCALL, RET, RETI, RJMP, ROR, SBC, SBCI, SBI, SBIC, SBIS, SBIW, SBRC, SBRS, SLEEP, STX, STXdec, STXinc, STYdec, STYinc, STZdec, STZinc, STDY, STDZ, STS, SUB, SUBI, SWAP, WDR, UNDEF}
use Rattle.source_decode.specs.RustDecode.{rust_decode}
use Rattle.source.specs.Monad.{Rust, ◌>>=◌, ◌>>◌, return, if'◌then◌else◌, when, self_pc, self_sp, self_busy, self_interupt_inhibit, self_lvl0ex, self_pending, pc=, busy=, interupt_inhibit=, lvl0ex=}
use Rattle.source.specs.Integers.{◌-u8◌, ◌>>u16◌, as_u8, pc+=, sp-=}
use Rattle.source.specs.Registers.{ds_write, get_progmem, get_progmem_unused, BitSREG::I, get_sreg_bit}
use Rattle.source.specs.CallJmpLdsSts.{CALL|JMP|LDS|STS}
use Rattle.source.specs.Arithmetic.{adc, add, adiw, and, andi, «com», dec, eor, fmul, fmuls, fmulsu, inc, mul, muls, mulsu, neg, or, ori, sbc, sbci, sbiw, sub, subi}
use Rattle.source.specs.Flow.{brbx, call, cp, cpc, cpi, cpse, icall, ijmp, jmp, rcall, ret, reti, rjmp, sbix, sbrx}
use Rattle.source.specs.Bits.{asr, bclr, bld, bset, bst, cbi, lsl, lsr, ror, sbi, swap}
use Rattle.source.specs.Transfer.{PointerRegister::X, PointerRegister::Y, PointerRegister::Z, in_, ld, st, ldi, lds, lpm, mov, movw, out, pop, push, sts}

-- cpuint.rs 64, with 01's one source: what it offers. `self.vectors` is a table of 30 even numbers, and its entry is what is returned; here any vector stands for
-- that entry, so that the theorem holds for this table and for every other
unfoldable pub service_pending : Rust Offer
service_pending = do
  lvl0ex ← self_lvl0ex
  if' lvl0ex then return None else (do
    pending ← self_pending
    elim pending [
      | Some v ↦ (do lvl0ex= true; return (Some v))
      | None ↦ return None
    ])

-- 1235 to 1244, `if let Some(address) = vector`, and whether it returned from `tick`, with true
unfoldable pub entered_by : Offer → Rust Bool
entered_by (Some address) = do
  ds_write (← self_sp) (as_u8 (← self_pc))
  sp-= 1
  ds_write (← self_sp) (as_u8 (← (← self_pc) >>u16 8))
  sp-= 1
  pc= address
  busy= 4
  return true
entered_by None = return false

-- 1227 to 1246, HANDLE INTERRUPTS, and whether it returned from `tick`, with true
unfoldable pub handle_interrupts : Rust Bool
handle_interrupts = do
  inhibit ← self_interupt_inhibit
  if' inhibit
      then (do
        interupt_inhibit= false  -- 1230
        return false)
      else (do
        I ← get_sreg_bit BitSREG::I
        if' I then (do vector ← service_pending; entered_by vector) else return false)

-- 1265 to 1372, the `match`, and what `tick` returns
unfoldable pub dispatch : Instruction → Rust Bool
-- Arithmetic and Logic Instructions
dispatch (ADC d r) = do adc d r; return true  -- 1267
dispatch (ADD d r) = do add d r; return true  -- 1268
dispatch (ADIW d K) = do adiw d K; return true  -- 1269
dispatch (AND d r) = do and d r; return true  -- 1270
dispatch (ANDI d K) = do andi d K; return true  -- 1271
dispatch (COM d) = do «com» d; return true  -- 1272
dispatch (DEC d) = do dec d; return true  -- 1273
dispatch (EOR d r) = do eor d r; return true  -- 1274
dispatch (FMUL d r) = do fmul d r; return true  -- 1275
dispatch (FMULS d r) = do fmuls d r; return true  -- 1276
dispatch (FMULSU d r) = do fmulsu d r; return true  -- 1277
dispatch (INC d) = do inc d; return true  -- 1278
dispatch (MUL d r) = do mul d r; return true  -- 1279
dispatch (MULS d r) = do muls d r; return true  -- 1280
dispatch (MULSU d r) = do mulsu d r; return true  -- 1281
dispatch (NEG d) = do neg d; return true  -- 1282
dispatch (OR d r) = do or d r; return true  -- 1283
dispatch (ORI d K) = do ori d K; return true  -- 1284
dispatch (SBC d r) = do sbc d r; return true  -- 1285
dispatch (SBCI d K) = do sbci d K; return true  -- 1286
dispatch (SBIW d K) = do sbiw d K; return true  -- 1287
dispatch (SUB d r) = do sub d r; return true  -- 1288
dispatch (SUBI d K) = do subi d K; return true  -- 1289
-- Change of Flow Instructions
dispatch (BRBC s k) = do brbx s k false; return true  -- 1291
dispatch (BRBS s k) = do brbx s k true; return true  -- 1292
dispatch (CALL k) = do call k; return true  -- 1293
dispatch (CP d r) = do cp d r; return true  -- 1294
dispatch (CPC d r) = do cpc d r; return true  -- 1295
dispatch (CPI d K) = do cpi d K; return true  -- 1296
dispatch (CPSE d r) = do cpse d r; return true  -- 1297
dispatch ICALL = do icall; return true  -- 1298
dispatch IJMP = do ijmp; return true  -- 1299
dispatch (JMP k) = do jmp k; return true  -- 1300
dispatch (RCALL k) = do rcall k; return true  -- 1301
dispatch RET = do ret; return true  -- 1302
dispatch RETI = do reti; return true  -- 1303
dispatch (RJMP k) = do rjmp k; return true  -- 1304
dispatch (SBIC A b) = do sbix A b false; return true  -- 1305
dispatch (SBIS A b) = do sbix A b true; return true  -- 1306
dispatch (SBRC r b) = do sbrx r b false; return true  -- 1307
dispatch (SBRS r b) = do sbrx r b true; return true  -- 1308
-- Data Transfer Instructions
dispatch (IN d A) = do in_ d A; return true  -- 1310
dispatch (LDX d) = do ld d PointerRegister::X 0 false false; return true  -- 1311
dispatch (LDXinc d) = do ld d PointerRegister::X 0 false true; return true  -- 1312
dispatch (LDXdec d) = do ld d PointerRegister::X 0 true false; return true  -- 1313
dispatch (LDYinc d) = do ld d PointerRegister::Y 0 false true; return true  -- 1314
dispatch (LDYdec d) = do ld d PointerRegister::Y 0 true false; return true  -- 1315
dispatch (LDZinc d) = do ld d PointerRegister::Z 0 false true; return true  -- 1316
dispatch (LDZdec d) = do ld d PointerRegister::Z 0 true false; return true  -- 1317
dispatch (LDDY d q) = do ld d PointerRegister::Y q false false; return true  -- 1318
dispatch (LDDZ d q) = do ld d PointerRegister::Z q false false; return true  -- 1319
dispatch (LDI d K) = do ldi d K; return true  -- 1320
dispatch (LDS d k) = do  -- 1321
  lds d k
  pc+= 1
  return true
dispatch LPM = do lpm 0 false; return true  -- 1325
dispatch (LPMZ d) = do lpm d false; return true  -- 1326
dispatch (LPMZinc d) = do lpm d true; return true  -- 1327
dispatch (MOV d r) = do mov d r; return true  -- 1328
dispatch (MOVW d r) = do movw d r; return true  -- 1329
dispatch (OUT A r) = do out A r; return true  -- 1330
dispatch (POP d) = do pop d; return true  -- 1331
dispatch (PUSH d) = do push d; return true  -- 1332
dispatch (STX r) = do st r PointerRegister::X 0 false false; return true  -- 1333
dispatch (STXdec r) = do st r PointerRegister::X 0 true false; return true  -- 1334
dispatch (STXinc r) = do st r PointerRegister::X 0 false true; return true  -- 1335
dispatch (STYdec r) = do st r PointerRegister::Y 0 true false; return true  -- 1336
dispatch (STYinc r) = do st r PointerRegister::Y 0 false true; return true  -- 1337
dispatch (STZdec r) = do st r PointerRegister::Z 0 true false; return true  -- 1338
dispatch (STZinc r) = do st r PointerRegister::Z 0 false true; return true  -- 1339
dispatch (STDY q r) = do st r PointerRegister::Y q false false; return true  -- 1340
dispatch (STDZ q r) = do st r PointerRegister::Z q false false; return true  -- 1341
dispatch (STS k r) = do  -- 1342
  sts r k
  pc+= 1
  return true
-- Bit and Bit-Test Instructions
dispatch (ASR d) = do asr d; return true  -- 1347
dispatch (BCLR s) = do bclr s; return true  -- 1348
dispatch (BLD d b) = do bld d b; return true  -- 1349
dispatch (BSET s) = do bset s; return true  -- 1350
dispatch (BST d b) = do bst d b; return true  -- 1351
dispatch (CBI A b) = do cbi A b; return true  -- 1352
dispatch (LSL d) = do lsl d; return true  -- 1353
dispatch (LSR d) = do lsr d; return true  -- 1354
dispatch (ROR d) = do ror d; return true  -- 1355
dispatch (SBI A b) = do sbi A b; return true  -- 1356
dispatch (SWAP d) = do swap d; return true  -- 1357
-- MCU Control Instructions
dispatch BREAK = return false  -- 1359
dispatch NOP = return true  -- 1363
dispatch SLEEP = return true  -- 1364
dispatch WDR = return true  -- 1365
-- Undefined
dispatch UNDEF = return true  -- 1367

-- 1248 to 1250; `(self.pc as u32) + 1` is of a u32 and cannot overflow. By 01 the prefetched word reads 0 outside the program where op does not use it; where op does, this memory panics there
unfoldable pub fetch : Rust Instruction
fetch = do
  pc ← self_pc
  opcode ← get_progmem pc  -- 1248
  prefetch ← get_progmem_unused (pc + 1)  -- 1249
  let op = rust_decode opcode prefetch  -- 1250
  when (CALL|JMP|LDS|STS op) (do _ ← get_progmem (pc + 1); return tt)
  return op

-- 1248 to 1372; 1258 is `if let Some(result) = self.pc.checked_add(1)`
unfoldable pub execute : Rust Bool
execute = do
  op ← fetch
  pc ← self_pc
  if' ltb (pc + 1) 65536
      then (do
        let result = pc + 1
        pc= result
        dispatch op)
      else return false

unfoldable pub tick : Rust Bool  -- 1215
tick = do
  busy ← self_busy
  if' ltb 0 busy
      then (do
        busy= (← busy -u8 1)
        return true)
      else (do
        returned ← handle_interrupts
        if' returned then return true else execute)
