-- 02, W8: "a program that lists a program slice, one instruction a line, with word address and operands."
-- p is a program, a a word address, w a word, v the word behind it, i an instruction, x and y are operands, z is a row, n a number; the letters of fields are those of the patterns of `decode`.
use Rattle.std.specs.Prelude.{ℕ, zero, suc, ◌+◌, ◌*◌, ◌/◌, ◌%◌, List, [], ◌∷◌, ◌++◌, length, nat_lt, slice_index}
use Rattle.basis.specs.Bit.{up}
use Rattle.basis.specs.Pick.{pick}
use Rattle.basis.specs.Text.{text, line}
use Rattle.page.specs.Numbers.{hex2, hex4, decimal}
use Rattle.alu.specs.Alu.{signed_of}
use Rattle.memory.specs.Memory.{program_word_of, has_word_of}
use Rattle.instruction.specs.Code.{code, two_words}
use Rattle.instruction.specs.Decode.{decode_of}
use Rattle.instruction.specs.declared.Instruction.{Instruction}
use Rattle.instruction.specs.declared.Instruction.TheVariants.{ADC, ADD, ADIW, AND, ANDI, ASR, BCLR, BLD, BRBC, BRBS, BREAK, BSET, BST, CALL, CBI, COM, CP, CPC, CPI, CPSE, DEC, EOR, FMUL, FMULS, FMULSU, ICALL, IJMP, IN, INC, JMP, LDX, LDXinc, LDXdec, LDYinc, LDYdec, LDZinc, LDZdec, LDDY, LDDZ, LDI, LDS, LPM, LPMZ, LPMZinc, LSL, LSR, MOV, MOVW, MUL, MULS, MULSU, NEG, NOP, OR, ORI, OUT, POP, PUSH, RCALL, RET, RETI, RJMP, ROR, SBC, SBCI, SBI, SBIC, SBIS, SBIW, SBRC, SBRS, SLEEP, STX, STXdec, STXinc, STYdec, STYinc, STZdec, STZinc, STDY, STDZ, STS, SUB, SUBI, SWAP, WDR, UNDEF}
use Rattle.listing.specs.declared.operand.Operand.{Operand}
use Rattle.listing.specs.declared.operand.Operand.TheVariants.{Register, Pair, Byte, Word, Target, Number, Branch, Relative, X, XInc, XDec, YInc, YDec, YPlus, Z, ZInc, ZDec, ZPlus}
use Rattle.listing.specs.declared.row.Row.{Row}
use Rattle.listing.specs.declared.row.Row.TheVariants.{Lone, Single, Double}
use Rattle.listing.specs.Names.{name_text}

-- ---- operands
-- "relative targets as the word address they go to (wrapped at 65,536)": from behind the instruction at a
abbrev pub ahead : ℕ → ℕ → ℕ
ahead a offset = up (up a 1) offset

-- "registers `R16`, pairs by both `R25:R24`"
abbrev pub register_text : ℕ → List ℕ
register_text d = text "R" ++ decimal d

abbrev pub pair_text : ℕ → List ℕ
pair_text d = register_text (d + 1) ++ text ":" ++ register_text d

-- "constants and I/O addresses `0x05`, data addresses `0x0100`"
abbrev pub byte_text : ℕ → List ℕ
byte_text n = text "0x" ++ hex2 n

abbrev pub word_text : ℕ → List ℕ
word_text n = text "0x" ++ hex4 n

-- "JMP and CALL by all 22 bits"
abbrev pub target_text : ℕ → List ℕ
target_text k = byte_text (k / 65536) ++ hex4 (k % 65536)

-- "pointers `X` `X+` `-X` `Y+5`"; the letter Y is 89, Z is 90
abbrev pub displaced_text : ℕ → ℕ → List ℕ
displaced_text pointer q = (pointer ∷ []) ++ text "+" ++ decimal q

-- "bits and flags decimal"
abbrev pub operand_text : ℕ → Operand → List ℕ
operand_text a (Register d) = register_text d
operand_text a (Pair d) = pair_text d
operand_text a (Byte K) = byte_text K
operand_text a (Word k) = word_text k
operand_text a (Target k) = target_text k
operand_text a (Number b) = decimal b
operand_text a (Branch k) = word_text (ahead a (signed_of k))
operand_text a (Relative k) = word_text (ahead a k)
operand_text a X = text "X"
operand_text a XInc = text "X+"
operand_text a XDec = text "-X"
operand_text a YInc = text "Y+"
operand_text a YDec = text "-Y"
operand_text a (YPlus q) = displaced_text 89 q
operand_text a Z = text "Z"
operand_text a ZInc = text "Z+"
operand_text a ZDec = text "-Z"
operand_text a (ZPlus q) = displaced_text 90 q

-- ---- an instruction
-- its operands, in the order of the enum; "Undefined words .. as `.word`": by the word itself
unfoldable pub operands_of : ℕ → Instruction → List Operand
operands_of w (ADC d r) = Register d ∷ Register r ∷ []
operands_of w (ADD d r) = Register d ∷ Register r ∷ []
operands_of w (ADIW d K) = Pair d ∷ Byte K ∷ []
operands_of w (AND d r) = Register d ∷ Register r ∷ []
operands_of w (ANDI d K) = Register d ∷ Byte K ∷ []
operands_of w (ASR d) = Register d ∷ []
operands_of w (BCLR s) = Number s ∷ []
operands_of w (BLD d b) = Register d ∷ Number b ∷ []
operands_of w (BRBC s k) = Number s ∷ Branch k ∷ []
operands_of w (BRBS s k) = Number s ∷ Branch k ∷ []
operands_of w BREAK = []
operands_of w (BSET s) = Number s ∷ []
operands_of w (BST d b) = Register d ∷ Number b ∷ []
operands_of w (CALL k) = Target k ∷ []
operands_of w (CBI A b) = Byte A ∷ Number b ∷ []
operands_of w (COM d) = Register d ∷ []
operands_of w (CP d r) = Register d ∷ Register r ∷ []
operands_of w (CPC d r) = Register d ∷ Register r ∷ []
operands_of w (CPI d K) = Register d ∷ Byte K ∷ []
operands_of w (CPSE d r) = Register d ∷ Register r ∷ []
operands_of w (DEC d) = Register d ∷ []
operands_of w (EOR d r) = Register d ∷ Register r ∷ []
operands_of w (FMUL d r) = Register d ∷ Register r ∷ []
operands_of w (FMULS d r) = Register d ∷ Register r ∷ []
operands_of w (FMULSU d r) = Register d ∷ Register r ∷ []
operands_of w ICALL = []
operands_of w IJMP = []
operands_of w (IN d A) = Register d ∷ Byte A ∷ []
operands_of w (INC d) = Register d ∷ []
operands_of w (JMP k) = Target k ∷ []
operands_of w (LDX d) = Register d ∷ X ∷ []
operands_of w (LDXinc d) = Register d ∷ XInc ∷ []
operands_of w (LDXdec d) = Register d ∷ XDec ∷ []
operands_of w (LDYinc d) = Register d ∷ YInc ∷ []
operands_of w (LDYdec d) = Register d ∷ YDec ∷ []
operands_of w (LDZinc d) = Register d ∷ ZInc ∷ []
operands_of w (LDZdec d) = Register d ∷ ZDec ∷ []
operands_of w (LDDY d q) = Register d ∷ YPlus q ∷ []
operands_of w (LDDZ d q) = Register d ∷ ZPlus q ∷ []
operands_of w (LDI d K) = Register d ∷ Byte K ∷ []
operands_of w (LDS d k) = Register d ∷ Word k ∷ []
operands_of w LPM = []
operands_of w (LPMZ d) = Register d ∷ Z ∷ []
operands_of w (LPMZinc d) = Register d ∷ ZInc ∷ []
operands_of w (LSL d) = Register d ∷ []
operands_of w (LSR d) = Register d ∷ []
operands_of w (MOV d r) = Register d ∷ Register r ∷ []
operands_of w (MOVW d r) = Pair d ∷ Pair r ∷ []
operands_of w (MUL d r) = Register d ∷ Register r ∷ []
operands_of w (MULS d r) = Register d ∷ Register r ∷ []
operands_of w (MULSU d r) = Register d ∷ Register r ∷ []
operands_of w (NEG d) = Register d ∷ []
operands_of w NOP = []
operands_of w (OR d r) = Register d ∷ Register r ∷ []
operands_of w (ORI d K) = Register d ∷ Byte K ∷ []
operands_of w (OUT A r) = Byte A ∷ Register r ∷ []
operands_of w (POP d) = Register d ∷ []
operands_of w (PUSH d) = Register d ∷ []
operands_of w (RCALL k) = Relative k ∷ []
operands_of w RET = []
operands_of w RETI = []
operands_of w (RJMP k) = Relative k ∷ []
operands_of w (ROR d) = Register d ∷ []
operands_of w (SBC d r) = Register d ∷ Register r ∷ []
operands_of w (SBCI d K) = Register d ∷ Byte K ∷ []
operands_of w (SBI A b) = Byte A ∷ Number b ∷ []
operands_of w (SBIC A b) = Byte A ∷ Number b ∷ []
operands_of w (SBIS A b) = Byte A ∷ Number b ∷ []
operands_of w (SBIW d K) = Pair d ∷ Byte K ∷ []
operands_of w (SBRC r b) = Register r ∷ Number b ∷ []
operands_of w (SBRS r b) = Register r ∷ Number b ∷ []
operands_of w SLEEP = []
operands_of w (STX r) = X ∷ Register r ∷ []
operands_of w (STXdec r) = XDec ∷ Register r ∷ []
operands_of w (STXinc r) = XInc ∷ Register r ∷ []
operands_of w (STYdec r) = YDec ∷ Register r ∷ []
operands_of w (STYinc r) = YInc ∷ Register r ∷ []
operands_of w (STZdec r) = ZDec ∷ Register r ∷ []
operands_of w (STZinc r) = ZInc ∷ Register r ∷ []
operands_of w (STDY q r) = YPlus q ∷ Register r ∷ []
operands_of w (STDZ q r) = ZPlus q ∷ Register r ∷ []
operands_of w (STS k r) = Word k ∷ Register r ∷ []
operands_of w (SUB d r) = Register d ∷ Register r ∷ []
operands_of w (SUBI d K) = Register d ∷ Byte K ∷ []
operands_of w (SWAP d) = Register d ∷ []
operands_of w WDR = []
operands_of w UNDEF = Word w ∷ []

-- two operands at most
abbrev pub operands_text : ℕ → List Operand → List ℕ
operands_text a [] = []
operands_text a (x ∷ []) = text " " ++ operand_text a x
operands_text a (x ∷ y ∷ xs) = text " " ++ operand_text a x ++ text ", " ++ operand_text a y

-- "the manual's name, operands": of the instruction i at a, whose first word is w
abbrev pub shown_of : ℕ → ℕ → Instruction → List ℕ
shown_of a w i = name_text (code i).0 ++ operands_text a (operands_of w i)

-- ---- a line
-- what stands at a: "Undefined words, a first word whose second is missing and a lone last byte as `.word` and `.byte`". One whose second is missing counts as undefined
abbrev pub whole_at : List ℕ → ℕ → Instruction → Row
whole_at p a i =
    let w = program_word_of p a in
    pick (two_words i) (pick (has_word_of p (a + 1)) (Double w (program_word_of p (a + 1)) i) (Single w UNDEF)) (Single w i)

abbrev pub row_at : List ℕ → ℕ → Row
row_at p a = pick (has_word_of p a) (whole_at p a (decode_of (program_word_of p a) (program_word_of p (a + 1)))) (Lone (slice_index p (a * 2)))

-- "words in hex", and from the sixteenth column on what they say
abbrev pub row_text : ℕ → Row → List ℕ
row_text a (Lone n) = hex2 n ++ text "        .byte 0x" ++ hex2 n
row_text a (Single w i) = hex4 w ++ text "      " ++ shown_of a w i
row_text a (Double w v i) = hex4 w ++ text " " ++ hex4 v ++ text " " ++ shown_of a w i

-- "word address (four hex digits)"
abbrev pub line_text : ℕ → Row → List ℕ
line_text a z = hex4 a ++ text " " ++ row_text a z ++ (10 ∷ [])

-- ---- the listing
-- "The listing steps over second words"
abbrev pub words_in : Row → ℕ
words_in (Lone n) = 1
words_in (Single w i) = 1
words_in (Double w v i) = 2

-- a row, and where it stands
pub record Line : Type 0 where
  pub at : ℕ
  pub row : Row

-- the lines from a on, of which there are at most n
unfoldable pub lines_from : ℕ → List ℕ → ℕ → List Line
lines_from zero p a = []
lines_from (suc n) p a =
    let z = row_at p a in
    pick (nat_lt (a * 2) (length p)) (record { at = a; row = z } ∷ lines_from n p (a + words_in z)) []

-- of a program: at most a line a word, a lone byte counted too
abbrev pub lines_of : List ℕ → List Line
lines_of p = lines_from ((length p + 1) / 2) p 0

abbrev pub text_of : List Line → List ℕ
text_of [] = []
text_of (l ∷ ls) = line_text l.at l.row ++ text_of ls

-- "Bytes past 131,072 have no word address: refuse such an input as `trace` refuses its own."
abbrev pub listing_of : List ℕ → List ℕ
listing_of p = pick (nat_lt 131072 (length p)) (line "bad input") (text_of (lines_of p))
