-- The manual's names in the order of the enum; the Rust's forms of LD, LDD, LPM, ST and STD have one name, and a word that is undefined is shown as a word.
use Rattle.std.specs.Prelude.{ℕ, List, [], ◌∷◌, slice_index_or}
use Prim.Native.String.{String}
use Rattle.basis.specs.Text.{text}

abbrev pub names : List String
names =
    "ADC" ∷ "ADD" ∷ "ADIW" ∷ "AND" ∷ "ANDI" ∷ "ASR" ∷ "BCLR" ∷ "BLD" ∷ "BRBC" ∷ "BRBS" ∷ "BREAK" ∷ "BSET" ∷
    "BST" ∷ "CALL" ∷ "CBI" ∷ "COM" ∷ "CP" ∷ "CPC" ∷ "CPI" ∷ "CPSE" ∷ "DEC" ∷ "EOR" ∷ "FMUL" ∷ "FMULS" ∷
    "FMULSU" ∷ "ICALL" ∷ "IJMP" ∷ "IN" ∷ "INC" ∷ "JMP" ∷ "LD" ∷ "LD" ∷ "LD" ∷ "LD" ∷ "LD" ∷ "LD" ∷
    "LD" ∷ "LDD" ∷ "LDD" ∷ "LDI" ∷ "LDS" ∷ "LPM" ∷ "LPM" ∷ "LPM" ∷ "LSL" ∷ "LSR" ∷ "MOV" ∷ "MOVW" ∷
    "MUL" ∷ "MULS" ∷ "MULSU" ∷ "NEG" ∷ "NOP" ∷ "OR" ∷ "ORI" ∷ "OUT" ∷ "POP" ∷ "PUSH" ∷ "RCALL" ∷ "RET" ∷
    "RETI" ∷ "RJMP" ∷ "ROR" ∷ "SBC" ∷ "SBCI" ∷ "SBI" ∷ "SBIC" ∷ "SBIS" ∷ "SBIW" ∷ "SBRC" ∷ "SBRS" ∷ "SLEEP" ∷
    "ST" ∷ "ST" ∷ "ST" ∷ "ST" ∷ "ST" ∷ "ST" ∷ "ST" ∷ "STD" ∷ "STD" ∷ "STS" ∷ "SUB" ∷ "SUBI" ∷
    "SWAP" ∷ "WDR" ∷ ".word" ∷ []

-- the name at a place, and none behind the last
unfoldable pub name_text : ℕ → List ℕ
name_text n = text (slice_index_or names n "")
