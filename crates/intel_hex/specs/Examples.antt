-- Small files, each with its answer, and what the writer makes of a program.
-- t is a text, n a line's number.
use Rattle.std.specs.Prelude.{◌≡◌, List, [], ◌∷◌, ◌++◌, ℕ, replicate}
use Prim.Native.String.{String}
use Rattle.basis.specs.Text.{text, line}
use Rattle.intel_hex.specs.Reading.{answer, read_of, program_of}
use Rattle.intel_hex.specs.Writing.{written, text_of, write_of}

abbrev cr_lf : String → List ℕ
cr_lf t = text t ++ (13 ∷ 10 ∷ [])

abbrev end_record : String
end_record = ":00000001FF"

-- the answer for a text into a buffer of 4 bytes
abbrev Gives : List ℕ → ℕ → ℕ → Type 0
Gives t refusal n = read_of t 4 ≡ answer refusal n

-- small letters, a gap, CR LF, the last LF missing, and an end record at another address than 0
abbrev good : List ℕ
good = cr_lf ":01000000ab54" ++ line ":020002000cAd43" ++ text ":00123401B9"

pub record Examples : Type 0 where
  pub bytes : program_of good (1 ∷ 2 ∷ 3 ∷ 4 ∷ []) ≡ 0xAB ∷ 0xFF ∷ 0x0C ∷ 0xAD ∷ []
  pub read : Gives good 0 0
  pub no_text : Gives [] 56 1
  pub character : Gives (line ":0100000G00FF") 50 1
  pub cr_without_lf : Gives (text end_record ++ (13 ∷ [])) 50 1
  pub two_crs : Gives (text end_record ++ (13 ∷ 13 ∷ 10 ∷ [])) 50 1
  pub no_line : Gives (line ":0100000000FF" ++ line "" ++ line end_record) 51 2
  pub odd : Gives (line ":00000001F") 51 1
  pub end_with_data : Gives (line ":0100000100FE") 51 1
  pub sum : Gives (line ":0100000000FE") 52 1
  pub type_04 : Gives (line ":020000040000FA") 53 1
  pub outside_and_falling : Gives (line ":0100030000FC" ++ line ":0100040000FB") 54 2
  pub falling : Gives (line ":0100030000FC" ++ line ":0100020000FD") 55 2
  pub no_bytes_far_out : Gives (line ":00FFFF0002" ++ line end_record) 0 0
  pub no_end : Gives (line ":0100000000FF") 56 2
  pub behind_end : Gives (line end_record ++ line "") 56 2
  pub large : read_of [] 65537 ≡ answer 57 0
  -- 17 bytes are two lines and the end record
  pub seventeen : text_of (replicate 17 0xA5) ≡ line ":10000000A5A5A5A5A5A5A5A5A5A5A5A5A5A5A5A5A0" ++ line ":01001000A54A" ++ line end_record
  pub nothing : text_of [] ≡ line end_record
  pub short : write_of [] 11 ≡ written 58 0
