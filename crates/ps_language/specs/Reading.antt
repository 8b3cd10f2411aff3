-- What stands in front of a text: a token with what is left behind it, or a fault (PLRM2, 3.2,
-- appendix B).
use Rattle.std.specs.Prelude.{ℕ, ◌+◌, ◌-◌, ◌*◌, ◌^◌, ℤ, pos, negsuc, Bool, List, [], ◌∷◌, ◌++◌}
use Rattle.std.specs.Prelude.{length, nat_lt, nat_le, if◌then◌else◌, neg_ℤ}
use Rattle.ps_language.specs.Bytes.{digit_of}
use Rattle.ps_language.specs.Limits.{name_limit, sequence_limit}
use Rattle.ps_language.specs.Token.{Token, Tokens, number_token, executable_name_token}
use Rattle.ps_language.specs.Token.{string_token, procedure_token, no_tokens, more_tokens}
use Rattle.ps_language.specs.Token.{ScanFault, syntax_fault, limit_fault}

pub data Reading : Type 0 where
  token_then : (token : Token) (rest : List ℕ) → Reading
  stuck : (fault : ScanFault) → Reading

-- the end of a string: its bytes and what is left behind it
pub data Ending : Type 0 where
  string_end : (value rest : List ℕ) → Ending
  unfinished : Ending

unfoldable pub with_front : List ℕ → Ending → Ending
with_front front (string_end value rest) = string_end (front ++ value) rest
with_front front unfinished = unfinished

-- the end of a procedure: its elements and what is left behind it, or the first fault in it
pub data Tail : Type 0 where
  procedure_end : (elements : Tokens) (rest : List ℕ) → Tail
  procedure_fault : (fault : ScanFault) → Tail

unfoldable pub with_first : Token → Tail → Tail
with_first token (procedure_end elements rest) = procedure_end (more_tokens token elements) rest
with_first token (procedure_fault fault) = procedure_fault fault

unfoldable pub token_count : Tokens → ℕ
token_count no_tokens = 0
token_count (more_tokens token rest) = 1 + token_count rest

-- ---- what is too long (appendix B)

-- a name, a string and a procedure, unless it is past its limit
unfoldable pub sized_name : (List ℕ → Token) → (text rest : List ℕ) → Reading
sized_name name text rest =
    if nat_le (length text) name_limit then token_then (name text) rest else stuck limit_fault

unfoldable pub sized_string : (value rest : List ℕ) → Reading
sized_string value rest =
    if nat_le (length value) sequence_limit then token_then (string_token value) rest
    else stuck limit_fault

-- an unfinished string is a syntax fault, however long it is
unfoldable pub string_reading : Ending → Reading
string_reading unfinished = stuck syntax_fault
string_reading (string_end value rest) = sized_string value rest

unfoldable pub sized_procedure : Tail → Reading
sized_procedure (procedure_end elements rest) =
    if nat_le (token_count elements) sequence_limit then token_then (procedure_token elements) rest
    else stuck limit_fault
sized_procedure (procedure_fault fault) = stuck fault

-- ---- numbers

-- whether an integer fits 32 bits
unfoldable pub fits_integer : ℤ → Bool
fits_integer (pos n) = nat_lt n (2 ^ 31)
fits_integer (negsuc n) = nat_lt n (2 ^ 31)

-- a number of 32 bits as a signed one
unfoldable pub as_signed : ℕ → ℤ
as_signed n = if nat_lt n (2 ^ 31) then pos n else neg_ℤ (pos (2 ^ 32 - n))

-- what a run of regular bytes is; all but the first three are names
pub data Word : Type 0 where
  integer_word : (number : ℤ) → Word
  radix_word : (number : ℕ) → Word
  real_word : Word
  name_word : Word

-- there are no reals here: one is past the limits
unfoldable pub word_reading : (run rest : List ℕ) → Word → Reading
word_reading run rest (integer_word number) =
    if fits_integer number then token_then (number_token number) rest else stuck limit_fault
word_reading run rest (radix_word number) =
    if nat_lt number (2 ^ 32) then token_then (number_token (as_signed number)) rest
    else stuck limit_fault
word_reading run rest real_word = stuck limit_fault
word_reading run rest name_word = sized_name executable_name_token run rest

-- two hexadecimal digits a byte; behind an odd last one a 0 is understood
unfoldable pub pairs : List ℕ → List ℕ
pairs [] = []
pairs (high ∷ []) = (digit_of high * 16) ∷ []
pairs (high ∷ low ∷ digits) = (digit_of high * 16 + digit_of low) ∷ pairs digits
