-- The grammar: which bytes are white space, which are a token, and which texts are a fault (PLRM2,
-- 3.2). The function that finds them is in Scan.
use Rattle.std.specs.Prelude.{◌≡◌, ◌⊎◌, ℕ, zero, suc, ◌+◌, ◌-◌, ◌%◌, ◌≤◌, ℤ, pos, neg_ℤ, Bool, not}
use Rattle.std.specs.Prelude.{◌||◌, List, [], ◌∷◌, ◌++◌, length, drop, filter, ◌==◌, nat_eq, IsTrue}
use Rattle.std.specs.Prelude.{IsFalse, ⊤}
use Rattle.std.specs.List.{list_all}
use Rattle.ps_language.specs.Bytes.{is_white, is_comment_end, is_regular, is_digit_in, is_hex}
use Rattle.ps_language.specs.Bytes.{is_hex_or_white, is_octal, is_sign, is_exponent_mark, value_in}
use Rattle.ps_language.specs.Limits.{nesting_limit}
use Rattle.ps_language.specs.Reading.{Reading, token_then, stuck, Ending, string_end, unfinished}
use Rattle.ps_language.specs.Reading.{with_front, string_reading, Tail, procedure_end}
use Rattle.ps_language.specs.Reading.{procedure_fault, with_first, sized_procedure, sized_name}
use Rattle.ps_language.specs.Reading.{sized_string, pairs, Word, integer_word, radix_word}
use Rattle.ps_language.specs.Reading.{real_word, name_word, word_reading}
use Rattle.ps_language.specs.Token.{Token, executable_name_token, literal_name_token}
use Rattle.ps_language.specs.Token.{immediate_name_token, no_tokens, ScanFault, syntax_fault}
use Rattle.ps_language.specs.Token.{limit_fault, Scan, found, exhausted, faulty}

-- each byte passes the test
abbrev pub EachIs : (ℕ → Bool) → List ℕ → Type 0
EachIs test bytes = IsTrue (list_all test bytes)

-- the text ends here, or its first byte fails the test
abbrev pub StopsAt : (ℕ → Bool) → List ℕ → Type 0
StopsAt test [] = ⊤
StopsAt test (b ∷ bs) = IsFalse (test b)

-- front is the longest front of these bytes that pass the test, and rest is left
pub record IsLongest (test : ℕ → Bool) (front rest : List ℕ) : Type 0 where
  pub each : EachIs test front
  pub stops : StopsAt test rest

-- there is a byte
abbrev pub IsNonEmpty : List ℕ → Type 0
IsNonEmpty [] = ⊥
IsNonEmpty (b ∷ bs) = ⊤

-- ---- white space and comments (3.2)

-- a byte of a comment, before its end
abbrev pub is_comment_byte : ℕ → Bool
is_comment_byte b = not (is_comment_end b)

-- a comment goes from % to the byte that ends it
pub data IsBlank : (text : List ℕ) → Type 0 where
  no_blank : IsBlank []
  white : {b : ℕ} {text : List ℕ} → IsTrue (is_white b) → IsBlank text → IsBlank (b ∷ text)
  comment : (words : List ℕ) (b : ℕ) {text : List ℕ} → EachIs is_comment_byte words
      → IsTrue (is_comment_end b) → IsBlank text → IsBlank (37 ∷ words ++ b ∷ text)

-- nothing is left but white space and comments; the last comment needs no end
pub data IsOnlyBlank : (text : List ℕ) → Type 0 where
  blank_to_the_end : {text : List ℕ} → IsBlank text → IsOnlyBlank text
  last_comment : {text : List ℕ} (words : List ℕ) → IsBlank text → EachIs is_comment_byte words
      → IsOnlyBlank (text ++ 37 ∷ words)

-- ---- numbers, and the names that are no numbers (3.2)

-- one digit of that base or more
abbrev pub IsDigits : (base : ℕ) → List ℕ → Type 0
IsDigits base digits = IsNonEmpty digits × EachIs (is_digit_in base) digits

-- + or -, or nothing
pub data IsSign : List ℕ → Type 0 where
  no_sign : IsSign []
  sign : {b : ℕ} → IsTrue (is_sign b) → IsSign (b ∷ [])

-- digits in base ten, perhaps behind + (43) or - (45)
pub data IsInteger : (run : List ℕ) (number : ℤ) → Type 0 where
  bare_integer : {digits : List ℕ} → IsDigits 10 digits
      → IsInteger digits (pos (value_in 10 0 digits))
  plus_integer : {digits : List ℕ} → IsDigits 10 digits
      → IsInteger (43 ∷ digits) (pos (value_in 10 0 digits))
  minus_integer : {digits : List ℕ} → IsDigits 10 digits
      → IsInteger (45 ∷ digits) (neg_ℤ (pos (value_in 10 0 digits)))

-- base#digits with no sign: a base from 2 to 36 in base ten, and digits below it (35 is #)
pub data IsRadix : (run : List ℕ) (number : ℕ) → Type 0 where
  radix : (base digits : List ℕ) → IsDigits 10 base → 2 ≤ value_in 10 0 base → value_in 10 0 base
      ≤ 36 → IsDigits (value_in 10 0 base) digits
      → IsRadix (base ++ 35 ∷ digits) (value_in (value_in 10 0 base) 0 digits)

-- e or E, perhaps a sign, and digits
pub data IsExponent : List ℕ → Type 0 where
  exponent : {mark : ℕ} {sign : List ℕ} (digits : List ℕ) → IsTrue (is_exponent_mark mark)
      → IsSign sign → IsDigits 10 digits → IsExponent (mark ∷ sign ++ digits)

-- an exponent, or nothing
pub data IsExponentOrNone : List ℕ → Type 0 where
  no_exponent : IsExponentOrNone []
  some_exponent : {text : List ℕ} → IsExponent text → IsExponentOrNone text

-- perhaps a sign; then digits with one point (46), at least one digit, perhaps an exponent; or
-- digits with an exponent
pub data IsReal : (run : List ℕ) → Type 0 where
  with_point : {sign : List ℕ} (whole fraction : List ℕ) {end : List ℕ} → IsSign sign
      → EachIs (is_digit_in 10) whole → EachIs (is_digit_in 10) fraction
      → IsNonEmpty (whole ++ fraction) → IsExponentOrNone end
      → IsReal (sign ++ (whole ++ 46 ∷ (fraction ++ end)))
  without_point : {sign : List ℕ} (whole : List ℕ) {end : List ℕ} → IsSign sign → IsDigits 10 whole
      → IsExponent end → IsReal (sign ++ (whole ++ end))

-- what a run of regular bytes is: an integer, a radix number, a real, or else a name
pub data IsWord : (run : List ℕ) (word : Word) → Type 0 where
  is_integer : {run : List ℕ} {number : ℤ} → IsInteger run number → IsWord run (integer_word number)
  is_radix : {run : List ℕ} {number : ℕ} → IsRadix run number → IsWord run (radix_word number)
  is_real : {run : List ℕ} → IsReal run → IsWord run real_word
  is_name : {run : List ℕ} → ((number : ℤ) → ¬ IsInteger run number)
      → ((number : ℕ) → ¬ IsRadix run number) → ¬ IsReal run → IsWord run name_word

-- ---- strings (3.2)

-- a newline, and what is left behind it: a line feed (10), or a carriage return (13) with the line
-- feed behind it, if there is one
pub data IsNewline : (text rest : List ℕ) → Type 0 where
  feed : {rest : List ℕ} → IsNewline (10 ∷ rest) rest
  return_and_feed : {rest : List ℕ} → IsNewline (13 ∷ 10 ∷ rest) rest
  return_alone : {rest : List ℕ} → StopsAt (nat_eq 10) rest → IsNewline (13 ∷ rest) rest

-- one to three octal digits, as many as there are
pub record IsOctal (digits rest : List ℕ) : Type 0 where
  pub some : IsNonEmpty digits
  pub each : EachIs is_octal digits
  pub most : length digits ≤ 3
  pub stops : (length digits ≡ 3) ⊎ StopsAt is_octal rest

-- a letter behind a backslash, and the byte that it stands for: n r t b f
pub data IsLetter : (letter byte : ℕ) → Type 0 where
  letter_n : IsLetter 110 10
  letter_r : IsLetter 114 13
  letter_t : IsLetter 116 9
  letter_b : IsLetter 98 8
  letter_f : IsLetter 102 12

-- a byte with a meaning of its own behind a backslash
abbrev pub is_escaped : ℕ → Bool
is_escaped b = is_octal b || (b == 10) || (b == 13) || (b == 110) || (b == 114) || (b == 116)
    || (b == 98) || (b == 102)

-- a byte that stands for itself in a string: all but ( ) \ and newlines
abbrev pub is_plain : ℕ → Bool
is_plain b = not ((b == 40) || (b == 41) || (b == 92) || (b == 10) || (b == 13))

-- a part of a string but for parentheses, the bytes that it gives, and what is left behind it (92
-- is \): a newline is a line feed, behind a backslash it is dropped; before a byte with no meaning
-- of its own the backslash is dropped
pub data IsPart : (text bytes rest : List ℕ) → Type 0 where
  plain_byte : {b : ℕ} {rest : List ℕ} → IsTrue (is_plain b) → IsPart (b ∷ rest) (b ∷ []) rest
  newline : {text rest : List ℕ} → IsNewline text rest → IsPart text (10 ∷ []) rest
  dropped_newline : {text rest : List ℕ} → IsNewline text rest → IsPart (92 ∷ text) [] rest
  octal : {digits rest : List ℕ} → IsOctal digits rest
      → IsPart (92 ∷ digits ++ rest) ((value_in 8 0 digits % 256) ∷ []) rest
  letter : {c byte : ℕ} {rest : List ℕ} → IsLetter c byte → IsPart (92 ∷ c ∷ rest) (byte ∷ []) rest
  dropped_backslash : {c : ℕ} {rest : List ℕ} → IsFalse (is_escaped c)
      → IsPart (92 ∷ c ∷ rest) (c ∷ []) rest

-- how the text ends a string inside so many more open parentheses: balanced ones (40 and 41) are
-- part of the string; at the end of the text it is unfinished
pub data IsString : (depth : ℕ) (text : List ℕ) (ending : Ending) → Type 0 where
  string_ends : {rest : List ℕ} → IsString zero (41 ∷ rest) (string_end [] rest)
  opens : {depth : ℕ} {text : List ℕ} {ending : Ending} → IsString (suc depth) text ending
      → IsString depth (40 ∷ text) (with_front (40 ∷ []) ending)
  closes : {depth : ℕ} {text : List ℕ} {ending : Ending} → IsString depth text ending
      → IsString (suc depth) (41 ∷ text) (with_front (41 ∷ []) ending)
  part : {depth : ℕ} {text bytes rest : List ℕ} {ending : Ending} → IsPart text bytes rest
      → IsString depth rest ending → IsString depth text (with_front bytes ending)
  no_end : {depth : ℕ} → IsString depth [] unfinished
  last_backslash : {depth : ℕ} → IsString depth (92 ∷ []) unfinished

-- ---- tokens but for procedures (3.2)

-- what may stand in a hexadecimal string, and its end >
abbrev pub is_in_hex : ℕ → Bool
is_in_hex b = is_hex_or_white b || (b == 62)

-- a token that is no procedure, or a fault, in front of the text: 40 ( 41 ) 47 / 60 < 62 > 91 [ 93
-- ] 125 }
pub data IsSimple : (text : List ℕ) (reading : Reading) → Type 0 where
  word : {run rest : List ℕ} {word : Word} → IsNonEmpty run → IsLongest is_regular run rest
      → IsWord run word → IsSimple (run ++ rest) (word_reading run rest word)
  literal_name : {run rest : List ℕ} → IsLongest is_regular run rest
      → StopsAt (nat_eq 47) (run ++ rest)
      → IsSimple (47 ∷ run ++ rest) (sized_name literal_name_token run rest)
  immediate_name : {run rest : List ℕ} → IsLongest is_regular run rest
      → IsSimple (47 ∷ 47 ∷ run ++ rest) (sized_name immediate_name_token run rest)
  bracket : {b : ℕ} {rest : List ℕ} → IsTrue ((b == 91) || (b == 93))
      → IsSimple (b ∷ rest) (token_then (executable_name_token (b ∷ [])) rest)
  opening_angles : {rest : List ℕ}
      → IsSimple (60 ∷ 60 ∷ rest) (token_then (executable_name_token (60 ∷ 60 ∷ [])) rest)
  closing_angles : {rest : List ℕ}
      → IsSimple (62 ∷ 62 ∷ rest) (token_then (executable_name_token (62 ∷ 62 ∷ [])) rest)
  single_angle : {rest : List ℕ} → StopsAt (nat_eq 62) rest
      → IsSimple (62 ∷ rest) (stuck syntax_fault)
  string : {text : List ℕ} {ending : Ending} → IsString zero text ending
      → IsSimple (40 ∷ text) (string_reading ending)
  hex_string : (inner rest : List ℕ) → EachIs is_hex_or_white inner
      → IsSimple (60 ∷ inner ++ 62 ∷ rest) (sized_string (pairs (filter is_hex inner)) rest)
  broken_hex : (inner rest : List ℕ) → EachIs is_hex_or_white inner → StopsAt is_in_hex rest
      → StopsAt (nat_eq 60) (inner ++ rest) → IsSimple (60 ∷ inner ++ rest) (stuck syntax_fault)
  stray : {b : ℕ} {rest : List ℕ} → IsTrue ((b == 41) || (b == 125))
      → IsSimple (b ∷ rest) (stuck syntax_fault)

-- ---- procedures (3.2)

-- neither white space nor a comment begins here
abbrev pub IsAtToken : List ℕ → Type 0
IsAtToken [] = ⊥
IsAtToken (b ∷ bs) = IsFalse (is_white b) × IsFalse (b == 37)

-- how the text ends a procedure: at its closing brace (125), at the first faulty element, or at the
-- end of the text
pub data AreElements (Element : List ℕ → Reading → Type 0) : (text : List ℕ) (tail : Tail)
    → Type 0 where
  last_brace : {blank rest : List ℕ} → IsBlank blank
      → AreElements Element (blank ++ 125 ∷ rest) (procedure_end no_tokens rest)
  missing_brace : {text : List ℕ} → IsOnlyBlank text
      → AreElements Element text (procedure_fault syntax_fault)
  faulty_element : {blank text : List ℕ} {fault : ScanFault} → IsBlank blank → IsAtToken text
      → StopsAt (nat_eq 125) text → Element text (stuck fault)
      → AreElements Element (blank ++ text) (procedure_fault fault)
  element : {blank text rest : List ℕ} {token : Token} {tail : Tail} → IsBlank blank
      → IsAtToken text → StopsAt (nat_eq 125) text → Element text (token_then token rest)
      → AreElements Element rest tail
      → AreElements Element (blank ++ text) (with_first token tail)

-- a procedure behind its opening brace (123)
pub data IsProcedure (Element : List ℕ → Reading → Type 0) : (text : List ℕ) (reading : Reading)
    → Type 0 where
  procedure : {text : List ℕ} {tail : Tail} → AreElements Element text tail
      → IsProcedure Element (123 ∷ text) (sized_procedure tail)

-- a brace that is one too many
pub data IsTooDeep : (text : List ℕ) (reading : Reading) → Type 0 where
  too_deep : {text : List ℕ} → IsTooDeep (123 ∷ text) (stuck limit_fault)

-- the token or the fault in front of the text, where so many braces may still be opened
abbrev pub IsToken : (room : ℕ) (text : List ℕ) (reading : Reading) → Type 0
IsToken zero text reading = IsSimple text reading ⊎ IsTooDeep text reading
IsToken (suc room) text reading = IsSimple text reading ⊎ IsProcedure (IsToken room) text reading

-- ---- the first token of a text from a place on

-- what the grammar has from a place on: nothing, a token, or a fault. The end of a token is the
-- place of what is left behind it
pub data Reads (bytes : List ℕ) (at : ℕ) : (outcome : Scan) → Type 0 where
  reads_nothing : IsOnlyBlank (drop at bytes) → Reads bytes at exhausted
  reads_token : {blank text rest : List ℕ} {token : Token} → drop at bytes ≡ blank ++ text
      → IsBlank blank → IsAtToken text → IsToken nesting_limit text (token_then token rest)
      → Reads bytes at (found token (length bytes - length rest))
  reads_fault : {blank text : List ℕ} {fault : ScanFault} → drop at bytes ≡ blank ++ text
      → IsBlank blank → IsAtToken text → IsToken nesting_limit text (stuck fault)
      → Reads bytes at (faulty fault)

-- from a place on there are white space and comments, the token's own bytes, and what lies at its
-- end
pub record LiesAt (bytes : List ℕ) (at : ℕ) (token : Token) (end : ℕ) : Type 0 where
  pub blank : List ℕ
  pub own : List ℕ
  pub is_blank : IsBlank blank
  pub is_own : IsNonEmpty own
  pub whole : drop at bytes ≡ blank ++ (own ++ drop end bytes)
  pub is_token : IsToken nesting_limit (own ++ drop end bytes) (token_then token (drop end bytes))
  pub place : end ≡ at + length blank + length own
