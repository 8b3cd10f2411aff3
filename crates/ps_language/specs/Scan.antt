-- The scanner as a function: the first token of a text from a place on, with its end, or a fault
-- (PLRM2, 3.2). Each function takes what is left of the text.
use Rattle.std.specs.Prelude.{ℕ, zero, suc, ◌+◌, ◌-◌, ◌%◌, ℤ, pos, neg_ℤ, Bool, true, false, not}
use Rattle.std.specs.Prelude.{◌&&◌, ◌||◌, List, [], ◌∷◌, length, drop, filter, ◌==◌, nat_le}
use Rattle.std.specs.Prelude.{if◌then◌else◌}
use Rattle.std.specs.List.{list_all}
use Rattle.ps_language.specs.Bytes.{is_white, is_comment_end, is_regular, is_digit_in, is_digit}
use Rattle.ps_language.specs.Bytes.{is_hex, is_hex_or_white, is_octal, is_sign, is_exponent_mark}
use Rattle.ps_language.specs.Bytes.{value_in}
use Rattle.ps_language.specs.Limits.{nesting_limit}
use Rattle.ps_language.specs.Reading.{Reading, token_then, stuck, Ending, string_end, unfinished}
use Rattle.ps_language.specs.Reading.{with_front, string_reading, Tail, procedure_end}
use Rattle.ps_language.specs.Reading.{procedure_fault, with_first, sized_procedure, sized_name}
use Rattle.ps_language.specs.Reading.{sized_string, pairs, Word, integer_word, radix_word}
use Rattle.ps_language.specs.Reading.{real_word, name_word, word_reading}
use Rattle.ps_language.specs.Token.{literal_name_token, executable_name_token, immediate_name_token}
use Rattle.ps_language.specs.Token.{no_tokens, syntax_fault, limit_fault, Scan, found, exhausted}
use Rattle.ps_language.specs.Token.{faulty}

-- the longest front whose bytes pass the test, and what is left behind it
unfoldable pub leading : (ℕ → Bool) → List ℕ → List ℕ
leading test [] = []
leading test (b ∷ bs) = elim (test b) [ true ↦ b ∷ leading test bs | false ↦ [] ]

unfoldable pub beyond : (ℕ → Bool) → List ℕ → List ℕ
beyond test [] = []
beyond test (b ∷ bs) = elim (test b) [ true ↦ beyond test bs | false ↦ b ∷ bs ]

-- what is left behind white space and comments; the flag is set inside a comment (3.2)
unfoldable pub behind_blank : (is_in_comment : Bool) → List ℕ → List ℕ
behind_blank is_in_comment [] = []
behind_blank true (b ∷ bs) = behind_blank (not (is_comment_end b)) bs
behind_blank false (b ∷ bs) =
    elim (is_white b) [
      | true ↦ behind_blank false bs
      | false ↦ elim (b == 37)
          [ true ↦ behind_blank true bs | false ↦ b ∷ bs ]
    ]

-- ---- numbers and executable names (3.2)

-- whether there is no byte
abbrev pub is_empty : List ℕ → Bool
is_empty [] = true
is_empty (b ∷ bs) = false

-- whether a sign stands in front, and what follows it
unfoldable pub is_signed : List ℕ → Bool
is_signed [] = false
is_signed (b ∷ bs) = is_sign b

unfoldable pub unsigned : List ℕ → List ℕ
unsigned [] = []
unsigned (b ∷ bs) = elim (is_sign b) [ true ↦ bs | false ↦ b ∷ bs ]

-- whether the sign is -
unfoldable pub is_negative : List ℕ → Bool
is_negative [] = false
is_negative (b ∷ bs) = b == 45

-- the number with its sign
unfoldable pub signed_value : Bool → ℕ → ℤ
signed_value true n = neg_ℤ (pos n)
signed_value false n = pos n

-- one digit or more, and nothing else
unfoldable pub are_digits : List ℕ → Bool
are_digits ds = not (is_empty ds) && list_all is_digit ds

-- e or E, perhaps a sign, and digits
unfoldable pub is_exponent : List ℕ → Bool
is_exponent [] = false
is_exponent (b ∷ bs) = is_exponent_mark b && are_digits (unsigned bs)

-- what follows the first digits of a real: a point, perhaps digits, perhaps an exponent; or an
-- exponent
unfoldable pub is_real_tail : (has_digits : Bool) → List ℕ → Bool
is_real_tail has_digits [] = false
is_real_tail has_digits (b ∷ bs) = elim (b == 46) [
  | true ↦ (has_digits || not (is_empty (leading is_digit bs)))
      && (is_empty (beyond is_digit bs) || is_exponent (beyond is_digit bs))
  | false ↦ has_digits && is_exponent (b ∷ bs)
]

-- whether these are a radix number's digits
unfoldable pub are_radix_digits : (base : ℕ) → List ℕ → Bool
are_radix_digits base ds = nat_le 2 base && nat_le base 36 && not (is_empty ds)
    && list_all (is_digit_in base) ds

-- what a run of regular bytes is, by its first digits and what follows them
unfoldable pub word_by : (run whole tail : List ℕ) → Word
word_by run whole [] =
    if is_empty whole then name_word
    else integer_word (signed_value (is_negative run) (value_in 10 0 whole))
word_by run whole (b ∷ bs) = elim (b == 35) [
  | true ↦ if not (is_signed run) && are_radix_digits (value_in 10 0 whole) bs
      then radix_word (value_in (value_in 10 0 whole) 0 bs) else name_word
  | false ↦ if is_real_tail (not (is_empty whole)) (b ∷ bs) then real_word else name_word
]

-- a run is judged by the digits behind its sign, and what follows them
unfoldable pub word_of : (run : List ℕ) → Word
word_of run = word_by run (leading is_digit (unsigned run)) (beyond is_digit (unsigned run))

-- ---- strings (3.2)

-- what is left behind a carriage return: a line feed belongs to it
unfoldable pub after_return : List ℕ → List ℕ
after_return [] = []
after_return (b ∷ bs) = elim (b == 10) [ true ↦ bs | false ↦ b ∷ bs ]

-- the octal digits in front, at most so many, and what is left behind them
unfoldable pub octal_front : ℕ → List ℕ → List ℕ
octal_front zero text = []
octal_front (suc most) [] = []
octal_front (suc most) (b ∷ bs) = elim (is_octal b) [ true ↦ b ∷ octal_front most bs | false ↦ [] ]

-- what is left behind those digits
unfoldable pub octal_rest : ℕ → List ℕ → List ℕ
octal_rest zero text = text
octal_rest (suc most) [] = []
octal_rest (suc most) (b ∷ bs) = elim (is_octal b) [ true ↦ octal_rest most bs | false ↦ b ∷ bs ]

-- what the byte behind a backslash stands for
pub data Escape : Type 0 where
  octal_escape : Escape
  feed_escape : Escape
  return_escape : Escape
  byte_escape : (byte : ℕ) → Escape

-- an octal digit, a newline, n r t b f, or any other byte
unfoldable pub escape_of : ℕ → Escape
escape_of b =
    if is_octal b then octal_escape else
    (if b == 10 then feed_escape else
    (if b == 13 then return_escape else
    (if b == 110 then byte_escape 10 else
    (if b == 114 then byte_escape 13 else
    (if b == 116 then byte_escape 9 else
    (if b == 98 then byte_escape 8 else
    (if b == 102 then byte_escape 12 else byte_escape b)))))))

-- the bytes that an escape gives, and what is left behind it
unfoldable pub escape_front : Escape → (text : List ℕ) → List ℕ
escape_front octal_escape text = (value_in 8 0 (octal_front 3 text) % 256) ∷ []
escape_front feed_escape text = []
escape_front return_escape text = []
escape_front (byte_escape byte) text = byte ∷ []

unfoldable pub escape_rest : Escape → (text : List ℕ) → List ℕ
escape_rest octal_escape text = octal_rest 3 text
escape_rest feed_escape text = drop 1 text
escape_rest return_escape text = after_return (drop 1 text)
escape_rest (byte_escape byte) text = drop 1 text

-- a byte of a string
pub data Mark : Type 0 where
  opening : Mark
  closing : Mark
  escaping : Mark
  returning : Mark
  plain : Mark

-- 40 ( 41 ) 92 \ 13 carriage return
unfoldable pub mark_of : ℕ → Mark
mark_of b =
    if b == 40 then opening else
    (if b == 41 then closing else
    (if b == 92 then escaping else (if b == 13 then returning else plain)))

-- the end of the string that goes on so, inside so many open parentheses; further reads what is
-- left
unfoldable pub string_close : (further : ℕ → List ℕ → Ending) (depth : ℕ) (bs : List ℕ) → Ending
string_close further zero bs = string_end [] bs
string_close further (suc depth) bs = with_front (41 ∷ []) (further depth bs)

-- behind a backslash
unfoldable pub string_escape : (further : ℕ → List ℕ → Ending) (depth : ℕ) (bs : List ℕ) → Ending
string_escape further depth [] = unfinished
string_escape further depth (c ∷ bs) =
    with_front (escape_front (escape_of c) (c ∷ bs))
    (further depth (escape_rest (escape_of c) (c ∷ bs)))

-- one byte, and what follows
unfoldable pub string_step : (further : ℕ → List ℕ → Ending) (depth b : ℕ) (bs : List ℕ) → Mark
    → Ending
string_step further depth b bs opening = with_front (40 ∷ []) (further (suc depth) bs)
string_step further depth b bs closing = string_close further depth bs
string_step further depth b bs escaping = string_escape further depth bs
string_step further depth b bs returning = with_front (10 ∷ []) (further depth (after_return bs))
string_step further depth b bs plain = with_front (b ∷ []) (further depth bs)

-- by a counter that is above the length of what is left
unfoldable pub string_body : (counter depth : ℕ) → List ℕ → Ending
string_body zero depth text = unfinished
string_body (suc counter) depth [] = unfinished
string_body (suc counter) depth (b ∷ bs) = string_step (string_body counter) depth b bs (mark_of b)

-- the end of a string, with a counter that is high enough
abbrev pub string_from : (depth : ℕ) → List ℕ → Ending
string_from depth text = string_body (suc (length text)) depth text

-- ---- hexadecimal strings, behind the first angle (3.2)

-- inner is what may stand in the string, and after is what follows
unfoldable pub hex_reading : (inner after : List ℕ) → Reading
hex_reading inner [] = stuck syntax_fault
hex_reading inner (b ∷ bs) =
    if b == 62 then sized_string (pairs (filter is_hex inner)) bs else stuck syntax_fault

-- ---- tokens but for procedures (3.2)

-- how a token begins
pub data Start : Type 0 where
  regular_start : Start
  string_start : Start
  hex_start : Start
  angle_start : Start
  bracket_start : Start
  slash_start : Start
  stray_start : Start

-- 40 ( 60 < 62 > 91 [ 93 ] 47 /
unfoldable pub start_of : ℕ → Start
start_of b =
    if is_regular b then regular_start else
    (if b == 40 then string_start else
    (if b == 60 then hex_start else
    (if b == 62 then angle_start else
    (if b == 91 then bracket_start else
    (if b == 93 then bracket_start else
    (if b == 47 then slash_start else stray_start))))))

-- behind an opening angle, behind a closing one, behind a slash
unfoldable pub after_hex_start : List ℕ → Reading
after_hex_start [] = stuck syntax_fault
after_hex_start (b ∷ bs) =
    elim (b == 60) [
      | true ↦ token_then (executable_name_token (60 ∷ 60 ∷ [])) bs
      | false ↦ hex_reading (leading is_hex_or_white (b ∷ bs))
          (beyond is_hex_or_white (b ∷ bs))
    ]

unfoldable pub after_angle : List ℕ → Reading
after_angle [] = stuck syntax_fault
after_angle (b ∷ bs) =
    if b == 62 then token_then (executable_name_token (62 ∷ 62 ∷ [])) bs else stuck syntax_fault

unfoldable pub after_slash : List ℕ → Reading
after_slash [] = sized_name literal_name_token [] []
after_slash (b ∷ bs) =
    elim (b == 47) [
      | true ↦ sized_name immediate_name_token (leading is_regular bs) (beyond is_regular bs)
      | false ↦
          sized_name literal_name_token (leading is_regular (b ∷ bs)) (beyond is_regular (b ∷ bs))
    ]

-- the token that begins with this byte
unfoldable pub simple_by : Start → (b : ℕ) (bs : List ℕ) → Reading
simple_by regular_start b bs =
    word_reading (leading is_regular (b ∷ bs)) (beyond is_regular (b ∷ bs))
    (word_of (leading is_regular (b ∷ bs)))
simple_by string_start b bs = string_reading (string_from 0 bs)
simple_by hex_start b bs = after_hex_start bs
simple_by angle_start b bs = after_angle bs
simple_by bracket_start b bs = token_then (executable_name_token (b ∷ [])) bs
simple_by slash_start b bs = after_slash bs
simple_by stray_start b bs = stuck syntax_fault

-- ---- procedures (3.2)

-- an element and then the others; further reads what is left
unfoldable pub then_elements : (further : List ℕ → Tail) → Reading → Tail
then_elements further (stuck fault) = procedure_fault fault
then_elements further (token_then token rest) = with_first token (further rest)

-- at a closing brace (125), at an element, or at the end of the text
unfoldable pub elements_step : (element : ℕ → List ℕ → Reading) (further : List ℕ → Tail) → List ℕ
    → Tail
elements_step element further [] = procedure_fault syntax_fault
elements_step element further (b ∷ bs) =
    elim (b == 125)
    [ true ↦ procedure_end no_tokens bs | false ↦ then_elements further (element b bs) ]

-- the elements up to the closing brace, by a counter that is above the length of what is left
unfoldable pub elements_by : (element : ℕ → List ℕ → Reading) (counter : ℕ) → List ℕ → Tail
elements_by element zero text = procedure_fault syntax_fault
elements_by element (suc counter) text =
    elements_step element (elements_by element counter) (behind_blank false text)

-- the elements, with a counter that is high enough
abbrev pub elements_from : (element : ℕ → List ℕ → Reading) → List ℕ → Tail
elements_from element text = elements_by element (suc (length text)) text

-- the token that begins with this byte, where so many braces may still be opened
unfoldable pub token_here : (room b : ℕ) (bs : List ℕ) → Reading
token_here zero b bs = if b == 123 then stuck limit_fault else simple_by (start_of b) b bs
token_here (suc room) b bs =
    elim (b == 123) [
      | true ↦ sized_procedure (elements_from (token_here room) bs)
      | false ↦ simple_by (start_of b) b bs
    ]

-- ---- the first token of a text from a place on

-- the end of a token is the place of what is left behind it
unfoldable pub as_scan : (size : ℕ) → Reading → Scan
as_scan size (token_then token rest) = found token (size - length rest)
as_scan size (stuck fault) = faulty fault

-- behind white space and comments: nothing, or a token
unfoldable pub text_scan : (size : ℕ) → List ℕ → Scan
text_scan size [] = exhausted
text_scan size (b ∷ bs) = as_scan size (token_here nesting_limit b bs)

-- the first token of the bytes from a place on
unfoldable pub scan : (bytes : List ℕ) (at : ℕ) → Scan
scan bytes at = text_scan (length bytes) (behind_blank false (drop at bytes))

-- the same outcome with its end so many bytes further on
abbrev pub further_on : ℕ → Scan → Scan
further_on by (found token end) = found token (by + end)
further_on by exhausted = exhausted
further_on by (faulty fault) = faulty fault
