-- What is scanned is within its limits.
use Rattle.std.proofs.Common.{◌≡◌, subst, ℕ, zero, suc, ◌≤◌, true, false, List, [], ◌∷◌, length, drop, arith}
use Rattle.std.specs.Prelude.{◌==◌, ◌^◌, nat_le, nat_lt, filter}
use Rattle.std.proofs.lemmas.Bool.{cases_Bool}
use Rattle.std.proofs.lemmas.Bool.Decides.{nat_tests}
use mathlib.Core.Logic.{inl, inr}
use Rattle.ps_language.specs.Bytes.{is_hex, is_hex_or_white, is_regular}
use Rattle.ps_language.specs.Limits.{name_limit, sequence_limit}
use Rattle.ps_language.specs.Token.{Token, executable_name_token, literal_name_token, immediate_name_token, Tokens}
use Rattle.ps_language.specs.Token.{ScanFault, Scan, found, exhausted, faulty}
use Rattle.ps_language.specs.Reading.{Reading, token_then, stuck, Ending, string_end, unfinished, string_reading}
use Rattle.ps_language.specs.Reading.{sized_string, pairs, Tail, procedure_end, procedure_fault, with_first}
use Rattle.ps_language.specs.Reading.{sized_procedure, token_count, sized_name, Word, integer_word, radix_word}
use Rattle.ps_language.specs.Reading.{real_word, name_word, word_reading, fits_integer}
use Rattle.ps_language.specs.Scan.{leading, beyond, Start, regular_start, string_start, hex_start, angle_start}
use Rattle.ps_language.specs.Scan.{bracket_start, slash_start, stray_start, start_of, string_from, word_of, hex_reading}
use Rattle.ps_language.specs.Scan.{after_hex_start, after_angle, after_slash, simple_by, behind_blank, then_elements}
use Rattle.ps_language.specs.Scan.{elements_step, elements_by, token_here, as_scan, text_scan, scan}
use Rattle.ps_step_tokens.specs.Short.{IsShort, AreShort}

few : (n : ℕ) → nat_le n sequence_limit ≡ true → n ≤ sequence_limit
few n e = grind (arith, nat_tests)

brief : (n : ℕ) → nat_le n name_limit ≡ true → n ≤ name_limit
brief n e = grind (arith, nat_tests)

IsShortReading : Reading → Type 0
IsShortReading (token_then token rest) = IsShort token
IsShortReading (stuck fault) = Unit {0}

IsShortTail : Tail → Type 0
IsShortTail (procedure_end items rest) = AreShort items
IsShortTail (procedure_fault fault) = Unit {0}

IsShortScan : Scan → Type 0
IsShortScan (found token end) = IsShort token
IsShortScan exhausted = Unit {0}
IsShortScan (faulty fault) = Unit {0}

-- ---- tokens but for procedures

short_named : (name : List ℕ → Token) → ((text : List ℕ) → length text ≤ name_limit → IsShort (name text))
    → (text rest : List ℕ) → IsShortReading (sized_name name text rest)
unfolding sized_name IsShortReading
short_named name short text rest = elim (cases_Bool (nat_le (length text) name_limit)) [
  | inl e ↦ rw e (short text (brief (length text) e))
  | inr e ↦ rw e tt
]

short_string : (value rest : List ℕ) → IsShortReading (sized_string value rest)
unfolding sized_string IsShortReading
short_string value rest = elim (cases_Bool (nat_le (length value) sequence_limit)) [
  | inl e ↦ rw e (few (length value) e)
  | inr e ↦ rw e tt
]

short_ending : (ending : Ending) → IsShortReading (string_reading ending)
unfolding string_reading IsShortReading
short_ending unfinished = tt
short_ending (string_end value rest) = short_string value rest

short_word : (run rest : List ℕ) (word : Word) → IsShortReading (word_reading run rest word)
unfolding word_reading IsShortReading
short_word run rest (integer_word number) = elim (cases_Bool (fits_integer number)) [
  | inl e ↦ rw e tt
  | inr e ↦ rw e tt
]
short_word run rest (radix_word number) = elim (cases_Bool (nat_lt number (2 ^ 32))) [
  | inl e ↦ rw e tt
  | inr e ↦ rw e tt
]
short_word run rest real_word = tt
short_word run rest name_word = short_named executable_name_token (λ text short. short) run rest

short_hex : (inner after : List ℕ) → IsShortReading (hex_reading inner after)
unfolding hex_reading IsShortReading
short_hex inner [] = tt
short_hex inner (b ∷ bs) = elim (cases_Bool (b == 62)) [
  | inl e ↦ rw e (short_string (pairs (filter is_hex inner)) bs)
  | inr e ↦ rw e tt
]

short_hex_start : (bs : List ℕ) → IsShortReading (after_hex_start bs)
unfolding after_hex_start IsShortReading
short_hex_start [] = tt
short_hex_start (b ∷ bs) = elim (cases_Bool (b == 60)) [
  | inl e ↦ rw (e, IsShortReading, after_hex_start) (omega arith)
  | inr e ↦ rw (e, IsShortReading, after_hex_start)
      (short_hex (leading is_hex_or_white (b ∷ bs)) (beyond is_hex_or_white (b ∷ bs)))
]

short_angle : (bs : List ℕ) → IsShortReading (after_angle bs)
unfolding after_angle IsShortReading
short_angle [] = tt
short_angle (b ∷ bs) = elim (cases_Bool (b == 62)) [ inl e ↦ rw e (omega arith) | inr e ↦ rw e tt ]

short_slash : (bs : List ℕ) → IsShortReading (after_slash bs)
unfolding after_slash
short_slash [] = short_named literal_name_token (λ text short. short) [] []
short_slash (b ∷ bs) = elim (cases_Bool (b == 47)) [
  | inl e ↦ rw (e, after_slash) (short_named immediate_name_token (λ text short. short) (leading is_regular bs)
      (beyond is_regular bs))
  | inr e ↦ rw (e, after_slash) (short_named literal_name_token (λ text short. short) (leading is_regular (b ∷ bs))
      (beyond is_regular (b ∷ bs)))
]

short_simple : (start : Start) (b : ℕ) (bs : List ℕ) → IsShortReading (simple_by start b bs)
unfolding simple_by IsShortReading
short_simple regular_start b bs =
    short_word (leading is_regular (b ∷ bs)) (beyond is_regular (b ∷ bs)) (word_of (leading is_regular (b ∷ bs)))
short_simple string_start b bs = short_ending (string_from 0 bs)
short_simple hex_start b bs = short_hex_start bs
short_simple angle_start b bs = short_angle bs
short_simple bracket_start b bs = omega arith
short_simple slash_start b bs = short_slash bs
short_simple stray_start b bs = tt

-- ---- procedures

short_first : (token : Token) → IsShort token → (tail : Tail) → IsShortTail tail → IsShortTail (with_first token tail)
unfolding with_first IsShortTail
short_first token short (procedure_end items rest) more = (short, more)
short_first token short (procedure_fault fault) more = tt

short_then : (further : List ℕ → Tail) → ((text : List ℕ) → IsShortTail (further text)) → (reading : Reading)
    → IsShortReading reading → IsShortTail (then_elements further reading)
unfolding then_elements IsShortReading IsShortTail
short_then further more (stuck fault) short = tt
short_then further more (token_then token rest) short = short_first token short (further rest) (more rest)

module _ (element : ℕ → List ℕ → Reading) (short : (b : ℕ) (bs : List ℕ) → IsShortReading (element b bs)) where
  short_step : (further : List ℕ → Tail) → ((text : List ℕ) → IsShortTail (further text)) → (left : List ℕ)
      → IsShortTail (elements_step element further left)
  unfolding elements_step IsShortTail
  short_step further more [] = tt
  short_step further more (b ∷ bs) = elim (cases_Bool (b == 125)) [
    | inl e ↦ rw (e, IsShortTail, elements_step) tt
    | inr e ↦ rw (e, IsShortTail, elements_step) (short_then further more (element b bs) (short b bs))
  ]

  short_elements : (counter : ℕ) (text : List ℕ) → IsShortTail (elements_by element counter text)
  unfolding elements_by IsShortTail
  short_elements zero text = tt
  short_elements (suc counter) text =
      short_step (elements_by element counter) (short_elements counter) (behind_blank false text)

enclosed_by : (items : Tokens) (rest : List ℕ) → AreShort items
    → IsShortReading (sized_procedure (procedure_end items rest))
unfolding sized_procedure IsShortReading
enclosed_by items rest short = elim (cases_Bool (nat_le (token_count items) sequence_limit)) [
  | inl e ↦ rw e (few (token_count items) e, short)
  | inr e ↦ rw e tt
]

fault_short : (fault : ScanFault) → IsShortReading (sized_procedure (procedure_fault fault))
unfolding sized_procedure IsShortReading
fault_short fault = tt

short_enclosed : (tail : Tail) → IsShortTail tail → IsShortReading (sized_procedure tail)
unfolding IsShortTail
short_enclosed (procedure_end items rest) short = enclosed_by items rest short
short_enclosed (procedure_fault fault) short = fault_short fault

short_token : (room b : ℕ) (bs : List ℕ) → IsShortReading (token_here room b bs)
unfolding token_here IsShortReading
short_token zero b bs = elim (cases_Bool (b == 123)) [ inl e ↦ rw e tt | inr e ↦ rw e (short_simple (start_of b) b bs) ]
short_token (suc room) b bs = elim (cases_Bool (b == 123)) [
  | inl e ↦ rw (e, IsShortReading, token_here) (short_enclosed (elements_by (token_here room) (suc (length bs)) bs)
      (short_elements (token_here room) (short_token room) (suc (length bs)) bs))
  | inr e ↦ rw (e, IsShortReading, token_here) (short_simple (start_of b) b bs)
]

-- ---- scans

short_as_scan : (size : ℕ) (reading : Reading) → IsShortReading reading → IsShortScan (as_scan size reading)
unfolding as_scan IsShortReading IsShortScan
short_as_scan size (token_then token rest) short = short
short_as_scan size (stuck fault) short = tt

short_text : (size : ℕ) (text : List ℕ) → IsShortScan (text_scan size text)
unfolding text_scan IsShortScan
short_text size [] = tt
short_text size (b ∷ bs) = short_as_scan size (token_here 32 b bs) (short_token 32 b bs)

short_scan : (text : List ℕ) (at : ℕ) → IsShortScan (scan text at)
unfolding scan
short_scan text at = short_text (length text) (behind_blank false (drop at text))

pub scanned_is_short : (text : List ℕ) (at : ℕ) (token : Token) (end : ℕ)
    → scan text at ≡ found token end → IsShort token
unfolding IsShortScan
scanned_is_short text at token end is = subst IsShortScan is (short_scan text at)
