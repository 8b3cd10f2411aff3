-- What the scanner's answers show: tokens, readings and scans of the language.
use Rattle.std.specs.Prelude.{◌≡◌, ◌⊎◌, false, ℕ, ◌+◌, ◌<◌, ◌≤◌, List, [], ◌∷◌, length, drop}
use Rattle.std.specs.Prelude.{Option, Some, None, Result, Ok, Err, slice_range, slice_index, ⊤}
use Rattle.ps_language.specs.Token.{Tokens, number_token, literal_name_token, executable_name_token}
use Rattle.ps_language.specs.Token.{immediate_name_token, string_token, procedure_token, no_tokens}
use Rattle.ps_language.specs.Token.{more_tokens, Scan, found, exhausted, faulty, syntax_fault}
use Rattle.ps_language.specs.Token.{limit_fault}
use Rattle.ps_language.specs.Token as language
use Rattle.ps_language.specs.Bytes.{is_regular}
use Rattle.ps_language.specs.Reading.{Reading, token_then, stuck, sized_name}
use Rattle.ps_language.specs.Scan.{leading, beyond, start_of, simple_by, token_here, behind_blank}
use Rattle.ps_language.specs.Scan.{scan}
use Rattle.ps_scan.specs.declared.tokens.Span.{Span}
use Rattle.ps_scan.specs.declared.tokens.Token.{Token}
use Rattle.ps_scan.specs.declared.tokens.ScanFault.{ScanFault}
use Rattle.ps_scan.specs.declared.tokens.ScanFault.TheVariants.{Syntax, Limit, Memory}
use Rattle.ps_scan.specs.declared.tokens.TokenKind.{TokenKind}
use Rattle.ps_scan.specs.declared.tokens.TokenKind.TheOpen.{TokenKind-F, Integer, LiteralName}
use Rattle.ps_scan.specs.declared.tokens.TokenKind.TheOpen.{ExecutableName, ImmediateName, Text}
use Rattle.ps_scan.specs.declared.tokens.TokenKind.TheOpen.{Procedure}
use Rattle.ps_scan.specs.declared.tokens.TokenKind.TheFolds.{fold-TokenKind}

-- the bytes of a span in its text
abbrev pub part_of : List ℕ → Span → List ℕ
part_of text span = slice_range text span.start span.end

-- the elements of a procedure
abbrev pub elements_in : List language.Token → Tokens
elements_in [] = no_tokens
elements_in (token ∷ tokens) = more_tokens token (elements_in tokens)

-- a token whose elements, if it is a procedure, are known
abbrev pub token_step : (text : List ℕ) → TokenKind-F language.Token → language.Token
token_step text (Integer number) = number_token number
token_step text (LiteralName span) = literal_name_token (part_of text span)
token_step text (ExecutableName span) = executable_name_token (part_of text span)
token_step text (ImmediateName span) = immediate_name_token (part_of text span)
token_step text (Text bytes) = string_token bytes.items
token_step text (Procedure elements) = procedure_token (elements_in elements.items)

-- the token that a kind is, whose names are parts of the text
abbrev pub token_of : (text : List ℕ) → TokenKind → language.Token
token_of text = fold-TokenKind language.Token (token_step text)

-- the name of a span, or the fault of one that is too long
abbrev pub name_reading : (name : List ℕ → language.Token) (text : List ℕ) → Option Span → Reading
name_reading name text None = stuck limit_fault
name_reading name text (Some span) = token_then (name (part_of text span)) (drop span.end text)

-- the run of regular bytes from a place on makes a name of any kind so
abbrev pub ReadsName : (text : List ℕ) (start : ℕ) → Option Span → Type 0
ReadsName text start span = (name : List ℕ → language.Token)
    → sized_name name (leading is_regular (drop start text)) (beyond is_regular (drop start text))
    ≡ name_reading name text span

-- what a token or the end of the text shows
abbrev pub scan_of : (text : List ℕ) → Option Token → Scan
scan_of text None = exhausted
scan_of text (Some token) = found (token_of text token.kind) token.end

-- what is read at a place where a token begins, and where it is no procedure
abbrev pub token_at : (room : ℕ) (text : List ℕ) (at : ℕ) → Reading
token_at room text at = token_here room (slice_index text at) (drop (at + 1) text)

abbrev pub simple_at : (text : List ℕ) (at : ℕ) → Reading
simple_at text at =
    simple_by (start_of (slice_index text at)) (slice_index text at) (drop (at + 1) text)

-- the reading is that fault; where memory ran out, what is known is given
abbrev pub IsStuckBy : (starved : Type 0) → Reading → ScanFault → Type 0
IsStuckBy starved reading Syntax = reading ≡ stuck syntax_fault
IsStuckBy starved reading Limit = reading ≡ stuck limit_fault
IsStuckBy starved reading Memory = starved

-- the token was read there, with its end, or the reading is that fault
abbrev pub IsAnswer : (starved : Type 0) (text : List ℕ) (at : ℕ) → Result Token ScanFault → Reading
    → Type 0
IsAnswer starved text at (Ok token) reading =
    (reading ≡ token_then (token_of text token.kind) (drop token.end text)) × (at < token.end)
    × (token.end ≤ length text)
IsAnswer starved text at (Err fault) reading = IsStuckBy starved reading fault

-- a string with a byte
abbrev pub IsSomeString : Reading → Type 0
IsSomeString (token_then (string_token (b ∷ bs)) rest) = ⊤
IsSomeString reading = ⊥

-- a string in parentheses (40) or angles (60) that has a byte
abbrev pub IsAtString : (text : List ℕ) (at : ℕ) (reading : Reading) → Type 0
IsAtString text at reading = ((slice_index text at ≡ 40) ⊎ (slice_index text at ≡ 60))
    × IsSomeString reading

-- where memory may run out: at a procedure's brace (123), and at a string with a byte
abbrev pub MayStarve : (room : ℕ) (text : List ℕ) (at : ℕ) → Type 0
MayStarve room text at = (slice_index text at ≡ 123) ⊎ IsAtString text at (token_at room text at)

-- what may take memory: a string with a byte, a procedure, and a procedure with a fault
abbrev pub TakesMemory : Scan → Type 0
TakesMemory (found (string_token (b ∷ bs)) end) = ⊤
TakesMemory (found (procedure_token elements) end) = ⊤
TakesMemory (faulty fault) = ⊤
TakesMemory outcome = ⊥

-- a string or a procedure begins here: ( (40), < (60) or { (123)
abbrev pub BeginsComposite : (text : List ℕ) → Type 0
BeginsComposite [] = ⊥
BeginsComposite (b ∷ bs) = (b ≡ 123) ⊎ ((b ≡ 40) ⊎ (b ≡ 60))

-- the fault is the grammar's; memory runs out only at a string with a byte, at a procedure, or in a
-- procedure with a fault
abbrev pub IsFaultBy : (text : List ℕ) (at : ℕ) → ScanFault → Type 0
IsFaultBy text at Syntax = scan text at ≡ faulty syntax_fault
IsFaultBy text at Limit = scan text at ≡ faulty limit_fault
IsFaultBy text at Memory = TakesMemory (scan text at)
    × BeginsComposite (behind_blank false (drop at text))
