-- The text of a schedule: a line for each entry.
use Rattle.std.specs.Prelude.{◌≡◌, ◌≢◌, ◌+◌, ◌<◌, ◌≤◌, ◌⊎◌, ◌==◌, ⊤, ℕ, ℤ, pos, negsuc, Bool, true}
use Rattle.std.specs.Prelude.{false, Option, Some, None, List, [], ◌∷◌, ◌++◌, length}
use Rattle.std.specs.List.{AllByRecursion, list_any}
use Rattle.std.specs.Fmt.{decimal, signed_decimal}
use Rattle.ps_language.specs.declared.schedules.Entry.{Entry}

-- ---- the entries that have a line

pub record IsUpTo (most number : ℕ) : Type 0 where
  pub low : 1 ≤ number
  pub high : number ≤ most

-- a number of words, from 1
abbrev pub IsWords : ℤ → Type 0
IsWords (pos number) = IsUpTo 2147483647 number
IsWords (negsuc number) = ⊥

abbrev pub IsShown : Option (ℤ × ℤ) → Type 0
IsShown None = ⊤
IsShown (Some pair) = IsWords pair.0 × IsWords pair.1

-- an entry of a step or more, of a context's identifier
pub record IsEntry (entry : Entry) : Type 0 where
  pub context : IsUpTo 4294967295 entry.context
  pub steps : IsUpTo 4294967295 entry.steps
  pub shown : IsShown entry.shown

abbrev pub AreEntries : List Entry → Type 0
AreEntries schedule = AllByRecursion IsEntry schedule

-- ---- their text

abbrev pub space : ℕ
space = 32

abbrev pub line_feed : ℕ
line_feed = 10

-- a number in decimal, without leading zeros, and the byte behind it
abbrev pub field_of : (ending number : ℕ) → List ℕ
field_of ending number = decimal number ++ ending ∷ []

abbrev pub words_field : (ending : ℕ) → ℤ → List ℕ
words_field ending words = signed_decimal words ++ ending ∷ []

-- 1 or 0: whether the last step is refused
abbrev pub flag_of : Bool → ℕ
flag_of true = 49
flag_of false = 48

-- the pair that the last step shows, up to the end of the line
abbrev pub pair_of : ℤ × ℤ → List ℕ
pair_of pair = words_field space pair.0 ++ words_field line_feed pair.1

abbrev pub ending_of : Option (ℤ × ℤ) → List ℕ
ending_of None = line_feed ∷ []
ending_of (Some pair) = space ∷ pair_of pair

abbrev pub line_of : Entry → List ℕ
line_of entry = field_of space entry.context
    ++ (field_of space entry.steps ++ flag_of entry.refused ∷ ending_of entry.shown)

-- the most bytes of a line: four numbers of ten digits, with a byte behind each, and two more
abbrev pub most_line_bytes : ℕ
most_line_bytes = 46

abbrev pub text_of : List Entry → List ℕ
text_of [] = []
text_of (entry ∷ entries) = line_of entry ++ text_of entries

-- ---- texts of no schedule

-- they begin with the line of no entry
abbrev pub BeginsNoLine : List ℕ → Type 0
BeginsNoLine bytes =
    (entry : Entry) → IsEntry entry → (rest : List ℕ) → bytes ≢ line_of entry ++ rest

-- bytes that tell whether a text begins with a line, whatever follows them: they have a whole line,
-- or as many bytes as one may have
abbrev pub has_line_feed : List ℕ → Bool
has_line_feed bytes = list_any (λ byte. byte == line_feed) bytes

abbrev pub TellsLine : List ℕ → Type 0
TellsLine bytes = (most_line_bytes ≤ length bytes) ⊎ (has_line_feed bytes ≡ true)

-- bytes that don't
pub record IsPartOfLine (bytes : List ℕ) : Type 0 where
  pub short : length bytes < most_line_bytes
  pub open_ended : has_line_feed bytes ≡ false

-- the lines before the one of this number, counted from 1, are those of entries, and no entry's
-- line follows
pub record IsBadAt (bytes : List ℕ) (line : ℕ) : Type 0 where
  pub before : List Entry
  pub entries : AreEntries before
  pub number : line ≡ length before + 1
  pub rest : List ℕ
  pub is : bytes ≡ text_of before ++ rest
  pub some : rest ≢ []
  pub none : BeginsNoLine rest
