-- Where the objects that a token makes begin in the text, and their elements.
use Rattle.std.specs.Prelude.{◌≡◌, ℕ, zero, suc, ◌+◌, Option, Some, None, List, [], ◌∷◌, ◌++◌}
use Rattle.std.specs.Prelude.{length, slice_get}
use Rattle.std.specs.List.{flat_map}
use Rattle.std.specs.Option.{option_and_then}
use Rattle.ps_language.specs.Limits.{nesting_limit}
use Rattle.ps_language.specs.Scan.{scan}
use Rattle.ps_language.specs.Token.{Token, string_token, procedure_token, Scan, found, exhausted}
use Rattle.ps_language.specs.Token.{faulty}
use Rattle.ps_places.specs.declared.objects.Sought.{Sought}
use Rattle.ps_places.specs.declared.objects.Sought.TheVariants.{Begins, Behind}
use Rattle.ps_places.specs.Tokens.{token_begin}

-- a token more, and those behind it
abbrev pub then_places : (further : ℕ → List ℕ) → (begin : ℕ) → Scan → List ℕ
then_places further begin (found token end) = begin ∷ further end
then_places further begin exhausted = []
then_places further begin (faulty fault) = []

-- where the tokens begin, by a counter that is above the number of bytes left
unfoldable pub token_places_by : (counter : ℕ) (text : List ℕ) (at : ℕ) → List ℕ
token_places_by zero text at = []
token_places_by (suc counter) text at =
    then_places (token_places_by counter text) (token_begin text at) (scan text at)

-- where the tokens begin from a place on, one behind another, up to where none can be read: in a
-- procedure, up to its closing brace
unfoldable pub token_places : (text : List ℕ) (at : ℕ) → List ℕ
token_places text at = token_places_by (suc (length text)) text at

-- where the elements begin of what was read at a place: a string has none
abbrev pub elements_in : (text : List ℕ) (begin : ℕ) → Scan → List ℕ
elements_in text begin (found (procedure_token _) _) = token_places text (begin + 1)
elements_in text begin _ = []

-- where the objects begin of what was read at a place, with those inside
abbrev pub with_own : (inner : List ℕ) (begin : ℕ) → Scan → List ℕ
with_own inner begin (found (string_token _) _) = inner ++ begin ∷ []
with_own inner begin (found (procedure_token _) _) = inner ++ begin ∷ []
with_own inner begin _ = []

-- where the objects begin of the token that begins at a place, in the order of their births: inner
-- before outer, left to right. So many may be one in another
unfoldable pub objects_at : (room : ℕ) (text : List ℕ) (begin : ℕ) → List ℕ
objects_at zero text begin = []
objects_at (suc room) text begin =
    with_own (flat_map (objects_at room text) (elements_in text begin (scan text begin))) begin
    (scan text begin)

-- those of the tokens from a place on
abbrev pub objects_within : (room : ℕ) (text : List ℕ) (at : ℕ) → List ℕ
objects_within room text at = flat_map (objects_at room text) (token_places text at)

-- a string may stand in procedures of the deepest nesting
unfoldable pub object_begin : (text : List ℕ) (begin object : ℕ) → Option ℕ
object_begin text begin object = slice_get (objects_at (suc nesting_limit) text begin) object

-- how many objects the token makes
unfoldable pub object_count : (text : List ℕ) (begin : ℕ) → ℕ
object_count text begin = length (objects_at (suc nesting_limit) text begin)

-- where an element of an object of the token begins
unfoldable pub element_begin : (text : List ℕ) (begin object element : ℕ) → Option ℕ
element_begin text begin object element =
    option_and_then (λ place. slice_get (elements_in text place (scan text place)) element)
    (object_begin text begin object)

-- the object of a number among these, or its number behind them
abbrev pub IsSought : (objects : List ℕ) (number : ℕ) → Sought → Type 0
IsSought objects number (Begins place) = slice_get objects number ≡ Some place
IsSought objects number (Behind left) = number ≡ length objects + left
