-- What bind makes of the elements of a procedure (PLRM2, 3.11, 8 'bind').
use Rattle.std.specs.Prelude.{◌≡◌, ◌≢◌, ℕ, ◌+◌, ◌≤◌, ◌||◌, Bool, true, false, Option, Some, None, List, [], ◌∷◌, length, drop, nat_le, IfSome, IsTrue, AllPairs, Result, Ok, Err, if◌then◌else◌}
use Rattle.ps_language.specs.declared.errors.ErrorName.{ErrorName}
use Rattle.ps_language.specs.declared.errors.ErrorName.TheVariants.{ExecStackOverflow, InvalidAccess, LimitCheck}
use Rattle.ps_language.specs.Value.{Part, Value, Store}
use Rattle.ps_language.specs.Access.{is_writable, part_elements}
use Rattle.ps_language.specs.Limits.{frame_limit, nesting_limit}
use Rattle.ps_language.specs.Control.{as_procedure}
use Rattle.ps_language.specs.StepValues.{LookedUp, known, looked_up, is_executable_name}
use Rattle.ps_language.specs.StepBind as language
use Rattle.ps_language.specs.StepBind.{at_end, at_inner, no_access, with_first, operator_in, bound_name, bound_element, bound}
use Rattle.ps_word.specs.declared.values.Part.{Part as PartHere}
use Rattle.ps_word.specs.declared.words.Word.{Word}
use Rattle.ps_mem.specs.Heap.{Heap, birth_at}
use Rattle.ps_mem.specs.Meaning.{value_of, part_of}
use Rattle.ps_mem.specs.Shows.{IsValue, AreValues, IsWithin, AreWithin, Shows}
use Rattle.ps_ops_operands.specs.Changes.{values_in}
use Rattle.ps_ops_control.specs.declared.frames.Frame.{Frame}
use Rattle.ps_ops_control.specs.declared.frames.Frame.TheVariants.{Bind}
use Rattle.ps_ops_control.specs.Frames.{IsHeld}
use Rattle.ps_step_frames.specs.declared.binds.Bound.{Bound}
use Rattle.ps_step_frames.specs.declared.binds.Bindings.{Bindings}
use Rattle.ps_step_frames.specs.declared.binds.Bound.TheVariants.{Kept, Replaced, Entered}

-- ---- one element, by what follows it

-- as the definitions go on
abbrev pub element_bound : (Value → LookedUp) → Value → (later : language.Bound) → language.Bound
element_bound look value later =
    if is_executable_name value then bound_name value (look value) later else bound_element value
    (as_procedure value) later

-- as it was done
abbrev pub left_by : (births : ℕ → ℕ) → (names : List (List ℕ)) → Word → (later : language.Bound)
    → Option Bound → language.Bound
left_by births names word later None = no_access
left_by births names word later (Some Kept) = with_first (value_of births names word) later
left_by births names word later (Some (Replaced operator)) =
    with_first (value_of births names operator) later
left_by births names word later (Some (Entered procedure inner)) =
    at_inner (value_of births names procedure ∷ []) (part_of births inner)

-- ---- whether something is replaced, up to the end or the next array to go into

abbrev pub is_operator : LookedUp → Bool
is_operator (known value) = operator_in value.what
is_operator found = false

abbrev pub is_entered : Option Part → Bool
is_entered None = false
is_entered (Some part) = is_writable part.access

-- of one element
abbrev pub is_replaced : (Value → LookedUp) → Value → Bool
is_replaced look value =
    if is_executable_name value then is_operator (look value) else is_entered (as_procedure value)

-- of all
abbrev pub replaces : (Value → LookedUp) → List Value → Bool
replaces look [] = false
replaces look (value ∷ rest) = is_replaced look value || replaces look rest

-- as it was done
abbrev pub was_replaced : Option Bound → Bool
was_replaced None = false
was_replaced (Some Kept) = false
was_replaced (Some bound) = true

-- the word that is left of an element
abbrev pub word_left : (word : Word) → Bound → Word
word_left word Kept = word
word_left word (Replaced operator) = operator
word_left word (Entered procedure inner) = procedure

-- the procedure that is gone into
abbrev pub inner_of : Bound → Option PartHere
inner_of (Entered procedure inner) = Some inner
inner_of bound = None

-- whether something was replaced before or is now
abbrev pub changed_by : (before : Bool) → Bound → Bool
changed_by before Kept = before
changed_by before bound = true

-- ---- the relation

-- under the names met and over a store that is shown
pub record IsHere (h : Heap) (dictionaries : List Word) (word : Word) (names : List (List ℕ))
    (s : Store) : Type 0 where
  pub shows : Shows h names s
  pub dictionaries_within : AreWithin h names s dictionaries
  pub apart : AllPairs (λ one later. one ≢ later) names
  pub word_within : IsWithin (birth_at h) names s word

-- through the dictionary stack
abbrev pub look_in : Heap → (dictionaries : List Word) → (names : List (List ℕ)) → Store → Value
    → LookedUp
look_in h dictionaries names s name = looked_up name (values_in h names dictionaries) s

-- the words that are new
abbrev pub AreHeld : Heap → Option Bound → Type 0
AreHeld h (Some (Replaced operator)) = IsValue h operator
AreHeld h (Some (Entered procedure inner)) = IsValue h procedure × IsHeld h inner
AreHeld h bound = Unit {0}

abbrev pub AreInside : Heap → (names : List (List ℕ)) → Store → Option Bound → Type 0
AreInside h names s (Some (Replaced operator)) = IsWithin (birth_at h) names s operator
AreInside h names s (Some (Entered procedure inner)) = IsWithin (birth_at h) names s procedure
AreInside h names s bound = Unit {0}

-- an element is bound as the definitions say
pub record Binds (h : Heap) (dictionaries : List Word) (word : Word) (result : Option Bound)
    : Type 0 where
  pub binds : (names : List (List ℕ)) (s : Store) → IsHere h dictionaries word names s
      → (later : language.Bound)
      → element_bound (look_in h dictionaries names s) (value_of (birth_at h) names word) later
      ≡ left_by (birth_at h) names word later result
  pub replaced : (names : List (List ℕ)) (s : Store) → IsHere h dictionaries word names s
      → is_replaced (look_in h dictionaries names s) (value_of (birth_at h) names word)
      ≡ was_replaced result
  pub held : AreHeld h result
  pub within : (names : List (List ℕ)) (s : Store) → IsHere h dictionaries word names s
      → AreInside h names s result

-- ---- all elements from a place on

-- under the names met and over a store that is shown
pub record IsThere (h : Heap) (dictionaries : List Word) (names : List (List ℕ)) (s : Store)
    : Type 0 where
  pub shows : Shows h names s
  pub dictionaries_within : AreWithin h names s dictionaries
  pub apart : AllPairs (λ one later. one ≢ later) names

-- the values from a place of a part on
abbrev pub values_from : Heap → PartHere → (at : ℕ) → Store → List Value
values_from h over at s = drop at (part_elements s (part_of (birth_at h) over))

abbrev pub ends_at : (births : ℕ → ℕ) → List Value → Option PartHere → language.Bound
ends_at births values None = at_end values
ends_at births values (Some inner) = at_inner values (part_of births inner)

-- as it was done
abbrev pub all_left : Heap → (names : List (List ℕ)) → List Word → Option Bindings
    → language.Bound
all_left h names words None = no_access
all_left h names words (Some bindings) =
    ends_at (birth_at h) (values_in h names words) bindings.inner

-- the elements from a place on are bound as the definitions say
pub record BindsAll (h : Heap) (dictionaries : List Word) (over : PartHere) (at : ℕ)
    (result : Option Bindings) (words : List Word) : Type 0 where
  pub binds : (names : List (List ℕ)) (s : Store) → IsThere h dictionaries names s
      → bound (look_in h dictionaries names s) (values_from h over at s)
      ≡ all_left h names words result
  pub replaced : (names : List (List ℕ)) (s : Store) → IsThere h dictionaries names s
      → IfSome result (λ bindings.
      replaces (look_in h dictionaries names s) (values_from h over at s) ≡ bindings.changed)
  pub count : at + length words ≤ over.length
  pub some : IfSome result (λ bindings. IsTrue bindings.changed → 1 ≤ length words)
  pub held : AreValues h words
  pub inner : IfSome result (λ bindings. IfSome bindings.inner (IsHeld h))
  pub within : (names : List (List ℕ)) (s : Store) → IsThere h dictionaries names s
      → AreWithin h names s words

-- ---- a step on a Bind frame

-- a procedure that is gone into lies no deeper than the limit, and its frame has room; count: of
-- frames
abbrev pub entered_within : Bindings → Option PartHere → (depth count : ℕ)
    → Result Bindings ErrorName
entered_within bindings None depth count = Ok bindings
entered_within bindings (Some inner) depth count =
    if nat_le (depth + 1) nesting_limit then
    (if nat_le (count + 1) frame_limit then Ok bindings else Err ExecStackOverflow)
    else Err LimitCheck

-- what may be stored, or the first error
abbrev pub within_limits : Option Bindings → (depth count : ℕ) → Result Bindings ErrorName
within_limits None depth count = Err InvalidAccess
within_limits (Some bindings) depth count = entered_within bindings bindings.inner depth count

-- the frames afterwards; at: behind the elements that are stored
abbrev pub bind_frames : (over : PartHere) → (at depth : ℕ) → Option PartHere
    → (below : List Frame) → List Frame
bind_frames over at depth None below = below
bind_frames over at depth (Some inner) below =
    Bind inner 0 (depth + 1) ∷ Bind over at depth ∷ below
