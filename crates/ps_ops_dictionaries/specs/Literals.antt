-- What `>>` makes of the values above the mark, which are counted from the mark.
use Rattle.std.specs.Prelude.{◌≡◌, ◌⊎◌, ◌+◌, ◌*◌, ◌/◌, ◌<◌, ℕ, Bool, false, List, [], length, fold}
use Rattle.std.specs.Prelude.{not}
use Rattle.std.specs.List.{list_all, flat_map}
use Rattle.std.specs.Str.{bytes_eq}
use Rattle.ps_language.specs.declared.errors.ErrorName.TheVariants.{InvalidAccess, LimitCheck}
use Rattle.ps_language.specs.declared.errors.ErrorName.TheVariants.{RangeCheck, TypeCheck}
use Rattle.ps_language.specs.Access.{empty_dictionary, may_read_text}
use Rattle.ps_language.specs.Dictionaries.{form, fits_key, meet, put_pairs, texts_of_key}
use Rattle.ps_language.specs.Limits.{names_limit}
use Rattle.ps_language.specs.Objects.{making}
use Rattle.ps_language.specs.Outcome.{Outcome, Change, leaves, fails, given, given_that}
use Rattle.ps_language.specs.Readers.{is_null}
use Rattle.ps_language.specs.RowsDictionaries.{keys_among, pairs_among}
use Rattle.ps_language.specs.Value.{Value, dictionary_object, Store}
use Rattle.ps_word.specs.declared.words.Word.{Word}
use Rattle.ps_mem.specs.Heap.{Heap}
use Rattle.ps_mem.specs.Shows.{AreWithin, Shows}
use Rattle.ps_ops_operands.specs.declared.failure.NotMade.{NotMade as Reason}
use Rattle.ps_ops_operands.specs.declared.failure.NotMade.TheVariants.{Memory}
use Rattle.ps_ops_operands.specs.Changes.{IsLeft, IsRoomReason, values_in}
use Rattle.ps_ops_state.specs.declared.breaks.Break.{Break}
use Rattle.ps_ops_state.specs.declared.breaks.Break.TheVariants.{Unwinds, Raises, NotMade}
use Rattle.ps_step_lookup.specs.declared.keys.Key.{Key}
use Rattle.ps_step_lookup.specs.declared.keys.Key.TheVariants.{Met, Unmet, TooLong}

-- the texts whose names their keys form
abbrev pub texts_among : Store → List Value → List (List ℕ)
texts_among store values = flat_map (texts_of_key store) (keys_among values)

-- the names that are met then, however many
abbrev pub met_among : (names : List (List ℕ)) → Store → List Value → List (List ℕ)
met_among names store values = fold meet names (texts_among store values)

-- their pairs and the names that are met then, or the first error
abbrev pub tested : (names : List (List ℕ)) → Store → List Value
    → Outcome (List (Value × Value) × List (List ℕ))
tested names store values =
    given_that (list_all (λ k. not (is_null k)) (keys_among values)) TypeCheck
    (given_that (list_all may_read_text (keys_among values)) InvalidAccess
    (given (pairs_among store values) RangeCheck λ pairs.
    given_that (list_all fits_key (keys_among values)) LimitCheck
    (given (form names (texts_among store values)) LimitCheck λ met.
    leaves (pairs, met))))

-- a dictionary of these pairs, put in order
abbrev pub making_pairs : List (Value × Value) → List Value → Store → Outcome Change
making_pairs pairs rest store =
    making (dictionary_object
    (record (empty_dictionary (length pairs)) { pairs = put_pairs [] pairs })) rest store

-- ---- names

-- a key is a string of these characters, of which no name was met
abbrev pub is_unmet_as : List ℕ → Key → Bool
is_unmet_as text (Met w) = false
is_unmet_as text (Unmet other) = bytes_eq text other.items
is_unmet_as text TooLong = false

-- as many were met as may be, or memory was refused for one more
abbrev pub IsNamesFault : Heap → (names : List (List ℕ)) → (elements : List Word) → Break → Type 0
IsNamesFault h names elements (Raises error) =
    (error ≡ LimitCheck) × ((s : Store) → Shows h names s → AreWithin h names s elements
    → names_limit < length (met_among names s (values_in h names elements)))
IsNamesFault h names elements (NotMade reason) =
    (reason ≡ Memory) × ((s : Store) → Shows h names s → AreWithin h names s elements
    → length names < length (met_among names s (values_in h names elements)))
IsNamesFault h names elements (Unwinds cause) = ⊥

-- ---- the dictionary

-- it stands in the place of the mark and of what stood above it
abbrev pub LeavesAs : Outcome Change → (names : List (List ℕ)) → Heap → List Word → Type 0
LeavesAs (leaves change) names h words = IsLeft change names h words
LeavesAs (fails error) names h words = ⊥

-- the list has too little room for so many words, or there is none for the dictionary
abbrev pub LacksPairs : Reason → Heap → (room depth : ℕ) → Type 0
LacksPairs reason h room depth =
    ((reason ≡ Memory) × (room < depth)) ⊎ IsRoomReason reason h (8 + 3 * (depth / 2)) 1
