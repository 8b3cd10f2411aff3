-- What putting a pair into a dictionary does, and what it may lack.
use Rattle.std.specs.Prelude.{◌≡◌, ◌≤◌, ℕ, false, IsTrue, Some, List, drop, take}
use Rattle.ps_language.specs.declared.errors.ErrorName.TheVariants.{InvalidAccess, LimitCheck}
use Rattle.ps_language.specs.declared.errors.ErrorName.TheVariants.{VmError}
use Rattle.ps_language.specs.Access.{dictionary_at, is_writable, with_dictionary}
use Rattle.ps_language.specs.Dictionaries.{holding, put_pair}
use Rattle.ps_language.specs.Effect.{Scene}
use Rattle.ps_language.specs.Objects.{changing}
use Rattle.ps_language.specs.Outcome.{given, given_that, unnamed}
use Rattle.ps_language.specs.Rows.{Row, naming_row}
use Rattle.ps_language.specs.RowsDictionaries.{put_into}
use Rattle.ps_word.specs.declared.words.Word.{Word}
use Rattle.ps_mem.specs.Heap.{Heap, Grants}
use Rattle.ps_mem.specs.Meaning.{value_of}
use Rattle.ps_dict.specs.Puts.{planned, records_of}
use Rattle.ps_ops_operands.specs.Changes.{most_records, records_asked, words_asked, IsReasonFor}
use Rattle.ps_ops_operands.specs.declared.failure.NotMade.{NotMade as Reason}
use Rattle.ps_ops_state.specs.declared.breaks.Break.{Break}
use Rattle.ps_ops_state.specs.declared.breaks.Break.TheVariants.{Unwinds, Raises, NotMade}
use Rattle.ps_ops_state.specs.Acts.{Asked, no_rooms}
use Rattle.ps_ops_dictionaries.specs.Asks.{put_asked}

-- ---- a pair of words

-- put into the dictionary at an address; so many operands go
abbrev pub putting : (births : ℕ → ℕ) → (address : ℕ) → (key value : Word) → (count : ℕ) → Row
putting births address key value count = naming_row λ names store operands.
    given (holding (dictionary_at store (births address))
    (put_pair (dictionary_at store (births address)).pairs
    (value_of births names key, value_of births names value))) LimitCheck λ new.
    unnamed names
    (changing (drop count operands) (with_dictionary store (births address) new))

abbrev pub putting_asks : (births : ℕ → ℕ) → (address : ℕ) → (key : Word) → Scene → Asked
putting_asks births address key scene = record {
  records =
      records_of (planned (dictionary_at scene.store (births address))
      (value_of births scene.names key));
  scratch = no_rooms;
}

-- the same, whose key may be a string
abbrev pub putting_key : (births : ℕ → ℕ) → (address : ℕ) → (key value : Word) → (count : ℕ) → Row
putting_key births address key value count = naming_row λ names store operands.
    put_into names store (births address) (value_of births names key) (value_of births names value)
    (drop count operands)

-- the same, where the dictionary may be written
abbrev pub putting_where_writable : (births : ℕ → ℕ) → (address : ℕ) → (key value : Word)
    → (count : ℕ) → Row
putting_where_writable births address key value count = naming_row λ names store operands.
    given_that (is_writable (dictionary_at store (births address)).access) InvalidAccess
    (put_into names store (births address) (value_of births names key) (value_of births names value)
    (drop count operands))

abbrev pub putting_key_asks : (births : ℕ → ℕ) → (address : ℕ) → (key : Word) → Scene → Asked
putting_key_asks births address key scene =
    put_asked scene (Some (births address)) (value_of births scene.names key)

-- ---- what is lacked

-- of so many records and words
abbrev pub IsLack : (records words slot : ℕ) → Heap → (old new : Grants) → Reason → Type 0
IsLack records words slot h old new reason =
    IsReasonFor (records_asked records slot old new) (words_asked words 0 h)
    ((1 ≤ words) × IsTrue h.space.grows) reason

-- A refused step that formed a name may be noted; or it is not made, for want of the records of its
-- note, and the names are cut to so many
abbrev pub IsRefusal : (slot : ℕ) → Heap → (old new : List (List ℕ)) → (count : ℕ)
    → (asked left : Grants) → Break → Type 0
IsRefusal slot h old new count asked left (Raises error) =
    (error ≡ VmError) × (new ≡ old) × (most_records ≤ left.records slot)
    × (left.closed slot ≡ false)
IsRefusal slot h old new count asked left (NotMade reason) =
    (new ≡ take count old) × IsLack most_records 0 slot h asked left reason
IsRefusal slot h old new count asked left (Unwinds cause) = ⊥
