-- What a word is as a key under the names met, and what forming its name leaves.
use Rattle.std.specs.Prelude.{◌≡◌, ◌≤◌, ◌<◌, ◌+◌, ◌++◌, ◌⊎◌, ℕ, List, [], ◌∷◌, length, Option, Some}
use Rattle.std.specs.Prelude.{None, true, false, Result, Ok, Err}
use Rattle.ps_language.specs.declared.errors.ErrorName.TheVariants.{LimitCheck}
use Rattle.ps_language.specs.Access.{bytes, part_bytes}
use Rattle.ps_language.specs.Limits.{name_limit, names_limit}
use Rattle.ps_language.specs.Value.{Value, Store}
use Rattle.ps_language.specs.Readers.{literal_name}
use Rattle.ps_language.specs.Equality.{key_of}
use Rattle.ps_language.specs.Dictionaries.{texts_of_key, fits_key}
use Rattle.ps_word.specs.declared.words.Word.{Word}
use Rattle.ps_word.specs.declared.values.Part.{Part}
use Rattle.ps_word.specs.declared.values.Content.TheVariants.{Name}
use Rattle.ps_word.specs.Format.{value_in, IsWord}
use Rattle.ps_mem.specs.Heap.{Heap, birth_at}
use Rattle.ps_mem.specs.Meaning.{value_of, part_of}
use Rattle.ps_mem.specs.Shows.{IsValue, IsWithin, Shows}
use Rattle.ps_names.specs.Names.{place_of, AreNames}
use Rattle.ps_ops_operands.specs.declared.failure.NotMade.TheVariants.{Memory}
use Rattle.ps_ops_state.specs.declared.breaks.Break.{Break}
use Rattle.ps_ops_state.specs.declared.breaks.Break.TheVariants.{Raises, NotMade}
use Rattle.ps_step_lookup.specs.declared.keys.Key.{Key}
use Rattle.ps_step_lookup.specs.declared.keys.Key.TheVariants.{Met, Unmet, TooLong}

-- ---- names

-- the word is the literal name of a text that was met
pub record IsNameOf (names : List (List ℕ)) (text : List ℕ) (w : Word) : Type 0 where
  pub number : ℕ
  pub is : value_in w.0 ≡ record { content = Name number; executable = false }
  pub word : IsWord w.0
  pub met : place_of text names ≡ Some number

-- a text of which no name was met, though it might be
pub record IsUnmet (names : List (List ℕ)) (text : List ℕ) : Type 0 where
  pub short : length text ≤ name_limit
  pub unmet : place_of text names ≡ None

-- ---- strings

-- a part of a string has these characters in every store that is shown
pub record Reads (h : Heap) (names : List (List ℕ)) (part : Part) (text : List ℕ) : Type 0 where
  pub count : length text ≡ part.length
  pub shown : (s : Store) → Shows h names s
      → part.offset + part.length ≤ length (bytes s (birth_at h part.address))
      → part_bytes s (part_of (birth_at h) part) ≡ text

abbrev pub IsTextKey : Heap → (names : List (List ℕ)) → Part → Key → Type 0
IsTextKey h names part (Met w) =
    (text : List ℕ) × Reads h names part text × IsNameOf names text w
IsTextKey h names part (Unmet text) =
    Reads h names part text.items × IsUnmet names text.items
IsTextKey h names part TooLong = name_limit < part.length

-- ---- keys

-- the key is the value of this word, and no string's name is to be formed
pub record IsKey (births : ℕ → ℕ) (names : List (List ℕ)) (s : Store) (k : Value) (w : Word)
    : Type 0 where
  pub is : key_of s k ≡ value_of births names w
  pub within : IsWithin births names s w
  pub fits : fits_key k ≡ true
  pub texts : (texts_of_key s k ≡ [])
      ⊎ ((text : List ℕ) × (number : ℕ) × (texts_of_key s k ≡ text ∷ [])
      × (place_of text names ≡ Some number))

-- the key is the name of a text that was not met
pub record IsNamed (names : List (List ℕ)) (s : Store) (k : Value) (text : List ℕ) : Type 0 where
  pub is : key_of s k ≡ literal_name text
  pub texts : texts_of_key s k ≡ text ∷ []
  pub unmet : place_of text names ≡ None

-- by what was read
abbrev pub IsKeyIn : (births : ℕ → ℕ) → (names : List (List ℕ)) → Store → Value → Key → Type 0
IsKeyIn births names s k (Met w) = IsKey births names s k w
IsKeyIn births names s k (Unmet text) =
    IsNamed names s k text.items × (fits_key k ≡ true)
IsKeyIn births names s k TooLong =
    (text : List ℕ) × IsNamed names s k text × (fits_key k ≡ false)

-- the word of a key that a dictionary may have
abbrev pub word_in : Key → Option Word
word_in (Met w) = Some w
word_in (Unmet text) = None
word_in TooLong = None

-- in every memory
abbrev pub IsKeyWord : Heap → (names : List (List ℕ)) → Key → Type 0
IsKeyWord h names (Met w) = IsValue h w
IsKeyWord h names (Unmet text) = IsUnmet names text.items
IsKeyWord h names TooLong = Unit {0}

-- its name may be formed
abbrev pub IsFormable : (names : List (List ℕ)) → Key → Type 0
IsFormable names (Met w) = Unit {0}
IsFormable names (Unmet text) = IsUnmet names text.items
IsFormable names TooLong = Unit {0}

-- what a word is as a key
pub record IsKeyOf (h : Heap) (names : List (List ℕ)) (k : Word) (key : Key) : Type 0 where
  pub held : IsKeyWord h names key
  pub few : length names ≤ names_limit
  pub shown : (s : Store) → Shows h names s → IsWithin (birth_at h) names s k
      → IsKeyIn (birth_at h) names s (value_of (birth_at h) names k) key

-- the names once that of a key is formed
abbrev pub names_with : List (List ℕ) → Key → List (List ℕ)
names_with names (Met w) = names
names_with names (Unmet text) = names ++ text.items ∷ []
names_with names TooLong = names

-- ---- forming

-- What forming the name of a key came to: it is met, or there is a reason why not and no name is
-- formed. It is too long, as many were met as may be, or memory was refused
abbrev pub IsForming : (names : List (List ℕ)) → Key → Result Unit Break → Type 0
IsForming names (Met w) (Ok _) = Unit {0}
IsForming names (Unmet text) (Ok _) = length names < names_limit
IsForming names (Unmet text) (Err (Raises error)) =
    (error ≡ LimitCheck) × (length names ≡ names_limit)
IsForming names (Unmet text) (Err (NotMade reason)) =
    (reason ≡ Memory) × (length names < names_limit)
IsForming names TooLong (Err (Raises error)) = error ≡ LimitCheck
IsForming names key result = ⊥

pub record Forms (old new : List (List ℕ)) (key : Key) (result : Result Unit Break) : Type 0 where
  pub did : IsForming old key result
  pub made : result ≡ Ok tt → (new ≡ names_with old key) × AreNames new
  pub unmade : (break : Break) → result ≡ Err break → new ≡ old
