-- Where the value of a name stands that one of two dictionaries has as a key, as a memory's cells
-- tell it.
use Rattle.std.specs.Prelude.{ℕ, ◌≡◌, ◌≢◌, ◌⊎◌, ◌+◌, ◌-◌, ◌*◌, ◌%◌, ◌<◌, ◌≤◌, true, List, length, slice_get, Option, Some, None, option_map}
use Rattle.std.specs.Option.{option_or}
use Rattle.ps_language.specs.Access.{is_readable}
use Rattle.ps_language.specs.declared.kinds.Kind.{Kind}
use Rattle.ps_language.specs.declared.kinds.Kind.TheVariants.{Dictionary as DictionaryKind, Body as BodyKind}
use Rattle.ps_word.specs.declared.words.Word.{Word}
use Rattle.ps_word.specs.declared.values.Content.TheVariants.{Name}
use Rattle.ps_word.specs.Format.{content_in, access_of}
use Rattle.ps_word.specs.Readers.{as_dictionary}
use Rattle.ps_mem.specs.Heap.{Heap, Standing, object_at, fields_at}
use Rattle.ps_mem.specs.Places.{access_at, body_at, pairs_at, place_of}
use Rattle.ps_mem.specs.declared.cells.Cell.{Cell}
use Rattle.ps_mem.specs.declared.cells.DictionaryPlace.{DictionaryPlace}
use Rattle.ps_mem.specs.declared.cells.DictionaryPair.{DictionaryPair}

-- ---- what a cell tells

-- the kind of what stands at an address
abbrev pub kind_at : Heap → ℕ → Option Kind
kind_at h address = option_map (λ (o : Standing). o.kind) (object_at h address)

-- a dictionary that can be read stands there, with this body
pub record IsOpen (h : Heap) (d : DictionaryPlace) : Type 0 where
  pub is : as_dictionary (content_in d.word.0) ≡ Some d.address
  pub stands : kind_at h d.address ≡ Some DictionaryKind
  pub readable : is_readable (access_of (access_at h d.address)) ≡ true
  pub body : body_at h d.address ≡ d.body
  pub body_stands : kind_at h d.body ≡ Some BodyKind

-- the cell of the value of the pair at a place
abbrev pub cell_at : (body place : ℕ) → Cell
cell_at body place = record { body = body; at = body + (2 * place + 1) }

-- that of the first pair with a key in the upper one of two dictionaries, or else in the lower one
abbrev pub first_cell : Heap → DictionaryPair → Word → Option Cell
first_cell h pair key =
    option_or (option_map (cell_at pair.upper.body) (place_of (pairs_at h pair.upper.address) key))
    (option_map (cell_at pair.lower.body) (place_of (pairs_at h pair.lower.address) key))

-- the name's value stands there, by the first of two dictionaries that has it
pub record IsCellOf (h : Heap) (pair : DictionaryPair) (name : ℕ) (cell : Cell) : Type 0 where
  pub upper : IsOpen h pair.upper
  pub lower : IsOpen h pair.lower
  pub first : (key : Word) → content_in key.0 ≡ Name name → first_cell h pair key ≡ Some cell
  pub from : cell.body ≤ cell.at
  pub within : cell.at - cell.body < length (fields_at h cell.body)

-- a name's value, by the first of the dictionaries of two words that has it
pub record IsFirstValue (h : Heap) (upper lower : Word) (name : ℕ) (value : Word) : Type 0 where
  pub pair : DictionaryPair
  pub cell : Cell
  pub above : pair.upper.word ≡ upper
  pub below : pair.lower.word ≡ lower
  pub tells : IsCellOf h pair name cell
  pub stands : slice_get (fields_at h cell.body) (cell.at - cell.body) ≡ Some value

-- ---- all cells

-- each that is kept tells so
abbrev pub AreCellsOf : Heap → DictionaryPair → List Cell → Type 0
AreCellsOf h pair cells =
    (name : ℕ) (cell : Cell) → slice_get cells name ≡ Some cell → 0 < cell.at
    → IsCellOf h pair name cell

-- no address of the two is above this one
abbrev pub IsBelow : DictionaryPlace → (top : ℕ) → Type 0
IsBelow d top = (d.address ≤ top) × (d.body ≤ top)

-- ---- what a store leaves

-- words that are stored at an address replace nothing of the dictionary
abbrev pub IsElsewhere : DictionaryPlace → (address : ℕ) → Type 0
IsElsewhere d address = (address ≢ d.address) × (address ≢ d.body)

-- so many words from a place on are the value of a pair, if it is that of a body
abbrev pub IsOneValue : (place count : ℕ) → Type 0
IsOneValue place count = (count ≡ 1) × (place % 2 ≡ 1)

-- what the cells tell holds behind the store of so many words: these go elsewhere, or replace a
-- value
abbrev pub Leaves : DictionaryPair → (address place count : ℕ) → Type 0
Leaves pair address place count =
    (IsElsewhere pair.upper address × IsElsewhere pair.lower address)
    ⊎ (((address ≡ pair.upper.body) ⊎ (address ≡ pair.lower.body)) × IsOneValue place count)
