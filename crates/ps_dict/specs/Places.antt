-- Where the fields of a dictionary say that its pairs are, and the place of a key among them.
use Rattle.std.specs.Prelude.{ℕ, ◌<◌, IsTrue, suc, List, [], ◌∷◌, Option, Some, None, option_map, if◌then◌else◌, true, map, length, slice_get, slice_set, ◌≡◌, ◌^◌}
use Rattle.ps_language.specs.Value.{Value}
use Rattle.ps_language.specs.Equality.{same_key}
use Rattle.ps_word.specs.declared.words.Word.{Word}
use Rattle.ps_mem.specs.Heap.{Heap, Grants}
use Rattle.ps_mem.specs.Index.{has_free, placed, index_word}
pub use Rattle.ps_mem.specs.Places.{natural_of, count_at, capacity_at, access_at, body_at}
unfoldable pub use Rattle.ps_mem.specs.Places.{natural_in, body_in, pairs_at, place_of}

-- a list of this capacity doesn't take as many words as the dictionary has room for
abbrev pub IsShort : (capacity : ℕ) → Heap → (address : ℕ) → Type 0
IsShort capacity h address = capacity < capacity_at h address

-- its body may still be filled
abbrev pub HasNewBody : Heap → Grants → (address : ℕ) → Type 0
HasNewBody h grants address = IsTrue (grants.fresh (body_at h address))

-- ---- places

-- the place of an index, given by its words, in which a position goes that is looked for from a
-- start on
abbrev pub IsPlaceFor : List Word → (capacity start place : ℕ) → Type 0
IsPlaceFor words capacity start place =
    (places : List (Option ℕ)) → words ≡ map index_word places → length places ≡ capacity
    → ((i q : ℕ) → slice_get places i ≡ Some (Some q) → q < 2 ^ 31) → has_free places ≡ true
    → (position : ℕ) → placed position start places ≡ slice_set places place (Some position)

-- the place of the first pair whose key is the same
unfoldable pub first_place : List (Value × Value) → Value → Option ℕ
first_place [] key = None
first_place (pair ∷ pairs) key =
    if same_key pair.0 key then Some 0 else option_map suc (first_place pairs key)
