-- Where the fields of a dictionary say that its pairs are, and the place of a key among them.
use Rattle.std.specs.Prelude.{ℕ, ℤ, unsigned_abs, suc, List, [], ◌∷◌, Option, Some, None, option_map, unwrap_or, slice_index_or, take, if◌then◌else◌}
use Rattle.ps_word.specs.declared.words.Word.{Word}
use Rattle.ps_word.specs.Format.{content_in}
use Rattle.ps_word.specs.Readers.{as_integer, as_body}
use Rattle.ps_mem.specs.Heap.{Heap, fields_at, zero_word}
use Rattle.ps_mem.specs.Index.{pairs_of_words}
use Rattle.ps_mem.specs.Keys.{same_words}

-- ---- the fields

-- the size of an integer
abbrev pub natural_of : Option ℤ → ℕ
natural_of (Some number) = unsigned_abs number
natural_of None = 0

-- the natural number in a field
unfoldable pub natural_in : List Word → ℕ → ℕ
natural_in fields place =
    natural_of (as_integer (content_in (slice_index_or fields place zero_word).0))

-- the body's address in a field
unfoldable pub body_in : List Word → ℕ → ℕ
body_in fields place = unwrap_or (as_body (content_in (slice_index_or fields place zero_word).0)) 0

-- the number of pairs, the capacity, the access and the body of the dictionary at an address
abbrev pub count_at : Heap → ℕ → ℕ
count_at h address = natural_in (fields_at h address) 0

abbrev pub capacity_at : Heap → ℕ → ℕ
capacity_at h address = natural_in (fields_at h address) 1

abbrev pub access_at : Heap → ℕ → ℕ
access_at h address = natural_in (fields_at h address) 2

abbrev pub body_at : Heap → ℕ → ℕ
body_at h address = body_in (fields_at h address) 3

-- ---- the pairs

-- the pairs of the dictionary at an address
unfoldable pub pairs_at : Heap → ℕ → List (Word × Word)
pairs_at h address = take (count_at h address) (pairs_of_words (fields_at h (body_at h address)))

-- the place of the first pair of words whose key is the same
unfoldable pub place_of : List (Word × Word) → Word → Option ℕ
place_of [] key = None
place_of (pair ∷ pairs) key =
    if same_words pair.0 key then Some 0 else option_map suc (place_of pairs key)
