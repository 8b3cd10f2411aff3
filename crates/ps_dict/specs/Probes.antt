-- A key is looked for in the index of a dictionary: at one place behind another, from that of its
-- hash number on (linear probing).
use Rattle.std.specs.Prelude.{◌≡◌, ℕ, ◌+◌, ◌-◌, ◌%◌, ◌<◌, Bool, false, List, [], ◌∷◌, ◌++◌, drop, take, slice_get, ⊤, Option, Some, None, if◌then◌else◌, nat_lt}
use Rattle.ps_word.specs.declared.words.Word.{Word}
use Rattle.ps_mem.specs.Heap.{Heap, birth_at}
use Rattle.ps_mem.specs.Index.{hash_of, hashes_of, index_of}
use Rattle.ps_dict.specs.Keys.{same_words}
use Rattle.ps_dict.specs.Places.{count_at, capacity_at, pairs_at, place_of}
use Rattle.ps_dict.specs.declared.dictionaries.Look.{Look}
use Rattle.ps_dict.specs.declared.dictionaries.Look.TheVariants.{Here, Other, Free}

-- the places from one on, going round
unfoldable pub turned : {A : Type 0} → ℕ → List A → List A
turned start places = drop start places ++ take start places

-- the place so many behind another, going round
abbrev pub going_round : (start behind capacity : ℕ) → ℕ
going_round start behind capacity =
    if nat_lt (start + behind) capacity then start + behind else start + behind - capacity

-- the first position that is the same, where no place before it is free
abbrev pub looked_up : (ℕ → Bool) → List (Option ℕ) → Option ℕ
looked_up same [] = None
looked_up same (None ∷ places) = None
looked_up same (Some q ∷ places) = if same q then Some q else looked_up same places

abbrev pub same_found : Option (Word × Word) → Word → Bool
same_found None key = false
same_found (Some pair) key = same_words pair.0 key

-- whether the pair at a position has the key
abbrev pub same_at : List (Word × Word) → Word → ℕ → Bool
same_at pairs key q = same_found (slice_get pairs q) key

-- the place at which a key is looked for first
abbrev pub start_at : Heap → (address : ℕ) → Word → ℕ
start_at h address key = hash_of (birth_at h) key % capacity_at h address

-- the places from so many behind that on have the place of the key among the pairs
abbrev pub StillAhead : Heap → (address : ℕ) → Word → (behind : ℕ) → Type 0
StillAhead h address key behind =
    let pairs = pairs_at h address in
    let capacity = capacity_at h address in
    looked_up (same_at pairs key)
    (drop behind (turned (start_at h address key)
    (index_of capacity (hashes_of (birth_at h) pairs)))) ≡ place_of pairs key

-- what the place so many behind it tells
abbrev pub Tells : Heap → (address : ℕ) → Word → (behind : ℕ) → Look → Type 0
Tells h address key behind (Here position) = place_of (pairs_at h address) key ≡ Some position
Tells h address key behind Other = StillAhead h address key (behind + 1)
Tells h address key behind Free = place_of (pairs_at h address) key ≡ None

-- a position that is told is one of a pair
abbrev pub IsPosition : Heap → (address : ℕ) → Look → Type 0
IsPosition h address (Here position) = position < count_at h address
IsPosition h address look = ⊤
