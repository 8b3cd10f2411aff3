-- What a removal leaves, and how many records it takes.
use Rattle.std.specs.Prelude.{ℕ, ◌+◌, ◌*◌, ◌==◌, slice_range, zero, suc, List, [], ◌∷◌, if◌then◌else◌}
use Rattle.ps_mem.specs.Heap.{Heap, fields_at, stored}
use Rattle.ps_dict.specs.Places.{count_at, body_at}

-- the list without what stands at a place
unfoldable pub without_place : {A : Type 0} → List A → ℕ → List A
without_place [] place = []
without_place (x ∷ xs) zero = xs
without_place (x ∷ xs) (suc place) = x ∷ without_place xs place

-- each of these one place down, over the first, and the last one there still
unfoldable pub shifted : {A : Type 0} → A → List A → List A
shifted x [] = x ∷ []
shifted x (y ∷ ys) = y ∷ shifted y ys

-- what stands behind a place one place down, and the last one there still
unfoldable pub moved_down : {A : Type 0} → List A → ℕ → List A
moved_down [] place = []
moved_down (x ∷ xs) zero = shifted x xs
moved_down (x ∷ xs) (suc place) = x ∷ moved_down xs place

-- of so many pairs, the one at this place: the pairs behind it, nulls, the number of pairs, and the
-- index
abbrev pub removal_records : ℕ → ℕ → ℕ
removal_records count place = if place + 1 == count then 3 else 4

-- the heap with the pairs behind a place one place down, and the last one twice
abbrev pub with_pairs_moved : Heap → (address place : ℕ) → Heap
with_pairs_moved h address place =
    stored h (body_at h address) (2 * place)
    (slice_range (fields_at h (body_at h address)) (2 * place + 2) (2 * count_at h address))
