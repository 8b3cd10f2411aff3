-- The pairs of one dictionary put into another, by their words.
use Rattle.std.specs.Prelude.{ℕ, zero, suc, ◌+◌, ◌*◌, Option, Some, None, List, [], ◌∷◌, ◌++◌, length, fold, max, nat_le, if◌then◌else◌}
use Rattle.ps_language.specs.Value.{Dictionary}
use Rattle.ps_language.specs.Limits.{capacity_limit}
use Rattle.ps_language.specs.Dictionaries.{grown_capacity, body_words, put_pairs}
use Rattle.ps_word.specs.declared.words.Word.{Word}
use Rattle.ps_mem.specs.Heap.{Heap, birth_at}
use Rattle.ps_dict.specs.declared.copies.MergePlan.{MergePlan}
use Rattle.ps_dict.specs.declared.copies.MergePlan.TheVariants.{Keep, Rewrite, Grow, Full}
use Rattle.ps_dict.specs.Bodies.{whole_body}
use Rattle.ps_dict.specs.Places.{count_at, capacity_at, pairs_at, place_of}
use Rattle.ps_dict.specs.Puts.{with_value}

-- a pair whose key is at this place, or goes last
abbrev pub put_at : Option ℕ → List (Word × Word) → Word × Word → List (Word × Word)
put_at (Some place) pairs pair = with_value pairs place pair.1
put_at None pairs pair = pairs ++ pair ∷ []

-- a present key keeps its place and its word
unfoldable pub put_words : List (Word × Word) → Word × Word → List (Word × Word)
put_words pairs pair = put_at (place_of pairs pair.0) pairs pair

-- pairs put in order
abbrev pub merged : List (Word × Word) → List (Word × Word) → List (Word × Word)
merged pairs more = fold put_words pairs more

-- those of the dictionary at an address put into that at another
abbrev pub merged_at : Heap → (to from : ℕ) → List (Word × Word)
merged_at h to from = merged (pairs_at h to) (pairs_at h from)

-- ---- the plan

-- of a number of pairs put together, one at least, for a dictionary of a capacity
abbrev pub body_plan : (count capacity : ℕ) → MergePlan
body_plan count capacity =
    if nat_le count capacity then Rewrite count else
    (if nat_le count capacity_limit then Grow count (grown_capacity capacity count) else Full)

-- where so many pairs are put in
abbrev pub merge_plan : (more count capacity : ℕ) → MergePlan
merge_plan zero count capacity = Keep
merge_plan (suc more) count capacity = body_plan count capacity

-- of the pairs of one dictionary put into another
unfoldable pub merge_planned : (to from : Dictionary) → MergePlan
merge_planned to from =
    merge_plan (length from.pairs) (length (put_pairs to.pairs from.pairs)) to.capacity

-- by the words of two dictionaries
unfoldable pub merge_plan_at : Heap → (to from : ℕ) → MergePlan
merge_plan_at h to from =
    merge_plan (count_at h from) (length (merged_at h to from)) (capacity_at h to)

-- the words of the body that a plan writes
abbrev pub planned_words : MergePlan → (births : ℕ → ℕ) → (capacity : ℕ) → List (Word × Word)
    → List Word
planned_words Keep births capacity pairs = []
planned_words (Rewrite count) births capacity pairs = whole_body births capacity pairs
planned_words (Grow count grown) births capacity pairs = whole_body births grown pairs
planned_words Full births capacity pairs = []

unfoldable pub merge_words_at : Heap → (to from : ℕ) → MergePlan → List Word
merge_words_at h to from plan =
    planned_words plan (birth_at h) (capacity_at h to) (merged_at h to from)

-- the stores that it makes
abbrev pub records_of : MergePlan → ℕ
records_of Keep = 0
records_of (Rewrite count) = 2
records_of (Grow count capacity) = 1
records_of Full = 0

-- the words of the body that it makes
abbrev pub words_of : MergePlan → ℕ
words_of Keep = 0
words_of (Rewrite count) = 0
words_of (Grow count capacity) = body_words capacity
words_of Full = 0

-- the room in which they are put together: for the pairs of both, and for the whole body
unfoldable pub merge_room : Heap → (to from : ℕ) → ℕ
merge_room h to from =
    max (2 * (count_at h to + count_at h from))
    (3 * grown_capacity (capacity_at h to) (length (merged_at h to from)))

-- the same of two dictionaries
abbrev pub merge_room_of : (to from : Dictionary) → ℕ
merge_room_of to from =
    max (2 * (length to.pairs + length from.pairs))
    (3 * grown_capacity to.capacity (length (put_pairs to.pairs from.pairs)))
