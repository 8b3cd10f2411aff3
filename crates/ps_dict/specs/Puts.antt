-- What a put of a key does: which words it writes, and how many records and words of room it takes.
use Rattle.std.specs.Prelude.{ℕ, ◌≡◌, ◌≢◌, ◌≤◌, ◌+◌, Option, Some, None, zero, suc, List, [], ◌∷◌, length, nat_lt, if◌then◌else◌}
use Rattle.ps_language.specs.Value.{Value, Dictionary}
use Rattle.ps_language.specs.Limits.{capacity_limit}
use Rattle.ps_language.specs.Dictionaries.{grown_capacity, body_words}
use Rattle.ps_word.specs.declared.words.Word.{Word}
use Rattle.ps_mem.specs.Heap.{Heap, Grants}
use Rattle.ps_dict.specs.declared.plans.PutPlan.{PutPlan}
use Rattle.ps_dict.specs.declared.plans.PutPlan.TheVariants.{Replace, Append, Grow, Full}
use Rattle.ps_dict.specs.Places.{count_at, capacity_at, pairs_at, place_of, first_place}

-- where the key is there, its value is replaced; else a pair goes last, in a greater body where the
-- capacity is used up
abbrev pub plan_from : Option ℕ → ℕ → ℕ → PutPlan
plan_from (Some place) count capacity = Replace place
plan_from None count capacity =
    if nat_lt count capacity_limit then
    (if nat_lt count capacity then Append else Grow (grown_capacity capacity (count + 1))) else
    Full

-- of a key in a dictionary
unfoldable pub planned : Dictionary → Value → PutPlan
planned d key = plan_from (first_place d.pairs key) (length d.pairs) d.capacity

-- of a word as a key in the dictionary at an address
unfoldable pub plan_at : Heap → ℕ → Word → PutPlan
plan_at h address key = plan_from (place_of (pairs_at h address) key) (count_at h address)
    (capacity_at h address)

-- the pairs with another value at a place
unfoldable pub with_value : {K V : Type 0} → List (K × V) → ℕ → V → List (K × V)
with_value [] place value = []
with_value (pair ∷ pairs) zero value = (pair.0, value) ∷ pairs
with_value (pair ∷ pairs) (suc place) value = pair ∷ with_value pairs place value

-- the stores that it makes
abbrev pub records_of : PutPlan → ℕ
records_of (Replace place) = 1
records_of Append = 3
records_of (Grow capacity) = 1
records_of Full = 0

-- the words of the body that it makes
abbrev pub words_of : PutPlan → ℕ
words_of (Replace place) = 0
words_of Append = 0
words_of (Grow capacity) = body_words capacity
words_of Full = 0

-- stores and new bodies put and use up at most so many records of the slot and so many words, and
-- nothing of what was granted else
pub record AfterChange (old new : Grants) (slot stores room : ℕ) : Type 0 where
  pub words : old.words ≤ new.words + room
  pub births : old.births ≤ new.births
  pub cycle_open : new.cycle_open ≡ old.cycle_open
  pub closed : new.closed ≡ old.closed
  pub used : old.records slot ≤ new.records slot + stores
  pub others : (s : ℕ) → s ≢ slot → new.records s ≡ old.records s
  pub kept : old.put slot ≤ new.put slot
  pub put : new.put slot ≤ old.put slot + stores
  pub put_no_other : (s : ℕ) → s ≢ slot → new.put s ≡ old.put s
