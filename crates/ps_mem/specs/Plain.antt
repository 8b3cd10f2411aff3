-- The space of a memory that grows, and what it grants.
use Rattle.std.specs.Prelude.{ℕ, ◌-◌, true, false, List, length}
use Rattle.ps_word.specs.Headers.{birth_limit}
use Rattle.ps_mem.specs.Heap.{Heap, Space, Grants, unlogged_records}
use Rattle.ps_mem.specs.Objects.{heap_in}

-- at most so many words
abbrev pub plain_space : Space
plain_space = record { size = 16777215; grows = true; flips = 0 }

-- where there are so many words, of which so many stand, and this is the next birth number: no
-- object ceases to be fresh, and no log is kept
abbrev pub plain_grants : ℕ → ℕ → ℕ → Grants
plain_grants size used next = record {
  fresh = λ address. true;
  words = size - used;
  births = birth_limit - next;
  cycle_open = false;
  records = λ slot. unlogged_records;
  put = λ slot. 0;
  closed = λ slot. false;
}

-- where these are the words of all objects, and this is the next birth number
abbrev pub heap_of_image : (words : List ℕ) → (next : ℕ) → Heap
heap_of_image words next = heap_in words (length words) next plain_space
