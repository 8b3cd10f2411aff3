-- When a cycle may be opened, how many there were, and what the end of one makes of a memory and of
-- the words that refer to it from outside.
use Rattle.std.specs.Prelude.{ℕ, ◌≡◌, ◌+◌, ◌&&◌, Bool, false, not, nat_lt, List, if◌then◌else◌}
use Rattle.ps_word.specs.declared.words.Word.{Word}
use Rattle.ps_word.specs.Headers.{cycle_limit}
use Rattle.ps_mem.specs.Heap.{Heap, Space, Grants}
use Rattle.ps_core_laws.specs.Moves.{Forwarding, IsMovedTo, HaveReplicas, moved_words}
use Rattle.ps_core_laws.specs.Reached.{MovesReached}

-- ---- cycles

-- behind so many flipped ones one may be opened: none is open, and cycles are left, whose numbers
-- are below the limit
abbrev pub may_open : (is_open : Bool) → (flips : ℕ) → Bool
may_open is_open flips = not is_open && nat_lt (flips + 1) cycle_limit

-- one more was flipped, or not
abbrev pub one_more_if : Bool → (flips : ℕ) → ℕ
one_more_if flipped flips = if flipped then flips + 1 else flips

-- the space, whose flips are those that this counts
abbrev pub flipped_space : (counted : ℕ → ℕ) → Space → Space
flipped_space counted space = record space { flips = counted space.flips }

-- the open one was ended, if one was open, and then a whole one was made, if cycles were left
abbrev pub stopped : (is_open : Bool) → (flips : ℕ) → ℕ
stopped is_open flips =
    one_more_if (may_open false (one_more_if is_open flips)) (one_more_if is_open flips)

-- no cycle is open, and no log is closed
pub record IsQuiet (grants : Grants) : Type 0 where
  pub cycle_open : grants.cycle_open ≡ false
  pub closed : (slot : ℕ) → grants.closed slot ≡ false

-- ---- the end of a cycle

-- the memory was moved with all that the roots refer to, and they are renamed
pub record IsCollected (h now : Heap) (roots renamed : List Word) : Type 0 where
  pub forward : Forwarding
  pub moves : IsMovedTo h now forward
  pub complete : HaveReplicas forward roots
  pub are : renamed ≡ moved_words forward roots

-- and with nothing else
pub record IsExact (h now : Heap) (roots renamed : List Word) : Type 0 where
  pub collected : IsCollected h now roots renamed
  pub just : MovesReached h collected.forward roots
