-- Schedules: which context makes each step of a run (the form is this profile's own; PLRM2, 7.1,
-- leaves the order of contexts open).
use Rattle.std.specs.Prelude.{ℕ, zero, suc, ℤ, ◌+◌, ◌&&◌, ◌==◌, Bool, true, false, not, Option}
use Rattle.std.specs.Prelude.{None, is_none, List, [], ◌∷◌, ◌++◌, length, replicate, nat_lt}
use Rattle.std.specs.Prelude.{if◌then◌else◌}
use mathlib.Core.List.{IsPrefix}
use Rattle.ps_language.specs.declared.schedules.Entry.{Entry}

-- one step: a context, whether the step is refused a new object, and what a vmstatus in it shows
pub record Move : Type 0 where
  pub context : ℕ
  pub refused : Bool
  pub shown : Option (ℤ × ℤ)

-- all but the last of an entry's steps are ordinary ones
abbrev pub plain_move : (context : ℕ) → Move
plain_move context = record { context = context; refused = false; shown = None }

-- the last step of an entry
abbrev pub last_move : Entry → Move
last_move entry = record { context = entry.context; refused = entry.refused; shown = entry.shown }

-- the steps of an entry
abbrev pub moves_of : Entry → ℕ → List Move
moves_of entry zero = []
moves_of entry (suc before) = replicate before (plain_move entry.context) ++ last_move entry ∷ []

-- the single steps of a schedule, in order; an entry of 0 steps is none
unfoldable pub moves : List Entry → List Move
moves [] = []
moves (entry ∷ entries) = moves_of entry entry.steps ++ moves entries

-- how many steps
unfoldable pub count_of : List Entry → ℕ
count_of schedule = length (moves schedule)

-- ---- schedules of the longest entries

-- an entry has at most so many steps
abbrev pub steps_limit : ℕ
steps_limit = 4294967295

-- whether a further step of a context joins an entry: the entry is of that context, its last step
-- is an ordinary one, and it isn't full
abbrev pub joins : Entry → ℕ → Bool
joins entry context = (entry.context == context)
    && (not entry.refused && (is_none entry.shown && nat_lt entry.steps steps_limit))

-- an entry of one step
abbrev pub single : Move → Entry
single move =
    record { context = move.context; steps = 1; refused = move.refused; shown = move.shown }

-- an entry with a step more
abbrev pub joined : Entry → Move → Entry
joined entry move =
    record {
      context = entry.context;
      steps = entry.steps + 1;
      refused = move.refused;
      shown = move.shown;
    }

-- a step more joins the last entry, where it can
abbrev pub added : List Entry → Move → List Entry
added [] move = single move ∷ []
added (entry ∷ []) move =
    if joins entry move.context then joined entry move ∷ [] else entry ∷ single move ∷ []
added (entry ∷ next ∷ entries) move = entry ∷ added (next ∷ entries) move

-- each entry has a step, and no two neighbours could be one
abbrev pub is_longest : List Entry → Bool
is_longest [] = true
is_longest (entry ∷ []) = nat_lt 0 entry.steps
is_longest (entry ∷ next ∷ entries) = nat_lt 0 entry.steps
    && (not (joins entry next.context) && is_longest (next ∷ entries))

-- ---- beginnings

-- the steps of a schedule are the first steps of another, however they lie in entries
abbrev pub Begins : (part whole : List Entry) → Type 0
Begins part whole = IsPrefix (moves part) (moves whole)
