-- Cuts: steps that leave a context whose turn could go on, or pass over the one whose turn is next
-- (delay bounding; PLRM2, 7.1, leaves the order of contexts open).
use Rattle.std.specs.Prelude.{◌≡◌, ℕ, zero, suc, ◌+◌, ◌-◌, ◌≤◌, ◌==◌, ◌⊎◌, Bool, true, false}
use Rattle.std.specs.Prelude.{Option, Some, None, List, [], ◌∷◌, ◌++◌, Any, length, map}
use Rattle.std.specs.Prelude.{if◌then◌else◌}
use Rattle.ps_language.specs.declared.schedules.Entry.{Entry}
use Rattle.ps_language.specs.Effect.{Note, turn_ends}
use Rattle.ps_language.specs.Locks.{is_ready}
use Rattle.ps_language.specs.Schedules.{Move, moves, count_of, plain_move}
use Rattle.ps_language.specs.Step.{stepped}
use Rattle.ps_language.specs.World.{World}
use Rattle.ps_language.specs.Worlds.{after_move, after_moves, starting_world, world, IsProper}
use Rattle.ps_searches.specs.Searches.{Prices}
use Rattle.ps_views.specs.declared.cuts.CutAt.{CutAt}

-- ---- who steps next

-- that of a yield, of a wait, or of a try that waits
abbrev pub is_turn_end : Note → Bool
is_turn_end turn_ends = true
is_turn_end _ = false

-- whose turn it is behind these moves: the last one's context, unless that step ended it
unfoldable pub holder : (start : World) → List Move → Option ℕ
holder now [] = None
holder now (move ∷ []) =
    if is_turn_end (stepped now move.context move.refused move.shown).note then None
    else Some move.context
holder now (move ∷ next ∷ rest) = holder (after_move now move) (next ∷ rest)

-- a context, where it is ready
abbrev pub if_ready : World → Option ℕ → Option ℕ
if_ready now None = None
if_ready now (Some context) = if is_ready now context then Some context else None

-- who goes on behind these moves: whose turn it is, where that context is ready
abbrev pub going : (start : World) → List Move → Option ℕ
going start made = if_ready (after_moves start made) (holder start made)

-- whose move is the last; 0 before the first
unfoldable pub last_of : List Move → ℕ
last_of [] = 0
last_of (move ∷ []) = move.context
last_of (move ∷ next ∷ rest) = last_of (next ∷ rest)

-- of so many identifiers, from one on, the first that is ready
unfoldable pub first_ready : World → (from count : ℕ) → Option ℕ
first_ready now from zero = None
first_ready now from (suc count) =
    if is_ready now from then Some from else first_ready now (suc from) count

-- the least above an identifier that is ready
abbrev pub next_above : World → (after : ℕ) → Option ℕ
next_above now after = first_ready now (suc after) (length now.contexts - after)

-- or else
abbrev pub or_else : Option ℕ → Option ℕ → Option ℕ
or_else (Some one) other = Some one
or_else None other = other

-- the next one by rising identifier, going round
abbrev pub next_round : World → (last : ℕ) → Option ℕ
next_round now last = or_else (next_above now last) (next_above now 0)

-- who steps without a cut behind these moves: who goes on or, where nobody does, the next one
abbrev pub due : (start : World) → List Move → Option ℕ
due start made =
    or_else (going start made) (next_round (after_moves start made) (last_of made))

-- ---- cuts

-- 1 for the step of another
abbrev pub cut_by : (due : Option ℕ) → (context : ℕ) → ℕ
cut_by None context = 0
cut_by (Some other) context = if other == context then 0 else 1

-- how many of these moves, behind others, are of another than who is due
unfoldable pub cuts_behind : (start : World) → (made more : List Move) → ℕ
cuts_behind start made [] = 0
cuts_behind start made (move ∷ more) =
    cut_by (due start made) move.context + cuts_behind start (made ++ move ∷ []) more

-- the cut that the step of a context is behind so many, if it is one
abbrev pub cut_at : (behind : ℕ) → (due : Option ℕ) → (context : ℕ) → List CutAt
cut_at behind None context = []
cut_at behind (Some other) context = if other == context then []
    else record { behind = behind; left = other; other = context } ∷ []

-- those of these moves, behind others, that are of another than who is due
unfoldable pub cuts_at : (start : World) → (made more : List Move) → List CutAt
cuts_at start made [] = []
cuts_at start made (move ∷ more) =
    cut_at (length made) (due start made) move.context
    ++ cuts_at start (made ++ move ∷ []) more

-- how many of a program's moves
abbrev pub cuts : (program : List ℕ) → List Move → ℕ
cuts program all = cuts_behind (starting_world program) [] all

-- ---- every order

-- no step is refused, and none keeps a pair that a vmstatus was shown
abbrev pub AllPlain : List Move → Type 0
AllPlain all = all ≡ map (λ (move : Move). plain_move move.context) all

-- as many steps as there may be, or fewer, and no context is ready behind them
abbrev pub IsWhole : (program : List ℕ) → (steps : ℕ) → (schedule : List Entry) → Type 0
IsWhole program steps schedule = (count_of schedule ≡ steps)
    ⊎ ((count_of schedule ≤ steps)
    × ((context : ℕ) → is_ready (world program schedule) context ≡ false))

-- a proper schedule of ordinary steps to the end, of at most so many
pub record IsOrder (program : List ℕ) (steps : ℕ) (schedule : List Entry) : Type 0 where
  pub proper : IsProper program schedule
  pub plain : AllPlain (moves schedule)
  pub whole : IsWhole program steps schedule

-- each of them with at most so many cuts ends as one of these
abbrev pub EveryEnding : {E : Type 0} → (EndsLike : World → E → Type 0) → (program : List ℕ)
    → (steps limit : ℕ) → (endings : List E) → Type 0
EveryEnding EndsLike program steps limit endings = (schedule : List Entry)
    → IsOrder program steps schedule → cuts program (moves schedule) ≤ limit
    → Any (EndsLike (world program schedule)) endings

-- ---- as a search sees them

-- ordinary steps of these contexts
abbrev pub steps_by : (path : List ℕ) → List Move
steps_by path = map plain_move path

-- what a step costs behind others: 1 where it is a cut; a context that isn't ready can't step
abbrev pub price : (program : List ℕ) → Prices
price program path context =
    if is_ready (after_moves (starting_world program) (steps_by path)) context
    then Some (cut_by (due (starting_world program) (steps_by path)) context) else None
