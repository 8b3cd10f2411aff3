-- In which order a run gives turns to contexts: in passes by rising identifier (PLRM2, 7.1).
use Rattle.std.specs.Prelude.{◌≡◌, ◌≢◌, ℕ, ℤ, ◌%◌, ◌<◌, ◌≤◌, true, false, Option, Some, None, List, [], ◌∷◌, ◌++◌, map, replicate, ◌⊎◌}
use Rattle.ps_language.specs.Contexts.{context_at}
use Rattle.ps_language.specs.Effect.{Note, turn_ends, wishes}
use Rattle.ps_language.specs.Locks.{is_ready}
use Rattle.ps_language.specs.Schedules.{Move}
use Rattle.ps_language.specs.Step.{stepped}
use Rattle.ps_language.specs.World.{World}
use Rattle.ps_language.specs.Worlds.{after_moves}
use Rattle.ps_ctx.specs.Steps.{AllFrom}
use Rattle.ps_vault.specs.declared.vaults.Advanced.{Advanced}
use Rattle.ps_vault.specs.Holds.{is_held_up}

-- ---- whose turn is next

-- none above an identifier is ready
abbrev pub IsNoneAbove : World → (after : ℕ) → Type 0
IsNoneAbove w after = (k : ℕ) → after < k → is_ready w k ≡ false

-- the least above it that is ready
pub record IsLeastAbove (w : World) (after next : ℕ) : Type 0 where
  pub above : after < next
  pub ready : is_ready w next ≡ true
  pub least : (k : ℕ) → after < k → k < next → is_ready w k ≡ false

-- behind the turn of another, or of none, 0; where no higher one is ready, the next pass begins
abbrev pub IsNext : World → (last next : ℕ) → Type 0
IsNext w last next = IsLeastAbove w last next ⊎ (IsNoneAbove w last × IsLeastAbove w 0 next)

-- no other context is left
abbrev pub IsOnlyLeft : World → (context : ℕ) → Type 0
IsOnlyLeft w context = (other : ℕ) → other ≢ context → context_at w other ≡ None

-- this context alone is ready
pub record IsAlone (context : ℕ) (w : World) : Type 0 where
  pub ready : is_ready w context ≡ true
  pub others : (other : ℕ) → other ≢ context → is_ready w other ≡ false

-- ---- turns

-- so many steps more, all of one context
pub record AddsSteps (context count : ℕ) (old new : List Move) : Type 0 where
  pub steps : List Move
  pub is : new ≡ old ++ steps
  pub all : map (λ (step : Move). step.context) steps ≡ replicate count context

-- such a note is told of this step. Shown is what a vmstatus in it was shown
pub record Tells (IsSo : Note → Type 0) (now : World) (step : Move) : Type 0 where
  pub shown : Option (ℤ × ℤ)
  pub told : IsSo (stepped now step.context step.refused shown).note

-- it ends no turn: it is no yield, and doesn't wait
abbrev pub IsNoEnd : Note → Type 0
IsNoEnd note = note ≢ turn_ends

-- it is no vmreclaim
abbrev pub IsNoWish : Note → Type 0
IsNoWish note = (number : ℤ) → note ≢ wishes number

-- behind this step its context keeps its turn
abbrev pub KeepsTurn : World → Move → Type 0
KeepsTurn = Tells IsNoEnd

-- the steps behind the old ones: each is so in the world before it
pub record AddsAll (IsSo : World → Move → Type 0) (start : World) (old new : List Move) : Type 0
  where
    pub steps : List Move
    pub is : new ≡ old ++ steps
    pub all : AllFrom IsSo (after_moves start old) steps

-- such a note is told of each
abbrev pub AllTell : (IsSo : Note → Type 0) → (start : World) → (old new : List Move) → Type 0
AllTell IsSo start old new = AddsAll (Tells IsSo) start old new

-- none of them ended its turn
abbrev pub NoneEnds : (start : World) → (old new : List Move) → Type 0
NoneEnds start old new = AllTell IsNoEnd start old new

-- a step of this context, which alone is ready
abbrev pub IsOfOne : (context : ℕ) → World → Move → Type 0
IsOfOne context w step = (step.context ≡ context) × IsAlone context w

-- each of them is such a step
abbrev pub AllOfOne : (context : ℕ) → (start : World) → (old new : List Move) → Type 0
AllOfOne context start old new = AddsAll (IsOfOne context) start old new

-- such a note is told of each but the last
pub record AllTellButLast (IsSo : Note → Type 0) (start : World) (old new : List Move) : Type 0
  where
    pub before : List Move
    pub last : Move
    pub is : new ≡ before ++ last ∷ []
    pub others : AllTell IsSo start old before

-- none of them but the last ended its turn
abbrev pub OnlyLastMayEnd : (start : World) → (old new : List Move) → Type 0
OnlyLastMayEnd start old new = AllTellButLast IsNoEnd start old new

-- the last of all steps from the start is of this context, and this is told of it
pub record EndsWith (note : Note) (start : World) (context : ℕ) (steps : List Move) : Type 0 where
  pub before : List Move
  pub last : Move
  pub is : steps ≡ before ++ last ∷ []
  pub shown : Option (ℤ × ℤ)
  pub told : (stepped (after_moves start before) context false shown).note ≡ note

-- it ended its turn, by yield or where it waits
abbrev pub EndsTurn : (start : World) → (context : ℕ) → (steps : List Move) → Type 0
EndsTurn start context steps = EndsWith turn_ends start context steps

-- the last of the steps behind the old ones is a vmreclaim of this number; no other is one
pub record WishesLast (number : ℤ) (start : World) (context : ℕ) (old new : List Move) : Type 0
  where
    pub others : AllTellButLast IsNoWish start old new
    pub last : EndsWith (wishes number) start context new

-- or none is one
abbrev pub WishesAs : Option ℤ → (start : World) → (context : ℕ) → (old new : List Move) → Type 0
WishesAs (Some number) start context old new = WishesLast number start context old new
WishesAs None start context old new = AllTell IsNoWish start old new

-- behind all steps from the start, a turn of so many is over: it had as many as a turn may have, or
-- its context isn't ready, or its last step ended it
abbrev pub IsOver : (quantum : ℕ) → (start : World) → (context count : ℕ) → List Move → Type 0
IsOver quantum start context count steps = (count ≡ quantum)
    ⊎ ((is_ready (after_moves start steps) context ≡ false) ⊎ EndsTurn start context steps)

-- behind the steps before, those after have a turn of the next context more, over or not: none of
-- its steps but the last ended it
pub record AddsTurn (quantum : ℕ) (start : World) (last context count : ℕ)
    (before after : List Move) : Type 0 where
  pub next : IsNext (after_moves start before) last context
  pub some : 1 ≤ count
  pub within : count ≤ quantum
  pub adds : AddsSteps context count before after
  pub only_last : OnlyLastMayEnd start before after

-- all steps from the start are turns, each of them over; the last was that of this context, or of
-- none, 0
pub data AreTurns (quantum : ℕ) (start : World) : (last : ℕ) → List Move → Type 0 where
  no_turn : AreTurns quantum start 0 []
  one_more : {last context count : ℕ} {before after : List Move}
      → AreTurns quantum start last before
      → AddsTurn quantum start last context count before after
      → IsOver quantum start context count after → AreTurns quantum start context after

-- all steps from the start are turns, each of them over, and this context is next
pub record IsDue (quantum : ℕ) (start : World) (context : ℕ) (steps : List Move) : Type 0 where
  pub last : ℕ
  pub turns : AreTurns quantum start last steps
  pub next : IsNext (after_moves start steps) last context

-- behind the old steps, turns of one context: none of their steps ended them, each had as many as a
-- turn may have, and behind each the context alone is ready, so that it is next again
pub data AddsWhole (quantum : ℕ) (start : World) (context : ℕ) (old : List Move)
    : List Move → Type 0 where
  no_whole : AddsWhole quantum start context old old
  whole_more : (mid new : List Move) → AddsWhole quantum start context old mid
      → AddsSteps context quantum mid new → NoneEnds start mid new
      → IsAlone context (after_moves start new) → AddsWhole quantum start context old new

-- fewer steps were made than were asked for, or those of whole turns
abbrev pub IsTurnEnd : (quantum most made : ℕ) → Type 0
IsTurnEnd quantum most made = (made < most) ⊎ (made % quantum ≡ 0)

-- Such turns, and so many steps of one more: none but the last ended it. Where the next one was
-- held up, it goes on; else it is over, or as many steps were made as were asked for, which are not
-- those of whole turns
pub record AddsTurns (quantum most : ℕ) (start : World) (context : ℕ) (turn : Advanced)
    (old new : List Move) : Type 0 where
  pub whole : List Move
  pub turns : AddsWhole quantum start context old whole
  pub count : ℕ
  pub within : count ≤ quantum
  pub adds : AddsSteps context count whole new
  pub only_last : 1 ≤ count → OnlyLastMayEnd start whole new
  pub goes_on : is_held_up turn.told ≡ true → (count < quantum) × NoneEnds start whole new
  pub some : is_held_up turn.told ≡ false → 1 ≤ count
  pub over : is_held_up turn.told ≡ false → IsTurnEnd quantum most turn.made
      → IsOver quantum start context count new

-- behind all steps from the start it is the turn of this context: it is the next one, or has begun
-- its turn and had fewer steps than a turn may have, none of which ended it
pub record HasTurn (quantum : ℕ) (start : World) (context : ℕ) (steps : List Move) : Type 0 where
  pub last : ℕ
  pub whole : List Move
  pub turns : AreTurns quantum start last whole
  pub turn : ((steps ≡ whole) × IsNext (after_moves start whole) last context)
      ⊎ ((count : ℕ) × (count < quantum) × AddsTurn quantum start last context count whole steps
      × NoneEnds start whole steps)

-- they are such turns, and one that may not be over, or none
pub record InOrder (quantum : ℕ) (start : World) (steps : List Move) : Type 0 where
  pub last : ℕ
  pub whole : List Move
  pub turns : AreTurns quantum start last whole
  pub rest : (steps ≡ whole)
      ⊎ ((context : ℕ) × (count : ℕ) × AddsTurn quantum start last context count whole steps)
