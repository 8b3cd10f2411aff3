-- When steps of the contexts of a world went as the definitions say (PLRM2, 7.1).
use Rattle.std.specs.Prelude.{◌≡◌, ◌≢◌, ℕ, ℤ, pos, min, max, ◌≤◌, true, false, IsTrue, Option, Some}
use Rattle.std.specs.Prelude.{None, IsSome, IfSome, Result, Ok, Err, OnErr, List, [], ◌∷◌}
use Rattle.ps_language.specs.Contexts.{context_at}
use Rattle.ps_language.specs.Effect.{nothing, Around, Scene}
use Rattle.ps_language.specs.Locks.{is_ready}
use Rattle.ps_language.specs.Schedules.{Move}
use Rattle.ps_language.specs.Step.{Stepped, stepped}
use Rattle.ps_language.specs.World.{Status, World}
use Rattle.ps_language.specs.Worlds.{after_move, after_moves, all_ready}
use Rattle.ps_mem.specs.Heap.{Heap, standing_words}
use Rattle.ps_mem.specs.Keeps.{Keeps}
use Rattle.ps_mem.specs.Stands.{IsAddressed}
use Rattle.ps_ops_operands.specs.declared.failure.NotMade.{NotMade as Reason}
use Rattle.ps_ops_operands.specs.Changes.{KeepsLogsWithin, most_records, spent}
use Rattle.ps_ops_state.specs.declared.lent.Attempt.{Attempt}
use Rattle.ps_ops_state.specs.Acts.{Asked}
use Rattle.ps_ops_state.specs.Attempts.{ordinary}
use Rattle.ps_ctx_table.specs.Desks.{IsWorld}
use Rattle.ps_ctx_table.specs.Moves.{plain_moves}
use Rattle.ps_ctx.specs.declared.notes.Note.{Note}
use Rattle.ps_ctx.specs.declared.notes.Note.TheVariants.{ShowsMemory}
use Rattle.ps_ctx.specs.Calls.{IsHeldUpAs, IsSameDesk}
use Rattle.ps_ctx.specs.Held.{Held, IsAt, IsSteadyHeld, MayStep}
use Rattle.ps_ctx.specs.Notes.{note_of, HasNoStatus}
use Rattle.ps_ctx.specs.Needs.{step_wants}

-- it comes to the step of the definitions, and the note is theirs; or it is not made, and all is
-- still at the world before
abbrev pub StepsTo : Result Note Reason → Stepped → (before : World) → (new : Held) → Type 0
StepsTo (Ok note) stepped before new = IsWorld new.desk stepped.world × (new.calling ≡ None)
    × (note_of note ≡ stepped.note)
StepsTo (Err reason) stepped before new = IsAt new before

-- For every world that it is at, where the context is ready. A step that is not made has its
-- reason, and changes nothing but what was granted and how much room there is, unless a call is
-- newly left by it; a call that waited waits still. No vmstatus that acts waits, and one that acts
-- leaves the memory as it was. What stood goes on standing, the logs are kept, and a call that
-- waits is of this context
pub record Steps (asks : Status → Around → Scene → Asked) (identifier : ℕ) (attempt : Attempt)
    (shown : Option (ℤ × ℤ)) (result : Result Note Reason) (old new : Held) : Type 0 where
  pub meets : (w : World) → IsAt old w → is_ready w identifier ≡ true
      → StepsTo result (stepped w identifier attempt.refused shown) w new
  pub held_up : (reason : Reason) → result ≡ Err reason → (w : World) → IsAt old w
      → is_ready w identifier ≡ true
      → IsHeldUpAs (step_wants asks identifier attempt.refused w) attempt.slot new.desk.heap
      new.desk.grants reason
  pub same : (w : World) → IsAt old w
      → OnErr result (new.calling ≡ old.calling → IsSameDesk old.desk new.desk)
  pub waits : IsSome old.calling → OnErr result (new.calling ≡ old.calling)
  pub no_status : (w : World) → IsAt old w
      → OnErr result (IfSome new.calling (λ calling. HasNoStatus w calling.caller))
  pub leaves : (w : World) → IsAt old w → result ≡ Ok ShowsMemory → new.desk.heap ≡ old.desk.heap
  pub logs : (w : World) → IsAt old w → is_ready w identifier ≡ true
      → KeepsLogsWithin (spent result most_records) old.desk.grants new.desk.grants attempt.slot
  pub keeps : Keeps old.desk.heap new.desk.heap
  pub steady : IsSteadyHeld new
  pub program : new.desk.program ≡ old.desk.program
  pub most : new.desk.most ≡ old.desk.most
  pub caller : MayStep new.calling identifier

-- ---- what a vmstatus is shown

-- a number of words: at least one, and at most the greatest integer
abbrev pub words_shown : ℕ → ℤ
words_shown words = pos (min (max 1 words) 2147483647)

-- the words of all that stands in a memory, and the words that there are
abbrev pub shown_words : Heap → ℤ × ℤ
shown_words heap = (words_shown heap.used, words_shown heap.space.size)

-- what is used is what stands, and no more than there is; addresses have 24 bits
pub record IsCounted (heap : Heap) : Type 0 where
  pub counted : heap.used ≡ standing_words heap
  pub within : heap.used ≤ heap.space.size
  pub addressed : IsAddressed heap

-- a pair is of this memory
pub record AreShown (heap : Heap) (pair : ℤ × ℤ) : Type 0 where
  pub is : pair ≡ shown_words heap
  pub counted : IsCounted heap

-- ---- many

-- each of these steps, from this world on, is so in the world before it
abbrev pub AllFrom : (World → Move → Type 0) → World → List Move → Type 0
AllFrom IsSo now [] = Unit {0}
AllFrom IsSo now (move ∷ rest) = IsSo now move × AllFrom IsSo (after_move now move) rest

-- nothing is told of it
abbrev pub IsQuiet : World → Move → Type 0
IsQuiet now move = (stepped now move.context move.refused move.shown).note ≡ nothing

-- it leaves every other context as it is
abbrev pub KeepsOthers : (identifier : ℕ) → World → Move → Type 0
KeepsOthers identifier now move = (other : ℕ) → other ≢ identifier
    → context_at (after_move now move) other ≡ context_at now other

-- so many were made, from every world that it was at where the context was ready, each while it
-- was; nothing is told of them, they leave every other context as it is, and what stood goes on
-- standing. Where a call waits, which is of this context, none was made
pub record HasMade (identifier made : ℕ) (old new : Held) : Type 0 where
  pub at : (w : World) → IsAt old w → is_ready w identifier ≡ true
      → IsAt new (after_moves w (plain_moves identifier made))
  pub ready : (w : World) → IsAt old w → is_ready w identifier ≡ true
      → IsTrue (all_ready w (plain_moves identifier made))
  pub quiet : (w : World) → IsAt old w → is_ready w identifier ≡ true
      → AllFrom IsQuiet w (plain_moves identifier made)
  pub others : (w : World) → IsAt old w → is_ready w identifier ≡ true
      → AllFrom (KeepsOthers identifier) w (plain_moves identifier made)
  pub keeps : Keeps old.desk.heap new.desk.heap
  pub steady : IsSteadyHeld new
  pub program : new.desk.program ≡ old.desk.program
  pub most : new.desk.most ≡ old.desk.most
  pub caller : MayStep new.calling identifier
  pub first : IsSome new.calling → (made ≡ 0) × (new ≡ old)

-- so many were made, and the step behind them, of the same context, came to this: a vmstatus that
-- acts in it is shown the memory just before it
pub record StepsBehind (asks : Status → Around → Scene → Asked) (identifier slot made : ℕ)
    (shown : Option (ℤ × ℤ)) (result : Result Note Reason) (old new : Held) : Type 0 where
  pub mid : Held
  pub makes : HasMade identifier made old mid
  pub ready : (w : World) → IsAt old w → is_ready w identifier ≡ true
      → is_ready (after_moves w (plain_moves identifier made)) identifier ≡ true
  pub steps : Steps asks identifier (ordinary slot) shown result mid new
  pub shows : (w : World) → IsAt old w → is_ready w identifier ≡ true → result ≡ Ok ShowsMemory
      → IfSome shown (AreShown mid.desk.heap)

-- in no world that it is at the context is ready
abbrev pub IsUnready : (identifier : ℕ) → Held → Type 0
IsUnready identifier h = (w : World) → IsAt h w → is_ready w identifier ≡ false

-- what was told of that step, and what it was shown; where nothing is, so many were made
abbrev pub GoesOn : (asks : Status → Around → Scene → Asked) → (identifier slot made : ℕ)
    → Option (Result Note Reason × Option (ℤ × ℤ)) → (old new : Held) → Type 0
GoesOn asks identifier slot made None old new = HasMade identifier made old new
GoesOn asks identifier slot made (Some next) old new =
    StepsBehind asks identifier slot made next.1 next.0 old new
