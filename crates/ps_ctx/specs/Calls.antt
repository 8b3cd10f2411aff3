-- When a call of an operator that is left to the world went as the definitions say (PLRM2, 7.1).
use Rattle.std.specs.Prelude.{◌≡◌, ◌<◌, ◌≤◌, ℕ, ℤ, nat_lt, Bool, false, IsTrue, Option, Some, None}
use Rattle.std.specs.Prelude.{OnOk, OnErr, Result, Ok, Err, List, length, drop}
use Rattle.ps_step_outcome.specs.declared.world_operators.WorldOperator.{WorldOperator}
use Rattle.ps_language.specs.Contexts.{context_at}
use Rattle.ps_language.specs.Effect.{Scene, Call, Deed, does, waits, Calling}
use Rattle.ps_language.specs.Machines.{settled, scene_of}
use Rattle.ps_language.specs.Objects.{made_between}
use Rattle.ps_language.specs.Outcome.{Outcome, leaves, fails}
use Rattle.ps_language.specs.Step.{machine_of, with_machine, Stepped, deed_given_room, called}
use Rattle.ps_language.specs.Step.{retaken}
use Rattle.ps_language.specs.StepValues.{command_of}
use Rattle.ps_language.specs.World.{retaking, Context, World}
use Rattle.ps_mem.specs.Heap.{Heap, Grants, has_room}
use Rattle.ps_mem.specs.Keeps.{Keeps}
use Rattle.ps_ops_operands.specs.declared.failure.NotMade.{NotMade as Reason}
use Rattle.ps_ops_operands.specs.declared.failure.NotMade.TheVariants.{LogFull, LogClosed, NeedSpace, Memory}
use Rattle.ps_ops_operands.specs.Changes.{KeepsLogsWithin, most_records, spent}
use Rattle.ps_ops_state.specs.declared.lent.Runtime.{Runtime}
use Rattle.ps_ops_state.specs.declared.lent.Shared.{Shared}
use Rattle.ps_ops_state.specs.declared.lent.Attempt.{Attempt}
use Rattle.ps_ops_state.specs.Acts.{no_rooms}
use Rattle.ps_step_outcome.specs.Turns.{calling_of, error_needs, IsUnlogged}
use Rattle.ps_ctx_table.specs.declared.contexts.Contexts.{Contexts}
use Rattle.ps_ctx_table.specs.declared.members.Course.TheVariants.{Running, Retaking}
use Rattle.ps_ctx_table.specs.declared.members.Member.{Member}
use Rattle.ps_ctx_table.specs.Seats.{item_at, with_item}
use Rattle.ps_ctx_table.specs.Desks.{Desk, desk, IsWorld, IsSteady, AreFramed}
use Rattle.ps_ctx.specs.declared.notes.Note.{Note}
use Rattle.ps_ctx.specs.declared.notes.Note.TheVariants.{ShowsMemory}
use Rattle.ps_ctx.specs.Growth.{Growth, no_growth, growth_for, may_fail}
use Rattle.ps_ctx.specs.Notes.{note_of, IsNoStatus}

-- ---- the desk

abbrev pub over : Heap → Grants → Shared → Contexts → Desk
over heap grants shared contexts = desk heap grants contexts.table shared contexts.has_faulted

-- of what all contexts share, with the memory's heap and grants
abbrev pub over_of : {M : Type 0} → (M → Heap) → (M → Grants) → Runtime M → Contexts → Desk
over_of heap grants runtime contexts =
    over (heap runtime.memory) (grants runtime.memory) runtime.shared contexts

-- the context of an identifier is there, and runs
pub record RunsAt (identifier : ℕ) (members : List (Option Member)) : Type 0 where
  pub member : Member
  pub found : item_at members identifier ≡ Some member
  pub runs : member.course ≡ Running

-- all but that one have frames where they run or are unwinding
abbrev pub AreFramedBut : (identifier : ℕ) → List (Option Member) → Type 0
AreFramedBut identifier members = AreFramed (with_item members identifier None)

-- it still runs, and all others have frames if they had
abbrev pub StaysAt : (identifier : ℕ) → (old new : List (Option Member)) → Type 0
StaysAt identifier old new = RunsAt identifier new
    × (AreFramedBut identifier old → AreFramedBut identifier new)

-- nothing has changed but what was granted, and how much room there is
abbrev pub IsSameDesk : (old new : Desk) → Type 0
IsSameDesk old new =
    new ≡ record old { grants = new.grants; room = new.room; scratch = new.scratch }

-- ---- a call

abbrev pub call_by : (caller : ℕ) → (shown : Option (ℤ × ℤ)) → World → Context → Call
call_by caller shown world context =
    record { caller = caller; context = context; shown = shown; world = world }

-- the growth that the step of a deed may want: for the new objects that the language counts, for a
-- new context, or for the line of its error
abbrev pub deed_wants : Calling → World → Context → Outcome Deed → Growth
deed_wants calling before context (leaves (does note next)) = record {
  words = made_between before.store next.store;
  births = length (drop (length before.store) next.store);
  beside = nat_lt (length before.contexts) (length next.contexts);
}
deed_wants calling before context (leaves waits) = no_growth
deed_wants calling before context (fails error) =
    let scene : Scene = scene_of (machine_of before context) in
    growth_for (error_needs no_rooms context.error_dictionary scene error
    (command_of calling.operator) scene)

-- by the very deed that the step makes
abbrev pub call_wants : Calling → (caller : ℕ) → (refused : Bool) → World → Context → Growth
call_wants calling caller refused before context =
    deed_wants calling before context (deed_given_room refused before
    (calling.deed context.operands (call_by caller None before context)))

-- Why a step is not made that may want this growth. LogFull: the log is open, and takes fewer
-- records than a step may put. LogClosed: it is closed. NeedSpace: of the words of its objects,
-- which don't fit, or their birth numbers don't. Memory: of a growth that may fail in this memory
abbrev pub IsHeldUpAs : (wanted : Growth) → (slot : ℕ) → Heap → Grants → Reason → Type 0
IsHeldUpAs wanted slot heap grants LogFull =
    (grants.closed slot ≡ false) × (grants.records slot < most_records)
IsHeldUpAs wanted slot heap grants LogClosed = IsTrue (grants.closed slot)
IsHeldUpAs wanted slot heap grants (NeedSpace words) =
    (words ≡ wanted.words) × (1 ≤ words) × (has_room heap wanted.words wanted.births ≡ false)
IsHeldUpAs wanted slot heap grants Memory = IsTrue (may_fail heap.space.grows wanted)

-- it comes to the step of the definitions, and the note is theirs; or it is not made, and the desk
-- is still that of the world before
abbrev pub CallsTo : Result Note Reason → Stepped → (before : World) → (new : Desk) → Type 0
CallsTo (Ok note) stepped before new =
    IsWorld new stepped.world × (note_of note ≡ stepped.note)
CallsTo (Err reason) stepped before new = IsWorld new before

-- For every world that the desk is of. What isn't made is no vmstatus that acts, and one that acts
-- leaves the memory as it was
pub record Calls (operator : WorldOperator) (caller : ℕ) (attempt : Attempt)
    (shown : Option (ℤ × ℤ)) (result : Result Note Reason) (old new : Desk) : Type 0 where
  pub meets : (w : World) (context : Context) → IsWorld old w
      → context_at w caller ≡ Some context
      → CallsTo result (called (calling_of operator) caller attempt.refused shown w context) w new
  pub steady : IsSteady new
  pub keeps : Keeps old.heap new.heap
  pub program : new.program ≡ old.program
  pub most : new.most ≡ old.most
  pub framed : OnOk result (AreFramedBut caller old.members → AreFramed new.members)
  pub unmade : OnErr result (StaysAt caller old.members new.members)
  pub same : (w : World) → IsWorld old w → OnErr result (IsSameDesk old new)
  pub held_up : (reason : Reason) → result ≡ Err reason → (w : World) (context : Context)
      → IsWorld old w → context_at w caller ≡ Some context
      → IsHeldUpAs (call_wants (calling_of operator) caller attempt.refused w context) attempt.slot
      new.heap new.grants reason
  pub logs : KeepsLogsWithin (spent result most_records) old.grants new.grants attempt.slot
  pub no_status : (w : World) (context : Context) → IsWorld old w
      → context_at w caller ≡ Some context → OnErr result ((refused : Bool)
      (any : Option (ℤ × ℤ)) → IsNoStatus
      (called (calling_of operator) caller refused any w context).note)
  pub leaves : result ≡ Ok ShowsMemory → new.heap ≡ old.heap

-- ---- a lock is taken again

-- the context of an identifier is there, and waits for the lock at an address
pub record RetakesAt (identifier : ℕ) (members : List (Option Member)) : Type 0 where
  pub member : Member
  pub found : item_at members identifier ≡ Some member
  pub lock : ℕ
  pub retakes : member.course ≡ Retaking lock

abbrev pub RetakesTo : Result Unit Reason → (after before : World) → (new : Desk) → Type 0
RetakesTo (Ok _) after before new = IsWorld new after
RetakesTo (Err reason) after before new = IsWorld new before

-- for every world that the desk is of
pub record Retakes (caller : ℕ) (attempt : Attempt) (result : Result Unit Reason) (old new : Desk)
    : Type 0 where
  pub meets : (w : World) (context : Context) (lock : ℕ) → IsWorld old w
      → context_at w caller ≡ Some context → context.status ≡ retaking lock
      → RetakesTo result (with_machine caller w
      (settled (retaken caller lock (machine_of w context)))) w new
  pub steady : IsSteady new
  pub keeps : Keeps old.heap new.heap
  pub program : new.program ≡ old.program
  pub most : new.most ≡ old.most
  pub framed : AreFramed old.members → AreFramed new.members
  pub unmade : OnErr result (IsSameDesk old new)
  pub held_up : (reason : Reason) → result ≡ Err reason
      → IsUnlogged 1 attempt.slot old.grants new.grants reason
  pub logs : KeepsLogsWithin (spent result 1) old.grants new.grants attempt.slot
