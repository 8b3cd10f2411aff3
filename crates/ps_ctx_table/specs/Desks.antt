-- All contexts over a memory with what they share, and when these are a world's (PLRM2, 3.4, 7.1).
use Rattle.std.specs.Prelude.{◌≡◌, ℕ, ◌+◌, ◌-◌, nat_lt, option_and_then, ◌==◌, ◌&&◌, ◌||◌}
use Rattle.std.specs.Prelude.{Bool, true, false, not, nat_eq, Option, Some, None, IfSome}
use Rattle.std.specs.Prelude.{option_map, List, [], ◌∷◌, ◌++◌, length, map, vec_capacity}
use Rattle.std.specs.Prelude.{if◌then◌else◌}
use Rattle.std.specs.List.{AllByRecursion}
use Rattle.std.specs.Option.{option_map_or}
use Rattle.ps_language.specs.declared.kinds.Kind.TheVariants.{Lock, Condition}
use Rattle.ps_language.specs.Contexts.{count_not_ended}
use Rattle.ps_language.specs.Limits.{context_limit, identifier_limit}
use Rattle.ps_language.specs.Machines as machines
use Rattle.ps_language.specs.Machines.{Reached, reaches, leaves_to_world}
use Rattle.ps_language.specs.World as world
use Rattle.ps_language.specs.World.{Status, Machine, World}
use Rattle.ps_mem.specs.Heap.{Heap, Grants, birth_at}
use Rattle.ps_mem.specs.Keeps.{Keeps}
use Rattle.ps_mem.specs.References.{StandsAs}
use Rattle.ps_mem.specs.Shows.{IsSound, Shows}
use Rattle.ps_names.specs.Names.{AreNames}
use Rattle.ps_ops_operands.specs.FirstNames.{BeginWithFirst}
use Rattle.ps_ops_control.specs.declared.frames.Frame.{Frame}
use Rattle.ps_ops_state.specs.declared.lent.Context.{Context}
use Rattle.ps_ops_state.specs.declared.lent.Scratch.{Scratch}
use Rattle.ps_ops_state.specs.declared.lent.Shared.{Shared}
use Rattle.ps_ops_state.specs.Lent.{Lent, scene_of, IsEmpty, IsShown, IsGood}
use Rattle.ps_step_outcome.specs.declared.turned.Turned.{Turned}
use Rattle.ps_step_outcome.specs.declared.turned.Turned.TheVariants.{Goes, Calls, Breaks, Ends}
use Rattle.ps_ctx_table.specs.declared.members.Course.{Course}
use Rattle.ps_ctx_table.specs.declared.members.Course.TheVariants.{Running, Unwinding, Again}
use Rattle.ps_ctx_table.specs.declared.members.Course.TheVariants.{Waiting, Retaking, Finished}
use Rattle.ps_ctx_table.specs.declared.members.Member.{Member}
use Rattle.ps_ctx_table.specs.Seats.{item_at, with_item}
use Rattle.ps_ctx_table.specs.Worlds.{contexts_in}

-- all contexts over a memory, and what they share
pub record Desk : Type 0 where
  pub heap : Heap
  pub grants : Grants
  pub members : List (Option Member)  -- by identifiers; nothing where one is gone
  pub program : List ℕ
  pub names : List (List ℕ)
  pub printed : List ℕ
  pub most : ℕ  -- the bytes that may be printed
  pub room : ℕ  -- those that can be printed before the output grows or has no more
  pub scratch : Scratch
  pub has_faulted : Bool  -- whether the line of an error was printed

abbrev pub desk : Heap → Grants → (members : List (Option Member)) → Shared → (has_faulted : Bool)
    → Desk
desk heap grants members shared has_faulted = record {
  heap = heap;
  grants = grants;
  members = members;
  program = shared.program.now;
  names = shared.names;
  printed = shared.printed.bytes;
  most = shared.printed.most;
  room = shared.printed.room;
  scratch = shared.scratch;
  has_faulted = has_faulted;
}

-- ---- what is lent to one of them

abbrev pub lent_to : Desk → Context → Lent
lent_to d context = record {
  heap = d.heap;
  grants = d.grants;
  operands = context.operands;
  dictionaries = context.dictionaries;
  frames = context.frames;
  error_dictionary = context.error_dictionary;
  program = d.program;
  names = d.names;
  printed = d.printed;
  most = d.most;
  room = d.room;
  scratch = d.scratch;
}

-- the context that has what was lent
abbrev pub returned : Lent → Context
returned l = record {
  operands = l.operands;
  dictionaries = l.dictionaries;
  frames = l.frames;
  error_dictionary = l.error_dictionary;
}

-- the desk that what is left of it is of
abbrev pub desk_of : Lent → (members : List (Option Member)) → (has_faulted : Bool) → Desk
desk_of l members has_faulted = record {
  heap = l.heap;
  grants = l.grants;
  members = members;
  program = l.program;
  names = l.names;
  printed = l.printed;
  most = l.most;
  room = l.room;
  scratch = l.scratch;
  has_faulted = has_faulted;
}

-- ---- what the contexts are in the definitions

-- of each that is left
abbrev pub AllMembers : (Member → Type 0) → List (Option Member) → Type 0
AllMembers P members = AllByRecursion (λ item. IfSome item P) members

-- all is as in the world, and what each context holds is within the memory and the names
pub record IsWorld (d : Desk) (w : World) : Type 0 where
  pub shows : Shows d.heap d.names w.store
  pub program : w.program ≡ d.program
  pub names : w.names ≡ d.names
  pub printed : w.printed ≡ d.printed
  pub faulted : d.has_faulted ≡ not (nat_eq w.error_lines 0)
  pub contexts : w.contexts ≡ contexts_in d.heap d.names d.members
  pub members : AllMembers (λ member. IsShown (lent_to d member.context) w.store) d.members

-- what is lent is that of a machine in this status, whose context is detached or not, and for which
-- so many lines of errors were printed
pub record IsLentBy (l : Lent) (is_detached : Bool) (status : Status) (lines : ℕ)
    (machine : Machine) : Type 0 where
  pub shown : IsShown l machine.store
  pub scene : scene_of l machine.store ≡ machines.scene_of machine
  pub error_dictionary : machine.context.error_dictionary ≡ birth_at l.heap l.error_dictionary
  pub detached : machine.context.is_detached ≡ is_detached
  pub is_so : machine.context.status ≡ status
  pub printed : machine.printed ≡ l.printed
  pub error_lines : machine.error_lines ≡ lines

-- ---- what holds in every memory

-- the lock and the condition that are waited for stand
abbrev pub IsCourseHeld : Heap → Course → Type 0
IsCourseHeld h (Waiting lock condition) = StandsAs h Lock lock 1 × StandsAs h Condition condition 1
IsCourseHeld h (Retaking lock) = StandsAs h Lock lock 1
IsCourseHeld h Running = Unit {0}
IsCourseHeld h (Unwinding cause) = Unit {0}
IsCourseHeld h Again = Unit {0}
IsCourseHeld h Finished = Unit {0}

pub record IsGoodMember (d : Desk) (member : Member) : Type 0 where
  pub good : IsGood (lent_to d member.context)
  pub course : IsCourseHeld d.heap member.course

-- The memory is sound, the names are such as may be met and begin with the first ones, nothing is
-- left of what an operator read, and each context is good
pub record IsSteady (d : Desk) : Type 0 where
  pub sound : IsSound d.heap
  pub names : AreNames d.names
  pub first : BeginWithFirst d.names
  pub empty : IsEmpty d.scratch
  pub members : AllMembers (IsGoodMember d) d.members

-- what runs or is unwinding has a frame
abbrev pub HasFrame : Course → List Frame → Type 0
HasFrame Running [] = ⊥
HasFrame (Unwinding cause) [] = ⊥
HasFrame course frames = Unit {0}

-- of each: between the taking of an element and the end of its step it doesn't hold of the caller
abbrev pub AreFramed : List (Option Member) → Type 0
AreFramed members = AllMembers (λ member. HasFrame member.course member.context.frames) members

-- What stood stands, names are only added, and the program and the bound of the output stay; the
-- memory is sound, and so are the names
pub record GoesOn (old new : Desk) : Type 0 where
  pub keeps : Keeps old.heap new.heap
  pub formed : List (List ℕ)
  pub names : new.names ≡ old.names ++ formed
  pub program : new.program ≡ old.program
  pub most : new.most ≡ old.most
  pub sound : IsSound new.heap
  pub are : AreNames new.names
  pub first : BeginWithFirst new.names
  pub empty : IsEmpty new.scratch

-- ---- how far a context is

-- the machine that a step came to, whether or not an operator is left to the world
abbrev pub machine_reached : Reached → Machine
machine_reached (reaches machine) = machine
machine_reached (leaves_to_world calling machine) = machine

abbrev pub has_finished : Course → Bool
has_finished Finished = true
has_finished course = false

-- what is left of one: nothing, where it is detached and finished
abbrev pub member_left : Member → Option Member
member_left member =
    if member.is_detached && has_finished member.course then None else Some member

-- after a turn that left these frames; with an operator that is left to the world it still runs
abbrev pub course_after : Turned → List Frame → Course
course_after Goes [] = Finished
course_after Goes (frame ∷ frames) = Running
course_after (Calls operator) frames = Running
course_after (Breaks cause) frames = Unwinding cause
course_after (Ends told) frames = Finished

-- whether it printed the line of an error
abbrev pub tells : Turned → Bool
tells (Ends told) = told
tells turned = false

-- no operator is left to the world
abbrev pub IsOwn : Turned → Type 0
IsOwn (Calls operator) = ⊥
IsOwn turned = Unit {0}

-- a context after its turn
abbrev pub turned_member : Turned → Member → Member
turned_member turned member =
    record member { course = course_after turned member.context.frames }

-- all of them after the turn of one
abbrev pub turned_members : Turned → (identifier : ℕ) → List (Option Member)
    → List (Option Member)
turned_members turned identifier members =
    option_map_or (λ member. with_item members identifier
    (member_left (turned_member turned member))) (item_at members identifier) members

-- ---- what was lent is back

-- the context as it is now, this far on, or nothing of it
abbrev pub desk_after : Desk → (identifier : ℕ) → Member → Lent → Course → (has_faulted : Bool)
    → Desk
desk_after d identifier member l course has_faulted =
    desk_of l (with_item d.members identifier
    (member_left (record member { context = returned l; course = course }))) has_faulted

-- after its turn
abbrev pub desk_turned : Desk → (identifier : ℕ) → Member → Lent → Turned → Desk
desk_turned d identifier member l turned =
    desk_after d identifier member l (course_after turned l.frames) (d.has_faulted || tells turned)

-- where its turn was not made
abbrev pub desk_unmade : Desk → (identifier : ℕ) → Member → Lent → Desk
desk_unmade d identifier member l =
    desk_of l (with_item d.members identifier (Some (record member { context = returned l })))
    d.has_faulted

-- ---- a condition is notified

-- who waits for the condition retakes its lock
abbrev pub notified_course : (condition : ℕ) → Course → Course
notified_course condition (Waiting lock awaited) =
    if awaited == condition then Retaking lock else Waiting lock awaited
notified_course condition course = course

abbrev pub notified_member : (condition : ℕ) → Member → Member
notified_member condition member =
    record member { course = notified_course condition member.course }

abbrev pub notified_members : (condition : ℕ) → List (Option Member) → List (Option Member)
notified_members condition members = map (option_map (notified_member condition)) members

-- ---- which may be named, and a seat for one more

-- unless it is detached
abbrev pub unless_detached : Member → Option Member
unless_detached member = if member.is_detached then None else Some member

-- of an identifier, unless it is gone or detached
abbrev pub named_member : List (Option Member) → (identifier : ℕ) → Option Member
named_member members identifier = option_and_then unless_detached (item_at members identifier)

-- whether there may be one more
abbrev pub has_seat : List (Option world.Context) → Bool
has_seat contexts =
    nat_lt (count_not_ended contexts) context_limit && nat_lt (length contexts) identifier_limit

-- its identifier
abbrev pub seat_in : List (Option world.Context) → Option ℕ
seat_in contexts = if has_seat contexts then Some (length contexts + 1) else None
