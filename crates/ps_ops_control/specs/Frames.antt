-- The frames of the execution stack as words, and the frames of the definitions that they stand for
-- (PLRM2, 3.4).
use Rattle.std.specs.Prelude.{ℕ, ℤ, pos, negsuc, ◌≤ℤ◌, ◌+◌, ◌<◌, ◌≤◌, ◌^◌, List, length, map}
use Rattle.std.specs.List.{AllByRecursion}
use Rattle.ps_language.specs.declared.kinds.Kind.TheVariants.{Array as ArrayKind, Text as TextKind}
use Rattle.ps_language.specs.declared.kinds.Kind.TheVariants.{Lock as LockKind}
use Rattle.ps_language.specs.Value.{Value, Store}
use Rattle.ps_language.specs.Access.{bytes}
use Rattle.ps_language.specs.Effect.{Scene}
use Rattle.ps_language.specs.Limits.{nesting_limit}
use Rattle.ps_language.specs.World as world
use Rattle.ps_word.specs.declared.words.Word.{Word}
use Rattle.ps_word.specs.declared.values.Part.{Part}
use Rattle.ps_mem.specs.Heap.{Heap, birth_at}
use Rattle.ps_mem.specs.References.{StandsAs, words_for}
use Rattle.ps_mem.specs.Meaning.{value_of, part_of}
use Rattle.ps_mem.specs.Shows.{IsValue, IsWithin}
use Rattle.ps_ops_operands.specs.Changes.{values_in}
use Rattle.ps_ops_control.specs.declared.frames.Source.{Source}
use Rattle.ps_ops_control.specs.declared.frames.Source.TheVariants.{Program, Text as TextOf}
use Rattle.ps_ops_control.specs.declared.frames.Frame.{Frame}
use Rattle.ps_ops_control.specs.declared.frames.Frame.TheVariants.{Text, Procedure, Pending, Repeat}
use Rattle.ps_ops_control.specs.declared.frames.Frame.TheVariants.{Loop, For, Forall, Stopped, Monitor}
use Rattle.ps_ops_control.specs.declared.frames.Frame.TheVariants.{Bind}

-- ---- what they stand for

abbrev pub source_of : (births : ℕ → ℕ) → Source → world.Source
source_of births Program = world.from_program
source_of births (TextOf part) = world.from_string (part_of births part)

abbrev pub frame_of : (births : ℕ → ℕ) → (names : List (List ℕ)) → Frame → world.Frame
frame_of births names (Text source at) = world.text_frame (source_of births source) at
frame_of births names (Procedure rest) = world.procedure_frame (part_of births rest)
frame_of births names (Pending word) = world.pending_frame (value_of births names word)
frame_of births names (Repeat count body) = world.repeat_frame count (part_of births body)
frame_of births names (Loop body) = world.loop_frame (part_of births body)
frame_of births names (For control increment limit body) =
    world.for_frame control increment limit (part_of births body)
frame_of births names (Forall over at body) =
    world.forall_frame (value_of births names over) at (part_of births body)
frame_of births names Stopped = world.stopped_frame
frame_of births names (Monitor lock) = world.monitor_frame (births lock)
frame_of births names (Bind over at depth) = world.bind_frame (part_of births over) at depth

abbrev pub frames_in : Heap → (names : List (List ℕ)) → List Frame → List world.Frame
frames_in h names frames = map (frame_of (birth_at h) names) frames

-- the scene of operands and frames over a store; dictionaries: what is on the dictionary stack
abbrev pub scene_in : Heap → (names : List (List ℕ)) → Store → (dictionaries : List Value)
    → List Word → List Frame → Scene
scene_in h names store dictionaries operands frames = record {
  operands = values_in h names operands;
  dictionaries = dictionaries;
  frames = frames_in h names frames;
  store = store;
  names = names;
}

-- ---- what holds of them in every memory

-- all of an array part stands
pub record IsHeld (h : Heap) (part : Part) : Type 0 where
  pub stands : StandsAs h ArrayKind part.address (part.offset + part.length)
  pub end : part.offset + part.length < 2 ^ 16

-- all of a string part stands
pub record IsHeldText (h : Heap) (part : Part) : Type 0 where
  pub stands : StandsAs h TextKind part.address (words_for (part.offset + part.length))
  pub end : part.offset + part.length < 2 ^ 16

-- a place in the program, of so many bytes, or in a string
abbrev pub IsSourceAt : Heap → (size : ℕ) → Source → (at : ℕ) → Type 0
IsSourceAt h size Program at = at ≤ size
IsSourceAt h size (TextOf part) at = IsHeldText h part × (at ≤ part.length)

-- a control value that began as an integer of 32 bits and went on by this increment, up to one turn
-- past them
abbrev pub IsCourse : (control increment : ℤ) → Type 0
IsCourse control (pos n) = (negsuc 2147483647 ≤ℤ control) × (control ≤ℤ pos 4294967295)
IsCourse control (negsuc n) = (negsuc 4294967295 ≤ℤ control) × (control ≤ℤ pos 2147483647)

-- what a frame refers to stands, and its places lie in what they are places of
abbrev pub IsFrame : Heap → (size : ℕ) → Frame → Type 0
IsFrame h size (Text source at) = IsSourceAt h size source at
IsFrame h size (Procedure rest) = IsHeld h rest × (1 ≤ rest.length)
IsFrame h size (Pending word) = IsValue h word
IsFrame h size (Repeat count body) = IsHeld h body
IsFrame h size (Loop body) = IsHeld h body
IsFrame h size (For control increment limit body) = IsHeld h body × IsCourse control increment
IsFrame h size (Forall over at body) = IsValue h over × IsHeld h body
IsFrame h size Stopped = Unit {0}
IsFrame h size (Monitor lock) = StandsAs h LockKind lock 1
IsFrame h size (Bind over at depth) = IsHeld h over × (at ≤ over.length) × (1 ≤ depth)
    × (depth ≤ nesting_limit)

abbrev pub AreFrames : Heap → (size : ℕ) → List Frame → Type 0
AreFrames h size frames = AllByRecursion (IsFrame h size) frames

-- ---- what holds of them under the names met and over a store

-- names in frames are names met, and a part of a string lies within its bytes
abbrev pub IsSourceWithin : (births : ℕ → ℕ) → Store → Source → Type 0
IsSourceWithin births store Program = Unit {0}
IsSourceWithin births store (TextOf part) = part.offset + part.length
    ≤ length (bytes store (births part.address))

abbrev pub IsFrameWithin : (births : ℕ → ℕ) → (names : List (List ℕ)) → Store → Frame → Type 0
IsFrameWithin births names store (Text source at) = IsSourceWithin births store source
IsFrameWithin births names store (Procedure rest) = Unit {0}
IsFrameWithin births names store (Pending word) = IsWithin births names store word
IsFrameWithin births names store (Repeat count body) = Unit {0}
IsFrameWithin births names store (Loop body) = Unit {0}
IsFrameWithin births names store (For control increment limit body) = Unit {0}
IsFrameWithin births names store (Forall over at body) = IsWithin births names store over
IsFrameWithin births names store Stopped = Unit {0}
IsFrameWithin births names store (Monitor lock) = Unit {0}
IsFrameWithin births names store (Bind over at depth) = Unit {0}

abbrev pub AreFramesWithin : Heap → (names : List (List ℕ)) → Store → List Frame → Type 0
AreFramesWithin h names store frames =
    AllByRecursion (IsFrameWithin (birth_at h) names store) frames
