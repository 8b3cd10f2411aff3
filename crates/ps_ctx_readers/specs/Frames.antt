-- The frames of a context as they are seen from outside (PLRM2, 3.4).
use Rattle.std.specs.Prelude.{ℕ, ◌+◌, List, [], Option, option_map, slice_get}
use Rattle.std.specs.Option.{option_map_or}
use Rattle.ps_language.specs.Contexts.{context_at}
use Rattle.ps_language.specs.World.{from_program, from_string, Frame, text_frame, procedure_frame}
use Rattle.ps_language.specs.World.{pending_frame, repeat_frame, loop_frame, for_frame, forall_frame}
use Rattle.ps_language.specs.World.{stopped_frame, monitor_frame, bind_frame, Status, World}
use Rattle.ps_ctx_readers.specs.declared.frames.FrameView.{FrameView}
use Rattle.ps_ctx_readers.specs.declared.frames.FrameView.TheVariants.{Program, Text, Procedure}
use Rattle.ps_ctx_readers.specs.declared.frames.FrameView.TheVariants.{Pending, Repeat, Loop, For}
use Rattle.ps_ctx_readers.specs.declared.frames.FrameView.TheVariants.{Forall, Stopped, Monitor}
use Rattle.ps_ctx_readers.specs.declared.frames.FrameView.TheVariants.{Bind}

-- a frame as it is seen: of a string or a procedure its object, and the place in that
abbrev pub seen : Frame → FrameView
seen (text_frame from_program at) = Program at
seen (text_frame (from_string part) at) = Text part.birth (part.offset + at)
seen (procedure_frame rest) = Procedure rest.birth rest.offset rest.count
seen (pending_frame value) = Pending
seen (repeat_frame count body) = Repeat count
seen (loop_frame body) = Loop
seen (for_frame control increment limit body) = For control increment limit
seen (forall_frame over at body) = Forall at
seen stopped_frame = Stopped
seen (monitor_frame lock) = Monitor lock
seen (bind_frame over at depth) = Bind

-- the frames of a context, the topmost first; none of one that isn't there
abbrev pub frames_at : World → (context : ℕ) → List Frame
frames_at now context = option_map_or (λ one. one.frames) (context_at now context) []

-- the one below so many others
abbrev pub frame_seen : World → (context depth : ℕ) → Option FrameView
frame_seen now context depth = option_map seen (slice_get (frames_at now context) depth)

-- how far a context is
abbrev pub status_at : World → (context : ℕ) → Option Status
status_at now context = option_map (λ one. one.status) (context_at now context)
