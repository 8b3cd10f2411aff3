-- What the next step of a context does, and where that stands in the program (PLRM2, 3.4, 3.5).
use Rattle.std.specs.Prelude.{ℕ, ℤ, Option, Some, None, List, [], ◌∷◌}
use Rattle.ps_language.specs.Access.{part_bytes}
use Rattle.ps_language.specs.StepFrames.{element_at}
use Rattle.ps_language.specs.Texts.{full_text}
use Rattle.ps_language.specs.Readers.{as_integer}
use Rattle.ps_language.specs.Value.{Value, Store}
use Rattle.ps_language.specs.World.{from_program, from_string, Frame, text_frame, procedure_frame}
use Rattle.ps_language.specs.World.{pending_frame, Status, running, unwinding, again, waiting}
use Rattle.ps_language.specs.World.{retaking, finished, Context}
use Rattle.ps_places.specs.declared.positions.Position.{Position}
use Rattle.ps_places.specs.Positions.{position_in}
use Rattle.ps_ctx_readers.specs.declared.frames.FrameView.{FrameView}
use Rattle.ps_ctx_readers.specs.declared.frames.FrameView.TheVariants as views
use Rattle.ps_ctx_readers.specs.Frames.{seen}
use Rattle.ps_views.specs.declared.frames.Coming.{Coming}
use Rattle.ps_views.specs.declared.frames.Coming.TheVariants.{Nothing, Value as Executed}
use Rattle.ps_views.specs.declared.frames.Coming.TheVariants.{ProgramEnd}
use Rattle.ps_views.specs.declared.frames.Coming.TheVariants.{TextEnd, Turn, Unwinding, Unwound}
use Rattle.ps_views.specs.declared.frames.Coming.TheVariants.{Joining, Entering, Retaking}
use Rattle.ps_views.specs.declared.frames.FrameLine.{FrameLine}
use Rattle.ps_views.specs.declared.frames.FrameLine.TheVariants as lines
use Rattle.ps_states.specs.Charts.{Chart, position_at, element_position, object_position}
use Rattle.ps_states.specs.Charts.{next_token, token_bytes}

-- a frame as a line tells it
abbrev pub frame_line : Chart → FrameView → FrameLine
frame_line chart (views.Program at) =
    lines.Program (position_at chart (next_token chart.program at))
frame_line chart (views.Text birth at) = lines.Text birth at
frame_line chart (views.Procedure birth next left) =
    lines.Procedure (element_position chart birth next) left
frame_line chart views.Pending = lines.Pending
frame_line chart (views.Repeat left) = lines.Repeat left
frame_line chart views.Loop = lines.Loop
frame_line chart (views.For control increment limit) = lines.For control increment limit
frame_line chart (views.Forall at) = lines.Forall at
frame_line chart views.Stopped = lines.Stopped
frame_line chart (views.Monitor lock) = lines.Monitor lock
frame_line chart views.Bind = lines.Bind

-- what a step does, the text of the value that it executes, and where that stands
pub record Next : Type 0 where
  pub coming : Coming
  pub value : List ℕ
  pub position : Option Position

-- without a value
abbrev pub bare : Coming → Next
bare coming = record { coming = coming; value = []; position = None }

-- with one
abbrev pub executing : (value : List ℕ) → Option Position → Next
executing value position = record { coming = Executed; value = value; position = position }

-- the next token of the program
abbrev pub program_next : Chart → Option ℕ → Next
program_next chart None = bare ProgramEnd
program_next chart (Some begin) =
    executing (token_bytes chart.program begin) (Some (position_in chart.program begin))

-- the next token of a string, whose own place is told
abbrev pub string_next : Option Position → (text : List ℕ) → Option ℕ → Next
string_next position text None = bare TextEnd
string_next position text (Some begin) = executing (token_bytes text begin) position

-- a step by a frame
abbrev pub frame_next : Chart → Store → Frame → Next
frame_next chart store (text_frame from_program at) =
    program_next chart (next_token chart.program at)
frame_next chart store (text_frame (from_string part) at) =
    string_next (object_position chart part.birth) (part_bytes store part)
    (next_token (part_bytes store part) at)
frame_next chart store (procedure_frame rest) =
    executing (full_text store (element_at store rest 0))
    (element_position chart rest.birth rest.offset)
frame_next chart store (pending_frame value) = executing (full_text store value) None
frame_next chart store frame = bare (Turn (frame_line chart (seen frame)))

-- a step of a running context
abbrev pub running_next : Chart → Store → List Frame → Next
running_next chart store [] = bare Nothing
running_next chart store (frame ∷ below) = frame_next chart store frame

-- a step of an unwinding
abbrev pub unwinding_next : Chart → List Frame → Next
unwinding_next chart [] = bare Unwound
unwinding_next chart (frame ∷ below) = bare (Unwinding (frame_line chart (seen frame)))

-- a call that is tried again: on top an identifier is for join, and a procedure for monitor
abbrev pub tried_by : Option ℤ → Coming
tried_by (Some number) = Joining
tried_by None = Entering

abbrev pub tried_next : List Value → Coming
tried_next [] = Joining
tried_next (value ∷ rest) = tried_by (as_integer value)

-- by the status
abbrev pub next_by : Chart → Store → Context → Status → Next
next_by chart store one running = running_next chart store one.frames
next_by chart store one (unwinding cause) = unwinding_next chart one.frames
next_by chart store one again = bare (tried_next one.operands)
next_by chart store one (waiting lock condition) = bare Nothing
next_by chart store one (retaking lock) = bare Retaking
next_by chart store one finished = bare Nothing

unfoldable pub next_of : Chart → Store → Context → Next
next_of chart store one = next_by chart store one one.status
