-- Contexts and the world that they share (PLRM2, 7.1, 3.4).
use Rattle.std.specs.Prelude.{ℕ, ℤ, Bool, List, Option}
use Rattle.ps_language.specs.Value.{Part, Value, Store}

-- where a Text frame's bytes come from: the program, or a string as it stands
pub data Source : Type 0 where
  from_program : Source
  from_string : (part : Part) → Source

-- a frame of the execution stack
pub data Frame : Type 0 where
  text_frame : (source : Source) (at : ℕ) → Frame
  procedure_frame : (rest : Part) → Frame
  pending_frame : (value : Value) → Frame
  repeat_frame : (count : ℕ) (body : Part) → Frame
  loop_frame : (body : Part) → Frame
  for_frame : (control increment limit : ℤ) (body : Part) → Frame
  forall_frame : (over : Value) (at : ℕ) (body : Part) → Frame
  stopped_frame : Frame
  monitor_frame : (lock : ℕ) → Frame
  bind_frame : (over : Part) (at depth : ℕ) → Frame

-- what an unwinding is for
pub data Cause : Type 0 where
  for_stop : Cause
  for_exit : Cause
  for_quit : Cause

pub data Status : Type 0 where
  running : Status
  unwinding : (cause : Cause) → Status
  again : Status  -- monitor or join is to be tried again
  waiting : (lock condition : ℕ) → Status
  retaking : (lock : ℕ) → Status
  finished : Status

pub record Context : Type 0 where
  pub operands : List Value  -- the topmost first, as the two below
  pub dictionaries : List Value
  pub frames : List Frame
  pub error_dictionary : ℕ
  pub is_detached : Bool
  pub status : Status

pub record World : Type 0 where
  pub program : List ℕ
  pub store : Store
  -- the context of identifier n is at place n - 1; nothing is left of one that is ended
  pub contexts : List (Option Context)
  pub printed : List ℕ
  pub error_lines : ℕ
  pub names : List (List ℕ)  -- the names met, each once, in the order of meeting

-- one context with what it shares with the others
pub record Machine : Type 0 where
  pub context : Context
  pub store : Store
  pub printed : List ℕ
  pub error_lines : ℕ
  pub names : List (List ℕ)
