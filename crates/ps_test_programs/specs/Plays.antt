-- What a play holds.
use Rattle.ps_mem.specs.declared.bounded.BoundedMemory.{BoundedMemory}
use Rattle.ps_mem.specs.Heap.{Heap, Grants}
use Rattle.ps_ops_state.specs.declared.lent.Runtime.{Runtime}
use Rattle.ps_ops_state.specs.Lent.{lent_of}
use Rattle.ps_step_interpreter.specs.declared.interpreter.Interpreter.{Interpreter}
use Rattle.ps_step_interpreter.specs.Courses.{Held, held}

-- a context, and what contexts share with its memory
pub record Playing : Type 0 where
  pub runtime : Runtime BoundedMemory
  pub context : Interpreter

-- a context over a memory that holds this and has granted that
abbrev pub held_over : {M : Type 0} → (M → Heap) → (M → Grants) → Runtime M → Interpreter → Held
held_over heap grants runtime c = held (lent_of heap grants c.context runtime) c.course
    c.error_lines
