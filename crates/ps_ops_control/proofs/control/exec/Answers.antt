-- The object waits in a frame.
use Rattle.ps_mem.specs.Heap.{birth_at}
use Rattle.ps_mem.specs.Shows.{IsValue, IsWithin}
use Rattle.ps_language.specs.Control.{exec_row}
use Rattle.ps_ops_operands.proofs.Held.{first_held}
use Rattle.ps_ops_control.proofs.Rows.{exec_begins}
use Rattle.ps_ops_control.proofs.control.exec.Goals as goal

pub returns : goal.returns
returns c = record {
  controls = λ h size ready.
      c.begin.ensures.controls exec_row h size ready
      (first_held (IsValue h) _ ready.operands.values _ c.in-Some.ensures)
      (record {
        within = λ names store both. first_held (IsWithin (birth_at h) names store) _ both.operands _ c.in-Some.ensures;
      })
      (exec_begins h _ _ c.in-Some.ensures);
  framed = c.begin.ensures.framed;
}
