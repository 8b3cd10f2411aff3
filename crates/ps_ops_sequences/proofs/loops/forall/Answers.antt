-- A loop begins.
use Rattle.ps_ops_state.proofs.Alike.{came_acts}
use Rattle.ps_ops_state.proofs.Lifts.{controls_acts, ready}
use Rattle.ps_ops_sequences.proofs.loops.forall.Goals as goal

pub returns : goal.returns
returns g c = rw (c.second_access-access.ensures.heap, c.second_access-access.ensures.grants)
    (record {
      acts = λ attempt. came_acts attempt _ _ _ _ _ _ c.made.ensures
          (controls_acts _ c.requires.good _ _ attempt _ _
          (c.begin_forall.ensures.controls _ _ (ready c.requires.good)
          c.second_access-access.ensures.access) c.begin_forall.ensures.framed);
    })
