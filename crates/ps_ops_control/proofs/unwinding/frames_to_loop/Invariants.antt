use Rattle.std.proofs.Common.{◌≡◌}
use Rattle.ps_ops_control.specs.Turns.{frames_to_loop}
use Rattle.ps_ops_control.proofs.ToLoop.{behind_so_many}
use Rattle.ps_ops_control.proofs.unwinding.frames_to_loop.Given as goal

-- those above are procedures
abbrev pub invariant-loop-depth : goal.invariant-loop-depth
invariant-loop-depth l = frames_to_loop l.frames ≡ behind_so_many l.depth l.frames
