use Rattle.std.proofs.Common.{◌≡◌, ℕ, List, drop}
use Rattle.ps_language.specs.Control as language
use Rattle.ps_mem.specs.Heap.{Heap}
use Rattle.ps_ops_control.specs.Frames.{frames_in}
use Rattle.ps_ops_control.proofs.unwinding.is_in_loop.Given as goal

-- those above are no loops
abbrev pub invariant-loop-depth : goal.invariant-loop-depth
invariant-loop-depth l = (h : Heap) (names : List (List ℕ))
    → language.is_in_loop (frames_in h names l.frames) ≡ language.is_in_loop (frames_in h names (drop l.depth l.frames))
