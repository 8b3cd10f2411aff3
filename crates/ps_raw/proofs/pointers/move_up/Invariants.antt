use Rattle.std.proofs.Common.{◌≡◌, ◌+◌, take, drop}
use Rattle.ps_raw.proofs.Moves.{put_between}
use Rattle.ps_raw.proofs.pointers.move_up.Given as goal

-- all but the first i words are moved
abbrev pub invariant-loop-i : goal.invariant-loop-i
invariant-loop-i l = l.words
    ≡ put_between l.initial.words (l.to + l.i) (drop l.i (take l.count (drop l.from l.initial.words))) (l.to + l.count)
