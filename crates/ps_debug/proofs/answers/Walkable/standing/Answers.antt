use Rattle.std.proofs.Common.{arith, ◌<◌}
use Rattle.std.proofs.lemmas.Result.{IfOk-weaker}
use Rattle.ps_debug.specs.Answers.{walk_of}
use Rattle.ps_debug.proofs.Obeying.{standing_at}
use Rattle.ps_debug.proofs.answers.Walkable.standing.Goals as goal

pub returns : goal.returns
returns g c =
    let some : 0 < c.args.step = omega arith in
    IfOk-weaker c.lines.result _ _
    (λ text lines. standing_at (walk_of c.args.self.now) c.args.step text.items some lines)
    c.lines.ensures
