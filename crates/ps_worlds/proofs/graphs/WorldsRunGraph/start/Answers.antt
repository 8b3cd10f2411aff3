use Rattle.std.proofs.lemmas.Result.{IfOk-weaker}
use Rattle.ps_cuts.proofs.Standing.{both_ok, none_path}
use Rattle.ps_worlds.proofs.Following.{at_start}
use Rattle.ps_worlds.proofs.graphs.WorldsRunGraph.start.Goals as goal

pub returns-clause-path : goal.returns-clause-path
returns-clause-path g c =
    IfOk-weaker c.begin.result _ _ (λ run none. none_path run.path.items none)
    c.begin.ensures.none

pub returns-clause-at : goal.returns-clause-at
returns-clause-at g c =
    both_ok c.begin.result
    (λ run of none. at_start c.args.self.now.runs.now.task.program.now _ of none)
    c.begin.ensures.of c.begin.ensures.none
