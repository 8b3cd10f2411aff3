use Rattle.std.proofs.lemmas.Result.{IfOk-weaker}
use Rattle.ps_cuts.proofs.Standing.{none_path}
use Rattle.ps_cuts.proofs.trees.RunsRunTree.start.Goals as goal

pub returns-clause-path : goal.returns-clause-path
returns-clause-path g c =
    IfOk-weaker c.begin.result _ _ (λ run none. none_path run.vault.schedule none)
    c.begin.ensures.none
