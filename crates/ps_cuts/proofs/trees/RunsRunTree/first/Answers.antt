use Rattle.ps_cuts.proofs.Batches.{none_then}
use Rattle.ps_cuts.proofs.Standing.{free_found, over_there}
use Rattle.ps_cuts.proofs.trees.RunsRunTree.first.Goals as goal

pub returns-clause-free : goal.returns-clause-free
returns-clause-free g c =
    free_found c.args.self.now.task.program.now c.args.run.now.vault c.requires.same
    c.requires.made.plain c.due.result c.due.ensures.due c.due.ensures.ready

pub returns-clause-over : goal.returns-clause-over
returns-clause-over g c =
    none_then c.due.result (over_there c.args.self.now.task.program.now c.args.run.now.vault
    c.requires.same c.requires.made.plain) c.due.ensures.none
