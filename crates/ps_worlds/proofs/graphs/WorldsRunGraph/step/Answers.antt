use Rattle.std.proofs.lemmas.Result.{on_ok_weaker}
use Rattle.ps_worlds.proofs.Following.{own_ready, stepped_at}
use Rattle.ps_worlds.proofs.graphs.WorldsRunGraph.step.Goals as goal

pub make-requires-clause-ready : goal.make-requires-clause-ready
make-requires-clause-ready g c =
    own_ready c.args.self.now.runs.now.task.program.now _ c.args.context c.requires.of
    c.requires.can

pub returns-clause-at : goal.returns-clause-at
returns-clause-at g c =
    on_ok_weaker c.look.result
    (λ ready. stepped_at c.args.self.now.runs.now.task.program.now _ _ _ c.args.context
    c.requires.of c.requires.can c.in_ok-make.ensures.at c.look.ensures.held)
    c.look.ensures.ready
