use Rattle.std.proofs.Common.{sym}
use Rattle.ps_states.proofs.Each.{made_all}
use Rattle.ps_walks.proofs.timelines.draw_arrows.Goals as goal

pub returns-clause-forks : goal.returns-clause-forks
returns-clause-forks g c = λ after is.
    let h = g.M.Memory.heap c.args.runtime.now.memory in
    c.in_ok-push_started.ensures after (sym (made_all h c.args.runtime.now.shared.names
    c.args.contexts.now.table after is.contexts))
