use Rattle.std.proofs.Common.{◌∙◌}
use Rattle.ps_gc.proofs.Spaces.{may_open_is}
use Rattle.ps_gc.proofs.seats.MutatorSeatLoggedMemory.open_cycle.Goals as goal

pub returns-clause-answer : goal.returns-clause-answer
returns-clause-answer g c =
    let self = c.args.self.now in
    c.open_cycle.ensures.answer ∙ may_open_is self.vm.seat.me.0.vm self.vm.sits.runs
