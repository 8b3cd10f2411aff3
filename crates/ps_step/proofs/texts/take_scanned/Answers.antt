-- A literal is pushed, or the token is done in the general way.
use Rattle.std.proofs.Common.{refl}
use Rattle.ps_ops_state.specs.Lent.{Lent, lent_of}
use Rattle.ps_step.proofs.Reading.{read_taken}
use Rattle.ps_step.proofs.texts.take_scanned.Goals as goal

pub returns-in-Some-clause-takes : goal.returns-in-Some-clause-takes
returns-in-Some-clause-takes g c =
    let l : Lent = lent_of g.M.Memory.heap g.M.Memory.grants c.args.context.now c.args.runtime.now in
    let reads = c.literal_ahead.ensures.reads g.O.Operate.asks l.heap l.dictionaries in (
      refl,
      read_taken g.O.Operate.asks c.args.cursor.now.source c.args.cursor.now.at l c.requires.good c.args.text.now
          c.args.scanned c.requires.scanned c.requires.token c.args.attempt
          c.literal_ahead.new.operands c.in-Some.end (rw c.in-Some.is at reads),
    )
