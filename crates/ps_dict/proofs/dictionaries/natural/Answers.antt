use Rattle.std.proofs.Common.{arith, ◌∙◌}
use Rattle.ps_dict.proofs.Shapes.{four}
use Rattle.ps_dict.proofs.Fields.{natural_field}
use Rattle.ps_dict.proofs.dictionaries.natural.Goals as goal

pub load-requires : goal.load-requires
load-requires g c =
    let fields = four (g.M.Memory.heap c.args.memory.now) c.args.address c.requires.known
    c.requires.sound in
    let below = c.requires.place in
    record { place = omega (arith, fields, below) }

pub returns-clause-value : goal.returns-clause-value
returns-clause-value g c =
    c.low_natural.ensures
    ∙ natural_field (g.M.Memory.heap c.args.memory.now) c.args.address c.requires.known
    c.requires.sound c.load.result c.args.place c.requires.place c.load.ensures.answer
