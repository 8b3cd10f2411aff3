use Rattle.std.proofs.Common.{◌∙◌, arith}
use Rattle.ps_dict.proofs.Shapes.{small-capacity, capacity-shown}
use Rattle.ps_dict.proofs.dictionaries.capacity.Goals as goal

pub returns-clause-below : goal.returns-clause-below
returns-clause-below g c =
    let small = small-capacity (g.M.Memory.heap c.args.memory.now) c.args.address c.requires.known c.requires.sound in
    let is = c.natural.ensures.value in
    omega (arith, small, is)

pub returns-clause-value : goal.returns-clause-value
returns-clause-value g c = λ names s shows. c.natural.ensures.value
    ∙ capacity-shown (g.M.Memory.heap c.args.memory.now) c.args.address c.requires.known c.requires.sound names s shows
