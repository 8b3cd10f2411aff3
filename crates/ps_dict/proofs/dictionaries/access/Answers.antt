use Rattle.std.proofs.Common.{◌∙◌, ap}
use Rattle.ps_word.specs.Format.{access_of}
use Rattle.ps_dict.proofs.Shapes.{access_of-shown}
use Rattle.ps_dict.proofs.dictionaries.access.Goals as goal

pub returns-clause-value : goal.returns-clause-value
returns-clause-value g c = λ names s shows. c.access_of.ensures
    ∙ (ap access_of c.natural.ensures.value
    ∙ access_of-shown (g.M.Memory.heap c.args.memory.now) c.args.address c.requires.known c.requires.sound names s
    shows)
