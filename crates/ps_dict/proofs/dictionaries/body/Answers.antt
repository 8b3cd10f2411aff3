use Rattle.std.proofs.Common.{arith, ◌∙◌}
use Rattle.ps_dict.proofs.Shapes.{four}
use Rattle.ps_dict.proofs.Fields.{body_field}
use Rattle.ps_dict.proofs.dictionaries.body.Goals as goal

pub load-requires : goal.load-requires
load-requires g c = record {
  place = let fields = four (g.M.Memory.heap c.args.memory.now) c.args.address c.requires.known c.requires.sound in
      omega (arith, fields);
}

pub returns-clause-words : goal.returns-clause-words
returns-clause-words g c =
    c.low_address.ensures
    ∙ body_field (g.M.Memory.heap c.args.memory.now) c.args.address c.requires.known
    c.requires.sound c.load.result c.load.ensures.answer
