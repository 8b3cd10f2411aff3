use Rattle.std.proofs.Common.{rules}
use Rattle.ps_mem.specs.Shows.{IsNatural}
use Rattle.ps_dict.proofs.Naturals.{natural-value, natural-within}
use Rattle.ps_dict.proofs.changes.natural_word.Goals as goal

pub returns-clause-held : goal.returns-clause-held
returns-clause-held c =
    let is : IsNatural c.integer.result c.args.number = search rules in
    λ h. natural-value c.integer.result c.args.number is c.integer.ensures.word h

pub returns-clause-within : goal.returns-clause-within
returns-clause-within c =
    let is : IsNatural c.integer.result c.args.number = search rules in
    λ births names s. natural-within c.integer.result c.args.number is births names s
