-- Few pairs have room.
use Rattle.std.proofs.Common.{arith}
use Rattle.ps_dict.proofs.Copying.{planned-few}
use Rattle.ps_ops_dictionaries.proofs.copies.test_merge.Goals as goal

pub returns-then-length-le-CAPACITY_LIMIT-clause-possible
    : goal.returns-then-length-le-CAPACITY_LIMIT-clause-possible
returns-then-length-le-CAPACITY_LIMIT-clause-possible g c =
    let few = c.if-length-le-CAPACITY_LIMIT.true in
    let one = c.length.ensures.words in
    let two = rw c.length.ensures.heap at c.length-then-not-refused.ensures.words in
    planned-few (g.M.Memory.heap c.args.memory.now) c.requires.sound c.args.merge.to c.args.merge.from
    c.requires.target c.requires.source (omega (arith, few, one, two))
