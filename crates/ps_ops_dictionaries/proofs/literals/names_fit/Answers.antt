-- So few that all may be met.
use Rattle.std.proofs.Common.{◌/◌, ◌∙◌, arith, sym, length}
use Rattle.std.proofs.lemmas.List.{length-map}
use Rattle.ps_mem.specs.Heap.{birth_at}
use Rattle.ps_mem.specs.Meaning.{value_of}
use Rattle.ps_ops_operands.specs.Changes.{values_in}
use Rattle.ps_ops_dictionaries.proofs.Counted.{names_few}
use Rattle.ps_ops_dictionaries.proofs.literals.names_fit.Goals as goal

pub returns-then-count-elements-le-NAMES_LIMIT-clause-answer
    : goal.returns-then-count-elements-le-NAMES_LIMIT-clause-answer
returns-then-count-elements-le-NAMES_LIMIT-clause-answer g c = λ s shows within.
    let h = g.M.Memory.heap c.args.memory.now in
    let few = c.if-count-elements-le-NAMES_LIMIT.true in
    let count = c.len-count.ensures.count in
    names_few c.args.names.now s (values_in h c.args.names.now c.args.elements.now)
    (length c.args.elements.now / 2)
    (length-map c.args.elements.now (value_of (birth_at h) c.args.names.now)
    ∙ sym c.requires.even) (omega arith)
