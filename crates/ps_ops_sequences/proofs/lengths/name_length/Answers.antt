-- A name is short.
use Rattle.std.proofs.Common.{arith, ap, length}
use Rattle.ps_ops_sequences.proofs.Short.{name_short}
use Rattle.ps_ops_sequences.proofs.lengths.name_length.Goals as goal

pub overflow_cast-result : goal.overflow_cast-result
overflow_cast-result c =
    let short = name_short c.args.names.now c.args.number c.text.ensures.names in
    omega (arith, short, ap length c.text.ensures.bytes)

pub returns-clause-few : goal.returns-clause-few
returns-clause-few c =
    let short = name_short c.args.names.now c.args.number c.text.ensures.names in
    omega (arith, short, ap length c.text.ensures.bytes)
