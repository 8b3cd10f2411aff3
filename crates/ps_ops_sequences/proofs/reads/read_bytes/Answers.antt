-- What is read is the front of the list.
use Rattle.std.proofs.Common.{◌∙◌}
use Rattle.std.proofs.lemmas.List.{take_at}
use Rattle.ps_ops_sequences.proofs.reads.read_bytes.Goals as goal

pub returns-clause-value : goal.returns-clause-value
returns-clause-value g c = λ names s shows within.
    take_at c.read_part.new.text _ c.args.part.length c.read_part.ensures.length
    ∙ c.read_part.ensures.value names s shows within
