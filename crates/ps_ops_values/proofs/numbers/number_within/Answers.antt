-- The number of the bytes that were read.
use Rattle.std.proofs.Common.{ℕ, List, ap, ◌∙◌}
use Rattle.ps_language.specs.Scan.{scan}
use Rattle.ps_scan.specs.Passed.{number_of}
use Rattle.ps_ops_values.proofs.numbers.number_within.Goals as goal

pub returns-clause-value : goal.returns-clause-value
returns-clause-value g c = λ names s shows within.
    c.first_number.ensures
    ∙ ap (λ (t : List ℕ). number_of (scan t 0)) (c.read_bytes.ensures.value names s shows within)
