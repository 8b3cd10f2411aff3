use Rattle.std.proofs.Common.{◌≡◌, take, rules}
use Rattle.std.specs.Int.{w64, to_le_bytes}
use Rattle.ps_seq.proofs.CompareLemmas.{cmp-same}
use Rattle.ps_seq.proofs.strings.compare_runs.Goals as goal

pub returns-then-left-right : goal.returns-then-left-right
returns-then-left-right c =
    let same : c.args.left.0 ≡ c.args.right.0 = search rules in
    cmp-same _ _ (λ k. take c.args.count (to_le_bytes w64 (same k)))
