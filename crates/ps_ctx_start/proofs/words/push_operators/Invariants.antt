use Rattle.std.proofs.Common.{◌≡◌, vec_capacity}
use Rattle.ps_ctx_start.proofs.Pushing.{pushed}
use Rattle.ps_ctx_start.proofs.words.push_operators.Given as goal

-- the pairs of the operators up to the number are pushed
abbrev pub invariant-loop-number : goal.invariant-loop-number
invariant-loop-number l =
    (l.words.items ≡ pushed l.number) × (vec_capacity l.words ≡ vec_capacity l.fn.words)
