-- Past the end there is nothing.
use Rattle.std.proofs.Common.{sym, ap, ◌≤◌, length, arith}
use Rattle.ps_scan.specs.Passed.{passed_by}
use Rattle.ps_places.proofs.Seeking.{past_end}
use Rattle.ps_places.proofs.tokens.passed_at.Goals as goal

pub returns-then-at-text-clause-answer : goal.returns-then-at-text-clause-answer
returns-then-at-text-clause-answer c =
    let past : length c.args.text.now ≤ c.args.at = omega (arith, c.if-at-text.true) in
    sym (ap passed_by (past_end c.args.text.now c.args.at past))
