-- A line feed belongs to a carriage return.
use Rattle.std.proofs.Common.{sym, ◌∙◌}
use Rattle.std.proofs.lemmas.List.{at_drop_all}
use Rattle.ps_language.proofs.StringPlaces.{return_feed, return_other, return_end}
use Rattle.ps_scan.proofs.strings.return_end.Goals as goal

pub returns-then-bytes-at-eq10-clause-rest : goal.returns-then-bytes-at-eq10-clause-rest
returns-then-bytes-at-eq10-clause-rest c =
    sym (return_feed c.args.bytes.now c.args.at c.if-at-bytes.true c.if-bytes-at-eq10.true)

pub returns-else-bytes-at-eq10-clause-rest : goal.returns-else-bytes-at-eq10-clause-rest
returns-else-bytes-at-eq10-clause-rest c =
    sym (return_other c.args.bytes.now c.args.at c.if-at-bytes.true c.if-bytes-at-eq10.false)

pub returns-else-at-bytes-clause-rest : goal.returns-else-at-bytes-clause-rest
returns-else-at-bytes-clause-rest c = at_drop_all (λ x. x) c.args.bytes.now c.args.at c.if-at-bytes.false
    ∙ sym (return_end c.args.bytes.now c.args.at c.if-at-bytes.false)
