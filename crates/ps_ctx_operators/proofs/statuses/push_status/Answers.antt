-- Three plain words are pushed.
use Rattle.ps_ops_operands.specs.Kept.{plain}
use Rattle.ps_ops_operands.proofs.Sources.{from_same}
use Rattle.ps_ctx_operators.proofs.statuses.push_status.Goals as goal

pub returns-clause-kept : goal.returns-clause-kept
returns-clause-kept c = rw (
  c.push_reserved-3.ensures,
  c.push_reserved-2.ensures,
  c.push_reserved.ensures,
) (record {
  each = (
    plain c.integer-3.ensures.plain,
    (
      plain c.integer-2.ensures.plain,
      (plain c.integer.ensures.plain, (from_same _).each),
    ),
  );
})
