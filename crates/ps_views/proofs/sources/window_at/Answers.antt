-- The part is as long as the line has it.
use Rattle.std.proofs.Common.{length}
use Rattle.ps_views.proofs.Windows.{begin_is, bytes_are, mark_is, before_is, behind_is}
use Rattle.ps_views.proofs.sources.window_at.Goals as goal

pub returns-clause-bytes : goal.returns-clause-bytes
returns-clause-bytes c =
    bytes_are c.args.line.now c.args.at c.min-from.result c.min.result
    (begin_is (length c.args.line.now) c.args.at c.min-at.result c.saturating_sub.result c.saturating_sub-2.result
    c.min-from.result c.min-at.ensures c.saturating_sub.ensures c.saturating_sub-2.ensures c.min-from.ensures)
    c.min.ensures

pub returns-clause-mark : goal.returns-clause-mark
returns-clause-mark c =
    mark_is c.args.line.now c.args.at c.min-at.result c.min-from.result c.min-at.ensures
    (begin_is (length c.args.line.now) c.args.at c.min-at.result c.saturating_sub.result c.saturating_sub-2.result
    c.min-from.result c.min-at.ensures c.saturating_sub.ensures c.saturating_sub-2.ensures c.min-from.ensures)

pub returns-clause-before : goal.returns-clause-before
returns-clause-before c =
    before_is c.args.line.now c.args.at c.min-from.result
    (begin_is (length c.args.line.now) c.args.at c.min-at.result c.saturating_sub.result c.saturating_sub-2.result
    c.min-from.result c.min-at.ensures c.saturating_sub.ensures c.saturating_sub-2.ensures c.min-from.ensures)

pub returns-clause-behind : goal.returns-clause-behind
returns-clause-behind c =
    behind_is c.args.line.now c.args.at c.min-from.result
    (begin_is (length c.args.line.now) c.args.at c.min-at.result c.saturating_sub.result c.saturating_sub-2.result
    c.min-from.result c.min-at.ensures c.saturating_sub.ensures c.saturating_sub-2.ensures c.min-from.ensures)
