use Rattle.std.proofs.Common.{sym, ap, ◌∙◌}
use Rattle.std.specs.List.{list_all}
use Rattle.ps_ctx_table.proofs.Finishing.{finished, over_as, some_unfinished, none_unfinished}
use Rattle.ps_ctx_table.proofs.contexts.Contexts.is_all_over.Goals as goal

pub returns-then-not-is_finished : goal.returns-then-not-is_finished
returns-then-not-is_finished c = λ h names w at.
    let items = c.items-member-items.result.now in
    sym (over_as h names w c.args.self.now.table at
    ∙ (ap (list_all finished) (sym c.items-member-items.ensures)
    ∙ (sym c.loop-member.invariant
    ∙ some_unfinished items c.loop-member.member-index c.member-item.result
    c.loop-member-test.true c.member-item.is
    (sym c.is_finished.ensures ∙ c.if-not-is_finished.true))))

pub returns : goal.returns
returns c = λ h names w at.
    sym (over_as h names w c.args.self.now.table at
    ∙ (ap (list_all finished) (sym c.items-member-items.ensures)
    ∙ (sym c.loop-member.invariant
    ∙ none_unfinished c.items-member-items.result.now c.loop-member.member-index
    c.loop-member-test.false)))
