-- The step alone.
use Rattle.ps_ctx.proofs.Behind.{step_alone}
use Rattle.ps_ctx.proofs.Telling.{if_ok, shown_if, shown_of}
use Rattle.ps_ctx.proofs.worlds.World.go_on.Goals as goal

pub returns-clause-makes : goal.returns-clause-makes
returns-clause-makes g c =
    step_alone g.S.Interpret.asks c.args.identifier c.args.slot c.shown_by-shown.result
    c.step-told.result _ _ c.requires.steady c.requires.may
    (rw (c.shown_by-shown.ensures.heap, c.shown_by-shown.ensures.grants) at c.step-told.ensures)
    (shown_of _ c.args.shows c.shown_by-shown.result c.shown_by-shown.ensures.shown
    c.shown_by-shown.ensures.counted)

pub returns-clause-shown : goal.returns-clause-shown
returns-clause-shown g c =
    if_ok c.step-told.result
    (shown_if _ c.args.shows c.shown_by-shown.result c.shown_by-shown.ensures.shown)
