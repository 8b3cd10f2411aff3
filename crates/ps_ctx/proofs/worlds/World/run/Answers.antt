-- Own steps, and the step behind them.
use Rattle.std.proofs.Common.{None, Ok, Err, refl}
use Rattle.ps_ctx.proofs.Behind.{run_settles, run_left, still_there, behind_is_steady, behind_finishes, behind_unmade}
use Rattle.ps_ctx.proofs.Ended.{run_ended}
use Rattle.ps_ctx.proofs.Telling.{if_ok, shown_if}
use Rattle.ps_ctx.proofs.Turned.{lends_desk, lends_runs}
use Rattle.ps_ctx.proofs.worlds.World.run.Goals as goal

pub returns-then-framed-clause-makes : goal.returns-then-framed-clause-makes
returns-then-framed-clause-makes g c =
    rw c.requires.calling
    (run_left g.S.Interpret.asks _ _ c.args.identifier c.args.slot c.args.most
    c.run_of-framed.result.0.made c.run_of-framed.result.0.next c.run_of-framed.result.1
    c.requires.steady c.requires.course
    (lends_desk c.args.identifier _ _ _ _ _ _ _ c.run_of-framed.ensures.lends) c.in_default.is
    c.if-framed.true)

pub returns-then-framed-clause-ended : goal.returns-then-framed-clause-ended
returns-then-framed-clause-ended g c = λ none fewer.
    let so = lends_desk c.args.identifier _ _ _ _ _ _ _ c.run_of-framed.ensures.lends in
    absurd (so.goes_on.left c.if-framed.true (so.goes_on.out c.in_default.is fewer))

pub returns-in_default-clause-makes : goal.returns-in_default-clause-makes
returns-in_default-clause-makes g c =
    rw (
      c.settle.ensures.table,
      c.settle.ensures.faulted,
      c.requires.calling,
    )
    (run_settles _ _ c.args.identifier c.run_of-framed.result.0.made c.requires.steady
    c.requires.course (rw c.in_default.is at (lends_runs _ _ _ _ _ _ _ _ _
    (lends_desk c.args.identifier _ _ _ _ _ _ _ c.run_of-framed.ensures.lends))))

pub returns-in_default-clause-ended : goal.returns-in_default-clause-ended
returns-in_default-clause-ended g c = λ none fewer.
    let so = lends_desk c.args.identifier _ _ _ _ _ _ _ c.run_of-framed.ensures.lends in
    rw (
      c.settle.ensures.table,
      c.settle.ensures.faulted,
      c.requires.calling,
    )
    (λ w at. run_ended _ _ c.args.identifier _ so (so.goes_on.out c.in_default.is fewer) w at)

pub settle-requires : goal.settle-requires
settle-requires g c =
    let lends = c.run_of-framed.ensures.lends in
    still_there _ _ c.args.identifier lends.member _ lends.found lends.table

pub returns-in-Err-clause-makes : goal.returns-in-Err-clause-makes
returns-in-Err-clause-makes g c =
    rw c.requires.calling
    (behind_unmade g.S.Interpret.asks _ _ c.args.identifier c.args.slot
    c.run_of-framed.result.0.made None c.requires.steady c.requires.course (Err c.in-Err.reason)
    (rw (c.in-Some.is, c.in-Err.is) at (lends_runs _ _ _ _ _ _ _ _ _
    (lends_desk c.args.identifier _ _ _ _ _ _ _ c.run_of-framed.ensures.lends)))
    g.met.S.Interpret.few refl c.in-Err.reason refl)

pub finish-told-requires-clause-there : goal.finish-told-requires-clause-there
finish-told-requires-clause-there g c =
    let lends = c.run_of-framed.ensures.lends in
    still_there _ _ c.args.identifier lends.member _ lends.found lends.table

pub finish-told-requires-clause-steady : goal.finish-told-requires-clause-steady
finish-told-requires-clause-steady g c =
    rw (c.shown_by-shown.ensures.heap, c.shown_by-shown.ensures.grants)
    (behind_is_steady g.S.Interpret.asks _ _ c.args.identifier c.args.slot
    c.run_of-framed.result.0.made c.shown_by-shown.result c.requires.steady c.requires.course
    (Ok c.in-Ok.turned) (rw (c.in-Some.is, c.in-Ok.is) at (lends_runs _ _ _ _ _ _ _ _ _
    (lends_desk c.args.identifier _ _ _ _ _ _ _ c.run_of-framed.ensures.lends))) c.in-Ok.turned refl)

pub returns-clause-shown : goal.returns-clause-shown
returns-clause-shown g c =
    if_ok c.finish-told.result
    (shown_if _ c.args.shows c.shown_by-shown.result c.shown_by-shown.ensures.shown)

pub returns-clause-makes : goal.returns-clause-makes
returns-clause-makes g c =
    behind_finishes g.S.Interpret.asks _ _ c.args.identifier c.args.slot
    c.run_of-framed.result.0.made c.shown_by-shown.result c.requires.steady c.requires.course
    (Ok c.in-Ok.turned) (rw (c.in-Some.is, c.in-Ok.is) at (lends_runs _ _ _ _ _ _ _ _ _
    (lends_desk c.args.identifier _ _ _ _ _ _ _ c.run_of-framed.ensures.lends)))
    c.args.shows c.shown_by-shown.ensures.shown c.shown_by-shown.ensures.counted
    c.in-Ok.turned refl c.finish-told.result _
    (rw (c.shown_by-shown.ensures.heap, c.shown_by-shown.ensures.grants) at c.finish-told.ensures)
