-- The lines of the next ending.
use Rattle.std.proofs.Common.{◌≡◌, ◌+◌, ◌∙◌, [], ◌++◌, drop, length, sym, ap, append-nil, append_assoc, arith, subst}
use Rattle.ps_cuts.specs.Runs.{IsToldOf}
use Rattle.ps_cuts.specs.declared.endings.Ending.{Ending}
use Rattle.ps_run_schedules.specs.Keeping.{Kept}
use Rattle.ps_searches.specs.declared.found.Told.{Told}
use Rattle.ps_views.specs.Orders.{ending_line}
use Rattle.ps_views.specs.declared.orders.EndingLine.{EndingLine}
use Rattle.ps_run.specs.Orders.{AreLinesBehind, line_told, told_as}
use Rattle.ps_run.proofs.EachOrder.{each_told, lines_over, next_lines}
use Rattle.ps_run.proofs.orders.append_endings.Goals as goal

-- of each ending an order is told, with as many cuts as its price
pub append_cuts-requires-clause-order : goal.append_cuts-requires-clause-order
append_cuts-requires-clause-order g c =
    let told = each_told (IsToldOf c.args.runs.now.task.program.now c.requires.0)
    c.args.found.now.endings.entries c.loop-place.place (c.in-Some.ending.now, c.in-Some.told.now)
    c.requires.2 (sym c.in-Some.ensures.entry) in (
      c.requires.0,
      c.requires.1,
      told.order,
    )

pub append_cuts-requires-clause-costs : goal.append_cuts-requires-clause-costs
append_cuts-requires-clause-costs g c =
    let told = each_told (IsToldOf c.args.runs.now.task.program.now c.requires.0)
    c.args.found.now.endings.entries c.loop-place.place (c.in-Some.ending.now, c.in-Some.told.now)
    c.requires.2 (sym c.in-Some.ensures.entry) in
    told.costs

pub loop-place-preserved : goal.loop-place-preserved
loop-place-preserved g c =
    let place = c.loop-place.place in
    let file = c.args.file.now in
    let program = c.args.runs.now.task.program.now in
    let endings = c.args.found.now.endings.entries in
    let one : Ending × Told Kept = (c.in-Some.ending.now, c.in-Some.told.now) in
    let to = c.loop-place.to.items in
    let before = c.loop-place.invariant.lines in
    let line = line_told (place + 1) one in
    let told = c.in_ok-append_cuts.ensures in
    let next : c.append_cuts.new.to.items ≡ to ++ (line ++ told.0) =
    told.1 ∙ ap (λ t. t ++ told.0) (c.in_ok-append_ending.ensures.appended
    ∙ ap (λ (line : EndingLine). to ++ ending_line line (c.called.result.now)) c.told_as.ensures
    ∙ ap (λ outcome. to ++ ending_line (told_as (place + 1) one) outcome) c.called.ensures)
    ∙ append_assoc to line told.0 in
    record {
      lines = (
        before.0 ++ (line ++ told.0),
        next ∙ ap (λ t. t ++ (line ++ told.0)) before.1
            ∙ append_assoc c.args.to.now.items before.0 (line ++ told.0),
        λ rest are. subst (AreLinesBehind file program 0 endings)
            (ap (λ t. before.0 ++ t) (sym (append_assoc line told.0 rest))
            ∙ sym (append_assoc before.0 (line ++ told.0) rest))
            (before.2 (line ++ (told.0 ++ rest))
            (next_lines file program place place endings one told.0 rest
            (sym c.in-Some.ensures.entry) told.2 are)),
      );
    }

pub returns : goal.returns
returns g c =
    let place = c.loop-place.place in
    let file = c.args.file.now in
    let program = c.args.runs.now.task.program.now in
    let endings = c.args.found.now.endings.entries in
    let before = c.loop-place.invariant.lines in
    let count : c.len-place-end.result ≡ length endings = c.len-place-end.ensures.len in
    let over : place ≡ length endings =
    omega (arith, count, c.loop-place-test.false, c.loop-place.auto.place-end) in (
      before.0,
      before.1,
      subst (AreLinesBehind file program 0 endings) (append-nil before.0)
          (before.2 [] (subst (λ n. AreLinesBehind file program place (drop n endings) [])
          (sym over) (lines_over file program place endings))),
    )
