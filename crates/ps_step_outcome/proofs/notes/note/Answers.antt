-- The entries are planned and put in the memory where five records were granted.
use Rattle.std.proofs.Common.{◌∙◌, sym}
use Rattle.ps_step_outcome.proofs.Noting.{noted}
use Rattle.ps_step_outcome.proofs.notes.note.Goals as goal

pub plan_error-plan-requires-clause-held : goal.plan_error-plan-requires-clause-held
plan_error-plan-requires-clause-held g c =
    let held = c.requires.held in
    c.entries_of-entries.ensures.held _ (rw c.permit_note.ensures.heap held)

pub put_error-requires-clause-held : goal.put_error-requires-clause-held
put_error-requires-clause-held g c =
    let held = c.requires.held in
    let heap = c.plan_error-plan.ensures.heap ∙ c.permit_note.ensures.heap in
    c.entries_of-entries.ensures.held _ (rw heap held)

pub returns-in-Ok : goal.returns-in-Ok
returns-in-Ok g c =
    let asked = g.M.Memory.grants c.args.memory.now in
    let now = g.M.Memory.heap c.put_error.new.memory in
    let left = g.M.Memory.grants c.put_error.new.memory in
    let first = c.permit_note.ensures in
    let plan = c.plan_error-plan.ensures in
    let put = c.put_error.ensures in
    let heap = plan.heap ∙ first.heap in
    rw (sym heap)
    (noted c.args.error c.args.command c.args.slot c.args.address _ asked
    (g.M.Memory.grants c.permit_note.new.memory) first.kept first.others first.more
    (rw heap c.requires.sound) (rw heap c.requires.stands) now left put.sound put.keeps
    c.plan_error-plan.result (rw plan.grants at put.grants)
    (λ names s met distinct shows inside. put.error names s shows distinct
    (c.entries_of-entries.ensures.within _ names s met inside) c.args.error _
    (c.entries_of-entries.ensures.values _ names met)))

pub returns-in-Err : goal.returns-in-Err
returns-in-Err g c =
    (rw c.in-Err.is at c.permit_note.ensures.reason) c.args.error c.args.command c.args.address
