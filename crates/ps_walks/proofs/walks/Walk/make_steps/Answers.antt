-- One step more, or none where none is left.
use Rattle.std.proofs.Common.{◌≡◌, ◌∙◌, ◌<◌, arith, subst, sym}
use Rattle.ps_language.specs.Schedules.{Move}
use Rattle.ps_ctx_table.specs.Desks.{Desk, IsWorld}
use Rattle.ps_run_schedules.specs.Turns.{move_of}
use Rattle.ps_walks.specs.Walks.{desk_in, walked}
use Rattle.ps_walks.proofs.Cutting.{dropped_one, taken_none, taken_one, taken_zero}
use Rattle.ps_walks.proofs.walks.Walk.make_steps.Goals as goal

pub loop-more-preserved : goal.loop-more-preserved
loop-more-preserved g c =
    let single = c.in-Some.single in
    let move : Move = move_of single.context single.refused single.shown in
    let left = c.loop-more.left in
    let rest = c.next.new.self in
    let more = c.loop-more.more in
    let some : 0 < more = omega (arith, c.loop-more-test.true) in
    record {
      stands = c.in_ok-try_step.ensures.stands;
      left = c.loop-more.invariant.left ∙ dropped_one left rest move c.in-Some.ensures more some;
      at = λ w is.
          let before = c.loop-more.invariant.at w is in (
            walked before.0 move,
            c.in_ok-try_step.ensures.walked before.0 before.1,
            before.2 ∙ taken_one left rest move c.in-Some.ensures before.0 more some,
          );
    }

pub returns-in_default-clause-walked : goal.returns-in_default-clause-walked
returns-in_default-clause-walked g c = λ w is.
    let at = c.loop-more.self in
    let d : Desk = desk_in g.M.Memory.heap g.M.Memory.grants at.runtime at.world in
    let before = c.loop-more.invariant.at w is in
    subst (IsWorld d)
    (sym (before.2 ∙ taken_none before.0 c.loop-more.left c.loop-more.more c.in_default.ensures.0))
    before.1

pub returns-clause-walked : goal.returns-clause-walked
returns-clause-walked g c = λ w is.
    let at = c.loop-more.self in
    let d : Desk = desk_in g.M.Memory.heap g.M.Memory.grants at.runtime at.world in
    let before = c.loop-more.invariant.at w is in
    let over : c.loop-more.more ≡ 0 = omega (arith, c.loop-more-test.false) in
    subst (IsWorld d)
    (sym (before.2 ∙ taken_zero before.0 c.loop-more.left c.loop-more.more over)) before.1
