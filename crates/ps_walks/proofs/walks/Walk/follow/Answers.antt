use Rattle.std.proofs.Common.{sym, ap, ◌∙◌, subst}
use Rattle.ps_language.specs.World.{World}
use Rattle.ps_ctx_table.specs.Desks.{Desk, IsWorld}
use Rattle.ps_walks.specs.Walks.{desk_in, walked, walked_all}
use Rattle.ps_walks.proofs.Following.{first_moves, first_more, first_none, idle_entry, move_behind, walked_more, walked_none}
use Rattle.ps_walks.proofs.walks.Walk.follow.Goals as goal

pub loop-number-init : goal.loop-number-init
loop-number-init g c =
    let d : Desk = desk_in g.M.Memory.heap g.M.Memory.grants c.args.self.now.runtime
    c.args.self.now.world in
    record {
      stands = c.requires.stands;
      at = λ w is. subst (IsWorld d) (sym (ap (walked_all w)
          (first_none c.args.entry c.args.entry.steps) ∙ walked_none w)) is;
    }

pub loop-number-preserved : goal.loop-number-preserved
loop-number-preserved g c =
    let new = c.try_step.new.self in
    let d : Desk = desk_in g.M.Memory.heap g.M.Memory.grants new.runtime new.world in
    let entry = c.args.entry in
    let number = c.loop-number.number in
    record {
      stands = c.in_ok-try_step.ensures.stands;
      at = λ w is.
          let before : World = walked_all w (first_moves entry entry.steps number) in
          let made = c.in_ok-try_step.ensures.walked before (c.loop-number.invariant.at w is) in
          let moved = subst (λ move. IsWorld d (walked before move)) c.way_of-refused.ensures made in
          subst (IsWorld d)
          (sym (walked_more w (first_moves entry entry.steps number)
          (move_behind entry entry.steps number))
          ∙ ap (walked_all w) (first_more entry entry.steps number c.loop-number-test.true))
          moved;
    }

pub returns-then-not-branch-clause-walked : goal.returns-then-not-branch-clause-walked
returns-then-not-branch-clause-walked g c = λ w is.
    let new = c.try_step.new.self in
    let d : Desk = desk_in g.M.Memory.heap g.M.Memory.grants new.runtime new.world in
    let entry = c.args.entry in
    let number = c.loop-number.number in
    let before : World = walked_all w (first_moves entry entry.steps number) in
    let at = c.loop-number.invariant.at w is in
    let made = c.in_ok-try_step.ensures.walked before at in
    let moved = subst (λ move. IsWorld d (walked before move)) c.way_of-refused.ensures made in
    let idle = c.in_ok-try_step.ensures.ready before at ∙ c.if-not-branch.true in
    subst (IsWorld d) (idle_entry w entry entry.steps number c.loop-number-test.true idle) moved
