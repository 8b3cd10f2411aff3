use Rattle.std.proofs.Common.{◌∙◌, [], ◌∷◌, ◌++◌, length, refl, sym, ap, subst, arith, append_assoc, append-nil}
use Rattle.std.proofs.lemmas.List.{length-append}
use Rattle.ps_language.specs.Schedules.{Move}
use Rattle.ps_ctx_table.specs.Desks.{Desk, IsWorld}
use Rattle.ps_run_schedules.specs.Turns.{move_of}
use Rattle.ps_walks.specs.Drawings.{IsDrawn}
use Rattle.ps_walks.specs.Walks.{desk_in, walked_all}
use Rattle.ps_walks.proofs.Following.{walked_more, walked_none}
use Rattle.ps_walks.proofs.walks.Walk.draw_steps.Goals as goal

pub loop-single-init : goal.loop-single-init
loop-single-init g c = record {
  stands = c.requires.stands;
  within = c.requires.within;
  drawn = λ start is drawn.
      let now = c.args.self.now in
      let d : Desk = desk_in g.M.Memory.heap g.M.Memory.grants now.runtime now.world in (
        [],
        subst (IsWorld d) (sym (walked_none start)) is,
        drawn,
        refl,
        refl,
      );
}

pub loop-single-preserved : goal.loop-single-preserved
loop-single-preserved g c = record {
  stands = c.in_ok-draw_step.ensures.stands;
  within = c.in_ok-draw_step.ensures.within;
  drawn = λ start is drawn.
      let new = c.draw_step.new.self in
      let d : Desk = desk_in g.M.Memory.heap g.M.Memory.grants new.runtime new.world in
      let before = c.loop-single.invariant.drawn start is drawn in
      let single = c.in-Some.single in
      let move : Move = move_of single.context single.refused single.shown in (
        before.0 ++ move ∷ [],
        subst (IsWorld d) (sym (walked_more start before.0 move))
            (c.in_ok-draw_step.ensures.walked (walked_all start before.0) before.1),
        c.in_ok-draw_step.ensures.drawn start before.0 (sym before.4) before.1 before.2,
        before.3 ∙ ap (λ rest. before.0 ++ rest) c.in-Some.ensures
            ∙ sym (append_assoc before.0 (move ∷ []) c.next.new.self),
        omega (arith, before.4, length-append before.0 (move ∷ [])),
      );
}

pub returns : goal.returns
returns g c = λ start is drawn.
    let before = c.loop-single.invariant.drawn start is drawn in
    let all = before.3 ∙ ap (λ rest. before.0 ++ rest) c.in_default.ensures.0 ∙ append-nil before.0 in (
      before.4 ∙ ap length (sym all),
      subst (λ moves. IsDrawn start moves c.loop-single.drawing) (sym all) before.2,
    )
