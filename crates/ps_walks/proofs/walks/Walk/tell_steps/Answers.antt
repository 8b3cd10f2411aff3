-- One step more, and its line.
use Rattle.std.proofs.Common.{◌∙◌, ◌+◌, [], ◌∷◌, ◌++◌, inl, inr, refl, sym, ap, subst, arith, append_assoc, append-nil}
use Rattle.std.proofs.lemmas.List.{length-append}
use Rattle.ps_language.specs.Schedules.{Move}
use Rattle.ps_language.specs.World.{World}
use Rattle.ps_ctx_table.specs.Desks.{Desk, IsWorld}
use Rattle.ps_run_schedules.specs.Turns.{move_of}
use Rattle.ps_walks.specs.StepLines.{line_of}
use Rattle.ps_walks.specs.Walks.{desk_in, walked_all}
use Rattle.ps_walks.proofs.Following.{walked_more, walked_none}
use Rattle.ps_walks.proofs.Lining.{steps_more, steps_none}
use Rattle.ps_walks.proofs.walks.Walk.tell_steps.Goals as goal

pub loop-step-init : goal.loop-step-init
loop-step-init g c = record {
  stands = c.requires.stands;
  within = inr refl;
  told = λ w is.
      let now = c.args.self.now in
      let d : Desk = desk_in g.M.Memory.heap g.M.Memory.grants now.runtime now.world in (
        [],
        [],
        subst (IsWorld d) (sym (walked_none w)) is,
        sym (append-nil c.args.text.now.items),
        steps_none c.args.scribe.file.now c.args.range.past w,
        refl,
        omega arith,
      );
}

pub loop-step-preserved : goal.loop-step-preserved
loop-step-preserved g c = record {
  stands = c.in_ok-tell_step.ensures.stands;
  within = inl (omega (arith, c.loop-step-test.true));
  told = λ w is.
      let new = c.tell_step.new.self in
      let d : Desk = desk_in g.M.Memory.heap g.M.Memory.grants new.runtime new.world in
      let before = c.loop-step.invariant.told w is in
      let single = c.in-Some.single in
      let move : Move = move_of single.context single.refused single.shown in
      let at : World = walked_all w before.0 in
      let made = c.in_ok-tell_step.ensures.line at before.2 in
      let file = c.args.scribe.file.now in
      let line = line_of file (c.loop-step.step + 1) at move made.0 in (
        before.0 ++ move ∷ [],
        before.1 ++ line,
        subst (IsWorld d) (sym (walked_more w before.0 move))
            (c.in_ok-tell_step.ensures.walked at before.2),
        made.1 ∙ ap (λ text. text ++ line) before.3
            ∙ append_assoc c.args.text.now.items before.1 line,
        steps_more file move made.0 line c.args.range.past w before.0 before.1 before.4
            (ap (λ n. line_of file (n + 1) at move made.0) before.6),
        before.5 ∙ ap (λ rest. before.0 ++ rest) c.in-Some.ensures
            ∙ sym (append_assoc before.0 (move ∷ []) c.next.new.self),
        omega (arith, before.6, length-append before.0 (move ∷ [])),
      );
}
