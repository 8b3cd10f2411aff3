-- Element after element, procedure after procedure.
use Rattle.std.proofs.Common.{◌≡◌, ℕ, ◌+◌, ◌-◌, ◌<◌, ◌≤◌, List, ◌∷◌, arith, refl, sym, ap, subst, drop, length, ◌∙◌}
use Rattle.std.proofs.lemmas.List.{length-drop}
use Rattle.ps_ops_control.specs.declared.frames.Frame.{Frame}
use Rattle.ps_ops_control.specs.declared.frames.Frame.TheVariants.{Procedure}
use Rattle.ps_ops_operands.proofs.Operands.{first_split}
use Rattle.ps_ops_state.specs.Lent.{Lent, IsGood, lent_of}
use Rattle.ps_step_frames.specs.Steps.{above, frames_after, part_behind, with_frames}
use Rattle.ps_step_interpreter.specs.OwnSteps.{HasRun}
use Rattle.ps_step_interpreter.proofs.Running.{run_none}
use Rattle.ps_step.specs.Elements.{DoesTo}
use Rattle.ps_step.proofs.Ahead.{all_taken, done_above, done_to, element_first, entered_to, left_behind, none_taken}
use Rattle.ps_step.proofs.Ahead.{procedure_top, then_taken, turned_above}
use Rattle.ps_step.proofs.Behind.{step_behind, told_behind}
use Rattle.ps_step.proofs.procedures.run_entered.Goals as goal

pub loop-end-init : goal.loop-end-init
loop-end-init g c =
    let start : Lent = above c.args.entered (lent_of g.M.Memory.heap g.M.Memory.grants c.args.context.now c.args.runtime.now) in
    let some : 1 ≤ c.args.entered.length = c.requires.good.frames.0.1 in
    let none : 0 ≡ c.args.most - c.args.most = omega arith in
    record {
      few = omega arith;
      within = omega (arith, c.least-end.ensures);
      part = omega (arith, c.least-end.ensures);
      room = omega (arith, c.requires.room);
      ahead = λ any. c.requires.room;
      some = λ any. omega (arith, any, some, c.least-end.ensures);
      makes = subst (λ (n : ℕ). HasRun n start (with_frames
          (frames_after 0 c.args.entered c.args.context.now.frames) start)) none
          (subst (λ (frames : List Frame). HasRun 0 start (with_frames frames start))
          (sym (none_taken c.args.entered c.args.context.now.frames some))
          (run_none start c.requires.good));
    }

pub do_first-done-requires-clause-good : goal.do_first-done-requires-clause-good
do_first-done-requires-clause-good g c =
    let l : Lent = lent_of g.M.Memory.heap g.M.Memory.grants c.loop-end.context c.loop-end.runtime in
    (l, l.frames, c.loop-end.invariant.makes.good)

pub do_first-done-requires-clause-part : goal.do_first-done-requires-clause-part
do_first-done-requires-clause-part g c =
    let l : Lent = lent_of g.M.Memory.heap g.M.Memory.grants c.loop-end.context c.loop-end.runtime in
    let known = c.loop-end.invariant in
    let some : 1 ≤ c.loop-end.rest.length = omega (arith, c.loop-end-test.true, known.part) in
    (subst (λ (frames : List Frame). IsGood (with_frames frames l))
    (none_taken c.loop-end.rest l.frames some) known.makes.good).frames.0.0

pub loop-end-preserved-in_default : goal.loop-end-preserved-in_default
loop-end-preserved-in_default g c =
    let start : Lent = above c.args.entered (lent_of g.M.Memory.heap g.M.Memory.grants c.args.context.now c.args.runtime.now) in
    let l : Lent = lent_of g.M.Memory.heap g.M.Memory.grants c.loop-end.context c.loop-end.runtime in
    let known = c.loop-end.invariant in
    let rest = c.loop-end.rest in
    let end = c.loop-end.end in
    let some : 1 ≤ end = omega (arith, c.loop-end-test.true) in
    record {
      few = omega (arith, known.few);
      within = omega arith;
      part = omega arith;
      room = known.room;
      ahead = λ any. absurd (omega (arith, any));
      some = λ any. omega (arith, some, known.within, known.few);
      makes = rw (c.do_first-done.ensures.heap, c.do_first-done.ensures.grants, c.left_of-rest.ensures)
          (left_behind start l rest c.args.most c.loop-end.left end c.do_first-done.new.operands
          known.few known.within
          (done_to start l rest (c.args.most - c.loop-end.left) end c.do_first-done.new.operands
          known.makes (subst (λ (n : ℕ). DoesTo l.heap l.dictionaries rest n l.operands
          c.do_first-done.new.operands) (rw c.in-Done.is at c.do_first-done.ensures.behind)
          (rw c.in-Done.is at c.do_first-done.ensures.does))));
    }

pub loop-end-preserved-else-rest-eq0 : goal.loop-end-preserved-else-rest-eq0
loop-end-preserved-else-rest-eq0 g c =
    let start : Lent = above c.args.entered (lent_of g.M.Memory.heap g.M.Memory.grants c.args.context.now c.args.runtime.now) in
    let l : Lent = lent_of g.M.Memory.heap g.M.Memory.grants c.loop-end.context c.loop-end.runtime in
    let known = c.loop-end.invariant in
    let rest = c.loop-end.rest in
    let end = c.loop-end.end in
    let some : 1 ≤ end = omega (arith, c.loop-end-test.true) in
    record {
      few = omega (arith, known.few);
      within = omega arith;
      part = omega arith;
      room = known.room;
      ahead = λ any. absurd (omega (arith, any));
      some = λ any. omega (arith, some, known.within, known.few);
      makes = rw (c.do_first-done.ensures.heap, c.do_first-done.ensures.grants, c.left_of-rest.ensures)
          (left_behind start l rest c.args.most c.loop-end.left end c.do_first-done.new.operands
          known.few known.within
          (done_to start l rest (c.args.most - c.loop-end.left) end c.do_first-done.new.operands
          known.makes (subst (λ (n : ℕ). DoesTo l.heap l.dictionaries rest n l.operands
          c.do_first-done.new.operands) (rw c.in-Done.is at c.do_first-done.ensures.behind)
          (rw c.in-Done.is at c.do_first-done.ensures.does))));
    }

pub loop-end-preserved-in-Some : goal.loop-end-preserved-in-Some
loop-end-preserved-in-Some g c =
    let start : Lent = above c.args.entered (lent_of g.M.Memory.heap g.M.Memory.grants c.args.context.now c.args.runtime.now) in
    let l : Lent = lent_of g.M.Memory.heap g.M.Memory.grants c.loop-end.context c.loop-end.runtime in
    let now : Lent = record l { operands = c.do_first-done.new.operands } in
    let known = c.loop-end.invariant in
    let rest = c.loop-end.rest in
    let end = c.loop-end.end in
    let below = c.in-Some.below in
    let some : 1 ≤ end = omega (arith, c.loop-end-test.true) in
    let all : end ≡ rest.length =
    omega (arith, known.part, rw c.left_of-rest.ensures at c.if-rest-eq0.true) in
    let made = (c.args.most - c.loop-end.left) + end in
    let makes : HasRun made start (with_frames (Procedure below ∷ drop 1 l.frames) now) =
    subst (λ (frames : List Frame). HasRun made start (with_frames frames now))
    (all_taken rest l.frames end all
    ∙ first_split l.frames (Procedure below) (procedure_top _ below c.in-Some.ensures))
    (done_to start l rest (c.args.most - c.loop-end.left) end c.do_first-done.new.operands known.makes
    (subst (λ (n : ℕ). DoesTo l.heap l.dictionaries rest n l.operands
    c.do_first-done.new.operands) (rw c.in-Done.is at c.do_first-done.ensures.behind)
    (rw c.in-Done.is at c.do_first-done.ensures.does))) in
    let shorter = length-drop 1 l.frames in
    let count : made ≡ c.args.most - (c.loop-end.left - end) =
    omega (arith, known.within, known.few) in
    record {
      few = omega (arith, known.few);
      within = omega (arith, c.least-end-in-Some.ensures);
      part = omega (arith, c.least-end-in-Some.ensures);
      room = rw c.drop_top.ensures.frames (omega (arith, shorter, known.room));
      ahead = λ any. rw c.drop_top.ensures.frames (omega (arith, shorter, known.ahead some));
      some = λ any. omega (arith, some, known.within, known.few);
      makes = rw (c.do_first-done.ensures.heap, c.do_first-done.ensures.grants, c.drop_top.ensures.frames)
          (subst (λ (n : ℕ). HasRun n start
          (with_frames (frames_after 0 below (drop 1 l.frames)) now)) count
          (subst (λ (frames : List Frame). HasRun made start (with_frames frames now))
          (sym (none_taken below (drop 1 l.frames) makes.good.frames.0.1)) makes));
    }

pub do_known-known-requires-clause-good : goal.do_known-known-requires-clause-good
do_known-known-requires-clause-good g c =
    let start : Lent = above c.args.entered (lent_of g.M.Memory.heap g.M.Memory.grants c.args.context.now c.args.runtime.now) in
    let l : Lent = lent_of g.M.Memory.heap g.M.Memory.grants c.loop-end.context c.loop-end.runtime in
    let known = c.loop-end.invariant in
    let behind = rw c.in-Treats.is at c.do_first-done.ensures.behind in
    let some : c.do_first-done.result.0 < c.loop-end.rest.length = omega (arith, behind, known.part) in
    let makes = done_above start l c.loop-end.rest (c.args.most - c.loop-end.left)
    c.do_first-done.result.0 c.do_first-done.new.operands known.makes some
    (rw c.in-Treats.is at c.do_first-done.ensures.does).0 in
    rw (c.do_first-done.ensures.heap, c.do_first-done.ensures.grants, c.left_of-behind.ensures) makes.good

pub do_known-known-requires-clause-first : goal.do_known-known-requires-clause-first
do_known-known-requires-clause-first g c =
    rw (c.do_first-done.ensures.heap, c.left_of-behind.ensures)
    (element_first g.O.Operate.asks (g.M.Memory.heap c.loop-end.runtime.memory)
    c.loop-end.context.dictionaries c.loop-end.rest c.do_first-done.result.0 c.in-Treats.element
    (rw c.in-Treats.is at c.do_first-done.ensures.does).1)

pub returns-then-is_some-clause-runs : goal.returns-then-is_some-clause-runs
returns-then-is_some-clause-runs g c =
    let start : Lent = above c.args.entered (lent_of g.M.Memory.heap g.M.Memory.grants c.args.context.now c.args.runtime.now) in
    let l : Lent = lent_of g.M.Memory.heap g.M.Memory.grants c.loop-end.context c.loop-end.runtime in
    let now : Lent = record l { operands = c.do_first-done.new.operands } in
    let known = c.loop-end.invariant in
    let behind = rw c.in-Treats.is at c.do_first-done.ensures.behind in
    let some : c.do_first-done.result.0 < c.loop-end.rest.length = omega (arith, behind, known.part) in
    told_behind g.O.Operate.asks c.args.slot
    ((c.args.most - c.loop-end.left) + c.do_first-done.result.0) start now _
    (part_behind c.do_first-done.result.0 c.loop-end.rest)
    (done_above start l c.loop-end.rest (c.args.most - c.loop-end.left)
    c.do_first-done.result.0 c.do_first-done.new.operands known.makes some
    (rw c.in-Treats.is at c.do_first-done.ensures.does).0) c.do_known-known.result
    (sym c.is_some.ensures ∙ c.if-is_some.true)
    (rw (c.do_first-done.ensures.heap, c.do_first-done.ensures.grants, c.left_of-behind.ensures)
    at c.do_known-known.ensures)

pub pushed_turn-turn-requires-clause-good : goal.pushed_turn-turn-requires-clause-good
pushed_turn-turn-requires-clause-good g c =
    let start : Lent = above c.args.entered (lent_of g.M.Memory.heap g.M.Memory.grants c.args.context.now c.args.runtime.now) in
    let l : Lent = lent_of g.M.Memory.heap g.M.Memory.grants c.loop-end.context c.loop-end.runtime in
    let known = c.loop-end.invariant in
    let behind = rw c.in-Slow.is at c.do_first-done.ensures.behind in
    let some : c.do_first-done.result.0 < c.loop-end.rest.length = omega (arith, behind, known.part) in
    let makes = done_above start l c.loop-end.rest (c.args.most - c.loop-end.left)
    c.do_first-done.result.0 c.do_first-done.new.operands known.makes some
    (rw c.in-Slow.is at c.do_first-done.ensures.does) in
    rw (c.do_first-done.ensures.heap, c.do_first-done.ensures.grants, c.left_of-behind-in-Slow.ensures)
    makes.good

pub returns-in-Slow-clause-runs : goal.returns-in-Slow-clause-runs
returns-in-Slow-clause-runs g c =
    let start : Lent = above c.args.entered (lent_of g.M.Memory.heap g.M.Memory.grants c.args.context.now c.args.runtime.now) in
    let l : Lent = lent_of g.M.Memory.heap g.M.Memory.grants c.loop-end.context c.loop-end.runtime in
    let now : Lent = record l { operands = c.do_first-done.new.operands } in
    let known = c.loop-end.invariant in
    let behind = rw c.in-Slow.is at c.do_first-done.ensures.behind in
    let some : c.do_first-done.result.0 < c.loop-end.rest.length = omega (arith, behind, known.part) in
    turned_above g.O.Operate.asks start now (part_behind c.do_first-done.result.0 c.loop-end.rest)
    ((c.args.most - c.loop-end.left) + c.do_first-done.result.0)
    (done_above start l c.loop-end.rest (c.args.most - c.loop-end.left)
    c.do_first-done.result.0 c.do_first-done.new.operands known.makes some
    (rw c.in-Slow.is at c.do_first-done.ensures.does)) c.args.slot c.pushed_turn-turn.result _
    (rw (c.do_first-done.ensures.heap, c.do_first-done.ensures.grants, c.left_of-behind-in-Slow.ensures)
    at c.pushed_turn-turn.ensures)

pub loop-end-preserved : goal.loop-end-preserved
loop-end-preserved g c =
    let start : Lent = above c.args.entered (lent_of g.M.Memory.heap g.M.Memory.grants c.args.context.now c.args.runtime.now) in
    let l : Lent = lent_of g.M.Memory.heap g.M.Memory.grants c.loop-end.context c.loop-end.runtime in
    let now : Lent = record l { operands = c.do_first-done.new.operands } in
    let after : Lent = lent_of g.M.Memory.heap g.M.Memory.grants c.do_known-known.new.context c.do_known-known.new.runtime in
    let known = c.loop-end.invariant in
    let rest = c.loop-end.rest in
    let done = c.do_first-done.result.0 in
    let behind = rw c.in-Treats.is at c.do_first-done.ensures.behind in
    let some : done < rest.length = omega (arith, behind, known.part) in
    let came = step_behind g.O.Operate.asks c.args.slot
    ((c.args.most - c.loop-end.left) + done) start now after (part_behind done rest)
    (done_above start l rest (c.args.most - c.loop-end.left)
    done c.do_first-done.new.operands known.makes some
    (rw c.in-Treats.is at c.do_first-done.ensures.does).0) c.do_known-known.result
    (sym c.is_some.ensures ∙ c.if-is_some.false)
    (rw (c.do_first-done.ensures.heap, c.do_first-done.ensures.grants, c.left_of-behind.ensures)
    at c.do_known-known.ensures) in
    let made : ℕ = ((c.args.most - c.loop-end.left) + done) + 1 in
    let count : made ≡ c.args.most - (c.loop-end.left - (done + 1)) =
    omega (arith, behind, known.within, known.few) in
    record {
      few = omega (arith, known.few);
      within = omega (arith, known.within);
      part = rw (c.left_of-rest-in-Treats.ensures, c.left_of-behind.ensures)
          (omega (arith, known.part));
      room = rw came.0 known.room;
      ahead = λ any. rw came.0 (known.ahead (omega (arith, behind)));
      some = λ any. omega (arith, behind, known.within, known.few);
      makes = rw (c.left_of-rest-in-Treats.ensures, c.left_of-behind.ensures)
          (subst (λ (n : ℕ). HasRun n start (with_frames
          (frames_after 0 (part_behind 1 (part_behind done rest)) after.frames) after)) count
          (subst (λ (frames : List Frame). HasRun made start (with_frames frames after))
          (sym (then_taken (part_behind done rest) after.frames 1 0 1 refl)) came.1.0));
    }

pub loop-end-preserved-in-Enters : goal.loop-end-preserved-in-Enters
loop-end-preserved-in-Enters g c =
    let start : Lent = above c.args.entered (lent_of g.M.Memory.heap g.M.Memory.grants c.args.context.now c.args.runtime.now) in
    let l : Lent = lent_of g.M.Memory.heap g.M.Memory.grants c.loop-end.context c.loop-end.runtime in
    let known = c.loop-end.invariant in
    let rest = c.loop-end.rest in
    let done = c.do_first-done.result.0 in
    let body = c.in-Enters.body in
    let behind = rw c.in-Enters.is at c.do_first-done.ensures.behind in
    let room : 2 + length l.frames ≤ 250 = known.ahead (omega (arith, behind)) in
    let makes = entered_to start l rest (c.args.most - c.loop-end.left) done
    c.do_first-done.new.operands known.makes body room
    (rw c.in-Enters.is at c.do_first-done.ensures.does) in
    let now : Lent = record l { operands = c.do_first-done.new.operands } in
    let left : frames_after (done + 1) rest l.frames ≡ c.push_rest.new.frames =
    sym (rw c.left_of.ensures at c.push_rest.ensures.frames
    ∙ then_taken rest l.frames done 1 (done + 1) refl) in
    let frames : Procedure body ∷ frames_after (done + 1) rest l.frames
    ≡ frames_after 0 body c.push_rest.new.frames =
    ap (λ (fs : List Frame). Procedure body ∷ fs) left
    ∙ sym (none_taken body c.push_rest.new.frames makes.good.frames.0.1) in
    let count : (c.args.most - c.loop-end.left) + (done + 1)
    ≡ c.args.most - (c.loop-end.left - (done + 1)) =
    omega (arith, behind, known.within, known.few) in
    record {
      few = omega (arith, known.few);
      within = omega (arith, c.may_do-end.ensures.within);
      part = omega (arith, c.may_do-end.ensures.within);
      room = omega (arith, c.push_rest.ensures.room, room);
      ahead = c.may_do-end.ensures.room;
      some = λ any. omega (arith, any, behind, known.within, known.few);
      makes = rw (c.do_first-done.ensures.heap, c.do_first-done.ensures.grants)
          (subst (λ (n : ℕ). HasRun n start
          (with_frames (frames_after 0 body c.push_rest.new.frames) now)) count
          (subst (λ (fs : List Frame). HasRun ((c.args.most - c.loop-end.left) + (done + 1)) start
          (with_frames fs now)) frames makes));
    }
