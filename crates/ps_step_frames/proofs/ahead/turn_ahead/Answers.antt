-- Each loop by its own turn, and a procedure that waits.
use Rattle.std.proofs.Common.{◌+◌, ◌<◌, ◌≤◌, arith, drop, length, refl, sym}
use Rattle.std.proofs.lemmas.Bool.Decides.{nat_tests}
use Rattle.std.proofs.lemmas.List.{length-drop}
use Rattle.ps_language.specs.declared.operators.Operator.TheVariants.{Repeat, Loop, For, Forall}
use Rattle.ps_ops_control.proofs.Loops.{forall_ends}
use Rattle.ps_word.proofs.Reading.{enterable}
use Rattle.ps_ops_operands.proofs.Operands.{first_split}
use Rattle.ps_ops_state.specs.Lent.{Lent, lent}
use Rattle.ps_ops_state.proofs.Lifts.{ready}
use Rattle.ps_step_frames.proofs.GoingAhead.{ahead, goes_so, left_so, same_left, waits_ahead}
use Rattle.ps_step_frames.proofs.ahead.turn_ahead.Goals as goal

pub returns-in-Repeat-clause-goes : goal.returns-in-Repeat-clause-goes
returns-in-Repeat-clause-goes g c =
    ahead _ c.requires.good Repeat c.args.top _ c.in-Repeat.is c.requires.top (λ asks s. refl)
    c.repeat_ahead.result _ _ (c.repeat_ahead.ensures.turns _ _ (ready c.requires.good))

pub returns-in-Repeat-clause-left : goal.returns-in-Repeat-clause-left
returns-in-Repeat-clause-left g c =
    let l : Lent = lent (g.M.Memory.heap c.args.memory.now) (g.M.Memory.grants c.args.memory.now)
    c.args.context.now c.args.shared.now in
    left_so l c.repeat_ahead.result l.operands _ (same_left l.operands c.repeat_ahead.result)
    c.repeat_ahead.ensures.frames

pub returns-in-Loop-clause-goes : goal.returns-in-Loop-clause-goes
returns-in-Loop-clause-goes g c =
    ahead _ c.requires.good Loop c.args.top _ c.in-Loop.is c.requires.top (λ asks s. refl)
    c.loop_ahead.result _ _ (c.loop_ahead.ensures.turns _ _ (ready c.requires.good))

pub returns-in-Loop-clause-left : goal.returns-in-Loop-clause-left
returns-in-Loop-clause-left g c =
    let l : Lent = lent (g.M.Memory.heap c.args.memory.now) (g.M.Memory.grants c.args.memory.now)
    c.args.context.now c.args.shared.now in
    same_left l c.loop_ahead.result

pub returns-in-For-clause-goes : goal.returns-in-For-clause-goes
returns-in-For-clause-goes g c =
    ahead _ c.requires.good For c.args.top _ c.in-For.is c.requires.top (λ asks s. refl)
    c.for_ahead.result _ _ (c.for_ahead.ensures.turns _ _ (ready c.requires.good))

pub returns-in-For-clause-left : goal.returns-in-For-clause-left
returns-in-For-clause-left g c =
    let l : Lent = lent (g.M.Memory.heap c.args.memory.now) (g.M.Memory.grants c.args.memory.now)
    c.args.context.now c.args.shared.now in
    left_so l c.for_ahead.result _ _ c.for_ahead.ensures.operands c.for_ahead.ensures.frames

pub returns-in-None-clause-goes : goal.returns-in-None-clause-goes
returns-in-None-clause-goes g c =
    let l : Lent = lent (g.M.Memory.heap c.args.memory.now) (g.M.Memory.grants c.args.memory.now)
    c.args.context.now c.args.shared.now in
    λ asks.
    rw c.drop_top.ensures.frames
    (goes_so l c.requires.good Forall c.args.top _ c.in-Forall.is c.requires.top (λ asks s. refl)
    l.operands (drop 1 l.frames)
    (forall_ends l.heap _ l.operands l.frames (ready c.requires.good) c.in-Forall.over
    c.in-Forall.at c.in-Forall.body
    (sym (rw c.in-Forall.is at c.requires.top)) c.in-None.ensures.pushed) asks)

pub returns-in-Some-clause-goes : goal.returns-in-Some-clause-goes
returns-in-Some-clause-goes g c =
    ahead _ c.requires.good Forall c.args.top _ c.in-Forall.is c.requires.top (λ asks s. refl)
    c.forall_ahead.result _ _
    (c.forall_ahead.ensures.turns _ _ (ready c.requires.good) c.in-Some.ensures.pushed)

pub returns-in-Some-clause-left : goal.returns-in-Some-clause-left
returns-in-Some-clause-left g c =
    let l : Lent = lent (g.M.Memory.heap c.args.memory.now) (g.M.Memory.grants c.args.memory.now)
    c.args.context.now c.args.shared.now in
    left_so l c.forall_ahead.result _ _ c.forall_ahead.ensures.operands
    c.forall_ahead.ensures.frames

pub returns-else-is_full-clause-goes : goal.returns-else-is_full-clause-goes
returns-else-is_full-clause-goes g c =
    let l : Lent = lent (g.M.Memory.heap c.args.memory.now) (g.M.Memory.grants c.args.memory.now)
    c.args.context.now c.args.shared.now in
    let read = enterable _ _ _ c.in-Some-as_enterable.ensures in
    let few : length l.frames < 250 =
    grind (arith, nat_tests, c.is_full.ensures, c.if-is_full.false) in
    let room : 1 + length (drop 1 l.frames) ≤ 250 = omega (arith, few, length-drop 1 l.frames) in
    λ asks. rw c.drop_top-in-Pending.ensures.frames
    (waits_ahead l c.requires.good c.in-Pending.word
    (first_split _ _ (rw c.in-Pending.is at (sym c.requires.top))) read.flag
    c.in-Some-as_enterable.body read.array read.may asks c.enter_ahead.result
    c.enter_ahead.ensures room)
