-- A turn that goes on is a step more, and by an exit its loop is left.
use Rattle.std.proofs.Common.{◌≡◌, ◌+◌, List, drop, Result, Ok, refl, sym, ap, subst, ◌∙◌, arith, rules}
use Rattle.std.proofs.lemmas.Bool.{true≢false}
use Rattle.ps_ops_operands.specs.declared.failure.NotMade.{NotMade as Reason}
use Rattle.ps_ops_control.specs.declared.frames.Frame.{Frame}
use Rattle.ps_ops_control.specs.declared.frames.Cause.TheVariants.{Exit}
use Rattle.ps_ops_control.specs.Turns.{frames_to_loop}
use Rattle.ps_ops_control.proofs.ToLoop.{found_within, no_more}
use Rattle.ps_step_outcome.specs.declared.turned.Turned.{Turned}
use Rattle.ps_step_outcome.specs.declared.turned.Turned.TheVariants.{Goes, Breaks}
use Rattle.ps_step_interpreter.specs.Makes.{TurnsBehind}
use Rattle.ps_step_interpreter.specs.OwnSteps.{HasRun}
use Rattle.ps_step.specs.Steps.{own_asks}
use Rattle.ps_step.proofs.Ahead.{goes_behind}
use Rattle.ps_step.proofs.Leaving.{exit_behind, still_behind}
use Rattle.ps_step.proofs.runs.with_turn.Goals as goal

pub returns-in-Ok-Goes-clause-runs : goal.returns-in-Ok-Goes-clause-runs
returns-in-Ok-Goes-clause-runs c = λ asks slot old new behind same.
    let is : c.args.turn ≡ Ok Goes = c.in-Ok-Goes.is ∙ ap Ok
    (rw c.in-Ok-Goes.is at c.in-Ok-Goes.field-0-is) in
    subst (λ (frames : List Frame). HasRun (c.args.made + 1) old
    (record new { frames = frames })) same
    (goes_behind asks slot c.args.made old new
    (subst (λ (turn : Result Turned Reason). TurnsBehind (own_asks asks) slot c.args.made turn old
    new) is behind))

pub discard-requires : goal.discard-requires
discard-requires c = (
  search rules,
  found_within c.args.frames.now c.in-Some.count
      (no_more _ (frames_to_loop c.args.frames.now) c.in-Some.count c.in-Some.ensures).1,
)

pub returns-in-Some-clause-runs : goal.returns-in-Some-clause-runs
returns-in-Some-clause-runs c = λ asks slot old new behind same.
    let it = c.in-Ok-Breaks-Exit in
    let one : it.field-0 ≡ Breaks it.field-0-0 = rw it.is at it.field-0-is in
    let two : it.field-0-0 ≡ Exit = rw (it.is, one) at it.field-0-0-is in
    let is : c.args.turn ≡ Ok (Breaks Exit) = it.is ∙ ap Ok (one ∙ ap Breaks two) in
    let left : HasRun (c.args.made + 1 + c.in-Some.count) old
    (record new { frames = drop c.in-Some.count new.frames }) =
    exit_behind asks slot c.args.made old new
    (subst (λ (turn : Result Turned Reason). TurnsBehind (own_asks asks) slot c.args.made turn old
    new) is behind) c.in-Some.count
    (ap (λ (fs : List Frame). frames_to_loop fs) same
    ∙ (no_more _ (frames_to_loop c.args.frames.now) c.in-Some.count c.in-Some.ensures).1) in
    subst (λ (fs : List Frame). HasRun (c.args.made + 1 + c.in-Some.count) old
    (record new { frames = fs }))
    (ap (drop c.in-Some.count) same ∙ sym c.discard.ensures) left

pub returns-in-None-clause-runs : goal.returns-in-None-clause-runs
returns-in-None-clause-runs c = λ asks slot old new behind same.
    still_behind asks slot c.args.made c.args.turn old new c.args.frames.now behind same

pub returns-in_default : goal.returns-in_default
returns-in_default c = record {
  within = omega (arith, c.requires.few);
  behind = λ some. refl;
  more = λ none. absurd (true≢false none);
  runs = λ asks slot old new behind same.
      still_behind asks slot c.args.made c.args.turn old new c.args.frames.now behind same;
}

pub returns-in_default-2-clause-runs : goal.returns-in_default-2-clause-runs
returns-in_default-2-clause-runs c = λ asks slot old new behind same.
    still_behind asks slot c.args.made c.args.turn old new c.args.frames.now behind same

pub returns-in_default-3-clause-runs : goal.returns-in_default-3-clause-runs
returns-in_default-3-clause-runs c = λ asks slot old new behind same.
    still_behind asks slot c.args.made c.args.turn old new c.args.frames.now behind same
