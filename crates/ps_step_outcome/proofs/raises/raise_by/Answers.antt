-- The operator is a value in every memory, and within every store.
use Rattle.std.proofs.Common.{[], ◌∷◌, refl, ap}
use Rattle.ps_ops_state.specs.Lent.{Lent, scene_of, IsShown, lent_of}
use Rattle.ps_language.specs.StepValues.{errs}
use Rattle.ps_step_outcome.specs.Turns.{IsShownWith, error_turn, nothing_more, operator_error}
use Rattle.ps_step_outcome.proofs.Composing.{turns_over}
use Rattle.ps_step_outcome.proofs.raises.raise_by.Goals as goal

pub raise-requires-clause-held : goal.raise-requires-clause-held
raise-requires-clause-held g c = c.operator_command-command.ensures.held _

pub returns : goal.returns
returns g c =
    let l : Lent = lent_of g.M.Memory.heap g.M.Memory.grants c.args.context.now c.args.runtime.now in
    let command = c.operator_command-command in
    turns_over (IsShownWith (command.result ∷ []) []) IsShown nothing_more nothing_more
    (error_turn c.args.error command.result) (operator_error c.args.operator c.args.error)
    c.args.attempt _ l _
    (λ s shown. record {
      shown = shown;
      words_within = (command.ensures.within _ _ s, tt);
      frames_within = tt;
    })
    (λ s shown. ap (λ value. errs c.args.error value (scene_of l s)) (command.ensures.value _ _))
    (λ s shown. refl) c.raise.ensures
