-- The value that was found, or a null.
use Rattle.std.proofs.Common.{Ok, Some, true, sym, ap, ◌∙◌}
use Rattle.ps_language.specs.StepTokens.{value_or_null}
use Rattle.ps_ops_operands.proofs.Ready.{plain_value, plain_within}
use Rattle.ps_ops_types.proofs.First.{name_held}
use Rattle.ps_step_tokens.proofs.MissingTurns.{key_looks, found_inside}
use Rattle.ps_step_tokens.proofs.objects.value_word.Goals as goal

pub look_up-requires-clause-key : goal.look_up-requires-clause-key
look_up-requires-clause-key g c =
    let name = c.met_word-name.ensures.word in
    name_held c.met_word-name.result name.number true name.is _ name.word

pub returns-in-Ok-Some-clause-within : goal.returns-in-Ok-Some-clause-within
returns-in-Ok-Some-clause-within g c = λ s shows inside.
    found_inside (g.M.Memory.heap c.args.memory.now) c.args.names.now s c.look_up.result
    c.in-Ok-Some.found (c.in-Ok-Some.is ∙ ap Ok c.in-Ok-Some.field-0-is)
    (c.look_up.ensures.within _ s shows inside)

pub returns-in-Ok-Some-clause-value : goal.returns-in-Ok-Some-clause-value
returns-in-Ok-Some-clause-value g c = λ s shows.
    let name = c.met_word-name.ensures.word in
    sym (ap value_or_null (key_looks (g.M.Memory.heap c.args.memory.now) c.args.names.now
    c.args.dictionaries.now s c.args.text.now (Some c.met_word-name.result)
    (name.number, name.is, name.stands) c.look_up.result
    (λ k. c.look_up.ensures.value _ s k shows c.met_word-name.ensures.names.different) _
    (c.in-Ok-Some.is ∙ ap Ok c.in-Ok-Some.field-0-is)))

pub returns-in-Ok-None-clause-held : goal.returns-in-Ok-None-clause-held
returns-in-Ok-None-clause-held g c = plain_value _ _ c.null.ensures.plain

pub returns-in-Ok-None-clause-within : goal.returns-in-Ok-None-clause-within
returns-in-Ok-None-clause-within g c = λ s shows inside. plain_within _ _ s _ c.null.ensures.plain

pub returns-in-Ok-None-clause-value : goal.returns-in-Ok-None-clause-value
returns-in-Ok-None-clause-value g c = λ s shows.
    let name = c.met_word-name.ensures.word in
    c.null.ensures.value _ _
    ∙ sym (ap value_or_null (key_looks (g.M.Memory.heap c.args.memory.now) c.args.names.now
    c.args.dictionaries.now s c.args.text.now (Some c.met_word-name.result)
    (name.number, name.is, name.stands) c.look_up.result
    (λ k. c.look_up.ensures.value _ s k shows c.met_word-name.ensures.names.different) _
    (c.in-Ok-None.is ∙ ap Ok c.in-Ok-None.field-0-is)))

pub returns-in-Err-clause-held : goal.returns-in-Err-clause-held
returns-in-Err-clause-held g c = plain_value _ _ c.null-in-Err.ensures.plain

pub returns-in-Err-clause-within : goal.returns-in-Err-clause-within
returns-in-Err-clause-within g c =
    λ s shows inside. plain_within _ _ s _ c.null-in-Err.ensures.plain

pub returns-in-Err-clause-value : goal.returns-in-Err-clause-value
returns-in-Err-clause-value g c = λ s shows.
    let name = c.met_word-name.ensures.word in
    c.null-in-Err.ensures.value _ _
    ∙ sym (ap value_or_null (key_looks (g.M.Memory.heap c.args.memory.now) c.args.names.now
    c.args.dictionaries.now s c.args.text.now (Some c.met_word-name.result)
    (name.number, name.is, name.stands) c.look_up.result
    (λ k. c.look_up.ensures.value _ s k shows c.met_word-name.ensures.names.different) _
    c.in-Err.is))
