-- Known, unknown, or a dictionary on the way can't be read.
use Rattle.std.proofs.Common.{Ok, sym, ap, ◌∙◌}
use Rattle.ps_step_tokens.specs.Missing.{error_of}
use Rattle.ps_step_tokens.proofs.MissingTurns.{key_looks}
use Rattle.ps_step_tokens.proofs.missing.look_up_error.Goals as goal

pub look_up-requires-clause-key : goal.look_up-requires-clause-key
look_up-requires-clause-key g c = c.met_key-key.ensures.held _

pub returns-in-Ok-Some-clause-value : goal.returns-in-Ok-Some-clause-value
returns-in-Ok-Some-clause-value g c = λ s shows.
    sym (ap error_of (key_looks (g.M.Memory.heap c.args.memory.now) c.args.names.now c.args.dictionaries.now s
    c.args.text.now c.met_key-key.result c.met_key-key.ensures.key
    c.look_up.result (λ k. c.look_up.ensures.value _ s k shows c.met_key-key.ensures.names.different)
    _ (c.in-Ok-Some.is ∙ ap Ok c.in-Ok-Some.field-0-is)))

pub returns-in-Ok-None-clause-value : goal.returns-in-Ok-None-clause-value
returns-in-Ok-None-clause-value g c = λ s shows.
    sym (ap error_of (key_looks (g.M.Memory.heap c.args.memory.now) c.args.names.now c.args.dictionaries.now s
    c.args.text.now c.met_key-key.result c.met_key-key.ensures.key
    c.look_up.result (λ k. c.look_up.ensures.value _ s k shows c.met_key-key.ensures.names.different)
    _ (c.in-Ok-None.is ∙ ap Ok c.in-Ok-None.field-0-is)))

pub returns-in-Err-clause-value : goal.returns-in-Err-clause-value
returns-in-Err-clause-value g c = λ s shows.
    sym (ap error_of (key_looks (g.M.Memory.heap c.args.memory.now) c.args.names.now c.args.dictionaries.now s
    c.args.text.now c.met_key-key.result c.met_key-key.ensures.key
    c.look_up.result (λ k. c.look_up.ensures.value _ s k shows c.met_key-key.ensures.names.different)
    _ c.in-Err.is))
