-- By the name that was met, if one was.
use Rattle.std.proofs.Common.{◌∙◌}
use Rattle.ps_ops_values.proofs.Equating.{name_held, met_equal, unmet_equal}
use Rattle.ps_ops_values.proofs.equality.is_its_name.Goals as goal

pub is_same_key-requires-clause-right : goal.is_same_key-requires-clause-right
is_same_key-requires-clause-right g c =
    (name_held (g.M.Memory.heap c.args.memory.now) _ _ _ c.read_key.ensures.key _
    c.in-Some.ensures).word

pub returns-in-Some-clause-value : goal.returns-in-Some-clause-value
returns-in-Some-clause-value g c = λ s shows within inside.
    c.is_same_key.ensures
    ∙ met_equal (g.M.Memory.heap c.args.memory.now) _ _ c.requires.sound c.args.plain
    c.requires.plain c.requires.other s shows c.requires.names.different within inside _ c.read_key.ensures.key _
    c.in-Some.ensures

pub returns-in-None-clause-value : goal.returns-in-None-clause-value
returns-in-None-clause-value g c = λ s shows within inside.
    unmet_equal (g.M.Memory.heap c.args.memory.now) _ _ c.requires.sound c.args.plain
    c.requires.plain c.requires.other s shows c.requires.names.different within inside _ c.read_key.ensures.key
    c.in-None.ensures
