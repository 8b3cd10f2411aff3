-- A name that was met.
use Rattle.ps_ops_types.proofs.First.{name_held}
use Rattle.ps_step_tokens.proofs.missing.met_key.Goals as goal
use Rattle.std.proofs.Common.{true, arith}

pub name_word-requires : goal.name_word-requires
name_word-requires c =
    let below = c.in-Some.ensures.within in
    let few = c.in-Some.ensures.names.few in
    omega (arith, below, few)

pub returns-in-Some-clause-held : goal.returns-in-Some-clause-held
returns-in-Some-clause-held c = λ h.
    name_held c.name_word.result c.in-Some.id.0 true c.name_word.ensures.value h
    c.name_word.ensures.word

pub returns-in-Some-clause-key : goal.returns-in-Some-clause-key
returns-in-Some-clause-key c =
    (c.in-Some.id.0, c.name_word.ensures.value, c.in-Some.ensures.stands)
