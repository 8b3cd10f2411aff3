-- A string is read, and nothing else.
use Rattle.ps_step_lookup.proofs.Keying.{text_key_is, plain_key_is}
use Rattle.ps_step_lookup.proofs.keys.read_key.Goals as goal

pub returns-in-Some-clause-key : goal.returns-in-Some-clause-key
returns-in-Some-clause-key g c =
    text_key_is _ _ _ _ c.requires.names c.in-Some.ensures.part c.in-Some.ensures.within _
    c.text_key.ensures.word c.text_key.ensures.key

pub returns-in-None-clause-key : goal.returns-in-None-clause-key
returns-in-None-clause-key g c =
    plain_key_is _ _ _ c.requires.names c.requires.held c.in-None.ensures.part
