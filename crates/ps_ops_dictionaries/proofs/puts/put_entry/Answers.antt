-- A key that is no string is itself.
use Rattle.ps_step_lookup.proofs.Keying.{plain_key_is}
use Rattle.ps_ops_dictionaries.proofs.puts.put_entry.Goals as goal

pub put_word-requires-clause-key : goal.put_word-requires-clause-key
put_word-requires-clause-key g c =
    plain_key_is _ _ _ c.requires.good.names c.requires.key c.in-None.ensures.part
