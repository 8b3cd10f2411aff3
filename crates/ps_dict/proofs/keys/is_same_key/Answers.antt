-- A string is the same as nothing; of all else the bits tell.
use Rattle.ps_dict.proofs.KeyLemmas.{of_string, of_other}
use Rattle.ps_dict.proofs.keys.is_same_key.Goals as goal

pub returns-then-right-eq-STRING : goal.returns-then-right-eq-STRING
returns-then-right-eq-STRING c =
    of_string c.args.left c.args.right c.requires.left c.requires.right c.if-right-eq-STRING.true

pub are_alike-requires-clause-other : goal.are_alike-requires-clause-other
are_alike-requires-clause-other c =
    of_other c.args.left c.args.right c.requires.left c.requires.right c.if-right-eq-STRING.false
