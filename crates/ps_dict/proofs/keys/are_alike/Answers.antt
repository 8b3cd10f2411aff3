-- Where the second is no string, the bits tell.
use Rattle.ps_dict.proofs.KeyLemmas.{by_bits}
use Rattle.ps_dict.proofs.keys.are_alike.Goals as goal

pub returns : goal.returns
returns c =
    rw (c.bare.ensures, c.bare-2.ensures)
    (by_bits c.args.left c.args.right c.requires.left c.requires.right c.requires.visible c.requires.other)
