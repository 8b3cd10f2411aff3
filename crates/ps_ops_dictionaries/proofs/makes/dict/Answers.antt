use Rattle.std.proofs.Common.{refl}
use Rattle.ps_ops_state.proofs.Changing.{makes_acts}
use Rattle.ps_ops_dictionaries.proofs.Making.{dict_made}
use Rattle.ps_ops_dictionaries.proofs.makes.dict.Goals as goal

pub returns : goal.returns
returns g c = rw (c.tried.ensures)
    (record {
      acts = makes_acts _ c.requires.good _ _ _ _ c.make_empty.ensures.keeps _ _ dict_made
          c.make_empty.ensures.does c.make_empty.ensures.ready c.make_empty.ensures.spends;
      frames = refl;
    })
