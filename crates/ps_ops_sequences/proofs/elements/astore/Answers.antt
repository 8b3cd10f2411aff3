-- All elements of an array.
use Rattle.ps_ops_state.proofs.Alike.{came_acts}
use Rattle.ps_ops_state.proofs.Changing.{changes_acts}
use Rattle.ps_ops_sequences.proofs.ArrayPuts.{astore_unasked, astore_lasts}
use Rattle.ps_ops_sequences.proofs.elements.astore.Goals as goal

pub returns-clause-acts : goal.returns-clause-acts
returns-clause-acts g c = came_acts _ _ _ _ _ _ _ c.tried.ensures
    (changes_acts _ c.requires.good _ _ _ _ c.astore.ensures.keeps _ _ _ astore_unasked
    (λ store shown. astore_lasts _ _ store shown.shows _ c.requires.good.operands)
    c.astore.ensures.does c.astore.ensures.ready c.astore.ensures.spends)
