-- The access is stored.
use Rattle.ps_ops_sequences.proofs.reductions.reduce_dictionary.Goals as goal

pub returns-clause-shows : goal.returns-clause-shows
returns-clause-shows g c = λ names s shows.
    (rw c.permitted.ensures.heap at c.set_access.ensures.shows) names s shows
