-- By what is made.
use Rattle.ps_ctx_operators.proofs.locks.make_single.Goals as goal

pub returns-in-Lock-clause-shows : goal.returns-in-Lock-clause-shows
returns-in-Lock-clause-shows g c = λ names s shows.
    rw c.in-Lock.is (c.make_lock.ensures.shows names s shows)

pub returns-in-Condition-clause-shows : goal.returns-in-Condition-clause-shows
returns-in-Condition-clause-shows g c = λ names s shows.
    rw c.in-Condition.is (c.make_condition.ensures.shows names s shows)
