use Rattle.ps_states.proofs.statuses.waiting_line.Goals as goal

pub returns-in-Retaking-clause-line : goal.returns-in-Retaking-clause-line
returns-in-Retaking-clause-line g c = λ names s shows.
    let told = c.owner_or_none.ensures.owner in
    let owner = rw c.birth_of-in-Retaking.ensures.heap at told in
    let is = owner names s shows in
    cc (is, c.birth_of-in-Retaking.ensures.birth, c.in-Retaking.is)
