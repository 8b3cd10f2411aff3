use Rattle.ps_ctx_readers.proofs.values.word_in.Goals as goal

pub returns-in-ErrorName-clause-value : goal.returns-in-ErrorName-clause-value
returns-in-ErrorName-clause-value g c =
    rw c.in-ErrorName.is (λ s are met shows first.
    c.last_error.ensures.name c.args.names.now s met are.different shows)

pub returns-in-ErrorCommand-clause-value : goal.returns-in-ErrorCommand-clause-value
returns-in-ErrorCommand-clause-value g c =
    rw c.in-ErrorCommand.is (λ s are met shows first.
    c.last_error-in-ErrorCommand.ensures.command c.args.names.now s met are.different shows)
