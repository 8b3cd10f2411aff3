use Rattle.ps_ctx.proofs.Asked.{asked-words, asked-births}
use Rattle.ps_ctx.proofs.laws.wanting_laws.Goals as goal

pub returns-clause-words : goal.returns-clause-words
returns-clause-words c = asked-words

pub returns-clause-births : goal.returns-clause-births
returns-clause-births c = asked-births
