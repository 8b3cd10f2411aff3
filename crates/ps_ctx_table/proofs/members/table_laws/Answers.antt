use Rattle.ps_ctx_table.proofs.Holding.{contexts_in-length, contexts_in-count, contexts_in-found, contexts_in-more}
use Rattle.ps_ctx_table.proofs.Holding.{contexts_in-changed}
use Rattle.ps_ctx_table.proofs.members.table_laws.Goals as goal

pub returns-clause-made : goal.returns-clause-made
returns-clause-made c = contexts_in-length

pub returns-clause-left : goal.returns-clause-left
returns-clause-left c = contexts_in-count

pub returns-clause-found : goal.returns-clause-found
returns-clause-found c = contexts_in-found

pub returns-clause-more : goal.returns-clause-more
returns-clause-more c = contexts_in-more

pub returns-clause-changed : goal.returns-clause-changed
returns-clause-changed c = contexts_in-changed
