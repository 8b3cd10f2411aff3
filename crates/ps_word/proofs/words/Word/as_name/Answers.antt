use Rattle.std.proofs.Common.{ap, sym}
use Rattle.ps_word.specs.Readers.{as_name}
use Rattle.ps_word.proofs.Places.{content_in-at, as_name-other}
use Rattle.ps_word.proofs.words.Word.as_name.Goals as goal

pub returns-then-self-eq4 : goal.returns-then-self-eq4
returns-then-self-eq4 c = ap as_name (sym (content_in-at c.args.self.0 4 c.if-self-eq4.true))

pub returns-else-self-eq4 : goal.returns-else-self-eq4
returns-else-self-eq4 c = as_name-other c.args.self.0 c.if-self-eq4.false
