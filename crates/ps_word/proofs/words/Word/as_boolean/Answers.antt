use Rattle.std.proofs.Common.{ap, sym}
use Rattle.ps_word.specs.Readers.{as_boolean}
use Rattle.ps_word.proofs.Places.{content_in-at, as_boolean-other}
use Rattle.ps_word.proofs.words.Word.as_boolean.Goals as goal

pub returns-then-self-eq2 : goal.returns-then-self-eq2
returns-then-self-eq2 c = ap as_boolean (sym (content_in-at c.args.self.0 2 c.if-self-eq2.true))

pub returns-else-self-eq2 : goal.returns-else-self-eq2
returns-else-self-eq2 c = as_boolean-other c.args.self.0 c.if-self-eq2.false
