use Rattle.std.proofs.Common.{ap, sym, ◌∙◌, Some}
use Rattle.ps_word.specs.Readers.{as_array}
use Rattle.ps_word.proofs.Places.{content_in-at, as_array-other}
use Rattle.ps_word.proofs.words.Word.as_array.Goals as goal

pub returns-then-self-eq6 : goal.returns-then-self-eq6
returns-then-self-eq6 c = ap Some c.part.ensures ∙ ap as_array (sym (content_in-at c.args.self.0 6 c.if-self-eq6.true))

pub returns-else-self-eq6 : goal.returns-else-self-eq6
returns-else-self-eq6 c = as_array-other c.args.self.0 c.if-self-eq6.false
