use Rattle.std.proofs.Common.{ap, sym, ◌∙◌, Some}
use Rattle.ps_word.specs.Readers.{as_text}
use Rattle.ps_word.proofs.Places.{content_in-at, as_text-other}
use Rattle.ps_word.proofs.words.Word.as_text.Goals as goal

pub returns-then-self-eq7 : goal.returns-then-self-eq7
returns-then-self-eq7 c = ap Some c.part.ensures ∙ ap as_text (sym (content_in-at c.args.self.0 7 c.if-self-eq7.true))

pub returns-else-self-eq7 : goal.returns-else-self-eq7
returns-else-self-eq7 c = as_text-other c.args.self.0 c.if-self-eq7.false
