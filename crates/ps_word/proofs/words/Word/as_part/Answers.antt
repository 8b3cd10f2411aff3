use Rattle.std.proofs.Common.{arith, ap, sym, ◌∙◌, Some}
use Rattle.ps_word.specs.Readers.{as_part}
use Rattle.ps_word.proofs.Places.{content_in-at, as_part-other}
use Rattle.ps_word.proofs.words.Word.as_part.Goals as goal

pub returns-in-6 : goal.returns-in-6
returns-in-6 c = ap Some c.part.ensures ∙ ap as_part (sym (content_in-at c.args.self.0 6 c.in-6.is))

pub returns-in-7 : goal.returns-in-7
returns-in-7 c = ap Some c.part-in-7.ensures ∙ ap as_part (sym (content_in-at c.args.self.0 7 c.in-7.is))

pub returns-in_default : goal.returns-in_default
returns-in_default c = as_part-other c.args.self.0 (omega arith) (omega arith)
