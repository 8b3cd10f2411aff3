use Rattle.std.proofs.Common.{ap, sym, ◌∙◌, Some}
use Rattle.ps_word.specs.Readers.{as_operator}
use Rattle.ps_word.proofs.Places.{content_in-at, as_operator-other}
use Rattle.ps_word.proofs.words.Word.as_operator.Goals as goal

pub returns-then-self-eq5 : goal.returns-then-self-eq5
returns-then-self-eq5 c = ap Some c.operator_of.ensures
    ∙ ap as_operator (sym (content_in-at c.args.self.0 5 c.if-self-eq5.true))

pub returns-else-self-eq5 : goal.returns-else-self-eq5
returns-else-self-eq5 c = as_operator-other c.args.self.0 c.if-self-eq5.false
