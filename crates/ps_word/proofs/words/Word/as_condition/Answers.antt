use Rattle.std.proofs.Common.{ap, sym, ◌∙◌, Some}
use Rattle.ps_word.specs.Readers.{as_condition}
use Rattle.ps_word.proofs.Places.{content_in-at, as_condition-other}
use Rattle.ps_word.proofs.words.Word.as_condition.Goals as goal

pub returns-then-self-eq10 : goal.returns-then-self-eq10
returns-then-self-eq10 c = ap Some c.low_address.ensures
    ∙ ap as_condition (sym (content_in-at c.args.self.0 10 c.if-self-eq10.true))

pub returns-else-self-eq10 : goal.returns-else-self-eq10
returns-else-self-eq10 c = as_condition-other c.args.self.0 c.if-self-eq10.false
