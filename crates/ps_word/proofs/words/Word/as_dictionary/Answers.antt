use Rattle.std.proofs.Common.{ap, sym, ◌∙◌, Some}
use Rattle.ps_word.specs.Readers.{as_dictionary}
use Rattle.ps_word.proofs.Places.{content_in-at, as_dictionary-other}
use Rattle.ps_word.proofs.words.Word.as_dictionary.Goals as goal

pub returns-then-self-eq8 : goal.returns-then-self-eq8
returns-then-self-eq8 c = ap Some c.low_address.ensures
    ∙ ap as_dictionary (sym (content_in-at c.args.self.0 8 c.if-self-eq8.true))

pub returns-else-self-eq8 : goal.returns-else-self-eq8
returns-else-self-eq8 c = as_dictionary-other c.args.self.0 c.if-self-eq8.false
