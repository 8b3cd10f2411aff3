use Rattle.std.proofs.Common.{ap, sym, ◌∙◌, Some}
use Rattle.ps_word.specs.Readers.{as_lock}
use Rattle.ps_word.proofs.Places.{content_in-at, as_lock-other}
use Rattle.ps_word.proofs.words.Word.as_lock.Goals as goal

pub returns-then-self-eq9 : goal.returns-then-self-eq9
returns-then-self-eq9 c = ap Some c.low_address.ensures
    ∙ ap as_lock (sym (content_in-at c.args.self.0 9 c.if-self-eq9.true))

pub returns-else-self-eq9 : goal.returns-else-self-eq9
returns-else-self-eq9 c = as_lock-other c.args.self.0 c.if-self-eq9.false
