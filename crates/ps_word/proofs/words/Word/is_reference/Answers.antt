use Rattle.ps_word.proofs.Places.{address_of-above, address_of-below}
use Rattle.ps_word.proofs.words.Word.is_reference.Goals as goal

pub returns-then-number-ge6-clause-content : goal.returns-then-number-ge6-clause-content
returns-then-number-ge6-clause-content c = address_of-above c.args.self.0 c.if-number-ge6.true

pub returns-else-number-ge6-clause-content : goal.returns-else-number-ge6-clause-content
returns-else-number-ge6-clause-content c = address_of-below c.args.self.0 c.if-number-ge6.false
