use Rattle.std.proofs.Common.{ap, sym, ◌∙◌, Some}
use Rattle.ps_word.proofs.Places.{address_of-at}
use Rattle.ps_word.proofs.words.Word.address.Goals as goal

pub returns-then-is_reference : goal.returns-then-is_reference
returns-then-is_reference c = ap Some c.low_address.ensures
    ∙ address_of-at c.args.self.0 (sym c.is_reference.ensures.content ∙ c.if-is_reference.true)
