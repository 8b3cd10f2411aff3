use Rattle.std.proofs.Common.{rules, w32}
use Rattle.std.specs.Prelude.{FitsSigned}
use Rattle.std.proofs.lemmas.Int.{to_z-of_z}
use Rattle.std.proofs.Common.{ap, sym, ◌∙◌, Some}
use Rattle.ps_word.specs.Readers.{as_integer}
use Rattle.ps_word.proofs.Places.{content_in-at, as_integer-other}
use Rattle.ps_word.proofs.words.Word.as_integer.Goals as goal

pub returns-then-self-eq1 : goal.returns-then-self-eq1
returns-then-self-eq1 c = let fits : FitsSigned w32 c.low_integer.result = search rules in
    ap Some (to_z-of_z w32 c.low_integer.result fits)
    ∙ (ap Some c.low_integer.ensures ∙ ap as_integer (sym (content_in-at c.args.self.0 1 c.if-self-eq1.true)))

pub returns-else-self-eq1 : goal.returns-else-self-eq1
returns-else-self-eq1 c = as_integer-other c.args.self.0 c.if-self-eq1.false
