use Rattle.std.proofs.Common.{ap, ◌∙◌, ℕ, ◌+◌, ◌*◌, ◌/◌, ◌%◌, ◌^◌, sym, subst}
use Rattle.ps_word.specs.Format.{value_in, IsWord}
use Rattle.ps_word.proofs.Changes.{value_in-with_access, IsWord-with_access}
use Rattle.ps_word.proofs.words.Word.with_access.Goals as goal

pub returns-clause-value : goal.returns-clause-value
returns-clause-value c =
    ap (λ (b : ℕ). value_in ((c.args.self.0 / 2 ^ 59) * 2 ^ 59 + b * 2 ^ 57 + c.args.self.0 % 2 ^ 57))
    c.access_number.ensures ∙ value_in-with_access c.args.self.0 c.requires.word c.args.access c.requires.part

pub returns-clause-word : goal.returns-clause-word
returns-clause-word c =
    subst (λ (b : ℕ). IsWord ((c.args.self.0 / 2 ^ 59) * 2 ^ 59 + b * 2 ^ 57 + c.args.self.0 % 2 ^ 57))
    (sym c.access_number.ensures) (IsWord-with_access c.args.self.0 c.requires.word c.args.access c.requires.part)
