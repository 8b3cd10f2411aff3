use Rattle.std.proofs.Common.{ap, ◌∙◌, ℕ, ◌+◌, ◌*◌, ◌/◌, ◌%◌, ◌^◌, sym, subst}
use Rattle.ps_word.specs.Format.{value_in, IsWord}
use Rattle.ps_word.proofs.Packing.{bool_byte-bit}
use Rattle.ps_word.proofs.Changes.{value_in-with_executable, IsWord-with_executable}
use Rattle.ps_word.proofs.words.Word.with_executable.Goals as goal

pub returns-clause-value : goal.returns-clause-value
returns-clause-value c =
    ap (λ (b : ℕ). value_in ((c.args.self.0 / 2 ^ 60) * 2 ^ 60 + b * 2 ^ 59 + c.args.self.0 % 2 ^ 59))
    (bool_byte-bit c.args.executable) ∙ value_in-with_executable c.args.self.0 c.args.executable

pub returns-clause-word : goal.returns-clause-word
returns-clause-word c =
    λ word literal. subst (λ (b : ℕ). IsWord ((c.args.self.0 / 2 ^ 60) * 2 ^ 60 + b * 2 ^ 59 + c.args.self.0 % 2 ^ 59))
    (sym (bool_byte-bit c.args.executable)) (IsWord-with_executable c.args.self.0 c.args.executable word literal)
