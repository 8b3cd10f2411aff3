use Rattle.std.proofs.Common.{◌≡◌, ℕ, ◌+◌, ◌-◌, ◌*◌, slice_index_or, ◌%◌, ◌/◌, ◌^◌, arith, ap, sym, ◌∙◌, nat_eq}
use Rattle.std.proofs.lemmas.Bool.Decides.{nat_tests}
use Rattle.ps_word.specs.declared.values.Content.TheVariants.{Operator}
use Rattle.ps_language.specs.Operators.{every_operator}
use Rattle.ps_language.specs.declared.operators.Operator.TheVariants.{Pop}
use Rattle.ps_word.specs.Format.{executable_in}
use Rattle.ps_word.proofs.Places.{content_in-at, operator_below, as_operator-other}
use Rattle.ps_word.proofs.words.Word.executable_operator.Goals as goal

-- what the word has above the least of an executable operator
abbrev number_of : ℕ → ℕ
number_of w = (w + (2 ^ 64 - 11 * 2 ^ 59)) % 2 ^ 64

pub returns-then-number-clause-operator : goal.returns-then-number-clause-operator
unfolding executable_in
returns-then-number-clause-operator c =
    let w = c.args.self.0 in
    let number = c.if-number.true in
    let odd : (w / 2 ^ 59) % 2 ≡ 1 = omega (arith, number) in
    let five : w / 2 ^ 60 ≡ 5 = omega (arith, number) in
    let same : number_of w ≡ w % 2 ^ 8 = omega (arith, number) in
    let operator = c.operator_at.ensures ∙ ap (λ n. slice_index_or every_operator n Pop) same in
    (ap (λ n. nat_eq n 1) odd, content_in-at w 5 five ∙ ap Operator (sym operator))

pub returns-else-number-clause-other : goal.returns-else-number-clause-other
unfolding executable_in
returns-else-number-clause-other c = λ none may.
    let w = c.args.self.0 in
    let odd : (w / 2 ^ 59) % 2 ≡ 1 = grind (arith, nat_tests, may) in
    let below = operator_below w c.requires.word in
    sym (as_operator-other w λ five. omega (arith, c.if-number.false, five, odd, below five))
