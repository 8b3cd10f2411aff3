use Rattle.std.proofs.Common.{rules, w32}
use Rattle.std.specs.Prelude.{FitsSigned}
use Rattle.std.proofs.lemmas.Int.{to_z-of_z}
use Rattle.std.proofs.Common.{ap, sym, ◌∙◌, arith}
use Rattle.ps_word.specs.declared.values.Content.TheVariants.{Integer, Operator, Array, Text, Dictionary, Lock}
use Rattle.ps_word.specs.declared.values.Content.TheVariants.{Condition, Body}
use Rattle.ps_word.proofs.Places.{content_in-at, null-at}
use Rattle.ps_word.proofs.words.Word.content.Goals as goal

pub returns-in-1 : goal.returns-in-1
returns-in-1 c = let fits : FitsSigned w32 c.low_integer.result = search rules in
    ap Integer (to_z-of_z w32 c.low_integer.result fits)
    ∙ (ap Integer c.low_integer.ensures ∙ sym (content_in-at c.args.self.0 1 c.in-1.is))

pub returns-in-2 : goal.returns-in-2
returns-in-2 c = sym (content_in-at c.args.self.0 2 c.in-2.is)

pub returns-in-3 : goal.returns-in-3
returns-in-3 c = sym (content_in-at c.args.self.0 3 c.in-3.is)

pub returns-in-4 : goal.returns-in-4
returns-in-4 c = sym (content_in-at c.args.self.0 4 c.in-4.is)

pub returns-in-5 : goal.returns-in-5
returns-in-5 c = ap Operator c.operator_of.ensures ∙ sym (content_in-at c.args.self.0 5 c.in-5.is)

pub returns-in-6 : goal.returns-in-6
returns-in-6 c = ap Array c.part.ensures ∙ sym (content_in-at c.args.self.0 6 c.in-6.is)

pub returns-in-7 : goal.returns-in-7
returns-in-7 c = ap Text c.part-in-7.ensures ∙ sym (content_in-at c.args.self.0 7 c.in-7.is)

pub returns-in-8 : goal.returns-in-8
returns-in-8 c = ap Dictionary c.low_address.ensures ∙ sym (content_in-at c.args.self.0 8 c.in-8.is)

pub returns-in-9 : goal.returns-in-9
returns-in-9 c = ap Lock c.low_address-in-9.ensures ∙ sym (content_in-at c.args.self.0 9 c.in-9.is)

pub returns-in-10 : goal.returns-in-10
returns-in-10 c = ap Condition c.low_address-in-10.ensures ∙ sym (content_in-at c.args.self.0 10 c.in-10.is)

pub returns-in-11 : goal.returns-in-11
returns-in-11 c = ap Body c.low_address-in-11.ensures ∙ sym (content_in-at c.args.self.0 11 c.in-11.is)

pub returns-in_default : goal.returns-in_default
returns-in_default c = null-at c.args.self.0 (omega arith)
