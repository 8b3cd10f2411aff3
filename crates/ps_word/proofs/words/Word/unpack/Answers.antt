use Rattle.std.proofs.Common.{◌≡◌, false, true, refl, sym, ◌∙◌}
use Rattle.ps_word.proofs.Packing.{unpacks, unpacks_none}
use Rattle.ps_word.proofs.words.Word.unpack.Goals as goal

pub returns-then-not-is_in_format-clause-exact : goal.returns-then-not-is_in_format-clause-exact
returns-then-not-is_in_format-clause-exact c =
    unpacks_none c.args.self.0 c.value-value.result c.value-value.ensures (λ good is. let refuted : false ≡ true =
    c.if-not-is_in_format.ensures.1 good in cc)

pub returns-then-number-self-clause-exact : goal.returns-then-number-self-clause-exact
returns-then-number-self-clause-exact c =
    unpacks c.args.self.0 c.value-value.result c.value-value.ensures (c.if-not-is_in_format.ensures.0 refl)
    (sym c.pack-number.ensures.number ∙ c.if-number-self.true)

pub returns-else-number-self-clause-exact : goal.returns-else-number-self-clause-exact
returns-else-number-self-clause-exact c =
    unpacks_none c.args.self.0 c.value-value.result c.value-value.ensures
    (λ good is. c.if-number-self.false (c.pack-number.ensures.number ∙ is))
