-- By the first test that fails.
use Rattle.std.proofs.Common.{◌≡◌, ◌*◌, ◌+◌, ◌/◌, ◌∙◌, arith, ap, refl, length}
use Rattle.std.specs.Prelude.{not}
use Rattle.std.proofs.lemmas.List.{length-map}
use Rattle.ps_mem.specs.Heap.{birth_at}
use Rattle.ps_mem.specs.Meaning.{value_of}
use Rattle.ps_ops_operands.specs.Changes.{values_in}
use Rattle.ps_ops_dictionaries.proofs.Counted.{odd_pairs, even_pairs, form_fits, form_full}
use Rattle.ps_ops_dictionaries.proofs.literals.test_elements.Goals as goal

pub returns-then-elements-ne0-clause-error : goal.returns-then-elements-ne0-clause-error
returns-then-elements-ne0-clause-error g c = λ s shows within.
    let h = g.M.Memory.heap c.args.memory.now in
    let names = c.args.names.now in
    let long = length-map c.args.elements.now (value_of (birth_at h) names) in
    let odd : length (values_in h names c.args.elements.now)
    ≡ 2 * (length c.args.elements.now / 2) + 1 = omega (arith, long) in
    rw (
      c.has_null_key.ensures h names c.requires.held ∙ ap not c.if-has_null_key.false,
      c.has_hidden_key.ensures h names ∙ ap not c.if-has_hidden_key.false,
      odd_pairs s (values_in h names c.args.elements.now) (length c.args.elements.now / 2) odd,
    ) refl

pub returns-then-has_long_key-clause-error : goal.returns-then-has_long_key-clause-error
returns-then-has_long_key-clause-error g c = λ s shows within.
    let h = g.M.Memory.heap c.args.memory.now in
    let names = c.args.names.now in
    let long = length-map c.args.elements.now (value_of (birth_at h) names) in
    let even : length (values_in h names c.args.elements.now)
    ≡ 2 * (length c.args.elements.now / 2) = omega (arith, long) in
    rw (
      c.has_null_key.ensures h names c.requires.held ∙ ap not c.if-has_null_key.false,
      c.has_hidden_key.ensures h names ∙ ap not c.if-has_hidden_key.false,
      (even_pairs s (values_in h names c.args.elements.now) (length c.args.elements.now / 2)
          even).1,
      c.has_long_key.ensures h names ∙ ap not c.if-has_long_key.true,
    ) refl

pub returns-then-not-names_fit-clause-error : goal.returns-then-not-names_fit-clause-error
returns-then-not-names_fit-clause-error g c = λ s shows within.
    let h = g.M.Memory.heap c.args.memory.now in
    let names = c.args.names.now in
    let long = length-map c.args.elements.now (value_of (birth_at h) names) in
    let even : length (values_in h names c.args.elements.now)
    ≡ 2 * (length c.args.elements.now / 2) = omega (arith, long) in
    rw (
      c.has_null_key.ensures h names c.requires.held ∙ ap not c.if-has_null_key.false,
      c.has_hidden_key.ensures h names ∙ ap not c.if-has_hidden_key.false,
      (even_pairs s (values_in h names c.args.elements.now) (length c.args.elements.now / 2)
          even).1,
      c.has_long_key.ensures h names ∙ ap not c.if-has_long_key.false,
      form_full names s (values_in h names c.args.elements.now)
          (c.names_fit.ensures.answer s shows within ∙ c.if-not-names_fit.true),
    ) refl

pub returns-clause-tested : goal.returns-clause-tested
returns-clause-tested g c = λ s shows within.
    let h = g.M.Memory.heap c.args.memory.now in
    let names = c.args.names.now in
    let long = length-map c.args.elements.now (value_of (birth_at h) names) in
    let even : length (values_in h names c.args.elements.now)
    ≡ 2 * (length c.args.elements.now / 2) = omega (arith, long) in
    let pairs = even_pairs s (values_in h names c.args.elements.now)
    (length c.args.elements.now / 2) even in (
      pairs.0,
      rw (
        c.has_null_key.ensures h names c.requires.held ∙ ap not c.if-has_null_key.false,
        c.has_hidden_key.ensures h names ∙ ap not c.if-has_hidden_key.false,
        pairs.1,
        c.has_long_key.ensures h names ∙ ap not c.if-has_long_key.false,
        form_fits names s (values_in h names c.args.elements.now)
            (c.names_fit.ensures.answer s shows within ∙ c.if-not-names_fit.false),
      ) refl,
    )

pub returns-clause-fits : goal.returns-clause-fits
returns-clause-fits g c = λ s shows within.
    c.names_fit.ensures.answer s shows within ∙ c.if-not-names_fit.false
