use Rattle.std.proofs.Common.{◌*◌, arith, ap, ◌∙◌, get_or}
use Rattle.std.specs.Prelude.{not}
use Rattle.std.proofs.lemmas.Option.{slice_get-get_or}
use Rattle.ps_mem.specs.Heap.{birth_at, zero_word}
use Rattle.ps_ops_operands.proofs.Marks.{value_at}
use Rattle.ps_ops_operands.specs.Changes.{values_in}
use Rattle.ps_language.specs.Dictionaries.{fits_key}
use Rattle.ps_ops_dictionaries.proofs.Elements.{keys_fail, keys_next}
use Rattle.ps_ops_dictionaries.proofs.literals.has_long_key.Goals as goal

pub returns-then-is_long_key : goal.returns-then-is_long_key
returns-then-is_long_key c = λ h names.
    let w = get_or c.args.elements.now (2 * c.loop-place.place) zero_word in
    let at = value_at (birth_at h) names c.args.elements.now (2 * c.loop-place.place) w
    (slice_get-get_or c.args.elements.now (2 * c.loop-place.place) zero_word (omega arith)) in
    keys_fail (fits_key) (values_in h names c.args.elements.now) c.loop-place.place _ at
    (c.loop-place.invariant h names) (c.is_long_key.ensures h names ∙ ap not c.if-is_long_key.true)

pub loop-place-preserved : goal.loop-place-preserved
loop-place-preserved c = λ h names.
    let w = get_or c.args.elements.now (2 * c.loop-place.place) zero_word in
    let at = value_at (birth_at h) names c.args.elements.now (2 * c.loop-place.place) w
    (slice_get-get_or c.args.elements.now (2 * c.loop-place.place) zero_word (omega arith)) in
    keys_next (fits_key) (values_in h names c.args.elements.now) c.loop-place.place _ at
    (c.loop-place.invariant h names) (c.is_long_key.ensures h names ∙ ap not c.if-is_long_key.false)
