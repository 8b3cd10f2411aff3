use Rattle.std.proofs.Common.{◌*◌, arith, ap, ◌∙◌, get_or}
use Rattle.std.specs.Prelude.{not}
use Rattle.std.proofs.lemmas.Option.{slice_get-get_or}
use Rattle.ps_language.specs.Value.{Value}
use Rattle.ps_mem.specs.Heap.{birth_at, zero_word}
use Rattle.ps_ops_operands.proofs.Marks.{value_at}
use Rattle.ps_ops_operands.specs.Changes.{values_in}
use Rattle.ps_language.specs.Readers.{is_null}
use Rattle.ps_mem.specs.Shows.{IsValue}
use Rattle.ps_dict.proofs.Fresh.{all-there}
use Rattle.ps_ops_dictionaries.proofs.Elements.{keys_fail, keys_next}
use Rattle.ps_ops_dictionaries.proofs.literals.has_null_key.Goals as goal

pub returns-then-is_null : goal.returns-then-is_null
returns-then-is_null c = λ h names held.
    let w = get_or c.args.elements.now (2 * c.loop-place.place) zero_word in
    let at = value_at (birth_at h) names c.args.elements.now (2 * c.loop-place.place) w
    (slice_get-get_or c.args.elements.now (2 * c.loop-place.place) zero_word (omega arith)) in
    let held_there = all-there (IsValue h) c.args.elements.now (2 * c.loop-place.place) zero_word held
    (omega arith) in
    keys_fail (λ (k : Value). not (is_null k)) (values_in h names c.args.elements.now) c.loop-place.place _ at
    (c.loop-place.invariant h names held) (ap not (c.is_null.ensures h names held_there ∙ c.if-is_null.true))

pub loop-place-preserved : goal.loop-place-preserved
loop-place-preserved c = λ h names held.
    let w = get_or c.args.elements.now (2 * c.loop-place.place) zero_word in
    let at = value_at (birth_at h) names c.args.elements.now (2 * c.loop-place.place) w
    (slice_get-get_or c.args.elements.now (2 * c.loop-place.place) zero_word (omega arith)) in
    let held_there = all-there (IsValue h) c.args.elements.now (2 * c.loop-place.place) zero_word held
    (omega arith) in
    keys_next (λ (k : Value). not (is_null k)) (values_in h names c.args.elements.now) c.loop-place.place _ at
    (c.loop-place.invariant h names held) (ap not (c.is_null.ensures h names held_there ∙ c.if-is_null.false))
