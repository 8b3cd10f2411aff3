-- What is found, without the dictionary that has it.
use Rattle.std.proofs.Common.{◌≡◌, Some, None, Ok, refl, sym, ap, ◌∙◌}
use Rattle.ps_mem.specs.Heap.{birth_at}
use Rattle.ps_mem.specs.Meaning.{value_of}
use Rattle.ps_mem.specs.Shows.{IsWithin}
use Rattle.ps_ops_operands.specs.Changes.{values_in}
use Rattle.ps_step_lookup.specs.Lookups.{second_of}
use Rattle.ps_step_lookup.proofs.Knowing.{as_looked_up, found_as}
use Rattle.ps_step_lookup.proofs.lookups.look_up_apart.Goals as goal

pub returns-in-Ok-Some-clause-within : goal.returns-in-Ok-Some-clause-within
returns-in-Ok-Some-clause-within g c = λ names s shows within.
    let h = g.M.Memory.heap c.args.memory.now in
    let seen = rw c.tell_lowest.ensures.heap at c.look_up.ensures.within in
    found_as (IsWithin (birth_at h) names s) c.look_up.result c.in-Ok-Some.found
    (c.in-Ok-Some.is ∙ ap Ok c.in-Ok-Some.field-0-is) (seen names s shows within)

pub returns-in-Ok-Some-clause-value : goal.returns-in-Ok-Some-clause-value
returns-in-Ok-Some-clause-value g c = λ names s shows distinct within.
    let h = g.M.Memory.heap c.args.memory.now in
    let looked = rw c.tell_lowest.ensures.heap at c.look_up.ensures.value in
    as_looked_up (birth_at h) names s (value_of (birth_at h) names c.args.word)
    (values_in h names c.args.dictionaries.now) c.look_up.result (Some c.in-Ok-Some.found.1)
    (sym (ap second_of (c.in-Ok-Some.is ∙ ap Ok c.in-Ok-Some.field-0-is)))
    (looked names s _ shows distinct (refl, within))

pub returns-in-Ok-None-clause-value : goal.returns-in-Ok-None-clause-value
returns-in-Ok-None-clause-value g c = λ names s shows distinct within.
    let h = g.M.Memory.heap c.args.memory.now in
    let looked = rw c.tell_lowest.ensures.heap at c.look_up.ensures.value in
    as_looked_up (birth_at h) names s (value_of (birth_at h) names c.args.word)
    (values_in h names c.args.dictionaries.now) c.look_up.result None
    (sym (ap second_of (c.in-Ok-None.is ∙ ap Ok c.in-Ok-None.field-0-is)))
    (looked names s _ shows distinct (refl, within))

pub returns-in-Err-clause-value : goal.returns-in-Err-clause-value
returns-in-Err-clause-value g c = λ names s shows distinct within.
    let h = g.M.Memory.heap c.args.memory.now in
    let looked = rw c.tell_lowest.ensures.heap at c.look_up.ensures.value in
    as_looked_up (birth_at h) names s (value_of (birth_at h) names c.args.word)
    (values_in h names c.args.dictionaries.now) c.look_up.result None
    (sym (ap second_of c.in-Err.is)) (looked names s _ shows distinct (refl, within))
