use Rattle.std.proofs.Common.{◌+◌, ◌≤◌, ap, arith, ◌∙◌}
use Rattle.ps_language.specs.Access.{bytes, part_bytes}
use Rattle.ps_word.specs.declared.values.Part.{Part}
use Rattle.ps_mem.specs.Heap.{birth_at}
use Rattle.ps_mem.specs.Meaning.{part_of}
use Rattle.ps_ops_sequences.proofs.Beginnings.{begins_is, first_bytes, length_run, equal_tests}
use Rattle.ps_ops_operands.proofs.Intervals.{inner_within}
use Rattle.ps_ops_sequences.proofs.string_searches.begins_with.Goals as goal

pub returns-clause-value : goal.returns-clause-value
returns-clause-value g c = λ names s shows in_part in_wanted.
    let births = birth_at (g.M.Memory.heap c.args.memory.now) in
    let part = c.args.part in
    let wanted = c.args.wanted in
    let fits : 0 + wanted.length ≤ part.length = omega (arith, c.if-wanted-part.false) in
    let test = equal_tests c.compare_bytes.result c.eq.result c.eq.ensures in
    let same = c.compare_bytes.ensures.equal names s shows (inner_within births s part
    c.interval.result 0 wanted.length fits c.interval.ensures in_part) in_wanted in
    begins_is c.eq.result (part_bytes s (part_of births part)) (part_bytes s
    (part_of births wanted)) (part_bytes s (part_of births c.interval.result)) wanted.length
    (length_run (bytes s (births wanted.address)) wanted.offset wanted.length in_wanted)
    (ap (λ (p : Part). part_bytes s (part_of births p)) c.interval.ensures ∙ first_bytes (bytes s
    (births part.address)) part.offset part.length wanted.length c.if-wanted-part.false)
    (λ t. same.0 (test.0 t)) (λ is. test.1 (same.1 is))
