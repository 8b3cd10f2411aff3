use Rattle.std.proofs.Common.{◌+◌, ◌++◌, length, take, refl, ap, arith}
use Rattle.ps_mem.specs.Heap.{birth_at}
use Rattle.ps_mem.specs.Meaning.{value_of}
use Rattle.ps_text.proofs.Cuts.{was_ok, was_err}
use Rattle.ps_text.proofs.Shown.{full_written}
use Rattle.ps_text.specs.Shown.{text_to}
use Rattle.ps_text.proofs.full.append_full.Goals as goal

pub returns-clause-ok : goal.returns-clause-ok
returns-clause-ok g c = λ s shows within.
    let v = value_of (birth_at (g.M.Memory.heap c.args.memory.now)) c.args.names.now c.args.word in
    let count = c.args.output.now.ok.0 in
    let start = c.len-start.ensures in
    full_written s v c.args.output.now.items c.append_value.new.output.items _ (omega (arith, count, start))
    (was_ok _ c.append_value.result c.if-is_err.ensures.value (c.append_value.ensures.ok s shows within))

pub returns-then-is_err-clause-full : goal.returns-then-is_err-clause-full
returns-then-is_err-clause-full g c = λ s shows within.
    let v = value_of (birth_at (g.M.Memory.heap c.args.memory.now)) c.args.names.now c.args.word in
    let count = c.args.output.now.ok.0 in
    let start = c.len-start.ensures in
    let old = c.args.output.now.items in
    let lacks = was_err _ c.append_value.result c.if-is_err.ensures.value
    (c.append_value.ensures.full s shows within) in
    let whole = full_written s v old (take (c.len-start.result + 65535) (old ++ text_to 32 s v))
    (c.len-start.result + 65535) (omega (arith, count, start)) refl in
    omega (arith, lacks, ap length whole)
