-- The value in the topmost dictionary that has the key, or one of the errors.
use Rattle.std.proofs.Common.{◌∙◌, refl}
use Rattle.ps_language.specs.declared.errors.ErrorName.TheVariants.{Undefined}
use Rattle.ps_mem.specs.Shows.{IsValue}
use Rattle.ps_ops_operands.proofs.Held.{first_held, rest_held}
use Rattle.ps_ops_state.proofs.Acting.{raised_acts}
use Rattle.ps_ops_state.proofs.Stacked.{stacked_acts}
use Rattle.ps_ops_dictionaries.proofs.Finding.{load_hidden, load_undefined, load_stacks, word_there}
use Rattle.ps_ops_dictionaries.proofs.finds.load.Goals as goal

pub returns-in-Ok-Some-clause-acts : goal.returns-in-Ok-Some-clause-acts
returns-in-Ok-Some-clause-acts g c =
    let heap = g.M.Memory.heap c.args.runtime.now.memory in
    let held = first_held (IsValue heap) _ c.requires.good.operands _ c.in-Some.ensures in
    let looked = rw c.in-Ok-Some.field-0-is at c.in-Ok-Some.ensures.value in
    let looked_there = rw c.read_key-sought.ensures.heap at looked in
    let value = rw c.in-Ok-Some.field-0-is at c.in-Ok-Some.ensures.held in
    let value_held = rw c.read_key-sought.ensures.heap at value in
    let within = rw c.in-Ok-Some.field-0-is at c.in-Ok-Some.ensures.within in
    let within_there = rw c.read_key-sought.ensures.heap at within in
    let word = rw c.in-Ok-Some.field-0-is at c.in-Ok-Some.ensures.word in
    let there = word_there c.word.result (word refl) in
    rw (
      c.replace.ensures,
      c.look_up.ensures.heap,
      c.look_up.ensures.grants,
      c.read_key-sought.ensures.heap,
      c.read_key-sought.ensures.grants,
    )
    (λ attempt. stacked_acts _ _ _ _ _ attempt c.requires.good
    (value_held.1, rest_held (IsValue heap) _ c.requires.good.operands 1)
    c.requires.good.dictionaries
    (load_stacks _ _ c.in-Some.ensures (c.is_null.ensures _ _ held ∙ c.if-is_null.false)
    (c.is_readable_key.ensures _ _ ∙ c.if-not-is_readable_key.false) c.requires.good _
    c.read_key-sought.ensures.key _ c.word.ensures _ looked_there _ refl there.0 there.1
    (λ names s shows inside. (within_there names s shows inside).1)))

pub returns-in-Ok-None-clause-acts : goal.returns-in-Ok-None-clause-acts
returns-in-Ok-None-clause-acts g c =
    let heap = g.M.Memory.heap c.args.runtime.now.memory in
    let held = first_held (IsValue heap) _ c.requires.good.operands _ c.in-Some.ensures in
    let looked = rw c.in-Ok-None.field-0-is at c.in-Ok-None.ensures.value in
    let looked_there = rw c.read_key-sought.ensures.heap at looked in
    rw (
      c.look_up.ensures.heap,
      c.look_up.ensures.grants,
      c.read_key-sought.ensures.heap,
      c.read_key-sought.ensures.grants,
    )
    (λ attempt. raised_acts _ attempt _ _ c.requires.good Undefined
    (load_undefined _ _ c.in-Some.ensures (c.is_null.ensures _ _ held ∙ c.if-is_null.false)
    (c.is_readable_key.ensures _ _ ∙ c.if-not-is_readable_key.false) c.requires.good _
    c.read_key-sought.ensures.key _ c.word.ensures _ looked_there refl))

pub returns-in-Err-clause-acts : goal.returns-in-Err-clause-acts
returns-in-Err-clause-acts g c =
    let heap = g.M.Memory.heap c.args.runtime.now.memory in
    let held = first_held (IsValue heap) _ c.requires.good.operands _ c.in-Some.ensures in
    let looked = c.in-Err.ensures.value in
    let looked_there = rw c.read_key-sought.ensures.heap at looked in
    rw (
      c.look_up.ensures.heap,
      c.look_up.ensures.grants,
      c.read_key-sought.ensures.heap,
      c.read_key-sought.ensures.grants,
    )
    (λ attempt. raised_acts _ attempt _ _ c.requires.good _
    (load_hidden _ _ c.in-Some.ensures (c.is_null.ensures _ _ held ∙ c.if-is_null.false)
    (c.is_readable_key.ensures _ _ ∙ c.if-not-is_readable_key.false) c.requires.good _
    c.read_key-sought.ensures.key _ c.word.ensures _ looked_there _ refl))
