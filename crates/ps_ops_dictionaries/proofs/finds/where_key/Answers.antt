-- The dictionary and true, or false once the name is formed; or one of the errors.
use Rattle.std.proofs.Common.{◌∙◌, refl, ap, arith, [], ◌∷◌, drop}
use Rattle.std.proofs.lemmas.Bool.Decides.{nat_tests}
use Rattle.ps_language.specs.declared.errors.ErrorName.TheVariants.{StackOverflow}
use Rattle.ps_mem.specs.Heap.{birth_at}
use Rattle.ps_mem.specs.Shows.{IsValue, IsWithin}
use Rattle.ps_ops_operands.proofs.Held.{first_held, rest_held}
use Rattle.ps_ops_operands.proofs.Ready.{plain_value, plain_within}
use Rattle.ps_ops_operands.specs.Changes.{values_in}
use Rattle.ps_step_lookup.proofs.Formed.{formed_name_acts, fault_acts}
use Rattle.ps_ops_state.proofs.Acting.{raised_acts}
use Rattle.ps_ops_state.proofs.Stacked.{stacked_acts}
use Rattle.ps_ops_dictionaries.proofs.Finding.{where_hidden, where_tail, where_full, where_stacks, word_there}
use Rattle.ps_ops_dictionaries.proofs.finds.where_key.Goals as goal

pub returns-in-Err : goal.returns-in-Err
returns-in-Err g c =
    let heap = g.M.Memory.heap c.args.runtime.now.memory in
    let held = first_held (IsValue heap) _ c.requires.good.operands _ c.in-Some.ensures in
    let looked = c.in-Err.ensures.value in
    let looked_there = rw c.read_key-sought.ensures.heap at looked in
    rw (
      c.look_up.ensures.heap,
      c.look_up.ensures.grants,
      c.read_key-sought.ensures.heap,
      c.read_key-sought.ensures.grants,
    )
    (record {
      acts = λ attempt. raised_acts _ attempt _ _ c.requires.good _
          (where_hidden _ _ c.in-Some.ensures (c.is_null.ensures _ _ held ∙ c.if-is_null.false)
          (c.is_readable_key.ensures _ _ ∙ c.if-not-is_readable_key.false) c.requires.good _
          c.read_key-sought.ensures.key _ c.word.ensures _ looked_there _ refl);
      frames = refl;
    })

pub returns-then-is_full : goal.returns-then-is_full
returns-then-is_full g c =
    let heap = g.M.Memory.heap c.args.runtime.now.memory in
    let held = first_held (IsValue heap) _ c.requires.good.operands _ c.in-Some.ensures in
    let looked = rw c.in-Ok-Some.field-0-is at c.in-Ok-Some.ensures.value in
    let looked_there = rw c.read_key-sought.ensures.heap at looked in
    let word = rw c.in-Ok-Some.field-0-is at c.in-Ok-Some.ensures.word in
    let there = word_there c.word.result (word refl) in
    rw (
      c.look_up.ensures.heap,
      c.look_up.ensures.grants,
      c.read_key-sought.ensures.heap,
      c.read_key-sought.ensures.grants,
    )
    (record {
      acts = λ attempt. raised_acts _ attempt _ _ c.requires.good StackOverflow
          (where_full _ _ c.in-Some.ensures (c.is_null.ensures _ _ held ∙ c.if-is_null.false)
          (c.is_readable_key.ensures _ _ ∙ c.if-not-is_readable_key.false) c.requires.good _
          c.read_key-sought.ensures.key _ c.word.ensures _ looked_there _ refl there.0 there.1
          (grind (arith, nat_tests, c.is_full.ensures, c.if-is_full.true)));
      frames = refl;
    })

pub returns-else-is_full : goal.returns-else-is_full
returns-else-is_full g c =
    let heap = g.M.Memory.heap c.args.runtime.now.memory in
    let ops = c.args.context.now.operands in
    let held = first_held (IsValue heap) _ c.requires.good.operands _ c.in-Some.ensures in
    let looked = rw c.in-Ok-Some.field-0-is at c.in-Ok-Some.ensures.value in
    let looked_there = rw c.read_key-sought.ensures.heap at looked in
    let value = rw c.in-Ok-Some.field-0-is at c.in-Ok-Some.ensures.held in
    let value_held = rw c.read_key-sought.ensures.heap at value in
    let within = rw c.in-Ok-Some.field-0-is at c.in-Ok-Some.ensures.within in
    let within_there = rw c.read_key-sought.ensures.heap at within in
    let word = rw c.in-Ok-Some.field-0-is at c.in-Ok-Some.ensures.word in
    let there = word_there c.word.result (word refl) in
    rw (
      c.push_reserved.ensures,
      c.replace.ensures,
      c.look_up.ensures.heap,
      c.look_up.ensures.grants,
      c.read_key-sought.ensures.heap,
      c.read_key-sought.ensures.grants,
    )
    (record {
      acts = λ attempt. stacked_acts _ _ _ _ _ attempt c.requires.good (
        plain_value heap _ c.boolean.ensures.plain,
        (value_held.0, rest_held (IsValue heap) _ c.requires.good.operands 1),
      ) c.requires.good.dictionaries
          (where_stacks _ _ c.in-Some.ensures (c.is_null.ensures _ _ held ∙ c.if-is_null.false)
          (c.is_readable_key.ensures _ _ ∙ c.if-not-is_readable_key.false) c.requires.good _
          c.read_key-sought.ensures.key _ c.word.ensures _ looked_there _ refl there.0 there.1
          (grind (arith, nat_tests, c.is_full.ensures, c.if-is_full.false)) _
          c.boolean.ensures.value c.boolean.ensures.plain
          (λ names s shows inside. (within_there names s shows inside).0));
      frames = refl;
    })

pub returns-in-Ok : goal.returns-in-Ok
returns-in-Ok g c =
    let heap = g.M.Memory.heap c.args.runtime.now.memory in
    let births = birth_at heap in
    let ops = c.args.context.now.operands in
    let held = first_held (IsValue heap) _ c.requires.good.operands _ c.in-Some.ensures in
    let looked = rw c.in-Ok-None.field-0-is at c.in-Ok-None.ensures.value in
    let looked_there = rw c.read_key-sought.ensures.heap at looked in
    let made = c.in-Ok.ensures.made refl in
    rw (
      c.replace-in-Ok.ensures,
      c.look_up.ensures.heap,
      c.look_up.ensures.grants,
      c.read_key-sought.ensures.heap,
      c.read_key-sought.ensures.grants,
    )
    (record {
      acts = λ attempt. formed_name_acts _ _ c.requires.good attempt c.in-Some.key _
          c.read_key-sought.ensures.key
          (λ store shown. first_held (IsWithin births _ store) _ shown.operands _
          c.in-Some.ensures) (c.boolean-in-Ok.result ∷ drop 1 ops) _
          (where_tail _ _ c.in-Some.ensures (c.is_null.ensures _ _ held ∙ c.if-is_null.false)
          (c.is_readable_key.ensures _ _ ∙ c.if-not-is_readable_key.false) c.requires.good _
          c.read_key-sought.ensures.key _ c.word.ensures _ looked_there refl)
          c.in-Ok.ensures.did _ made.0 made.1 (
            plain_value heap _ c.boolean-in-Ok.ensures.plain,
            rest_held (IsValue heap) _ c.requires.good.operands 1,
          )
          (λ names store within. (
            plain_within births names store _ c.boolean-in-Ok.ensures.plain,
            rest_held (IsWithin births names store) _ within 1,
          ))
          (λ store shown. ap (λ v. v ∷ values_in heap c.args.runtime.now.shared.names (drop 1 ops))
          (c.boolean-in-Ok.ensures.value births c.args.runtime.now.shared.names));
      frames = refl;
    })

pub returns-in-Err-form_key : goal.returns-in-Err-form_key
returns-in-Err-form_key g c =
    let heap = g.M.Memory.heap c.args.runtime.now.memory in
    let births = birth_at heap in
    let held = first_held (IsValue heap) _ c.requires.good.operands _ c.in-Some.ensures in
    let looked = rw c.in-Ok-None.field-0-is at c.in-Ok-None.ensures.value in
    let looked_there = rw c.read_key-sought.ensures.heap at looked in
    rw (
      c.look_up.ensures.heap,
      c.look_up.ensures.grants,
      c.read_key-sought.ensures.heap,
      c.read_key-sought.ensures.grants,
    )
    (record {
      acts = λ attempt. fault_acts _ _ c.requires.good attempt c.in-Some.key _
          c.read_key-sought.ensures.key
          (λ store shown. first_held (IsWithin births _ store) _ shown.operands _
          c.in-Some.ensures) [] _
          (where_tail _ _ c.in-Some.ensures (c.is_null.ensures _ _ held ∙ c.if-is_null.false)
          (c.is_readable_key.ensures _ _ ∙ c.if-not-is_readable_key.false) c.requires.good _
          c.read_key-sought.ensures.key _ c.word.ensures _ looked_there refl)
          c.in-Err-form_key.fault c.in-Err-form_key.ensures.did _
          (c.in-Err-form_key.ensures.unmade _ refl);
      frames = refl;
    })
