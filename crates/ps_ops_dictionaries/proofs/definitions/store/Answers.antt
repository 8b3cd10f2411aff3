-- The pair is put where its key was found, else into the current dictionary; or one of the errors.
use Rattle.std.proofs.Common.{◌∙◌, refl}
use Rattle.ps_language.specs.declared.errors.ErrorName.TheVariants.{TypeCheck}
use Rattle.ps_mem.specs.Shows.{IsValue}
use Rattle.ps_ops_operands.proofs.Held.{second_held}
use Rattle.ps_ops_types.proofs.Accesses.{dictionary_stands}
use Rattle.ps_ops_state.proofs.Acting.{raised_acts}
use Rattle.ps_ops_state.proofs.Alike.{effect_acts, asked_acts}
use Rattle.ps_ops_dictionaries.proofs.Defining.{store_hidden, store_nowhere, store_wrong, store_puts, store_asked}
use Rattle.ps_ops_dictionaries.proofs.definitions.store.Goals as goal

pub returns-in_default-as_dictionary : goal.returns-in_default-as_dictionary
returns-in_default-as_dictionary g c =
    let held = second_held (IsValue (g.M.Memory.heap c.args.runtime.now.memory)) _
    c.requires.good.operands _ _ c.in-Some.ensures in
    let place = rw c.in-Ok-Some.field-0-is at c.in-Ok-Some.ensures.value in
    let place_there = rw c.read_key-read.ensures.heap at place in
    rw (
      c.storing_place.ensures.heap,
      c.storing_place.ensures.grants,
      c.read_key-read.ensures.heap,
      c.read_key-read.ensures.grants,
    )
    (record {
      acts = raised_acts _ _ _ _ c.requires.good TypeCheck
          (store_wrong _ _ _ c.in-Some.ensures (c.is_null.ensures _ _ held ∙ c.if-is_null.false)
          (c.is_readable_key.ensures _ _ ∙ c.if-not-is_readable_key.false) c.requires.good _
          c.read_key-read.ensures.key _ c.word.ensures _ place_there _ refl
          c.in_default-as_dictionary.ensures);
      frames = refl;
    })

pub put_key-requires-clause-known : goal.put_key-requires-clause-known
put_key-requires-clause-known g c =
    let place = rw c.in-Ok-Some.field-0-is at c.in-Ok-Some.ensures.held in
    rw c.storing_place.ensures.heap
    (dictionary_stands (g.M.Memory.heap c.read_key-read.new.memory) _ place _
    c.in-Some-as_dictionary.ensures)

pub returns-in-Some-as_dictionary : goal.returns-in-Some-as_dictionary
returns-in-Some-as_dictionary g c =
    let held = second_held (IsValue (g.M.Memory.heap c.args.runtime.now.memory)) _
    c.requires.good.operands _ _ c.in-Some.ensures in
    let some = c.is_null.ensures _ _ held ∙ c.if-is_null.false in
    let place = rw c.in-Ok-Some.field-0-is at c.in-Ok-Some.ensures.value in
    let place_there = rw c.read_key-read.ensures.heap at place in
    let acts = rw (
      c.storing_place.ensures.heap,
      c.storing_place.ensures.grants,
      c.read_key-read.ensures.heap,
      c.read_key-read.ensures.grants,
    ) at c.put_key.ensures in
    record {
      acts = effect_acts _ _ _ _ _ _ _
          (store_puts _ _ _ c.in-Some.ensures some
          (c.is_readable_key.ensures _ _ ∙ c.if-not-is_readable_key.false) c.requires.good _
          c.read_key-read.ensures.key _ c.word.ensures _ place_there _ refl _
          c.in-Some-as_dictionary.ensures)
          (asked_acts _ _ _ _ _ _ _
          (store_asked _ _ _ c.in-Some.ensures some
          (c.is_readable_key.ensures _ _ ∙ c.if-not-is_readable_key.false) c.requires.good _
          c.read_key-read.ensures.key _ c.word.ensures _ place_there _ refl _
          c.in-Some-as_dictionary.ensures) acts.acts);
      frames = c.put_key.ensures.frames;
    }

pub returns-in-Ok-None : goal.returns-in-Ok-None
returns-in-Ok-None g c =
    let held = second_held (IsValue (g.M.Memory.heap c.args.runtime.now.memory)) _
    c.requires.good.operands _ _ c.in-Some.ensures in
    let place = rw c.in-Ok-None.field-0-is at c.in-Ok-None.ensures.value in
    let place_there = rw c.read_key-read.ensures.heap at place in
    rw (
      c.storing_place.ensures.heap,
      c.storing_place.ensures.grants,
      c.read_key-read.ensures.heap,
      c.read_key-read.ensures.grants,
    )
    (record {
      acts = raised_acts _ _ _ _ c.requires.good TypeCheck
          (store_nowhere _ _ _ c.in-Some.ensures (c.is_null.ensures _ _ held ∙ c.if-is_null.false)
          (c.is_readable_key.ensures _ _ ∙ c.if-not-is_readable_key.false) c.requires.good _
          c.read_key-read.ensures.key _ c.word.ensures _ place_there refl);
      frames = refl;
    })

pub returns-in-Err : goal.returns-in-Err
returns-in-Err g c =
    let held = second_held (IsValue (g.M.Memory.heap c.args.runtime.now.memory)) _
    c.requires.good.operands _ _ c.in-Some.ensures in
    let place = c.in-Err.ensures.value in
    let place_there = rw c.read_key-read.ensures.heap at place in
    rw (
      c.storing_place.ensures.heap,
      c.storing_place.ensures.grants,
      c.read_key-read.ensures.heap,
      c.read_key-read.ensures.grants,
    )
    (record {
      acts = raised_acts _ _ _ _ c.requires.good _
          (store_hidden _ _ _ c.in-Some.ensures (c.is_null.ensures _ _ held ∙ c.if-is_null.false)
          (c.is_readable_key.ensures _ _ ∙ c.if-not-is_readable_key.false) c.requires.good _
          c.read_key-read.ensures.key _ c.word.ensures _ place_there _ refl);
      frames = refl;
    })
