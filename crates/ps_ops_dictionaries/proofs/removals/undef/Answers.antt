-- The key is taken out, or its name formed where it was not met; or one of the errors.
use Rattle.std.proofs.Common.{◌∙◌, refl, sym, [], drop}
use Rattle.std.proofs.lemmas.Result.{err_from_is_err_and}
use Rattle.ps_language.specs.declared.errors.ErrorName.TheVariants.{TypeCheck, InvalidAccess}
use Rattle.ps_mem.specs.Heap.{birth_at}
use Rattle.ps_mem.specs.Shows.{IsValue, IsWithin}
use Rattle.ps_ops_operands.proofs.Held.{first_of_two_held, second_held, rest_held}
use Rattle.ps_ops_types.proofs.Accesses.{dictionary_stands}
use Rattle.ps_ops_state.proofs.Acting.{raised_acts}
use Rattle.ps_ops_state.proofs.Alike.{effect_acts, asked_acts}
use Rattle.ps_step_lookup.proofs.Formed.{formed_name_acts, fault_acts}
use Rattle.ps_ops_dictionaries.proofs.Finding.{met_where}
use Rattle.ps_ops_dictionaries.proofs.Removing.{undef_wrong, undef_unreadable, undef_hidden, undef_removes}
use Rattle.ps_ops_dictionaries.proofs.Removing.{undef_asked_is, met_inside, undef_tail, undef_asks_nothing}
use Rattle.ps_ops_dictionaries.proofs.removals.undef.Goals as goal

pub returns-in_default-as_dictionary : goal.returns-in_default-as_dictionary
returns-in_default-as_dictionary g c =
    let held = first_of_two_held (IsValue (g.M.Memory.heap c.args.runtime.now.memory)) _
    c.requires.good.operands _ _ c.in-Some.ensures in
    record {
      acts = raised_acts _ _ _ _ c.requires.good TypeCheck
          (undef_wrong _ _ _ c.in-Some.ensures (c.is_null.ensures _ _ held ∙ c.if-is_null.false)
          c.in_default-as_dictionary.ensures);
    }

pub returns-then-not-is_readable_key : goal.returns-then-not-is_readable_key
returns-then-not-is_readable_key g c =
    let held = first_of_two_held (IsValue (g.M.Memory.heap c.args.runtime.now.memory)) _
    c.requires.good.operands _ _ c.in-Some.ensures in
    record {
      acts = raised_acts _ _ _ _ c.requires.good InvalidAccess
          (undef_unreadable _ _ _ c.in-Some.ensures
          (c.is_null.ensures _ _ held ∙ c.if-is_null.false) _ c.in-Some-as_dictionary.ensures
          (c.is_readable_key.ensures _ _ ∙ c.if-not-is_readable_key.true));
    }

pub access-requires-clause-known : goal.access-requires-clause-known
access-requires-clause-known g c =
    dictionary_stands (g.M.Memory.heap c.args.runtime.now.memory) _
    (second_held (IsValue (g.M.Memory.heap c.args.runtime.now.memory)) _ c.requires.good.operands _ _
    c.in-Some.ensures) _ c.in-Some-as_dictionary.ensures

pub returns-then-not-is_writable : goal.returns-then-not-is_writable
returns-then-not-is_writable g c =
    let held = first_of_two_held (IsValue (g.M.Memory.heap c.args.runtime.now.memory)) _
    c.requires.good.operands _ _ c.in-Some.ensures in
    rw (c.access.ensures.heap, c.access.ensures.grants)
    (record {
      acts = raised_acts _ _ _ _ c.requires.good InvalidAccess
          (undef_hidden _ _ _ c.in-Some.ensures
          (c.is_null.ensures _ _ held ∙ c.if-is_null.false) _ c.in-Some-as_dictionary.ensures
          (c.is_readable_key.ensures _ _ ∙ c.if-not-is_readable_key.false) _
          c.access.ensures.value (sym c.is_writable.ensures ∙ c.if-not-is_writable.true));
    })

pub remove_key-requires-clause-known : goal.remove_key-requires-clause-known
remove_key-requires-clause-known g c = rw (c.read_key-read.ensures.heap, c.access.ensures.heap)
    (dictionary_stands (g.M.Memory.heap c.args.runtime.now.memory) _
    (second_held (IsValue (g.M.Memory.heap c.args.runtime.now.memory)) _ c.requires.good.operands _ _
    c.in-Some.ensures) _ c.in-Some-as_dictionary.ensures)

pub returns-in-Some-word : goal.returns-in-Some-word
returns-in-Some-word g c =
    let held = first_of_two_held (IsValue (g.M.Memory.heap c.args.runtime.now.memory)) _
    c.requires.good.operands _ _ c.in-Some.ensures in
    let some = c.is_null.ensures _ _ held ∙ c.if-is_null.false in
    let key = rw c.access.ensures.heap at c.read_key-read.ensures.key in
    let met = met_where c.read_key-read.result _ c.in-Some-word.ensures in
    let acts = rw (
      c.read_key-read.ensures.heap,
      c.read_key-read.ensures.grants,
      c.access.ensures.heap,
      c.access.ensures.grants,
    ) at c.remove_key.ensures in
    let readable = c.is_readable_key.ensures _ _ ∙ c.if-not-is_readable_key.false in
    let may = sym c.is_writable.ensures ∙ c.if-not-is_writable.false in
    record {
      acts = effect_acts _ _ _ _ _ _ _
          (undef_removes _ _ _ c.in-Some.ensures some _ c.in-Some-as_dictionary.ensures readable _
          c.access.ensures.value may c.requires.good _ key _ met)
          (asked_acts _ _ _ _ _ _ _
          (undef_asked_is _ _ _ c.in-Some.ensures some _ c.in-Some-as_dictionary.ensures readable _
          c.access.ensures.value may c.requires.good _ key _ met)
          (acts.acts c.args.attempt refl
          (met_inside _ _ _ c.in-Some.ensures some _ c.in-Some-as_dictionary.ensures readable _
          c.access.ensures.value may c.requires.good _ key _ met)));
    }

pub returns-in_ok-form_key-in-None : goal.returns-in_ok-form_key-in-None
returns-in_ok-form_key-in-None g c =
    let heap = g.M.Memory.heap c.args.runtime.now.memory in
    let births = birth_at heap in
    let ops = c.args.context.now.operands in
    let held = first_of_two_held (IsValue heap) _ c.requires.good.operands _ _ c.in-Some.ensures in
    let some = c.is_null.ensures _ _ held ∙ c.if-is_null.false in
    let key = rw c.access.ensures.heap at c.read_key-read.ensures.key in
    let readable = c.is_readable_key.ensures _ _ ∙ c.if-not-is_readable_key.false in
    let may = sym c.is_writable.ensures ∙ c.if-not-is_writable.false in
    let known = dictionary_stands heap _
    (second_held (IsValue heap) _ c.requires.good.operands _ _ c.in-Some.ensures) _
    c.in-Some-as_dictionary.ensures in
    let made = c.in_ok-form_key-in-None.ensures.made refl in
    rw (
      c.discard.ensures,
      c.read_key-read.ensures.heap,
      c.read_key-read.ensures.grants,
      c.access.ensures.heap,
      c.access.ensures.grants,
    )
    (record {
      acts = asked_acts _ _ _ _ _ _ _
          (undef_asks_nothing _ _ _ c.in-Some.ensures some _ c.in-Some-as_dictionary.ensures
          readable _ c.access.ensures.value may c.requires.good _ key
          (sym c.in-None.ensures) known)
          (formed_name_acts _ _ c.requires.good c.args.attempt c.in-Some.key _ key
          (λ store shown. first_of_two_held (IsWithin births _ store) _ shown.operands _ _
          c.in-Some.ensures) (drop 2 ops) _
          (undef_tail _ _ _ c.in-Some.ensures some _ c.in-Some-as_dictionary.ensures readable _
          c.access.ensures.value may c.requires.good _ key (sym c.in-None.ensures) known)
          c.in_ok-form_key-in-None.ensures.did _ made.0 made.1
          (rest_held (IsValue heap) _ c.requires.good.operands 2)
          (λ names store within. rest_held (IsWithin births names store) _ within 2)
          (λ store shown. refl));
    })

pub returns-in_err-form_key-in-None : goal.returns-in_err-form_key-in-None
returns-in_err-form_key-in-None g c =
    let heap = g.M.Memory.heap c.args.runtime.now.memory in
    let births = birth_at heap in
    let held = first_of_two_held (IsValue heap) _ c.requires.good.operands _ _ c.in-Some.ensures in
    let some = c.is_null.ensures _ _ held ∙ c.if-is_null.false in
    let key = rw c.access.ensures.heap at c.read_key-read.ensures.key in
    let readable = c.is_readable_key.ensures _ _ ∙ c.if-not-is_readable_key.false in
    let may = sym c.is_writable.ensures ∙ c.if-not-is_writable.false in
    let known = dictionary_stands heap _
    (second_held (IsValue heap) _ c.requires.good.operands _ _ c.in-Some.ensures) _
    c.in-Some-as_dictionary.ensures in
    let p = err_from_is_err_and c.from_residual.result c.from_residual.ensures.1 in
    rw (
      p.1,
      p.2,
      c.read_key-read.ensures.heap,
      c.read_key-read.ensures.grants,
      c.access.ensures.heap,
      c.access.ensures.grants,
    )
    (record {
      acts = asked_acts _ _ _ _ _ _ _
          (undef_asks_nothing _ _ _ c.in-Some.ensures some _ c.in-Some-as_dictionary.ensures
          readable _ c.access.ensures.value may c.requires.good _ key
          (sym c.in-None.ensures) known)
          (fault_acts _ _ c.requires.good c.args.attempt c.in-Some.key _ key
          (λ store shown. first_of_two_held (IsWithin births _ store) _ shown.operands _ _
          c.in-Some.ensures) [] _
          (undef_tail _ _ _ c.in-Some.ensures some _ c.in-Some-as_dictionary.ensures readable _
          c.access.ensures.value may c.requires.good _ key (sym c.in-None.ensures) known) _
          c.in_err-form_key-in-None.ensures.did _
          (c.in_err-form_key-in-None.ensures.unmade _ refl));
    })
