-- The capacity, or one of the errors.
use Rattle.std.proofs.Common.{sym, ◌∙◌, ap, arith, w32}
use Rattle.std.proofs.lemmas.Int.{to_z_pos}
use Rattle.ps_language.specs.Readers.{integer}
use Rattle.ps_language.specs.declared.errors.ErrorName.TheVariants.{StackUnderflow, TypeCheck, InvalidAccess}
use Rattle.ps_mem.specs.Shows.{IsValue}
use Rattle.ps_ops_operands.proofs.Held.{first_held, rest_held}
use Rattle.ps_ops_operands.proofs.Ready.{plain_value}
use Rattle.ps_ops_types.proofs.Accesses.{dictionary_stands}
use Rattle.ps_ops_state.proofs.Acting.{raised_acts}
use Rattle.ps_ops_state.proofs.Stacked.{stacked_acts}
use Rattle.ps_ops_dictionaries.proofs.Reading.{maxlength_empty, maxlength_wrong, maxlength_hidden, maxlength_stacks}
use Rattle.ps_ops_dictionaries.proofs.reads.maxlength.Goals as goal

pub returns-in_default : goal.returns-in_default
returns-in_default g c = record {
  acts = λ attempt. raised_acts _ attempt _ _ c.requires.good StackUnderflow
      (maxlength_empty _ (sym c.in_default.is ∙ c.top.ensures));
}

pub returns-in_default-as_dictionary : goal.returns-in_default-as_dictionary
returns-in_default-as_dictionary g c = record {
  acts = λ attempt. raised_acts _ attempt _ _ c.requires.good TypeCheck
      (maxlength_wrong _ _ c.in-Some.ensures c.in_default-as_dictionary.ensures);
}

pub access-requires-clause-known : goal.access-requires-clause-known
access-requires-clause-known g c =
    dictionary_stands (g.M.Memory.heap c.args.runtime.now.memory) _
    (first_held (IsValue (g.M.Memory.heap c.args.runtime.now.memory)) _ c.requires.good.operands _
    c.in-Some.ensures) _ c.in-Some-as_dictionary.ensures

pub returns-then-not-is_readable : goal.returns-then-not-is_readable
returns-then-not-is_readable g c = rw (c.access.ensures.heap, c.access.ensures.grants)
    (record {
      acts = λ attempt. raised_acts _ attempt _ _ c.requires.good InvalidAccess
          (maxlength_hidden _ _ c.in-Some.ensures _ c.in-Some-as_dictionary.ensures _
          c.access.ensures.value (sym c.is_readable.ensures ∙ c.if-not-is_readable.true));
    })

pub capacity-number-requires-clause-known : goal.capacity-number-requires-clause-known
capacity-number-requires-clause-known g c = rw c.access.ensures.heap
    (dictionary_stands (g.M.Memory.heap c.args.runtime.now.memory) _
    (first_held (IsValue (g.M.Memory.heap c.args.runtime.now.memory)) _ c.requires.good.operands _
    c.in-Some.ensures) _ c.in-Some-as_dictionary.ensures)

pub returns : goal.returns
returns g c =
    let count = c.capacity-number.ensures.value in
    rw (
      c.replace.ensures,
      c.capacity-number.ensures.heap,
      c.capacity-number.ensures.grants,
      c.access.ensures.heap,
      c.access.ensures.grants,
    )
    (record {
      acts = λ attempt. stacked_acts _ _ _ _ _ attempt c.requires.good (
        plain_value _ _ c.integer.ensures.plain,
        rest_held (IsValue (g.M.Memory.heap c.args.runtime.now.memory)) _ c.requires.good.operands 1,
      ) c.requires.good.dictionaries
          (maxlength_stacks _ _ c.in-Some.ensures _ c.in-Some-as_dictionary.ensures _
          c.access.ensures.value (sym c.is_readable.ensures ∙ c.if-not-is_readable.false)
          c.capacity-number.result (rw c.access.ensures.heap at count) _ c.integer.ensures.plain
          (λ births names. c.integer.ensures.value births names
          ∙ ap integer (to_z_pos w32 c.capacity-number.result
          (omega (arith, c.capacity-number.ensures.below)))));
    })
