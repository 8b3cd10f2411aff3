-- The dictionary goes on top, or one of the errors.
use Rattle.std.proofs.Common.{sym, ◌∙◌, arith}
use Rattle.std.proofs.lemmas.Bool.Decides.{nat_tests}
use Rattle.ps_language.specs.declared.errors.ErrorName.TheVariants.{StackUnderflow, TypeCheck, InvalidAccess}
use Rattle.ps_language.specs.declared.errors.ErrorName.TheVariants.{DictStackOverflow}
use Rattle.ps_mem.specs.Shows.{IsValue}
use Rattle.ps_ops_operands.proofs.Held.{first_held, rest_held}
use Rattle.ps_ops_types.proofs.Accesses.{dictionary_stands}
use Rattle.ps_ops_state.proofs.Acting.{raised_acts}
use Rattle.ps_ops_state.proofs.Stacked.{stacked_acts}
use Rattle.ps_ops_dictionaries.proofs.Stacking.{begin_empty, begin_wrong, begin_hidden, begin_full, begin_stacks}
use Rattle.ps_ops_dictionaries.proofs.stack.begin.Goals as goal

pub returns-in_default-clause-acts : goal.returns-in_default-clause-acts
returns-in_default-clause-acts g c = λ attempt. raised_acts _ attempt _ _ c.requires.good StackUnderflow
    (begin_empty _ (sym c.in_default.is ∙ c.top.ensures))

pub returns-in_default-as_dictionary-clause-acts : goal.returns-in_default-as_dictionary-clause-acts
returns-in_default-as_dictionary-clause-acts g c =
    λ attempt. raised_acts _ attempt _ _ c.requires.good TypeCheck
    (begin_wrong _ _ c.in-Some.ensures c.in_default-as_dictionary.ensures)

pub access-requires-clause-known : goal.access-requires-clause-known
access-requires-clause-known g c =
    dictionary_stands (g.M.Memory.heap c.args.runtime.now.memory) _
    (first_held (IsValue (g.M.Memory.heap c.args.runtime.now.memory)) _ c.requires.good.operands _
    c.in-Some.ensures) _ c.in-Some-as_dictionary.ensures

pub returns-then-not-is_readable-clause-acts : goal.returns-then-not-is_readable-clause-acts
returns-then-not-is_readable-clause-acts g c = rw (c.access.ensures.heap, c.access.ensures.grants)
    (λ attempt. raised_acts _ attempt _ _ c.requires.good InvalidAccess
    (begin_hidden _ _ c.in-Some.ensures _ c.in-Some-as_dictionary.ensures _
    c.access.ensures.value (sym c.is_readable.ensures ∙ c.if-not-is_readable.true)))

pub returns-then-is_full-clause-acts : goal.returns-then-is_full-clause-acts
returns-then-is_full-clause-acts g c = rw (c.access.ensures.heap, c.access.ensures.grants)
    (λ attempt. raised_acts _ attempt _ _ c.requires.good DictStackOverflow
    (begin_full _ _ c.in-Some.ensures _ c.in-Some-as_dictionary.ensures _
    c.access.ensures.value (sym c.is_readable.ensures ∙ c.if-not-is_readable.false)
    (grind (arith, nat_tests, c.is_full.ensures, c.if-is_full.true))))

pub returns-clause-acts : goal.returns-clause-acts
returns-clause-acts g c = rw (
  c.access.ensures.heap,
  c.access.ensures.grants,
  c.discard.ensures,
  c.push_within.ensures,
)
    (λ attempt. stacked_acts _ _ _ _ _ attempt c.requires.good
    (rest_held (IsValue (g.M.Memory.heap c.args.runtime.now.memory)) _ c.requires.good.operands 1) (
      first_held (IsValue (g.M.Memory.heap c.args.runtime.now.memory)) _ c.requires.good.operands _
          c.in-Some.ensures,
      c.requires.good.dictionaries,
    )
    (begin_stacks _ _ c.in-Some.ensures _ c.in-Some-as_dictionary.ensures _
    c.access.ensures.value (sym c.is_readable.ensures ∙ c.if-not-is_readable.false)
    (grind (arith, nat_tests, c.is_full.ensures, c.if-is_full.false))))
