-- An integer stays, the number of a string is left, or there is one of the errors.
use Rattle.std.proofs.Common.{◌≡◌, Ok, Err, refl, sym, ap, ◌∙◌, is_some, to_z, of_z, w32, arith}
use Rattle.std.proofs.lemmas.Int.{ints}
use Rattle.ps_language.specs.Readers.{integer}
use Rattle.ps_language.specs.declared.errors.ErrorName.TheVariants.{InvalidAccess, LimitCheck, SyntaxError, TypeCheck}
use Rattle.ps_mem.specs.Heap.{birth_at}
use Rattle.ps_mem.specs.Shows.{IsValue, IsWithin}
use Rattle.ps_ops_operands.proofs.Held.{first_held, rest_held}
use Rattle.ps_ops_operands.proofs.Ready.{plain_value}
use Rattle.ps_scan.specs.declared.firsts.NumberFault.TheVariants.{NoNumber, Syntax, Limit}
use Rattle.ps_ops_state.proofs.Acting.{raised_acts}
use Rattle.ps_ops_state.proofs.Direct.{words_acts}
use Rattle.ps_ops_values.proofs.NumberRow.{cvi_stays, cvi_wrong, cvi_hidden, cvi_read, cvi_left}
use Rattle.ps_ops_values.proofs.numbers.cvi.Goals as goal

pub returns-then-is_some : goal.returns-then-is_some
returns-then-is_some g c = record {
  acts = λ attempt. words_acts _ attempt _ _ _ c.requires.good c.requires.good.operands
      (cvi_stays _ _ c.in-Some.ensures (ap is_some (c.integer_of.ensures _ _)
      ∙ (sym c.is_some.ensures ∙ c.if-is_some.true)) attempt);
  frames = refl;
}

pub returns-in_default-string_of : goal.returns-in_default-string_of
returns-in_default-string_of g c = record {
  acts = λ attempt. raised_acts _ attempt _ _ c.requires.good TypeCheck
      (cvi_wrong _ _ c.in-Some.ensures (ap is_some (c.integer_of.ensures _ _)
      ∙ (sym c.is_some.ensures ∙ c.if-is_some.false)) (c.in_default-string_of.ensures.part _ _));
  frames = refl;
}

pub returns-then-not-is_readable : goal.returns-then-not-is_readable
returns-then-not-is_readable g c = record {
  acts = λ attempt. raised_acts _ attempt _ _ c.requires.good InvalidAccess
      (cvi_hidden _ _ c.in-Some.ensures _ (c.in-Some-string_of.ensures.part _ _)
      (sym c.is_readable.ensures ∙ c.if-not-is_readable.true));
  frames = refl;
}

pub returns-in-Ok : goal.returns-in-Ok
returns-in-Ok g c =
    let h = g.M.Memory.heap c.args.runtime.now.memory in
    let same : to_z w32 (of_z w32 c.in-Ok.number) ≡ c.in-Ok.number = omega (arith, ints) in
    rw (c.number_of_string.ensures.heap, c.number_of_string.ensures.grants, c.replace.ensures)
    (record {
      acts = λ attempt. words_acts _ attempt _ _ _ c.requires.good (
        plain_value h _ c.integer.ensures.plain,
        rest_held (IsValue h) _ c.requires.good.operands 1,
      )
          (cvi_left _ _ c.in-Some.ensures _ (c.in-Some-string_of.ensures.part _ _)
          (sym c.is_readable.ensures ∙ c.if-not-is_readable.false) (Ok c.in-Ok.number)
          (λ store shown. c.in-Ok.ensures.value _ store shown.shows
          (c.in-Some-string_of.ensures.within (birth_at h) _ store
          (first_held (IsWithin (birth_at h) _ store) _ shown.operands _ c.in-Some.ensures)))
          c.in-Ok.number refl attempt _ c.integer.ensures.plain
          (λ births names. c.integer.ensures.value births names ∙ ap integer same));
      frames = refl;
    })

pub returns-in-Err-NoNumber : goal.returns-in-Err-NoNumber
returns-in-Err-NoNumber g c =
    let h = g.M.Memory.heap c.args.runtime.now.memory in
    let read = rw c.in-Err-NoNumber.field-0-is at c.in-Err-NoNumber.ensures.value in
    rw (c.number_of_string.ensures.heap, c.number_of_string.ensures.grants)
    (record {
      acts = λ attempt. raised_acts _ attempt _ _ c.requires.good TypeCheck
          (cvi_read _ _ c.in-Some.ensures _ (c.in-Some-string_of.ensures.part _ _)
          (sym c.is_readable.ensures ∙ c.if-not-is_readable.false) (Err NoNumber)
          (λ store shown. read _ store shown.shows
          (c.in-Some-string_of.ensures.within (birth_at h) _ store
          (first_held (IsWithin (birth_at h) _ store) _ shown.operands _ c.in-Some.ensures))));
      frames = refl;
    })

pub returns-in-Err-Syntax : goal.returns-in-Err-Syntax
returns-in-Err-Syntax g c =
    let h = g.M.Memory.heap c.args.runtime.now.memory in
    let read = rw c.in-Err-Syntax.field-0-is at c.in-Err-Syntax.ensures.value in
    rw (c.number_of_string.ensures.heap, c.number_of_string.ensures.grants)
    (record {
      acts = λ attempt. raised_acts _ attempt _ _ c.requires.good SyntaxError
          (cvi_read _ _ c.in-Some.ensures _ (c.in-Some-string_of.ensures.part _ _)
          (sym c.is_readable.ensures ∙ c.if-not-is_readable.false) (Err Syntax)
          (λ store shown. read _ store shown.shows
          (c.in-Some-string_of.ensures.within (birth_at h) _ store
          (first_held (IsWithin (birth_at h) _ store) _ shown.operands _ c.in-Some.ensures))));
      frames = refl;
    })

pub returns-in-Err-Limit : goal.returns-in-Err-Limit
returns-in-Err-Limit g c =
    let h = g.M.Memory.heap c.args.runtime.now.memory in
    let read = rw c.in-Err-Limit.field-0-is at c.in-Err-Limit.ensures.value in
    rw (c.number_of_string.ensures.heap, c.number_of_string.ensures.grants)
    (record {
      acts = λ attempt. raised_acts _ attempt _ _ c.requires.good LimitCheck
          (cvi_read _ _ c.in-Some.ensures _ (c.in-Some-string_of.ensures.part _ _)
          (sym c.is_readable.ensures ∙ c.if-not-is_readable.false) (Err Limit)
          (λ store shown. read _ store shown.shows
          (c.in-Some-string_of.ensures.within (birth_at h) _ store
          (first_held (IsWithin (birth_at h) _ store) _ shown.operands _ c.in-Some.ensures))));
      frames = refl;
    })
