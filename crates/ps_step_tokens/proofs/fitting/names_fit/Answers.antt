-- Few by their elements, or counted until none is left or one is too many.
use Rattle.std.proofs.Common.{◌≡◌, ℕ, ◌<◌, ◌≤◌, ◌++◌, arith, true, false, not, [], ◌∷◌, length, Option, Some, None}
use Rattle.std.proofs.Common.{refl, sym, ap, subst, ◌∙◌, inl, inr}
use Rattle.std.specs.Prelude.{fold, is_some, nat_le, option_map}
use Rattle.std.proofs.lemmas.Bool.{true≢false, cases_Bool}
use Rattle.std.proofs.lemmas.Bool.Decides.{nat_tests}
use Rattle.std.proofs.lemmas.List.{length_push}
use Rattle.ps_language.specs.Dictionaries.{meet}
use Rattle.ps_language.specs.StepTokens.{names_in}
use Rattle.ps_scan.specs.Shown.{part_of}
use Rattle.ps_step_tokens.specs.Fitting.{IsLeast, is_new}
use Rattle.ps_step_tokens.specs.Procedures.{tokens_in}
use Rattle.ps_step_tokens.proofs.Counting.{IsWalked, walk_starts, walk_goes_on, at_least, at_most}
use Rattle.ps_step_tokens.proofs.Walking.{fold_few, names_few}
use Rattle.ps_step_tokens.proofs.fitting.names_fit.Goals as goal

fits : (n : ℕ) → n ≤ 65535 → true ≡ nat_le n 65535
fits n few = grind (arith, nat_tests, few)

exceeds : (n : ℕ) → 65535 < n → false ≡ nat_le n 65535
exceeds n many = grind (arith, nat_tests, many)

none_is : {A : Type 0} (o : Option A) → is_some o ≡ false → o ≡ None
none_is None is = refl
none_is (Some a) is = absurd (true≢false is)

some_is : {A : Type 0} (o : Option A) → is_some o ≡ true → (a : A) × (o ≡ Some a)
some_is None is = absurd (true≢false (sym is))
some_is (Some a) is = (a, refl)

pub returns-then-surely_fit : goal.returns-then-surely_fit
returns-then-surely_fit c =
    let names = c.args.names.now in
    let content = tokens_in c.args.text.now c.args.elements.now in
    let room = c.surely_fit.ensures c.if-surely_fit.true c.args.text.now in
    let few = names_few content in
    let most = fold_few names (names_in content) in
    fits (length (fold meet names (names_in content))) (omega (arith, room, few, most))

pub loop-place-init : goal.loop-place-init
loop-place-init c =
    let names = c.args.names.now in
    let content = tokens_in c.args.text.now c.args.elements.now in
    let are = c.len-count.ensures.names in (
      [],
      omega (arith, c.len-count.ensures.count),
      omega (arith, c.len-count.ensures.count, are.few),
      walk_starts names (names_in content) are,
    )

pub returns-then-is_none : goal.returns-then-is_none
returns-then-is_none c =
    let names = c.args.names.now in
    let text = c.args.text.now in
    let texts = names_in (tokens_in text c.args.elements.now) in
    let last = option_map (part_of text) c.loop-place.last in
    let v = c.loop-place.invariant in
    let none = none_is c.next_name-next.result (c.is_none.ensures ∙ ap not c.if-is_none.true) in
    let most = at_most names texts last v.0 v.3 c.len-count.ensures.names
    (subst (λ o. IsLeast (is_new names last) texts (option_map (part_of text) o)) none
    c.next_name-next.ensures) in
    fits (length (fold meet names texts)) (omega (arith, most, v.1, v.2))

pub loop-place-preserved : goal.loop-place-preserved
loop-place-preserved c =
    let names = c.args.names.now in
    let text = c.args.text.now in
    let texts = names_in (tokens_in text c.args.elements.now) in
    let last = option_map (part_of text) c.loop-place.last in
    let v = c.loop-place.invariant in
    let some = some_is c.next_name-next.result (c.is_none.ensures ∙ ap not c.if-is_none.false) in
    let next = part_of text some.0 in
    let longer = length_push v.0 next in (
      v.0 ++ next ∷ [],
      omega (arith, v.1, longer),
      omega (arith, c.loop-place-test.true),
      subst (λ o. IsWalked names texts (option_map (part_of text) o) (v.0 ++ next ∷ []))
          (sym some.1)
          (walk_goes_on names texts last v.0 v.3 next
          (subst (λ o. IsLeast (is_new names last) texts (option_map (part_of text) o)) some.1
          c.next_name-next.ensures)),
    )

pub returns : goal.returns
returns c =
    let names = c.args.names.now in
    let text = c.args.text.now in
    let texts = names_in (tokens_in text c.args.elements.now) in
    let last = option_map (part_of text) c.loop-place.last in
    let v = c.loop-place.invariant in
    elim (cases_Bool c.is_none-2.result) [
      | inl ended ↦
          let none = none_is c.next_name.result (c.is_none-2.ensures ∙ ap not ended) in
          let most = at_most names texts last v.0 v.3 c.len-count.ensures.names
          (subst (λ o. IsLeast (is_new names last) texts (option_map (part_of text) o)) none
          c.next_name.ensures) in
          ended ∙ fits (length (fold meet names texts)) (omega (arith, most, v.1, v.2))
      | inr more ↦
          let some = some_is c.next_name.result (c.is_none-2.ensures ∙ ap not more) in
          let next = part_of text some.0 in
          let longer = length_push v.0 next in
          let least = at_least names texts (Some next) (v.0 ++ next ∷ [])
          (walk_goes_on names texts last v.0 v.3 next
          (subst (λ o. IsLeast (is_new names last) texts (option_map (part_of text) o)) some.1
          c.next_name.ensures)) in
          more ∙ exceeds (length (fold meet names texts))
          (omega (arith, least, longer, v.1, c.loop-place-test.false))
    ]
