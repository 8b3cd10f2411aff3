use Rattle.std.proofs.Common.{◌≡◌, ℕ, zero, suc, ◌/◌, ◌%◌, ◌^◌, ◌<◌, arith, Bool, true, false, Some, None, refl, ap}
use Rattle.std.proofs.Common.{nat_eq}
use Rattle.std.proofs.lemmas.Bool.Decides.{nat_tests}
use native.Mathlib.Decide.{ℕ_discrete}
use Rattle.ps_language.specs.Access.{is_executable}
use Rattle.ps_word.specs.declared.values.Content.{Content}
use Rattle.ps_word.specs.declared.values.Content.TheVariants.{Array}
use Rattle.ps_word.specs.Format.{access_of, executable_in}
use Rattle.ps_word.specs.Readers.{as_array, as_enterable}
use Rattle.ps_word.proofs.Places.{content_in-at, as_array-other}
use Rattle.ps_word.proofs.words.Word.as_enterable.Goals as goal

-- all accesses but the last permit execution
permits : (n : ℕ) → n < 3 → is_executable (access_of n) ≡ true
permits zero few = refl
permits (suc zero) few = refl
permits (suc (suc zero)) few = refl
permits (suc (suc (suc n))) few = absurd (omega (arith, few))

pub returns-then-self-lt3 : goal.returns-then-self-lt3
unfolding executable_in
returns-then-self-lt3 c =
    let w = c.args.self.0 in
    let few = c.if-self-lt3.true in
    let odd : (w / 2 ^ 59) % 2 ≡ 1 = omega (arith, few) in
    let array : w / 2 ^ 60 ≡ 6 = omega (arith, few) in
    let access : (w / 2 ^ 57) % 4 < 3 = omega (arith, few) in
    rw (odd, content_in-at w 6 array, permits _ access) (ap Some c.part.ensures)

no_array : (executable : Bool) (c : Content) → None ≡ as_array c → None ≡ as_enterable executable c
no_array true (Array part) none = absurd (cc)
no_array true _ none = refl
no_array false _ none = refl

pub returns-else-self-lt3 : goal.returns-else-self-lt3
unfolding executable_in
returns-else-self-lt3 c =
    let w = c.args.self.0 in
    elim (ℕ_discrete (w / 2 ^ 60) 6) [
      | no n ↦ no_array _ _ (as_array-other w n)
      | yes array ↦
          elim (ℕ_discrete ((w / 2 ^ 59) % 2) 1) [
            | no even ↦
                let literal : nat_eq ((w / 2 ^ 59) % 2) 1 ≡ false =
                grind (arith, nat_tests, even) in
                rw literal refl
            | yes odd ↦
                let access : (w / 2 ^ 57) % 4 ≡ 3 =
                omega (arith, c.if-self-lt3.false, array, odd) in
                rw (odd, content_in-at w 6 array, access) refl
          ]
    ]
