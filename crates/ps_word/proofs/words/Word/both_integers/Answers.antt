use Rattle.std.proofs.Common.{rules, w32, ◌≡◌, ℕ, ◌+◌, ◌-◌, ◌/◌, ◌%◌, ◌^◌, ◌<◌, arith, Some, None, refl, ◌∙◌}
use Rattle.std.specs.Prelude.{FitsSigned}
use Rattle.std.proofs.lemmas.Int.{to_z-of_z}
use Rattle.std.proofs.lemmas.Nat.{le_or_l, le_or_r, or_lt}
use native.Mathlib.Decide.{ℕ_discrete}
use Rattle.ps_word.specs.declared.values.Content.{Content}
use Rattle.ps_word.specs.declared.values.Content.TheVariants.{Integer}
use Rattle.ps_word.specs.Readers.{as_integer, both_integers}
use Rattle.ps_word.proofs.Places.{content_in-at, as_integer-other}
use Rattle.ps_word.proofs.words.Word.both_integers.Goals as goal

-- what the word has above the least of an integer
abbrev above_integer : ℕ → ℕ
above_integer w = (w + (2 ^ 64 - 2 ^ 60)) % 2 ^ 64

pub returns-then-self-other-lt-TYPE : goal.returns-then-self-other-lt-TYPE
returns-then-self-other-lt-TYPE c =
    let w = c.args.self.0 in
    let v = c.args.other.0 in
    let less = c.if-self-other-lt-TYPE.true in
    let left : w / 2 ^ 60 ≡ 1 =
    omega (arith, less, le_or_l (above_integer w) (above_integer v)) in
    let right : v / 2 ^ 60 ≡ 1 =
    omega (arith, less, le_or_r (above_integer w) (above_integer v)) in
    let i_fits : FitsSigned w32 c.low_integer.result = search rules in
    let j_fits : FitsSigned w32 c.low_integer-then-self-other-lt-TYPE.result = search rules in
    let i_is = to_z-of_z w32 _ i_fits ∙ c.low_integer.ensures in
    let j_is = to_z-of_z w32 _ j_fits ∙ c.low_integer-then-self-other-lt-TYPE.ensures in
    rw (content_in-at w 1 left, content_in-at v 1 right) (λ at. Some (i_is at, j_is at))

none_first : (c d : Content) → None ≡ as_integer c → None ≡ both_integers c d
none_first (Integer i) d none = absurd (cc)
none_first _ d none = refl

none_second : (c d : Content) → None ≡ as_integer d → None ≡ both_integers c d
none_second (Integer i) (Integer j) none = absurd (cc)
none_second (Integer i) _ none = refl
none_second _ d none = refl

pub returns-else-self-other-lt-TYPE : goal.returns-else-self-other-lt-TYPE
returns-else-self-other-lt-TYPE c =
    let w = c.args.self.0 in
    let v = c.args.other.0 in
    elim (ℕ_discrete (w / 2 ^ 60) 1) [
      | no n ↦ none_first _ _ (as_integer-other w n)
      | yes left ↦
          elim (ℕ_discrete (v / 2 ^ 60) 1) [
            | no n ↦ none_second _ _ (as_integer-other v n)
            | yes right ↦
                let i : above_integer w < 2 ^ 60 = omega (arith, left) in
                let j : above_integer v < 2 ^ 60 = omega (arith, right) in
                absurd (omega (
                  arith,
                  c.if-self-other-lt-TYPE.false,
                  or_lt 60 (above_integer w) (above_integer v) i j,
                ))
          ]
    ]
