-- The least of texts that pass a test, one run of them after another.
use Rattle.std.proofs.Common.{◌≡◌, ℕ, ◌++◌, ◌⊎◌, Bool, true, false, List, [], ◌∷◌, Option, Some, None, refl, sym, ap}
use Rattle.std.proofs.Common.{◌∙◌, inl, inr, bytes_eq, Ordering, Less, Equal, Greater}
use Rattle.std.specs.Prelude.{if◌then◌else◌}
use Rattle.std.specs.Cmp.Lexicographic.{slice_cmp}
use Rattle.std.specs.Ordering.{is_lt, is_gt, is_eq, nat_cmp, ordering_reverse}
use Rattle.std.proofs.lemmas.Bool.{true≢false, or_cases, or_left, or_right, false_from_ne_true}
use Rattle.std.proofs.lemmas.Cmp.{nat_list_cmp_total, tied_itself, upto}
use Rattle.std.proofs.lemmas.List.Folds.{list_any-append}
use Rattle.std.proofs.lemmas.Map.Text.{is_eq-slice_cmp}
use Rattle.std.proofs.lemmas.Slice.Eq.{bytes_eq-Decides}
use Rattle.ps_step_tokens.specs.Fitting.{IsAmong, IsLeast, is_before, lesser}

-- ---- the order of texts

is_less : (o : Ordering) → is_lt o ≡ true → o ≡ Less
is_less Less is = refl
is_less Equal is = absurd (true≢false (sym is))
is_less Greater is = absurd (true≢false (sym is))

turned : (o : Ordering) → is_lt (ordering_reverse o) ≡ is_gt o
turned Less = refl
turned Equal = refl
turned Greater = refl

tied : (o : Ordering) → is_lt o ≡ false → is_gt o ≡ false → is_eq o ≡ true
tied Less below above = absurd (true≢false below)
tied Equal below above = refl
tied Greater below above = absurd (true≢false above)

back : (one other : List ℕ) → is_before other one ≡ is_gt (slice_cmp nat_cmp one other)
back one other =
    ap is_lt (nat_list_cmp_total.antisymm other one) ∙ turned (slice_cmp nat_cmp one other)

pub before_more : (a b c : List ℕ) → is_before a b ≡ true → is_before b c ≡ true
    → is_before a c ≡ true
before_more a b c first second =
    ap is_lt (nat_list_cmp_total.trans a b c (is_less _ first) (is_less _ second))

pub not_before_more : (a b c : List ℕ) → is_before b a ≡ false → is_before c b ≡ false
    → is_before c a ≡ false
not_before_more a b c first second =
    back a c ∙ upto nat_list_cmp_total a b c (sym (back a b) ∙ first) (sym (back b c) ∙ second)

pub not_before_itself : (a : List ℕ) → is_before a a ≡ false
not_before_itself a = ap is_lt (tied_itself nat_list_cmp_total a)

pub neither_before : (a b : List ℕ) → is_before a b ≡ false → is_before b a ≡ false → a ≡ b
neither_before a b first second =
    (bytes_eq-Decides a b).0
    (sym (is_eq-slice_cmp a b) ∙ tied _ first (sym (back a b) ∙ second))

-- ---- texts among others

module _ (text : List ℕ) (xs ys : List (List ℕ)) where
  pub among_cases : IsAmong text (xs ++ ys) → IsAmong text xs ⊎ IsAmong text ys
  among_cases among =
      or_cases _ _ (sym (list_any-append (bytes_eq text) xs ys) ∙ among)

  pub among_left : IsAmong text xs → IsAmong text (xs ++ ys)
  among_left among = list_any-append (bytes_eq text) xs ys ∙ or_left _ _ among

  pub among_right : IsAmong text ys → IsAmong text (xs ++ ys)
  among_right among = list_any-append (bytes_eq text) xs ys ∙ or_right _ _ among

pub among_itself : (text : List ℕ) → IsAmong text (text ∷ [])
among_itself text = or_left _ _ ((bytes_eq-Decides text text).1 refl)

pub among_one : (text one : List ℕ) → IsAmong text (one ∷ []) → text ≡ one
among_one text one among = elim (or_cases (bytes_eq text one) false among) [
  | inl same ↦ (bytes_eq-Decides text one).0 same
  | inr none ↦ absurd (true≢false (sym none))
]

-- ---- the least

module _ (test : List ℕ → Bool) where
  pub least_one : (text : List ℕ) → test text ≡ true → IsLeast test (text ∷ []) (Some text)
  least_one text passes = (
    among_itself text,
    passes,
    λ other among other_passes.
        ap (λ (t : List ℕ). is_before t text) (among_one other text among)
        ∙ not_before_itself text,
  )

  pub least_no_one : (text : List ℕ) → test text ≡ false → IsLeast test (text ∷ []) None
  least_no_one text fails = λ other among. ap test (among_one other text among) ∙ fails

  module _ (xs ys : List (List ℕ)) where
    pub least_more : (first other : Option (List ℕ)) → IsLeast test xs first
        → IsLeast test ys other → IsLeast test (xs ++ ys) (lesser first other)
    least_more None None none least = λ text among. elim (among_cases text xs ys among) [
      | inl left ↦ none text left
      | inr right ↦ least text right
    ]
    least_more None (Some b) none least = (
      among_right b xs ys least.0,
      least.1,
      λ text among passes. elim (among_cases text xs ys among) [
        | inl left ↦ absurd (true≢false (sym passes ∙ none text left))
        | inr right ↦ least.2 text right passes
      ],
    )
    least_more (Some a) None least none = (
      among_left a xs ys least.0,
      least.1,
      λ text among passes. elim (among_cases text xs ys among) [
        | inl left ↦ least.2 text left passes
        | inr right ↦ absurd (true≢false (sym passes ∙ none text right))
      ],
    )
    least_more (Some a) (Some b) least other = by (is_before b a) refl
      where
        by : (before : Bool) → is_before b a ≡ before
            → IsLeast test (xs ++ ys) (if before then Some b else Some a)
        by true is = (
          among_right b xs ys other.0,
          other.1,
          λ text among passes. elim (among_cases text xs ys among) [
            | inl left ↦ false_from_ne_true (is_before text b) (λ e.
                true≢false (sym (before_more text b a e is) ∙ least.2 text left passes))
            | inr right ↦ other.2 text right passes
          ],
        )
        by false is = (
          among_left a xs ys least.0,
          least.1,
          λ text among passes. elim (among_cases text xs ys among) [
            | inl left ↦ least.2 text left passes
            | inr right ↦ not_before_more a b text is (other.2 text right passes)
          ],
        )
