-- How many names there are once others are met, by the new ones found.
use Rattle.std.proofs.Common.{◌≡◌, ℕ, ◌+◌, ◌≤◌, ◌++◌, ◌⊎◌, arith, Bool, true, false, not, List, [], ◌∷◌, length, Option}
use Rattle.std.proofs.Common.{Some, None, refl, sym, ap, subst, ◌∙◌, inl, inr, append-nil, append_assoc, length-append}
use Rattle.std.proofs.Common.{bytes_eq}
use Rattle.std.specs.Prelude.{fold, if◌then◌else◌}
use Rattle.std.specs.List.{IsDistinct, list_any}
use Rattle.std.proofs.lemmas.Bool.{true≢false, and_parts, and_from, cases_Bool, not_from_false, false_from_ne_true}
use Rattle.std.proofs.lemmas.Cmp.{nat_list_eq_equiv}
use Rattle.std.proofs.lemmas.Map.Keys.{IsDistinct-push}
use Rattle.std.proofs.lemmas.Map.Made.{IsDistinct-from_AllPairs, length-le_from_is_member}
use Rattle.std.proofs.lemmas.Slice.Eq.{bytes_eq-Decides}
use Rattle.ps_language.specs.Dictionaries.{meet}
use Rattle.ps_names.specs.Names.{AreNames}
use Rattle.ps_step_tokens.specs.Fitting.{IsAmong, IsLeast, is_before, is_behind, is_new}
use Rattle.ps_step_tokens.proofs.Least.{among_cases, among_itself, among_left, among_one, among_right, before_more}
use Rattle.ps_step_tokens.proofs.Least.{neither_before, not_before_itself}

-- ---- the names that are met

module _ (text : List ℕ) where
  meet_cases : (names : List (List ℕ)) (one : List ℕ) → IsAmong text (meet names one)
      → IsAmong text names ⊎ (text ≡ one)
  meet_cases names one = by (list_any (bytes_eq one) names)
    where
      by : (met : Bool) → IsAmong text (if met then names else names ++ one ∷ [])
          → IsAmong text names ⊎ (text ≡ one)
      by true among = inl among
      by false among = elim (among_cases text names (one ∷ []) among) [
        | inl left ↦ inl left
        | inr right ↦ inr (among_one text one right)
      ]

  meet_stays : (names : List (List ℕ)) (one : List ℕ) → IsAmong text names
      → IsAmong text (meet names one)
  meet_stays names one among = by (list_any (bytes_eq one) names)
    where
      by : (met : Bool) → IsAmong text (if met then names else names ++ one ∷ [])
      by true = among
      by false = among_left text names (one ∷ []) among

meet_itself : (names : List (List ℕ)) (one : List ℕ) → IsAmong one (meet names one)
meet_itself names one = by (list_any (bytes_eq one) names) refl
  where
    by : (met : Bool) → list_any (bytes_eq one) names ≡ met
        → IsAmong one (if met then names else names ++ one ∷ [])
    by true is = is
    by false is = among_right one names (one ∷ []) (among_itself one)

meet_distinct : (names : List (List ℕ)) (one : List ℕ) → IsDistinct bytes_eq names
    → IsDistinct bytes_eq (meet names one)
meet_distinct names one distinct = by (list_any (bytes_eq one) names) refl
  where
    by : (met : Bool) → list_any (bytes_eq one) names ≡ met
        → IsDistinct bytes_eq (if met then names else names ++ one ∷ [])
    by true is = distinct
    by false is = IsDistinct-push nat_list_eq_equiv names one distinct is

module _ (text : List ℕ) where
  fold_cases : (names texts : List (List ℕ)) → IsAmong text (fold meet names texts)
      → IsAmong text names ⊎ IsAmong text texts
  fold_cases names [] among = inl among
  fold_cases names (one ∷ texts) among =
      elim (fold_cases (meet names one) texts among) [
        | inl met ↦ elim (meet_cases text names one met) [
          | inl left ↦ inl left
          | inr same ↦ inr (among_left text (one ∷ []) texts
              (subst (λ (t : List ℕ). IsAmong text (t ∷ [])) same (among_itself text)))
        ]
        | inr later ↦ inr (among_right text (one ∷ []) texts later)
      ]

  pub fold_stays : (names texts : List (List ℕ)) → IsAmong text names
      → IsAmong text (fold meet names texts)
  fold_stays names [] among = among
  fold_stays names (one ∷ texts) among =
      fold_stays (meet names one) texts (meet_stays text names one among)

  pub fold_has : (names texts : List (List ℕ)) → IsAmong text texts
      → IsAmong text (fold meet names texts)
  fold_has names [] among = absurd (true≢false (sym among))
  fold_has names (one ∷ texts) among = elim (among_cases text (one ∷ []) texts among) [
    | inl first ↦ fold_stays (meet names one) texts
        (subst (λ (t : List ℕ). IsAmong t (meet names one)) (sym (among_one text one first))
        (meet_itself names one))
    | inr later ↦ fold_has (meet names one) texts later
  ]

fold_distinct : (names texts : List (List ℕ)) → IsDistinct bytes_eq names
    → IsDistinct bytes_eq (fold meet names texts)
fold_distinct names [] distinct = distinct
fold_distinct names (one ∷ texts) distinct =
    fold_distinct (meet names one) texts (meet_distinct names one distinct)

-- ---- the new names up to the last one

-- of one behind the last one, and one that is not
behind_apart : (last : Option (List ℕ)) (text one : List ℕ) → is_behind last one ≡ true
    → is_behind last text ≡ false → is_before one text ≡ false
behind_apart None text one behind up_to = absurd (true≢false up_to)
behind_apart (Some l) text one behind up_to =
    false_from_ne_true (is_before one text)
    (λ e. true≢false (sym (before_more l one text behind e) ∙ up_to))

module _ (names texts : List (List ℕ)) where
  -- these are they
  pub record IsWalked (last : Option (List ℕ)) (found : List (List ℕ)) : Type 0 where
    pub distinct : IsDistinct bytes_eq (names ++ found)
    pub among : (text : List ℕ) → IsAmong text found → IsAmong text texts
    pub up_to : (text : List ℕ) → IsAmong text found → is_behind last text ≡ false
    pub all : (text : List ℕ) → IsAmong text texts → list_any (bytes_eq text) names ≡ false
        → is_behind last text ≡ false → IsAmong text found

  pub walk_starts : AreNames names → IsWalked None []
  walk_starts are = record {
    distinct = subst (IsDistinct bytes_eq) (sym (append-nil names))
        (IsDistinct-from_AllPairs bytes_eq-Decides names are.different);
    among = λ text none. absurd (true≢false (sym none));
    up_to = λ text none. absurd (true≢false (sym none));
    all = λ text among new up_to. absurd (true≢false up_to);
  }

  module _ (last : Option (List ℕ)) (found : List (List ℕ)) (walked : IsWalked last found) where
    -- one more
    module _ (next : List ℕ) (least : IsLeast (is_new names last) texts (Some next)) where
      unmet : list_any (bytes_eq next) names ≡ false
      unmet =
          let passed = and_parts _ _ least.1 in
          false_from_ne_true _ (λ e. true≢false (sym passed.0 ∙ ap not e))

      behind : is_behind last next ≡ true
      behind = (and_parts _ _ least.1).1

      absent : list_any (bytes_eq next) (names ++ found) ≡ false
      absent = false_from_ne_true _ (λ e. elim (among_cases next names found e) [
        | inl met ↦ true≢false (sym met ∙ unmet)
        | inr there ↦ true≢false (sym behind ∙ walked.up_to next there)
      ])

      found_or : (text : List ℕ) → IsAmong text texts → list_any (bytes_eq text) names ≡ false
          → is_before next text ≡ false
          → ((is_behind last text ≡ true) ⊎ (is_behind last text ≡ false))
          → IsAmong text (found ++ next ∷ [])
      found_or text among new up_to (inl past) =
          among_right text found (next ∷ []) (subst (λ (t : List ℕ). IsAmong text (t ∷ []))
          (neither_before text next
          (least.2 text among (and_from _ _ (not_from_false _ new) past)) up_to)
          (among_itself text))
      found_or text among new up_to (inr before) =
          among_left text found (next ∷ []) (walked.all text among new before)

      pub walk_goes_on : IsWalked (Some next) (found ++ next ∷ [])
      walk_goes_on = record {
        distinct = subst (IsDistinct bytes_eq) (append_assoc names found (next ∷ []))
            (IsDistinct-push nat_list_eq_equiv (names ++ found) next walked.distinct absent);
        among = λ text there. elim (among_cases text found (next ∷ []) there) [
          | inl before ↦ walked.among text before
          | inr now ↦ subst (λ (t : List ℕ). IsAmong t texts)
              (sym (among_one text next now)) least.0
        ];
        up_to = λ text there. elim (among_cases text found (next ∷ []) there) [
          | inl before ↦ behind_apart last text next behind (walked.up_to text before)
          | inr now ↦ ap (is_before next) (among_one text next now) ∙ not_before_itself next
        ];
        all = λ text among new up_to.
            found_or text among new up_to (cases_Bool (is_behind last text));
      }

    -- all that are found are met
    pub at_least : length names + length found ≤ length (fold meet names texts)
    at_least =
        let most = length-le_from_is_member nat_list_eq_equiv (names ++ found)
        (fold meet names texts) walked.distinct (λ text there.
        elim (among_cases text names found there) [
          | inl met ↦ fold_stays text names texts met
          | inr new ↦ fold_has text names texts (walked.among text new)
        ]) in
        let size = length-append names found in
        omega (arith, most, size)

    -- and no others, where none is left
    pub at_most : AreNames names → IsLeast (is_new names last) texts None
        → length (fold meet names texts) ≤ length names + length found
    at_most are none =
        let most = length-le_from_is_member nat_list_eq_equiv (fold meet names texts)
        (names ++ found) (fold_distinct names texts
        (IsDistinct-from_AllPairs bytes_eq-Decides names are.different)) (λ text there.
        by text there (cases_Bool (list_any (bytes_eq text) names))) in
        let size = length-append names found in
        omega (arith, most, size)
      where
        by : (text : List ℕ) → IsAmong text (fold meet names texts)
            → (IsAmong text names ⊎ (list_any (bytes_eq text) names ≡ false))
            → IsAmong text (names ++ found)
        by text there (inl met) = among_left text names found met
        by text there (inr new) = elim (fold_cases text names texts there) [
          | inl met ↦ absurd (true≢false (sym met ∙ new))
          | inr among ↦ among_right text names found (walked.all text among new
              (false_from_ne_true _ (λ e. true≢false
              (sym (and_from _ _ (not_from_false _ new) e) ∙ none text among))))
        ]
