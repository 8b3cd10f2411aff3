-- The word of a name that is met, and what is lent once it is.
use Rattle.std.proofs.Common.{◌≡◌, ℕ, ◌<◌, ◌≤◌, ◌++◌, arith, Bool, true, false, List, [], ◌∷◌, length, slice_get}
use Rattle.std.proofs.Common.{Option, Some, None, refl, sym, ap, subst, ◌∙◌, bytes_eq}
use Rattle.std.specs.Prelude.{is_some, nat_le, option_map, unwrap_or, if◌then◌else◌}
use Rattle.std.specs.List.{position_or_len, list_any}
use Rattle.std.proofs.lemmas.Bool.Decides.{nat_tests}
use Rattle.std.proofs.lemmas.List.{append-nil, length_push}
use Rattle.std.proofs.lemmas.Option.{slice_get_within}
use Rattle.ps_language.specs.Dictionaries.{form, meet}
use Rattle.ps_language.specs.Limits.{name_limit, names_limit}
use Rattle.ps_language.specs.Value.{Store}
use Rattle.ps_word.specs.declared.words.Word.{Word}
use Rattle.ps_word.specs.declared.values.Content.TheVariants.{Name}
use Rattle.ps_word.specs.declared.values.Value.{Value as Packed}
use Rattle.ps_word.specs.Format.{value_in, IsWord}
use Rattle.ps_mem.specs.Meaning.{value_of}
use Rattle.ps_mem.specs.Shows.{IsWithin}
use Rattle.ps_names.specs.Names.{place_of, AreNames}
use Rattle.ps_names.proofs.Places.{any_position, meet_known, meet_new, next_place, names_with}
use Rattle.ps_ops_operands.proofs.Makers.{value_of-is}
use Rattle.ps_ops_types.proofs.First.{name_held}
use Rattle.ps_ops_state.specs.Lent.{Lent}
use Rattle.ps_step_execute.specs.Values.{IsLent}
use Rattle.ps_step_tokens.specs.declared.names.NameKind.{NameKind}
use Rattle.ps_step_tokens.specs.Names.{is_executed, name_in}

-- ---- the names

-- the name that is added, if any
abbrev pub added : List (List ℕ) → List ℕ → List (List ℕ)
added names text = if list_any (bytes_eq text) names then [] else text ∷ []

pub meet_is : (names : List (List ℕ)) (text : List ℕ) → meet names text ≡ names ++ added names text
meet_is names text = by (list_any (bytes_eq text) names)
  where
    by : (met : Bool) → (if met then names else names ++ text ∷ [])
        ≡ names ++ (if met then [] else text ∷ [])
    by true = sym (append-nil names)
    by false = refl

module _ (names : List (List ℕ)) (text : List ℕ) (are : AreNames names)
    (short : length text ≤ name_limit) where
  -- they are names once it is met
  pub met_names : (number : ℕ) → number ≡ position_or_len (bytes_eq text) names
      → number < names_limit → AreNames (meet names text)
  met_names number is below = by (place_of text names) refl
    where
      by : (found : Option ℕ) → place_of text names ≡ found → AreNames (meet names text)
      by (Some i) at = subst AreNames (meet_known text names i at) are
      by None at =
          let last = next_place text names at in
          subst AreNames (meet_new text names at)
          (names_with text names at are short (omega (arith, last, is, below)))

  pub met_formed : (new : List (List ℕ)) → new ≡ meet names text → AreNames new
      → form names (text ∷ []) ≡ Some new
  unfolding form
  met_formed new is news =
      let few = news.few in
      let fits : nat_le (length new) 65535 ≡ true = grind (arith, nat_tests, few) in
      rw (sym is, fits) refl

  pub new_formed : place_of text names ≡ None → length names < names_limit
      → form names (text ∷ []) ≡ Some (meet names text)
  new_formed unmet room =
      met_formed (meet names text) refl (subst AreNames (meet_new text names unmet)
      (names_with text names unmet are short room))

  pub none_formed : place_of text names ≡ None → length names ≡ names_limit
      → form names (text ∷ []) ≡ None
  unfolding form
  none_formed unmet full =
      let size = length_push names text in
      let past : nat_le (length (names ++ text ∷ [])) 65535 ≡ false =
      grind (arith, nat_tests, size, full) in
      rw (sym (meet_new text names unmet), past) refl

-- ---- the word

module _ (kind : NameKind) (w : Word) (number : ℕ)
    (is : value_in w.0 ≡ record { content = Name number; executable = is_executed kind })
    (names : List (List ℕ)) (text : List ℕ) (stands : slice_get names number ≡ Some text) where
  pub name_means : (births : ℕ → ℕ) → value_of births names w ≡ name_in kind text
  name_means births =
      value_of-is births names w (Name number) (is_executed kind) is
      ∙ ap (λ (found : Option (List ℕ)). name_in kind (unwrap_or found [])) stands

  pub name_within : (births : ℕ → ℕ) (s : Store) → IsWithin births names s w
  unfolding IsWithin
  name_within births s =
      rw (ap (λ (packed : Packed). packed.content) is) (slice_get_within names number text stands)

  pub name_lent : (l : Lent) → l.names ≡ names → IsWord w.0 → IsLent l w
  name_lent l same word = record {
    held = name_held w number (is_executed kind) is l.heap word;
    within = λ s shown. rw same (name_within _ s);
  }

-- one more where as many stand as may
pub over_full : (names : List (List ℕ)) (text : List ℕ) → place_of text names ≡ None
    → length names ≡ names_limit → names_limit < length (meet names text)
over_full names text unmet full =
    let size = length_push names text in
    subst (λ (ns : List (List ℕ)). names_limit < length ns) (meet_new text names unmet)
    (omega (arith, size, full))

-- one more where it is new
pub one_longer : (names : List (List ℕ)) (text : List ℕ) → place_of text names ≡ None
    → length names < length (meet names text)
one_longer names text unmet =
    let size = length_push names text in
    subst (λ (ns : List (List ℕ)). length names < length ns) (meet_new text names unmet)
    (omega (arith, size))

-- met where it is found
pub is_met : {A : Type 0} (number : A → ℕ) (found : Option A) (names : List (List ℕ))
    (text : List ℕ) → option_map number found ≡ place_of text names
    → list_any (bytes_eq text) names ≡ is_some found
is_met number found names text place =
    any_position (bytes_eq text) names ∙ (ap is_some (sym place) ∙ by found)
  where
    by : (o : Option _) → is_some (option_map number o) ≡ is_some o
    by (Some a) = refl
    by None = refl
