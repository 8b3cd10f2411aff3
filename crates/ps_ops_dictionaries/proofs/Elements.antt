-- Keys among the values above a mark.
use Rattle.std.proofs.Common.{◌≡◌, ℕ, zero, suc, ◌+◌, ◌*◌, ◌≤◌, ◌++◌, arith, Bool, true, false, List, [], ◌∷◌, drop}
use Rattle.std.proofs.Common.{length, slice_get, Some, Ok, Err, true≢false, refl, sym, ap, subst, ◌∙◌, ◌⊎◌, inl, inr}
use Rattle.std.proofs.Common.{length-append, bytes_eq}
use Rattle.std.specs.Prelude.{fold, ◌&&◌, if◌then◌else◌}
use Rattle.std.specs.List.{AllByRecursion, list_all, list_any, flat_map}
use Rattle.arrayvec.specs.ArrayVec.{ArrayVec}
use Rattle.ps_language.specs.Dictionaries.{fits_key, meet, texts_of_key}
use Rattle.ps_language.specs.RowsDictionaries.{keys_among}
use Rattle.ps_language.specs.Value.{Value, Store}
use Rattle.ps_word.specs.declared.words.Word.{Word}
use Rattle.ps_mem.specs.Heap.{Heap, birth_at}
use Rattle.ps_mem.specs.Meaning.{value_of}
use Rattle.ps_mem.specs.Shows.{AreWithin, IsWithin, Shows}
use Rattle.ps_mem.proofs.NameLemmas.{value_of-named, IsWithin-named, Shows-named}
use Rattle.ps_ops_operands.proofs.Marks.{value_at}
use Rattle.ps_ops_operands.specs.Changes.{values_in}
use Rattle.ps_names.specs.Names.{place_of}
use Rattle.ps_names.proofs.Places.{meet_known, meet_new}
use Rattle.ps_ops_state.specs.declared.breaks.Break.{Break}
use Rattle.ps_ops_state.specs.declared.breaks.Break.TheVariants.{Unwinds, Raises, NotMade}
use Rattle.ps_step_lookup.specs.declared.keys.Key.{Key}
use Rattle.ps_step_lookup.specs.declared.keys.Key.TheVariants.{Met, Unmet, TooLong}
use Rattle.ps_step_lookup.specs.Keys.{IsKeyIn, IsKeyOf, IsForming, names_with}
use Rattle.ps_ops_dictionaries.specs.Literals.{IsNamesFault, met_among, texts_among}

next_two : (i : ℕ) → 2 * suc i ≡ suc (suc (2 * i))
next_two i = omega arith

-- the key at a place comes first of those from there on
pub keys_from : (values : List Value) (i : ℕ) (k : Value) → slice_get values (2 * i) ≡ Some k
    → keys_among (drop (2 * i) values) ≡ k ∷ keys_among (drop (2 * (i + 1)) values)
keys_from [] i k at = cc
keys_from (x ∷ []) zero k at = let is : x ≡ k = cc in ap (λ v. v ∷ []) is
keys_from (x ∷ y ∷ more) zero k at = let is : x ≡ k = cc in ap (λ v. v ∷ keys_among more) is
keys_from (x ∷ []) (suc i) k at =
    let there : slice_get (x ∷ []) (suc (suc (2 * i))) ≡ Some k =
    sym (ap (slice_get (x ∷ [])) (next_two i)) ∙ at in cc
keys_from (x ∷ y ∷ more) (suc i) k at =
    let there : slice_get more (2 * i) ≡ Some k =
    sym (ap (slice_get (x ∷ y ∷ more)) (next_two i)) ∙ at in
    let after : 2 * (suc i + 1) ≡ suc (suc (2 * (i + 1))) = omega arith in
    ap (λ (n : ℕ). keys_among (drop n (x ∷ y ∷ more))) (next_two i)
    ∙ (keys_from more i k there
    ∙ ap (λ (n : ℕ). k ∷ keys_among (drop n (x ∷ y ∷ more))) (sym after))

-- none are left
pub no_keys : (values : List Value) (i : ℕ) → length values ≤ 2 * i
    → keys_among (drop (2 * i) values) ≡ []
no_keys [] zero past = refl
no_keys [] (suc i) past = ap (λ (n : ℕ). keys_among (drop n [])) (next_two i)
no_keys (x ∷ values) zero past = absurd (omega (arith, past))
no_keys (x ∷ []) (suc i) past = ap (λ (n : ℕ). keys_among (drop n (x ∷ []))) (next_two i)
no_keys (x ∷ y ∷ more) (suc i) past =
    ap (λ (n : ℕ). keys_among (drop n (x ∷ y ∷ more))) (next_two i)
    ∙ no_keys more i (omega (arith, past))

module _ (p : Value → Bool) (values : List Value) (i : ℕ) (k : Value)
    (at : slice_get values (2 * i) ≡ Some k)
    (before : list_all p (keys_among values) ≡ list_all p (keys_among (drop (2 * i) values))) where
  pub keys_next : p k ≡ true
      → list_all p (keys_among values) ≡ list_all p (keys_among (drop (2 * (i + 1)) values))
  keys_next pass = before ∙ (ap (list_all p) (keys_from values i k at) ∙ rw pass refl)

  pub keys_fail : p k ≡ false → list_all p (keys_among values) ≡ false
  keys_fail fail = before ∙ (ap (list_all p) (keys_from values i k at) ∙ rw fail refl)

pub keys_end : (p : Value → Bool) (values : List Value) (i : ℕ) → length values ≤ 2 * i
    → list_all p (keys_among values) ≡ list_all p (keys_among (drop (2 * i) values))
    → list_all p (keys_among values) ≡ true
keys_end p values i past before = before ∙ ap (list_all p) (no_keys values i past)

-- ---- names met in order

pub fold_more : (names xs ys : List (List ℕ))
    → fold meet names (xs ++ ys) ≡ fold meet (fold meet names xs) ys
fold_more names [] ys = refl
fold_more names (x ∷ xs) ys = fold_more (meet names x) xs ys

meet_least : (names : List (List ℕ)) (text : List ℕ) → length names ≤ length (meet names text)
meet_least names text = by (list_any (bytes_eq text) names)
  where
    by : (b : Bool) → length names ≤ length (if b then names else names ++ text ∷ [])
    by true = omega arith
    by false = let more = length-append names (text ∷ []) in omega (arith, more)

pub fold_least : (names texts : List (List ℕ)) → length names ≤ length (fold meet names texts)
fold_least names [] = omega arith
fold_least names (text ∷ texts) =
    let one = meet_least names text in
    let rest = fold_least (meet names text) texts in
    omega (arith, one, rest)

module _ (s : Store) (values : List Value) (i : ℕ) (k : Value)
    (at : slice_get values (2 * i) ≡ Some k) (met all : List (List ℕ))
    (before : all ≡ fold meet met (texts_among s (drop (2 * i) values))) where
  pub met_from : all ≡ fold meet (fold meet met (texts_of_key s k))
      (texts_among s (drop (2 * (i + 1)) values))
  met_from = before
      ∙ (ap (λ (ks : List Value). fold meet met (flat_map (texts_of_key s) ks))
      (keys_from values i k at)
      ∙ fold_more met (texts_of_key s k) (texts_among s (drop (2 * (i + 1)) values)))

  pub met_next : (after : List (List ℕ)) → fold meet met (texts_of_key s k) ≡ after
      → all ≡ fold meet after (texts_among s (drop (2 * (i + 1)) values))
  met_next after is = met_from
      ∙ ap (λ (ns : List (List ℕ)). fold meet ns (texts_among s (drop (2 * (i + 1)) values))) is

  pub met_past : length (fold meet met (texts_of_key s k)) ≤ length all
  met_past =
      let same = ap length met_from in
      let least = fold_least (fold meet met (texts_of_key s k))
      (texts_among s (drop (2 * (i + 1)) values)) in
      omega (arith, same, least)

-- ---- a key that was read

pub within_at : (P : Word → Type 0) (ws : List Word) (i : ℕ) (w : Word) → slice_get ws i ≡ Some w
    → AllByRecursion P ws → P w
within_at P [] i w at all = cc
within_at P (x ∷ ws) zero w at all = let same : x ≡ w = cc in subst P same all.0
within_at P (x ∷ ws) (suc i) w at all = within_at P ws i w at all.1

module _ (births : ℕ → ℕ) (names : List (List ℕ)) (s : Store) (k : Value) where
  pub key_met : (key : Key) → IsKeyIn births names s k key → IsForming names key (Ok tt)
      → fold meet names (texts_of_key s k) ≡ names_with names key
  key_met (Met w) is done = by is.texts
    where
      by : (texts_of_key s k ≡ []) ⊎ ((text : List ℕ) × (number : ℕ)
          × (texts_of_key s k ≡ text ∷ []) × (place_of text names ≡ Some number))
          → fold meet names (texts_of_key s k) ≡ names
      by (inl none) = ap (fold meet names) none
      by (inr one) = ap (fold meet names) one.2 ∙ sym (meet_known one.0 names one.1 one.3)
  key_met (Unmet text) is done =
      ap (fold meet names) is.0.texts ∙ sym (meet_new text.items names is.0.unmet)
  key_met TooLong is done = absurd done

  -- of one that was not met
  pub key_more : (text : ArrayVec ℕ) → IsKeyIn births names s k (Unmet text)
      → length (fold meet names (texts_of_key s k)) ≡ length names + 1
  key_more text is =
      ap length (ap (fold meet names) is.0.texts ∙ sym (meet_new text.items names is.0.unmet))
      ∙ length-append names (text.items ∷ [])

-- under the names before
pub key_read : (h : Heap) (old more names : List (List ℕ)) → names ≡ old ++ more → (w : Word)
    (key : Key) → IsKeyOf h names w key → (s : Store) → Shows h old s
    → IsWithin (birth_at h) old s w
    → IsKeyIn (birth_at h) names s (value_of (birth_at h) old w) key
key_read h old more names are w key is s shows within =
    let shown = subst (λ (ns : List (List ℕ)). Shows h ns s) (sym are)
    (Shows-named h old more s shows) in
    let inside = subst (λ (ns : List (List ℕ)). IsWithin (birth_at h) ns s w) (sym are)
    (IsWithin-named old more (birth_at h) s w within) in
    subst (λ (v : Value). IsKeyIn (birth_at h) names s v key)
    (ap (λ (ns : List (List ℕ)). value_of (birth_at h) ns w) are
    ∙ value_of-named old more (birth_at h) s w within) (is.shown s shown inside)

-- ---- keys that all pass

pass_first : (a b : Bool) → (a && b) ≡ true → (a ≡ true) × (b ≡ true)
pass_first true b all = (refl, all)
pass_first false b all = cc

all_from : (p : Value → Bool) (values : List Value) (i : ℕ) → list_all p (keys_among values) ≡ true
    → list_all p (keys_among (drop (2 * i) values)) ≡ true
all_from p values zero all = all
all_from p [] (suc i) all = ap (λ (n : ℕ). list_all p (keys_among (drop n []))) (next_two i)
all_from p (x ∷ []) (suc i) all =
    ap (λ (n : ℕ). list_all p (keys_among (drop n (x ∷ [])))) (next_two i)
all_from p (x ∷ y ∷ more) (suc i) all =
    ap (λ (n : ℕ). list_all p (keys_among (drop n (x ∷ y ∷ more)))) (next_two i)
    ∙ all_from p more i (pass_first (p x) (list_all p (keys_among more)) all).1

pub keys_pass : (p : Value → Bool) (values : List Value) (i : ℕ) (k : Value)
    → slice_get values (2 * i) ≡ Some k → list_all p (keys_among values) ≡ true → p k ≡ true
keys_pass p values i k at all =
    (pass_first (p k) _ (sym (ap (list_all p) (keys_from values i k at)) ∙ all_from p values i all)).0

-- ---- a name that can't be met

module _ (h : Heap) (old more names : List (List ℕ)) (are : names ≡ old ++ more)
    (elements : List Word) (i : ℕ) (w : Word) (at : slice_get elements (2 * i) ≡ Some w) (key : Key)
    (is : IsKeyOf h names w key)
    (met : (s : Store) → Shows h old s → AreWithin h old s elements
    → met_among old s (values_in h old elements)
    ≡ fold meet names (texts_among s (drop (2 * i) (values_in h old elements)))) where
  abbrev values : List Value
  values = values_in h old elements

  abbrev value : Value
  value = value_of (birth_at h) old w

  there : slice_get values (2 * i) ≡ Some value
  there = value_at (birth_at h) old elements (2 * i) w at

  module _ (s : Store) (shows : Shows h old s) (within : AreWithin h old s elements) where
    key_in : IsKeyIn (birth_at h) names s value key
    key_in = key_read h old more names are w key is s shows
        (within_at (IsWithin (birth_at h) old s) elements (2 * i) w at within)

    pub names_next : IsForming names key (Ok tt) → (after : List (List ℕ))
        → after ≡ names_with names key
        → met_among old s values ≡ fold meet after (texts_among s (drop (2 * (i + 1)) values))
    names_next done after same = met_next s values i value there names _ (met s shows within) after
        (key_met (birth_at h) names s value key key_in done ∙ sym same)

    one_more : (text : ArrayVec ℕ) → key ≡ Unmet text
        → length names + 1 ≤ length (met_among old s values)
    one_more text unmet =
        let more = key_more (birth_at h) names s value text
        (subst (IsKeyIn (birth_at h) names s value) unmet key_in) in
        let past = met_past s values i value there names _ (met s shows within) in
        omega (arith, more, past)

    too_long : key ≡ TooLong → list_all fits_key (keys_among values) ≡ true → ⊥
    too_long long short =
        let it : IsKeyIn (birth_at h) names s value TooLong =
        subst (IsKeyIn (birth_at h) names s value) long key_in in
        true≢false (sym (keys_pass fits_key values i value there short) ∙ it.2)

  pub names_fault : list_all fits_key (keys_among values) ≡ true → (break : Break)
      → IsForming names key (Err break) → IsNamesFault h old elements break
  names_fault short break done = by key refl break done
    where
      by : (other : Key) → key ≡ other → (break : Break) → IsForming names other (Err break)
          → IsNamesFault h old elements break
      by (Met m) same break it = absurd it
      by (Unmet text) same (Raises error) it = (
        it.0,
        λ s shows within.
            let past = one_more s shows within text same in
            let full = it.1 in omega (arith, past, full),
      )
      by (Unmet text) same (NotMade reason) it = (
        it.0,
        λ s shows within.
            let past = one_more s shows within text same in
            let size = ap length are ∙ length-append old more in omega (arith, past, size),
      )
      by (Unmet text) same (Unwinds cause) it = absurd it
      by TooLong same (Raises error) it =
          (it, λ s shows within. absurd (too_long s shows within same short))
      by TooLong same (NotMade reason) it = absurd it
      by TooLong same (Unwinds cause) it = absurd it
