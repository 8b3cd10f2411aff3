-- The names that keys form, counted; and what stands above the mark, tested.
use Rattle.std.proofs.Common.{◌≡◌, ℕ, zero, suc, ◌+◌, ◌-◌, ◌*◌, ◌≤◌, ◌++◌, ◌||◌, arith, Bool, true, false, List, []}
use Rattle.std.proofs.Common.{◌∷◌, drop, take, length, slice_get, Option, Some, None, true≢false, is_some, refl, sym}
use Rattle.std.proofs.Common.{ap, subst, ◌∙◌, ◌⊎◌, inl, inr, append_assoc, length-append, bytes_eq}
use Rattle.std.specs.Prelude.{fold, not, nat_le, option_map, if◌then◌else◌}
use Rattle.std.specs.List.{list_all, list_any, flat_map}
use Rattle.std.proofs.lemmas.Bool.Decides.{nat_tests}
use Rattle.std.proofs.lemmas.Slice.Eq.{bytes_eq-Decides}
use Rattle.arrayvec.specs.ArrayVec.{ArrayVec}
use Rattle.ps_language.specs.Dictionaries.{fits_key, form, meet, texts_of_key, texts_in}
use Rattle.ps_language.specs.Equality.{key_of}
use Rattle.ps_language.specs.Limits.{names_limit}
use Rattle.ps_language.specs.RowsDictionaries.{keys_among, pairs_among}
use Rattle.ps_language.specs.Value.{What, null_value, mark_value, integer_value, boolean_value, name_value}
use Rattle.ps_language.specs.Value.{operator_value, array_value, string_value, dictionary_value, lock_value}
use Rattle.ps_language.specs.Value.{condition_value, Value, Store}
use Rattle.ps_word.specs.declared.words.Word.{Word}
use Rattle.ps_mem.specs.Heap.{Heap, birth_at}
use Rattle.ps_mem.specs.Meaning.{value_of}
use Rattle.ps_mem.specs.Shows.{AreWithin, IsWithin, Shows}
use Rattle.ps_names.specs.Names.{place_of}
use Rattle.ps_names.proofs.Places.{any_position}
use Rattle.ps_ops_operands.proofs.Marks.{value_at}
use Rattle.ps_ops_operands.specs.Changes.{values_in}
use Rattle.ps_step_lookup.specs.declared.keys.Key.{Key}
use Rattle.ps_step_lookup.specs.declared.keys.Key.TheVariants.{Met, Unmet, TooLong}
use Rattle.ps_step_lookup.specs.Keys.{IsKeyIn, IsKeyOf}
use Rattle.ps_ops_dictionaries.specs.Literals.{is_unmet_as, met_among, texts_among}
use Rattle.ps_ops_dictionaries.proofs.Elements.{fold_more, keys_pass, within_at}

-- ---- the first keys

next_two : (i : ℕ) → 2 * suc i ≡ suc (suc (2 * i))
next_two i = omega arith

more_two : (i j : ℕ) → 2 * (suc i + j) ≡ suc (suc (2 * (i + j)))
more_two i j = omega arith

keys_until : (values : List Value) (i : ℕ) (k : Value) → slice_get values (2 * i) ≡ Some k
    → keys_among (take (2 * (i + 1)) values) ≡ keys_among (take (2 * i) values) ++ k ∷ []
keys_until [] i k at = cc
keys_until (x ∷ []) zero k at = let is : x ≡ k = cc in ap (λ (v : Value). v ∷ []) is
keys_until (x ∷ y ∷ more) zero k at = let is : x ≡ k = cc in ap (λ (v : Value). v ∷ []) is
keys_until (x ∷ []) (suc i) k at =
    let there : slice_get (x ∷ []) (suc (suc (2 * i))) ≡ Some k =
    sym (ap (slice_get (x ∷ [])) (next_two i)) ∙ at in cc
keys_until (x ∷ y ∷ more) (suc i) k at =
    let there : slice_get more (2 * i) ≡ Some k =
    sym (ap (slice_get (x ∷ y ∷ more)) (next_two i)) ∙ at in
    ap (λ (n : ℕ). keys_among (take n (x ∷ y ∷ more))) (more_two i 1)
    ∙ (ap (λ (ks : List Value). x ∷ ks) (keys_until more i k there)
    ∙ sym (ap (λ (n : ℕ). keys_among (take n (x ∷ y ∷ more)) ++ k ∷ []) (next_two i)))

keys_split : (values : List Value) (i j : ℕ)
    → keys_among (take (2 * (i + j)) values)
    ≡ keys_among (take (2 * i) values) ++ keys_among (take (2 * j) (drop (2 * i) values))
keys_split values zero j = ap (λ (n : ℕ). keys_among (take (2 * n) values)) (zero_plus j)
  where
    zero_plus : (n : ℕ) → zero + n ≡ n
    zero_plus n = omega arith
keys_split [] (suc i) j =
    ap (λ (n : ℕ). keys_among (take n [])) (more_two i j)
    ∙ (sym (keys_none j)
    ∙ λ t. keys_among (take (sym (next_two i) t) [])
    ++ keys_among (take (2 * j) (drop (sym (next_two i) t) [])))
  where
    keys_none : (n : ℕ) → keys_among (take (2 * n) []) ≡ []
    keys_none zero = refl
    keys_none (suc n) = ap (λ (m : ℕ). keys_among (take m [])) (next_two n)
keys_split (x ∷ []) (suc i) j =
    ap (λ (n : ℕ). keys_among (take n (x ∷ []))) (more_two i j)
    ∙ (ap (λ (ks : List Value). x ∷ ks) (sym (keys_none j))
    ∙ λ t. keys_among (take (sym (next_two i) t) (x ∷ []))
    ++ keys_among (take (2 * j) (drop (sym (next_two i) t) (x ∷ []))))
  where
    keys_none : (n : ℕ) → keys_among (take (2 * n) []) ≡ []
    keys_none zero = refl
    keys_none (suc n) = ap (λ (m : ℕ). keys_among (take m [])) (next_two n)
keys_split (x ∷ y ∷ more) (suc i) j =
    ap (λ (n : ℕ). keys_among (take n (x ∷ y ∷ more))) (more_two i j)
    ∙ (ap (λ (ks : List Value). x ∷ ks) (keys_split more i j)
    ∙ λ t. keys_among (take (sym (next_two i) t) (x ∷ y ∷ more))
    ++ keys_among (take (2 * j) (drop (sym (next_two i) t) (x ∷ y ∷ more))))

texts_append : (s : Store) (ks more : List Value)
    → flat_map (texts_of_key s) (ks ++ more)
    ≡ flat_map (texts_of_key s) ks ++ flat_map (texts_of_key s) more
texts_append s [] more = refl
texts_append s (k ∷ ks) more =
    ap (λ (ts : List (List ℕ)). texts_of_key s k ++ ts) (texts_append s ks more)
    ∙ sym (append_assoc (texts_of_key s k) _ _)

append_none : (ts : List (List ℕ)) → ts ++ [] ≡ ts
append_none [] = refl
append_none (t ∷ ts) = ap (λ (xs : List (List ℕ)). t ∷ xs) (append_none ts)

module _ (names : List (List ℕ)) (s : Store) (values : List Value) where
  -- those of one key more
  pub met_taken : (i : ℕ) (k : Value) → slice_get values (2 * i) ≡ Some k
      → met_among names s (take (2 * (i + 1)) values)
      ≡ fold meet (met_among names s (take (2 * i) values)) (texts_of_key s k)
  met_taken i k at =
      ap (λ (ks : List Value). fold meet names (flat_map (texts_of_key s) ks))
      (keys_until values i k at)
      ∙ (ap (fold meet names) (texts_append s (keys_among (take (2 * i) values)) (k ∷ [])
      ∙ ap (λ (ts : List (List ℕ)). texts_among s (take (2 * i) values) ++ ts)
      (append_none (texts_of_key s k)))
      ∙ fold_more names (texts_among s (take (2 * i) values)) (texts_of_key s k))

  -- those of more keys
  met_more : (i j : ℕ) → (more : List (List ℕ)) × (met_among names s (take (2 * (i + j)) values)
      ≡ fold meet (met_among names s (take (2 * i) values)) more)
  met_more i j =
      let rest = keys_among (take (2 * j) (drop (2 * i) values)) in (
        flat_map (texts_of_key s) rest,
        ap (λ (ks : List Value). fold meet names (flat_map (texts_of_key s) ks))
            (keys_split values i j)
            ∙ (ap (fold meet names) (texts_append s (keys_among (take (2 * i) values)) rest)
            ∙ fold_more names (texts_among s (take (2 * i) values))
            (flat_map (texts_of_key s) rest)),
      )

-- ---- a text among names

any_more : (p : List ℕ → Bool) (xs ys : List (List ℕ)) → list_any p xs ≡ true
    → list_any p (xs ++ ys) ≡ true
any_more p [] ys some = cc
any_more p (x ∷ xs) ys some = by (p x) some (λ rest. any_more p xs ys rest)
  where
    by : (b : Bool) → (b || list_any p xs) ≡ true
        → (list_any p xs ≡ true → list_any p (xs ++ ys) ≡ true)
        → (b || list_any p (xs ++ ys)) ≡ true
    by true some deeper = refl
    by false some deeper = deeper some

any_last : (p : List ℕ → Bool) (xs : List (List ℕ)) (x : List ℕ)
    → list_any p (xs ++ x ∷ []) ≡ (list_any p xs || p x)
any_last p [] x = by (p x)
  where
    by : (b : Bool) → (b || false) ≡ (false || b)
    by true = refl
    by false = refl
any_last p (y ∷ xs) x = by (p y) (any_last p xs x)
  where
    by : (b : Bool) → list_any p (xs ++ x ∷ []) ≡ (list_any p xs || p x)
        → (b || list_any p (xs ++ x ∷ [])) ≡ ((b || list_any p xs) || p x)
    by true deeper = refl
    by false deeper = deeper

module _ (text : List ℕ) where
  any_meet : (names : List (List ℕ)) (other : List ℕ) → list_any (bytes_eq text) names ≡ true
      → list_any (bytes_eq text) (meet names other) ≡ true
  any_meet names other some = by (list_any (bytes_eq other) names)
    where
      by : (b : Bool)
          → list_any (bytes_eq text) (if b then names else names ++ other ∷ []) ≡ true
      by true = some
      by false = any_more (bytes_eq text) names (other ∷ []) some

  any_fold : (names texts : List (List ℕ)) → list_any (bytes_eq text) names ≡ true
      → list_any (bytes_eq text) (fold meet names texts) ≡ true
  any_fold names [] some = some
  any_fold names (t ∷ texts) some = any_fold (meet names t) texts (any_meet names t some)

  none_meet : (names : List (List ℕ)) (other : List ℕ) → list_any (bytes_eq text) names ≡ false
      → bytes_eq text other ≡ false → list_any (bytes_eq text) (meet names other) ≡ false
  none_meet names other none apart = by (list_any (bytes_eq other) names)
    where
      by : (b : Bool)
          → list_any (bytes_eq text) (if b then names else names ++ other ∷ []) ≡ false
      by true = none
      by false = any_last (bytes_eq text) names other ∙ rw (none, apart) refl

  here_meet : (names : List (List ℕ)) (other : List ℕ) → bytes_eq text other ≡ true
      → list_any (bytes_eq text) (meet names other) ≡ true
  here_meet names other same = by (list_any (bytes_eq other) names) refl
    where
      is : text ≡ other
      is = (bytes_eq-Decides text other).0 same

      last : (b : Bool) → (b || true) ≡ true
      last true = refl
      last false = refl

      by : (b : Bool) → list_any (bytes_eq other) names ≡ b
          → list_any (bytes_eq text) (if b then names else names ++ other ∷ []) ≡ true
      by true known = ap (λ (t : List ℕ). list_any (bytes_eq t) names) is ∙ known
      by false new = any_last (bytes_eq text) names other
          ∙ rw same (last (list_any (bytes_eq text) names))

-- a text that stands, and one that doesn't
meet_stays : (names : List (List ℕ)) (text : List ℕ) → list_any (bytes_eq text) names ≡ true
    → meet names text ≡ names
meet_stays names text known = rw known refl

meet_counts : (names : List (List ℕ)) (text : List ℕ) (b : Bool)
    → list_any (bytes_eq text) names ≡ b
    → length (meet names text) ≡ length names + (if not b then 1 else 0)
meet_counts names text true known = rw known (omega arith)
meet_counts names text false new = rw new (length-append names (text ∷ []))

apart_from : (text other : List ℕ) (names : List (List ℕ)) (n : ℕ) → place_of text names ≡ None
    → place_of other names ≡ Some n → bytes_eq text other ≡ false
apart_from text other names n none some = by (bytes_eq text other) refl
  where
    by : (b : Bool) → bytes_eq text other ≡ b → b ≡ false
    by false apart = refl
    by true same =
        let clash : place_of text names ≡ Some n =
        ap (λ (t : List ℕ). place_of t names) ((bytes_eq-Decides text other).0 same) ∙ some in
        let e : None ≡ Some n = sym none ∙ clash in absurd (cc)

-- ---- one key more, that was read

module _ (h : Heap) (names : List (List ℕ)) (elements : List Word) (i : ℕ) (w : Word)
    (at : slice_get elements (2 * i) ≡ Some w) (key : Key) (is : IsKeyOf h names w key)
    (short : list_all fits_key (keys_among (values_in h names elements)) ≡ true) (s : Store)
    (shows : Shows h names s) (within : AreWithin h names s elements) where
  abbrev values : List Value
  values = values_in h names elements

  abbrev k : Value
  k = value_of (birth_at h) names w

  abbrev so_far : List (List ℕ)
  so_far = met_among names s (take (2 * i) values)

  there : slice_get values (2 * i) ≡ Some k
  there = value_at (birth_at h) names elements (2 * i) w at

  key_in : IsKeyIn (birth_at h) names s k key
  key_in = is.shown s shows (within_at (IsWithin (birth_at h) names s) elements (2 * i) w at within)

  never_long : (other : Key) → key ≡ other → other ≡ TooLong → ⊥
  never_long other same long =
      let it : IsKeyIn (birth_at h) names s k TooLong =
      subst (IsKeyIn (birth_at h) names s k) (same ∙ long) key_in in
      true≢false (sym (keys_pass fits_key values i k there short) ∙ it.2)

  next : met_among names s (take (2 * (i + 1)) values) ≡ fold meet so_far (texts_of_key s k)
  next = met_taken names s values i k there

  known : (text : List ℕ) (n : ℕ) → place_of text names ≡ Some n
      → list_any (bytes_eq text) so_far ≡ true
  known text n met = any_fold text names (texts_among s (take (2 * i) values))
      (any_position (bytes_eq text) names ∙ ap is_some met)

  -- met before
  pub count_met : (m : Word) → key ≡ Met m
      → length (met_among names s (take (2 * (i + 1)) values)) ≡ length so_far
  count_met m met =
      let it : IsKeyIn (birth_at h) names s k (Met m) =
      subst (IsKeyIn (birth_at h) names s k) met key_in in
      ap length next ∙ by it.texts
    where
      by : (texts_of_key s k ≡ []) ⊎ ((text : List ℕ) × (number : ℕ)
          × (texts_of_key s k ≡ text ∷ []) × (place_of text names ≡ Some number))
          → length (fold meet so_far (texts_of_key s k)) ≡ length so_far
      by (inl none) = ap (λ (ts : List (List ℕ)). length (fold meet so_far ts)) none
      by (inr one) =
          ap (λ (ts : List (List ℕ)). length (fold meet so_far ts)) one.2
          ∙ ap length (meet_stays so_far one.0 (known one.0 one.1 one.3))

  pub count_long : key ≡ TooLong
      → length (met_among names s (take (2 * (i + 1)) values)) ≡ length so_far
  count_long long = absurd (never_long key refl long)

  -- met now, or with one of those before
  pub count_unmet : (text : ArrayVec ℕ) → key ≡ Unmet text → (b : Bool)
      → list_any (bytes_eq text.items) so_far ≡ b
      → length (met_among names s (take (2 * (i + 1)) values))
      ≡ length so_far + (if not b then 1 else 0)
  count_unmet text unmet b tells =
      let it : IsKeyIn (birth_at h) names s k (Unmet text) =
      subst (IsKeyIn (birth_at h) names s k) unmet key_in in
      ap length next
      ∙ (ap (λ (ts : List (List ℕ)). length (fold meet so_far ts)) it.0.texts
      ∙ meet_counts so_far text.items b tells)

  -- another text isn't among them for it
  pub none_next : (text : List ℕ) → place_of text names ≡ None → is_unmet_as text key ≡ false
      → list_any (bytes_eq text) so_far ≡ false
      → list_any (bytes_eq text) (met_among names s (take (2 * (i + 1)) values)) ≡ false
  none_next text new other none =
      ap (list_any (bytes_eq text)) next ∙ by key refl
    where
      one : (t : List ℕ) → texts_of_key s k ≡ t ∷ [] → bytes_eq text t ≡ false
          → list_any (bytes_eq text) (fold meet so_far (texts_of_key s k)) ≡ false
      one t are apart =
          ap (λ (ts : List (List ℕ)). list_any (bytes_eq text) (fold meet so_far ts)) are
          ∙ none_meet text so_far t none apart

      of_met : (texts_of_key s k ≡ []) ⊎ ((t : List ℕ) × (number : ℕ)
          × (texts_of_key s k ≡ t ∷ []) × (place_of t names ≡ Some number))
          → list_any (bytes_eq text) (fold meet so_far (texts_of_key s k)) ≡ false
      of_met (inl empty) =
          ap (λ (ts : List (List ℕ)). list_any (bytes_eq text) (fold meet so_far ts)) empty ∙ none
      of_met (inr met) = one met.0 met.2 (apart_from text met.0 names met.1 new met.3)

      by : (read : Key) → key ≡ read
          → list_any (bytes_eq text) (fold meet so_far (texts_of_key s k)) ≡ false
      by (Met m) same =
          let it : IsKeyIn (birth_at h) names s k (Met m) =
          subst (IsKeyIn (birth_at h) names s k) same key_in in
          of_met it.texts
      by (Unmet t) same =
          let it : IsKeyIn (birth_at h) names s k (Unmet t) =
          subst (IsKeyIn (birth_at h) names s k) same key_in in
          one t.items it.0.texts (sym (ap (is_unmet_as text) same) ∙ other)
      by TooLong same = absurd (never_long TooLong same refl)

  -- its own text is, and stays
  pub some_next : (text : List ℕ) → is_unmet_as text key ≡ true → (before : ℕ) → i + 1 ≤ before
      → list_any (bytes_eq text) (met_among names s (take (2 * before) values)) ≡ true
  some_next text own before least =
      let sum : (i + 1) + (before - (i + 1)) ≡ before = omega (arith, least) in
      let more = met_more names s values (i + 1) (before - (i + 1)) in
      ap (λ (n : ℕ). list_any (bytes_eq text) (met_among names s (take (2 * n) values))) (sym sum)
      ∙ (ap (list_any (bytes_eq text)) more.1
      ∙ any_fold text (met_among names s (take (2 * (i + 1)) values)) more.0
      (ap (list_any (bytes_eq text)) next ∙ by key refl))
    where
      by : (read : Key) → key ≡ read
          → list_any (bytes_eq text) (fold meet so_far (texts_of_key s k)) ≡ true
      by (Met m) same = let e : false ≡ true = sym (ap (is_unmet_as text) same) ∙ own in absurd (cc)
      by TooLong same = let e : false ≡ true = sym (ap (is_unmet_as text) same) ∙ own in absurd (cc)
      by (Unmet t) same =
          let it : IsKeyIn (birth_at h) names s k (Unmet t) =
          subst (IsKeyIn (birth_at h) names s k) same key_in in
          ap (λ (ts : List (List ℕ)). list_any (bytes_eq text) (fold meet so_far ts)) it.0.texts
          ∙ here_meet text so_far t.items (sym (ap (is_unmet_as text) same) ∙ own)

-- none has it at first
pub none_first : (text : List ℕ) (names : List (List ℕ)) → place_of text names ≡ None
    → list_any (bytes_eq text) names ≡ false
none_first text names new = any_position (bytes_eq text) names ∙ ap is_some new

-- ---- how many there may be

one_text : (s : Store) (what : What) → length (texts_in s what) ≤ 1
one_text s null_value = omega arith
one_text s mark_value = omega arith
one_text s (integer_value _) = omega arith
one_text s (boolean_value _) = omega arith
one_text s (name_value _) = omega arith
one_text s (operator_value _) = omega arith
one_text s (array_value _) = omega arith
one_text s (string_value _) = omega arith
one_text s (dictionary_value _) = omega arith
one_text s (lock_value _) = omega arith
one_text s (condition_value _) = omega arith

few_texts : (s : Store) (values : List Value) (n : ℕ) → length values ≡ 2 * n
    → length (texts_among s values) ≤ n
unfolding texts_of_key
few_texts s [] n even = omega arith
few_texts s (x ∷ []) n even = absurd (omega (arith, even))
few_texts s (x ∷ y ∷ more) zero even = absurd (omega (arith, even))
few_texts s (x ∷ y ∷ more) (suc n) even =
    let one = one_text s x.what in
    let rest = few_texts s more n (omega (arith, even)) in
    let both = length-append (texts_in s x.what) (texts_among s more) in
    omega (arith, one, rest, both)

fold_most : (names texts : List (List ℕ))
    → length (fold meet names texts) ≤ length names + length texts
fold_most names [] = omega arith
fold_most names (t ∷ texts) =
    let rest = fold_most (meet names t) texts in
    let one : length (meet names t) ≤ length names + 1 = by (list_any (bytes_eq t) names) in
    omega (arith, one, rest)
  where
    by : (b : Bool) → length (if b then names else names ++ t ∷ []) ≤ length names + 1
    by true = omega arith
    by false = let more = length-append names (t ∷ []) in omega (arith, more)

pub names_few : (names : List (List ℕ)) (s : Store) (values : List Value) (n : ℕ)
    → length values ≡ 2 * n → length names + n ≤ 65535
    → nat_le (length (met_among names s values)) names_limit ≡ true
names_few names s values n even few =
    let most = fold_most names (texts_among s values) in
    let texts = few_texts s values n even in
    let limit : length (met_among names s values) ≤ 65535 = omega (arith, most, texts, few) in
    grind (arith, nat_tests, limit)

-- ---- whether each key has a value

pub odd_pairs : (s : Store) (values : List Value) (n : ℕ) → length values ≡ 2 * n + 1
    → pairs_among s values ≡ None
odd_pairs s [] n odd = absurd (omega (arith, odd))
odd_pairs s (x ∷ []) n odd = refl
odd_pairs s (x ∷ y ∷ more) zero odd = absurd (omega (arith, odd))
odd_pairs s (x ∷ y ∷ more) (suc n) odd =
    ap (option_map (λ (pairs : List (Value × Value)). (key_of s x, y) ∷ pairs))
    (odd_pairs s more n (omega (arith, odd)))

pub even_pairs : (s : Store) (values : List Value) (n : ℕ) → length values ≡ 2 * n
    → (pairs : List (Value × Value)) × (pairs_among s values ≡ Some pairs) × (length pairs ≡ n)
even_pairs s [] n even = ([], refl, omega (arith, even))
even_pairs s (x ∷ []) n even = absurd (omega (arith, even))
even_pairs s (x ∷ y ∷ more) zero even = absurd (omega (arith, even))
even_pairs s (x ∷ y ∷ more) (suc n) even =
    let rest = even_pairs s more n (omega (arith, even)) in
    let count = rest.2 in (
      (key_of s x, y) ∷ rest.0,
      ap (option_map (λ (pairs : List (Value × Value)). (key_of s x, y) ∷ pairs)) rest.1,
      omega (arith, count),
    )

pub pairs_half : (s : Store) (values : List Value) (n : ℕ) → length values ≡ 2 * n
    → (pairs : List (Value × Value)) → pairs_among s values ≡ Some pairs → length pairs ≡ n
pairs_half s values n even pairs are =
    let found = even_pairs s values n even in
    ap pairs_in (sym are ∙ found.1) ∙ found.2
  where
    pairs_in : Option (List (Value × Value)) → ℕ
    pairs_in (Some ps) = length ps
    pairs_in None = 0

-- ---- whether all names may be met

pub form_fits : (names : List (List ℕ)) (s : Store) (values : List Value)
    → nat_le (length (met_among names s values)) names_limit ≡ true
    → form names (texts_among s values) ≡ Some (met_among names s values)
unfolding form
form_fits names s values fits = rw fits refl

pub form_full : (names : List (List ℕ)) (s : Store) (values : List Value)
    → nat_le (length (met_among names s values)) names_limit ≡ false
    → form names (texts_among s values) ≡ None
unfolding form
form_full names s values full = rw full refl

-- the names that are met once more
pub met_again : (names texts : List (List ℕ))
    → fold meet (fold meet names texts) texts ≡ fold meet names texts
met_again names [] = refl
met_again names (t ∷ texts) =
    ap (λ (ns : List (List ℕ)). fold meet ns texts)
    (meet_stays (fold meet (meet names t) texts) t (any_fold t (meet names t) texts
    (here_meet t names t ((bytes_eq-Decides t t).1 refl))))
    ∙ met_again (meet names t) texts
