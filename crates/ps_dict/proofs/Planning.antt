-- What a put plans, and what its plans say.
use Rattle.std.proofs.Common.{◌≡◌, ◌≢◌, ℕ, ◌+◌, ◌*◌, ◌<◌, ◌≤◌, Bool, true, false, List, [], ◌∷◌, ◌++◌, length, Option, Some, None, refl, sym, ap, ◌∙◌, arith, subst, length-append}
use Rattle.std.specs.Prelude.{◌↔◌, nat_le, nat_lt, if◌then◌else◌, min, max}
use Rattle.std.specs.List.{AllPairs}
use Rattle.std.proofs.lemmas.Bool.Decides.{nat_tests}
use Rattle.ps_language.specs.declared.kinds.Kind.TheVariants.{Dictionary as DictionaryKind}
use Rattle.ps_language.specs.Value.{Value, Dictionary as DictionaryValue, Store}
use Rattle.ps_language.specs.Access.{dictionary_at}
use Rattle.ps_language.specs.Limits.{capacity_limit}
use Rattle.ps_language.specs.Dictionaries.{put_pair, grown_capacity, holding}
use Rattle.ps_word.specs.declared.words.Word.{Word}
use Rattle.ps_mem.specs.Heap.{Heap, birth_at}
use Rattle.ps_mem.specs.References.{StandsAs}
use Rattle.ps_mem.specs.Meaning.{value_of}
use Rattle.ps_mem.specs.Shows.{IsValue, IsSound, IsWithin, Shows}
use Rattle.ps_dict.specs.declared.plans.PutPlan.{PutPlan}
use Rattle.ps_dict.specs.declared.plans.PutPlan.TheVariants.{Replace, Append, Grow, Full}
use Rattle.ps_dict.specs.Places.{count_at, capacity_at, pairs_at, place_of, first_place}
use Rattle.ps_dict.specs.Puts.{plan_from, planned, plan_at, with_value}
use Rattle.ps_dict.proofs.Shapes.{count-fits, count-shown, capacity-shown}
use Rattle.ps_dict.proofs.Reading.{position-shown}
use Rattle.ps_dict.proofs.WordRuns.{put-present, put-absent, length-with_value}

-- ---- what a plan says

module _ (count capacity : ℕ) where
  pub plan-replace : (o : Option ℕ) (i : ℕ) → plan_from o count capacity ≡ Replace i → o ≡ Some i
  plan-replace (Some j) i e = cc
  plan-replace None i e = elim (nat_lt count capacity_limit) as
      (λ b. (if b then (if nat_lt count capacity then Append else Grow
      (grown_capacity capacity (count + 1))) else Full) ≡ Replace i → None ≡ Some i) [
        | true ↦ λ h. elim (nat_lt count capacity) as
            (λ b. (if b then Append else Grow (grown_capacity capacity (count + 1))) ≡ Replace i
            → None ≡ Some i) [ true ↦ λ f. cc | false ↦ λ f. cc ] h
        | false ↦ λ h. cc
      ] e

  pub plan-append : (o : Option ℕ) → plan_from o count capacity ≡ Append → (o ≡ None)
      × (count < capacity)
  plan-append (Some j) e = cc
  plan-append None e = elim (nat_lt count capacity_limit) as
      (λ b. (if b then (if nat_lt count capacity then Append else Grow
      (grown_capacity capacity (count + 1))) else Full) ≡ Append → (◌≡◌ {A = Option ℕ} None None)
      × (count < capacity)) [
        | true ↦ λ h. elim (nat_lt count capacity) as
            (λ b. nat_lt count capacity ≡ b
            → (if b then Append else Grow (grown_capacity capacity (count + 1))) ≡ Append
            → (◌≡◌ {A = Option ℕ} None None) × (count < capacity)) [
              | true ↦ λ less f. (refl, grind (arith, nat_tests))
              | false ↦ λ less f. cc
            ] refl h
        | false ↦ λ h. cc
      ] e

  pub plan-grow : (o : Option ℕ) (c : ℕ) → plan_from o count capacity ≡ Grow c → (o ≡ None)
      × (c ≡ grown_capacity capacity (count + 1)) × (capacity ≤ count) × (count < 21845)
  plan-grow (Some j) c e = cc
  plan-grow None c e = elim (nat_lt count capacity_limit) as
      (λ b. nat_lt count capacity_limit ≡ b
      → (if b then (if nat_lt count capacity then Append else Grow
      (grown_capacity capacity (count + 1))) else Full) ≡ Grow c → (◌≡◌ {A = Option ℕ} None None)
      × (c ≡ grown_capacity capacity (count + 1)) × (capacity ≤ count) × (count < 21845)) [
        | true ↦ λ few h. elim (nat_lt count capacity) as
            (λ b. nat_lt count capacity ≡ b
            → (if b then Append else Grow (grown_capacity capacity (count + 1))) ≡ Grow c
            → (◌≡◌ {A = Option ℕ} None None) × (c ≡ grown_capacity capacity (count + 1))
            × (capacity ≤ count) × (count < 21845)) [
              | true ↦ λ less f. cc
              | false ↦ λ less f. (
                refl,
                (let same : grown_capacity capacity (count + 1) ≡ c = cc in sym same),
                grind
                    (arith, nat_tests),
                grind (arith, nat_tests),
              )
            ] refl h
        | false ↦ λ few h. cc
      ] refl e

-- ---- what holds the pairs

pub holding-is : (d new : DictionaryValue) (pairs : List (Value × Value))
    → holding d pairs ≡ Some new
    → new ≡ record d { pairs = pairs; capacity = grown_capacity d.capacity (length pairs) }
holding-is d new pairs e =
    elim (nat_le (length pairs) capacity_limit) as
    (λ b. (if b then Some (record d
    { pairs = pairs; capacity = grown_capacity d.capacity (length pairs) }) else None) ≡ Some new
    → new ≡ record d { pairs = pairs; capacity = grown_capacity d.capacity (length pairs) }) [
      | true ↦ λ h. let same : record d
          { pairs = pairs; capacity = grown_capacity d.capacity (length pairs) } ≡ new = cc in sym same
      | false ↦ λ h. cc
    ] e

pub grown-same : (c k : ℕ) → k ≤ c → grown_capacity c k ≡ c
grown-same c k h = let fits : nat_le k c ≡ true = grind (arith, nat_tests) in rw fits refl

pub grown-more : (c k : ℕ) → c < k → grown_capacity c k ≡ min capacity_limit (max k (2 * c + 4))
grown-more c k h = let short : nat_le k c ≡ false = grind (arith, nat_tests) in rw short refl

abbrev held_as : DictionaryValue → List (Value × Value) → ℕ → Option DictionaryValue
held_as d pairs n = if nat_le n capacity_limit then Some
    (record d { pairs = pairs; capacity = grown_capacity d.capacity (length pairs) }) else None

iff-at : (b : Bool) (p : PutPlan) → p ≢ Full → (x : DictionaryValue)
    → ((if b then p else Full) ≡ Full) ↔ ((if b then Some x else None) ≡ None)
iff-at true p other x = ((λ e. absurd (other e)), λ e. cc)
iff-at false p other x = ((λ e. refl), λ e. refl)

not_full : (b : Bool) (c : ℕ) → (if b then Append else Grow c) ≢ Full
not_full true c e = cc
not_full false c e = cc

less_or : (m n : ℕ) → nat_le (m + 1) n ≡ nat_lt m n
less_or m n = grind (arith, nat_tests)

replace-iff : (b : Bool) → b ≡ true → (i : ℕ) (x : DictionaryValue)
    → (Replace i ≡ Full) ↔ ((if b then Some x else None) ≡ None)
replace-iff true e i x = ((λ f. cc), λ f. cc)
replace-iff false e i x = cc

pub full-iff : (d : DictionaryValue) (key value : Value) → length d.pairs ≤ 21845
    → (planned d key ≡ Full) ↔ (holding d (put_pair d.pairs (key, value)) ≡ None)
unfolding planned
full-iff d key value few =
    elim (first_place d.pairs key) as
    (λ o. first_place d.pairs key ≡ o
    → (plan_from o (length d.pairs) d.capacity ≡ Full) ↔
    (holding d (put_pair d.pairs (key, value)) ≡ None)) [
      | Some i ↦ λ is.
          let long : length (put_pair d.pairs (key, value)) ≡ length d.pairs =
          ap length (put-present d.pairs key value i is) ∙ length-with_value d.pairs i value in
          subst (λ n. (plan_from (Some i) (length d.pairs) d.capacity ≡ Full) ↔
          (held_as d (put_pair d.pairs (key, value)) n ≡ None)) (sym long)
          (let fits : nat_le (length d.pairs) capacity_limit ≡ true = grind (arith, nat_tests) in
          replace-iff (nat_le (length d.pairs) capacity_limit) fits i _)
      | None ↦ λ is.
          let long : length (put_pair d.pairs (key, value)) ≡ length d.pairs + 1 =
          ap length (put-absent d.pairs key value is) ∙ length-append d.pairs ((key, value) ∷ []) in
          subst (λ n. (plan_from None (length d.pairs) d.capacity ≡ Full) ↔
          (held_as d (put_pair d.pairs (key, value)) n ≡ None)) (sym long)
          (subst (λ b. (plan_from None (length d.pairs) d.capacity ≡ Full) ↔
          ((if b then Some (record d {
            pairs = put_pair d.pairs (key, value);
            capacity =
                grown_capacity d.capacity (length (put_pair d.pairs (key, value)));
          }) else None) ≡ None))
          (sym (less_or (length d.pairs) capacity_limit))
          (iff-at (nat_lt (length d.pairs) capacity_limit)
          (if nat_lt (length d.pairs) d.capacity then Append else Grow
          (grown_capacity d.capacity (length d.pairs + 1)))
          (not_full (nat_lt (length d.pairs) d.capacity)
          (grown_capacity d.capacity (length d.pairs + 1))) _))
    ] refl

-- ---- by words

module _ (h : Heap) (a : ℕ) (known : StandsAs h DictionaryKind a 4) (sound : IsSound h)
    (names : List (List ℕ)) (s : Store) (shows : Shows h names s)
    (key : Word) (held : IsValue h key) (distinct : AllPairs (λ first later. first ≢ later) names)
    (within : IsWithin (birth_at h) names s key) where
  pub plan-shown : planned (dictionary_at s (birth_at h a)) (value_of (birth_at h) names key) ≡
      plan_at h a key
  unfolding planned plan_at
  plan-shown =
      ap (λ o. plan_from o (length (dictionary_at s (birth_at h a)).pairs)
      (dictionary_at s (birth_at h a)).capacity)
      (position-shown h a known sound names s shows key held distinct within)
      ∙ (ap (λ n. plan_from (place_of (pairs_at h a) key) n
      (dictionary_at s (birth_at h a)).capacity)
      (sym (count-shown h a known sound names s shows))
      ∙ ap (plan_from (place_of (pairs_at h a) key) (count_at h a))
      (sym (capacity-shown h a known sound names s shows)))

  abbrev d : DictionaryValue
  d = dictionary_at s (birth_at h a)

  abbrev key_value : Value
  key_value = value_of (birth_at h) names key

  fits_shown : length d.pairs ≤ d.capacity
  fits_shown = let n = count-shown h a known sound names s shows in let k =
      capacity-shown h a known sound names s shows in let few = count-fits h a known sound in
      omega (arith, n, k, few)

  -- what holds the pairs after a value is replaced
  pub put-replaces : (i : ℕ) → place_of (pairs_at h a) key ≡ Some i
      → (value : Value) (new : DictionaryValue)
      → holding d (put_pair d.pairs (key_value, value)) ≡ Some new
      → record d { pairs = with_value d.pairs i value } ≡ new
  put-replaces i at value new holds =
      let pairs : put_pair d.pairs (key_value, value) ≡ with_value d.pairs i value =
      put-present d.pairs key_value value i
      (position-shown h a known sound names s shows key held distinct within ∙ at) in
      let long : length (with_value d.pairs i value) ≡ length d.pairs =
      length-with_value d.pairs i value in
      let fits = fits_shown in
      sym (holding-is d new (put_pair d.pairs (key_value, value)) holds
      ∙ (ap (λ ps. record d { pairs = ps; capacity = grown_capacity d.capacity (length ps) }) pairs
      ∙ ap (λ n. record d { pairs = with_value d.pairs i value; capacity = n })
      (grown-same d.capacity (length (with_value d.pairs i value))
      (omega (arith, long, fits)))))

  module _ (none : place_of (pairs_at h a) key ≡ None) (value : Value) (new : DictionaryValue)
      (holds : holding d (put_pair d.pairs (key_value, value)) ≡ Some new) where
    put_last : put_pair d.pairs (key_value, value) ≡ d.pairs ++ (key_value, value) ∷ []
    put_last = put-absent d.pairs key_value value
        (position-shown h a known sound names s shows key held distinct within ∙ none)

    long_last : length (d.pairs ++ (key_value, value) ∷ []) ≡ length d.pairs + 1
    long_last = length-append d.pairs ((key_value, value) ∷ [])

    new_is : record d {
      pairs = d.pairs ++ (key_value, value) ∷ [];
      capacity =
          grown_capacity d.capacity (length (d.pairs ++ (key_value, value) ∷ []));
    } ≡ new
    new_is = sym (holding-is d new (put_pair d.pairs (key_value, value)) holds
        ∙ ap (λ ps. record d { pairs = ps; capacity = grown_capacity d.capacity (length ps) })
        put_last)

    -- after a pair more in the room that there is
    pub put-appends : count_at h a < capacity_at h a
        → record d { pairs = d.pairs ++ (key_value, value) ∷ [] } ≡ new
    put-appends room =
        let n = count-shown h a known sound names s shows in
        let k = capacity-shown h a known sound names s shows in
        let long = long_last in
        ap (λ c. record d { pairs = d.pairs ++ (key_value, value) ∷ []; capacity = c })
        (sym (grown-same d.capacity (length (d.pairs ++ (key_value, value) ∷ []))
        (omega (arith, n, k, long, room)))) ∙ new_is

    -- after growth
    pub put-grows : (c : ℕ) → c ≡ grown_capacity (capacity_at h a) (count_at h a + 1)
        → record d { pairs = d.pairs ++ (key_value, value) ∷ []; capacity = c } ≡ new
    put-grows c is =
        let n : count_at h a + 1 ≡ length (d.pairs ++ (key_value, value) ∷ []) =
        ap (λ m. m + 1) (count-shown h a known sound names s shows) ∙ sym long_last in
        ap (λ m. record d { pairs = d.pairs ++ (key_value, value) ∷ []; capacity = m })
        (is ∙ (ap (λ m. grown_capacity m (count_at h a + 1))
        (capacity-shown h a known sound names s shows) ∙ ap (grown_capacity d.capacity) n))
        ∙ new_is

pub grown-limits : (c k : ℕ) → c < k → k ≤ 21845 → (k ≤ grown_capacity c k)
    × (grown_capacity c k ≤ 21845)
grown-limits c k more few = let e = grown-more c k more in
    (omega (arith, e, more, few), omega (arith, e))
