-- The pairs of one dictionary put into another: the plan, what is put together, and what holds it.
use Rattle.std.proofs.Common.{◌≡◌, ◌≢◌, ℕ, zero, suc, ◌+◌, ◌*◌, ◌<◌, ◌≤◌, Bool, true, false, List, [], ◌∷◌, length, map, take, Option, Some, None, refl, sym, ap, ◌∙◌, arith, subst, length-append}
use Rattle.std.specs.Prelude.{◌↔◌, max, nat_le, if◌then◌else◌}
use Rattle.std.specs.List.{AllByRecursion, AllPairs}
use Rattle.std.proofs.lemmas.Bool.Decides.{nat_tests}
use Rattle.std.proofs.lemmas.List.{length-map}
use Rattle.ps_language.specs.declared.kinds.Kind.TheVariants.{Dictionary as DictionaryKind}
use Rattle.ps_language.specs.Value.{Value, Dictionary as DictionaryValue, Store}
use Rattle.ps_language.specs.Access.{dictionary_at}
use Rattle.ps_language.specs.Limits.{capacity_limit}
use Rattle.ps_language.specs.Dictionaries.{grown_capacity, holding, put_pairs}
use Rattle.ps_word.specs.declared.words.Word.{Word}
use Rattle.ps_mem.specs.Heap.{Heap, birth_at}
use Rattle.ps_mem.specs.Index.{pairs_of_words}
use Rattle.ps_mem.specs.References.{StandsAs}
use Rattle.ps_mem.specs.Shows.{IsValue, AreValues, IsSound, IsWithin, AreWithin, words_of_pairs, pair_of, Shows}
use Rattle.ps_dict.specs.declared.copies.MergePlan.{MergePlan}
use Rattle.ps_dict.specs.declared.copies.MergePlan.TheVariants.{Keep, Rewrite, Grow, Full}
use Rattle.ps_dict.specs.Bodies.{whole_body}
use Rattle.ps_dict.specs.Merges.{put_at, put_words, merged, merged_at, body_plan, merge_plan, merge_plan_at, merge_planned, merge_room, merge_room_of}
use Rattle.ps_dict.specs.Places.{count_at, capacity_at, pairs_at, place_of}
use Rattle.ps_dict.proofs.Merging.{AreHeld, all-merged, merged-shown, length-merged}
use Rattle.ps_dict.proofs.Pairs.{all_words}
use Rattle.ps_dict.proofs.Planning.{holding-is, grown-same, grown-limits}
use Rattle.ps_dict.proofs.Probing.{few-places}
use Rattle.ps_dict.proofs.Shapes.{count-fits, length-pairs, pairs-values, pairs-within, pairs-shown, count-shown, capacity-shown}
use Rattle.ps_dict.proofs.WholeBodies.{whole-pairs}
use Rattle.ps_dict.proofs.WordRuns.{length-with_value}

-- ---- what a plan says

module _ (count capacity : ℕ) where
  rewrite-says : (n : ℕ) → body_plan count capacity ≡ Rewrite n → (n ≡ count) × (count ≤ capacity)
  rewrite-says n e = elim (nat_le count capacity) as
      (λ b. nat_le count capacity ≡ b
      → (if b then Rewrite count else (if nat_le count capacity_limit then Grow count
      (grown_capacity capacity count) else Full)) ≡ Rewrite n
      → (n ≡ count) × (count ≤ capacity)) [
        | true ↦ λ fits h. (let same : count ≡ n = cc in sym same, grind (arith, nat_tests))
        | false ↦ λ fits h. elim (nat_le count capacity_limit) as
            (λ b. (if b then Grow count (grown_capacity capacity count) else Full) ≡ Rewrite n
            → (n ≡ count) × (count ≤ capacity)) [ true ↦ λ f. cc | false ↦ λ f. cc ] h
      ] refl e

  grow-says : (n c : ℕ) → body_plan count capacity ≡ Grow n c → (n ≡ count)
      × (c ≡ grown_capacity capacity count) × (capacity < count) × (count ≤ 21845)
  grow-says n c e = elim (nat_le count capacity) as
      (λ b. nat_le count capacity ≡ b
      → (if b then Rewrite count else (if nat_le count capacity_limit then Grow count
      (grown_capacity capacity count) else Full)) ≡ Grow n c
      → (n ≡ count) × (c ≡ grown_capacity capacity count) × (capacity < count)
      × (count ≤ 21845)) [
        | true ↦ λ fits h. cc
        | false ↦ λ fits h. elim (nat_le count capacity_limit) as
            (λ b. nat_le count capacity_limit ≡ b
            → (if b then Grow count (grown_capacity capacity count) else Full) ≡ Grow n c
            → (n ≡ count) × (c ≡ grown_capacity capacity count) × (capacity < count)
            × (count ≤ 21845)) [
              | true ↦ λ few f. (
                let same : count ≡ n = cc in sym same,
                let same : grown_capacity capacity count ≡ c = cc in sym same,
                grind (arith, nat_tests),
                grind (arith, nat_tests),
              )
              | false ↦ λ few f. cc
            ] refl h
      ] refl e

  not_keep : body_plan count capacity ≢ Keep
  not_keep e = elim (nat_le count capacity) as
      (λ b. (if b then Rewrite count else (if nat_le count capacity_limit then Grow count
      (grown_capacity capacity count) else Full)) ≡ Keep → ⊥) [
        | true ↦ λ h. cc
        | false ↦ λ h. elim (nat_le count capacity_limit) as
            (λ b. (if b then Grow count (grown_capacity capacity count) else Full) ≡ Keep → ⊥)
            [ true ↦ λ f. cc | false ↦ λ f. cc ] h
      ] e

  pub plan-some : (more : ℕ) → 1 ≤ more → merge_plan more count capacity ≡ body_plan count capacity
  plan-some zero some = absurd (omega (arith, some))
  plan-some (suc more) some = refl

  pub plan-keep : (more : ℕ) → merge_plan more count capacity ≡ Keep → more ≡ 0
  plan-keep zero e = refl
  plan-keep (suc more) e = absurd (not_keep e)

  pub plan-rewrite : (more n : ℕ) → merge_plan more count capacity ≡ Rewrite n → (1 ≤ more)
      × (n ≡ count) × (count ≤ capacity)
  plan-rewrite zero n e = cc
  plan-rewrite (suc more) n e = let says = rewrite-says n e in (omega arith, says.0, says.1)

  pub plan-few : (more : ℕ) → count ≤ 21845 → merge_plan more count capacity ≢ Full
  plan-few zero few = λ e. cc
  plan-few (suc more) few =
      let fits : nat_le count capacity_limit ≡ true = grind (arith, nat_tests) in
      rw fits (by (nat_le count capacity))
    where
      by : (b : Bool)
          → (if b then Rewrite count else Grow count (grown_capacity capacity count)) ≢ Full
      by true = λ e. cc
      by false = λ e. cc

  pub plan-grow : (more n c : ℕ) → merge_plan more count capacity ≡ Grow n c → (n ≡ count)
      × (c ≡ grown_capacity capacity count) × (capacity < count) × (count ≤ 21845)
  plan-grow zero n c e = cc
  plan-grow (suc more) n c e = grow-says n c e

-- ---- what holds the pairs

pub holding-fits : (d new : DictionaryValue) (pairs : List (Value × Value))
    → holding d pairs ≡ Some new → length pairs ≤ d.capacity → record d { pairs = pairs } ≡ new
holding-fits d new pairs holds fits =
    sym (holding-is d new pairs holds
    ∙ ap (λ n. record d { pairs = pairs; capacity = n })
    (grown-same d.capacity (length pairs) fits))

never-full : (b : Bool) → b ≡ true → (p : MergePlan) → p ≢ Full → (x : DictionaryValue)
    → (p ≡ Full) ↔ ((if b then Some x else None) ≡ None)
never-full true e p other x = ((λ f. absurd (other f)), λ f. cc)
never-full false e p other x = cc

full-where : (b : Bool) (n c : ℕ) (x : DictionaryValue)
    → ((if b then Grow n c else Full) ≡ Full) ↔ ((if b then Some x else None) ≡ None)
full-where true n c x = ((λ f. cc), λ f. cc)
full-where false n c x = ((λ f. refl), λ f. refl)

full-by : (d x : DictionaryValue) (n : ℕ) → d.capacity ≤ 21845
    → (body_plan n d.capacity ≡ Full) ↔
    ((if nat_le n capacity_limit then Some x else None) ≡ None)
full-by d x n few = elim (nat_le n d.capacity) as
    (λ b. nat_le n d.capacity ≡ b
    → ((if b then Rewrite n else (if nat_le n capacity_limit then Grow n
    (grown_capacity d.capacity n) else Full)) ≡ Full) ↔
    ((if nat_le n capacity_limit then Some x else None) ≡ None)) [
      | true ↦ λ fits. never-full (nat_le n capacity_limit) (grind (arith, nat_tests)) (Rewrite n)
          (λ e. cc) x
      | false ↦ λ fits. full-where (nat_le n capacity_limit) n (grown_capacity d.capacity n) x
    ] refl

full-of : (d : DictionaryValue) (more : List (Value × Value)) → length d.pairs ≤ d.capacity
    → d.capacity ≤ 21845
    → (merge_plan (length more) (length (put_pairs d.pairs more)) d.capacity ≡ Full) ↔
    (holding d (put_pairs d.pairs more) ≡ None)
full-of d [] fits few = never-full (nat_le (length d.pairs) capacity_limit)
    (grind (arith, nat_tests)) Keep (λ e. cc) _
full-of d (pair ∷ more) fits few = full-by d _ (length (put_pairs d.pairs (pair ∷ more))) few

-- ---- how many there are

least-put : (o : Option ℕ) (pairs : List (Word × Word)) (pair : Word × Word)
    → length pairs ≤ length (put_at o pairs pair)
least-put (Some i) pairs pair = let n = length-with_value pairs i pair.1 in omega (arith, n)
least-put None pairs pair = let n = length-append pairs (pair ∷ []) in omega (arith, n)

some-put : (pairs : List (Word × Word)) (pair : Word × Word) → 1 ≤ length (put_words pairs pair)
unfolding put_words place_of
some-put [] pair = omega arith
some-put (first ∷ pairs) pair =
    let n = least-put (place_of (first ∷ pairs) pair.0) (first ∷ pairs) pair in omega (arith, n)

least-merged : (pairs more : List (Word × Word)) → length pairs ≤ length (merged pairs more)
unfolding put_words
least-merged pairs [] = omega arith
least-merged pairs (pair ∷ more) =
    let one = least-put (place_of pairs pair.0) pairs pair in
    let rest = least-merged (put_words pairs pair) more in
    omega (arith, one, rest)

some-merged : (pairs more : List (Word × Word)) → 1 ≤ length more
    → 1 ≤ length (merged pairs more)
some-merged pairs [] some = absurd (omega (arith, some))
some-merged pairs (pair ∷ more) some =
    let one = some-put pairs pair in
    let rest = least-merged (put_words pairs pair) more in
    omega (arith, one, rest)

no-elements : {A : Type 0} (xs : List A) → length xs ≡ 0 → xs ≡ []
no-elements [] none = refl
no-elements (x ∷ xs) none = absurd (omega (arith, none))

-- ---- of two dictionaries

held-all : (P Q : Word → Type 0) (pairs : List (Word × Word))
    → AllByRecursion (λ (pair : Word × Word). P pair.0 × P pair.1) pairs
    → AllByRecursion (λ (pair : Word × Word). Q pair.0 × Q pair.1) pairs
    → AllByRecursion (λ (pair : Word × Word). (P pair.0 × Q pair.0) × (P pair.1 × Q pair.1)) pairs
held-all P Q [] all also = tt
held-all P Q (pair ∷ pairs) all also = (
  ((all.0.0, also.0.0), (all.0.1, also.0.1)),
  held-all P Q pairs all.1 also.1,
)

-- so many pairs, by the words of a whole body with this capacity, are those of both put together
pub record IsWritten (h : Heap) (to from n c : ℕ) (ws : List Word) : Type 0 where
  pub pairs : take n (pairs_of_words ws) ≡ merged_at h to from
  pub count : n ≡ length (take n (pairs_of_words ws))
  pub room : n ≤ c
  pub held : AreValues h (words_of_pairs (take n (pairs_of_words ws)))
  pub words : ws ≡ whole_body (birth_at h) c (take n (pairs_of_words ws))
  pub within : (names : List (List ℕ)) (s : Store) → Shows h names s
      → AreWithin h names s (words_of_pairs (take n (pairs_of_words ws)))

module _ (h : Heap) (sound : IsSound h) (to from : ℕ) (target : StandsAs h DictionaryKind to 4)
    (source : StandsAs h DictionaryKind from 4) where
  abbrev both : List (Word × Word)
  both = merged_at h to from

  pub both-values : AreValues h (words_of_pairs both)
  both-values = all_words (IsValue h) both
      (all-merged (IsValue h) (pairs_at h to) (pairs_at h from) (pairs-values h to target sound)
      (pairs-values h from source sound))

  pub both-some : 1 ≤ count_at h from → 1 ≤ length both
  both-some some = some-merged (pairs_at h to) (pairs_at h from)
      (let n = length-pairs h from source sound in omega (arith, n, some))

  pub both-most : length both ≤ 2 * 21845
  both-most =
      let most = length-merged (pairs_at h to) (pairs_at h from) in
      let one = length-pairs h to target sound in
      let two = length-pairs h from source sound in
      let fits = count-fits h to target sound in
      let also = count-fits h from source sound in
      let few = few-places h to target sound in
      let few' = few-places h from source sound in
      omega (arith, most, one, two, fits, also, few, few')

  module _ (names : List (List ℕ)) (s : Store) (shows : Shows h names s) where
    pub both-within : AreWithin h names s (words_of_pairs both)
    both-within = all_words (IsWithin (birth_at h) names s) both
        (all-merged (IsWithin (birth_at h) names s) (pairs_at h to) (pairs_at h from)
        (pairs-within h to target sound names s shows)
        (pairs-within h from source sound names s shows))

    module _ (distinct : AllPairs (λ first later. first ≢ later) names) where
      held : (a : ℕ) (known : StandsAs h DictionaryKind a 4)
          → AreHeld h sound names s distinct (pairs_at h a)
      held a known = held-all (IsValue h) (IsWithin (birth_at h) names s) (pairs_at h a)
          (pairs-values h a known sound) (pairs-within h a known sound names s shows)

      abbrev put : List (Value × Value)
      put = put_pairs (dictionary_at s (birth_at h to)).pairs
          (dictionary_at s (birth_at h from)).pairs

      pub both-shown : map (pair_of (birth_at h) names) both ≡ put
      both-shown =
          merged-shown h sound names s distinct (pairs_at h to) (pairs_at h from) (held to target)
          (held from source)
          ∙ (ap (λ ps. put_pairs ps (map (pair_of (birth_at h) names) (pairs_at h from)))
          (sym (pairs-shown h to target sound names s shows))
          ∙ ap (put_pairs (dictionary_at s (birth_at h to)).pairs)
          (sym (pairs-shown h from source sound names s shows)))

      put-long : length put ≡ length both
      put-long = sym (ap length both-shown) ∙ length-map both (pair_of (birth_at h) names)

      abbrev d : DictionaryValue
      d = dictionary_at s (birth_at h to)

      module _ (new : DictionaryValue) (holds : holding d put ≡ Some new) where
        -- where nothing is put in
        pub keep-holds : count_at h from ≡ 0 → d ≡ new
        keep-holds none =
            let n = count-shown h from source sound names s shows in
            let k = count-shown h to target sound names s shows in
            let room = capacity-shown h to target sound names s shows in
            let fits = count-fits h to target sound in
            let more : List (Value × Value) = (dictionary_at s (birth_at h from)).pairs in
            let long : length more ≡ 0 = omega (arith, n, none) in
            let empty = no-elements more long in
            holding-fits d new d.pairs
            (sym (ap (λ ps. holding d (put_pairs d.pairs ps)) empty) ∙ holds)
            (omega (arith, k, room, fits))

        -- where all have room in the body that there is
        pub rewrite-holds : length both ≤ capacity_at h to → record d
            { pairs = map (pair_of (birth_at h) names) both } ≡ new
        rewrite-holds fits =
            let long = put-long in
            let room = capacity-shown h to target sound names s shows in
            ap (λ ps. record d { pairs = ps }) both-shown
            ∙ holding-fits d new put holds (omega (arith, long, room, fits))

        -- in a greater one
        pub grow-holds : (c : ℕ) → c ≡ grown_capacity (capacity_at h to) (length both) → record d
            { pairs = map (pair_of (birth_at h) names) both; capacity = c } ≡ new
        grow-holds c is =
            ap (λ ps. record d { pairs = ps; capacity = c }) both-shown
            ∙ (ap (λ n. record d { pairs = put; capacity = n })
            (is ∙ (ap (λ n. grown_capacity n (length both))
            (capacity-shown h to target sound names s shows)
            ∙ ap (grown_capacity d.capacity) (sym put-long)))
            ∙ sym (holding-is d new put holds))

  -- ---- by the words of the whole body

  module _ (n c : ℕ) (ws : List Word) (is : ws ≡ whole_body (birth_at h) c both)
      (count : n ≡ length both) (room : n ≤ c) where
    written-pairs : take n (pairs_of_words ws) ≡ both
    written-pairs =
        ap (λ xs. take n (pairs_of_words xs)) is
        ∙ (ap (λ m. take m (pairs_of_words (whole_body (birth_at h) c both))) count
        ∙ whole-pairs (birth_at h) c both (omega (arith, count, room)))

    pub written : IsWritten h to from n c ws
    written = record {
      pairs = written-pairs;
      count = count ∙ sym (ap length written-pairs);
      room = room;
      held = subst (λ ps. AreValues h (words_of_pairs ps)) (sym written-pairs) both-values;
      words = is ∙ ap (whole_body (birth_at h) c) (sym written-pairs);
      within = λ names s shows. subst (λ ps. AreWithin h names s (words_of_pairs ps))
          (sym written-pairs) (both-within names s shows);
    }

  -- ---- what is planned for them

  pub planned-none : count_at h from ≡ 0 → merge_plan_at h to from ≡ Keep
  unfolding merge_plan_at
  planned-none none = ap (λ n. merge_plan n (length both) (capacity_at h to)) none

  pub planned-some : 1 ≤ count_at h from → merge_plan_at h to from ≡ body_plan (length both)
      (capacity_at h to)
  unfolding merge_plan_at
  planned-some some = plan-some (length both) (capacity_at h to) (count_at h from) some

  pub planned-keep : Keep ≡ merge_plan_at h to from → count_at h from ≡ 0
  unfolding merge_plan_at
  planned-keep e = plan-keep (length both) (capacity_at h to) (count_at h from) (sym e)

  pub planned-rewrite : (n : ℕ) → Rewrite n ≡ merge_plan_at h to from → (1 ≤ count_at h from)
      × (n ≡ length both) × (n ≤ capacity_at h to)
  unfolding merge_plan_at
  planned-rewrite n e =
      let says = plan-rewrite (length both) (capacity_at h to) (count_at h from) n (sym e) in
      let is = says.1 in
      let fits = says.2 in
      (says.0, is, omega (arith, is, fits))

  pub planned-grow : (n c : ℕ) → Grow n c ≡ merge_plan_at h to from → (n ≡ length both)
      × (c ≡ grown_capacity (capacity_at h to) (length both)) × (n ≤ c) × (c ≤ 21845)
  unfolding merge_plan_at
  planned-grow n c e =
      let says = plan-grow (length both) (capacity_at h to) (count_at h from) n c (sym e) in
      let is = says.0 in
      let grown = says.1 in
      let more = says.2 in
      let few = says.3 in
      let limits = grown-limits (capacity_at h to) (length both) more few in
      let least = limits.0 in
      let most = limits.1 in
      (is, grown, omega (arith, is, grown, least), omega (arith, grown, most))

  pub planned-shown : (names : List (List ℕ)) (s : Store) → Shows h names s
      → AllPairs (λ first later. first ≢ later) names → merge_plan_at h to from ≡ merge_planned
      (dictionary_at s (birth_at h to)) (dictionary_at s (birth_at h from))
  unfolding merge_plan_at merge_planned
  planned-shown names s shows distinct =
      ap (λ n. merge_plan n (length both) (capacity_at h to))
      (count-shown h from source sound names s shows)
      ∙ (ap (λ n. merge_plan (length (dictionary_at s (birth_at h from)).pairs) n
      (capacity_at h to)) (sym (put-long names s shows distinct))
      ∙ ap (merge_plan (length (dictionary_at s (birth_at h from)).pairs)
      (length (put_pairs (dictionary_at s (birth_at h to)).pairs
      (dictionary_at s (birth_at h from)).pairs)))
      (capacity-shown h to target sound names s shows))

  pub planned-full : (names : List (List ℕ)) (s : Store) → Shows h names s
      → (merge_planned (dictionary_at s (birth_at h to)) (dictionary_at s (birth_at h from)) ≡ Full)
      ↔ (holding (dictionary_at s (birth_at h to))
      (put_pairs (dictionary_at s (birth_at h to)).pairs
      (dictionary_at s (birth_at h from)).pairs) ≡ None)
  unfolding merge_planned
  planned-full names s shows =
      let n = count-shown h to target sound names s shows in
      let k = capacity-shown h to target sound names s shows in
      let fits = count-fits h to target sound in
      let few = few-places h to target sound in
      full-of (dictionary_at s (birth_at h to)) (dictionary_at s (birth_at h from)).pairs
      (omega (arith, n, k, fits)) (omega (arith, k, few))

  -- where those of both have room in one
  pub planned-few : count_at h to + count_at h from ≤ 21845 → merge_plan_at h to from ≢ Full
  unfolding merge_plan_at
  planned-few few =
      let most = length-merged (pairs_at h to) (pairs_at h from) in
      let one = length-pairs h to target sound in
      let two = length-pairs h from source sound in
      plan-few (length both) (capacity_at h to) (count_at h from)
      (omega (arith, few, most, one, two))

  -- ---- the room in which they are put together

  pub room-both : 2 * (count_at h to + count_at h from) ≤ merge_room h to from
  unfolding merge_room
  room-both = omega arith

  pub room-body : 3 * grown_capacity (capacity_at h to) (length both) ≤ merge_room h to from
  unfolding merge_room
  room-body = omega arith

  pub room-shown : (names : List (List ℕ)) (s : Store) → Shows h names s
      → AllPairs (λ first later. first ≢ later) names → merge_room h to from ≡ merge_room_of
      (dictionary_at s (birth_at h to)) (dictionary_at s (birth_at h from))
  unfolding merge_room
  room-shown names s shows distinct =
      ap (λ n. max (2 * (n + count_at h from))
      (3 * grown_capacity (capacity_at h to) (length both)))
      (count-shown h to target sound names s shows)
      ∙ (ap (λ n. max (2 * (length (dictionary_at s (birth_at h to)).pairs + n))
      (3 * grown_capacity (capacity_at h to) (length both)))
      (count-shown h from source sound names s shows)
      ∙ (ap (λ n. max (2 * (length (dictionary_at s (birth_at h to)).pairs
      + length (dictionary_at s (birth_at h from)).pairs))
      (3 * grown_capacity n (length both)))
      (capacity-shown h to target sound names s shows)
      ∙ ap (λ n. max (2 * (length (dictionary_at s (birth_at h to)).pairs
      + length (dictionary_at s (birth_at h from)).pairs))
      (3 * grown_capacity (dictionary_at s (birth_at h to)).capacity n))
      (sym (put-long names s shows distinct))))
