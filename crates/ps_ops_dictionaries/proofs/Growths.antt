-- The room that a put asks for.
use Rattle.std.proofs.Common.{◌≡◌, ℕ, ◌+◌, ◌≤◌, ◌<◌, List, arith, true, false, ◌∷◌, length, Option, Some, None, refl}
use Rattle.std.proofs.Common.{ap, ◌∙◌}
use Rattle.std.specs.Prelude.{nat_lt, nat_le, ◌==◌, Bool, [], if◌then◌else◌}
use Rattle.std.proofs.lemmas.Bool.Decides.{nat_tests}
use Rattle.std.proofs.lemmas.List.{length-append}
use Rattle.ps_language.specs.Value.{Value, Dictionary, dictionary_object}
use Rattle.ps_language.specs.Limits.{capacity_limit}
use Rattle.ps_language.specs.Objects.{growth_of}
use Rattle.ps_language.specs.Dictionaries.{holding, put_pair, put_pairs, grown_capacity, body_words}
use Rattle.ps_dict.specs.declared.plans.PutPlan.TheVariants.{Append, Grow}
use Rattle.ps_dict.specs.declared.copies.MergePlan.TheVariants as merges_of
use Rattle.ps_dict.specs.declared.copies.MergePlan.TheVariants.{Rewrite}
use Rattle.ps_dict.specs.Merges as merges
use Rattle.ps_dict.specs.Merges.{body_plan, merge_plan}
use Rattle.ps_dict.specs.Puts.{planned, plan_from, words_of}
use Rattle.ps_dict.specs.Places.{first_place}
use Rattle.ps_dict.proofs.Planning.{holding-is, grown-same, grown-limits}
use Rattle.ps_dict.proofs.WordRuns.{put-present, put-absent, length-with_value}

pub same_number : (n : ℕ) → (n == n) ≡ true
same_number n = grind (arith, nat_tests)

module _ (d new : Dictionary) (key value : Value) (few : length d.pairs ≤ d.capacity)
    (is : holding d (put_pair d.pairs (key, value)) ≡ Some new) where
  -- the capacity that it has then
  grown_is : (n : ℕ) → length (put_pair d.pairs (key, value)) ≡ n
      → new.capacity ≡ grown_capacity d.capacity n
  grown_is n long =
      ap (λ (x : Dictionary). x.capacity) (holding-is d new (put_pair d.pairs (key, value)) is)
      ∙ ap (grown_capacity d.capacity) long

  stays : new.capacity ≡ d.capacity → growth_of (dictionary_object d) (dictionary_object new) ≡ 0
  stays same = rw (same, same_number d.capacity) refl

  within_limit : (n : ℕ) → length (put_pair d.pairs (key, value)) ≡ n → n ≤ 21845
  within_limit n long = by (nat_le (length (put_pair d.pairs (key, value))) capacity_limit) refl is
    where
      by : (b : Bool) → nat_le (length (put_pair d.pairs (key, value))) capacity_limit ≡ b
          → (if b then Some (record d {
            pairs = put_pair d.pairs (key, value);
            capacity = grown_capacity d.capacity (length (put_pair d.pairs (key, value)));
          }) else None) ≡ Some new → n ≤ 21845
      by true fits e = grind (arith, nat_tests, fits, long)
      by false fits e = cc

  -- that of the plan
  pub put_room : growth_of (dictionary_object d) (dictionary_object new) ≡ words_of (planned d key)
  unfolding planned
  put_room = by (first_place d.pairs key) refl
    where
      absent : first_place d.pairs key ≡ None
          → length (put_pair d.pairs (key, value)) ≡ length d.pairs + 1
      absent none = ap length (put-absent d.pairs key value none)
          ∙ length-append d.pairs ((key, value) ∷ [])

      grows : d.capacity ≤ length d.pairs → first_place d.pairs key ≡ None
          → growth_of (dictionary_object d) (dictionary_object new)
          ≡ body_words (grown_capacity d.capacity (length d.pairs + 1))
      grows full none =
          let long = absent none in
          let most = within_limit _ long in
          let is = grown_is _ long in
          let limits = grown-limits d.capacity (length d.pairs + 1) (omega (arith, full)) most in
          let least = limits.0 in
          let apart : (d.capacity == grown_capacity d.capacity (length d.pairs + 1)) ≡ false =
          grind (arith, nat_tests, full, least) in
          rw (is, apart) refl

      by : (o : Option ℕ) → first_place d.pairs key ≡ o
          → growth_of (dictionary_object d) (dictionary_object new)
          ≡ words_of (plan_from o (length d.pairs) d.capacity)
      by (Some i) at =
          let long = ap length (put-present d.pairs key value i at)
          ∙ length-with_value d.pairs i value in
          stays (grown_is _ long ∙ grown-same d.capacity (length d.pairs) few)
      by None at =
          let long = absent at in
          let most = within_limit _ long in
          let room : nat_lt (length d.pairs) capacity_limit ≡ true =
          grind (arith, nat_tests, most) in
          rw room (fits (nat_lt (length d.pairs) d.capacity) refl)
        where
          fits : (b : Bool) → nat_lt (length d.pairs) d.capacity ≡ b
              → growth_of (dictionary_object d) (dictionary_object new)
              ≡ words_of (if b then Append else Grow
              (grown_capacity d.capacity (length d.pairs + 1)))
          fits true less =
              stays (grown_is _ (absent at)
              ∙ grown-same d.capacity (length d.pairs + 1) (grind (arith, nat_tests, less)))
          fits false past = grows (grind (arith, nat_tests, past)) at

-- ---- pairs put together

module _ (d new : Dictionary) (pairs : List (Value × Value)) (is : holding d pairs ≡ Some new) where
  held_few : length pairs ≤ 21845
  held_few = by (nat_le (length pairs) capacity_limit) refl is
    where
      by : (b : Bool) → nat_le (length pairs) capacity_limit ≡ b
          → (if b then Some (record d
          { pairs = pairs; capacity = grown_capacity d.capacity (length pairs) }) else None)
          ≡ Some new → length pairs ≤ 21845
      by true fits e = grind (arith, nat_tests, fits)
      by false fits e = cc

  held_capacity : new.capacity ≡ grown_capacity d.capacity (length pairs)
  held_capacity = ap (λ (x : Dictionary). x.capacity) (holding-is d new pairs is)

  held_stays : length pairs ≤ d.capacity
      → growth_of (dictionary_object d) (dictionary_object new) ≡ 0
  held_stays fits = rw (
    held_capacity ∙ grown-same d.capacity (length pairs) fits,
    same_number d.capacity,
  ) refl

  held_grows : d.capacity < length pairs
      → growth_of (dictionary_object d) (dictionary_object new)
      ≡ body_words (grown_capacity d.capacity (length pairs))
  held_grows more =
      let limits = grown-limits d.capacity (length pairs) more held_few in
      let least = limits.0 in
      let apart : (d.capacity == grown_capacity d.capacity (length pairs)) ≡ false =
      grind (arith, nat_tests, more, least) in
      rw (held_capacity, apart) refl

-- that of the plan
merge_grows : (d new : Dictionary) (pairs : List (Value × Value)) → holding d pairs ≡ Some new
    → growth_of (dictionary_object d) (dictionary_object new)
    ≡ merges.words_of (body_plan (length pairs) d.capacity)
merge_grows d new pairs is = by (nat_le (length pairs) d.capacity) refl
  where
    by : (b : Bool) → nat_le (length pairs) d.capacity ≡ b
        → growth_of (dictionary_object d) (dictionary_object new)
        ≡ merges.words_of (if b then Rewrite (length pairs) else
        (if nat_le (length pairs) capacity_limit then
        merges_of.Grow (length pairs) (grown_capacity d.capacity (length pairs)) else
        merges_of.Full))
    by true fits = held_stays d new pairs is (grind (arith, nat_tests, fits))
    by false past =
        let most = held_few d new pairs is in
        let limit : nat_le (length pairs) capacity_limit ≡ true = grind (arith, nat_tests, most) in
        rw limit (held_grows d new pairs is (grind (arith, nat_tests, past)))

pub merge_growth : (d new : Dictionary) (more : List (Value × Value))
    → length d.pairs ≤ d.capacity → holding d (put_pairs d.pairs more) ≡ Some new
    → growth_of (dictionary_object d) (dictionary_object new)
    ≡ merges.words_of (merge_plan (length more) (length (put_pairs d.pairs more)) d.capacity)
merge_growth d new [] few is = held_stays d new d.pairs is few
merge_growth d new (pair ∷ more) few is =
    merge_grows d new (put_pairs d.pairs (pair ∷ more)) is
