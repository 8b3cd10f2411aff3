-- How many pairs there are once those of one dictionary are put into another.
use Rattle.std.proofs.Common.{◌≡◌, ◌≢◌, ℕ, zero, suc, ◌+◌, ◌/◌, ◌%◌, ◌^◌, ◌<◌, ◌≤◌, true, false, List, [], ◌∷◌, ◌++◌, length, take, Option, Some, None, refl, sym, ap, ◌∙◌, arith, inl, inr, length-append, true≢false}
use Rattle.std.specs.Prelude.{Bool, option_map, slice_get, nat_le, if◌then◌else◌}
use Rattle.std.specs.List.{AllByRecursion}
use Rattle.std.proofs.lemmas.Bool.Decides.{eqb_tells, nat_tests, Decides-eqb}
use Rattle.ps_language.specs.declared.kinds.Kind.TheVariants.{Dictionary as DictionaryKind}
use Rattle.ps_word.specs.declared.words.Word.{Word}
use Rattle.ps_mem.specs.Heap.{Heap}
use Rattle.ps_mem.specs.References.{StandsAs}
use Rattle.ps_mem.specs.Shows.{IsValue, IsSound}
use Rattle.ps_mem.proofs.Lists.{all_take}
use Rattle.ps_dict.specs.Keys.{same_words, IsKey}
use Rattle.ps_dict.specs.Merges.{put_at, put_words, merged}
use Rattle.ps_dict.specs.Places.{pairs_at, place_of}
use Rattle.ps_dict.proofs.Entering.{place-with_value}
use Rattle.ps_dict.proofs.KeyLemmas.{unlike-types, unlike-string, like-bits}
use Rattle.ps_dict.proofs.Merging.{all-merged, merged-next, place-kept, place-neither, none-earlier, put-at}
use Rattle.ps_dict.proofs.Shapes.{pairs-values}
use Rattle.ps_dict.proofs.WordRuns.{length-with_value}

-- ---- the same key as the same

-- their bits say so
record IsAlike (a b : Word) : Type 0 where
  types : a.0 / 2 ^ 60 ≡ b.0 / 2 ^ 60
  plain : a.0 / 2 ^ 60 ≢ 7
  bits : a.0 % 2 ^ 57 ≡ b.0 % 2 ^ 57

alike : (a b : Word) → IsKey a → IsKey b → same_words a b ≡ true → IsAlike a b
alike a b first second same =
    let types : a.0 / 2 ^ 60 ≡ b.0 / 2 ^ 60 = elim (eqb_tells (a.0 / 2 ^ 60) (b.0 / 2 ^ 60)) [
      | inl (_, is) ↦ is
      | inr (_, other) ↦ absurd (true≢false (sym same
          ∙ sym (unlike-types a b first.word second.word other)))
    ] in
    let plain : a.0 / 2 ^ 60 ≢ 7 = λ is.
    true≢false (sym same ∙ sym (unlike-string a b first.word second.word is)) in
    record {
      types = types;
      plain = plain;
      bits = (Decides-eqb (a.0 % 2 ^ 57) (b.0 % 2 ^ 57)).0
          (like-bits a b first.word second.word first.visible types plain ∙ same);
    }

same-through : (a b c : Word) → IsKey a → IsKey b → IsKey c → same_words a b ≡ true
    → same_words b c ≡ true → same_words a c ≡ true
same-through a b c first second third one two =
    let x = alike a b first second one in
    let y = alike b c second third two in
    sym (like-bits a c first.word third.word first.visible (x.types ∙ y.types) x.plain)
    ∙ (Decides-eqb (a.0 % 2 ^ 57) (c.0 % 2 ^ 57)).1 (x.bits ∙ y.bits)

-- ---- a key that is among pairs

abbrev AreKeys : List (Word × Word) → Type 0
AreKeys pairs = AllByRecursion (λ (pair : Word × Word). IsKey pair.0 × IsKey pair.1) pairs

module _ (key : Word) where
  abbrev IsAmong : List (Word × Word) → Type 0
  IsAmong pairs = (i : ℕ) × (place_of pairs key ≡ Some i)

  among-here : (pair : Word × Word) (pairs : List (Word × Word)) → same_words pair.0 key ≡ true
      → IsAmong (pair ∷ pairs)
  unfolding place_of
  among-here pair pairs same = (0, rw same refl)

  among-next : (pair : Word × Word) (pairs : List (Word × Word)) → IsAmong pairs
      → IsAmong (pair ∷ pairs)
  unfolding place_of
  among-next pair pairs there =
      elim (same_words pair.0 key) as
      (λ b. same_words pair.0 key ≡ b → IsAmong (pair ∷ pairs)) [
        | true ↦ λ e. among-here pair pairs e
        | false ↦ λ e. (suc there.0, rw e (ap (option_map suc) there.1))
      ] refl

  among-last : (pairs : List (Word × Word)) (pair : Word × Word) → same_words pair.0 key ≡ true
      → IsAmong (pairs ++ pair ∷ [])
  among-last [] pair same = among-here pair [] same
  among-last (first ∷ pairs) pair same =
      among-next first (pairs ++ pair ∷ []) (among-last pairs pair same)

  module _ (is_key : IsKey key) where
    -- where another that is the same is
    among-same : (pairs : List (Word × Word)) (other : Word) (j : ℕ) → AreKeys pairs → IsKey other
        → same_words other key ≡ true → place_of pairs other ≡ Some j → IsAmong pairs
    unfolding place_of
    among-same [] other j all is_other same at = cc
    among-same (pair ∷ pairs) other j all is_other same at =
        elim (same_words pair.0 other) as
        (λ b. same_words pair.0 other ≡ b → IsAmong (pair ∷ pairs)) [
          | true ↦ λ e. among-here pair pairs
              (same-through pair.0 other key all.0.0 is_other is_key e same)
          | false ↦ λ e.
              let next : option_map suc (place_of pairs other) ≡ Some j = rw e at at in
              elim (place_of pairs other) as
              (λ o. place_of pairs other ≡ o → option_map suc o ≡ Some j
              → IsAmong (pair ∷ pairs)) [
                | None ↦ λ is h. cc
                | Some n ↦ λ is h. among-next pair pairs
                    (among-same pairs other n all.1 is_other same is)
              ] refl next
        ] refl

    among-put : (pairs : List (Word × Word)) (pair : Word × Word) → AreKeys pairs → IsKey pair.0
        → same_words pair.0 key ≡ true → IsAmong (put_words pairs pair)
    unfolding put_words
    among-put pairs pair all is_pair same = by (place_of pairs pair.0) refl
      where
        by : (o : Option ℕ) → place_of pairs pair.0 ≡ o → IsAmong (put_at o pairs pair)
        by (Some j) at =
            let there = among-same pairs pair.0 j all is_pair same at in
            (there.0, place-with_value pairs j pair.1 key ∙ there.1)
        by None at = among-last pairs pair same

    -- one of those that are put in
    among-merged : (pairs more : List (Word × Word)) (j : ℕ) → AreKeys pairs → AreKeys more
        → place_of more key ≡ Some j → IsAmong (merged pairs more)
    unfolding put_words place_of
    among-merged pairs [] j all also at = cc
    among-merged pairs (pair ∷ more) j all also at =
        elim (same_words pair.0 key) as
        (λ b. same_words pair.0 key ≡ b → IsAmong (merged pairs (pair ∷ more))) [
          | true ↦ λ e.
              let put = among-put pairs pair all also.0.0 e in
              (put.0, place-kept key (put_words pairs pair) more put.0 put.1)
          | false ↦ λ e.
              let next : option_map suc (place_of more key) ≡ Some j = rw e at at in
              elim (place_of more key) as
              (λ o. place_of more key ≡ o → option_map suc o ≡ Some j
              → IsAmong (merged pairs (pair ∷ more))) [
                | None ↦ λ is h. cc
                | Some n ↦ λ is h. among-merged (put_words pairs pair) more n
                    (all-merged IsKey pairs (pair ∷ []) all (also.0, tt)) also.1 is
              ] refl next
        ] refl

  -- a key that comes first before a place is before it
  some-earlier : (pairs : List (Word × Word)) (i j : ℕ) → place_of pairs key ≡ Some j → j < i
      → place_of (take i pairs) key ≡ Some j
  unfolding place_of
  some-earlier pairs zero j at before = absurd (omega (arith, before))
  some-earlier [] (suc i) j at before = cc
  some-earlier (pair ∷ pairs) (suc i) j at before =
      elim (same_words pair.0 key) as
      (λ b. same_words pair.0 key ≡ b → place_of (take (suc i) (pair ∷ pairs)) key ≡ Some j) [
        | true ↦ λ e. let here : Some 0 ≡ Some j = rw e at at in rw e here
        | false ↦ λ e.
            let next : option_map suc (place_of pairs key) ≡ Some j = rw e at at in
            elim (place_of pairs key) as
            (λ o. place_of pairs key ≡ o → option_map suc o ≡ Some j
            → place_of (take (suc i) (pair ∷ pairs)) key ≡ Some j) [
              | None ↦ λ is h. cc
              | Some n ↦ λ is h.
                  let one : suc n ≡ j = cc in
                  rw e (ap (option_map suc)
                  (some-earlier pairs i n is (omega (arith, one, before))) ∙ h)
            ] refl next
      ] refl

-- ---- of two dictionaries

keys-of : (h : Heap) (pairs : List (Word × Word))
    → AllByRecursion (λ (pair : Word × Word). IsValue h pair.0 × IsValue h pair.1) pairs
    → AreKeys pairs
keys-of h [] all = tt
keys-of h (pair ∷ pairs) all = (
  (
    record { word = all.0.0.word; visible = all.0.0.visible },
    record { word = all.0.1.word; visible = all.0.1.visible },
  ),
  keys-of h pairs all.1,
)

-- a key of the source that comes first before a place is among those that are put in before it
among-before : (h : Heap) → IsSound h → (to from : ℕ) → StandsAs h DictionaryKind to 4
    → StandsAs h DictionaryKind from 4 → (key : Word) → IsValue h key → (first place : ℕ)
    → place_of (pairs_at h from) key ≡ Some first → first < place
    → (i : ℕ) × (place_of (merged (pairs_at h to) (take place (pairs_at h from))) key ≡ Some i)
among-before h sound to from target source key held first place at before =
    among-merged key (record { word = held.word; visible = held.visible }) (pairs_at h to)
    (take place (pairs_at h from)) first
    (keys-of h (pairs_at h to) (pairs-values h to target sound))
    (keys-of h (take place (pairs_at h from))
    (all_take _ place (pairs_at h from) (pairs-values h from source sound)))
    (some-earlier key (pairs_at h from) place first at before)

-- ---- a pair more

module _ (pairs more : List (Word × Word)) (i : ℕ) (pair : Word × Word)
    (at : slice_get more i ≡ Some pair) where
  abbrev so_far : List (Word × Word)
  so_far = merged pairs (take i more)

  pub count-there : (j : ℕ) → place_of so_far pair.0 ≡ Some j
      → length (merged pairs (take (i + 1) more)) ≡ length so_far
  count-there j there =
      ap length (merged-next pairs more i pair at ∙ put-at so_far pair (Some j) there)
      ∙ length-with_value so_far j pair.1

  pub count-new : place_of so_far pair.0 ≡ None
      → length (merged pairs (take (i + 1) more)) ≡ length so_far + 1
  count-new none =
      ap length (merged-next pairs more i pair at ∙ put-at so_far pair None none)
      ∙ length-append so_far (pair ∷ [])

-- the pair at a place of the source, whose key isn't in the target and comes first at another
pub count-by : (h : Heap) → IsSound h → (to from : ℕ) → StandsAs h DictionaryKind to 4
    → StandsAs h DictionaryKind from 4 → (pair : Word × Word) → IsValue h pair.0
    → (first place : ℕ) → slice_get (pairs_at h from) place ≡ Some pair
    → place_of (pairs_at h to) pair.0 ≡ None → place_of (pairs_at h from) pair.0 ≡ Some first
    → length (merged (pairs_at h to) (take (place + 1) (pairs_at h from)))
    ≡ length (merged (pairs_at h to) (take place (pairs_at h from)))
    + (if nat_le place first then 1 else 0)
count-by h sound to from target source pair held first place at none found =
    by (nat_le place first) refl
  where
    by : (b : Bool) → nat_le place first ≡ b
        → length (merged (pairs_at h to) (take (place + 1) (pairs_at h from)))
        ≡ length (merged (pairs_at h to) (take place (pairs_at h from))) + (if b then 1 else 0)
    by true is =
        let past : place ≤ first = grind (arith, nat_tests, is) in
        count-new (pairs_at h to) (pairs_at h from) place pair at
        (place-neither pair.0 (pairs_at h to) (take place (pairs_at h from)) none
        (none-earlier pair.0 (pairs_at h from) place first found past))
    by false is =
        let before : first < place = grind (arith, nat_tests, is) in
        let there = among-before h sound to from target source pair.0 held first place found
        before in
        let same = count-there (pairs_at h to) (pairs_at h from) place pair at there.0 there.1 in
        omega (arith, same)
