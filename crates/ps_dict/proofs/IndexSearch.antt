-- A search by the index finds exactly the place of the key.
use Rattle.std.proofs.Common.{◌≡◌, ℕ, zero, suc, ◌%◌, ◌<◌, ◌≤◌, Bool, true, false, ◌&&◌, List, [], ◌∷◌, ◌++◌, length, map, Option, Some, None, refl, ap, ◌∙◌, arith, subst, rules}
use Rattle.std.specs.Prelude.{slice_get, option_map, ◌==◌}
use Rattle.std.specs.List.{AllByRecursion}
use Rattle.std.specs.Int.{w32, cast_unsigned}
use Rattle.std.proofs.lemmas.List.{length-map}
use Rattle.std.proofs.lemmas.Bool.Decides.{Decides-eqb, Decides-and, Decides-int_eq}
use denote.Enum.Bare.{same_true}
use Rattle.ps_language.specs.declared.operators.Operator.{Operator as OperatorName}
use Rattle.ps_language.specs.contracts.operators.Operator as the_operator
use Rattle.ps_language.specs.Equality.{same_truth, same_operator}
use Rattle.ps_word.specs.declared.words.Word.{Word}
use Rattle.ps_word.specs.declared.values.Part.{Part}
use Rattle.ps_word.specs.declared.values.Content.{Content}
use Rattle.ps_word.specs.declared.values.Content.TheVariants.{Null, Integer, Boolean, Mark, Name, Operator, Array, Dictionary, Lock, Condition}
use Rattle.ps_language.specs.Operators.{operator_number}
use Rattle.ps_word.specs.Format.{content_in, bit_of}
use Rattle.ps_mem.specs.Index.{hash_of_content, hash_of, hashes_of, index_of}
use Rattle.ps_mem.proofs.Lists.{slice_get-map}
use Rattle.ps_dict.specs.Keys.{same_place, same_content, same_words}
use Rattle.ps_dict.specs.Places.{place_of}
use Rattle.ps_dict.specs.Probes.{turned, looked_up, same_found, same_at}
use Rattle.ps_dict.proofs.IndexPlaces.{IsFound, IsIndex, is-index}

-- ---- one key, one hash number

operators_one : (a b : OperatorName) → same_operator a b ≡ true → a ≡ b
operators_one a b e = same_true the_operator.the_type (search rules) a b e

truths_one : (a b : Bool) → same_truth a b ≡ true → a ≡ b
truths_one true true e = refl
truths_one false false e = refl
truths_one true false e = cc
truths_one false true e = cc

places_one : (p q : Part) → same_place p q ≡ true → (p.address ≡ q.address) × (p.offset ≡ q.offset)
    × (p.length ≡ q.length)
places_one p q e =
    let all = (Decides-and (p.address == q.address && p.offset == q.offset) (p.length == q.length)
    (Decides-and (p.address == q.address) (p.offset == q.offset) (Decides-eqb p.address q.address)
    (Decides-eqb p.offset q.offset))
    (Decides-eqb p.length q.length)).0 e in
    (all.0.0, all.0.1, all.1)

hash-same_content : (births : ℕ → ℕ) (c d : Content) → same_content c d ≡ true
    → hash_of_content births c ≡ hash_of_content births d
hash-same_content births Null Null e = refl
hash-same_content births Mark Mark e = refl
hash-same_content births (Integer i) (Integer j) e =
    ap (cast_unsigned w32) ((Decides-int_eq i j).0 e)
hash-same_content births (Boolean a) (Boolean b) e = ap bit_of (truths_one a b e)
hash-same_content births (Name a) (Name b) e = (Decides-eqb a b).0 e
hash-same_content births (Operator a) (Operator b) e = ap operator_number (operators_one a b e)
hash-same_content births (Array p) (Array q) e =
    let (x, y, z) = places_one p q e in
    let b : births p.address ≡ births q.address = ap births x in
    omega (arith, b, y, z)
hash-same_content births (Dictionary a) (Dictionary b) e = ap births ((Decides-eqb a b).0 e)
hash-same_content births (Lock a) (Lock b) e = ap births ((Decides-eqb a b).0 e)
hash-same_content births (Condition a) (Condition b) e = ap births ((Decides-eqb a b).0 e)
hash-same_content births c d e = cc

pub hash-same : (births : ℕ → ℕ) (a b : Word) → same_words a b ≡ true
    → hash_of births a ≡ hash_of births b
unfolding hash_of same_words
hash-same births a b e = hash-same_content births (content_in a.0) (content_in b.0) e

-- ---- a search

looked_up-found : (same : ℕ → Bool) (q : ℕ) → same q ≡ true → ((j : ℕ) → j < q → same j ≡ false)
    → (front : List ℕ) → AllByRecursion (λ j. j < q) front → (rest : List (Option ℕ))
    → looked_up same (map Some front ++ Some q ∷ rest) ≡ Some q
looked_up-found same q here none [] before rest = rw here refl
looked_up-found same q here none (j ∷ front) before rest = let other = none j before.0 in
    rw other (looked_up-found same q here none front before.1 rest)

looked_up-none : (same : ℕ → Bool) → ((j : ℕ) → same j ≡ false) → (places : List (Option ℕ))
    → looked_up same places ≡ None
looked_up-none same none [] = refl
looked_up-none same none (None ∷ places) = refl
looked_up-none same none (Some q ∷ places) = let other = none q in
    rw other (looked_up-none same none places)

-- ---- the place of a key

option_none : (o : Option ℕ) → option_map suc o ≡ None → o ≡ None
option_none None h = refl
option_none (Some n) h = cc

first : (pair : Word × Word) (pairs : List (Word × Word)) (key : Word) (j : ℕ)
    → same_words pair.0 key ≡ false → ((i : ℕ) → same_at pairs key i ≡ false)
    → same_at (pair ∷ pairs) key j ≡ false
first pair pairs key zero e rest = e
first pair pairs key (suc j) e rest = rest j

place-none : (pairs : List (Word × Word)) (key : Word) → place_of pairs key ≡ None → (j : ℕ)
    → same_at pairs key j ≡ false
unfolding place_of
place-none [] key none j = refl
place-none (pair ∷ pairs) key none j =
    elim (same_words pair.0 key) as
    (λ b. same_words pair.0 key ≡ b → same_at (pair ∷ pairs) key j ≡ false) [
      | true ↦ λ e. let clash : Some 0 ≡ None = rw e at none in cc
      | false ↦ λ e. let rest : option_map suc (place_of pairs key) ≡ None = rw e at none in
          first pair pairs key j e (place-none pairs key (option_none (place_of pairs key) rest))
    ] refl

record IsPlace (pairs : List (Word × Word)) (key : Word) (q : ℕ) : Type 0 where
  pub pair : Word × Word
  pub there : slice_get pairs q ≡ Some pair
  pub same : same_words pair.0 key ≡ true
  pub before : (j : ℕ) → j < q → same_at pairs key j ≡ false

behind : (pair : Word × Word) (pairs : List (Word × Word)) (key : Word) (i : ℕ)
    → same_words pair.0 key ≡ false → IsPlace pairs key i → IsPlace (pair ∷ pairs) key (suc i)
behind pair pairs key i e p =
    record { pair = p.pair; there = p.there; same = p.same; before = below }
  where
    below : (j : ℕ) → j < suc i → same_at (pair ∷ pairs) key j ≡ false
    below zero h = e
    below (suc j) h = p.before j (omega (arith, h))

place-some : (pairs : List (Word × Word)) (key : Word) (q : ℕ) → place_of pairs key ≡ Some q
    → IsPlace pairs key q
unfolding place_of
place-some [] key q at = cc
place-some (pair ∷ pairs) key q at =
    elim (same_words pair.0 key) as (λ b. same_words pair.0 key ≡ b → IsPlace (pair ∷ pairs) key q) [
      | true ↦ λ e.
          let here : Some 0 ≡ Some q = rw e at at in
          let is : 0 ≡ q = cc in
          subst (IsPlace (pair ∷ pairs) key) is
          (record {
            pair = pair;
            there = refl;
            same = e;
            before =
                λ j below. absurd (omega (arith, below));
          })
      | false ↦ λ e.
          let next : option_map suc (place_of pairs key) ≡ Some q = rw e at at in
          elim (place_of pairs key) as
          (λ o. place_of pairs key ≡ o → option_map suc o ≡ Some q
          → IsPlace (pair ∷ pairs) key q) [
            | None ↦ λ is h. cc
            | Some i ↦ λ is h. let one : suc i ≡ q = cc in
                subst (IsPlace (pair ∷ pairs) key) one
                (behind pair pairs key i e (place-some pairs key i is))
          ] refl next
    ] refl

pub no_pair : (key : Word) → place_of [] key ≡ None
unfolding place_of
no_pair key = refl

-- ---- the law

found_at : (births : ℕ → ℕ) (capacity : ℕ) (pairs : List (Word × Word)) (key : Word)
    (places : List (Option ℕ)) → IsIndex capacity (hashes_of births pairs) places
    → (q : ℕ) → IsPlace pairs key q
    → looked_up (same_at pairs key) (turned (hash_of births key % capacity) places) ≡ Some q
found_at births capacity pairs key places index q p =
    let hash : slice_get (hashes_of births pairs) q ≡ Some (hash_of births p.pair.0) =
    slice_get-map (λ (pair : Word × Word). hash_of births pair.0) pairs q p.pair p.there in
    let one : hash_of births p.pair.0 ≡ hash_of births key = hash-same births p.pair.0 key p.same in
    let found : IsFound (turned (hash_of births key % capacity) places) q =
    subst (λ n. IsFound (turned (n % capacity) places) q) one
    (index.found q (hash_of births p.pair.0) hash) in
    let here : same_at pairs key q ≡ true = ap (λ o. same_found o key) p.there ∙ p.same in
    ap (looked_up (same_at pairs key)) found.is
    ∙ looked_up-found (same_at pairs key) q here p.before found.front found.before found.rest

-- looking through the index from the start of a key on, going round, up to a free place, finds the
-- place of the first pair with the key, or none
pub index-finds : (births : ℕ → ℕ) (capacity : ℕ) (pairs : List (Word × Word)) (key : Word)
    → length pairs ≤ capacity
    → looked_up (same_at pairs key)
    (turned (hash_of births key % capacity) (index_of capacity (hashes_of births pairs))) ≡
    place_of pairs key
index-finds births capacity pairs key room =
    let count : length (hashes_of births pairs) ≡ length pairs =
    length-map pairs (λ (pair : Word × Word). hash_of births pair.0) in
    let index = is-index capacity (hashes_of births pairs) (omega (arith, count, room)) in
    let places = index_of capacity (hashes_of births pairs) in
    elim (place_of pairs key) as
    (λ o. place_of pairs key ≡ o
    → looked_up (same_at pairs key) (turned (hash_of births key % capacity) places) ≡ o) [
      | None ↦ λ none. looked_up-none (same_at pairs key) (place-none pairs key none)
          (turned (hash_of births key % capacity) places)
      | Some q ↦ λ at. found_at births capacity pairs key places index q (place-some pairs key q at)
    ] refl
