-- Lists of pairs: their words, and the place of a key among them.
use Rattle.std.proofs.Common.{◌≡◌, ℕ, zero, suc, ◌+◌, ◌*◌, ◌<◌, ◌≤◌, true, false, List, [], ◌∷◌, ◌++◌, length, map, take, drop, Option, Some, None, refl, sym, ap, ◌∙◌, arith}
use Rattle.std.specs.Prelude.{slice_get, option_map}
use Rattle.std.specs.List.{AllByRecursion}
use Rattle.ps_language.specs.Value.{Value}
use Rattle.ps_language.specs.Equality.{same_key}
use Rattle.ps_language.specs.Dictionaries.{find}
use Rattle.ps_word.specs.declared.words.Word.{Word}
use Rattle.ps_mem.specs.Shows.{words_of_pairs}
use Rattle.ps_dict.specs.Keys.{same_words}
use Rattle.ps_dict.specs.Places.{place_of, first_place}
use Rattle.ps_mem.specs.Index.{pairs_of_words}

-- ---- words in twos

pub slice_get_there : {A : Type 0} (xs : List A) (i : ℕ) → i < length xs → (x : A)
    × (slice_get xs i ≡ Some x)
slice_get_there [] i h = absurd (omega arith)
slice_get_there (x ∷ xs) zero h = (x, refl)
slice_get_there (x ∷ xs) (suc i) h = slice_get_there xs i (omega arith)

pub slice_get-take : {A : Type 0} (n : ℕ) (xs : List A) (i : ℕ) → i < n
    → slice_get (take n xs) i ≡ slice_get xs i
slice_get-take zero xs i h = absurd (omega arith)
slice_get-take (suc n) [] i h = refl
slice_get-take (suc n) (x ∷ xs) zero h = refl
slice_get-take (suc n) (x ∷ xs) (suc i) h = slice_get-take n xs i (omega arith)

pub slice_get-past : {A : Type 0} (xs : List A) (i : ℕ) → length xs ≤ i → slice_get xs i ≡ None
slice_get-past [] i h = refl
slice_get-past (x ∷ xs) zero h = absurd (omega arith)
slice_get-past (x ∷ xs) (suc i) h = slice_get-past xs i (omega arith)

next_two : (i : ℕ) → 2 * suc i ≡ suc (suc (2 * i))
next_two i = omega arith

next_three : (i : ℕ) → 2 * suc i + 1 ≡ suc (suc (2 * i + 1))
next_three i = omega arith

-- the pair whose two words stand there
pub pair_here : (ws : List Word) (i : ℕ) (k v : Word) → slice_get ws (2 * i) ≡ Some k
    → slice_get ws (2 * i + 1) ≡ Some v → slice_get (pairs_of_words ws) i ≡ Some (k, v)
unfolding pairs_of_words
pair_here [] i k v first second = cc
pair_here (a ∷ []) zero k v first second = cc
pair_here (a ∷ []) (suc i) k v first second =
    let e : slice_get (a ∷ []) (suc (suc (2 * i))) ≡ Some k =
    sym (ap (slice_get (a ∷ [])) (next_two i)) ∙ first in cc
pair_here (a ∷ b ∷ ws) zero k v first second = let e : a ≡ k = cc in let f : b ≡ v = cc in
    λ i. Some (e i, f i)
pair_here (a ∷ b ∷ ws) (suc i) k v first second =
    pair_here ws i k v (sym (ap (slice_get (a ∷ b ∷ ws)) (next_two i)) ∙ first)
    (sym (ap (slice_get (a ∷ b ∷ ws)) (next_three i)) ∙ second)

pub length-pairs_of_words : (n : ℕ) (ws : List Word) → 2 * n ≤ length ws
    → n ≤ length (pairs_of_words ws)
unfolding pairs_of_words
length-pairs_of_words zero ws h = omega arith
length-pairs_of_words (suc n) [] h = absurd (omega arith)
length-pairs_of_words (suc n) (a ∷ []) h = absurd (omega arith)
length-pairs_of_words (suc n) (a ∷ b ∷ ws) h = let e = length-pairs_of_words n ws (omega arith) in
    omega (arith, e)

pub pairs-of_words_of_pairs : (pairs : List (Word × Word)) (rest : List Word)
    → pairs_of_words (words_of_pairs pairs ++ rest) ≡ pairs ++ pairs_of_words rest
unfolding pairs_of_words
pairs-of_words_of_pairs [] rest = refl
pairs-of_words_of_pairs (pair ∷ pairs) rest =
    ap (λ ps. pair ∷ ps) (pairs-of_words_of_pairs pairs rest)

pub take-front_all : {A : Type 0} (xs ys : List A) → take (length xs) (xs ++ ys) ≡ xs
take-front_all [] ys = refl
take-front_all (x ∷ xs) ys = ap (λ zs. x ∷ zs) (take-front_all xs ys)

pub drop-front : {A : Type 0} (xs ys : List A) → drop (length xs) (xs ++ ys) ≡ ys
drop-front [] ys = refl
drop-front (x ∷ xs) ys = drop-front xs ys

pub words-taken : (n : ℕ) (ws : List Word) → 2 * n ≤ length ws
    → words_of_pairs (take n (pairs_of_words ws)) ≡ take (2 * n) ws
unfolding pairs_of_words
words-taken zero ws h = refl
words-taken (suc n) [] h = absurd (omega arith)
words-taken (suc n) (x ∷ []) h = absurd (omega arith)
words-taken (suc n) (x ∷ y ∷ ws) h =
    let two : 2 * suc n ≡ suc (suc (2 * n)) = omega arith in
    ap (λ zs. x ∷ y ∷ zs) (words-taken n ws (omega arith)) ∙ sym (ap (λ k. take k (x ∷ y ∷ ws)) two)

pub words-append : (ps qs : List (Word × Word)) → words_of_pairs (ps ++ qs) ≡ words_of_pairs ps
    ++ words_of_pairs qs
words-append [] qs = refl
words-append (p ∷ ps) qs = ap (λ ws. p.0 ∷ p.1 ∷ ws) (words-append ps qs)

pub length-words_of_pairs : (pairs : List (Word × Word))
    → length (words_of_pairs pairs) ≡ 2 * length pairs
length-words_of_pairs [] = refl
length-words_of_pairs (pair ∷ pairs) = let e = length-words_of_pairs pairs in omega (arith, e)

-- what holds of each word holds of the words of each pair, and so back
module _ (P : Word → Type 0) where
  pub all_pairs : (ws : List Word) → AllByRecursion P ws
      → AllByRecursion (λ (pair : Word × Word). P pair.0 × P pair.1) (pairs_of_words ws)
  unfolding pairs_of_words
  all_pairs [] h = tt
  all_pairs (a ∷ []) h = tt
  all_pairs (a ∷ b ∷ ws) h = ((h.0, h.1.0), all_pairs ws h.1.1)

  pub all_words : (pairs : List (Word × Word))
      → AllByRecursion (λ (pair : Word × Word). P pair.0 × P pair.1) pairs
      → AllByRecursion P (words_of_pairs pairs)
  all_words [] all = tt
  all_words (pair ∷ pairs) all = (all.0.0, (all.0.1, all_words pairs all.1))

-- ---- the place of a key by words

none_before : (o : Option ℕ) → option_map suc o ≡ None → o ≡ None
none_before None h = refl
none_before (Some n) h = cc

module _ (key : Word) where
  pub place_found : (pairs : List (Word × Word)) (i : ℕ) (k v : Word)
      → place_of (take i pairs) key ≡ None → slice_get pairs i ≡ Some (k, v)
      → same_words k key ≡ true → place_of pairs key ≡ Some i
  unfolding place_of
  place_found [] i k v before at same = cc
  place_found (pair ∷ pairs) zero k v before at same =
      let is : pair ≡ (k, v) = cc in
      let here : same_words pair.0 key ≡ true = ap (λ (p : Word × Word). same_words p.0 key) is
      ∙ same in
      rw here refl
  place_found (pair ∷ pairs) (suc i) k v before at same =
      elim (same_words pair.0 key) as
      (λ b. same_words pair.0 key ≡ b → place_of (pair ∷ pairs) key ≡ Some (suc i)) [
        | true ↦ λ e. let clash : Some 0 ≡ None = rw e at before in cc
        | false ↦ λ e.
            let rest : option_map suc (place_of (take i pairs) key) ≡ None = rw e at before in
            rw e (ap (option_map suc)
            (place_found pairs i k v (none_before (place_of (take i pairs) key) rest) at same))
      ] refl

  pub place_not_yet : (pairs : List (Word × Word)) (i : ℕ) (k v : Word)
      → place_of (take i pairs) key ≡ None → slice_get pairs i ≡ Some (k, v)
      → same_words k key ≡ false → place_of (take (suc i) pairs) key ≡ None
  unfolding place_of
  place_not_yet [] i k v before at other = cc
  place_not_yet (pair ∷ pairs) zero k v before at other =
      let is : pair ≡ (k, v) = cc in
      let here : same_words pair.0 key ≡ false = ap (λ (p : Word × Word). same_words p.0 key) is
      ∙ other in
      rw here refl
  place_not_yet (pair ∷ pairs) (suc i) k v before at other =
      elim (same_words pair.0 key) as
      (λ b. same_words pair.0 key ≡ b → place_of (take (suc (suc i)) (pair ∷ pairs)) key ≡ None) [
        | true ↦ λ e. let clash : Some 0 ≡ None = rw e at before in cc
        | false ↦ λ e.
            let rest : option_map suc (place_of (take i pairs) key) ≡ None = rw e at before in
            rw e (ap (option_map suc)
            (place_not_yet pairs i k v (none_before (place_of (take i pairs) key) rest) at
            other))
      ] refl

  pub place_below : (pairs : List (Word × Word)) (i : ℕ) → place_of pairs key ≡ Some i
      → i < length pairs
  unfolding place_of
  place_below [] i at = cc
  place_below (pair ∷ pairs) i at =
      elim (same_words pair.0 key) as (λ b. same_words pair.0 key ≡ b → i < suc (length pairs)) [
        | true ↦ λ e. let here : Some 0 ≡ Some i = rw e at at in let is : 0 ≡ i = cc in
            omega (arith, is)
        | false ↦ λ e.
            let next : option_map suc (place_of pairs key) ≡ Some i = rw e at at in
            elim (place_of pairs key) as
            (λ o. place_of pairs key ≡ o → option_map suc o ≡ Some i → i < suc (length pairs)) [
              | None ↦ λ is h. cc
              | Some j ↦ λ is h. let below = place_below pairs j is in let one : suc j ≡ i = cc in
                  omega (arith, below, one)
            ] refl next
      ] refl

-- ---- by values

pub find_at : (pairs : List (Value × Value)) (key : Value) (i : ℕ) (pair : Value × Value)
    → first_place pairs key ≡ Some i → slice_get pairs i ≡ Some pair → find pairs key ≡ Some pair.1
unfolding first_place
find_at [] key i pair at there = cc
find_at (p ∷ pairs) key i pair at there =
    elim (same_key p.0 key) as (λ b. same_key p.0 key ≡ b → find (p ∷ pairs) key ≡ Some pair.1) [
      | true ↦ λ e.
          let here : Some 0 ≡ Some i = rw e at at in
          let is : 0 ≡ i = cc in
          let one : Some p ≡ Some pair = ap (slice_get (p ∷ pairs)) is ∙ there in
          let same : p ≡ pair = cc in
          rw e (ap (λ (q : Value × Value). Some q.1) same)
      | false ↦ λ e.
          let next : option_map suc (first_place pairs key) ≡ Some i = rw e at at in
          elim (first_place pairs key) as
          (λ o. first_place pairs key ≡ o → option_map suc o ≡ Some i
          → find (p ∷ pairs) key ≡ Some pair.1) [
            | None ↦ λ is h. cc
            | Some j ↦ λ is h.
                let one : suc j ≡ i = cc in
                rw e (find_at pairs key j pair is (ap (slice_get (p ∷ pairs)) one ∙ there))
          ] refl next
    ] refl

pub find_none : (pairs : List (Value × Value)) (key : Value) → first_place pairs key ≡ None
    → find pairs key ≡ None
unfolding first_place
find_none [] key at = refl
find_none (p ∷ pairs) key at =
    elim (same_key p.0 key) as (λ b. same_key p.0 key ≡ b → find (p ∷ pairs) key ≡ None) [
      | true ↦ λ e. let clash : Some 0 ≡ None = rw e at at in cc
      | false ↦ λ e.
          let next : option_map suc (first_place pairs key) ≡ None = rw e at at in
          rw e (find_none pairs key (none_before (first_place pairs key) next))
    ] refl

-- ---- places by values are those by words

module _ (f : Word × Word → Value × Value) (key : Word) (of_key : Value) where
  pub place-first : (pairs : List (Word × Word))
      → AllByRecursion (λ (pair : Word × Word). same_key (f pair).0 of_key ≡ same_words pair.0 key)
      pairs → first_place (map f pairs) of_key ≡ place_of pairs key
  unfolding place_of first_place
  place-first [] h = refl
  place-first (pair ∷ pairs) h = rw (h.0, place-first pairs h.1) refl

pub all_with : {A : Type 0} (P Q R : A → Type 0) → ((x : A) → P x → Q x → R x) → (xs : List A)
    → AllByRecursion P xs → AllByRecursion Q xs → AllByRecursion R xs
all_with P Q R f [] p q = tt
all_with P Q R f (x ∷ xs) p q = (f x p.0 q.0, all_with P Q R f xs p.1 q.1)
