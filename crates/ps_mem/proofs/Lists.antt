-- Lists: splices, and elements after a write.
use Rattle.std.proofs.Common.{◌≡◌, ◌≢◌, ℕ, zero, suc, ◌+◌, ◌<◌, ◌≤◌, List, [], ◌∷◌, ◌++◌, length, take, drop, map, Some, refl, sym, ap, arith, ◌∙◌, length-take, length-append, length-drop}
use Rattle.std.specs.Prelude.{slice_get, slice_set}
use Rattle.std.specs.List.{AllByRecursion}
use Rattle.std.proofs.lemmas.List.{map-append, take-map, length-map, take-append-drop}
use Rattle.ps_language.specs.Access.{splice}

pub drop-map : {A B : Type 0} (f : A → B) (n : ℕ) (xs : List A) → drop n (map f xs) ≡ map f (drop n xs)
drop-map f zero xs = refl
drop-map f (suc n) [] = refl
drop-map f (suc n) (x ∷ xs) = drop-map f n xs

pub splice-suc : {A : Type 0} (y : A) (old : List A) (k : ℕ) (items : List A)
    → splice (y ∷ old) (suc k) items ≡ y ∷ splice old k items
unfolding splice
splice-suc y old k items = let e : suc k + length items ≡ suc (k + length items) = omega arith in rw e

pub splice-zero : {A : Type 0} (old items : List A) → splice old 0 items ≡ items ++ drop (length items) old
unfolding splice
splice-zero old items = let e : 0 + length items ≡ length items = omega arith in rw e

pub splice-nil : {A : Type 0} (old : List A) (place : ℕ) → splice old place [] ≡ old
unfolding splice
splice-nil old place = let e : place + 0 ≡ place = omega arith in rw e (take-append-drop place old)

pub splice-one : {A : Type 0} (xs : List A) (i : ℕ) (x : A) → i < length xs → splice xs i (x ∷ []) ≡ slice_set xs i x
unfolding splice
splice-one [] i x h = absurd (omega arith)
splice-one (y ∷ xs) zero x h = refl
splice-one (y ∷ xs) (suc i) x h = let below : i < length xs = omega arith in
    let next : suc i + 1 ≡ suc (i + 1) = omega arith in rw next (ap (λ zs. y ∷ zs) (splice-one xs i x below))

pub map-splice : {A B : Type 0} (f : A → B) (old : List A) (place : ℕ) (items : List A)
    → map f (splice old place items) ≡ splice (map f old) place (map f items)
unfolding splice
map-splice f old place items = simp (map-append, take-map, drop-map, length-map)

pub length-splice : {A : Type 0} (old : List A) (place : ℕ) (items : List A) → place + length items ≤ length old
    → length (splice old place items) ≡ length old
unfolding splice
length-splice old place items fits = simp (length-append, length-take, length-drop) (omega arith)

-- items written behind those just written are written with them
pub splice_more : {A : Type 0} (old : List A) (place : ℕ) (items more : List A)
    → place + (length items + length more) ≤ length old →
    splice (splice old place items) (place + length items) more ≡ splice old place (items ++ more)
splice_more old zero [] more h = ap (λ xs. splice xs 0 more) (splice-nil old 0)
splice_more [] zero (x ∷ items) more h = absurd (omega arith)
splice_more (y ∷ old) zero (x ∷ items) more h =
    let front : splice (y ∷ old) 0 (x ∷ items) ≡ x ∷ splice old 0 items = splice-zero (y ∷ old) (x ∷ items)
    ∙ ap (λ xs. x ∷ xs) (sym (splice-zero old items)) in
    let front' : splice (y ∷ old) 0 (x ∷ (items ++ more)) ≡ x ∷ splice old 0 (items ++ more) =
    splice-zero (y ∷ old) (x ∷ (items ++ more)) ∙ ap (λ xs. x ∷ xs) (sym (splice-zero old (items ++ more))) in
    let at : 0 + length (x ∷ items) ≡ suc (0 + length items) = omega arith in
    ap (λ k. splice (splice (y ∷ old) 0 (x ∷ items)) k more) at
    ∙ (ap (λ xs. splice xs (suc (0 + length items)) more) front
    ∙ (splice-suc x (splice old 0 items) (0 + length items) more
    ∙ (ap (λ xs. x ∷ xs) (splice_more old 0 items more (omega arith)) ∙ sym front')))
splice_more [] (suc place) items more h = absurd (omega arith)
splice_more (y ∷ old) (suc place) items more h =
    let at : suc place + length items ≡ suc (place + length items) = omega arith in
    ap (λ k. splice (splice (y ∷ old) (suc place) items) k more) at
    ∙ (ap (λ xs. splice xs (suc (place + length items)) more) (splice-suc y old place items)
    ∙ (splice-suc y (splice old place items) (place + length items) more
    ∙ (ap (λ xs. y ∷ xs) (splice_more old place items more (omega arith))
    ∙ sym (splice-suc y old place (items ++ more)))))

take-front : {A : Type 0} (n : ℕ) (old items : List A) → length items ≤ n → length items ≤ length old
    → take n (items ++ drop (length items) old) ≡ items ++ drop (length items) (take n old)
take-front n old [] h fits = refl
take-front zero old (x ∷ items) h fits = absurd (omega arith)
take-front (suc n) [] (x ∷ items) h fits = absurd (omega arith)
take-front (suc n) (y ∷ old) (x ∷ items) h fits = ap (λ xs. x ∷ xs) (take-front n old items (omega arith) (omega arith))

-- a splice of a front
pub take-splice : {A : Type 0} (n : ℕ) (old : List A) (place : ℕ) (items : List A) → place + length items ≤ n
    → place + length items ≤ length old → take n (splice old place items) ≡ splice (take n old) place items
take-splice n old zero items h fits =
    ap (take n) (splice-zero old items) ∙ (take-front n old items (omega arith) (omega arith)
    ∙ sym (splice-zero (take n old) items))
take-splice zero old (suc place) items h fits = absurd (omega arith)
take-splice (suc n) [] (suc place) items h fits = absurd (omega arith)
take-splice (suc n) (y ∷ old) (suc place) items h fits =
    ap (take (suc n)) (splice-suc y old place items)
    ∙ (ap (λ xs. y ∷ xs) (take-splice n old place items (omega arith) (omega arith))
    ∙ sym (splice-suc y (take n old) place items))

-- a splice behind a front leaves it
pub take-splice_behind : {A : Type 0} (n : ℕ) (old : List A) (place : ℕ) (items : List A) → n ≤ place
    → place ≤ length old → take n (splice old place items) ≡ take n old
take-splice_behind zero old place items h fits = refl
take-splice_behind (suc n) old zero items h fits = absurd (omega arith)
take-splice_behind (suc n) [] (suc place) items h fits = absurd (omega arith)
take-splice_behind (suc n) (y ∷ old) (suc place) items h fits =
    ap (take (suc n)) (splice-suc y old place items)
    ∙ ap (λ xs. y ∷ xs) (take-splice_behind n old place items (omega arith) (omega arith))

drop-front : {A : Type 0} (n : ℕ) (old items : List A) → length items ≤ n → length items ≤ length old
    → drop n (items ++ drop (length items) old) ≡ drop n old
drop-front n old [] h fits = refl
drop-front zero old (x ∷ items) h fits = absurd (omega arith)
drop-front (suc n) [] (x ∷ items) h fits = absurd (omega arith)
drop-front (suc n) (y ∷ old) (x ∷ items) h fits = drop-front n old items (omega arith) (omega arith)

-- what lies behind a splice stays
pub drop-splice : {A : Type 0} (n : ℕ) (old : List A) (place : ℕ) (items : List A) → place + length items ≤ n
    → place + length items ≤ length old → drop n (splice old place items) ≡ drop n old
drop-splice n old zero items h fits = ap (drop n) (splice-zero old items)
    ∙ drop-front n old items (omega arith) (omega arith)
drop-splice zero old (suc place) items h fits = absurd (omega arith)
drop-splice (suc n) [] (suc place) items h fits = absurd (omega arith)
drop-splice (suc n) (y ∷ old) (suc place) items h fits = ap (drop (suc n)) (splice-suc y old place items)
    ∙ drop-splice n old place items (omega arith) (omega arith)

-- ---- elements

pub slice_get-set_same : {A : Type 0} (xs : List A) (i : ℕ) (a b : A) → slice_get xs i ≡ Some b
    → slice_get (slice_set xs i a) i ≡ Some a
slice_get-set_same [] i a b e = cc
slice_get-set_same (x ∷ xs) zero a b e = refl
slice_get-set_same (x ∷ xs) (suc i) a b e = slice_get-set_same xs i a b e

pub slice_get-set_other : {A : Type 0} (xs : List A) (i j : ℕ) (a : A) → i ≢ j
    → slice_get (slice_set xs i a) j ≡ slice_get xs j
slice_get-set_other [] i j a ne = refl
slice_get-set_other (x ∷ xs) zero zero a ne = absurd (ne refl)
slice_get-set_other (x ∷ xs) zero (suc j) a ne = refl
slice_get-set_other (x ∷ xs) (suc i) zero a ne = refl
slice_get-set_other (x ∷ xs) (suc i) (suc j) a ne = slice_get-set_other xs i j a (λ e. ne (ap suc e))

pub slice_get-map : {A B : Type 0} (f : A → B) (xs : List A) (i : ℕ) (x : A) → slice_get xs i ≡ Some x
    → slice_get (map f xs) i ≡ Some (f x)
slice_get-map f [] i x e = cc
slice_get-map f (y ∷ xs) zero x e = let same : y ≡ x = cc in ap (λ z. Some (f z)) same
slice_get-map f (y ∷ xs) (suc i) x e = slice_get-map f xs i x e

pub slice_get-append_within : {A : Type 0} (xs ys : List A) (i : ℕ) (x : A) → slice_get xs i ≡ Some x
    → slice_get (xs ++ ys) i ≡ Some x
slice_get-append_within [] ys i x e = cc
slice_get-append_within (y ∷ xs) ys zero x e = e
slice_get-append_within (y ∷ xs) ys (suc i) x e = slice_get-append_within xs ys i x e

pub slice_get-append_end : {A : Type 0} (xs ys : List A) (x : A) → slice_get (xs ++ x ∷ ys) (length xs) ≡ Some x
slice_get-append_end [] ys x = refl
slice_get-append_end (y ∷ xs) ys x = slice_get-append_end xs ys x

pub slice_get_below : {A : Type 0} (xs : List A) (i : ℕ) (x : A) → slice_get xs i ≡ Some x → i < length xs
slice_get_below [] i x e = cc
slice_get_below (y ∷ xs) zero x e = omega arith
slice_get_below (y ∷ xs) (suc i) x e = let below = slice_get_below xs i x e in omega (arith, below)

module _ {A : Type 0} (P : A → Type 0) where
  pub all_append : (xs ys : List A) → AllByRecursion P xs → AllByRecursion P ys → AllByRecursion P (xs ++ ys)
  all_append [] ys p q = q
  all_append (x ∷ xs) ys p q = (p.0, all_append xs ys p.1 q)

  pub all_take : (n : ℕ) (xs : List A) → AllByRecursion P xs → AllByRecursion P (take n xs)
  all_take zero xs p = tt
  all_take (suc n) [] p = tt
  all_take (suc n) (x ∷ xs) p = (p.0, all_take n xs p.1)

  pub all_drop : (n : ℕ) (xs : List A) → AllByRecursion P xs → AllByRecursion P (drop n xs)
  all_drop zero xs p = p
  all_drop (suc n) [] p = tt
  all_drop (suc n) (x ∷ xs) p = all_drop n xs p.1

  pub all_splice : (old : List A) (place : ℕ) (items : List A) → AllByRecursion P old → AllByRecursion P items
      → AllByRecursion P (splice old place items)
  unfolding splice
  all_splice old place items p q =
      all_append (take place old) _ (all_take place old p)
      (all_append items _ q (all_drop (place + length items) old p))

  pub all_at : (xs : List A) (i : ℕ) (x : A) → AllByRecursion P xs → slice_get xs i ≡ Some x → P x
  all_at [] i x p e = cc
  all_at (y ∷ xs) zero x p e = let same : y ≡ x = cc in rw (sym same) p.0
  all_at (y ∷ xs) (suc i) x p e = all_at xs i x p.1 e

pub all_map : {A : Type 0} (P Q : A → Type 0) → ((x : A) → P x → Q x) → (xs : List A) → AllByRecursion P xs
    → AllByRecursion Q xs
all_map P Q f [] p = tt
all_map P Q f (x ∷ xs) p = (f x p.0, all_map P Q f xs p.1)
