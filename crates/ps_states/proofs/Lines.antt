-- Lines one behind another, of what stands in a list.
use Rattle.std.proofs.Common.{◌≡◌, ℕ, zero, suc, ◌+◌, ◌<◌, ◌≤◌, List, [], ◌∷◌, ◌++◌, Some, None, take, length, get_or, arith, refl, sym, ap, subst, ◌∙◌, append_assoc}
use Rattle.std.specs.Prelude.{slice_get, map}
use Rattle.std.specs.List.{flat_map, AllByRecursion}
use Rattle.std.proofs.lemmas.List.{append-nil, length-map}

-- what holds of all holds of each
pub all_at : {A : Type 0} (P : A → Type 0) (xs : List A) (i : ℕ) (x : A) → AllByRecursion P xs
    → Some x ≡ slice_get xs i → P x
all_at P [] i x all is = absurd (let e : ⊥ = cc in e)
all_at P (y ∷ ys) zero x all is = subst P (let e : y ≡ x = cc in e) all.0
all_at P (y ∷ ys) (suc i) x all is = all_at P ys i x all.1 is

more : {A : Type 0} (f : A → List ℕ) (xs : List A) (i : ℕ) (x : A) → Some x ≡ slice_get xs i
    → flat_map f (take (suc i) xs) ≡ flat_map f (take i xs) ++ f x
more f [] i x is = absurd (let e : ⊥ = cc in e)
more f (y ∷ ys) zero x is = let e : y ≡ x = cc in append-nil (f y) ∙ ap f e
more f (y ∷ ys) (suc i) x is =
    ap (λ rest. f y ++ rest) (more f ys i x is) ∙ sym (append_assoc (f y) (flat_map f (take i ys)) (f x))

-- a line more
pub one_more : {A : Type 0} (f : A → List ℕ) (xs : List A) (i : ℕ) (x : A) (old before new : List ℕ)
    → Some x ≡ slice_get xs i → before ≡ old ++ flat_map f (take i xs) → new ≡ before ++ f x
    → new ≡ old ++ flat_map f (take (i + 1) xs)
one_more f xs i x old before new is so line =
    let next : suc i ≡ i + 1 = omega arith in
    line ∙ ap (λ text. text ++ f x) so ∙ append_assoc old (flat_map f (take i xs)) (f x)
    ∙ ap (λ text. old ++ text) (sym (more f xs i x is))
    ∙ ap (λ n. old ++ flat_map f (take n xs)) next

pub all_taken : {A : Type 0} (xs : List A) (i : ℕ) → length xs ≤ i → take i xs ≡ xs
all_taken [] zero short = refl
all_taken [] (suc i) short = refl
all_taken (x ∷ xs) zero short = absurd (omega (arith, short))
all_taken (x ∷ xs) (suc i) short = ap (λ rest. x ∷ rest) (all_taken xs i (omega (arith, short)))

gone : {A : Type 0} (xs : List A) (i : ℕ) → None ≡ slice_get xs i → take i xs ≡ xs
gone [] zero none = refl
gone [] (suc i) none = refl
gone (x ∷ xs) zero none = absurd (let e : ⊥ = cc in e)
gone (x ∷ xs) (suc i) none = ap (λ rest. x ∷ rest) (gone xs i none)

-- behind the last, all were told
pub all_told : {A B : Type 0} (f : B → List ℕ) (meaning : A → B) (xs : List A) (i : ℕ) (old new : List ℕ)
    → length xs ≤ i → new ≡ old ++ flat_map f (take i (map meaning xs))
    → new ≡ old ++ flat_map f (map meaning xs)
all_told f meaning xs i old new short so =
    let same : length (map meaning xs) ≡ length xs = simp length-map in
    so ∙ ap (λ told. old ++ flat_map f told) (all_taken (map meaning xs) i (omega (arith, short, same)))

-- where something is left there is something
pub not_gone : {A : Type 0} (xs : List A) (i : ℕ) → i < length xs → None ≡ slice_get xs i → ⊥
not_gone [] i left none = omega (arith, left)
not_gone (x ∷ xs) zero left none = cc
not_gone (x ∷ xs) (suc i) left none = not_gone xs i (omega (arith, left)) none

pub all_gone : {A : Type 0} (f : A → List ℕ) (xs : List A) (i : ℕ) (old new : List ℕ)
    → None ≡ slice_get xs i → new ≡ old ++ flat_map f (take i xs) → new ≡ old ++ flat_map f xs
all_gone f xs i old new none so = so ∙ ap (λ told. old ++ flat_map f told) (gone xs i none)

-- what a list of values has where a list of words has one
pub mapped : {A B : Type 0} (f : A → B) (xs : List A) (i : ℕ) (x : A) → Some x ≡ slice_get xs i
    → Some (f x) ≡ slice_get (map f xs) i
mapped f [] i x is = absurd (let e : ⊥ = cc in e)
mapped f (y ∷ ys) zero x is = let e : y ≡ x = cc in ap (λ z. Some (f z)) (sym e)
mapped f (y ∷ ys) (suc i) x is = mapped f ys i x is

pub none_mapped : {A B : Type 0} (f : A → B) (xs : List A) (i : ℕ) → None ≡ slice_get xs i
    → None ≡ slice_get (map f xs) i
none_mapped f [] zero none = refl
none_mapped f [] (suc i) none = refl
none_mapped f (y ∷ ys) zero none = absurd (let e : ⊥ = cc in e)
none_mapped f (y ∷ ys) (suc i) none = none_mapped f ys i none

-- an element at an index within a list
pub got : {A : Type 0} (xs : List A) (i : ℕ) (d : A) → i < length xs
    → Some (get_or xs i d) ≡ slice_get xs i
got [] i d within = absurd (omega (arith, within))
got (x ∷ xs) zero d within = refl
got (x ∷ xs) (suc i) d within = got xs i d (omega (arith, within))
