-- Operands and what their words stand for.
use Rattle.std.proofs.Common.{◌≡◌, ℕ, zero, suc, ◌+◌, ◌-◌, ◌≤◌, List, [], ◌∷◌, ◌++◌, map, take, drop, length, Some, None, refl, sym, ap, arith, ◌∙◌}
use Rattle.std.specs.Prelude.{slice_get, slice_range, reverse}
use Rattle.std.proofs.lemmas.List.{reverse-append, length-reverse, length-append, length-take, map-append, take-map}
use Rattle.ps_stacks.specs.Tops.{first_of, first_two_of, first_three_of}

pub none_left : {A : Type 0} (xs : List A) → None ≡ first_of xs → xs ≡ []
none_left [] none = refl
none_left (x ∷ xs) none = cc

pub first_split : {A : Type 0} (xs : List A) (x : A) → Some x ≡ first_of xs → xs ≡ x ∷ drop 1 xs
first_split [] x e = cc
first_split (y ∷ rest) x e = let same : x ≡ y = cc in ap (λ z. z ∷ rest) (sym same)

pub first_two_split : {A : Type 0} (xs : List A) (x y : A) → Some (x, y) ≡ first_two_of xs → xs ≡ x ∷ y ∷ drop 2 xs
first_two_split [] x y e = cc
first_two_split (a ∷ []) x y e = cc
first_two_split {A} (a ∷ b ∷ rest) x y e =
    let pair : (x, y) ≡ (a, b) = cc in
    let one : x ≡ a = ap (λ (p : A × A). p.0) pair in
    let two : y ≡ b = ap (λ (p : A × A). p.1) pair in
    λ i. sym one i ∷ sym two i ∷ rest

pub first_three_split : {A : Type 0} (xs : List A) (x y z : A) → Some (x, y, z) ≡ first_three_of xs
    → xs ≡ x ∷ y ∷ z ∷ drop 3 xs
first_three_split [] x y z e = cc
first_three_split (a ∷ []) x y z e = cc
first_three_split (a ∷ b ∷ []) x y z e = cc
first_three_split {A} (a ∷ b ∷ c ∷ rest) x y z e =
    let triple : (x, y, z) ≡ (a, b, c) = cc in
    let one : x ≡ a = ap (λ (p : _ × _ × _). p.0) triple in
    let two : y ≡ b = ap (λ (p : _ × _ × _). p.1) triple in
    let three : z ≡ c = ap (λ (p : _ × _ × _). p.2) triple in
    λ i. sym one i ∷ sym two i ∷ sym three i ∷ rest

-- ---- runs of a list

pub slice_get-drop : {A : Type 0} (xs : List A) (n i : ℕ) → slice_get (drop n xs) i ≡ slice_get xs (n + i)
slice_get-drop xs zero i = let none : 0 + i ≡ i = omega arith in ap (slice_get xs) (sym none)
slice_get-drop [] (suc n) i = let more : suc n + i ≡ suc (n + i) = omega arith in ap (slice_get []) (sym more)
slice_get-drop (x ∷ xs) (suc n) i = let more : suc n + i ≡ suc (n + i) = omega arith in
    slice_get-drop xs n i ∙ ap (slice_get (x ∷ xs)) (sym more)

take_next : {A : Type 0} (xs : List A) (i : ℕ) (x : A) → slice_get xs i ≡ Some x → take (suc i) xs ≡ take i xs ++ x ∷ []
take_next [] i x e = cc
take_next (y ∷ xs) zero x e = let same : y ≡ x = cc in ap (λ z. z ∷ []) same
take_next (y ∷ xs) (suc i) x e = ap (λ zs. y ∷ zs) (take_next xs i x e)

-- a run with one item more
pub run_next : {A : Type 0} (xs : List A) (from i : ℕ) (x : A) → slice_get xs (from + i) ≡ Some x
    → slice_range xs from (from + (i + 1)) ≡ slice_range xs from (from + i) ++ x ∷ []
run_next xs from i x e =
    let more : (from + (i + 1)) - from ≡ suc i = omega arith in
    let same : (from + i) - from ≡ i = omega arith in
    ap (λ n. take n (drop from xs)) more
    ∙ (take_next (drop from xs) i x (slice_get-drop xs from i ∙ e)
    ∙ ap (λ n. take n (drop from xs) ++ x ∷ []) (sym same))

-- the same read from the end
pub reverse-run_next : {A : Type 0} (xs below : List A) (from i : ℕ) (x : A) → slice_get xs (from + i) ≡ Some x
    → x ∷ (reverse (slice_range xs from (from + i)) ++ below) ≡ reverse (slice_range xs from (from + (i + 1))) ++ below
reverse-run_next xs below from i x e =
    sym (ap (λ run. reverse run ++ below) (run_next xs from i x e)
    ∙ ap (λ run. run ++ below) (reverse-append (slice_range xs from (from + i)) (x ∷ [])))

pub run_none : {A : Type 0} (xs below : List A) (from : ℕ) → below ≡ reverse (slice_range xs from (from + 0)) ++ below
run_none xs below from = let none : (from + 0) - from ≡ 0 = omega arith in
    sym (ap (λ n. reverse (take n (drop from xs)) ++ below) none)

pub length-run : {A : Type 0} (xs below : List A) (from i : ℕ)
    → length (reverse (slice_range xs from (from + i)) ++ below) ≤ i + length below
length-run xs below from i =
    let size : (from + i) - from ≡ i = omega arith in
    omega (
      arith,
      length-append (reverse (slice_range xs from (from + i))) below,
      length-reverse (slice_range xs from (from + i)),
      length-take ((from + i) - from) (drop from xs),
      size,
    )

pub map-reverse : {A B : Type 0} (f : A → B) (xs : List A) → map f (reverse xs) ≡ reverse (map f xs)
map-reverse f [] = refl
map-reverse f (x ∷ xs) =
    ap (map f) (reverse-append (x ∷ []) xs)
    ∙ (map-append f (reverse xs) (x ∷ [])
    ∙ (ap (λ ys. ys ++ f x ∷ []) (map-reverse f xs)
    ∙ sym (reverse-append (f x ∷ []) (map f xs))))

pub map-take : {A B : Type 0} (f : A → B) (n : ℕ) (xs : List A) → map f (take n xs) ≡ take n (map f xs)
map-take f n xs = sym (take-map f n xs)
