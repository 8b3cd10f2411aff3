-- The places of an index: each position stands behind such as came before it, from the start of its
-- hash number on, going round.
use Rattle.std.proofs.Common.{◌≡◌, ℕ, zero, suc, ◌+◌, ◌%◌, ◌<◌, ◌≤◌, ◌⊎◌, true, false, List, [], ◌∷◌, ◌++◌, length, map, take, drop, replicate, Option, Some, None, refl, sym, ap, ◌∙◌, arith, subst, inl, inr, length-append}
use Rattle.std.specs.Prelude.{slice_get}
use Rattle.std.specs.List.{AllByRecursion}
use Rattle.std.proofs.lemmas.List.{length-take-le, take-append-drop, append_assoc}
use Rattle.ps_mem.specs.Index.{has_free, filled, placed, placed_all, index_of}
use Rattle.ps_mem.proofs.Lists.{all_append, all_take, all_drop}
use Rattle.ps_dict.specs.Probes.{turned}

pub turned-length : {A : Type 0} (n : ℕ) (xs : List A) → length (turned n xs) ≡ length xs
unfolding turned
turned-length n xs =
    let a = length-append (drop n xs) (take n xs) in
    let b = length-append (take n xs) (drop n xs) in
    let c : length (take n xs ++ drop n xs) ≡ length xs = ap length (take-append-drop n xs) in
    omega (arith, a, b, c)

-- how many are free
abbrev pub free : List (Option ℕ) → ℕ
free [] = 0
free (None ∷ places) = suc (free places)
free (Some position ∷ places) = free places

abbrev pub IsBelow : ℕ → Option ℕ → Type 0
IsBelow n None = Unit {0}
IsBelow n (Some position) = position < n

abbrev pub AreBelow : ℕ → List (Option ℕ) → Type 0
AreBelow n places = AllByRecursion (IsBelow n) places

-- ---- filling

free-append : (xs ys : List (Option ℕ)) → free (xs ++ ys) ≡ free xs + free ys
free-append [] ys = omega arith
free-append (None ∷ xs) ys = let e = free-append xs ys in omega (arith, e)
free-append (Some q ∷ xs) ys = free-append xs ys

pub free_or : (xs : List (Option ℕ)) → ((has_free xs ≡ true) × (0 < free xs))
    ⊎ ((has_free xs ≡ false) × (free xs ≡ 0))
free_or [] = inr (refl, refl)
free_or (None ∷ xs) = inl (refl, omega arith)
free_or (Some q ∷ xs) = free_or xs

length-filled : (p : ℕ) (xs : List (Option ℕ)) → length (filled p xs) ≡ length xs
length-filled p [] = refl
length-filled p (None ∷ xs) = refl
length-filled p (Some q ∷ xs) = ap suc (length-filled p xs)

free-filled : (p : ℕ) (xs : List (Option ℕ)) → has_free xs ≡ true
    → suc (free (filled p xs)) ≡ free xs
free-filled p [] h = cc
free-filled p (None ∷ xs) h = refl
free-filled p (Some q ∷ xs) h = free-filled p xs h

filled-front : (p : ℕ) (xs ys : List (Option ℕ)) → has_free xs ≡ true
    → filled p (xs ++ ys) ≡ filled p xs ++ ys
filled-front p [] ys h = cc
filled-front p (None ∷ xs) ys h = refl
filled-front p (Some q ∷ xs) ys h = ap (λ zs. Some q ∷ zs) (filled-front p xs ys h)

filled-behind : (p : ℕ) (xs ys : List (Option ℕ)) → has_free xs ≡ false → filled p (xs ++ ys) ≡ xs
    ++ filled p ys
filled-behind p [] ys h = refl
filled-behind p (None ∷ xs) ys h = cc
filled-behind p (Some q ∷ xs) ys h = ap (λ zs. Some q ∷ zs) (filled-behind p xs ys h)

later : (p : ℕ) (xs : List (Option ℕ)) → AreBelow p xs → AreBelow (suc p) xs
later p [] h = tt
later p (None ∷ xs) h = (tt, later p xs h.1)
later p (Some q ∷ xs) h = (let e = h.0 in omega (arith, e), later p xs h.1)

below-filled : (p : ℕ) (xs : List (Option ℕ)) → AreBelow p xs → AreBelow (suc p) (filled p xs)
below-filled p [] h = tt
below-filled p (None ∷ xs) h = (omega arith, later p xs h.1)
below-filled p (Some q ∷ xs) h = (let e = h.0 in omega (arith, e), below-filled p xs h.1)

-- ---- what filling leaves

-- what stood stands, and what was free may be taken
abbrev pub IsFuller : List (Option ℕ) → List (Option ℕ) → Type 0
IsFuller [] [] = Unit {0}
IsFuller [] (y ∷ ys) = ⊥
IsFuller (x ∷ xs) [] = ⊥
IsFuller (None ∷ xs) (y ∷ ys) = IsFuller xs ys
IsFuller (Some q ∷ xs) (y ∷ ys) = (y ≡ Some q) × IsFuller xs ys

fuller-same : (xs : List (Option ℕ)) → IsFuller xs xs
fuller-same [] = tt
fuller-same (None ∷ xs) = fuller-same xs
fuller-same (Some q ∷ xs) = (refl, fuller-same xs)

fuller-filled : (p : ℕ) (xs : List (Option ℕ)) → IsFuller xs (filled p xs)
fuller-filled p [] = tt
fuller-filled p (None ∷ xs) = fuller-same xs
fuller-filled p (Some q ∷ xs) = (refl, fuller-filled p xs)

fuller-append : (xs ys us vs : List (Option ℕ)) → IsFuller xs ys → IsFuller us vs
    → IsFuller (xs ++ us) (ys ++ vs)
fuller-append [] [] us vs f g = g
fuller-append [] (y ∷ ys) us vs f g = absurd f
fuller-append (x ∷ xs) [] us vs f g = absurd f
fuller-append (None ∷ xs) (y ∷ ys) us vs f g = fuller-append xs ys us vs f g
fuller-append (Some q ∷ xs) (y ∷ ys) us vs f g = (f.0, fuller-append xs ys us vs f.1 g)

fuller-take : (n : ℕ) (xs ys : List (Option ℕ)) → IsFuller xs ys → IsFuller (take n xs) (take n ys)
fuller-take zero xs ys f = tt
fuller-take (suc n) [] [] f = tt
fuller-take (suc n) [] (y ∷ ys) f = absurd f
fuller-take (suc n) (x ∷ xs) [] f = absurd f
fuller-take (suc n) (None ∷ xs) (y ∷ ys) f = fuller-take n xs ys f
fuller-take (suc n) (Some q ∷ xs) (y ∷ ys) f = (f.0, fuller-take n xs ys f.1)

fuller-drop : (n : ℕ) (xs ys : List (Option ℕ)) → IsFuller xs ys → IsFuller (drop n xs) (drop n ys)
fuller-drop zero xs ys f = f
fuller-drop (suc n) [] [] f = tt
fuller-drop (suc n) [] (y ∷ ys) f = absurd f
fuller-drop (suc n) (x ∷ xs) [] f = absurd f
fuller-drop (suc n) (None ∷ xs) (y ∷ ys) f = fuller-drop n xs ys f
fuller-drop (suc n) (Some q ∷ xs) (y ∷ ys) f = fuller-drop n xs ys f.1

fuller-turned : (n : ℕ) (xs ys : List (Option ℕ)) → IsFuller xs ys
    → IsFuller (turned n xs) (turned n ys)
unfolding turned
fuller-turned n xs ys f =
    fuller-append (drop n xs) (drop n ys) (take n xs) (take n ys) (fuller-drop n xs ys f)
    (fuller-take n xs ys f)

-- ---- found behind such as came before

-- looked through in this order, a position comes behind others that came before it, and no free
-- place stands in between
pub record IsFound (places : List (Option ℕ)) (position : ℕ) : Type 0 where
  pub front : List ℕ
  pub rest : List (Option ℕ)
  pub is : places ≡ map Some front ++ Some position ∷ rest
  pub before : AllByRecursion (λ q. q < position) front

found-fuller : (front : List ℕ) (p : ℕ) (rest ys : List (Option ℕ))
    → IsFuller (map Some front ++ Some p ∷ rest) ys → (more : List (Option ℕ))
    × (ys ≡ map Some front ++ Some p ∷ more)
found-fuller [] p rest [] f = absurd f
found-fuller [] p rest (y ∷ ys) f = (ys, ap (λ z. z ∷ ys) f.0)
found-fuller (q ∷ front) p rest [] f = absurd f
found-fuller (q ∷ front) p rest (y ∷ ys) f =
    let (more, is) = found-fuller front p rest ys f.1 in
    (more, (λ i. f.0 i ∷ is i))

pub found-still : (xs ys : List (Option ℕ)) (p : ℕ) → IsFuller xs ys → IsFound xs p → IsFound ys p
found-still xs ys p f found =
    let (more, is) = found-fuller found.front p found.rest ys
    (subst (λ zs. IsFuller zs ys) found.is f) in
    record { front = found.front; rest = more; is = is; before = found.before }

pub found-filled : (p : ℕ) (xs : List (Option ℕ)) → has_free xs ≡ true → AreBelow p xs
    → IsFound (filled p xs) p
found-filled p [] h below = cc
found-filled p (None ∷ xs) h below = record { front = []; rest = xs; is = refl; before = tt }
found-filled p (Some q ∷ xs) h below =
    let found = found-filled p xs h below.1 in
    record {
      front = q ∷ found.front;
      rest = found.rest;
      is =
          ap (λ zs. Some q ∷ zs) found.is;
      before = (below.0, found.before);
    }

-- ---- placing

take-length : {A : Type 0} (xs ys : List A) → take (length xs) (xs ++ ys) ≡ xs
take-length [] ys = refl
take-length (x ∷ xs) ys = ap (λ zs. x ∷ zs) (take-length xs ys)

drop-length : {A : Type 0} (xs ys : List A) → drop (length xs) (xs ++ ys) ≡ ys
drop-length [] ys = refl
drop-length (x ∷ xs) ys = drop-length xs ys

turned-append : {A : Type 0} (n : ℕ) (xs ys : List A) → length xs ≡ n → turned n (xs ++ ys) ≡ ys
    ++ xs
unfolding turned
turned-append n xs ys is =
    subst (λ k. drop k (xs ++ ys) ++ take k (xs ++ ys) ≡ ys ++ xs) is
    (λ i. drop-length xs ys i ++ take-length xs ys i)

pub record IsPlaced (p start : ℕ) (xs ys : List (Option ℕ)) : Type 0 where
  pub fuller : IsFuller xs ys
  pub around : turned start ys ≡ filled p (turned start xs)
  pub count : length ys ≡ length xs
  pub left : 0 < free xs → suc (free ys) ≡ free xs
  pub below : AreBelow p xs → AreBelow (suc p) ys

module _ (p start : ℕ) (xs : List (Option ℕ)) (within : start ≤ length xs) where
  whole : take start xs ++ drop start xs ≡ xs
  whole = take-append-drop start xs

  length-front : length (take start xs) ≡ start
  length-front = length-take-le start xs within

  free-whole : free xs ≡ free (take start xs) + free (drop start xs)
  free-whole = sym (ap free whole) ∙ free-append (take start xs) (drop start xs)

  count-whole : length (take start xs) + length (drop start xs) ≡ length xs
  count-whole = sym (length-append (take start xs) (drop start xs)) ∙ ap length whole

  placed-behind : has_free (drop start xs) ≡ true
      → IsPlaced p start xs (take start xs ++ filled p (drop start xs))
  unfolding turned
  placed-behind h = record {
    fuller = subst (λ zs. IsFuller zs (take start xs ++ filled p (drop start xs))) whole
        (fuller-append (take start xs) (take start xs) (drop start xs) (filled p (drop start xs))
        (fuller-same (take start xs)) (fuller-filled p (drop start xs)));
    around = turned-append start (take start xs) (filled p (drop start xs)) length-front
        ∙ sym (filled-front p (drop start xs) (take start xs) h);
    count = length-append (take start xs) (filled p (drop start xs))
        ∙ (ap (λ n. length (take start xs) + n) (length-filled p (drop start xs)) ∙ count-whole);
    left = λ _. (let e = free-append (take start xs) (filled p (drop start xs)) in let f =
        free-filled p (drop start xs) h in let g = free-whole in omega (arith, e, f, g));
    below = λ b. all_append (IsBelow (suc p)) (take start xs) (filled p (drop start xs))
        (later p (take start xs) (all_take (IsBelow p) start xs b))
        (below-filled p (drop start xs) (all_drop (IsBelow p) start xs b));
  }

  placed-front : has_free (drop start xs) ≡ false → free (drop start xs) ≡ 0
      → IsPlaced p start xs (filled p (take start xs) ++ drop start xs)
  unfolding turned
  placed-front h none = record {
    fuller = subst (λ zs. IsFuller zs (filled p (take start xs) ++ drop start xs)) whole
        (fuller-append (take start xs) (filled p (take start xs)) (drop start xs) (drop start xs)
        (fuller-filled p (take start xs)) (fuller-same (drop start xs)));
    around = turned-append start (filled p (take start xs)) (drop start xs)
        (length-filled p (take start xs) ∙ length-front)
        ∙ sym (filled-behind p (drop start xs) (take start xs) h);
    count = length-append (filled p (take start xs)) (drop start xs)
        ∙ (ap (λ n. n + length (drop start xs)) (length-filled p (take start xs)) ∙ count-whole);
    left = λ some. (elim (free_or (take start xs)) [
      | inl (has, _) ↦ let e = free-append (filled p (take start xs)) (drop start xs) in let f =
          free-filled p (take start xs) has in let g = free-whole in omega (arith, e, f, g)
      | inr (_, zero_free) ↦ let g = free-whole in absurd (omega (arith, some, g, none, zero_free))
    ]);
    below = λ b. all_append (IsBelow (suc p)) (filled p (take start xs)) (drop start xs)
        (below-filled p (take start xs) (all_take (IsBelow p) start xs b))
        (later p (drop start xs) (all_drop (IsBelow p) start xs b));
  }

  pub is-placed : IsPlaced p start xs (placed p start xs)
  unfolding placed
  is-placed = elim (free_or (drop start xs)) [
    | inl (has, _) ↦ rw has (placed-behind has)
    | inr (hasn't, none) ↦ rw hasn't (placed-front hasn't none)
  ]

free-turned : (n : ℕ) (xs : List (Option ℕ)) → free (turned n xs) ≡ free xs
unfolding turned
free-turned n xs = let e = free-append (drop n xs) (take n xs) in let f =
    free-append (take n xs) (drop n xs) in let g : free (take n xs ++ drop n xs) ≡ free xs =
    ap free (take-append-drop n xs) in omega (arith, e, f, g)

pub below-turned : (p n : ℕ) (xs : List (Option ℕ)) → AreBelow p xs → AreBelow p (turned n xs)
unfolding turned
below-turned p n xs b = all_append (IsBelow p) (drop n xs) (take n xs) (all_drop (IsBelow p) n xs b)
    (all_take (IsBelow p) n xs b)

-- ---- the whole index

-- so many positions are placed by these hash numbers
pub record IsIndex (capacity : ℕ) (hashes : List ℕ) (places : List (Option ℕ)) : Type 0 where
  pub count : length places ≡ capacity
  pub left : free places + length hashes ≡ capacity
  pub below : AreBelow (length hashes) places
  pub found : (q hash : ℕ) → slice_get hashes q ≡ Some hash
      → IsFound (turned (hash % capacity) places) q

get-append : (xs : List ℕ) (y : ℕ) (i x : ℕ) → slice_get (xs ++ y ∷ []) i ≡ Some x
    → ((i ≡ length xs) × (x ≡ y)) ⊎ (slice_get xs i ≡ Some x)
get-append [] y zero x e = inl (refl, cc)
get-append [] y (suc i) x e = cc
get-append (z ∷ xs) y zero x e = inr e
get-append (z ∷ xs) y (suc i) x e = elim (get-append xs y i x e) [
  | inl (place, is) ↦ inl (ap suc place, is)
  | inr there ↦ inr there
]

pub index-more : (capacity : ℕ) (hashes : List ℕ) (places : List (Option ℕ)) (hash : ℕ)
    → hash % capacity < capacity → length hashes < capacity → IsIndex capacity hashes places
    → IsIndex capacity (hashes ++ hash ∷ []) (placed (length hashes) (hash % capacity) places)
index-more capacity hashes places hash start room index =
    let count = index.count in
    let left = index.left in
    let one = is-placed (length hashes) (hash % capacity) places (omega (arith, count, start)) in
    let longer : length (hashes ++ hash ∷ []) ≡ suc (length hashes) =
    length-append hashes (hash ∷ []) ∙ (omega arith) in
    record {
      count = one.count ∙ count;
      left = (let e = one.left (omega (arith, left, room)) in omega (arith, e, left, longer));
      below = subst (λ n. AreBelow n (placed (length hashes) (hash % capacity) places)) (sym longer)
          (one.below index.below);
      found = λ q number at. elim (get-append hashes hash q number at) [
        | inr there ↦ found-still (turned (number % capacity) places)
            (turned (number % capacity) (placed (length hashes) (hash % capacity) places)) q
            (fuller-turned (number % capacity) places
            (placed (length hashes) (hash % capacity) places) one.fuller)
            (index.found q number there)
        | inl (place, is) ↦
            let some : 0 < free (turned (hash % capacity) places) =
            (let e = free-turned (hash % capacity) places in omega (arith, e, left, room)) in
            let here : IsFound (turned (hash % capacity)
            (placed (length hashes) (hash % capacity) places)) (length hashes) =
            (elim (free_or (turned (hash % capacity) places)) [
              | inl (has, _) ↦ subst (λ zs. IsFound zs (length hashes)) (sym one.around)
                  (found-filled (length hashes) (turned (hash % capacity) places) has
                  (below-turned (length hashes) (hash % capacity) places index.below))
              | inr (_, none) ↦ absurd (omega (arith, some, none))
            ]) in
            subst (λ n. IsFound (turned (n % capacity)
            (placed (length hashes) (hash % capacity) places)) q) (sym is)
            (subst (λ n. IsFound (turned (hash % capacity)
            (placed (length hashes) (hash % capacity) places)) n) (sym place) here)
      ];
    }

append-none : {A : Type 0} (xs : List A) → xs ++ [] ≡ xs
append-none [] = refl
append-none (x ∷ xs) = ap (λ zs. x ∷ zs) (append-none xs)

mod-below : (n m : ℕ) → 0 < m → n % m < m
mod-below n m h = omega (arith, h)

placed-more : (capacity : ℕ) (hashes : List ℕ) (done : List ℕ) (places : List (Option ℕ))
    → length done + length hashes ≤ capacity → IsIndex capacity done places
    → IsIndex capacity (done ++ hashes) (placed_all (length done) hashes places)
placed-more capacity [] done places room index =
    subst (λ hs. IsIndex capacity hs places) (sym (append-none done)) index
placed-more capacity (hash ∷ hashes) done places room index =
    let some : 0 < capacity = omega (arith, room) in
    let start : hash % capacity < capacity = mod-below hash capacity some in
    let next = index-more capacity done places hash start (omega (arith, room)) index in
    let count : length (done ++ hash ∷ []) ≡ suc (length done) = length-append done (hash ∷ [])
    ∙ (omega arith) in
    let all = placed-more capacity hashes (done ++ hash ∷ [])
    (placed (length done) (hash % capacity) places) (omega (arith, room, count)) next in
    subst (λ hs. IsIndex capacity hs (placed_all (length done) (hash ∷ hashes) places))
    (append_assoc done (hash ∷ []) hashes)
    (subst (λ k. IsIndex capacity ((done ++ hash ∷ []) ++ hashes)
    (placed_all (suc (length done)) hashes (placed (length done) (hash % k) places)))
    (sym index.count)
    (subst (λ k. IsIndex capacity ((done ++ hash ∷ []) ++ hashes)
    (placed_all k hashes (placed (length done) (hash % capacity) places))) count all))

free-none : (n : ℕ) → free (replicate n None) ≡ n
free-none zero = refl
free-none (suc n) = ap suc (free-none n)

length-none : (n : ℕ) → length {A = Option ℕ} (replicate n None) ≡ n
length-none zero = refl
length-none (suc n) = ap suc (length-none n)

below-none : (n : ℕ) → AreBelow 0 (replicate n None)
below-none zero = tt
below-none (suc n) = (tt, below-none n)

pub is-index : (capacity : ℕ) (hashes : List ℕ) → length hashes ≤ capacity
    → IsIndex capacity hashes (index_of capacity hashes)
unfolding index_of
is-index capacity hashes room =
    placed-more capacity hashes [] (replicate capacity None) (omega (arith, room)) (record {
      count = length-none capacity;
      left = (let e = free-none capacity in omega (arith, e));
      below = below-none capacity;
      found = λ q hash at. cc;
    })
