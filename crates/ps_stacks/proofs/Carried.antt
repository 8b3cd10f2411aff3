-- A list whose items are moved by one place, one after another.
use Rattle.std.proofs.Common.{◌≡◌, ℕ, ◌+◌, ◌-◌, ◌<◌, ◌≤◌, List, [], ◌∷◌, ◌++◌, length, drop, take, sym, ap, refl, ◌∙◌}
use Rattle.std.proofs.Common.{arith, zero, suc, length-take, length-drop, length-append, append-nil}
use Rattle.std.specs.Prelude.{slice_set, slice_index_or}
use Rattle.std.proofs.lemmas.List.{drop_all, drop_more, take_all, get_or-take, get_or-drop, get_or_at}
use Rattle.std.proofs.lemmas.List.{get_or_append_left}

-- ---- of two lists of the same length, the first items of one and the others of the other

module _ {A : Type 0} where
  -- one more of the first list
  set_first : (zs xs : List A) (p : ℕ) (c : A) → p < length zs → length zs ≡ length xs
      → c ≡ slice_index_or zs p c
      → slice_set (take p zs ++ drop p xs) p c ≡ take (suc p) zs ++ drop (suc p) xs
  set_first [] xs p c below same is = absurd (omega (arith, below))
  set_first (z ∷ zs) [] p c below same is = absurd (omega (arith, same))
  set_first (z ∷ zs) (x ∷ xs) zero c below same is = ap (λ (y : A). y ∷ xs) is
  set_first (z ∷ zs) (x ∷ xs) (suc p) c below same is =
      ap (λ (r : List A). z ∷ r) (set_first zs xs p c (omega (arith, below)) (omega (arith, same)) is)

  -- one more of the second
  set_second : (xs zs : List A) (p : ℕ) (c : A) → p < length zs → length zs ≡ length xs
      → c ≡ slice_index_or zs p c
      → slice_set (take (suc p) xs ++ drop (suc p) zs) p c ≡ take p xs ++ drop p zs
  set_second xs [] p c below same is = absurd (omega (arith, below))
  set_second [] (z ∷ zs) p c below same is = absurd (omega (arith, same))
  set_second (x ∷ xs) (z ∷ zs) zero c below same is = ap (λ (y : A). y ∷ zs) is
  set_second (x ∷ xs) (z ∷ zs) (suc p) c below same is =
      ap (λ (r : List A). x ∷ r)
      (set_second xs zs p c (omega (arith, below)) (omega (arith, same)) is)

  read_second : (zs xs : List A) (p : ℕ) (d : A) → p < length xs → length zs ≡ length xs
      → slice_index_or (take p zs ++ drop p xs) p d ≡ slice_index_or xs p d
  read_second zs [] p d below same = absurd (omega (arith, below))
  read_second [] (x ∷ xs) p d below same = absurd (omega (arith, same))
  read_second (z ∷ zs) (x ∷ xs) zero d below same = refl
  read_second (z ∷ zs) (x ∷ xs) (suc p) d below same =
      read_second zs xs p d (omega (arith, below)) (omega (arith, same))

  read_first : (xs zs : List A) (p : ℕ) (d : A) → p < length xs → length zs ≡ length xs
      → slice_index_or (take (suc p) xs ++ drop (suc p) zs) p d ≡ slice_index_or xs p d
  read_first [] zs p d below same = absurd (omega (arith, below))
  read_first (x ∷ xs) [] p d below same = absurd (omega (arith, same))
  read_first (x ∷ xs) (z ∷ zs) zero d below same = refl
  read_first (x ∷ xs) (z ∷ zs) (suc p) d below same =
      read_first xs zs p d (omega (arith, below)) (omega (arith, same))

-- ---- upward: the last item comes first

abbrev pub raised_of : {A : Type 0} → List A → List A
raised_of xs = drop (length xs - 1) xs ++ take (length xs - 1) xs

module _ {A : Type 0} (xs : List A) (some : 1 ≤ length xs) where
  abbrev raised : List A
  raised = raised_of xs

  begun : (d : A) → raised ≡ slice_index_or xs (length xs - 1) d ∷ take (length xs - 1) xs
  begun d =
      ap (λ (r : List A). r ++ take (length xs - 1) xs)
      (drop_more xs (length xs - 1) d (omega (arith, some))
      ∙ ap (λ (r : List A). slice_index_or xs (length xs - 1) d ∷ r)
      (drop_all (length xs - 1 + 1) xs (omega (arith, some))))

  pub raised_size : length raised ≡ length xs
  raised_size =
      omega (
        arith,
        some,
        length-append (drop (length xs - 1) xs) (take (length xs - 1) xs),
        length-drop (length xs - 1) xs,
        length-take (length xs - 1) xs,
      )

  pub raised_begins : (c : A) → c ≡ slice_index_or xs (length xs - 1) c
      → c ≡ slice_index_or raised 0 c
  raised_begins c is = is ∙ sym (ap (λ (r : List A). slice_index_or r 0 c) (begun c))

  pub raised_on : (p : ℕ) (group : List A) (c : A) → p < length xs
      → group ≡ take p raised ++ drop p xs → c ≡ slice_index_or raised p c
      → slice_set group p c ≡ take (p + 1) raised ++ drop (p + 1) xs
  raised_on p group c below stands is =
      let on : suc p ≡ p + 1 = omega arith in
      ap (λ (g : List A). slice_set g p c) stands
      ∙ (set_first raised xs p c (omega (arith, below, raised_size)) raised_size is
      ∙ ap (λ (n : ℕ). take n raised ++ drop n xs) on)

  pub raised_next : (p : ℕ) (group : List A) (item : A) → group ≡ take p raised ++ drop p xs
      → item ≡ slice_index_or group p item → p + 1 < length xs
      → item ≡ slice_index_or raised (p + 1) item
  raised_next p group item stands is more =
      let on : suc p ≡ p + 1 = omega arith in
      is
      ∙ (ap (λ (g : List A). slice_index_or g p item) stands
      ∙ (read_second raised xs p item (omega (arith, more)) raised_size
      ∙ (sym (get_or-take (length xs - 1) xs p item (omega (arith, more)))
      ∙ (ap (λ (r : List A). slice_index_or r (suc p) item) (sym (begun item))
      ∙ ap (λ (n : ℕ). slice_index_or raised n item) on))))

  pub raised_whole : (p : ℕ) (group : List A) → group ≡ take p raised ++ drop p xs
      → length xs ≤ p → group ≡ raised
  raised_whole p group stands all =
      stands
      ∙ ((λ i. take_all p raised (omega (arith, all, raised_size)) i ++ drop_all p xs all i)
      ∙ append-nil raised)

-- ---- downward: the first comes last

abbrev pub lowered_of : {A : Type 0} → List A → List A
lowered_of xs = drop 1 xs ++ take 1 xs

module _ {A : Type 0} (xs : List A) (some : 1 ≤ length xs) where
  abbrev lowered : List A
  lowered = lowered_of xs

  pub lowered_size : length lowered ≡ length xs
  lowered_size =
      omega (
        arith,
        some,
        length-append (drop 1 xs) (take 1 xs),
        length-drop 1 xs,
        length-take 1 xs,
      )

  pub lowered_ends : (c : A) → c ≡ slice_index_or xs 0 c
      → c ≡ slice_index_or lowered (length xs - 1) c
  lowered_ends c is = by xs some is
    where
      by : (xs : List A) → 1 ≤ length xs → c ≡ slice_index_or xs 0 c
          → c ≡ slice_index_or (drop 1 xs ++ take 1 xs) (length xs - 1) c
      by [] some is = absurd (omega (arith, some))
      by (x ∷ rest) some is =
          let size : length rest ≡ length (x ∷ rest) - 1 = omega arith in
          is ∙ (sym (get_or_at rest x [] c (length rest) refl)
          ∙ ap (λ (n : ℕ). slice_index_or (rest ++ x ∷ []) n c) size)

  pub lowered_on : (place : ℕ) (group : List A) (c : A) → 1 ≤ place → place ≤ length xs
      → group ≡ take place xs ++ drop place lowered → c ≡ slice_index_or lowered (place - 1) c
      → slice_set group (place - 1) c ≡ take (place - 1) xs ++ drop (place - 1) lowered
  lowered_on place group c more within stands is =
      let on : place ≡ suc (place - 1) = omega (arith, more) in
      ap (λ (g : List A). slice_set g (place - 1) c)
      (stands ∙ ap (λ (n : ℕ). take n xs ++ drop n lowered) on)
      ∙ set_second xs lowered (place - 1) c (omega (arith, more, within, lowered_size)) lowered_size
      is

  pub lowered_next : (place : ℕ) (group : List A) (item : A) → place ≤ length xs
      → group ≡ take place xs ++ drop place lowered → item ≡ slice_index_or group (place - 1) item
      → 1 ≤ place - 1 → item ≡ slice_index_or lowered (place - 1 - 1) item
  lowered_next place group item within stands is more =
      let on : place ≡ suc (place - 1) = omega (arith, more) in
      let at : place - 1 ≡ 1 + (place - 1 - 1) = omega (arith, more) in
      is
      ∙ (ap (λ (g : List A). slice_index_or g (place - 1) item)
      (stands ∙ ap (λ (n : ℕ). take n xs ++ drop n lowered) on)
      ∙ (read_first xs lowered (place - 1) item (omega (arith, more, within)) lowered_size
      ∙ (ap (λ (n : ℕ). slice_index_or xs n item) at
      ∙ (sym (get_or-drop 1 xs (place - 1 - 1) item)
      ∙ sym (get_or_append_left (drop 1 xs) (take 1 xs) item (place - 1 - 1)
      (omega (arith, within, more, length-drop 1 xs)))))))

  pub lowered_begun : (place : ℕ) (group : List A) → group ≡ xs → place ≡ length xs
      → group ≡ take place xs ++ drop place lowered
  lowered_begun place group is all =
      is
      ∙ sym ((λ i. take_all place xs (omega (arith, all)) i
      ++ drop_all place lowered (omega (arith, all, lowered_size)) i) ∙ append-nil xs)
