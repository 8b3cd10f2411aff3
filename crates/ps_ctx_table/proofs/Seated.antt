-- Items under rising identifiers: what is found, and what is left after a change.
use Rattle.std.proofs.Common.{◌≡◌, ◌≢◌, ℕ, zero, suc, ◌+◌, ◌<◌, ◌≤◌, Bool, true, false, cond, List, [], ◌∷◌, ◌++◌}
use Rattle.std.proofs.Common.{length, map, take, drop, get_or, set, slice_get, remove, ◌==◌, Option, Some, None, IsSome}
use Rattle.std.proofs.Common.{option_and_then, option_map, refl, sym, ap, ap₂, ◌∙◌, subst, arith, le_refl, length-set}
use Rattle.std.proofs.Common.{get_or-set_same, get_or-set_other, inl, inr, nat_cmp, Ok, Err}
use Rattle.std.specs.List.{range_with_len}
use Rattle.std.proofs.lemmas.Bool.{eq-eqb, ne_eqb, cases_lt, true≢false}
use Rattle.std.proofs.lemmas.Bool.Decides.{eqb_tells}
use Rattle.std.proofs.lemmas.Option.{slice_get-get_or, slice_get_read, slice_get_past}
use Rattle.std.specs.List.Sorted.{IsBinarySearchResult}
use Rattle.std.proofs.lemmas.List.Sorted.{searched}
use Rattle.std.proofs.lemmas.List.{length_push}
use Rattle.std.proofs.lemmas.List.Edits.{length-remove}
use Rattle.std.proofs.lemmas.List.FromFn.{length-map-range_with_len, get_or-map-range_with_len, map-range_with_len_more}
use Rattle.std.proofs.lemmas.List.FromFn.{fill_by_all}
use Rattle.ps_ctx_table.specs.Seats.{IsRising, seated, listed, item_at, with_item, count_left, items_left, AreSeats}

-- ---- rising numbers

pub rising_above : (low : ℕ) (seats : List ℕ) (high : ℕ) → IsRising low seats high → (i : ℕ)
    → i < length seats → low < get_or seats i 0
rising_above low [] high rising i within = omega (arith, within)
rising_above low (seat ∷ seats) high rising zero within = rising.0
rising_above low (seat ∷ seats) high rising (suc i) within =
    let next = rising_above seat seats high rising.1 i (omega (arith, within)) in
    omega (arith, next, rising.0)

rising_ends : (low : ℕ) (seats : List ℕ) (high : ℕ) → IsRising low seats high → low ≤ high
rising_ends low [] high rising = rising
rising_ends low (seat ∷ seats) high rising =
    let next = rising_ends seat seats high rising.1 in omega (arith, next, rising.0)

pub rising_below : (low : ℕ) (seats : List ℕ) (high : ℕ) → IsRising low seats high → (i : ℕ)
    → i < length seats → get_or seats i 0 ≤ high
rising_below low [] high rising i within = let bad : ⊥ = omega (arith, within) in absurd bad
rising_below low (seat ∷ seats) high rising zero within = rising_ends seat seats high rising.1
rising_below low (seat ∷ seats) high rising (suc i) within =
    rising_below seat seats high rising.1 i (omega (arith, within))

pub rising_order : (low : ℕ) (seats : List ℕ) (high : ℕ) → IsRising low seats high → (i j : ℕ)
    → i ≤ j → j < length seats → get_or seats i 0 ≤ get_or seats j 0
rising_order low [] high rising i j order within =
    let bad : ⊥ = omega (arith, within) in absurd bad
rising_order low (seat ∷ seats) high rising zero zero order within = le_refl seat
rising_order low (seat ∷ seats) high rising zero (suc j) order within =
    let next = rising_above seat seats high rising.1 j (omega (arith, within)) in
    omega (arith, next)
rising_order low (seat ∷ seats) high rising (suc i) zero order within =
    let bad : ⊥ = omega (arith, order) in absurd bad
rising_order low (seat ∷ seats) high rising (suc i) (suc j) order within =
    rising_order seat seats high rising.1 i j (omega (arith, order)) (omega (arith, within))

pub rising_push : (low : ℕ) (seats : List ℕ) (high next : ℕ) → IsRising low seats high
    → high < next → IsRising low (seats ++ next ∷ []) next
rising_push low [] high next rising above = (omega (arith, rising, above), le_refl next)
rising_push low (seat ∷ seats) high next rising above =
    (rising.0, rising_push seat seats high next rising.1 above)

rising_weaken : (lower low : ℕ) (seats : List ℕ) (high : ℕ) → IsRising low seats high → lower ≤ low
    → IsRising lower seats high
rising_weaken lower low [] high rising below = omega (arith, rising, below)
rising_weaken lower low (seat ∷ seats) high rising below =
    (omega (arith, rising.0, below), rising.1)

pub rising_remove : (low : ℕ) (seats : List ℕ) (high i : ℕ) → IsRising low seats high
    → i < length seats → IsRising low (remove seats i) high
rising_remove low [] high i rising within = let bad : ⊥ = omega (arith, within) in absurd bad
rising_remove low (seat ∷ seats) high zero rising within =
    rising_weaken low seat seats high rising.1 (omega (arith, rising.0))
rising_remove low (seat ∷ seats) high (suc i) rising within =
    (rising.0, rising_remove seat seats high i rising.1 (omega (arith, within)))

map_range : {B : Type 0} (f g : ℕ → B) (from count : ℕ)
    → ((k : ℕ) → from ≤ k → f k ≡ g k)
    → map f (range_with_len from count) ≡ map g (range_with_len from count)
map_range f g from zero same = refl
map_range f g from (suc count) same =
    ap₂ (λ one rest. one ∷ rest) (same from (le_refl from))
    (map_range f g (from + 1) count (λ k above. same k (omega (arith, above))))

above_next : (one other : ℕ) → one < other → other ≢ suc one → one + 1 < other
above_next one other above apart = elim (cases_lt (one + 1) other) [
  | inl less ↦ less
  | inr more ↦ let bad : ⊥ = apart (omega (arith, above, more)) in absurd bad
]

-- ---- what is found

module _ {A : Type 0} where
  pub seated_found : (low : ℕ) (seats : List ℕ) (high : ℕ) (items : List A)
      → IsRising low seats high → length items ≡ length seats → (i identifier : ℕ)
      → i < length seats → get_or seats i 0 ≡ identifier
      → seated seats items identifier ≡ slice_get items i
  seated_found low [] high items rising same i identifier within is =
      let bad : ⊥ = omega (arith, within) in absurd bad
  seated_found low (seat ∷ seats) high [] rising same i identifier within is =
      let bad : ⊥ = omega (arith, same) in absurd bad
  seated_found low (seat ∷ seats) high (item ∷ items) rising same zero identifier within is =
      rw (eq-eqb seat identifier is) refl
  seated_found low (seat ∷ seats) high (item ∷ items) rising same (suc i) identifier within is =
      let above = rising_above seat seats high rising.1 i (omega (arith, within)) in
      let other : seat ≢ identifier = λ e. omega (arith, e, is, above) in
      rw (ne_eqb seat identifier other)
      (seated_found seat seats high items rising.1 (omega (arith, same)) i identifier
      (omega (arith, within)) is)

  pub seated_none : (seats : List ℕ) (items : List A) (identifier : ℕ)
      → ((k : ℕ) → k < length seats → get_or seats k 0 ≢ identifier)
      → seated seats items identifier ≡ None
  seated_none [] items identifier absent = refl
  seated_none (seat ∷ seats) [] identifier absent = refl
  seated_none (seat ∷ seats) (item ∷ items) identifier absent =
      rw (ne_eqb seat identifier (absent 0 (omega arith)))
      (seated_none seats items identifier (λ k within. absent (suc k) (omega (arith, within))))

  pub length-listed : (seats : List ℕ) (items : List A) (made : ℕ)
      → length (listed seats items made) ≡ made
  unfolding listed
  length-listed seats items made =
      length-map-range_with_len (λ place. seated seats items (suc place)) 0 made

  pub item_at-listed : (seats : List ℕ) (items : List A) (made : ℕ) → IsRising 0 seats made
      → (identifier : ℕ)
      → item_at (listed seats items made) identifier ≡ seated seats items identifier
  unfolding listed
  item_at-listed seats items made rising zero =
      sym (seated_none seats items 0
      (λ k within e. let above = rising_above 0 seats made rising k within in
      omega (arith, above, e)))
  item_at-listed seats items made rising (suc place) = elim (cases_lt place made) [
    | inl within ↦ ap (option_and_then (λ item. item))
        (slice_get-get_or (listed seats items made) place None
        (subst (λ n. place < n) (sym (length-listed seats items made)) within)
        ∙ ap Some (get_or-map-range_with_len (λ place. seated seats items (suc place)) 0 made place
        place None within (omega arith)))
    | inr past ↦ ap (option_and_then (λ item. item))
        (slice_get_past (listed seats items made) place
        (subst (λ n. n ≤ place) (sym (length-listed seats items made)) past))
        ∙ sym (seated_none seats items (suc place)
        (λ k within e. let below = rising_below 0 seats made rising k within in
        omega (arith, below, e, past)))
  ]

  -- ---- one more

  seated_push : (seats : List ℕ) (items : List A) (next : ℕ) (item : A) (identifier : ℕ)
      → length items ≡ length seats → identifier ≢ next
      → seated (seats ++ next ∷ []) (items ++ item ∷ []) identifier ≡ seated seats items identifier
  seated_push [] [] next item identifier same other =
      rw (ne_eqb next identifier (λ e. other (sym e))) refl
  seated_push [] (one ∷ items) next item identifier same other =
      let bad : ⊥ = omega (arith, same) in absurd bad
  seated_push (seat ∷ seats) [] next item identifier same other =
      let bad : ⊥ = omega (arith, same) in absurd bad
  seated_push (seat ∷ seats) (one ∷ items) next item identifier same other =
      ap (λ rest. cond (seat == identifier) (Some one) rest)
      (seated_push seats items next item identifier (omega (arith, same)) other)

  seated_pushed : (low : ℕ) (seats : List ℕ) (high : ℕ) (items : List A) (next : ℕ) (item : A)
      → IsRising low seats high → length items ≡ length seats → high < next
      → seated (seats ++ next ∷ []) (items ++ item ∷ []) next ≡ Some item
  seated_pushed low [] high [] next item rising same above = rw (eq-eqb next next refl) refl
  seated_pushed low [] high (one ∷ items) next item rising same above =
      let bad : ⊥ = omega (arith, same) in absurd bad
  seated_pushed low (seat ∷ seats) high [] next item rising same above =
      let bad : ⊥ = omega (arith, same) in absurd bad
  seated_pushed low (seat ∷ seats) high (one ∷ items) next item rising same above =
      let ends = rising_ends seat seats high rising.1 in
      let other : seat ≢ next = λ e. omega (arith, e, ends, above) in
      rw (ne_eqb seat next other)
      (seated_pushed seat seats high items next item rising.1 (omega (arith, same)) above)

  pub listed_push : (seats : List ℕ) (items : List A) (made : ℕ) (item : A)
      → IsRising 0 seats made → length items ≡ length seats
      → listed (seats ++ (made + 1) ∷ []) (items ++ item ∷ []) (made + 1)
      ≡ listed seats items made ++ Some item ∷ []
  unfolding listed
  listed_push seats items made item rising same =
      let old : ℕ → Option A = λ place. seated seats items (suc place) in
      let new : ℕ → Option A =
      λ place. seated (seats ++ (made + 1) ∷ []) (items ++ item ∷ []) (suc place) in
      let at : made + 1 ≡ suc made = omega arith in
      let kept : map new (range_with_len 0 made) ≡ map old (range_with_len 0 made) =
      fill_by_all old (map new (range_with_len 0 made)) made None
      (length-map-range_with_len new 0 made)
      (λ k within. get_or-map-range_with_len new 0 made k k None within (omega arith)
      ∙ seated_push seats items (made + 1) item (suc k) same (λ e. omega (arith, e, within))) in
      let last : new made ≡ Some item =
      subst (λ n. seated (seats ++ (made + 1) ∷ []) (items ++ item ∷ []) n ≡ Some item) at
      (seated_pushed 0 seats made items (made + 1) item rising same (omega arith)) in
      map-range_with_len_more new 0 made made (omega arith)
      ∙ (ap (λ front. front ++ new made ∷ []) kept
      ∙ ap (λ one. map old (range_with_len 0 made) ++ one ∷ []) last)

  -- ---- a search

  pub listed_found : (seats : List ℕ) (items : List A) (made : ℕ) → IsRising 0 seats made
      → length items ≡ length seats → (identifier i : ℕ) (item : A) → i < length seats
      → get_or seats i 0 ≡ identifier → item ≡ get_or items i item
      → Some item ≡ item_at (listed seats items made) identifier
  listed_found seats items made rising same identifier i item within is read =
      sym (slice_get_read items (length seats) i item (sym same) within read)
      ∙ (sym (seated_found 0 seats made items rising same i identifier within is)
      ∙ sym (item_at-listed seats items made rising identifier))

  pub listed_none : (seats : List ℕ) (items : List A) (made : ℕ) → IsRising 0 seats made
      → (identifier : ℕ) → ((k : ℕ) → k < length seats → get_or seats k 0 ≢ identifier)
      → None ≡ item_at (listed seats items made) identifier
  listed_none seats items made rising identifier absent =
      sym (seated_none seats items identifier absent)
      ∙ sym (item_at-listed seats items made rising identifier)

  -- ---- which are left

  items_from : (count low : ℕ) (seats : List ℕ) (high : ℕ) (items : List A)
      → IsRising low seats high → length items ≡ length seats → low + count ≡ high
      → items_left (map (λ place. seated seats items (suc place)) (range_with_len low count))
      ≡ items
  items_from zero low [] high [] rising same ends = refl
  items_from zero low [] high (item ∷ items) rising same ends =
      let bad : ⊥ = omega (arith, same) in absurd bad
  items_from zero low (seat ∷ seats) high items rising same ends =
      let last = rising_ends seat seats high rising.1 in
      let bad : ⊥ = omega (arith, last, rising.0, ends) in absurd bad
  items_from (suc count) low [] high items rising same ends =
      items_from count (low + 1) [] high items (omega (arith, ends)) same (omega (arith, ends))
  items_from (suc count) low (seat ∷ seats) high [] rising same ends =
      let bad : ⊥ = omega (arith, same) in absurd bad
  items_from (suc count) low (seat ∷ seats) high (item ∷ items) rising same ends =
      elim (eqb_tells seat (suc low)) [
        | inl is ↦
            let at : seat ≡ low + 1 = omega (arith, is.1) in
            let head : at_place low ≡ Some item =
            ap (λ b. cond b (Some item) (seated seats items (suc low))) is.0 in
            let tail : map at_place (range_with_len (low + 1) count)
            ≡ map (λ place. seated seats items (suc place)) (range_with_len (low + 1) count) =
            map_range at_place (λ place. seated seats items (suc place)) (low + 1) count
            (λ k above. let other : seat ≢ suc k = λ e. omega (arith, e, at, above) in
            ap (λ b. cond b (Some item) (seated seats items (suc k)))
            (ne_eqb seat (suc k) other)) in
            ap₂ (λ one rest. items_left (one ∷ rest)) head tail
            ∙ ap (λ rest. item ∷ rest) (items_from count (low + 1) seats high items
            (subst (λ n. IsRising n seats high) at rising.1) (omega (arith, same))
            (omega (arith, ends)))
        | inr is ↦
            let above : low + 1 < seat =
            let other = is.1 in let first = rising.0 in above_next low seat first other in
            let head : at_place low ≡ None =
            seated_none (seat ∷ seats) (item ∷ items) (suc low)
            (λ k within e. let next = rising_above (low + 1) (seat ∷ seats) high
            (above, rising.1) k within in omega (arith, next, e)) in
            ap (λ one. items_left (one ∷ map at_place (range_with_len (low + 1) count))) head
            ∙ items_from count (low + 1) (seat ∷ seats) high (item ∷ items) (above, rising.1)
            same (omega (arith, ends))
      ]
    where
      at_place : ℕ → Option A
      at_place place = seated (seat ∷ seats) (item ∷ items) (suc place)

  pub items-listed : (seats : List ℕ) (items : List A) (made : ℕ) → AreSeats seats items made
      → items_left (listed seats items made) ≡ items
  unfolding listed
  items-listed seats items made are =
      items_from made 0 seats made items are.rising are.same (omega arith)

  -- ---- how many are left

  count-items : (list : List (Option A)) → count_left list ≡ length (items_left list)
  count-items [] = refl
  count-items (None ∷ list) = count-items list
  count-items (Some item ∷ list) = ap (λ n. n + 1) (count-items list) ∙ omega arith

  pub count-listed : (seats : List ℕ) (items : List A) (made : ℕ) → AreSeats seats items made
      → count_left (listed seats items made) ≡ length seats
  count-listed seats items made are =
      count-items (listed seats items made)
      ∙ (ap length (items-listed seats items made are) ∙ are.same)

  pub AreSeats-push : (seats : List ℕ) (items : List A) (made : ℕ) (item : A)
      → AreSeats seats items made → length seats < 32 → made < 2147483647
      → AreSeats (seats ++ (made + 1) ∷ []) (items ++ item ∷ []) (made + 1)
  AreSeats-push seats items made item are few within = record {
    rising = rising_push 0 seats made (made + 1) are.rising (omega arith);
    same =
        let one = length_push items item in let other = length_push seats (made + 1) in
        let same = are.same in omega (arith, one, other, same);
    few = let one = length_push seats (made + 1) in omega (arith, one, few);
    within = omega (arith, within);
  }

  -- ---- one changed, one gone

  seated_set : (seats : List ℕ) (items : List A) (i : ℕ) (item : A) (identifier : ℕ)
      → identifier ≢ get_or seats i 0
      → seated seats (set items i item) identifier ≡ seated seats items identifier
  seated_set [] items i item identifier other = refl
  seated_set (seat ∷ seats) [] i item identifier other = refl
  seated_set (seat ∷ seats) (one ∷ items) zero item identifier other =
      let apart = ne_eqb seat identifier (λ e. other (sym e)) in
      ap (λ b. cond b (Some item) (seated seats items identifier)) apart
      ∙ sym (ap (λ b. cond b (Some one) (seated seats items identifier)) apart)
  seated_set (seat ∷ seats) (one ∷ items) (suc i) item identifier other =
      ap (λ rest. cond (seat == identifier) (Some one) rest)
      (seated_set seats items i item identifier other)

  seated_remove : (seats : List ℕ) (items : List A) (i : ℕ) (identifier : ℕ)
      → length items ≡ length seats → i < length seats → identifier ≢ get_or seats i 0
      → seated (remove seats i) (remove items i) identifier ≡ seated seats items identifier
  seated_remove [] items i identifier same within other =
      let bad : ⊥ = omega (arith, within) in absurd bad
  seated_remove (seat ∷ seats) [] i identifier same within other =
      let bad : ⊥ = omega (arith, same) in absurd bad
  seated_remove (seat ∷ seats) (one ∷ items) zero identifier same within other =
      sym (ap (λ b. cond b (Some one) (seated seats items identifier))
      (ne_eqb seat identifier (λ e. other (sym e))))
  seated_remove (seat ∷ seats) (one ∷ items) (suc i) identifier same within other =
      ap (λ rest. cond (seat == identifier) (Some one) rest)
      (seated_remove seats items i identifier (omega (arith, same)) (omega (arith, within)) other)

  seated_removed : (low : ℕ) (seats : List ℕ) (high : ℕ) (items : List A)
      → IsRising low seats high → length items ≡ length seats → (i : ℕ) → i < length seats
      → seated (remove seats i) (remove items i) (get_or seats i 0) ≡ None
  seated_removed low [] high items rising same i within =
      let bad : ⊥ = omega (arith, within) in absurd bad
  seated_removed low (seat ∷ seats) high [] rising same i within =
      let bad : ⊥ = omega (arith, same) in absurd bad
  seated_removed low (seat ∷ seats) high (one ∷ items) rising same zero within =
      seated_none seats items seat
      (λ k inside e. let above = rising_above seat seats high rising.1 k inside in
      omega (arith, above, e))
  seated_removed low (seat ∷ seats) high (one ∷ items) rising same (suc i) within =
      let above = rising_above seat seats high rising.1 i (omega (arith, within)) in
      let other : seat ≢ get_or seats i 0 = λ e. omega (arith, e, above) in
      ap (λ b. cond b (Some one) (seated (remove seats i) (remove items i) (get_or seats i 0)))
      (ne_eqb seat (get_or seats i 0) other)
      ∙ seated_removed seat seats high items rising.1 (omega (arith, same)) i
      (omega (arith, within))

  -- one under an identifier is another, or gone
  listed_with : (seats seats' : List ℕ) (items items' : List A) (made identifier : ℕ)
      (new : Option A) → identifier ≤ made → seated seats' items' identifier ≡ new
      → ((k : ℕ) → k ≢ identifier → seated seats' items' k ≡ seated seats items k)
      → listed seats' items' made ≡ with_item (listed seats items made) identifier new
  unfolding listed
  listed_with seats seats' items items' made zero new within at others =
      map_range (λ place. seated seats' items' (suc place))
      (λ place. seated seats items (suc place))
      0 made (λ k above. others (suc k) (λ e. let bad : ⊥ = omega (arith, e) in bad))
  listed_with seats seats' items items' made (suc place) new within at others =
      let old : ℕ → Option A = λ k. seated seats items (suc k) in
      let after : ℕ → Option A = λ k. seated seats' items' (suc k) in
      let count : length (map old (range_with_len 0 made)) ≡ made =
      length-map-range_with_len old 0 made in
      let inside : place < length (map old (range_with_len 0 made)) =
      omega (arith, count, within) in
      sym (fill_by_all after (set (map old (range_with_len 0 made)) place new) made None
      (length-set (map old (range_with_len 0 made)) place new ∙ count)
      (λ k below. elim (eqb_tells k place) [
        | inl is ↦ subst
            (λ n. get_or (set (map old (range_with_len 0 made)) place new) n None ≡ after n)
            (sym is.1)
            (get_or-set_same (map old (range_with_len 0 made)) place new None inside ∙ sym at)
        | inr is ↦ get_or-set_other (map old (range_with_len 0 made)) place k new None is.1
            ∙ (get_or-map-range_with_len old 0 made k k None below (omega arith)
            ∙ sym (others (suc k) (λ e. is.1 (omega (arith, e)))))
      ]))

  module _ (seats : List ℕ) (items : List A) (made : ℕ) (are : AreSeats seats items made)
      (identifier i : ℕ) (within : i < length seats) (is : get_or seats i 0 ≡ identifier) where
    reached : identifier ≤ made
    reached = subst (λ n. n ≤ made) is (rising_below 0 seats made are.rising i within)

    pub listed_set : (item : A) → listed seats (set items i item) made
        ≡ with_item (listed seats items made) identifier (Some item)
    listed_set item =
        let count : length (set items i item) ≡ length items = length-set items i item in
        let inside : i < length items = omega (arith, within, are.same) in
        listed_with seats seats items (set items i item) made identifier (Some item) reached
        (seated_found 0 seats made (set items i item) are.rising (count ∙ are.same) i identifier
        within is
        ∙ slice_get_read (set items i item) (length items) i item (sym count) inside
        (sym (get_or-set_same items i item item inside)))
        (λ k other. seated_set seats items i item k (λ e. other (e ∙ is)))

    pub listed_remove : listed (remove seats i) (remove items i) made
        ≡ with_item (listed seats items made) identifier None
    listed_remove =
        listed_with seats (remove seats i) items (remove items i) made identifier None reached
        (subst (λ n. seated (remove seats i) (remove items i) n ≡ None) is
        (seated_removed 0 seats made items are.rising are.same i within))
        (λ k other. seated_remove seats items i k are.same within (λ e. other (e ∙ is)))

  pub AreSeats-remove : (seats : List ℕ) (items : List A) (made : ℕ) (i : ℕ)
      → AreSeats seats items made → i < length seats
      → AreSeats (remove seats i) (remove items i) made
  AreSeats-remove seats items made i are within = record {
    rising = rising_remove 0 seats made i are.rising within;
    same =
        let inside : i < length items = omega (arith, within, are.same) in
        let one = length-remove items i inside in
        let other = length-remove seats i within in
        omega (arith, one, other, are.same);
    few = let one = length-remove seats i within in omega (arith, one, are.few);
    within = are.within;
  }

  -- what is left is not gone
  pub none_left : (list : List (Option A)) (identifier : ℕ) → None ≡ item_at list identifier
      → IsSome (item_at list identifier) → ⊥
  none_left list identifier none some =
      subst (λ found. IsSome found → ⊥) none (λ bad. true≢false (sym bad)) some

-- by halves, in a copy of the numbers
module _ (seats searched_in : List ℕ) (high identifier : ℕ) (rising : IsRising 0 seats high)
    (copy : searched_in ≡ seats) where
  orders : (i j : ℕ) → i ≤ j → j < length searched_in
      → get_or searched_in i 0 ≤ get_or searched_in j 0
  orders = subst (λ xs. (i j : ℕ) → i ≤ j → j < length xs → get_or xs i 0 ≤ get_or xs j 0)
      (sym copy) (rising_order 0 seats high rising)

  pub search_found : (place : ℕ)
      → IsBinarySearchResult (λ one. nat_cmp one identifier) searched_in (Ok place)
      → (place < length seats) × (get_or seats place 0 ≡ identifier)
  search_found place position =
      subst (λ xs. (place < length xs) × (get_or xs place 0 ≡ identifier)) copy
      (searched searched_in identifier (Ok place) position orders)

  pub search_none : (place : ℕ)
      → IsBinarySearchResult (λ one. nat_cmp one identifier) searched_in (Err place)
      → (k : ℕ) → k < length seats → get_or seats k 0 ≢ identifier
  search_none place position =
      subst (λ xs. (k : ℕ) → k < length xs → get_or xs k 0 ≢ identifier) copy
      (λ k within e. let around = searched searched_in identifier (Err place) position orders in
      elim (cases_lt k place) [
        | inl below ↦ omega (arith, around.1 k below, e)
        | inr above ↦ omega (arith, around.2 k above within, e)
      ])

-- ---- each changed

module _ {A B : Type 0} (f : A → B) where
  either_map : (b : Bool) (item : A) (new : Option B) (old : Option A) → new ≡ option_map f old
      → cond b (Some (f item)) new ≡ option_map f (cond b (Some item) old)
  either_map true item new old same = refl
  either_map false item new old same = same

  seated_map : (seats : List ℕ) (items : List A) (identifier : ℕ)
      → seated seats (map f items) identifier ≡ option_map f (seated seats items identifier)
  seated_map [] items identifier = refl
  seated_map (seat ∷ seats) [] identifier = refl
  seated_map (seat ∷ seats) (item ∷ items) identifier =
      either_map (seat == identifier) item (seated seats (map f items) identifier)
      (seated seats items identifier) (seated_map seats items identifier)

  map_map : (places : List ℕ) (seats : List ℕ) (items : List A)
      → map (λ place. seated seats (map f items) (suc place)) places
      ≡ map (option_map f) (map (λ place. seated seats items (suc place)) places)
  map_map [] seats items = refl
  map_map (place ∷ places) seats items =
      λ i. seated_map seats items (suc place) i ∷ map_map places seats items i

  pub listed_map : (seats : List ℕ) (items : List A) (made : ℕ)
      → listed seats (map f items) made ≡ map (option_map f) (listed seats items made)
  unfolding listed
  listed_map seats items made = map_map (range_with_len 0 made) seats items

-- one after the other
module _ {A : Type 0} (f : A → A) where
  changed_next : (list : List A) (i : ℕ) (item : A) → i < length list
      → item ≡ get_or (map f (take i list) ++ drop i list) i item
      → set (map f (take i list) ++ drop i list) i (f item)
      ≡ map f (take (suc i) list) ++ drop (suc i) list
  changed_next [] i item within is = let bad : ⊥ = omega (arith, within) in absurd bad
  changed_next (one ∷ list) zero item within is = ap (λ first. first ∷ list) (ap f is)
  changed_next (one ∷ list) (suc i) item within is =
      ap (λ rest. f one ∷ rest) (changed_next list i item (omega (arith, within)) is)

  pub changed_more : (list now : List A) (i : ℕ) (item new : A) → i < length list
      → now ≡ map f (take i list) ++ drop i list → item ≡ get_or now i item → new ≡ f item
      → set now i new ≡ map f (take (i + 1) list) ++ drop (i + 1) list
  changed_more list now i item new within are is changed =
      let next : i + 1 ≡ suc i = omega arith in
      ap₂ (λ items one. set items i one) are changed
      ∙ (changed_next list i item within (subst (λ items. item ≡ get_or items i item) are is)
      ∙ ap (λ n. map f (take n list) ++ drop n list) (sym next))

-- no identifier that was made is above the limit
pub made-within : {A : Type 0} (seats : List ℕ) (items : List A) (made : ℕ)
    (now : List (Option A)) → listed seats items made ≡ now → AreSeats seats items made
    → length now ≤ 2147483647
made-within seats items made now is are =
    let long = ap length (sym is) ∙ length-listed seats items made in
    let within = are.within in
    omega (arith, long, within)
