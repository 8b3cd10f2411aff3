-- The next identifier under which an item is left.
use Rattle.std.proofs.Common.{◌≡◌, ◌≢◌, ℕ, zero, suc, ◌+◌, ◌<◌, ◌≤◌, List, [], ◌∷◌, length, get_or, None, IsSome, refl}
use Rattle.std.proofs.Common.{sym, subst, ◌∙◌, arith, inl, inr, nat_cmp, Ok, Err}
use Rattle.std.proofs.lemmas.Bool.{cases_lt}
use Rattle.std.proofs.lemmas.List.{get_or_default}
use Rattle.std.specs.Prelude.{slice_get}
use Rattle.std.specs.List.Sorted.{IsBinarySearchResult}
use Rattle.std.proofs.lemmas.List.Sorted.{searched}
use Rattle.ps_ctx_table.specs.Seats.{IsRising, listed, item_at, AreSeats}
use Rattle.ps_ctx_table.proofs.Seated.{rising_above, rising_order, seated_found, seated_none, item_at-listed}
use Rattle.ps_ctx_table.proofs.Seated.{search_found}

-- those before a place are at most this, those from it on above
pub record IsCut (seats : List ℕ) (identifier place : ℕ) : Type 0 where
  pub below : (k : ℕ) → k < place → k < length seats → get_or seats k 0 ≤ identifier
  pub above : (k : ℕ) → place ≤ k → k < length seats → identifier < get_or seats k 0

rising_strict : (low : ℕ) (seats : List ℕ) (high : ℕ) → IsRising low seats high → (i j : ℕ)
    → i < j → j < length seats → get_or seats i 0 < get_or seats j 0
rising_strict low [] high rising i j order within =
    let bad : ⊥ = omega (arith, within) in absurd bad
rising_strict low (seat ∷ seats) high rising i zero order within =
    let bad : ⊥ = omega (arith, order) in absurd bad
rising_strict low (seat ∷ seats) high rising zero (suc j) order within =
    rising_above seat seats high rising.1 j (omega (arith, within))
rising_strict low (seat ∷ seats) high rising (suc i) (suc j) order within =
    rising_strict seat seats high rising.1 i j (omega (arith, order)) (omega (arith, within))

module _ (seats searched_in : List ℕ) (high identifier : ℕ) (rising : IsRising 0 seats high)
    (copy : searched_in ≡ seats) where
  -- it is there
  pub cut_found : (place : ℕ)
      → IsBinarySearchResult (λ one. nat_cmp one identifier) searched_in (Ok place)
      → IsCut seats identifier (place + 1)
  cut_found place position =
      let found = search_found seats searched_in high identifier rising copy place position in
      record {
        below = λ k before within.
            let order = rising_order 0 seats high rising k place (omega (arith, before)) found.0 in
            omega (arith, order, found.1);
        above = λ k behind within.
            let order = rising_strict 0 seats high rising place k (omega (arith, behind)) within in
            omega (arith, order, found.1);
      }

  -- it isn't
  pub cut_none : (place : ℕ)
      → IsBinarySearchResult (λ one. nat_cmp one identifier) searched_in (Err place)
      → IsCut seats identifier place
  cut_none place position =
      let orders = subst (λ xs. (i j : ℕ) → i ≤ j → j < length xs
      → get_or xs i 0 ≤ get_or xs j 0) (sym copy) (rising_order 0 seats high rising) in
      let around = searched searched_in identifier (Err place) position orders in
      subst (λ xs. IsCut xs identifier place) copy (record {
        below = λ k before within. let less = around.1 k before in omega (arith, less);
        above = λ k behind within. around.2 k behind within;
      })

-- all are above none
pub cut_first : (seats : List ℕ) (high : ℕ) → IsRising 0 seats high → IsCut seats 0 0
cut_first seats high rising = record {
  below = λ k before within. let bad : ⊥ = omega (arith, before) in absurd bad;
  above = λ k behind within. rising_above 0 seats high rising k within;
}

module _ {A : Type 0} (seats : List ℕ) (items : List A) (made : ℕ) (are : AreSeats seats items made)
    (identifier place : ℕ) (cut : IsCut seats identifier place) where
  -- nothing is left under one that is no seat
  absent : (k : ℕ) → ((i : ℕ) → i < length seats → get_or seats i 0 ≢ k)
      → item_at (listed seats items made) k ≡ None
  absent k other =
      item_at-listed seats items made are.rising k ∙ seated_none seats items k other

  pub next_none : length seats ≤ place → (k : ℕ) → identifier < k
      → item_at (listed seats items made) k ≡ None
  next_none past k above =
      absent k (λ i within e. let low = cut.below i (omega (arith, within, past)) within in
      omega (arith, low, above, e))

  module _ (next : ℕ) (within : place < length seats) (read : next ≡ get_or seats place next) where
    is : next ≡ get_or seats place 0
    is = read ∙ get_or_default seats place next 0 within

    pub next_above : identifier < next
    next_above = subst (λ n. identifier < n) (sym is) (cut.above place (omega arith) within)

    pub next_there : IsSome (item_at (listed seats items made) next)
    next_there =
        let inside : place < length items = omega (arith, within, are.same) in
        subst IsSome
        (sym (item_at-listed seats items made are.rising next
        ∙ seated_found 0 seats made items are.rising are.same place next within (sym is)))
        (some_of items place inside)
      where
        some_of : (list : List A) (i : ℕ) → i < length list → IsSome (slice_get list i)
        some_of [] i inside = let bad : ⊥ = omega (arith, inside) in absurd bad
        some_of (one ∷ list) zero inside = refl
        some_of (one ∷ list) (suc i) inside = some_of list i (omega (arith, inside))

    pub next_between : (k : ℕ) → identifier < k → k < next
        → item_at (listed seats items made) k ≡ None
    next_between k above below =
        absent k (λ i inside e. elim (cases_lt i place) [
          | inl before ↦ let low = cut.below i before inside in omega (arith, low, above, e)
          | inr behind ↦
              let order = rising_order 0 seats made are.rising place i behind inside in
              omega (arith, order, below, e, is)
        ])
