-- Steps behind a path, and what they cost.
use Rattle.std.proofs.Common.{◌≡◌, ℕ, ◌+◌, ◌-◌, ◌<◌, ◌≤◌, Some, None, List, [], ◌∷◌, ◌++◌, length, append_assoc, refl, sym, ◌∙◌, ap, subst, inl, inr, arith}
use Rattle.std.proofs.lemmas.Bool.{true≢false}
use Rattle.std.proofs.lemmas.List.{append-nil, length-append}
use Rattle.std.specs.Prelude.{IsSome, unwrap_or, Option}
use Rattle.ps_searches.specs.Searches.{Prices, IsOver, IsProper, cost, IsWhole, IsSchedule, Costs, AreFree, GoesFreely, IsOnWay}

pub none_some : {n : ℕ} → None ≡ Some n → ⊥
none_some none = cc

pub some_is : (found : Option ℕ) → IsSome found → found ≡ Some (unwrap_or found 0)
some_is (Some price) is = refl
some_is None is = absurd (true≢false (sym is))

pub is_some : (found : Option ℕ) (n : ℕ) → found ≡ Some n → IsSome found
is_some found n is = subst IsSome (sym is) refl

module _ (price : Prices) where
  -- a step leads on
  pub behind : (path more : List ℕ) (one : ℕ) (P : List ℕ → Type 0)
      → P (path ++ one ∷ more) → P ((path ++ one ∷ []) ++ more)
  behind path more one P holds = subst P (sym (append_assoc path (one ∷ []) more)) holds

  pub ahead : (path more : List ℕ) (one : ℕ) (P : List ℕ → Type 0)
      → P ((path ++ one ∷ []) ++ more) → P (path ++ one ∷ more)
  ahead path more one P holds = subst P (append_assoc path (one ∷ []) more) holds

  -- ---- what steps cost

  pub costs_append : (a b : ℕ) (path more rest : List ℕ) → Costs price a path more
      → Costs price b (path ++ more) rest → Costs price (a + b) path (more ++ rest)
  costs_append a b path [] rest first then =
      let same : b ≡ a + b = omega (arith, first) in
      subst (λ (n : ℕ). Costs price n path rest) same
      (subst (λ (p : List ℕ). Costs price b p rest) (append-nil path) then)
  costs_append a b path (one ∷ more) rest first then =
      let left : (a - first.0) + b ≡ a + b - first.0 = omega (arith, first.2) in (
        first.0,
        first.1,
        omega (arith, first.2),
        subst (λ (n : ℕ). Costs price n (path ++ one ∷ []) (more ++ rest)) left
            (costs_append (a - first.0) b (path ++ one ∷ []) more rest first.3
            (behind path more one (λ (p : List ℕ). Costs price b p rest) then)),
      )

  -- one step
  pub costs_one : (path : List ℕ) (at one : ℕ) → price path at ≡ Some one
      → Costs price one path (at ∷ [])
  costs_one path at one is = (one, is, omega arith, omega arith)

  pub costs_proper : (total : ℕ) (path more : List ℕ) → Costs price total path more
      → IsProper price path more
  costs_proper total path [] costs = tt
  costs_proper total path (one ∷ more) costs = (
    is_some (price path one) costs.0 costs.1,
    costs_proper (total - costs.0) (path ++ one ∷ []) more costs.3,
  )

  pub costs_total : (total : ℕ) (path more : List ℕ) → Costs price total path more
      → cost price path more ≡ total
  costs_total total path [] costs = sym costs
  costs_total total path (one ∷ more) costs =
      let here : unwrap_or (price path one) 0 ≡ costs.0 =
      ap (λ (found : Option ℕ). unwrap_or found 0) costs.1 in
      let rest = costs_total (total - costs.0) (path ++ one ∷ []) more costs.3 in
      omega (arith, here, rest, costs.2)

  pub costs_when : (path more : List ℕ) → IsProper price path more
      → Costs price (cost price path more) path more
  costs_when path [] proper = refl
  costs_when path (one ∷ more) proper =
      let here = unwrap_or (price path one) 0 in
      let all = cost price (path ++ one ∷ []) more in
      let left : all ≡ here + all - here = omega arith in (
        here,
        some_is (price path one) proper.0,
        omega arith,
        subst (λ (n : ℕ). Costs price n (path ++ one ∷ []) more) left
            (costs_when (path ++ one ∷ []) more proper.1),
      )

  pub free_costs : (path more : List ℕ) → AreFree price path more → Costs price 0 path more
  free_costs path [] free = refl
  free_costs path (one ∷ more) free =
      (0, free.0.free, omega arith, free_costs (path ++ one ∷ []) more free.1)

  -- ---- ends

  -- a step fewer is left behind the first
  pub whole_tail : (left : ℕ) (path more : List ℕ) (one : ℕ) → IsWhole price left path (one ∷ more)
      → IsWhole price (left - 1) (path ++ one ∷ []) more
  whole_tail left path more one (inl long) = inl (omega (arith, long))
  whole_tail left path more one (inr short) =
      inr (omega (arith, short.0), behind path more one (IsOver price) short.1)

  -- behind the start
  pub whole_whole : (left steps : ℕ) (path more : List ℕ) → length path + left ≡ steps
      → IsWhole price left path more → IsWhole price steps [] (path ++ more)
  whole_whole left steps path more count (inl long) =
      inl (omega (arith, length-append path more, count, long))
  whole_whole left steps path more count (inr short) =
      inr (omega (arith, length-append path more, count, short.0), short.1)

  -- where a step can be made, that isn't the end
  pub not_whole : (left : ℕ) (path : List ℕ) (one paid : ℕ) → price path one ≡ Some paid
      → 0 < left → ¬ IsWhole price left path []
  not_whole left path one paid can some (inl long) = omega (arith, long, some)
  not_whole left path one paid can some (inr short) =
      none_some (sym (subst (IsOver price) (append-nil path) short.1 one) ∙ can)

  pub some_left : (left : ℕ) (path more : List ℕ) (one : ℕ)
      → IsWhole price left path (one ∷ more) → 0 < left
  some_left left path more one (inl long) = omega (arith, long)
  some_left left path more one (inr short) = omega (arith, short.0)

  -- ---- where each step costs nothing

  -- to the end there is one way that costs nothing
  pub one_way : (left : ℕ) (path free more : List ℕ) → AreFree price path free
      → IsWhole price left path free → Costs price 0 path more → IsWhole price left path more
      → more ≡ free
  one_way left path [] [] free end costs whole = refl
  one_way left path [] (one ∷ more) free end costs whole =
      absurd (not_whole left path one costs.0 costs.1 (some_left left path more one whole) end)
  one_way left path (one ∷ free) [] each end costs whole =
      absurd (not_whole left path one 0 each.0.free (some_left left path free one end) whole)
  one_way left path (one ∷ free) (other ∷ more) each end costs whole =
      let zero : costs.0 ≡ 0 = omega (arith, costs.2) in
      let same : other ≡ one =
      each.0.only other (costs.1 ∙ ap (λ (n : ℕ). Some n) zero) in
      let none : 0 - costs.0 ≡ 0 = omega arith in
      let rest : more ≡ free = one_way (left - 1) (path ++ one ∷ []) free more each.1
      (whole_tail left path free one end)
      (subst (λ (n : ℕ). Costs price n (path ++ one ∷ []) more) none
      (subst (λ (c : ℕ). Costs price (0 - costs.0) (path ++ c ∷ []) more) same costs.3))
      (subst (λ (c : ℕ). IsWhole price (left - 1) (path ++ c ∷ []) more) same
      (whole_tail left path more other whole)) in
      ap (λ (c : ℕ). c ∷ more) same ∙ ap (λ (rest : List ℕ). one ∷ rest) rest

  -- ---- on the way

  -- one step more, at a price
  pub on_way_further : (steps at left toll : ℕ) (path next : List ℕ) (one paid : ℕ)
      → IsOnWay price steps at path left toll → price path one ≡ Some paid → paid ≤ toll
      → 0 < left → next ≡ path ++ one ∷ [] → IsOnWay price steps at next (left - 1) (toll - paid)
  on_way_further steps at left toll path next one paid way can fits some is =
      let longer : length next ≡ length path + 1 =
      ap length is ∙ length-append path (one ∷ []) in
      record {
        count = omega (arith, way.count, longer, some);
        spent = way.spent + paid;
        total = omega (arith, way.total, fits);
        costs = subst (λ (p : List ℕ). Costs price (way.spent + paid) [] p) (sym is)
            (costs_append way.spent paid [] path (one ∷ []) way.costs
            (costs_one path one paid can));
      }

  -- one that costs nothing
  pub on_way_freely : (steps at left toll : ℕ) (path next : List ℕ) (one : ℕ)
      → IsOnWay price steps at path left toll → price path one ≡ Some 0
      → 0 < left → next ≡ path ++ one ∷ [] → IsOnWay price steps at next (left - 1) toll
  on_way_freely steps at left toll path next one way can some is =
      let all : toll - 0 ≡ toll = omega arith in
      subst (IsOnWay price steps at next (left - 1)) all
      (on_way_further steps at left toll path next one 0 way can (omega arith) some is)

  pub on_way_same : (steps steps' at at' left toll : ℕ) (path path' : List ℕ) → steps ≡ steps'
      → at ≡ at' → path ≡ path' → IsOnWay price steps at path left toll
      → IsOnWay price steps' at' path' left toll
  on_way_same steps steps' at at' left toll path path' one two three way =
      subst (λ (n : ℕ). IsOnWay price n at' path' left toll) one
      (subst (λ (n : ℕ). IsOnWay price steps n path' left toll) two
      (subst (λ (p : List ℕ). IsOnWay price steps at p left toll) three way))

  -- a run's schedule where it went on freely
  pub is_schedule : (steps at left : ℕ) (path whole : List ℕ) → IsOnWay price steps at path left 0
      → GoesFreely price left path whole → IsSchedule price steps whole
  is_schedule steps at left path whole way goes =
      subst (IsSchedule price steps) (sym goes.is)
      (record {
        proper = costs_proper (way.spent + 0) [] (path ++ goes.more)
            (costs_append way.spent 0 [] path goes.more way.costs
            (free_costs path goes.more goes.free));
        whole = whole_whole left steps path goes.more way.count goes.end;
      })

  -- what it costs
  pub costs_at : (steps at left : ℕ) (path whole : List ℕ) → IsOnWay price steps at path left 0
      → GoesFreely price left path whole → cost price [] whole ≡ at
  costs_at steps at left path whole way goes =
      let total = costs_total (way.spent + 0) [] (path ++ goes.more)
      (costs_append way.spent 0 [] path goes.more way.costs
      (free_costs path goes.more goes.free)) in
      ap (cost price []) goes.is ∙ (total ∙ way.total)
