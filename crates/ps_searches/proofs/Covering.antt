-- When the ending of each way from a path is told.
use Rattle.std.proofs.Common.{◌≡◌, ℕ, ◌+◌, ◌-◌, ◌<◌, ◌≤◌, Bool, true, false, Some, List, [], ◌∷◌, ◌++◌, sym, ◌∙◌, ap, subst, inl, inr, arith}
use Rattle.std.proofs.lemmas.Bool.{cases_eq, cases_lt, true≢false}
use Rattle.std.proofs.lemmas.List.Elements.{All-push}
use Rattle.std.specs.Prelude.{All, Contains, ◌↔◌}
use Rattle.ps_searches.specs.declared.found.Told.{Told}
use Rattle.ps_searches.specs.Searches.{Prices, IsOver, IsNoneAbove, IsNextAbove, cost, IsSchedule, Costs, GoesFreely, IsEnd, IsOnWay, IsAmongTold, EveryEnding, IsTold, AreTold, AllTold, Keeps, AddsEnding}
use Rattle.ps_searches.proofs.Paths.{none_some, ahead, costs_when, whole_tail, some_left, one_way, is_schedule, costs_at}
use Rattle.ps_searches.proofs.Telling.{among_of, added_keeps}

module _ {E S : Type 0} (price : Prices) (Ends : (schedule : List ℕ) → E → Type 0) where
  -- ---- ends

  -- nothing is left to be paid, and the run went on freely
  pub told_freely : (left : ℕ) (path whole : List ℕ) (told : List (E × Told S))
      → GoesFreely price left path whole → IsAmongTold Ends told whole
      → AllTold price Ends left 0 path told
  told_freely left path whole told goes among more costs end =
      let same : more ≡ goes.more =
      one_way price left path goes.more more goes.free goes.end costs end in
      subst (IsAmongTold Ends told) (goes.is ∙ ap (λ (m : List ℕ). path ++ m) (sym same)) among

  -- something is left to be paid, and no step
  pub told_used_up : (left toll : ℕ) (path : List ℕ) (told : List (E × Told S)) → left ≤ 0
      → 0 < toll → AllTold price Ends left toll path told
  told_used_up left toll path told none some [] costs whole = absurd (omega (arith, costs, some))
  told_used_up left toll path told none some (one ∷ more) costs whole =
      let more_left = some_left price left path more one whole in
      absurd (omega (arith, none, more_left))

  -- or nobody can step
  pub told_over : (left toll : ℕ) (path : List ℕ) (told : List (E × Told S)) → IsOver price path
      → 0 < toll → AllTold price Ends left toll path told
  told_over left toll path told over some [] costs whole = absurd (omega (arith, costs, some))
  told_over left toll path told over some (one ∷ more) costs whole =
      absurd (none_some (sym (over one) ∙ costs.1))

  -- ---- steps

  -- each step that can be paid leads to where all is told
  pub told_each : (left toll : ℕ) (path : List ℕ) (told : List (E × Told S)) → 0 < toll
      → ((context one : ℕ) → price path context ≡ Some one → one ≤ toll
      → AllTold price Ends (left - 1) (toll - one) (path ++ context ∷ []) told)
      → AllTold price Ends left toll path told
  told_each left toll path told some each [] costs whole = absurd (omega (arith, costs, some))
  told_each left toll path told some each (context ∷ more) costs whole =
      ahead price path more context (IsAmongTold Ends told)
      (each context costs.0 costs.1 costs.2 more costs.3
      (whole_tail price left path more context whole))

  -- the first, and each other, of those up to one above which none can step
  pub told_step : (left toll : ℕ) (path next : List ℕ) (told final : List (E × Told S))
      (first after : ℕ) → 0 < toll → price path first ≡ Some 0 → IsNoneAbove price path after
      → ((context one : ℕ) → context ≤ after → ¬ (context ≡ first)
      → price path context ≡ Some one → one ≤ toll
      → AllTold price Ends (left - 1) (toll - one) (path ++ context ∷ []) told)
      → Keeps Ends told final → next ≡ path ++ first ∷ []
      → AllTold price Ends (left - 1) toll next final → AllTold price Ends left toll path final
  told_step left toll path next told final first after some can beyond others keeps is rest =
      told_each left toll path final some (λ context one costs within.
      elim (cases_eq context first) [
        | inl same ↦
            let free : Some one ≡ Some 0 = sym costs ∙ (ap (price path) same ∙ can) in
            let zero : one ≡ 0 = cc in
            let all : toll - one ≡ toll = omega (arith, zero) in
            let at : next ≡ path ++ context ∷ [] =
            is ∙ ap (λ (c : ℕ). path ++ c ∷ []) (sym same) in
            subst (λ (n : ℕ). AllTold price Ends (left - 1) n (path ++ context ∷ []) final)
            (sym all)
            (subst (λ (p : List ℕ). AllTold price Ends (left - 1) toll p final) at rest)
        | inr other ↦ elim (cases_lt after context) [
          | inl above ↦ absurd (none_some (sym (beyond context above) ∙ costs))
          | inr below ↦ λ more goes whole.
              keeps _ (others context one below other costs within more goes whole)
        ]
      ])

  -- one context more was looked at, the next that can step
  pub one_more : (left toll : ℕ) (path : List ℕ) (before now : List (E × Told S))
      (after at first : ℕ) → IsNextAbove price path after at → Keeps Ends before now
      → ((context one : ℕ) → context ≤ after → ¬ (context ≡ first)
      → price path context ≡ Some one → one ≤ toll
      → AllTold price Ends left (toll - one) (path ++ context ∷ []) before)
      → (¬ (at ≡ first) → (one : ℕ) → price path at ≡ Some one → one ≤ toll
      → AllTold price Ends left (toll - one) (path ++ at ∷ []) now)
      → (context one : ℕ) → context ≤ at → ¬ (context ≡ first)
      → price path context ≡ Some one → one ≤ toll
      → AllTold price Ends left (toll - one) (path ++ context ∷ []) now
  one_more left toll path before now after at first next keeps old new context one within other costs fits =
      elim (cases_eq context at) [
        | inl same ↦
            let here : price path at ≡ Some one = ap (price path) (sym same) ∙ costs in
            subst (λ (c : ℕ). AllTold price Ends left (toll - one) (path ++ c ∷ []) now)
            (sym same) (new (λ is. other (same ∙ is)) one here fits)
        | inr differs ↦ elim (cases_lt after context) [
          | inl above ↦
              let less : context < at = omega (arith, within, differs) in
              absurd (none_some (sym (next.least context above less) ∙ costs))
          | inr below ↦ λ more goes whole.
              keeps _ (old context one below other costs fits more goes whole)
        ]
      ]

  -- behind the step of the context at hand all was told
  pub told_here : (left toll : ℕ) (path next : List ℕ) (told : List (E × Told S))
      (at paid one : ℕ) → next ≡ path ++ at ∷ [] → price path at ≡ Some paid
      → AllTold price Ends left (toll - paid) next told → price path at ≡ Some one
      → AllTold price Ends left (toll - one) (path ++ at ∷ []) told
  told_here left toll path next told at paid one is costs all here =
      let equal : Some paid ≡ Some one = sym costs ∙ here in
      let same : paid ≡ one = cc in
      subst (λ (n : ℕ). AllTold price Ends left (toll - n) (path ++ at ∷ []) told) same
      (subst (λ (p : List ℕ). AllTold price Ends left (toll - paid) p told) is all)

  -- ---- a round

  -- the schedules of one price more are told
  pub one_price_more : (steps at : ℕ) (path : List ℕ) (before now : List (E × Told S))
      → path ≡ [] → EveryEnding price Ends steps at before → Keeps Ends before now
      → AllTold price Ends steps at path now → EveryEnding price Ends steps (at + 1) now
  one_price_more steps at path before now start every keeps all schedule is less =
      elim (cases_eq (cost price [] schedule) at) [
        | inl same ↦
            subst (λ (p : List ℕ). AllTold price Ends steps at p now) start all schedule
            (subst (λ (n : ℕ). Costs price n [] schedule) same
            (costs_when price [] schedule is.proper)) is.whole
        | inr differs ↦ keeps schedule (every schedule is (omega (arith, less, differs)))
      ]

  pub told_same : (Makes : S → (path : List ℕ) → Type 0) (steps steps' at at' : ℕ) (told : List (E × Told S))
      → steps ≡ steps' → at ≡ at' → AreTold price Ends Makes steps at told
      → AreTold price Ends Makes steps' at' told
  told_same Makes steps steps' at at' told one two are =
      subst (λ (n : ℕ). AreTold price Ends Makes n at' told) one
      (subst (λ (n : ℕ). AreTold price Ends Makes steps n told) two are)

  pub told_entries : (Makes : S → (path : List ℕ) → Type 0) (steps at : ℕ) (told told' : List (E × Told S))
      → told ≡ told' → AreTold price Ends Makes steps at told
      → AreTold price Ends Makes steps at told'
  told_entries Makes steps at told told' same are =
      subst (AreTold price Ends Makes steps at) same are

  -- ---- a run's ending

  module _ (eq : E → E → Bool) (equal : (schedule : List ℕ) (a b : E) → Ends schedule a
      → Ends schedule b ↔ (eq a b ≡ true)) (Makes : S → (path : List ℕ) → Type 0) where
    -- none that is cheaper ends so
    pub none_cheaper : (steps at : ℕ) (old : List (E × Told S)) (ending : E)
        → EveryEnding price Ends steps at old
        → ((told : E × Told S) → Contains old told → eq ending told.0 ≡ false)
        → (other : List ℕ) → IsSchedule price steps other → Ends other ending
        → at ≤ cost price [] other
    none_cheaper steps at old ending every none other is ends =
        elim (cases_lt (cost price [] other) at) [
          | inl less ↦
              let some = every other is less in
              absurd (true≢false (sym ((equal other ending some.1.0 ends).0 some.4)
              ∙ none some.1 (among_of _ old some)))
          | inr fits ↦ fits
        ]

    pub added_told : (steps at left : ℕ) (path : List ℕ) (old new : List (E × Told S))
        (one : E × Told S) → AreTold price Ends Makes steps at old
        → AddsEnding eq old one new → one.1.price ≡ at
        → IsOnWay price steps at path left 0
        → IsEnd price Ends Makes left path one.0 one.1.schedule
        → AreTold price Ends Makes steps at new
    added_told steps at left path old new one told (inl same) costs way end =
        subst (AreTold price Ends Makes steps at) (sym same.0) told
    added_told steps at left path old new one told (inr added) costs way end =
        record {
          each = subst (All (IsTold price Ends Makes steps)) (sym added.0)
              (All-push (IsTold price Ends Makes steps) old one told.each
              (record {
                path = end.whole;
                makes = end.makes;
                schedule = is_schedule price steps at left path end.whole way end.goes;
                ends = end.ends;
                costs = costs_at price steps at left path end.whole way end.goes ∙ sym costs;
                least = λ other is ends.
                    subst (λ (n : ℕ). n ≤ cost price [] other) (sym costs)
                    (none_cheaper steps at old one.0 told.cheaper added.1 other is ends);
              }));
          cheaper = λ schedule is less. added_keeps Ends eq equal old new one (inr added) schedule
              (told.cheaper schedule is less);
        }
