-- A schedule of ordinary steps, as a search sees it.
use Rattle.std.proofs.Common.{◌≡◌, ℕ, ◌<◌, ◌≤◌, Bool, true, false, Option, None, List, [], ◌∷◌, ◌++◌, length, inl, inr, refl, sym, ◌∙◌, ap, subst, arith}
use Rattle.std.specs.Prelude.{◌&&◌, IsSome, Any, map, unwrap_or}
use Rattle.ps_language.specs.declared.schedules.Entry.{Entry}
use Rattle.ps_language.specs.Locks.{is_ready}
use Rattle.ps_language.specs.Schedules.{Move, count_of, moves, plain_move}
use Rattle.ps_language.specs.World.{World}
use Rattle.ps_language.specs.Worlds.{after_move, after_moves, all_ready, starting_world, world, IsProper}
use Rattle.ps_language.proofs.WorldLaws.{after_moves-append}
use Rattle.ps_run_schedules.specs.Keeping.{Kept}
use Rattle.ps_searches.specs.declared.found.Told.{Told}
use Rattle.ps_searches.specs.Searches as searches
use Rattle.ps_searches.specs.Searches.{IsSchedule}
use Rattle.ps_cuts.specs.Cuts.{AllPlain, EveryEnding, IsOrder, IsWhole, cut_by, cuts, cuts_behind, due, price, steps_by}
use Rattle.ps_cuts.specs.declared.endings.Ending.{Ending}
use Rattle.ps_cuts.specs.Runs.{EndsAsTold, EndsBy, EndsLike, IsToldOf, contexts_of}
use Rattle.ps_cuts.proofs.Batches.{and_left, and_right, plain_back, steps_back}
use Rattle.ps_cuts.proofs.Whose.{can_ready, price_ready, price_unready, steps_by-append}

pub steps-length : (path : List ℕ) → length (steps_by path) ≡ length path
steps-length [] = refl
steps-length (one ∷ path) = let rest = steps-length path in omega (arith, rest)

module _ (program : List ℕ) where
  -- one step on
  pub further : (path : List ℕ) (one : ℕ)
      → after_moves (starting_world program) (steps_by (path ++ one ∷ []))
      ≡ after_move (after_moves (starting_world program) (steps_by path)) (plain_move one)
  unfolding after_moves
  further path one =
      ap (after_moves (starting_world program)) (steps_by-append path (one ∷ []))
      ∙ after_moves-append (starting_world program) (steps_by path) (plain_move one ∷ [])

  can_price : (path : List ℕ) (one : ℕ)
      → is_ready (after_moves (starting_world program) (steps_by path)) one ≡ true
      → IsSome (price program path one)
  can_price path one ready = subst IsSome (sym (price_ready program path one ready)) refl

  -- ---- proper schedules

  pub proper_there : (path more : List ℕ)
      → all_ready (after_moves (starting_world program) (steps_by path)) (steps_by more) ≡ true
      → searches.IsProper (price program) path more
  proper_there path [] ready = tt
  proper_there path (one ∷ more) ready = (
    can_price path one (and_left _ _ ready),
    proper_there (path ++ one ∷ []) more
        (ap (λ (w : World). all_ready w (steps_by more)) (further path one)
        ∙ and_right _ _ ready),
  )

  both : (a b : Bool) → a ≡ true → b ≡ true → (a && b) ≡ true
  both true b one other = other
  both false b one other = one

  pub proper_back : (path more : List ℕ) → searches.IsProper (price program) path more
      → all_ready (after_moves (starting_world program) (steps_by path)) (steps_by more) ≡ true
  proper_back path [] proper = refl
  proper_back path (one ∷ more) proper =
      both _ _ (can_ready program path one proper.0)
      (ap (λ (w : World). all_ready w (steps_by more)) (sym (further path one))
      ∙ proper_back (path ++ one ∷ []) more proper.1)

  -- ---- what they cost

  pub cost_is : (path more : List ℕ)
      → all_ready (after_moves (starting_world program) (steps_by path)) (steps_by more) ≡ true
      → searches.cost (price program) path more
      ≡ cuts_behind (starting_world program) (steps_by path) (steps_by more)
  unfolding cuts_behind
  cost_is path [] ready = refl
  cost_is path (one ∷ more) ready =
      let start = starting_world program in
      let here : unwrap_or (price program path one) 0 ≡ cut_by (due start (steps_by path)) one =
      ap (λ (found : Option ℕ). unwrap_or found 0)
      (price_ready program path one (and_left _ _ ready)) in
      let rest : searches.cost (price program) (path ++ one ∷ []) more
      ≡ cuts_behind start (steps_by path ++ plain_move one ∷ []) (steps_by more) =
      cost_is (path ++ one ∷ []) more
      (ap (λ (w : World). all_ready w (steps_by more)) (further path one)
      ∙ and_right _ _ ready)
      ∙ ap (λ (made : List Move). cuts_behind start made (steps_by more))
      (steps_by-append path (one ∷ [])) in
      omega (arith, here, rest)

  -- ---- in a user's words

  module _ (schedule : List Entry) (plain : AllPlain (moves schedule)) where
    pub world_there : after_moves (starting_world program) (steps_by (contexts_of schedule))
        ≡ world program schedule
    unfolding world
    world_there = ap (after_moves (starting_world program)) (steps_back schedule plain)

    pub count_there : length (contexts_of schedule) ≡ count_of schedule
    unfolding count_of
    count_there =
        sym (steps-length (contexts_of schedule))
        ∙ ap {B = ℕ} (λ (ms : List Move). length ms) (steps_back schedule plain)

    pub ready_all : IsProper program schedule
        → all_ready (starting_world program) (steps_by (contexts_of schedule)) ≡ true
    unfolding IsProper
    ready_all proper =
        ap (all_ready (starting_world program)) (steps_back schedule plain) ∙ proper

    pub cuts_there : IsProper program schedule
        → searches.cost (price program) [] (contexts_of schedule) ≡ cuts program (moves schedule)
    unfolding after_moves
    cuts_there proper =
        cost_is [] (contexts_of schedule) (ready_all proper)
        ∙ ap (cuts_behind (starting_world program) []) (steps_back schedule plain)

  pub is_schedule : (steps : ℕ) (schedule : List Entry) → IsOrder program steps schedule
      → IsSchedule (price program) steps (contexts_of schedule)
  unfolding after_moves
  is_schedule steps schedule order = record {
    proper = proper_there [] (contexts_of schedule) (ready_all schedule order.plain order.proper);
    whole = by order.whole;
  }
    where
      count : length (contexts_of schedule) ≡ count_of schedule
      count = count_there schedule order.plain

      by : IsWhole program steps schedule
          → searches.IsWhole (price program) steps [] (contexts_of schedule)
      by (inl all) = inl (count ∙ all)
      by (inr over) = inr (
        subst (λ (n : ℕ). n ≤ steps) (sym count) over.0,
        λ context. price_unready program (contexts_of schedule) context
            (ap (λ (w : World). is_ready w context) (world_there schedule order.plain)
            ∙ over.1 context),
      )

  pub can_not : (path : List ℕ) (context : ℕ) (ready : Bool)
      → is_ready (after_moves (starting_world program) (steps_by path)) context ≡ ready
      → price program path context ≡ None → ready ≡ false
  can_not path context true is none =
      let some = price_ready program path context is in absurd (let same = sym none ∙ some in cc)
  can_not path context false is none = refl

  pub is_order : (steps : ℕ) (schedule : List Entry) → AllPlain (moves schedule)
      → IsSchedule (price program) steps (contexts_of schedule)
      → IsOrder program steps schedule
  unfolding after_moves IsProper
  is_order steps schedule plain is = record {
    proper = ap (all_ready (starting_world program)) (sym (steps_back schedule plain))
        ∙ proper_back [] (contexts_of schedule) is.proper;
    plain = plain;
    whole = by is.whole;
  }
    where
      by : searches.IsWhole (price program) steps [] (contexts_of schedule)
          → IsWhole program steps schedule
      by (inl all) = inl (sym (count_there schedule plain) ∙ all)
      by (inr over) = inr (
        subst (λ (n : ℕ). n ≤ steps) (count_there schedule plain) over.0,
        λ context. ap (λ (w : World). is_ready w context) (sym (world_there schedule plain))
            ∙ can_not (contexts_of schedule) context _ refl (over.1 context),
      )

  -- ---- what a search tells

  pub every_order : (steps below : ℕ) (told : List (Ending × Told Kept))
      → searches.EveryEnding (price program) (EndsBy program) steps below told
      → (limit : ℕ) → limit < below → EveryEnding EndsAsTold program steps limit told
  every_order steps below told every limit within schedule order few =
      let costs = cuts_there schedule order.plain order.proper in
      subst (λ (w : World). Any (λ (one : Ending × Told Kept). EndsLike w one.0) told)
      (world_there schedule order.plain)
      (every (contexts_of schedule) (is_schedule steps schedule order)
      (omega (arith, costs, few, within)))

  pub contexts_by : (path : List ℕ) → map (λ (move : Move). move.context) (steps_by path) ≡ path
  contexts_by [] = refl
  contexts_by (one ∷ path) = ap (λ (cs : List ℕ). one ∷ cs) (contexts_by path)

  pub each_order : (steps : ℕ) (told : Ending × Told Kept)
      → searches.IsTold (price program) (EndsBy program)
      (λ (schedule : Kept) (path : List ℕ). moves schedule.items ≡ steps_by path) steps told
      → IsToldOf program steps told
  unfolding world
  each_order steps told is =
      let items = told.1.schedule.items in
      let plain = plain_back (moves items) is.path is.makes in
      let path : is.path ≡ contexts_of items =
      sym (ap (map (λ (move : Move). move.context)) is.makes ∙ contexts_by is.path) in
      let order = is_order steps items plain
      (subst (IsSchedule (price program) steps) path is.schedule) in
      record {
        order = order;
        ends = subst (λ (ms : List Move). EndsLike (after_moves (starting_world program) ms) told.0)
            (sym is.makes) is.ends;
        costs = sym (cuts_there items plain order.proper)
            ∙ (ap (searches.cost (price program) []) (sym path) ∙ is.costs);
        least = λ other its ends.
            subst (λ (n : ℕ). told.1.price ≤ n) (cuts_there other its.plain its.proper)
            (is.least (contexts_of other) (is_schedule steps other its)
            (subst (λ (w : World). EndsLike w told.0) (sym (world_there other its.plain)) ends));
      }
