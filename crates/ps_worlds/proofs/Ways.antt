-- Schedules of ordinary steps, as a search sees them.
use Rattle.std.proofs.Common.{◌≡◌, ◌≤◌, ℕ, Bool, true, List, [], length, refl, sym, ap, subst, ◌∙◌}
use Rattle.std.specs.Prelude.{Any, IsSome, map}
use Rattle.ps_language.specs.declared.schedules.Entry.{Entry}
use Rattle.ps_language.specs.Locks.{is_ready}
use Rattle.ps_language.specs.Schedules.{Move, count_of, moves}
use Rattle.ps_language.specs.World.{World}
use Rattle.ps_language.specs.Worlds.{after_moves, all_ready, starting_world, IsProper}
use Rattle.ps_run_schedules.specs.Keeping.{Kept}
use Rattle.ps_searches.specs.Searches as searches
use Rattle.ps_searches.specs.Searches.{IsNextAbove, IsOver}
use Rattle.ps_searches.specs.Graphs.{AreWorlds, EveryEnd, IsEndOf, IsKept}
use Rattle.ps_vault.specs.Order.{IsLeastAbove, IsNoneAbove}
use Rattle.ps_cuts.specs.Cuts.{price, steps_by}
use Rattle.ps_cuts.specs.declared.endings.Ending.{Ending}
use Rattle.ps_cuts.specs.Runs.{EndsBy, EndsLike, contexts_of}
use Rattle.ps_cuts.proofs.Batches.{plain_back}
use Rattle.ps_cuts.proofs.Orders.{can_not, contexts_by, count_there, proper_back, proper_there, ready_all}
use Rattle.ps_cuts.proofs.Whose.{price_ready, price_unready}
use Rattle.ps_worlds.specs.declared.images.Image.{Image}
use Rattle.ps_worlds.specs.Runs.{IsImage, MakesPath, world_by}
use Rattle.ps_worlds.specs.Worlds.{AreCounted, EveryWayEnds, IsToldOf, IsWay, IsWholeWay}
use Rattle.ps_worlds.proofs.Following.{world_there}

-- that of its contexts
pub path_is : (items : List Entry) (path : List ℕ) → moves items ≡ steps_by path
    → contexts_of items ≡ path
path_is items path makes =
    ap (map (λ (move : Move). move.context)) makes ∙ contexts_by [] path

module _ (program : List ℕ) where
  -- ---- proper schedules

  pub way_of : (items : List Entry) (path : List ℕ) → moves items ≡ steps_by path
      → searches.IsProper (price program) [] path → IsWay program items
  unfolding after_moves IsProper
  way_of items path makes proper = record {
    proper = ap (all_ready (starting_world program)) makes ∙ proper_back program [] path proper;
    plain = plain_back (moves items) path makes;
  }

  pub kept_way : (first : List ℕ) (kept : Image × Kept)
      → IsKept (price program) (IsImage program first) MakesPath
      (λ (schedule : Kept). count_of schedule.items) kept → IsWay program kept.1.items
  kept_way first kept is = way_of kept.1.items is.path is.makes is.proper

  pub path_proper : (items : List Entry) → IsWay program items
      → searches.IsProper (price program) [] (contexts_of items)
  unfolding after_moves
  path_proper items way =
      proper_there program [] (contexts_of items) (ready_all program items way.plain way.proper)

  -- ---- who is ready

  pub can_step : (path : List ℕ) (context : ℕ) → is_ready (world_by program path) context ≡ true
      → IsSome (price program path context)
  can_step path context ready = subst IsSome (sym (price_ready program path context ready)) refl

  pub next_above : (path : List ℕ) (after next : ℕ)
      → IsLeastAbove (world_by program path) after next
      → IsNextAbove (price program) path after next
  next_above path after next least = record {
    above = least.above;
    can = can_step path next least.ready;
    least = λ k over under. price_unready program path k (least.least k over under);
  }

  pub none_above : (path : List ℕ) (after : ℕ) → IsNoneAbove (world_by program path) after
      → searches.IsNoneAbove (price program) path after
  none_above path after none k above = price_unready program path k (none k above)

  -- ---- schedules to the end

  pub whole_path : (items : List Entry) → IsWholeWay program items
      → IsOver (price program) (contexts_of items)
  whole_path items whole context =
      price_unready program (contexts_of items) context
      (ap (λ (w : World). is_ready w context)
      (world_there program items whole.way.plain) ∙ whole.over context)

  pub whole_way : (items : List Entry) → IsWay program items
      → IsOver (price program) (contexts_of items) → IsWholeWay program items
  whole_way items way over = record {
    way = way;
    over = λ context.
        ap (λ (w : World). is_ready w context) (sym (world_there program items way.plain))
        ∙ can_not program (contexts_of items) context _ refl (over context);
  }

  -- ---- what a search tells

  pub every_way : (told : List (Ending × Kept)) → EveryEnd (price program) (EndsBy program) told
      → EveryWayEnds program told
  every_way told every items whole =
      subst (λ (w : World). Any (λ (one : Ending × Kept). EndsLike w one.0) told)
      (world_there program items whole.way.plain)
      (every (contexts_of items) (path_proper items whole.way) (whole_path items whole))

  pub each_way : (told : Ending × Kept)
      → IsEndOf (price program) (EndsBy program) MakesPath told → IsToldOf program told
  each_way told is =
      let items = told.1.items in
      let path : is.path ≡ contexts_of items = sym (path_is items is.path is.makes) in
      let way = way_of items is.path is.makes is.proper in
      record {
        way = whole_way items way (subst (IsOver (price program)) path is.over);
        ends = subst (λ (w : World). EndsLike w told.0)
            (ap (world_by program) path ∙ world_there program items way.plain) is.ends;
        least = λ other its ends.
            let long = count_there program items way.plain in
            let many = count_there program other its.way.plain in
            let least = is.least (contexts_of other) (path_proper other its.way)
            (whole_path other its)
            (subst (λ (w : World). EndsLike w told.0)
            (sym (world_there program other its.way.plain)) ends) in
            subst (λ (n : ℕ). n ≤ count_of other)
            (ap {B = ℕ} length path ∙ long)
            (subst (λ (n : ℕ). length is.path ≤ n) many least);
      }

-- the worlds that were counted are so of an equal program
pub counted_as : (eq : Image → Image → Bool) (p q first : List ℕ) (worlds total : ℕ)
    (all : Type 0) → p ≡ q
    → AreWorlds (price p) (IsImage p first) MakesPath
    (λ (schedule : Kept). count_of schedule.items) eq worlds total all
    → AreCounted eq q worlds total all
counted_as eq p q first worlds total all same are = record {
  first = first;
  are = subst (λ (program : List ℕ). AreWorlds (price program) (IsImage program first)
      MakesPath (λ (schedule : Kept). count_of schedule.items) eq worlds total all) same are;
}
