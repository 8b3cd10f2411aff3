-- What is drawn of one step more.
use Rattle.std.proofs.Common.{◌≡◌, ◌∙◌, ap, sym, refl, subst, ℕ, zero, suc, ◌+◌, ◌<◌, ◌≤◌, Bool, true, false, List, [], ◌∷◌, ◌++◌, Option, Some, None, length, max, take, arith, append_assoc, inl, inr}
use Rattle.std.specs.Prelude.{◌⊎◌, ◌≢◌, ◌==◌, ◌&&◌, replicate, slice_get, if◌then◌else◌}
use Rattle.std.proofs.Math.ListN.{set}
use Rattle.std.specs.Option.{option_map_or}
use Rattle.std.proofs.lemmas.Bool.Decides.{eqb_tells}
use Rattle.std.proofs.lemmas.List.{append-nil}
use Rattle.std.proofs.lemmas.Option.{slice_get_past, slice_get_within}
use Rattle.ps_language.specs.Contexts.{context_at, context_in}
use Rattle.ps_language.specs.Locks.{is_ready, is_ready_as}
use Rattle.ps_language.specs.Schedules.{Move}
use Rattle.ps_language.specs.World.{Context, World}
use Rattle.ps_states.specs.declared.moments.StepEnd.{StepEnd}
use Rattle.ps_states.specs.Moments.{error_text, has_any, is_by, moment_by, moment_of, state_in}
use Rattle.ps_states.specs.States.{locks_of}
use Rattle.ps_timelines.specs.declared.lanes.Lane.{Lane}
use Rattle.ps_timelines.specs.declared.moments.State.TheVariants.{Away}
use Rattle.ps_timelines.specs.declared.moments.Moment.{Moment}
use Rattle.ps_timelines.specs.Moments.{Label, Show, away, labels_in}
use Rattle.ps_walks.specs.Drawings.{IsFresh}
use Rattle.ps_walks.specs.Timelines.{AreLanes, IsLane, each_step, end_in, ever_made, labels_by, labels_of, moment_in, moments_of}
use Rattle.ps_walks.specs.Walks.{walked, walked_all, without_lines}

-- ---- step after step

module _ {A : Type 0} (told : ℕ → World → Move → List A) where
  pub each_none : (past : ℕ) (now : World) → each_step told past now [] ≡ []
  unfolding each_step
  each_none past now = refl

  each_from : (past : ℕ) (now : World) (done : List Move) (move : Move)
      → each_step told past now (done ++ move ∷ [])
      ≡ each_step told past now done ++ told (past + length done) (walked_all now done) move
  unfolding each_step walked_all
  each_from past now [] move =
      let here : past ≡ past + 0 = omega arith in
      append-nil (told past now move) ∙ ap (λ n. told n now move) here
  each_from past now (first ∷ done) move =
      let next : suc past + length done ≡ past + suc (length done) = omega arith in
      ap (λ l. told past now first ++ l)
      (each_from (suc past) (walked now first) done move
      ∙ ap (λ n. each_step told (suc past) (walked now first) done
      ++ told n (walked_all (walked now first) done) move) next)
      ∙ sym (append_assoc (told past now first) (each_step told (suc past) (walked now first) done)
      (told (past + suc (length done)) (walked_all (walked now first) done) move))

  -- from the first on
  pub each_more : (start : World) (done : List Move) (move : Move) (step : ℕ) → length done ≡ step
      → each_step told 0 start (done ++ move ∷ [])
      ≡ each_step told 0 start done ++ told step (walked_all start done) move
  each_more start done move step count =
      let same : 0 + length done ≡ step = omega (arith, count) in
      each_from 0 start done move
      ∙ ap (λ n. each_step told 0 start done ++ told n (walked_all start done) move) same

single_count : (f : World → Move → Moment) (past : ℕ) (now : World) (done : List Move)
    → length (each_step (λ past now move. f now move ∷ []) past now done) ≡ length done
unfolding each_step
single_count f past now [] = refl
single_count f past now (move ∷ done) = ap suc (single_count f (suc past) (walked now move) done)

-- as many moments as steps
pub moments_count : (start : World) (done : List Move) (step context : ℕ) → length done ≡ step
    → length (moments_of start done context) ≡ step
moments_count start done step context count =
    single_count (λ now move. moment_in now move context) 0 start done ∙ count

-- ---- how many contexts were made

pub ever_none : (now : World) → ever_made now [] ≡ length now.contexts
unfolding ever_made
ever_none now = refl

pub ever_more : (now : World) (done : List Move) (move : Move)
    → ever_made now (done ++ move ∷ [])
    ≡ max (ever_made now done) (length (walked (walked_all now done) move).contexts)
unfolding ever_made walked_all
ever_more now [] move = refl
ever_more now (first ∷ done) move =
    let rest = ever_more (walked now first) done move in
    omega (arith, rest)

-- ---- a context that isn't made yet

none_there : (w : World) (place : ℕ) → length w.contexts ≤ place → context_at w (suc place) ≡ None
unfolding context_at
none_there w place beyond = ap context_in (slice_get_past w.contexts place beyond)

unready : (w : World) (place : ℕ) → length w.contexts ≤ place → is_ready w (suc place) ≡ false
unfolding is_ready
unready w place beyond = ap (λ (found : Option Context). option_map_or
    (λ (there : Context). is_ready_as there.status (suc place) there w) found false)
    (none_there w place beyond)

not_by : (w : World) (place mover : ℕ) → length w.contexts ≤ place
    → (is_ready w mover && (mover == suc place)) ≡ false
not_by w place mover beyond = elim (eqb_tells mover (suc place)) [
  | inl same ↦ ap (λ (b : Bool). b && (mover == suc place))
      (ap (is_ready w) same.1 ∙ unready w place beyond)
  | inr other ↦ ap (λ (b : Bool). is_ready w mover && b) other.0 ∙ and_false (is_ready w mover)
]
  where
    and_false : (b : Bool) → (b && false) ≡ false
    and_false true = refl
    and_false false = refl

away_by : (end : StepEnd) (after : World) (place : ℕ) → is_by end (suc place) ≡ false
    → length after.contexts ≤ place → moment_of end after (suc place) ≡ away
unfolding moment_of
away_by end after place other beyond =
    ap (λ (b : Bool). moment_by b end after (suc place)) other
    ∙ ap by_found (none_there after place beyond)
  where
    by_found : Option Context → Moment
    by_found found = record {
      state = option_map_or (state_in after (suc place)) found Away;
      owner = has_any (option_map_or (locks_of after.store (suc place)) found []);
      prints = false;
      fails = false;
    }

away_in : (now : World) (move : Move) (place : ℕ) → length now.contexts ≤ place
    → length (walked now move).contexts ≤ place → moment_in now move (suc place) ≡ away
away_in now move place before beyond = away_by (end_in now move) (walked now move) place
    (not_by (without_lines now) place move.context before) beyond

ever_least : (now : World) (done : List Move) → length now.contexts ≤ ever_made now done
unfolding ever_made
ever_least now [] = omega arith
ever_least now (move ∷ done) = omega arith

ever_next : (now : World) (move : Move) (done : List Move) (place : ℕ)
    → ever_made now (move ∷ done) ≤ place → ever_made (walked now move) done ≤ place
unfolding ever_made
ever_next now move done place beyond = omega (arith, beyond)

module _ (place : ℕ) where
  blank_from : (past : ℕ) (now : World) (done : List Move) → ever_made now done ≤ place
      → each_step (λ past now move. moment_in now move (suc place) ∷ []) past now done
      ≡ replicate (length done) away
  unfolding each_step
  blank_from past now [] beyond = refl
  blank_from past now (move ∷ done) beyond =
      let later = ever_next now move done place beyond in
      let here : length now.contexts ≤ place = omega (arith, ever_least now (move ∷ done), beyond) in
      let behind : length (walked now move).contexts ≤ place =
      omega (arith, ever_least (walked now move) done, later) in
      ap (λ m. m ∷ each_step (λ past now move. moment_in now move (suc place) ∷ []) (suc past)
      (walked now move) done) (away_in now move place here behind)
      ∙ ap (λ l. away ∷ l) (blank_from (suc past) (walked now move) done later)

  untold_from : (past : ℕ) (now : World) (done : List Move) → ever_made now done ≤ place
      → each_step (λ past now move.
      labels_by (moment_in now move (suc place)) past (walked now move) (suc place)) past now done ≡ []
  unfolding each_step
  untold_from past now [] beyond = refl
  untold_from past now (move ∷ done) beyond =
      let later = ever_next now move done place beyond in
      let here : length now.contexts ≤ place = omega (arith, ever_least now (move ∷ done), beyond) in
      let behind : length (walked now move).contexts ≤ place =
      omega (arith, ever_least (walked now move) done, later) in
      ap (λ m. labels_by m past (walked now move) (suc place) ++ each_step (λ past now move.
      labels_by (moment_in now move (suc place)) past (walked now move) (suc place)) (suc past)
      (walked now move) done) (away_in now move place here behind)
      ∙ untold_from (suc past) (walked now move) done later

  -- it did nothing so far
  pub blank : (start : World) (done : List Move) → ever_made start done ≤ place
      → moments_of start done (suc place) ≡ replicate (length done) away
  blank start done beyond = blank_from 0 start done beyond

  pub untold : (start : World) (done : List Move) → ever_made start done ≤ place
      → labels_of start done (suc place) ≡ []
  untold start done beyond = untold_from 0 start done beyond

-- nor did any before the first step
pub none_done : (start : World) (place : ℕ) → moments_of start [] (suc place) ≡ replicate 0 away
unfolding each_step
none_done start place = refl

pub none_untold : (start : World) (place : ℕ) → labels_of start [] (suc place) ≡ []
unfolding each_step
none_untold start place = refl

-- ---- lanes

pub lanes_same : (f g : ℕ → List Moment) (a b : ℕ → List Label) (lanes : List Lane)
    → ((context : ℕ) → f context ≡ g context) → ((context : ℕ) → a context ≡ b context)
    → AreLanes f a lanes → AreLanes g b lanes
unfolding AreLanes
lanes_same f g a b lanes moments labels are = λ place lane at.
    let is = are place lane at in
    record {
      context = is.context;
      intervals = subst (Show lane.intervals) (moments (suc place)) is.intervals;
      labels = is.labels ∙ ap (take 4) (labels (suc place));
    }

-- those that did nothing are added
pub lanes_grown : (f : ℕ → List Moment) (a : ℕ → List Label) (steps : ℕ) (old new : List Lane)
    → ((place : ℕ) → length old ≤ place → f (suc place) ≡ replicate steps away)
    → ((place : ℕ) → length old ≤ place → a (suc place) ≡ [])
    → ((place : ℕ) (lane : Lane) → slice_get new place ≡ Some lane
    → (slice_get old place ≡ Some lane) ⊎ ((length old ≤ place) × IsFresh (suc place) lane))
    → AreLanes f a old → AreLanes f a new
unfolding AreLanes
lanes_grown f a steps old new none untold grown are = λ place lane at. elim (grown place lane at) [
  | inl before ↦ are place lane before
  | inr fresh ↦ record {
    context = fresh.1.context;
    intervals = subst (Show lane.intervals) (sym (none place fresh.0)) (fresh.1.intervals steps);
    labels = fresh.1.labels ∙ ap (take 4) (sym (untold place fresh.0));
  }
]

pub no_lanes : (f : ℕ → List Moment) (a : ℕ → List Label) (lanes : List Lane) → lanes ≡ []
    → AreLanes f a lanes
unfolding AreLanes
no_lanes f a lanes none = λ place lane at.
    let size : length lanes ≡ 0 = ap length none in
    absurd (omega (arith, size, slice_get_within lanes place lane at))

pub of_lanes : (f : ℕ → List Moment) (a : ℕ → List Label) (lanes : List Lane) → AreLanes f a lanes
    → (place : ℕ) (lane : Lane) → slice_get lanes place ≡ Some lane
    → IsLane (suc place) (f (suc place)) (a (suc place)) lane
unfolding AreLanes
of_lanes f a lanes are = are

pub as_lanes : (f : ℕ → List Moment) (a : ℕ → List Label) (lanes : List Lane)
    → ((place : ℕ) (lane : Lane) → slice_get lanes place ≡ Some lane
    → IsLane (suc place) (f (suc place)) (a (suc place)) lane) → AreLanes f a lanes
unfolding AreLanes
as_lanes f a lanes are = are

-- one that is written, and the others
pub set_here : (lanes : List Lane) (place : ℕ) (new lane : Lane) → place < length lanes
    → slice_get (set lanes place new) place ≡ Some lane → new ≡ lane
set_here [] place new lane within at = absurd (omega (arith, within))
set_here (first ∷ rest) zero new lane within at = cc
set_here (first ∷ rest) (suc place) new lane within at =
    set_here rest place new lane (omega (arith, within)) at

pub set_there : (lanes : List Lane) (place other : ℕ) (new : Lane) → other ≢ place
    → slice_get (set lanes place new) other ≡ slice_get lanes other
set_there [] place other new apart = refl
set_there (first ∷ rest) zero zero new apart = absurd (apart refl)
set_there (first ∷ rest) zero (suc other) new apart = refl
set_there (first ∷ rest) (suc place) zero new apart = refl
set_there (first ∷ rest) (suc place) (suc other) new apart =
    set_there rest place other new (λ is. apart (ap suc is))

-- a step is noted in one lane
module _ (context step : ℕ) (w : World) (moments : List Moment) (labels : List Label)
    (moment : Moment) where
  pub noted_quiet : (given : Moment) (old new : Lane) → given ≡ moment → given.fails ≡ false
      → IsLane context moments labels old → new.context ≡ old.context
      → Show new.intervals (moments ++ given ∷ []) → new.labels ≡ old.labels
      → IsLane context (moments ++ moment ∷ []) (labels ++ labels_by moment step w context) new
  noted_quiet given old new is quiet was same shows kept =
      let none : labels_by moment step w context ≡ [] = ap (λ m. labels_by m step w context) (sym is)
      ∙ ap (λ (b : Bool). if b then record { step = step; text = error_text w context } ∷ [] else [])
      quiet in
      record {
        context = same ∙ was.context;
        intervals = subst (λ m. Show new.intervals (moments ++ m ∷ [])) is shows;
        labels = ap (λ l. labels_in l.items) kept ∙ was.labels
            ∙ ap (take 4) (sym (append-nil labels) ∙ ap (λ l. labels ++ l) (sym none));
      }

  pub noted_error : (given : Moment) (new : Lane) (text : List ℕ) → given ≡ moment
      → given.fails ≡ true → text ≡ error_text w context → new.context ≡ context
      → Show new.intervals (moments ++ given ∷ [])
      → labels_in new.labels.items ≡ take 4 (labels ++ record { step = step; text = text } ∷ [])
      → IsLane context (moments ++ moment ∷ []) (labels ++ labels_by moment step w context) new
  noted_error given new text is fails told at shows kept =
      let one : Label = record { step = step; text = error_text w context } in
      let some : labels_by moment step w context ≡ one ∷ [] =
      ap (λ m. labels_by m step w context) (sym is)
      ∙ ap (λ (b : Bool). if b then one ∷ [] else []) fails in
      record {
        context = at;
        intervals = subst (λ m. Show new.intervals (moments ++ m ∷ [])) is shows;
        labels = kept ∙ ap (take 4)
            (ap (λ t. labels ++ record { step = step; text = t } ∷ []) told
            ∙ ap (λ l. labels ++ l) (sym some));
      }
