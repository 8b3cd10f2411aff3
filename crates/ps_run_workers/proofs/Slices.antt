-- A run that stands, from slice to slice.
use Rattle.std.proofs.Common.{◌≡◌, ℕ, ◌+◌, ◌-◌, ◌<◌, ◌≤◌, ◌^◌, ◌==◌, true, false, List, [], Option, Some, None, refl, sym, ap, ◌∙◌, subst, arith}
use Rattle.std.specs.Prelude.{IfSome, min}
use Rattle.ps_language.specs.declared.schedules.Entry.{Entry}
use Rattle.ps_language.specs.Effect.{Around, Scene}
use Rattle.ps_language.specs.Schedules.{Begins, count_of, is_longest, moves}
use Rattle.ps_language.specs.World.{Status}
use Rattle.ps_language.specs.Worlds.{IsProper, printed, world}
use Rattle.ps_ops_state.specs.Acts.{Asked}
use Rattle.ps_mem.specs.Bounded.{bounded_space}
use Rattle.ps_mem.specs.Heap.{Heap, Grants}
use Rattle.ps_run_schedules.specs.Keeping.{Kept}
use Rattle.ps_vault.specs.declared.reports.Config.{Config}
use Rattle.ps_vault.specs.declared.reports.Outcome.{Outcome}
use Rattle.ps_vault.specs.declared.reports.Report.{Report}
use Rattle.ps_vault.specs.declared.reports.TheConstants.{FIRST_ENTRIES}
use Rattle.ps_vault.specs.Parking.{IsParked, story_of}
use Rattle.ps_vault.specs.Reports.{all_fit, bounds_of, EndsAs, IsOneStarved, IsRunIn}
use Rattle.ps_vault.specs.Screens.{Sight}
use Rattle.ps_vault.specs.Stories.{Story, kept_of, world_at}
use Rattle.ps_vault.specs.Warrants.{AllWarranted}
use Rattle.ps_vault.proofs.Screening.{begins_same, none_shown}
use Rattle.ps_run_workers.specs.declared.pauses.Paused.{Paused}
use Rattle.ps_run_workers.specs.Batons.{IsStarvedAt, Keeps, MayGoOn, Progress, Start}
use Rattle.ps_run_workers.specs.Slices.{at_pause, begun, HasBegun, HasCome, IsReportOf, IsSlice, no_sight, Rests, start_at}
use Rattle.ps_run_workers.proofs.Keeping.{kept_ends}

-- the same numbers, with so many steps
abbrev pub with_steps : Config → ℕ → Config
with_steps config steps = record config { steps = steps }

-- what a baton keeps it keeps of a run that goes on from here
pub from_here : (asks : Status → Around → Scene → Asked) (start : Start) (p : Progress)
    (steps : ℕ) → Keeps asks start p → p.made ≤ steps → steps < 2 ^ 32 → 1 ≤ steps
    → (p.made < p.config.steps → p.made < steps)
    → Keeps asks (start_at p.story (with_steps p.config steps))
    (at_pause p.story (with_steps p.config steps) p.made no_sight)
from_here asks start p steps keeps within few some more = record {
  program = refl;
  config = refl;
  begins = begins_same p.story.schedule p.story.schedule refl;
  watched = record {
    shown = none_shown no_sight (world_at p.story).printed refl refl;
    watching = refl;
    still = λ unseen. refl;
  };
  numbers = record {
    space_low = keeps.numbers.space_low;
    space_high = keeps.numbers.space_high;
    workers_low = keeps.numbers.workers_low;
    workers_high = keeps.numbers.workers_high;
    quantum_low = keeps.numbers.quantum_low;
    quantum_high = keeps.numbers.quantum_high;
    steps_low = some;
  };
  few = few;
  budget = omega arith;
  whole = λ going. refl;
  counted = keeps.counted;
  within = within;
  fits = keeps.fits;
  most = keeps.most;
  space = keeps.space;
  warranted = keeps.warranted;
  flips = keeps.flips;
  room = keeps.room;
  waits = by p.story.caller keeps.waits;
  judged = tt;
}
  where
    by : (caller : Option ℕ) → IfSome caller (MayGoOn p)
        → IfSome caller (MayGoOn (at_pause p.story (with_steps p.config steps) p.made no_sight))
    by None waits = tt
    by (Some context) waits = record {
      calling = waits.calling;
      ready = waits.ready;
      left = more (let left = waits.left in let budget = keeps.budget in omega (arith, left, budget));
    }

-- how it ended, of the steps that its numbers say
judged_at : (asks : Status → Around → Scene → Asked) (start : Start) (p : Progress) (outcome : Outcome) → Keeps asks start p
    → start.sight ≡ no_sight → p.outcome ≡ Some outcome
    → EndsAs (world_at p.story) (count_of p.story.schedule == start.config.steps)
    (IsStarvedAt asks p.story) outcome
judged_at asks start p outcome keeps unseen is =
    let still : p.sight ≡ start.sight =
    keeps.watched.still (ap (λ (s : Sight). s.watching) unseen) in
    let budget : p.budget ≡ start.config.steps =
    keeps.whole (ap (λ (s : Sight). s.failed) (still ∙ unseen))
    ∙ ap (λ (c : Config). c.steps) keeps.config in
    subst (λ (n : ℕ). EndsAs (world_at p.story) (count_of p.story.schedule == n)
    (IsStarvedAt asks p.story) outcome) budget (kept_ends asks start p outcome keeps is)

-- no more steps than its numbers say
few_in : (asks : Status → Around → Scene → Asked) (start : Start) (p : Progress)
    → Keeps asks start p
    → count_of p.story.schedule ≤ start.config.steps
few_in asks start p keeps =
    let counted = keeps.counted in let within = keeps.within in let budget = keeps.budget in
    let same = ap (λ (c : Config). c.steps) keeps.config in
    omega (arith, counted, within, budget, same)

-- what who watches nothing is seen as
pub unseen_sight : (sight : Sight) → sight.seen ≡ None → sight.watching ≡ false
    → sight.shown ≡ 0 → sight.failed ≡ false → sight ≡ no_sight
unseen_sight sight seen watching shown failed = λ i. record {
  seen = seen i;
  watching = watching i;
  shown = shown i;
  failed = failed i;
}

module _ {M S D : Type 0} (asks : Status → Around → Scene → Asked) (heap : M → Heap)
    (grants : M → Grants)
  where
    -- what rests may go on, for so many steps more
    pub rests_further : (program : List ℕ) (paused : Paused M S D) (more steps : ℕ)
        → Rests asks heap grants program paused → 1 ≤ more
        → steps ≡ min (paused.made + more) (2 ^ 32 - 1)
        → Keeps asks (start_at (story_of heap grants program paused.parked)
        (with_steps paused.config steps))
        (at_pause (story_of heap grants program paused.parked) (with_steps paused.config steps)
        paused.made no_sight)
    rests_further program paused more steps rests some is =
        let story : Story = story_of heap grants program paused.parked in
        let few = rests.keeps.few in
        let within = rests.keeps.within in
        from_here asks (start_at story paused.config)
        (at_pause story paused.config paused.made no_sight) steps rests.keeps
        (omega (arith, is, few, within)) (omega (arith, is)) (omega (arith, is, some))
        (λ left. omega (arith, is, some, few, left))

    -- how many steps are made is told
    pub rests_made : (program : List ℕ) (paused : Paused M S D) → Rests asks heap grants program paused
        → paused.made ≡ count_of paused.parked.schedule.items
    rests_made program paused rests = sym rests.keeps.counted

    -- what has come of a run is seen as what its baton was
    seen_as : (start : Start) (paused : Paused M S D) (come : HasCome asks heap grants start paused)
        (program : List ℕ) → start.program ≡ program
        → story_of heap grants program paused.parked ≡ come.progress.story
    seen_as start paused come program same =
        ap (λ (p : List ℕ). story_of heap grants p paused.parked)
        (sym (come.keeps.program ∙ same)) ∙ come.story

    -- it rests there
    pub come_rests : (start : Start) (paused : Paused M S D) (program : List ℕ)
        → HasCome asks heap grants start paused → start.program ≡ program
        → Rests asks heap grants program paused
    come_rests start paused program come same =
        let p : Progress = come.progress in
        let keeps : Keeps asks start p = come.keeps in
        let here : Keeps asks (start_at p.story p.config) (at_pause p.story p.config p.made no_sight) =
        from_here asks start p p.config.steps keeps
        (let within = keeps.within in let budget = keeps.budget in omega (arith, within, budget))
        keeps.few keeps.numbers.steps_low (λ left. left) in
        record {
          parked = subst (λ (bytes : List ℕ). IsParked heap grants bytes paused.parked)
              (keeps.program ∙ same) come.parked;
          keeps = subst (λ (s : Story). Keeps asks (start_at s paused.config)
              (at_pause s paused.config paused.made no_sight)) (sym (seen_as start paused come program same))
              (subst (λ (config : Config). Keeps asks (start_at p.story config)
              (at_pause p.story config paused.made no_sight)) (sym come.config)
              (subst (λ (made : ℕ). Keeps asks (start_at p.story p.config)
              (at_pause p.story p.config made no_sight)) (sym come.made) here));
        }

    -- of a run that has just begun
    pub come_begun : (paused : Paused M S D) (program : List ℕ) (config : Config)
        → HasCome asks heap grants (begun program config) paused
        → paused.parked.schedule.items ≡ []
        → HasBegun program config (story_of heap grants program paused.parked)
    come_begun paused program config come fresh =
        let p : Progress = come.progress in
        let is : story_of heap grants program paused.parked ≡ p.story =
        seen_as (begun program config) paused come program refl in
        record {
          program = refl;
          schedule = fresh;
          most = ap (λ (s : Story). s.most) is ∙ come.keeps.most ∙ ap bounds_of come.keeps.config;
          space = ap (λ (s : Story). s.space) is ∙ come.keeps.space
              ∙ ap (λ (c : Config). c.space) come.keeps.config;
        }

    -- ---- a slice

    -- all of it is a run
    pub whole_run : (start : Start) (paused : Paused M S D) (come : HasCome asks heap grants start paused)
        (outcome : Outcome) → start.sight ≡ no_sight → come.progress.outcome ≡ Some outcome
        → (report : Report) → IsReportOf come.progress.story outcome report
        → IsRunIn asks (bounded_space come.progress.story.space) come.progress.story.program
        start.config.steps report
    unfolding printed
    whole_run start paused come outcome unseen ended report is =
        let p : Progress = come.progress in
        let program : List ℕ = p.story.program in
        let steps : ℕ = start.config.steps in
        let keeps : Keeps asks start p = come.keeps in
        let kept : kept_of p.story ≡ report.schedule = sym is.schedule in
        let items : paused.parked.schedule.items ≡ p.story.schedule =
        ap (λ (s : Story). s.schedule) come.story in
        record {
          prints = is.printed ∙ ap (λ (k : Kept). (world program k.items).printed) kept;
          proper = subst (λ (k : Kept). IsProper program k.items) kept
              (subst (λ (s : List Entry). IsProper program s) items come.parked.proper);
          longest = subst (λ (k : Kept). is_longest k.items ≡ true) kept
              (subst (λ (s : List Entry). is_longest s ≡ true) items come.parked.longest);
          within = subst (λ (k : Kept). count_of k.items ≤ steps) kept (few_in asks start p keeps);
          fits = subst (λ (k : Kept). all_fit (moves k.items) ≡ true) kept keeps.fits;
          warranted = subst (λ (k : Kept). AllWarranted p.story.space program k.items) kept
              keeps.warranted;
          room = subst (λ (k : Kept). FIRST_ENTRIES ≤ k.capacity) kept keeps.room;
          ends = subst (λ (k : Kept). EndsAs (world program k.items) (count_of k.items == steps)
              (IsOneStarved asks false (world program k.items) k) report.outcome) kept
              (subst (λ (o : Outcome). EndsAs (world_at p.story)
              (count_of p.story.schedule == steps) (IsStarvedAt asks p.story) o) (sym is.outcome)
              (judged_at asks start p outcome keeps unseen ended));
        }

    -- behind a slice of a run that rested
    pub come_slice : (old : Story) (config : Config) (paused : Paused M S D)
        → HasCome asks heap grants (start_at old config) paused
        → old.most ≡ bounds_of config → old.space ≡ config.space
        → IsSlice asks config.steps old (story_of heap grants old.program paused.parked)
        paused.outcome
    come_slice old config paused come most space =
        let start : Start = start_at old config in
        let p : Progress = come.progress in
        let keeps : Keeps asks start p = come.keeps in
        subst (λ (s : Story). IsSlice asks config.steps old s paused.outcome)
        (sym (seen_as start paused come old.program refl))
        (record {
          program = keeps.program;
          most = keeps.most ∙ ap bounds_of keeps.config ∙ sym most;
          space = keeps.space ∙ ap (λ (c : Config). c.space) keeps.config ∙ sym space;
          begins = keeps.begins;
          within = few_in asks start p keeps;
          run = by paused.outcome (sym come.outcome);
        })
      where
        by : (outcome : Option Outcome) → come.progress.outcome ≡ outcome
            → IfSome outcome (λ one. (report : Report) → IsReportOf come.progress.story one report
            → IsRunIn asks (bounded_space come.progress.story.space) come.progress.story.program
            config.steps report)
        by None is = tt
        by (Some one) is = λ report of.
            whole_run (start_at old config) paused come one refl is report of
