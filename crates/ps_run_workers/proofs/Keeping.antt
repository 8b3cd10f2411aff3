-- What a baton keeps, over its turns.
use Rattle.std.proofs.Common.{◌≡◌, ℕ, ◌+◌, ◌*◌, ◌<◌, ◌≤◌, ◌^◌, ◌==◌, true, false, Option, Some, None, Ok, Err, List, [], ◌∷◌, ◌++◌, refl, sym, ap, ◌∙◌, subst, inl, inr, arith}
use Rattle.std.specs.Prelude.{Bool, IfSome, OnErr, Result, map, replicate}
use Rattle.std.specs.Result.{is_err}
use Rattle.std.proofs.lemmas.List.{append-nil}
use Rattle.std.proofs.lemmas.Bool.{true≢false}
use Rattle.std.proofs.lemmas.Bool.Decides.{nat_tests}
use Rattle.ps_language.specs.declared.schedules.Entry.{Entry}
use Rattle.ps_language.specs.Effect.{Around, Scene}
use Rattle.ps_language.specs.Live.{Live}
use Rattle.ps_language.specs.Locks.{is_ready}
use Rattle.ps_language.specs.Keeping.{PrintsOn}
use Rattle.ps_language.specs.Schedules.{Begins, Move, count_of, moves}
use Rattle.ps_language.specs.World.{Status, World}
use Rattle.ps_language.specs.Worlds.{after_moves, starting_world, world}
use Rattle.ps_word.specs.Headers.{cycle_limit}
use Rattle.ps_mem.specs.Heap.{Heap, Grants}
use Rattle.ps_ops_operands.specs.declared.failure.NotMade.{NotMade as Reason}
use Rattle.ps_ops_operands.specs.declared.failure.NotMade.TheVariants.{Memory, NeedSpace}
use Rattle.ps_ops_state.specs.Acts.{Asked}
use Rattle.ps_core_laws.specs.Collected.{may_open, one_more_if, stopped}
use Rattle.ps_gc_roots.specs.Moved.{IsLeft}
use Rattle.ps_ctx.specs.Needs.{step_wants}
use Rattle.ps_vault.specs.declared.reports.Config.{Config}
use Rattle.ps_vault.specs.declared.reports.Outcome.{Outcome}
use Rattle.ps_vault.specs.declared.reports.Outcome.TheVariants.{Memory as End}
use Rattle.ps_vault.specs.Reports.{all_fit, EndsAs, IsShort, IsStarved, MayWant}
use Rattle.ps_vault.specs.Holds.{IfForRoom, IsHeldUp}
use Rattle.ps_vault.specs.Order.{AddsSteps}
use Rattle.ps_vault.specs.Screens.{HasShown, ShowsOn, Sight}
use Rattle.ps_vault.specs.Stories.{Story, MayGo, AreWarranted, LacksRoom, few_words, few_births, kept_of, world_at}
use Rattle.ps_vault.specs.Warrants.{IsRefusal, many_steps, no_room, no_births, no_cycles}
use Rattle.ps_vault.proofs.Following.{ready_not_over}
use Rattle.ps_vault.proofs.Reasons.{memory_wanted}
use Rattle.ps_vault.proofs.Screening.{begins_then, prints_on, shown_on}
use Rattle.ps_vault.proofs.Warrants.{ready_left, warranted_same}
use Rattle.ps_run_workers.specs.Batons.{Progress, Start, MayGoOn, MayRefuse, IsStarvedAt, IsTight, IsWatched, Keeps}

abbrev pub progress : Story → Config → (made budget : ℕ) → Sight → Option Outcome → Progress
progress story config made budget sight outcome = record {
  story = story;
  config = config;
  made = made;
  budget = budget;
  sight = sight;
  outcome = outcome;
}

-- the same run, at another story
abbrev pub come_to : Progress → Story → (made : ℕ) → Option Outcome → Progress
come_to p story made outcome = record p { story = story; made = made; outcome = outcome }

-- where a result is an error, what holds on errors holds
pub on_error : {A E : Type 0} (result : Result A E) (P : Type 0) → OnErr result P
    → is_err result ≡ true → P
on_error (Ok value) P holds is = absurd (true≢false (sym is))
on_error (Err error) P holds is = holds

-- ---- whose call waits

-- it is the context that may go on
pub waits_as : (p : Progress) (context : ℕ) → MayGoOn p context
    → IfSome p.story.caller (MayGoOn p)
waits_as p context may = by p.story.caller may.calling
  where
    by : (caller : Option ℕ) → IfSome caller (λ c. c ≡ context) → IfSome caller (MayGoOn p)
    by None is = tt
    by (Some caller) is = subst (λ c. MayGoOn p c) (sym is) may

-- none waits
pub waits_none : (p : Progress) → p.story.caller ≡ None → IfSome p.story.caller (MayGoOn p)
waits_none p none =
    subst (λ (caller : Option ℕ). IfSome caller (MayGoOn p)) (sym none) tt

-- ---- how a run ends for want of memory

-- a step is refused only where it makes objects
abbrev pub MakesObjects : (asks : Status → Around → Scene → Asked) → (context : ℕ) → World
    → Type 0
MakesObjects asks context w = 1 ≤ (step_wants asks context false w).words

pub ends_starved : (asks : Status → Around → Scene → Asked) (p : Progress) (context : ℕ)
    (refused : Bool) → MayGoOn p context
    → (refused ≡ true → MakesObjects asks context (world_at p.story))
    → IsStarved asks false context refused (world_at p.story) (kept_of p.story)
    → EndsAs (world_at p.story) (p.made == p.budget) (IsStarvedAt asks p.story) End
ends_starved asks p context refused may makes starved = (
  let left : p.made < p.budget = may.left in grind (arith, nat_tests),
  ready_not_over (world_at p.story) context may.ready,
  record {
    context = context;
    refused = refused;
    makes = λ is. (makes is, refl);
    starved = starved;
  },
)

-- ---- the same steps, in another room

-- the world is the same
pub world_same : (old new : Story) → new.program ≡ old.program → new.schedule ≡ old.schedule
    → (P : World → Type 0) → P (world_at old) → P (world_at new)
world_same old new program schedule P holds = rw (program, schedule) holds

pub may_same : (p : Progress) (story : Story) (outcome : Option Outcome) (context : ℕ)
    → MayGoOn p context
    → story.program ≡ p.story.program → story.schedule ≡ p.story.schedule
    → story.caller ≡ p.story.caller
    → MayGoOn (come_to p story p.made outcome) context
may_same p story outcome context may program schedule caller = record {
  calling = subst (λ (c : Option ℕ). IfSome c (λ it. it ≡ context)) (sym caller) may.calling;
  ready = world_same p.story story program schedule (λ w. is_ready w context ≡ true) may.ready;
  left = may.left;
}

waits_same : (p : Progress) (story : Story) (outcome : Option Outcome)
    → IfSome p.story.caller (MayGoOn p)
    → story.program ≡ p.story.program → story.schedule ≡ p.story.schedule
    → story.caller ≡ p.story.caller
    → IfSome story.caller (MayGoOn (come_to p story p.made outcome))
waits_same p story outcome waits program schedule caller =
    subst (λ (c : Option ℕ). IfSome c (MayGoOn (come_to p story p.made outcome)))
    (sym caller) (by p.story.caller waits)
  where
    by : (c : Option ℕ) → IfSome c (MayGoOn p)
        → IfSome c (MayGoOn (come_to p story p.made outcome))
    by None waits = tt
    by (Some context) waits =
        may_same p story outcome context waits program schedule caller

-- where the run has ended, by the steps that were counted
pub kept_ends : (asks : Status → Around → Scene → Asked) (start : Start) (p : Progress)
    (outcome : Outcome) → Keeps asks start p → p.outcome ≡ Some outcome
    → EndsAs (world_at p.story) (count_of p.story.schedule == p.budget) (IsStarvedAt asks p.story)
    outcome
kept_ends asks start p outcome keeps is =
    subst (λ (n : ℕ). EndsAs (world_at p.story) (n == p.budget) (IsStarvedAt asks p.story) outcome)
    (sym keeps.counted)
    (subst (λ (o : Option Outcome). IfSome o (EndsAs (world_at p.story) (p.made == p.budget)
    (IsStarvedAt asks p.story))) is keeps.judged)

-- ---- what was shown

watched_on : (first : Sight) (p : Progress) (story : Story) (made : ℕ) (outcome : Option Outcome)
    → IsWatched first p → PrintsOn (world_at p.story).printed (world_at story).printed
    → IsWatched first (come_to p story made outcome)
watched_on first p story made outcome watched on = record {
  shown = shown_on first.seen p.sight (world_at p.story).printed (world_at story).printed on
      watched.shown;
  watching = watched.watching;
  still = watched.still;
}

watched_same : (first : Sight) (p : Progress) (story : Story) (made : ℕ) (outcome : Option Outcome)
    → IsWatched first p → story.program ≡ p.story.program → story.schedule ≡ p.story.schedule
    → IsWatched first (come_to p story made outcome)
watched_same first p story made outcome watched program schedule = record {
  shown = world_same p.story story program schedule
      (λ w. HasShown first.seen p.sight w.printed) watched.shown;
  watching = watched.watching;
  still = watched.still;
}

-- a viewer that was shown more of what was printed
pub watched_more : (first : Sight) (p : Progress) (sight : Sight) (budget : ℕ)
    → IsWatched first p
    → ShowsOn p.sight (world_at p.story).printed sight (world_at p.story).printed
    → sight.watching ≡ p.sight.watching → (p.sight.watching ≡ false → sight ≡ p.sight)
    → IsWatched first (record p { sight = sight; budget = budget })
watched_more first p sight budget watched shows same still = record {
  shown = shows first.seen watched.shown;
  watching = same ∙ watched.watching;
  still = λ unseen. still (watched.watching ∙ unseen) ∙ watched.still unseen;
}

-- the run ends where it is
pub keeps_ended : (asks : Status → Around → Scene → Asked) (start : Start) (p : Progress)
    (story : Story)
    (outcome : Outcome) → Keeps asks start p
    → story.program ≡ p.story.program → story.most ≡ p.story.most
    → story.schedule ≡ p.story.schedule
    → story.caller ≡ p.story.caller → story.space ≡ p.story.space
    → story.flips ≡ p.story.flips → p.story.capacity ≤ story.capacity
    → EndsAs (world_at story) (p.made == p.budget) (IsStarvedAt asks story) outcome
    → Keeps asks start (come_to p story p.made (Some outcome))
keeps_ended asks start p story outcome keeps program most schedule caller space flips more ends = record {
  program = program ∙ keeps.program;
  config = keeps.config;
  begins = subst (λ (s : List Entry). Begins start.schedule s) (sym schedule) keeps.begins;
  watched = watched_same start.sight p story p.made (Some outcome) keeps.watched program schedule;
  numbers = keeps.numbers;
  few = keeps.few;
  budget = keeps.budget;
  whole = keeps.whole;
  counted = ap count_of schedule ∙ keeps.counted;
  within = keeps.within;
  fits = ap (λ (s : List Entry). all_fit (moves s)) schedule ∙ keeps.fits;
  most = most ∙ keeps.most;
  space = space ∙ keeps.space;
  warranted = warranted_same p.story story space program schedule keeps.warranted;
  flips = subst (λ (n : ℕ). n ≤ 3 * p.made + 3) (sym flips) keeps.flips;
  room = omega (arith, keeps.room, more);
  waits = waits_same p story (Some outcome) keeps.waits program schedule caller;
  judged = ends;
}

-- the schedule has no room
pub short_starved : (asks : Status → Around → Scene → Asked) (start : Start) (p : Progress)
    (story : Story)
    (context : ℕ) → Keeps asks start p → MayGoOn p context
    → story.program ≡ p.story.program → story.most ≡ p.story.most
    → story.schedule ≡ p.story.schedule
    → story.caller ≡ p.story.caller → story.space ≡ p.story.space
    → story.flips ≡ p.story.flips → p.story.capacity ≤ story.capacity
    → IsShort (kept_of story) context
    → Keeps asks start (come_to p story p.made (Some End))
short_starved asks start p story context keeps may program most schedule caller space flips more short =
    let here : MayGoOn (come_to p story p.made None) context =
    may_same p story None context may program schedule caller in
    keeps_ended asks start p story End keeps program most schedule caller space flips more
    (ends_starved asks (come_to p story p.made None) context false here
    (λ is. absurd (true≢false (sym is))) (record { ready = here.ready; wants = inr short }))

-- a step wants memory that isn't to be had
pub ends_wanted : {M : Type 0} (heap : M → Heap) (grants : M → Grants)
    (asks : Status → Around → Scene → Asked) (p : Progress) (context : ℕ)
    → ((m : M) → (heap m).space.grows ≡ false) → MayGoOn p context
    → IsHeldUp heap grants asks context false p.story Memory
    → EndsAs (world_at p.story) (p.made == p.budget) (IsStarvedAt asks p.story) End
ends_wanted heap grants asks p context bounded may held =
    let wanted = memory_wanted heap grants asks context false p.story false bounded held in
    ends_starved asks p context false may (λ is. absurd (true≢false (sym is)))
    (record { ready = wanted.ready; wants = inl wanted.wants })

-- ---- more was shown

abbrev seen_now : Progress → Sight → (budget : ℕ) → Progress
seen_now p sight budget = record p { sight = sight; budget = budget }

keeps_seen : (asks : Status → Around → Scene → Asked) (start : Start) (p : Progress) (sight : Sight)
    (budget : ℕ) → Keeps asks start p
    → ShowsOn p.sight (world_at p.story).printed sight (world_at p.story).printed
    → sight.watching ≡ p.sight.watching → (p.sight.watching ≡ false → sight ≡ p.sight)
    → p.made ≤ budget → budget ≤ p.config.steps
    → (sight.failed ≡ false → budget ≡ p.config.steps)
    → IfSome p.story.caller (MayGoOn (seen_now p sight budget))
    → IfSome p.outcome (EndsAs (world_at p.story) (p.made == budget) (IsStarvedAt asks p.story))
    → Keeps asks start (seen_now p sight budget)
keeps_seen asks start p sight budget keeps shows same still within few whole waits judged = record {
  program = keeps.program;
  config = keeps.config;
  begins = keeps.begins;
  watched = watched_more start.sight p sight budget keeps.watched shows same still;
  numbers = keeps.numbers;
  few = keeps.few;
  budget = few;
  whole = whole;
  counted = keeps.counted;
  within = within;
  fits = keeps.fits;
  most = keeps.most;
  space = keeps.space;
  warranted = keeps.warranted;
  flips = keeps.flips;
  room = keeps.room;
  waits = waits;
  judged = judged;
}

-- showing went well
pub keeps_shown : (asks : Status → Around → Scene → Asked) (start : Start) (p : Progress)
    (sight : Sight) → Keeps asks start p
    → ShowsOn p.sight (world_at p.story).printed sight (world_at p.story).printed
    → sight.watching ≡ p.sight.watching → (p.sight.watching ≡ false → sight ≡ p.sight)
    → p.sight.failed ≡ false
    → Keeps asks start (seen_now p sight p.budget)
keeps_shown asks start p sight keeps shows same still going =
    keeps_seen asks start p sight p.budget keeps shows same still keeps.within keeps.budget
    (λ is. keeps.whole going) (by p.story.caller keeps.waits) keeps.judged
  where
    by : (c : Option ℕ) → IfSome c (MayGoOn p) → IfSome c (MayGoOn (seen_now p sight p.budget))
    by None waits = tt
    by (Some context) waits =
        record { calling = waits.calling; ready = waits.ready; left = waits.left }

-- showing failed, where no call waits and the run hasn't ended
pub keeps_cut : (asks : Status → Around → Scene → Asked) (start : Start) (p : Progress)
    (sight : Sight) → Keeps asks start p
    → ShowsOn p.sight (world_at p.story).printed sight (world_at p.story).printed
    → sight.watching ≡ p.sight.watching → (p.sight.watching ≡ false → sight ≡ p.sight)
    → sight.failed ≡ true → p.story.caller ≡ None → p.outcome ≡ None
    → Keeps asks start (seen_now p sight p.made)
keeps_cut asks start p sight keeps shows same still failed none going =
    keeps_seen asks start p sight p.made keeps shows same still (omega arith)
    (let within = keeps.within in let few = keeps.budget in omega (arith, within, few))
    (λ is. absurd (true≢false (sym failed ∙ is)))
    (subst (λ (c : Option ℕ). IfSome c (MayGoOn (seen_now p sight p.made))) (sym none) tt)
    (subst (λ (o : Option Outcome). IfSome o (EndsAs (world_at p.story) (p.made == p.made)
    (IsStarvedAt asks p.story))) (sym going) tt)

-- ---- the collector's cycles

-- objects may have moved
pub keeps_moved : (asks : Status → Around → Scene → Asked) (start : Start) (p : Progress)
    (story : Story)
    → Keeps asks start p
    → story ≡ record p.story {
      used = story.used;
      flips = story.flips;
      cycle_open = story.cycle_open;
      closed = story.closed;
    }
    → story.flips ≤ 3 * p.made + 3
    → Keeps asks start (come_to p story p.made p.outcome)
keeps_moved asks start p story keeps same few =
    subst (λ (s : Story). Keeps asks start (come_to p s p.made p.outcome)) (sym same)
    (record {
      program = keeps.program;
      config = keeps.config;
      begins = keeps.begins;
      watched = record {
        shown = keeps.watched.shown;
        watching = keeps.watched.watching;
        still = keeps.watched.still;
      };
      numbers = keeps.numbers;
      few = keeps.few;
      budget = keeps.budget;
      whole = keeps.whole;
      counted = keeps.counted;
      within = keeps.within;
      fits = keeps.fits;
      most = keeps.most;
      space = keeps.space;
      warranted = keeps.warranted;
      flips = few;
      room = keeps.room;
      waits = waits_same p (record p.story {
        used = story.used;
        flips = story.flips;
        cycle_open = story.cycle_open;
        closed = story.closed;
      }) p.outcome keeps.waits refl refl refl;
      judged = keeps.judged;
    })

-- no more were flipped than this
pub few_flips : (opened : Bool) (flips more : ℕ) → flips + 2 ≤ more → stopped opened flips ≤ more
few_flips opened flips more few = by opened (may_open false (one_more_if opened flips)) refl
  where
    by : (was may : Bool) → opened ≡ was → one_more_if may (one_more_if opened flips) ≤ more
    by false false is = rw is (omega (arith, few))
    by false true is = rw is (omega (arith, few))
    by true false is = rw is (omega (arith, few))
    by true true is = rw is (omega (arith, few))

-- where no whole cycle could be made, many steps were
pub many_made : (opened : Bool) (flips made : ℕ) → flips + 2 ≤ 3 * made + 3
    → may_open false (one_more_if opened flips) ≡ false → many_steps ≤ made
many_made opened flips made few none = by opened refl
  where
    by : (was : Bool) → opened ≡ was → many_steps ≤ made
    by false is =
        let most : cycle_limit ≤ flips + 1 = grind (arith, nat_tests, rw is at none) in
        omega (arith, few, most)
    by true is =
        let most : cycle_limit ≤ flips + 1 + 1 = grind (arith, nat_tests, rw is at none) in
        omega (arith, few, most)

-- ---- a refusal

-- nothing is used but what lives, and the step found no room
pub refusal : (asks : Status → Around → Scene → Asked) (start : Start) (p q : Progress)
    (context : ℕ)
    → IsTight p → Keeps asks start q → p.made ≤ q.made → world_at q.story ≡ world_at p.story
    → q.story.used ≡ p.story.used → is_ready (world_at q.story) context ≡ true
    → LacksRoom q.story context → MayRefuse q context
refusal asks start p q context (inr long) keeps made same used ready lacks =
    no_cycles (let counted = keeps.counted in omega (arith, long, made, counted))
refusal asks start p q context (inl uses) keeps made same used ready (few_births few) = no_births few
refusal asks start p q context (inl uses) keeps made same used ready (few_words few) =
    no_room (λ words live.
    let most : p.story.used ≤ words = uses.most
    (subst IsLeft same (ready_left q.story.program q.story.schedule context ready)) words
    (subst (λ (w : World). Live w words) same live) in
    omega (arith, most, used, few))

-- a try that found no room
pub lacks_in : (story : Story) (context words : ℕ) (reason : Reason) → reason ≡ NeedSpace words
    → IfForRoom false story context reason → LacksRoom story context
lacks_in story context words reason is room = (subst (IfForRoom false story context) is room refl).1

-- the same, of the story as it is looked at
pub refusal_now : (p : Progress) (now : Story) (context : ℕ) → MayRefuse p context → p.story ≡ now
    → IsRefusal now.space (world_at now) context (count_of now.schedule)
refusal_now p now context may same =
    subst (λ (s : Story). IsRefusal s.space (world_at s) context (count_of s.schedule)) same may

-- ---- no step more

no_moves : (context : ℕ) (steps : List Move) → map (λ (step : Move). step.context) steps ≡ []
    → steps ≡ []
no_moves context [] none = refl
no_moves context (step ∷ steps) none = absurd (cc)

pub world_stays : (a b : Story) (context made : ℕ) → b.program ≡ a.program
    → AddsSteps context made (moves a.schedule) (moves b.schedule) → made ≡ 0
    → world_at b ≡ world_at a
unfolding world
world_stays a b context made program adds none =
    let no_steps : adds.steps ≡ [] =
    no_moves context adds.steps
    (adds.all ∙ ap (λ (n : ℕ). replicate n context) none) in
    let same : moves b.schedule ≡ moves a.schedule =
    adds.is ∙ ap (λ (steps : List Move). moves a.schedule ++ steps) no_steps
    ∙ append-nil (moves a.schedule) in
    ap (λ (p : List ℕ). after_moves (starting_world p) (moves b.schedule)) program
    ∙ ap (after_moves (starting_world a.program)) same

-- ---- steps more

-- a story with so many steps more
pub record Goes (p : Progress) (story : Story) (count : ℕ) : Type 0 where
  pub program : story.program ≡ p.story.program
  pub begins : Begins p.story.schedule story.schedule
  pub counted : count_of story.schedule ≡ count_of p.story.schedule + count
  pub fits : all_fit (moves p.story.schedule) ≡ true → all_fit (moves story.schedule) ≡ true
  pub most : story.most ≡ p.story.most
  pub space : story.space ≡ p.story.space
  pub warranted : AreWarranted p.story → AreWarranted story
  pub flips : story.flips ≡ p.story.flips
  pub more : p.story.capacity ≤ story.capacity

pub keeps_made : (asks : Status → Around → Scene → Asked) (start : Start) (p : Progress)
    (story : Story)
    (count : ℕ) (outcome : Option Outcome) → Keeps asks start p → Goes p story count
    → p.made + count ≤ p.budget
    → IfSome story.caller (MayGoOn (come_to p story (p.made + count) outcome))
    → IfSome outcome
    (EndsAs (world_at story) (p.made + count == p.budget) (IsStarvedAt asks story))
    → Keeps asks start (come_to p story (p.made + count) outcome)
keeps_made asks start p story count outcome keeps goes within waits judged = record {
  program = goes.program ∙ keeps.program;
  config = keeps.config;
  begins = begins_then start.schedule p.story.schedule story.schedule keeps.begins
      goes.begins;
  watched = watched_on start.sight p story (p.made + count) outcome keeps.watched
      (prints_on p.story story goes.program goes.begins);
  numbers = keeps.numbers;
  few = keeps.few;
  budget = keeps.budget;
  whole = keeps.whole;
  counted = goes.counted ∙ ap (λ n. n + count) keeps.counted;
  within = within;
  fits = goes.fits keeps.fits;
  most = goes.most ∙ keeps.most;
  space = goes.space ∙ keeps.space;
  warranted = goes.warranted keeps.warranted;
  flips = let before = keeps.flips in let same = goes.flips in omega (arith, before, same);
  room = omega (arith, keeps.room, goes.more);
  waits = waits;
  judged = judged;
}

-- so many more are counted in 32 bits
pub counts_on : (asks : Status → Around → Scene → Asked) (start : Start) (p : Progress)
    (count : ℕ)
    → Keeps asks start p → p.made + count ≤ p.budget → p.made + count < 2 ^ 32
counts_on asks start p count keeps within = omega (arith, within, keeps.budget, keeps.few)

-- ---- the next step may want a growth that may fail

-- the run ends there
pub keeps_wanted : (asks : Status → Around → Scene → Asked) (start : Start) (p : Progress)
    (story : Story)
    (context : ℕ) (refused : Bool) → Keeps asks start p → MayGoOn p context
    → story.program ≡ p.story.program → story.most ≡ p.story.most
    → story.schedule ≡ p.story.schedule
    → story.space ≡ p.story.space → story.flips ≡ p.story.flips → MayGo story context
    → p.story.capacity ≤ story.capacity
    → (refused ≡ true → MakesObjects asks context (world_at p.story))
    → MayWant asks false context refused (world_at story)
    → Keeps asks start (come_to p story p.made (Some End))
keeps_wanted asks start p story context refused keeps may program most schedule space flips calling more
    makes wanted =
    let here : MayGoOn (come_to p story p.made None) context =
    record { calling = calling; ready = wanted.ready; left = may.left } in
    record {
      program = program ∙ keeps.program;
      config = keeps.config;
      begins = subst (λ (s : List Entry). Begins start.schedule s) (sym schedule) keeps.begins;
      watched = watched_same start.sight p story p.made (Some End) keeps.watched program schedule;
      numbers = keeps.numbers;
      few = keeps.few;
      budget = keeps.budget;
      whole = keeps.whole;
      counted = ap count_of schedule ∙ keeps.counted;
      within = keeps.within;
      fits = ap (λ (s : List Entry). all_fit (moves s)) schedule ∙ keeps.fits;
      most = most ∙ keeps.most;
      space = space ∙ keeps.space;
      warranted = warranted_same p.story story space program schedule keeps.warranted;
      flips = subst (λ (n : ℕ). n ≤ 3 * p.made + 3) (sym flips) keeps.flips;
      room = omega (arith, keeps.room, more);
      waits = waits_as (come_to p story p.made (Some End)) context
          (record { calling = calling; ready = wanted.ready; left = may.left });
      judged = ends_starved asks (come_to p story p.made None) context refused here
          (λ is. world_same p.story story program schedule (MakesObjects asks context) (makes is))
          (record { ready = wanted.ready; wants = inl wanted.wants });
    }
