-- Each entry followed is one entry more of the schedule; where memory runs out a part of one is.
use Rattle.std.proofs.Common.{ℕ, ◌≡◌, ◌<◌, ◌+◌, ◌++◌, ◌∷◌, [], List, take, length, get_or, Bool, true, false, None, sym, ◌∙◌, ap, subst, arith}
use Rattle.std.specs.Prelude.{◌&&◌, ◌==◌, not, replicate}
use Rattle.std.proofs.lemmas.Bool.{true≢false}
use Rattle.std.proofs.lemmas.List.{take_all, take_more, length-take}
use Rattle.ps_language.specs.declared.schedules.Entry.{Entry}
use Rattle.ps_language.specs.Schedules.{Begins, plain_move, moves_of, moves}
use Rattle.ps_language.specs.World.{World}
use Rattle.ps_language.specs.Worlds.{after_moves, world, printed}
use Rattle.ps_mem.specs.Objects.{heap_in}
use Rattle.ps_vault.specs.Stories.{world_at}
use Rattle.ps_vault.specs.Reports.{Bounds, EndsAs, IsCutOf, IsReplayOf, IsUncollected, entry_of, MayWant, MayWantNext, is_memory, is_next_refused, next_identifier}
use Rattle.ps_vault.specs.Screens.{HasShown, Sight}
use Rattle.ps_vault.proofs.Beginning.{nothing_stands}
use Rattle.ps_vault.proofs.Cutting.{begins_first, by_failed, cut_first, memory_ends, printed_at, replay_whole, whole_run}
use Rattle.ps_vault.proofs.Following.{after_next, after_part, begins_with_part, fewer_with_part, ready_not_over}
use Rattle.ps_vault.proofs.NextStep.{refused_behind, context_behind_part}
use Rattle.ps_vault.proofs.replays.replay_shown.Given as givens
use Rattle.ps_vault.proofs.replays.replay_shown.Goals as goal
use Rattle.ps_vault.proofs.replays.replay_shown.Goals.{After-push, After-report_of, After-report_of-then-has_failed, After-report_of-2}

-- what is past the end
abbrev none : Entry
none = record { context = 0; steps = 0; refused = false; shown = None }

pub new-requires : goal.new-requires
unfolding heap_in
new-requires g c = record { empty = nothing_stands _ _ c.plain_with_marks-memory.ensures }

-- the entry that was followed stands behind those before it
followed_on : (g : givens.Over) (c : After-push g)
    → c.push.new.self.items ≡ take (c.loop-place.place + 1) c.args.schedule.now
followed_on g c = c.push.ensures.items
    ∙ (ap (λ (entries : List Entry).
    entries ++ get_or c.args.schedule.now c.loop-place.place none ∷ [])
    c.loop-place.invariant.followed
    ∙ sym (take_more c.args.schedule.now c.loop-place.place none c.loop-place-test.true))

pub push-requires-clause-room : goal.push-requires-clause-room
push-requires-clause-room g c =
    let size = ap {B = ℕ} (λ (entries : List Entry). length entries)
    c.loop-place.invariant.followed in
    let few = length-take c.loop-place.place c.args.schedule.now in
    omega (arith, size, few, c.loop-place-test.true, c.loop-place.invariant.spaced)

pub push-requires-clause-few : goal.push-requires-clause-few
push-requires-clause-few g c =
    let size = ap {B = ℕ} (λ (entries : List Entry). length entries)
    c.loop-place.invariant.followed in
    let few = length-take c.loop-place.place c.args.schedule.now in
    omega (arith, size, few, c.loop-place-test.true, c.loop-place.invariant.bounded)

pub push_part-requires-clause-room : goal.push_part-requires-clause-room
push_part-requires-clause-room g c =
    let size = ap {B = ℕ} (λ (entries : List Entry). length entries)
    c.loop-place.invariant.followed in
    let few = length-take c.loop-place.place c.args.schedule.now in
    omega (arith, size, few, c.loop-place-test.true, c.loop-place.invariant.spaced)

pub push_part-requires-clause-few : goal.push_part-requires-clause-few
push_part-requires-clause-few g c =
    let size = ap {B = ℕ} (λ (entries : List Entry). length entries)
    c.loop-place.invariant.followed in
    let few = length-take c.loop-place.place c.args.schedule.now in
    omega (arith, size, few, c.loop-place-test.true, c.loop-place.invariant.bounded)

pub loop-place-preserved : goal.loop-place-preserved
loop-place-preserved g c =
    let at = (goal.at.loop-place-preserved g c).After-push in
    let given = c.args.schedule.now in
    let i = c.loop-place.place in
    let entry : Entry = get_or given i none in
    let lt : i < length given = c.loop-place-test.true in
    let all : c.follow_entry-made.result ≡ entry.steps =
    omega (arith, c.follow_entry-made.ensures.within, c.if-made-entry.false) in
    let most_same = ap (λ (m : Bounds). m.entries) c.follow_entry-made.ensures.most in
    record {
      program = c.follow_entry-made.ensures.program ∙ c.loop-place.invariant.program;
      most = ap (λ (m : Bounds). m.output) c.follow_entry-made.ensures.most
          ∙ c.loop-place.invariant.most;
      calling = c.follow_entry-made.ensures.calling_on all;
      spare = omega (
        arith,
        lt,
        c.follow_entry-made.ensures.longer,
        c.follow_entry-made.ensures.capacity,
        c.loop-place.invariant.spare,
      );
      fewer = omega (
        arith,
        lt,
        most_same,
        c.follow_entry-made.ensures.longer,
        c.loop-place.invariant.fewer,
      );
      followed = followed_on g at;
      spaced = omega (arith, c.push.ensures.capacity, c.loop-place.invariant.spaced);
      bounded = omega (arith, c.push.ensures.most, c.loop-place.invariant.bounded);
      fits = c.follow_entry-made.ensures.fits;
      going = sym c.has_failed-in-loop-place.ensures ∙ c.if-has_failed.false;
      still = λ unseen. let before = c.loop-place.invariant.still unseen in
          c.follow_entry-made.ensures.still (ap (λ (s : Sight). s.watching) before ∙ unseen) ∙ before;
      shown = c.follow_entry-made.ensures.shown c.args.screen.now.seen c.loop-place.invariant.shown;
      at = after_next c.args.task.program.now given i none _ lt
          (c.follow_entry-made.ensures.all all
          ∙ ap (λ (w : World). after_moves w (moves_of entry entry.steps))
          c.loop-place.invariant.at);
    }

-- the world at the end
finished_world : (g : givens.Over) (c : After-report_of-2 g)
    → world_at c.loop-place.vault ≡ world c.args.task.program.now
    c.report_of-2.result.schedule.items
finished_world g c = c.loop-place.invariant.at
    ∙ ap (world c.args.task.program.now)
    (sym (ap (λ (v : _). v.items) c.report_of-2.ensures.schedule
    ∙ c.loop-place.invariant.followed))

-- the steps where memory ran out
stopped_moves : (g : givens.Over) (c : After-report_of g)
    → moves c.report_of.result.schedule.items ≡ moves
    (take c.loop-place.place c.args.schedule.now)
    ++ replicate c.follow_entry-made.result
    (plain_move (get_or c.args.schedule.now c.loop-place.place none).context)
stopped_moves g c =
    let entry : Entry = get_or c.args.schedule.now c.loop-place.place none in
    rw c.report_of.ensures.schedule
    (c.push_part.ensures.moves ∙ ap (λ (entries : List Entry). moves entries
    ++ replicate c.follow_entry-made.result (plain_move entry.context))
    c.loop-place.invariant.followed)

-- the world where memory ran out
stopped_world : (g : givens.Over) (c : After-report_of g)
    → world_at c.follow_entry-made.new.vault ≡ world c.args.task.program.now
    c.report_of.result.schedule.items
stopped_world g c =
    let given = c.args.schedule.now in
    let i = c.loop-place.place in
    let entry : Entry = get_or given i none in
    after_part c.args.task.program.now (take i given) c.report_of.result.schedule.items
    c.follow_entry-made.result entry.context (world_at c.loop-place.vault)
    (world_at c.follow_entry-made.new.vault)
    c.loop-place.invariant.at (c.follow_entry-made.ensures.part c.if-made-entry.true)
    (stopped_moves g c)

-- ---- within an entry

stopped_prints : (g : givens.Over) (c : After-report_of g)
    → c.report_of.result.printed.items
    ≡ printed c.args.task.program.now c.report_of.result.schedule.items
unfolding printed
stopped_prints g c =
    ap (λ (v : _). v.items) c.report_of.ensures.printed
    ∙ (c.into_printed.ensures.printed ∙ ap (λ (w : World). w.printed)
    (ap world_at c.cut_outcome-outcome.ensures.same ∙ stopped_world g c))

stopped_begins : (g : givens.Over) (c : After-report_of g)
    → Begins c.report_of.result.schedule.items c.args.schedule.now
stopped_begins g c =
    begins_with_part c.args.schedule.now c.report_of.result.schedule.items c.loop-place.place
    c.follow_entry-made.result none c.loop-place-test.true c.if-made-entry.true
    (stopped_moves g c)

stopped_cut : (g : givens.Over) (c : After-report_of g)
    → IsCutOf c.args.schedule.now c.report_of.result.schedule.items
stopped_cut g c = record {
  place = c.loop-place.place;
  context = (get_or c.args.schedule.now c.loop-place.place none).context;
  steps = c.follow_entry-made.result;
  is = ap (λ (v : _). v.items) c.report_of.ensures.schedule
      ∙ (c.push_part.ensures.entry
      ∙ ap (λ (entries : List Entry). entries
      ++ entry_of (get_or c.args.schedule.now c.loop-place.place none).context
      c.follow_entry-made.result) c.loop-place.invariant.followed);
}

uncollected : (g : givens.Over) (c : After-report_of g) → IsUncollected c.report_of.result
uncollected g c = (c.report_of.ensures.flips, c.report_of.ensures.taken)

-- where memory ran out, the next step of the given schedule may want some
stopped_wants : (g : givens.Over) (c : After-report_of g)
    → c.follow_entry-made.new.screen.failed ≡ false
    → MayWantNext g.S.Interpret.asks c.args.task.program.now c.args.schedule.now
    c.report_of.result.schedule.items
stopped_wants g c going =
    let entry : Entry = get_or c.args.schedule.now c.loop-place.place none in
    let made = c.report_of.result.schedule.items in
    let refused : Bool = entry.refused && (c.follow_entry-made.result + 1 == entry.steps) in
    let after : World = world c.args.task.program.now made in
    let whose = context_behind_part c.args.schedule.now made c.loop-place.place
    c.follow_entry-made.result none c.loop-place-test.true c.if-made-entry.true
    (stopped_moves g c) in
    let how = refused_behind c.args.schedule.now made c.loop-place.place
    c.follow_entry-made.result none c.loop-place-test.true c.if-made-entry.true
    (stopped_moves g c) in
    subst (λ (k : ℕ).
    MayWant g.S.Interpret.asks true k (is_next_refused c.args.schedule.now made) after) (sym whose)
    (subst (λ (b : Bool). MayWant g.S.Interpret.asks true entry.context b after) (sym how)
    (subst (MayWant g.S.Interpret.asks true entry.context refused) (stopped_world g c)
    (c.follow_entry-made.ensures.starved c.if-made-entry.true going)))

pub returns-then-made-entry-clause-run : goal.returns-then-made-entry-clause-run
returns-then-made-entry-clause-run g c =
    let at = (goal.at.returns-then-made-entry-clause-run g c).After-report_of in
    let given = c.args.schedule.now in
    let made : List Entry = c.report_of.result.schedule.items in
    let told : c.report_of.result.outcome ≡ c.cut_outcome-outcome.result =
    c.report_of.ensures.outcome in
    let known : is_memory c.report_of.result.outcome ≡ not c.follow_entry-made.new.screen.failed =
    ap is_memory told ∙ (c.cut_outcome-outcome.ensures.memory ∙ ap not c.has_failed.ensures) in
    by_failed c.follow_entry-made.new.screen.failed given
    (λ part. IsReplayOf g.S.Interpret.asks c.args.task.program.now part c.report_of.result)
    (λ going. record {
      prints = stopped_prints g at;
      begins = stopped_begins g at;
      cut = stopped_cut g at;
      whole = λ is. absurd (true≢false (sym (known ∙ ap not going) ∙ is));
      refused = λ _. fewer_with_part given made c.loop-place.place
          c.follow_entry-made.result none c.loop-place-test.true c.if-made-entry.true
          (stopped_moves g at);
      ends = memory_ends (world c.args.task.program.now made) _ c.report_of.result.outcome
          (known ∙ ap not going) (ready_not_over (world c.args.task.program.now made)
          (next_identifier given made) (stopped_wants g at going).ready)
          (stopped_wants g at going);
      uncollected = uncollected g at;
    })
    (λ failed. (
      made,
      stopped_begins g at,
      stopped_cut g at,
      replay_whole g.S.Interpret.asks c.args.task.program.now c.report_of.result (stopped_prints g at)
          (known ∙ ap not failed)
          (subst (EndsAs (world c.args.task.program.now made) true ⊥) (sym told)
          (subst (λ (w : World). EndsAs w true ⊥ c.cut_outcome-outcome.result)
          (stopped_world g at) (c.cut_outcome-outcome.ensures.ended
          (c.has_failed.ensures ∙ failed)))) (uncollected g at),
    ))

pub returns-then-made-entry-clause-shown : goal.returns-then-made-entry-clause-shown
returns-then-made-entry-clause-shown g c =
    subst (HasShown c.args.screen.now.seen c.follow_entry-made.new.screen)
    (sym (ap (λ (v : _). v.items) c.report_of.ensures.printed
    ∙ (c.into_printed.ensures.printed
    ∙ ap (λ s. (world_at s).printed) c.cut_outcome-outcome.ensures.same)))
    (c.follow_entry-made.ensures.shown c.args.screen.now.seen c.loop-place.invariant.shown)

-- ---- behind one

behind_world : (g : givens.Over) (c : After-report_of-then-has_failed g)
    → world_at c.follow_entry-made.new.vault ≡ world c.args.task.program.now
    c.report_of-then-has_failed.result.schedule.items
behind_world g c =
    let given = c.args.schedule.now in
    let i = c.loop-place.place in
    let all : c.follow_entry-made.result ≡ (get_or given i none).steps =
    omega (arith, c.follow_entry-made.ensures.within, c.if-made-entry.false) in
    after_next c.args.task.program.now given i none _ c.loop-place-test.true
    (c.follow_entry-made.ensures.all all
    ∙ ap (λ (w : World). after_moves w (moves_of (get_or given i none) (get_or given i none).steps))
    c.loop-place.invariant.at)
    ∙ ap (world c.args.task.program.now) (sym (ap (λ (v : _). v.items) c.report_of-then-has_failed.ensures.schedule
    ∙ followed_on g (goal.at.After-report_of-then-has_failed g c).After-push))

pub returns-then-has_failed-clause-run : goal.returns-then-has_failed-clause-run
returns-then-has_failed-clause-run g c =
    let at = (goal.at.returns-then-has_failed-clause-run g c).After-report_of-then-has_failed in
    let given = c.args.schedule.now in
    let made : List Entry = c.report_of-then-has_failed.result.schedule.items in
    let is : made ≡ take (c.loop-place.place + 1) given =
    ap (λ (v : _). v.items) c.report_of-then-has_failed.ensures.schedule
    ∙ followed_on g (goal.at.returns-then-has_failed-clause-run g c).After-push in
    let failed : c.follow_entry-made.new.screen.failed ≡ true =
    sym c.has_failed-in-loop-place.ensures ∙ c.if-has_failed.true in (
      made,
      subst (λ (m : List Entry). Begins m given) (sym is)
          (begins_first (c.loop-place.place + 1) given),
      subst (IsCutOf given) (sym is) (cut_first (c.loop-place.place + 1) given),
      λ going. absurd (true≢false (sym failed ∙ going)),
      replay_whole g.S.Interpret.asks c.args.task.program.now c.report_of-then-has_failed.result
          (ap (λ (v : _). v.items) c.report_of-then-has_failed.ensures.printed
          ∙ (c.into_printed-then-has_failed.ensures.printed ∙ printed_at _ _ _
          (ap world_at c.outcome-outcome.ensures.same ∙ behind_world g at)))
          (ap is_memory c.report_of-then-has_failed.ensures.outcome ∙ c.outcome-outcome.ensures.known)
          (subst (EndsAs (world c.args.task.program.now made) true ⊥)
          (sym c.report_of-then-has_failed.ensures.outcome)
          (subst (λ (w : World). EndsAs w true ⊥ c.outcome-outcome.result)
          (behind_world g at) c.outcome-outcome.ensures.ends))
          (c.report_of-then-has_failed.ensures.flips, c.report_of-then-has_failed.ensures.taken),
    )

pub returns-then-has_failed-clause-shown : goal.returns-then-has_failed-clause-shown
returns-then-has_failed-clause-shown g c =
    subst (HasShown c.args.screen.now.seen c.follow_entry-made.new.screen)
    (sym (ap (λ (v : _). v.items) c.report_of-then-has_failed.ensures.printed
    ∙ (c.into_printed-then-has_failed.ensures.printed
    ∙ ap (λ s. (world_at s).printed) c.outcome-outcome.ensures.same)))
    (c.follow_entry-made.ensures.shown c.args.screen.now.seen c.loop-place.invariant.shown)

-- ---- at the end

pub returns-clause-run : goal.returns-clause-run
returns-clause-run g c =
    let at = (goal.at.returns-clause-run g c).After-report_of-2 in
    let given = c.args.schedule.now in
    let made : List Entry = c.report_of-2.result.schedule.items in
    let is : made ≡ given = ap (λ (v : _). v.items) c.report_of-2.ensures.schedule
    ∙ c.loop-place.invariant.followed
    ∙ take_all c.loop-place.place given (omega (arith, c.loop-place-test.false)) in
    whole_run c.loop-place.screen.failed given made
    (λ part. IsReplayOf g.S.Interpret.asks c.args.task.program.now part c.report_of-2.result) is
    (replay_whole g.S.Interpret.asks c.args.task.program.now c.report_of-2.result
    (ap (λ (v : _). v.items) c.report_of-2.ensures.printed
    ∙ (c.into_printed-2.ensures.printed ∙ printed_at _ _ _
    (ap world_at c.outcome-outcome-2.ensures.same ∙ finished_world g at)))
    (ap is_memory c.report_of-2.ensures.outcome ∙ c.outcome-outcome-2.ensures.known)
    (subst (EndsAs (world c.args.task.program.now made) true ⊥) (sym c.report_of-2.ensures.outcome)
    (subst (λ (w : World). EndsAs w true ⊥ c.outcome-outcome-2.result)
    (finished_world g at) c.outcome-outcome-2.ensures.ends))
    (c.report_of-2.ensures.flips, c.report_of-2.ensures.taken))

pub returns-clause-shown : goal.returns-clause-shown
returns-clause-shown g c =
    subst (HasShown c.args.screen.now.seen c.loop-place.screen)
    (sym (ap (λ (v : _). v.items) c.report_of-2.ensures.printed
    ∙ (c.into_printed-2.ensures.printed
    ∙ ap (λ s. (world_at s).printed) c.outcome-outcome-2.ensures.same)))
    c.loop-place.invariant.shown
