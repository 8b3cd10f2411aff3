-- The cuts of what was made, entry by entry.
use Rattle.std.proofs.Common.{◌++◌, List, ℕ, [], ap, arith, length, length-append, subst, sym, ◌∙◌}
use Rattle.std.specs.Prelude.{replicate}
use Rattle.std.proofs.lemmas.List.{length-replicate}
use Rattle.ps_language.specs.Schedules.{moves, plain_move}
use Rattle.ps_language.specs.Worlds.{starting_world}
use Rattle.ps_views.specs.declared.cuts.CutAt.{CutAt}
use Rattle.ps_views.specs.Cuts.{AreRising}
use Rattle.ps_cuts.specs.Cuts.{cuts_at}
use Rattle.ps_cuts.proofs.Marking.{cuts_counted, cuts_on, cuts_rising, none_counted}
use Rattle.ps_cuts.proofs.Standing.{entry_made, entry_ready, few_made, none_before, none_behind}
use Rattle.ps_cuts.proofs.cutting.cuts_of.Goals as goal

pub loop-entry-init : goal.loop-entry-init
loop-entry-init g c =
    let run = c.in_ok-run.run' in
    let start = starting_world c.args.runs.now.task.program.now in
    let none = none_counted start run.vault.schedule c.in_ok-run.ensures.none in
    record {
      program = c.in_ok-run.ensures.of.same;
      made = c.in_ok-run.ensures.of.made;
      steps = none_before c.entries-left.result run.vault.schedule c.args.schedule.now.items
          c.in_ok-run.ensures.none c.entries-left.ensures;
      here = sym none.0;
      cuts = c.new.ensures.items ∙ sym none.1;
    }

pub follow_marked-requires-clause-ready : goal.follow_marked-requires-clause-ready
follow_marked-requires-clause-ready g c =
    entry_ready c.args.schedule.now.items c.requires.plain c.loop-entry.run.vault
    c.in-Some.entry c.loop-entry.left c.next.new.self c.loop-entry.invariant.steps
    c.in-Some.ensures c.args.runs.now.task.program.now c.loop-entry.invariant.program
    c.requires.proper

pub follow_marked-requires-clause-few : goal.follow_marked-requires-clause-few
follow_marked-requires-clause-few g c =
    let here = c.loop-entry.invariant.here in
    let few = few_made c.args.schedule.now.items c.requires.plain c.loop-entry.run.vault
    c.in-Some.entry c.loop-entry.left c.next.new.self c.loop-entry.invariant.steps
    c.in-Some.ensures in
    omega (arith, here, few, c.requires.few)

pub loop-entry-preserved : goal.loop-entry-preserved
loop-entry-preserved g c =
    let old = c.loop-entry.run.vault in
    let new = c.follow_marked.new.self.vault in
    let entry = c.in-Some.entry in
    let move = plain_move entry.context in
    let start = starting_world c.args.runs.now.task.program.now in
    let steps = c.in_ok-follow_marked.ensures.steps in
    let long = length-append (moves old.schedule) (replicate entry.steps move) in
    let many = length-replicate entry.steps move in
    let size = ap {B = ℕ} length steps in
    let here = c.loop-entry.invariant.here in
    let counted = c.in_ok-follow_marked.ensures.counted in
    record {
      program = c.in_ok-follow_marked.ensures.program ∙ c.loop-entry.invariant.program;
      made = c.in_ok-follow_marked.ensures.made;
      steps = entry_made c.args.schedule.now.items c.requires.plain old entry c.loop-entry.left
          c.next.new.self c.loop-entry.invariant.steps c.in-Some.ensures new.schedule steps;
      here = omega (arith, long, many, size, here, counted);
      cuts = c.in_ok-follow_marked.ensures.cuts
          ∙ (ap (λ (cuts : List CutAt). cuts ++ cuts_at (starting_world old.program)
          (moves old.schedule) (replicate entry.steps move)) c.loop-entry.invariant.cuts
          ∙ (ap (λ (p : List ℕ). cuts_at start [] (moves old.schedule)
          ++ cuts_at (starting_world p) (moves old.schedule) (replicate entry.steps move))
          c.loop-entry.invariant.program
          ∙ (sym (cuts_on start [] (moves old.schedule) (replicate entry.steps move))
          ∙ ap (cuts_at start []) (sym steps))));
    }

pub returns-clause-cuts : goal.returns-clause-cuts
returns-clause-cuts g c =
    let start = starting_world c.args.runs.now.task.program.now in
    c.loop-entry.invariant.cuts
    ∙ ap (cuts_at start []) (none_behind c.loop-entry.run.vault.schedule c.loop-entry.left
    c.args.schedule.now.items c.loop-entry.invariant.steps c.in_default.ensures.0)

pub returns-clause-rising : goal.returns-clause-rising
returns-clause-rising g c =
    let start = starting_world c.args.runs.now.task.program.now in
    subst (AreRising 0) (sym c.loop-entry.invariant.cuts)
    (cuts_rising 0 start [] (moves c.loop-entry.run.vault.schedule) (omega arith))

pub returns-clause-count : goal.returns-clause-count
returns-clause-count g c =
    let start = starting_world c.args.runs.now.task.program.now in
    ap {B = ℕ} length (c.loop-entry.invariant.cuts
    ∙ ap (cuts_at start []) (none_behind c.loop-entry.run.vault.schedule c.loop-entry.left
    c.args.schedule.now.items c.loop-entry.invariant.steps c.in_default.ensures.0))
    ∙ cuts_counted start [] (moves c.args.schedule.now.items)
