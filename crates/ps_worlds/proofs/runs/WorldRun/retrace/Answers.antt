use Rattle.std.proofs.Common.{refl, ◌∙◌}
use Rattle.ps_cuts.proofs.Standing.{entry_made, entry_ready, none_before, none_behind}
use Rattle.ps_worlds.proofs.Following.{story_of}
use Rattle.ps_worlds.proofs.runs.WorldRun.retrace.Goals as goal

pub loop-entry-init : goal.loop-entry-init
loop-entry-init g c = record {
  program = refl;
  made = c.requires.made;
  steps = none_before c.entries-left.result c.args.self.now.path.items
      c.args.schedule.now.items c.requires.none c.entries-left.ensures;
}

pub follow-requires-clause-ready : goal.follow-requires-clause-ready
follow-requires-clause-ready g c =
    entry_ready c.args.schedule.now.items c.requires.plain (story_of c.loop-entry.self.runtime.shared.program.now c.loop-entry.self.path.items)
    c.in-Some.entry c.loop-entry.left c.next.new.self c.loop-entry.invariant.steps
    c.in-Some.ensures c.args.self.now.runtime.shared.program.now c.loop-entry.invariant.program
    c.requires.proper

pub loop-entry-preserved : goal.loop-entry-preserved
loop-entry-preserved g c = record {
  program = c.in_ok-follow.ensures.program ∙ c.loop-entry.invariant.program;
  made = c.in_ok-follow.ensures.made;
  steps = entry_made c.args.schedule.now.items c.requires.plain (story_of c.loop-entry.self.runtime.shared.program.now c.loop-entry.self.path.items)
      c.in-Some.entry c.loop-entry.left c.next.new.self c.loop-entry.invariant.steps
      c.in-Some.ensures c.follow.new.self.path.items c.in_ok-follow.ensures.steps;
}

pub returns-clause-steps : goal.returns-clause-steps
returns-clause-steps g c =
    none_behind c.loop-entry.self.path.items c.loop-entry.left c.args.schedule.now.items
    c.loop-entry.invariant.steps c.in_default.ensures.0
