use Rattle.std.proofs.Common.{refl, ◌∙◌}
use Rattle.ps_cuts.proofs.Standing.{entry_made, entry_ready, none_before, none_behind}
use Rattle.ps_cuts.proofs.runs.PlainRun.retrace.Goals as goal

pub loop-entry-init : goal.loop-entry-init
loop-entry-init g c = record {
  program = refl;
  made = c.requires.made;
  steps = none_before c.entries-left.result c.args.self.now.vault.schedule
      c.args.schedule.now.items c.requires.none c.entries-left.ensures;
}

pub follow-requires-clause-ready : goal.follow-requires-clause-ready
follow-requires-clause-ready g c =
    entry_ready c.args.schedule.now.items c.requires.plain c.loop-entry.self.vault
    c.in-Some.entry c.loop-entry.left c.next.new.self c.loop-entry.invariant.steps
    c.in-Some.ensures c.args.self.now.vault.program c.loop-entry.invariant.program
    c.requires.proper

pub loop-entry-preserved : goal.loop-entry-preserved
loop-entry-preserved g c = record {
  program = c.in_ok-follow.ensures.program ∙ c.loop-entry.invariant.program;
  made = c.in_ok-follow.ensures.made;
  steps = entry_made c.args.schedule.now.items c.requires.plain c.loop-entry.self.vault
      c.in-Some.entry c.loop-entry.left c.next.new.self c.loop-entry.invariant.steps
      c.in-Some.ensures c.follow.new.self.vault.schedule c.in_ok-follow.ensures.steps;
}

pub returns-clause-steps : goal.returns-clause-steps
returns-clause-steps g c =
    none_behind c.loop-entry.self.vault.schedule c.loop-entry.left c.args.schedule.now.items
    c.loop-entry.invariant.steps c.in_default.ensures.0
