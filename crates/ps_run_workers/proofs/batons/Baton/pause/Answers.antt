-- What it was stays, but that its vault has no program.
use Rattle.std.proofs.Common.{refl, sym, subst, ap, ◌∙◌}
use Rattle.ps_vault.specs.Stories.{Story}
use Rattle.ps_run_workers.specs.Batons.{Keeps}
use Rattle.ps_run_workers.proofs.Keeping.{progress}
use Rattle.ps_run_workers.proofs.batons.Baton.pause.Goals as goal

pub returns-clause-come : goal.returns-clause-come
returns-clause-come g c = record {
  progress = progress c.counts-counts.new.self c.self.inside.config c.self.inside.made
      c.self.inside.budget c.self.inside.screen c.self.inside.outcome;
  keeps = subst (λ (s : Story). Keeps g.S.Interpret.asks g.O.Origin.start (progress s
      c.self.inside.config c.self.inside.made c.self.inside.budget c.self.inside.screen
      c.self.inside.outcome)) (sym c.counts-counts.ensures.same) c.self.invariant;
  parked = c.park.ensures.parked;
  story = c.park.ensures.story;
  config = refl;
  made = refl;
  outcome = refl;
}
