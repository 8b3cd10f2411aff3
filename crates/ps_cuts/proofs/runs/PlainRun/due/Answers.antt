use Rattle.std.proofs.Common.{ap, sym, ◌∙◌}
use Rattle.ps_language.specs.Schedules.{moves}
use Rattle.ps_language.specs.World.{World}
use Rattle.ps_language.specs.Worlds.{after_moves, starting_world}
use Rattle.ps_vault.specs.Stories.{world_at}
use Rattle.ps_cuts.specs.Cuts.{next_round}
use Rattle.ps_cuts.proofs.Standing.{world_is}
use Rattle.ps_cuts.proofs.Whose.{due_round}
use Rattle.ps_cuts.proofs.runs.PlainRun.due.Goals as goal

pub returns-in-None-clause-due : goal.returns-in-None-clause-due
returns-in-None-clause-due g c =
    due_round _ _ c.next_round.result (sym c.in-None.is ∙ c.going.ensures.going)
    (c.next_round.ensures.next
    ∙ (ap (λ run. next_round (world_at run.vault) run.last) c.going.ensures.same
    ∙ (ap (λ (w : World). next_round w c.args.self.now.last) (world_is c.args.self.now.vault)
    ∙ ap (next_round (after_moves (starting_world c.args.self.now.vault.program)
    (moves c.args.self.now.vault.schedule))) c.requires.made.ends)))
