use Rattle.std.proofs.Common.{sym, ◌∙◌, arith}
use Rattle.ps_vault.specs.Stories.{world_at}
use Rattle.ps_vault.proofs.Following.{after_ordinary}
use Rattle.ps_vault.proofs.replays.follow_ordinary.Goals as goal

-- where all of them were made
pub returns-then-is_held_up-clause-all : goal.returns-then-is_held_up-clause-all
returns-then-is_held_up-clause-all g c = λ all.
    after_ordinary (world_at c.args.vault.now) (world_at c.steps-turn.new.vault) c.args.entry
    c.steps-turn.result.made c.steps-turn.ensures.within c.requires.ordinary
    c.steps-turn.ensures.world (λ less. absurd (omega (arith, less, all)))

pub returns-clause-all : goal.returns-clause-all
returns-clause-all g c = λ _.
    after_ordinary (world_at c.args.vault.now) (world_at c.steps-turn.new.vault) c.args.entry
    c.steps-turn.result.made c.steps-turn.ensures.within c.requires.ordinary
    c.steps-turn.ensures.world (λ less. c.steps-turn.ensures.unready (sym c.is_held_up.ensures ∙ c.if-is_held_up.false) less
    (sym c.has_failed.ensures ∙ c.if-has_failed.false))
