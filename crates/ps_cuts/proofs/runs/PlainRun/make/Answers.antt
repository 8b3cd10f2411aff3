use Rattle.std.proofs.Common.{◌≡◌, ◌≤◌, ◌++◌, List, ℕ, ap, refl, subst, sym, ◌∙◌}
use Rattle.std.specs.Prelude.{◌-◌, IfSome, replicate}
use Rattle.ps_language.specs.declared.schedules.Entry.{Entry}
use Rattle.ps_language.specs.Schedules.{moves, plain_move}
use Rattle.ps_language.specs.Worlds.{starting_world}
use Rattle.ps_language.specs.World.{World}
use Rattle.ps_ctx.specs.Steps.{AllFrom}
use Rattle.ps_run_schedules.specs.Turns.{added_times}
use Rattle.ps_vault.specs.Order.{IsNoEnd, NoneEnds, Tells}
use Rattle.ps_vault.proofs.Following.{times_moves}
use Rattle.ps_cuts.specs.Cuts.{holder}
use Rattle.ps_cuts.proofs.Batches.{last_is, more_plain, none_then, others_keep, some_then, turn_is}
use Rattle.ps_cuts.proofs.Standing.{world_is, world_same}
use Rattle.ps_cuts.proofs.runs.PlainRun.make.Given as givens
use Rattle.ps_cuts.proofs.runs.PlainRun.make.Goals as goal
use Rattle.ps_cuts.proofs.runs.PlainRun.make.Goals.{After-self-2-1}

-- behind the vault that has room
more : (g : givens.Over) (c : After-self-2-1 g)
    → moves c.advance-advanced.new.self.schedule ≡ moves c.reserve_entries.new.self.schedule
    ++ replicate c.advance-advanced.result.made (plain_move c.args.context)
more g c =
    ap moves (c.advance-advanced.ensures.plain refl)
    ∙ times_moves c.advance-advanced.result.made c.reserve_entries.new.self.schedule
    (plain_move c.args.context)

steps : (g : givens.Over) (c : After-self-2-1 g)
    → moves c.advance-advanced.new.self.schedule ≡ moves c.args.self.now.vault.schedule
    ++ replicate c.advance-advanced.result.made (plain_move c.args.context)
steps g c =
    more g c
    ∙ ap (λ (entries : List Entry). moves entries
    ++ replicate c.advance-advanced.result.made (plain_move c.args.context))
    c.reserve_entries.ensures.schedule

some : (g : givens.Over) (c : After-self-2-1 g) → 1 ≤ c.advance-advanced.result.made
some g c = c.advance-advanced.ensures.some (sym c.is_held_up.ensures ∙ c.if-is_held_up.false)

goes : (g : givens.Over) (c : After-self-2-1 g) → IfSome c.turn_behind-self.result
    (λ one. (one ≡ c.args.context)
    × NoneEnds (starting_world c.reserve_entries.new.self.program)
    (moves c.reserve_entries.new.self.schedule) (moves c.advance-advanced.new.self.schedule))
goes g c =
    some_then c.turn_behind-self.result
    (λ one told. (told.0, c.advance-advanced.ensures.keeps told.1))
    c.turn_behind-self.ensures.some

pub returns-clause-steps : goal.returns-clause-steps
returns-clause-steps g c = steps g c

pub returns-clause-keeps : goal.returns-clause-keeps
returns-clause-keeps g c =
    subst (λ (w : World). AllFrom (Tells IsNoEnd) w
    (replicate (c.advance-advanced.result.made - 1) (plain_move c.args.context)))
    (sym (world_is c.reserve_entries.new.self)
    ∙ world_same c.reserve_entries.new.self c.args.self.now.vault
    c.reserve_entries.ensures.program c.reserve_entries.ensures.schedule)
    (others_keep (starting_world c.reserve_entries.new.self.program)
    (moves c.reserve_entries.new.self.schedule) (moves c.advance-advanced.new.self.schedule)
    c.args.context c.advance-advanced.result.made (some g c) (more g c)
    c.turn_behind-self.result
    (none_then c.turn_behind-self.result c.advance-advanced.ensures.only_last
    c.turn_behind-self.ensures.none) (goes g c))

pub returns-clause-made : goal.returns-clause-made
returns-clause-made g c = record {
  caller = c.advance-advanced.ensures.calling_on
      (sym c.is_held_up.ensures ∙ c.if-is_held_up.false);
  kept = c.note_turn.ensures.added
      ∙ (ap (λ (entries : List Entry). added_times c.advance-advanced.result.made entries
      (plain_move c.args.context))
      (c.reserve.ensures.items ∙ (c.requires.made.kept
      ∙ sym c.reserve_entries.ensures.schedule))
      ∙ sym (c.advance-advanced.ensures.plain refl));
  plain = more_plain c.args.self.now.vault.schedule c.advance-advanced.new.self.schedule
      c.advance-advanced.result.made c.args.context c.requires.made.plain (steps g c);
  holds = turn_is (starting_world c.reserve_entries.new.self.program)
      (moves c.reserve_entries.new.self.schedule) (moves c.advance-advanced.new.self.schedule)
      c.args.context c.advance-advanced.result.made (some g c) (more g c)
      c.turn_behind-self.result
      (none_then c.turn_behind-self.result c.advance-advanced.ensures.ends
      c.turn_behind-self.ensures.none) (goes g c)
      ∙ ap (λ (p : List ℕ). holder (starting_world p)
      (moves c.advance-advanced.new.self.schedule)) (sym c.advance-advanced.ensures.program);
  ends = last_is (starting_world c.reserve_entries.new.self.program)
      (moves c.reserve_entries.new.self.schedule) (moves c.advance-advanced.new.self.schedule)
      c.args.context c.advance-advanced.result.made (some g c) (more g c);
}
