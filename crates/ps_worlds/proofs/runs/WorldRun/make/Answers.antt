-- A step more, in its schedule too.
use Rattle.std.proofs.Common.{◌≡◌, ◌++◌, ◌∷◌, [], List, None, ap, ◌∙◌}
use Rattle.ps_language.specs.declared.schedules.Entry.{Entry}
use Rattle.ps_language.specs.Schedules.{added, moves, plain_move}
use Rattle.ps_language.specs.Step.{step}
use Rattle.ps_language.specs.World.{World}
use Rattle.ps_language.specs.Worlds.{world}
use Rattle.ps_language.proofs.ScheduleLaws.{moves-added}
use Rattle.ps_ctx.specs.Calls.{over_of}
use Rattle.ps_ctx_table.specs.Desks.{Desk}
use Rattle.ps_cuts.proofs.Batches.{more_plain}
use Rattle.ps_vault.proofs.Keeping.{keeps_step, ready_there}
use Rattle.ps_worlds.specs.Runs.{standing}
use Rattle.ps_worlds.proofs.Following.{at_held, here}
use Rattle.ps_worlds.proofs.runs.WorldRun.make.Given as givens
use Rattle.ps_worlds.proofs.runs.WorldRun.make.Goals as goal
use Rattle.ps_worlds.proofs.runs.WorldRun.make.Goals.{After-note}

pub step-requires-clause-there : goal.step-requires-clause-there
step-requires-clause-there g c =
    let now = c.args.self.now in
    let w : World = world now.runtime.shared.program.now now.path.items in
    let at = here (standing g.M.Memory.heap g.M.Memory.grants now) c.requires.made in
    ready_there _ _ _ w c.args.context at.contexts c.requires.ready

noted : (g : givens.Over) (c : After-note g) → c.note.new.self.items
    ≡ added c.args.self.now.path.items (plain_move c.args.context)
noted g c =
    c.note.ensures.added
    ∙ ap (λ (items : List Entry). added items (plain_move c.args.context))
    c.in_ok-reserve.ensures.items

steps : (g : givens.Over) (c : After-note g) → moves c.note.new.self.items
    ≡ moves c.args.self.now.path.items ++ plain_move c.args.context ∷ []
steps g c =
    ap moves (noted g c)
    ∙ moves-added c.args.self.now.path.items (plain_move c.args.context)

pub returns-clause-made : goal.returns-clause-made
returns-clause-made g c =
    let now = c.args.self.now in
    let w : World = world now.runtime.shared.program.now now.path.items in
    let met = c.step.ensures.meets w c.requires.made.keeps.at c.requires.ready in
    let to = rw c.in-Ok.is at met in
    record {
      keeps = rw (noted g c) (keeps_step g.S.Interpret.asks c.args.context _ None _ _
          now.path.items c.requires.made.keeps c.requires.ready c.in-Ok.field-0
          (rw c.in-Ok.is at c.step.ensures));
      calling = to.1;
      plain = more_plain now.path.items c.note.new.self.items 1 c.args.context
          c.requires.made.plain (steps g c);
    }

pub returns-clause-steps : goal.returns-clause-steps
returns-clause-steps g c = steps g c

pub returns-clause-at : goal.returns-clause-at
unfolding step
returns-clause-at g c = λ w is ready.
    let now = c.args.self.now in
    let d : Desk = over_of g.M.Memory.heap g.M.Memory.grants now.runtime now.world.contexts in
    let held = at_held d now.world.calling w c.requires.made.calling is in
    let met = c.step.ensures.meets w held ready in
    let made = rw c.in-Ok.is at met in
    made.0
