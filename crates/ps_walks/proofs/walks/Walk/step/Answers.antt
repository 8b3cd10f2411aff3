use Rattle.ps_language.specs.Step.{step}
use Rattle.ps_language.specs.World.{World}
use Rattle.ps_language.specs.Worlds.{after_move}
use Rattle.ps_run_schedules.specs.Turns.{move_of}
use Rattle.ps_ctx_table.specs.Desks.{Desk}
use Rattle.ps_walks.specs.Walks.{desk_in}
use Rattle.ps_walks.proofs.Knowing.{before_kept}
use Rattle.ps_walks.proofs.Walking.{at_held, ready_is_there, world_same}
use Rattle.ps_walks.proofs.walks.Walk.step.Goals as goal

pub step-requires-clause-there : goal.step-requires-clause-there
step-requires-clause-there g c =
    let d : Desk = desk_in g.M.Memory.heap g.M.Memory.grants c.args.self.now.runtime
    c.args.self.now.world in
    let at = c.requires.stands.at in
    ready_is_there d at.0 c.args.context at.1 (c.requires.ready at.0 at.1)

pub behind-requires-clause-held : goal.behind-requires-clause-held
behind-requires-clause-held g c =
    let stepped = c.step.ensures.keeps in
    let keeps = rw c.known_of-known.ensures.heap at stepped in
    before_kept (g.M.Memory.heap c.args.self.now.runtime.memory)
    (g.M.Memory.heap c.step.new.runtime.memory) keeps c.known_of-known.result
    c.known_of-known.ensures.held

pub returns-clause-made : goal.returns-clause-made
unfolding step
returns-clause-made g c = λ w is.
    let known = c.known_of-known in
    let at = world_same g.M.Memory.heap g.M.Memory.grants c.args.self.now.world _ _
    known.ensures.heap known.ensures.grants known.ensures.shared w is in
    let d : Desk = desk_in g.M.Memory.heap g.M.Memory.grants known.new.runtime
    c.args.self.now.world in
    let held = at_held d c.args.self.now.world.calling w c.requires.stands.calling at in
    let met = c.step.ensures.meets w held (c.requires.ready w is) in
    let made = rw c.in-Ok.is at met in
    let after : World = after_move w (move_of c.args.context c.args.refused c.args.shown) in
    world_same g.M.Memory.heap g.M.Memory.grants c.step.new.self c.step.new.runtime
    c.behind.new.runtime c.behind.ensures.heap c.behind.ensures.grants c.behind.ensures.shared
    after made.0
