-- What is told of the world that the desk is at is told of that of program and schedule.
use Rattle.std.proofs.Common.{subst}
use Rattle.ps_ctx.specs.Calls.{over_of}
use Rattle.ps_ctx.specs.Held.{held}
use Rattle.ps_ctx_readers.specs.Values.{IsTold}
use Rattle.ps_vault.specs.Stories.{Story, world_at}
use Rattle.ps_vault.proofs.Told.{lowest_now, tells, told_same}
use Rattle.ps_vault.proofs.vaults.Vault.tell.Goals as goal

pub returns-clause-told : goal.returns-clause-told
returns-clause-told g c =
    let inside = c.self.inside in
    let told = tells (held (over_of g.M.Memory.heap g.M.Memory.grants inside.runtime
    inside.world.contexts) inside.world.calling) inside.schedule.items c.self.invariant in
    subst (λ (s : Story). IsTold (world_at s) c.args.context c.args.place c.args.room.now
    c.tell_at.new.room c.tell_at.result) c.self.view_is
    (told_same _ _ told c.args.place c.args.context _ _ _
    (c.tell_at.ensures.told told.now told.at
    (lowest_now _ _ told c.args.place c.args.context)))
