use Rattle.std.proofs.Common.{◌∙◌, arith, ap}
use Rattle.ps_worlds.proofs.Listing.{more_members}
use Rattle.ps_worlds.specs.Images.{members_in}
use Rattle.ps_worlds.proofs.members.images_of.Goals as goal

pub loop-behind-preserved : goal.loop-behind-preserved
loop-behind-preserved c =
    let made = c.made-behind-end.ensures.made in
    let below = c.loop-behind-test.true in
    ap members_in c.in_ok-push.ensures.items
    ∙ more_members c.loop-behind.images.items _ c.args.table.now c.loop-behind.behind
    (omega (arith, made, below)) c.loop-behind.invariant c.in_ok-image_at.ensures
