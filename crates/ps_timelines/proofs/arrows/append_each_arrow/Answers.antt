-- What stood before stays, also where an arrow finds no room.
use Rattle.ps_timelines.proofs.Appended.{front_behind}
use Rattle.ps_timelines.proofs.arrows.append_each_arrow.Goals as goal

pub returns-in_err-append_arrow-clause-front : goal.returns-in_err-append_arrow-clause-front
returns-in_err-append_arrow-clause-front c =
    front_behind c.args.to.now.items c.loop-arrow.to.items c.append_arrow.new.to.items _
    c.loop-arrow.invariant c.append_arrow.ensures.front
