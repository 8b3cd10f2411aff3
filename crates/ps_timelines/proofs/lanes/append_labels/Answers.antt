-- What stood before stays, also where an error finds no room.
use Rattle.ps_timelines.proofs.Appended.{front_behind}
use Rattle.ps_timelines.proofs.lanes.append_labels.Goals as goal

pub returns-in_err-append_label-clause-front : goal.returns-in_err-append_label-clause-front
returns-in_err-append_label-clause-front c =
    front_behind c.args.to.now.items c.loop-label.to.items c.append_label.new.to.items _
    c.loop-label.invariant c.append_label.ensures.front
