-- What stood before stays, also where a series finds no room.
use Rattle.ps_timelines.proofs.Appended.{front_behind}
use Rattle.ps_timelines.proofs.lanes.append_each_series.Goals as goal

pub returns-in_err-append_series-clause-front : goal.returns-in_err-append_series-clause-front
returns-in_err-append_series-clause-front c =
    front_behind c.args.to.now.items c.loop-series.to.items c.append_series.new.to.items _
    c.loop-series.invariant c.append_series.ensures.front
