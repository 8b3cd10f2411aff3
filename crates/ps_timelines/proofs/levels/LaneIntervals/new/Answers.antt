-- Nothing is drawn yet.
use Rattle.ps_timelines.specs.declared.series.Series.TheVariants.{Ready, Lock, Condition, Join, Steps, Owner, Print, Error}
use Rattle.ps_timelines.proofs.Stretching.{none_drawn, shown}
use Rattle.ps_timelines.proofs.levels.LaneIntervals.new.Goals as goal

pub returns : goal.returns
returns c = λ n. shown _ _ (none_drawn Ready n _ c.new-2.ensures.items)
    (none_drawn Lock n _ c.new-3.ensures.items) (none_drawn Condition n _ c.new-4.ensures.items)
    (none_drawn Join n _ c.new-5.ensures.items) (none_drawn Steps n _ c.new.ensures.items)
    (none_drawn Owner n _ c.new-6.ensures.items) (none_drawn Print n _ c.new-7.ensures.items)
    (none_drawn Error n _ c.new-8.ensures.items)
