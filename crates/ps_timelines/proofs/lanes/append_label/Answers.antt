-- Its parts one behind another.
use Rattle.std.proofs.Common.{◌∙◌, ◌++◌, ap}
use Rattle.std.proofs.lemmas.Result.{on_ok_weaker}
use Rattle.ps_timelines.specs.Lanes.{label_text}
use Rattle.ps_timelines.specs.Texts.{escaped}
use Rattle.ps_timelines.proofs.Appended.{four}
use Rattle.ps_timelines.proofs.lanes.append_label.Goals as goal

pub returns-clause-appended : goal.returns-clause-appended
unfolding label_text
returns-clause-appended c =
    on_ok_weaker c.append.result
    (four c.args.to.now.items c.append_label_begin.new.to.items c.append_between.new.to.items c.append_escaped.new.to.items c.append.new.to.items _ _ _ _
    c.in_ok-append_label_begin.ensures.appended c.in_ok-append_between.ensures.appended (c.in_ok-append_escaped.ensures.appended
    ∙ ap (λ t. c.append_between.new.to.items ++ escaped t) c.as_slice.ensures.value))
    c.append.ensures.appended
