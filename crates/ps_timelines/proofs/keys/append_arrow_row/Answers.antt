-- Its parts one behind another.
use Rattle.std.proofs.lemmas.Result.{on_ok_weaker}
use Rattle.ps_timelines.specs.Keys.{arrow_row_text}
use Rattle.ps_timelines.proofs.Appended.{three}
use Rattle.ps_timelines.proofs.keys.append_arrow_row.Goals as goal

pub returns-clause-appended : goal.returns-clause-appended
unfolding arrow_row_text
returns-clause-appended c =
    on_ok_weaker c.append_arrow_key-3.result
    (three c.args.to.now.items c.append_arrow_key.new.to.items c.append_arrow_key-2.new.to.items c.append_arrow_key-3.new.to.items _ _ _
    c.in_ok-append_arrow_key.ensures.appended c.in_ok-append_arrow_key-2.ensures.appended)
    c.append_arrow_key-3.ensures.appended
