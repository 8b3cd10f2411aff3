-- Its parts one behind another.
use Rattle.std.proofs.lemmas.Result.{on_ok_weaker}
use Rattle.ps_timelines.specs.Pictures.{all_arrows_text}
use Rattle.ps_timelines.proofs.Appended.{three}
use Rattle.ps_timelines.proofs.pictures.append_all_arrows.Goals as goal

pub returns-clause-appended : goal.returns-clause-appended
unfolding all_arrows_text
returns-clause-appended c =
    on_ok_weaker c.append_arrows-3.result
    (three c.args.to.now.items c.append_arrows.new.to.items c.append_arrows-2.new.to.items c.append_arrows-3.new.to.items _ _ _
    c.in_ok-append_arrows.ensures.appended c.in_ok-append_arrows-2.ensures.appended)
    c.append_arrows-3.ensures.appended
