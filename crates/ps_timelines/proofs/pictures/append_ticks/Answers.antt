-- A tick more, each time.
use Rattle.std.proofs.Common.{◌≡◌, ◌∙◌, ap, ◌++◌, arith}
use Rattle.std.specs.List.{flat_map, range_with_len}
use Rattle.ps_timelines.specs.Pictures.{tick_at, ticks_text}
use Rattle.ps_timelines.proofs.Appended.{front_behind, text_more}
use Rattle.ps_timelines.proofs.pictures.append_ticks.Goals as goal

pub returns-in_err-append_tick_at-clause-front : goal.returns-in_err-append_tick_at-clause-front
returns-in_err-append_tick_at-clause-front c =
    front_behind c.args.to.now.items c.loop-index.to.items c.append_tick_at.new.to.items _
    c.loop-index.invariant c.append_tick_at.ensures.front

pub loop-index-preserved : goal.loop-index-preserved
loop-index-preserved c =
    text_more (tick_at c.args.steps c.args.height) c.loop-index.index c.args.to.now.items c.loop-index.to.items
    c.append_tick_at.new.to.items c.loop-index.invariant c.in_ok-append_tick_at.ensures.appended

pub returns-clause-appended : goal.returns-clause-appended
unfolding ticks_text
returns-clause-appended c =
    let all : c.loop-index.index ≡ 11 = omega arith in
    c.loop-index.invariant
    ∙ ap (λ n. c.args.to.now.items ++ flat_map (tick_at c.args.steps c.args.height) (range_with_len 0 n)) all
