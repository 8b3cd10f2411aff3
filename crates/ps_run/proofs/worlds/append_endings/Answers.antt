-- The line of the next ending.
use Rattle.std.proofs.Common.{◌≡◌, ◌+◌, ◌∙◌, [], ◌++◌, drop, length, sym, ap, append-nil, append_assoc, arith}
use Rattle.ps_cuts.specs.declared.endings.Ending.{Ending}
use Rattle.ps_run_schedules.specs.Keeping.{Kept}
use Rattle.ps_views.specs.Worlds.{world_ending_line}
use Rattle.ps_views.specs.declared.worlds.WorldEnding.{WorldEnding}
use Rattle.ps_run.specs.Worlds.{line_told, lines_behind, told_as}
use Rattle.ps_run.proofs.EachWorld.{lines_over, next_line}
use Rattle.ps_run.proofs.worlds.append_endings.Goals as goal

pub loop-place-preserved : goal.loop-place-preserved
loop-place-preserved c =
    let place = c.loop-place.place in
    let endings = c.args.covered.now.endings.entries in
    let one : Ending × Kept = (c.in-Some.ending.now, c.in-Some.schedule.now) in
    let to = c.loop-place.to.items in
    let rest = lines_behind (place + 1) (drop (place + 1) endings) in
    let told : c.append_world_ending.new.to.items ≡ to ++ line_told (place + 1) one =
    c.in_ok-append_world_ending.ensures.appended
    ∙ ap (λ (line : WorldEnding). to ++ world_ending_line line c.called.result.now)
    c.told_as-told.ensures
    ∙ ap (λ outcome. to ++ world_ending_line (told_as (place + 1) one) outcome) c.called.ensures in
    record {
      lines = ap (λ t. t ++ rest) told ∙ append_assoc to (line_told (place + 1) one) rest
          ∙ ap (λ t. to ++ t) (sym (next_line place place endings one (sym c.in-Some.ensures.entry)))
          ∙ c.loop-place.invariant.lines;
    }

pub returns : goal.returns
returns c =
    let place = c.loop-place.place in
    let endings = c.args.covered.now.endings.entries in
    let count : c.len-place-end.result ≡ length endings = c.len-place-end.ensures.len in
    let over : place ≡ length endings =
    omega (arith, count, c.loop-place-test.false, c.loop-place.auto.place-end) in
    sym (append-nil c.loop-place.to.items)
    ∙ ap (λ t. c.loop-place.to.items ++ t) (sym (ap (λ n. lines_behind place (drop n endings)) over
    ∙ lines_over place endings))
    ∙ c.loop-place.invariant.lines
