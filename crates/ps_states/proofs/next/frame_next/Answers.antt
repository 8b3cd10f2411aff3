use Rattle.std.proofs.Common.{◌≡◌, sym, subst}
use Rattle.std.specs.Prelude.{IfOk}
use Rattle.ps_mem.specs.Heap.{birth_at}
use Rattle.ps_ops_control.specs.declared.frames.Frame.{Frame}
use Rattle.ps_ops_control.specs.Frames.{frame_of, IsFrameWithin}
use Rattle.ps_states.specs.Chosen.{chart_of, next_shown}
use Rattle.ps_states.specs.Next.{frame_next}
use Rattle.ps_states.proofs.next.frame_next.Goals as goal

pub returns-in-Text-clause-next : goal.returns-in-Text-clause-next
returns-in-Text-clause-next g c = λ s shows.
    let births = birth_at (g.M.Memory.heap c.args.runtime.now.memory) in
    let names = c.args.runtime.now.shared.names in
    subst (λ (frame : Frame). IsFrameWithin births names s frame → IfOk c.source_next.result
    (λ next. next_shown next ≡ frame_next (chart_of c.args.chart.now) s (frame_of births names frame)))
    (sym c.in-Text.is) (λ within. c.source_next.ensures.next names s shows within)
