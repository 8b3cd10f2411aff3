use Rattle.std.proofs.Common.{◌≡◌, sym, subst}
use Rattle.std.specs.Prelude.{IfOk}
use Rattle.ps_language.specs.World.{text_frame}
use Rattle.ps_mem.specs.Heap.{birth_at}
use Rattle.ps_ops_control.specs.declared.frames.Source.{Source}
use Rattle.ps_ops_control.specs.Frames.{source_of, IsSourceWithin}
use Rattle.ps_states.specs.Chosen.{chart_of, next_shown}
use Rattle.ps_states.specs.Next.{frame_next}
use Rattle.ps_states.proofs.next.source_next.Goals as goal

pub returns-in-Text-clause-next : goal.returns-in-Text-clause-next
returns-in-Text-clause-next g c = λ names s shows.
    let births = birth_at (g.M.Memory.heap c.args.memory.now) in
    subst (λ (source : Source). IsSourceWithin births s source → IfOk c.part_next.result
    (λ next. next_shown next
    ≡ frame_next (chart_of c.args.chart.now) s (text_frame (source_of births source) c.args.at)))
    (sym c.in-Text.is) (λ fits. c.part_next.ensures.next names s shows fits)
