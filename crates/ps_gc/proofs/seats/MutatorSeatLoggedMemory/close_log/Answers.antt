use Rattle.std.proofs.Common.{ap, sym, ◌∙◌}
use Rattle.ps_mem.specs.Heap.{Grants}
use Rattle.ps_table.proofs.Full.{full_left}
use Rattle.ps_gc.proofs.seats.MutatorSeatLoggedMemory.close_log.Goals as goal

pub returns-clause-full : goal.returns-clause-full
returns-clause-full g c = λ full.
    let kept = c.close.ensures.kept full in (
      ap (λ (g : Grants). g.records c.args.slot) (sym kept)
          ∙ full_left c.close.new.self.seat.me.0.vm c.args.slot c.close.ensures.still_open
          (c.close.ensures.full full),
      kept,
    )
