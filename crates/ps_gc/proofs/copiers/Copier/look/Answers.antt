use Rattle.std.proofs.Common.{true≢false, ap, sym, ◌∙◌}
use Rattle.ps_core_machine.specs.Objects.{is_close}
use Rattle.ps_gc.proofs.copiers.Copier.look.Goals as goal

pub unreachable-requires : goal.unreachable-requires
unreachable-requires g c = true≢false (ap is_close (sym c.in-Took-Close.field-0-is)
    ∙ (c.drain_one.ensures.took _ c.in-Took-Close.is).1)
