use Rattle.std.proofs.Common.{◌≡◌, sym, subst}
use Rattle.ps_core_machine.specs.Bounds.{AllLow}
use Rattle.ps_core.proofs.collector.CollectorPart.copy_target.Goals as goal

pub renamed-word-requires : goal.renamed-word-requires
renamed-word-requires c = let e : c.as_slice-2.result.now ≡ c.args.self.now.pairs = cc in
    subst AllLow (sym e) c.requires.low
