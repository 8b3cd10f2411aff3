use Rattle.std.proofs.Common.{◌≡◌, sym, subst}
use Rattle.ps_core_machine.specs.Bounds.{AllLow}
use Rattle.ps_core.proofs.collector.CollectorPart.store_copy.Goals as goal

pub copied-requires : goal.copied-requires
copied-requires c = let e : c.replace-pairs.result.items ≡ c.args.self.now.pairs = cc in
    subst AllLow (sym e) c.requires.low
