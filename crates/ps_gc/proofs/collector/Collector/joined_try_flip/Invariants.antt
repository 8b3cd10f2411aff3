use Rattle.std.specs.Prelude.{false}
use Rattle.ps_core_laws.specs.Stores.{numbers}
use Rattle.ps_gc.proofs.collector.Collector.joined_try_flip.Given as goal

-- the flip carries the roots
abbrev pub ghosts-store_cycle : goal.ghosts-store_cycle
ghosts-store_cycle g a = record {
  address = 0;
  field = 0;
  roots = numbers a.roots.now;
  scans = false;
}
