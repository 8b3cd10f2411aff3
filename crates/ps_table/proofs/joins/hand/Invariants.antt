use Rattle.std.specs.Prelude.{false}
use Rattle.ps_core_laws.specs.Stores.{numbers}
use Rattle.ps_table.proofs.joins.hand.Given as goal

abbrev pub ghosts-hand_named : goal.ghosts-hand_named
ghosts-hand_named g a = record {
  address = 0;
  field = 0;
  roots = numbers a.roots.now;
  scans = false;
}
