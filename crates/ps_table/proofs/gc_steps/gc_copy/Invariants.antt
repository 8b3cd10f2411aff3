use Rattle.std.specs.Prelude.{[], false}
use Rattle.ps_table.proofs.gc_steps.gc_copy.Given as goal

abbrev pub ghosts-gc_copy_named : goal.ghosts-gc_copy_named
ghosts-gc_copy_named g a = record {
  address = a.original;
  field = a.field;
  roots = [];
  scans = false;
}
