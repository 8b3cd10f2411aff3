use Rattle.std.specs.Prelude.{[]}
use Rattle.ps_table.proofs.gc_steps.gc_fill.Given as goal

abbrev pub ghosts-gc_fill_named : goal.ghosts-gc_fill_named
ghosts-gc_fill_named g a = record { address = 0; field = 0; roots = []; scans = a.scans }
