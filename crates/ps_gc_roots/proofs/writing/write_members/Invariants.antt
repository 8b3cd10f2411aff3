use Rattle.std.proofs.Common.{◌≡◌, ◌+◌, ◌-◌, ◌≤◌, length, drop}
use Rattle.ps_gc_roots.specs.Roots.{roots_in}
use Rattle.ps_gc_roots.specs.Renamed.{Renaming, BeginWith, renamed_members}
use Rattle.ps_gc_roots.proofs.Putting.{renamed_past}
use Rattle.ps_gc_roots.proofs.writing.write_members.Given as goal

-- the roots that are left are of those behind an identifier; they alone are to be renamed still
abbrev pub invariant-loop-next : goal.invariant-loop-next
invariant-loop-next l = record {
  count : l.at + length (roots_in (drop l.identifier l.table)) ≤ length l.roots;
  renamed : (rename : Renaming) → BeginWith rename (roots_in l.fn.table) l.roots
      → BeginWith rename (roots_in (drop l.identifier l.table)) (drop l.at l.roots)
      × (renamed_past rename l.identifier l.table ≡ renamed_members rename l.fn.table);
}

abbrev pub decreases-loop-next : goal.decreases-loop-next
decreases-loop-next l = length l.table - l.identifier
