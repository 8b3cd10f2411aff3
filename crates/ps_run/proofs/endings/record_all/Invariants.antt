use Rattle.std.proofs.Common.{◌≡◌, ◌≤◌, ◌-◌, ℕ, List, length, Some}
use Rattle.ps_run.specs.Driving.{AreRecorded, IsRecordName, names_of}
use Rattle.ps_run.proofs.endings.record_all.Given as goal

-- those so far are recorded, and no other file has changed
abbrev pub invariant-loop-number : goal.invariant-loop-number
invariant-loop-number g l = record {
  within : l.number ≤ length l.endings;
  recorded : AreRecorded (g.F.FileSet.contents l.outside.files) (Some l.prefix) l.endings l.number;
  told : l.outside.err ≡ l.fn.outside.err;
  others : (other : List ℕ) → ¬ IsRecordName (names_of l.options).recorded
      (Some (length l.endings)) other
      → g.F.FileSet.contents l.outside.files other ≡ g.F.FileSet.contents l.fn.outside.files other;
  reads : g.F.FileSet.last_fault l.outside.files ≡ g.F.FileSet.last_fault l.fn.outside.files;
  writes : g.F.FileSet.is_unwritten l.outside.files ≡ g.F.FileSet.is_unwritten l.fn.outside.files;
}

abbrev pub decreases-loop-number : goal.decreases-loop-number
decreases-loop-number g l = length l.endings - l.number
