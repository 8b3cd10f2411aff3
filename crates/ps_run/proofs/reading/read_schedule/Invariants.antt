use Rattle.std.proofs.Common.{◌≡◌, ◌++◌, List, ℕ, Some}
use Rattle.ps_run_schedules.specs.Texts.{AreEntries, text_of}
use Rattle.ps_run.proofs.ReadParts.{IsReadTo}
use Rattle.ps_run.proofs.reading.read_schedule.Given as goal

-- what was read of the file is the lines of the entries and the text behind them, and nothing else
-- has changed
abbrev pub invariant-loop : goal.invariant-loop
invariant-loop g l = record {
  entries : AreEntries l.entries.items;
  read : (known : List ℕ) → g.F.FileSet.left l.initial.files ≡ Some known
      → IsReadTo known (text_of l.entries.items ++ l.text.items) (g.F.FileSet.left l.files);
  kept : g.F.FileSet.contents l.files ≡ g.F.FileSet.contents l.initial.files;
  last : g.F.FileSet.last_fault l.files ≡ g.F.FileSet.last_fault l.initial.files;
  writes : g.F.FileSet.is_unwritten l.files ≡ g.F.FileSet.is_unwritten l.initial.files;
}
