use Rattle.std.proofs.Common.{◌≡◌, ◌≤◌, List, ℕ, Some, vec_len}
use Rattle.ps_run.specs.Driving.{most_program_bytes}
use Rattle.ps_run.proofs.ReadParts.{IsReadTo}
use Rattle.ps_run.proofs.reading.read_whole.Given as goal

-- the bytes are what was read of the file, and nothing else has changed
abbrev pub invariant-loop : goal.invariant-loop
invariant-loop g l = record {
  few : vec_len l.bytes ≤ most_program_bytes;
  read : (known : List ℕ) → g.F.FileSet.left l.initial.files ≡ Some known
      → IsReadTo known l.bytes.items (g.F.FileSet.left l.files);
  kept : g.F.FileSet.contents l.files ≡ g.F.FileSet.contents l.initial.files;
  last : g.F.FileSet.last_fault l.files ≡ g.F.FileSet.last_fault l.initial.files;
  writes : g.F.FileSet.is_unwritten l.files ≡ g.F.FileSet.is_unwritten l.initial.files;
}
