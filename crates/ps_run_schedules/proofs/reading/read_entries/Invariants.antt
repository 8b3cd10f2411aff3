use Rattle.std.proofs.Common.{◌≡◌, ◌++◌, length}
use Rattle.ps_run_schedules.specs.Texts.{AreEntries, text_of}
use Rattle.ps_run_schedules.proofs.reading.read_entries.Given as goal

-- the text so far is that of the entries so far
abbrev pub invariant-loop-rest : goal.invariant-loop-rest
invariant-loop-rest l = record {
  entries : AreEntries l.entries.items;
  is : text_of l.initial.entries.items ++ l.bytes ≡ text_of l.entries.items ++ l.rest;
}

abbrev pub decreases-loop-rest : goal.decreases-loop-rest
decreases-loop-rest l = length l.rest
