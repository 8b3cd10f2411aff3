use Rattle.std.proofs.Common.{◌≡◌, ◌≤◌, ◌++◌, take, length, vec_capacity}
use Rattle.ps_run_schedules.specs.Texts.{text_of}
use Rattle.ps_run_schedules.proofs.writing.append_schedule.Given as goal

-- the lines so far stand behind what stood before
abbrev pub invariant-loop-entry : goal.invariant-loop-entry
invariant-loop-entry l = record {
  is : l.text.items ++ text_of l.left ≡ l.initial.text.items ++ text_of l.fn.entries;
  front : take (length l.initial.text.items) l.text.items ≡ l.initial.text.items;
  capacity : vec_capacity l.initial.text ≤ vec_capacity l.text;
}

abbrev pub decreases-loop-entry : goal.decreases-loop-entry
decreases-loop-entry l = length l.left
