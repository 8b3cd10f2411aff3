use Rattle.std.proofs.Common.{◌≡◌, ◌-◌, ◌≤◌, ◌++◌, length, take, drop}
use Rattle.std.specs.Prelude.{vec_capacity}
use Rattle.std.specs.List.{flat_map}
use Rattle.ps_language.specs.Texts.{escaped}
use Rattle.ps_text.specs.Shown.{GoesOn}
use Rattle.ps_text.proofs.escapes.append_mixed.Given as goal

-- what is written and the escapes of the bytes that are left are the whole
abbrev pub invariant-loop-index : goal.invariant-loop-index
invariant-loop-index l = record {
  within : l.index ≤ length l.bytes;
  goes_on : GoesOn l.end l.initial.output.items l.output.items;
  capacity : vec_capacity l.initial.output ≤ vec_capacity l.output;
  rest : take l.end (l.output.items ++ flat_map escaped (drop l.index l.bytes))
      ≡ take l.end (l.initial.output.items ++ flat_map escaped l.bytes);
}

abbrev pub decreases-loop-index : goal.decreases-loop-index
decreases-loop-index l = length l.bytes - l.index
