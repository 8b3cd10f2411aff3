use Rattle.std.proofs.Common.{◌≡◌, ◌<◌, ◌≤◌, take, get_or}
use Rattle.std.specs.Str.Parse.{AllDigits, digits_value}
use Rattle.ps_run_schedules.proofs.fields.field.Given as goal

-- the bytes so far are digits, and write the number
abbrev pub invariant-loop-place : goal.invariant-loop-place
invariant-loop-place l = record {
  digits : AllDigits 10 (take l.place l.bytes);
  value : l.number ≡ digits_value 10 (take l.place l.bytes);
  first : 0 < l.place → 48 < get_or l.bytes 0 0;
  low : 0 < l.place → 0 < l.number;
  high : l.number ≤ l.most;
}
