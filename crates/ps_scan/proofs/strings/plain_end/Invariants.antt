use Rattle.std.proofs.Common.{◌≡◌, ℕ, drop}
use Rattle.std.specs.List.{slice_range}
use Rattle.ps_language.specs.Reading.{with_front}
use Rattle.ps_language.specs.Scan.{string_from}
use Rattle.ps_scan.proofs.strings.plain_end.Given as goal

-- the string goes on with the bytes so far and what is left
abbrev pub invariant-loop-here : goal.invariant-loop-here
invariant-loop-here l = (depth : ℕ) → string_from depth (drop l.fn.at l.bytes)
    ≡ with_front (slice_range l.bytes l.fn.at l.here) (string_from depth (drop l.here l.bytes))
