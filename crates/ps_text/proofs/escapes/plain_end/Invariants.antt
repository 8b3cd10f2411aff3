use Rattle.std.proofs.Common.{◌≡◌}
use Rattle.std.specs.Prelude.{slice_range}
use Rattle.std.specs.List.{flat_map}
use Rattle.ps_language.specs.Texts.{escaped}
use Rattle.ps_text.proofs.escapes.plain_end.Given as goal

-- the bytes so far are shown as they are
abbrev pub invariant-loop-at : goal.invariant-loop-at
invariant-loop-at l = flat_map escaped (slice_range l.bytes l.first l.at) ≡ slice_range l.bytes l.first l.at
