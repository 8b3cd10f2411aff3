use Rattle.std.proofs.Common.{◌≡◌, IsTrue}
use Rattle.std.specs.Prelude.{slice_range}
use Rattle.std.specs.List.{flat_map}
use Rattle.ps_language.specs.Texts.{escaped}
use Rattle.ps_text.proofs.escapes.are_plain.Given as goal

-- where no byte so far has an escape, those so far are shown as they are
abbrev pub invariant-loop-at : goal.invariant-loop-at
invariant-loop-at l = IsTrue l.plain
    → flat_map escaped (slice_range l.bytes 0 l.at) ≡ slice_range l.bytes 0 l.at
