use Rattle.std.proofs.Common.{◌≡◌, ◌++◌, take}
use Rattle.ps_timelines.specs.Texts.{escaped}
use Rattle.ps_timelines.proofs.bytes.append_escaped.Given as goal

-- the bytes so far came behind what stood before
abbrev pub invariant-loop-byte : goal.invariant-loop-byte
invariant-loop-byte l = l.to.items ≡ l.initial.to.items ++ escaped (take l.byte-index l.bytes)
