use Rattle.std.proofs.Common.{◌≡◌, ◌++◌, take}
use Rattle.ps_prologues.specs.Prologues.{hex_text}
use Rattle.ps_prologues.proofs.definitions.append_hex.Given as goal

-- the digits of those so far stand behind the output
abbrev pub invariant-loop-byte : goal.invariant-loop-byte
invariant-loop-byte l = l.output.items
    ≡ l.initial.output.items ++ hex_text (take l.byte-index l.bytes)
