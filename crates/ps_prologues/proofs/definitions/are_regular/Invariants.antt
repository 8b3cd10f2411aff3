use Rattle.std.proofs.Common.{◌↔◌, length}
use Rattle.ps_language.specs.Bytes.{is_regular}
use Rattle.ps_language.specs.Syntax.{EachIs}
use Rattle.ps_prologues.proofs.definitions.are_regular.Given as goal

-- those that are left are regular exactly if all are
abbrev pub invariant-loop-first : goal.invariant-loop-first
invariant-loop-first l = EachIs is_regular l.left ↔ EachIs is_regular l.name

abbrev pub decreases-loop-first : goal.decreases-loop-first
decreases-loop-first l = length l.left
