use Rattle.std.proofs.Common.{◌≡◌, take, drop}
use Rattle.ps_gc_roots.proofs.writing.write_words.Given as goal

-- the words from a place on
abbrev pub invariant-loop-place : goal.invariant-loop-place
invariant-loop-place g l = l.words ≡ drop l.place (take l.count l.roots)
