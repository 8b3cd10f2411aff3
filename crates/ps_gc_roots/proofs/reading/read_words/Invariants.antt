use Rattle.std.proofs.Common.{◌≡◌, ◌+◌, drop, ◌++◌, vec_len}
use Rattle.std.specs.Prelude.{vec_capacity}
use Rattle.ps_gc_roots.proofs.reading.read_words.Given as goal

-- what was read and what is left are the words
abbrev pub invariant-loop-depth : goal.invariant-loop-depth
invariant-loop-depth g l = record {
  read : l.roots.items ++ drop l.depth l.words ≡ l.initial.roots.items ++ l.words;
  count : vec_len l.roots ≡ vec_len l.initial.roots + l.depth;
  capacity : vec_capacity l.roots ≡ vec_capacity l.initial.roots;
}
