-- So many words stand on what was there, the last of them topmost.
use Rattle.std.proofs.Common.{◌≡◌, ◌+◌, ◌++◌}
use Rattle.std.specs.Prelude.{reverse, slice_range}
use Rattle.ps_ctx_operators.proofs.stacks.push_all.Given as goal

abbrev pub invariant-loop-word : goal.invariant-loop-word
invariant-loop-word g l =
    l.stack ≡ reverse (slice_range l.words 0 (0 + l.word-index)) ++ l.initial.stack
