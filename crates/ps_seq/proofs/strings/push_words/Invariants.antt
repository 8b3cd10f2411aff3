use Rattle.std.proofs.Common.{◌≡◌, ◌+◌, ◌-◌, ◌≤◌, ◌++◌, vec_len, vec_capacity}
use Rattle.ps_mem.specs.Strings.{words_from}
use Rattle.ps_seq.proofs.strings.push_words.Given as goal

-- so many words are pushed, and there is room for the rest
abbrev pub invariant-loop-done : goal.invariant-loop-done
invariant-loop-done l = record {
  upto : l.done ≤ l.count;
  count : vec_len l.words ≡ vec_len l.fn.words + l.done;
  room : vec_len l.words + (l.count - l.done) ≤ vec_capacity l.words;
  kept : vec_capacity l.fn.words ≤ vec_capacity l.words;
  value : l.words.items ≡ l.fn.words.items ++ words_from l.done l.text;
}

abbrev pub decreases-loop-done : goal.decreases-loop-done
decreases-loop-done l = l.count - l.done
