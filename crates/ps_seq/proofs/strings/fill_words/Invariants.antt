use Rattle.std.proofs.Common.{◌≡◌, length, take}
use Rattle.ps_mem.specs.Strings.{words_from}
use Rattle.ps_seq.proofs.strings.fill_words.Given as goal

-- the words before the index are made
abbrev pub invariant-loop-index : goal.invariant-loop-index
invariant-loop-index l = record {
  size : length l.words ≡ length l.fn.words;
  value : take l.index l.words ≡ words_from l.index l.text;
}
