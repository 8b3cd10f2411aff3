use Rattle.std.proofs.Common.{◌≡◌, ◌+◌, ◌≤◌, ℕ, List, drop}
use Rattle.ps_step_tokens.specs.Procedures.{tokens_in, element_words, element_births, procedure_words, procedure_births}
use Rattle.ps_step_tokens.proofs.room.+room.Given as goal

-- the room of those up to the index is counted
abbrev pub invariant-room_of-loop-element : goal.invariant-room_of-loop-element
invariant-room_of-loop-element l = record {
  words : (text : List ℕ)
      → l.words + element_words (tokens_in text (drop l.element-index l.elements))
      ≡ procedure_words (tokens_in text l.elements);
  births : (text : List ℕ)
      → l.births + element_births (tokens_in text (drop l.element-index l.elements))
      ≡ procedure_births (tokens_in text l.elements);
  fewer : l.births ≤ l.words;
}
