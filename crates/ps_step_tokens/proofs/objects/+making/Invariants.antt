use Rattle.std.proofs.Common.{◌≡◌, ◌+◌, ◌≤◌, List, ◌++◌, drop, length, vec_capacity}
use Rattle.ps_language.specs.StepTokens.{names_in}
use Rattle.ps_word.specs.declared.words.Word.{Word}
use Rattle.ps_mem.specs.Heap.{SameLogs}
use Rattle.ps_mem.specs.Shows.{AreValues}
use Rattle.ps_step_tokens.specs.Made.{AreMet}
use Rattle.ps_step_tokens.specs.Procedures.{tokens_in, element_words, element_births}
use Rattle.ps_step_tokens.specs.Short.{AreShort}
use Rattle.ps_step_tokens.proofs.Together.{AreMade}
use Rattle.ps_step_tokens.proofs.objects.+making.Given as goal

-- the words of the elements up to the index stand in the list above what it held
abbrev pub invariant-make_elements-loop-element : goal.invariant-make_elements-loop-element
invariant-make_elements-loop-element g l = record {
  dictionaries : AreValues (g.M.Memory.heap l.memory) l.dictionaries;
  met : AreMet l.names (names_in (tokens_in l.text (drop l.element-index l.elements)));
  short : AreShort (tokens_in l.text (drop l.element-index l.elements));
  words : (g.M.Memory.grants l.fn.memory).words
      + element_words (tokens_in l.text (drop l.element-index l.elements)) + l.element-index
      ≤ (g.M.Memory.grants l.memory).words + element_words (tokens_in l.text l.elements);
  births : (g.M.Memory.grants l.fn.memory).births
      + element_births (tokens_in l.text (drop l.element-index l.elements))
      ≤ (g.M.Memory.grants l.memory).births + element_births (tokens_in l.text l.elements);
  logs : SameLogs (g.M.Memory.grants l.fn.memory) (g.M.Memory.grants l.memory);
  done : (done : List Word) × (l.words.items ≡ l.fn.words.items ++ done)
      × (length done ≡ l.element-index)
      × AreMade l.names l.dictionaries (tokens_in l.text l.elements)
      (tokens_in l.text (drop l.element-index l.elements)) (g.M.Memory.heap l.fn.memory)
      (g.M.Memory.heap l.memory) done;
  room : length l.words.items
      + element_words (tokens_in l.text (drop l.element-index l.elements))
      ≤ vec_capacity l.words;
  capacity : vec_capacity l.fn.words ≤ vec_capacity l.words;
}
