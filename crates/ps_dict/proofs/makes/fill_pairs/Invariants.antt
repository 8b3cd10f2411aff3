use Rattle.std.proofs.Common.{◌≡◌, ◌≢◌, ℕ, ◌≤◌, ◌+◌, List, map, take, None}
use Rattle.std.specs.List.{AllPairs}
use Rattle.ps_language.specs.Value.{Store}
use Rattle.ps_language.specs.Access.{dictionary_at, with_dictionary}
use Rattle.ps_language.specs.Dictionaries.{put_pairs}
use Rattle.ps_mem.specs.Heap.{Heap, object_at, birth_at}
use Rattle.ps_mem.specs.Keeps.{Keeps, Extends}
use Rattle.ps_mem.specs.Shows.{IsSound, AreWithin, pair_of, Shows}
use Rattle.ps_word.specs.declared.words.Word.{Word}
use Rattle.ps_dict.specs.Places.{count_at, capacity_at, body_at}
use Rattle.ps_mem.specs.Index.{pairs_of_words}
use Rattle.ps_dict.proofs.makes.fill_pairs.Given as goal

-- the pairs up to the index are put
pub record Put (old now : Heap) (a index : ℕ) (words : List Word) : Type 0 where
  pub sound : IsSound now
  pub keeps : Keeps old now
  pub births : birth_at now ≡ birth_at old
  pub extends : (g : Heap) → Extends g old → object_at g a ≡ None
      → object_at g (body_at old a) ≡ None → Extends g now
  pub body : body_at now a ≡ body_at old a
  pub capacity : capacity_at now a ≡ capacity_at old a
  pub fewer : count_at now a ≤ count_at old a + index
  pub shows : (names : List (List ℕ)) (s : Store) → Shows old names s
      → AllPairs (λ first later. first ≢ later) names → AreWithin old names s words →
      Shows now names (with_dictionary s (birth_at old a)
      (record (dictionary_at s (birth_at old a)) {
        pairs = put_pairs (dictionary_at s (birth_at old a)).pairs
            (map (pair_of (birth_at old) names) (take index (pairs_of_words words)));
      }))

abbrev pub invariant-loop-index : goal.invariant-loop-index
invariant-loop-index g l =
    Put (g.M.Memory.heap l.initial.memory) (g.M.Memory.heap l.memory) l.address l.index l.words
    × (g.M.Memory.grants l.memory ≡ g.M.Memory.grants l.initial.memory)
