use Rattle.std.proofs.Common.{◌≡◌, ◌*◌, ◌++◌, List, drop, length, map, vec_capacity}
use Rattle.std.specs.Prelude.{fold, option_map}
use Rattle.ps_language.specs.Dictionaries.{meet}
use Rattle.ps_language.specs.RowsDictionaries.{pairs_among}
use Rattle.ps_language.specs.Value.{Value, Store}
use Rattle.ps_mem.specs.Heap.{birth_at}
use Rattle.ps_mem.specs.Index.{pairs_of_words}
use Rattle.ps_mem.specs.Shows.{AreValues, AreWithin, Shows, pair_of}
use Rattle.ps_ops_operands.specs.Changes.{values_in}
use Rattle.ps_ops_dictionaries.specs.Literals.{met_among, texts_among}
use Rattle.ps_ops_dictionaries.proofs.literals.gather_pairs.Given as goal

-- the pairs before this one are there
abbrev pub invariant-loop-place : goal.invariant-loop-place
invariant-loop-place g l =
    let h = g.M.Memory.heap l.fn.memory in
    let values = values_in h l.names l.elements in
    record {
      heap : g.M.Memory.heap l.memory ≡ h;
      grants : g.M.Memory.grants l.memory ≡ g.M.Memory.grants l.fn.memory;
      count : length l.words.items ≡ 2 * l.place;
      room : vec_capacity l.words ≡ vec_capacity l.fn.words;
      held : AreValues h l.words.items;
      within : (s : Store) → Shows h l.names s → AreWithin h l.names s l.elements
          → AreWithin h l.names s l.words.items;
      pairs : (s : Store) → Shows h l.names s → AreWithin h l.names s l.elements
          → met_among l.names s values ≡ l.names
          → (pairs_among s values ≡ option_map
          (λ (more : List (Value × Value)). map (pair_of (birth_at h) l.names)
          (pairs_of_words l.words.items) ++ more) (pairs_among s (drop (2 * l.place) values)))
          × AreWithin h l.names s l.words.items
          × (fold meet l.names (texts_among s (drop (2 * l.place) values)) ≡ l.names);
    }
