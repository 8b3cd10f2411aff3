use Rattle.std.proofs.Common.{◌≡◌, ℕ, ◌*◌, ◌++◌, List, drop}
use Rattle.std.specs.Prelude.{fold}
use Rattle.ps_language.specs.Dictionaries.{meet}
use Rattle.ps_language.specs.Value.{Store}
use Rattle.ps_mem.specs.Shows.{AreWithin, Shows}
use Rattle.ps_names.specs.Names.{AreNames}
use Rattle.ps_ops_operands.specs.Changes.{values_in}
use Rattle.ps_ops_dictionaries.specs.Literals.{met_among, texts_among}
use Rattle.ps_ops_dictionaries.proofs.literals.form_names.Given as goal

-- those of the keys before this one are met
abbrev pub invariant-loop-place : goal.invariant-loop-place
invariant-loop-place g l =
    let h = g.M.Memory.heap l.fn.memory in
    let values = values_in h l.fn.names l.elements in
    record {
      heap : g.M.Memory.heap l.memory ≡ h;
      grants : g.M.Memory.grants l.memory ≡ g.M.Memory.grants l.fn.memory;
      more : (more : List (List ℕ)) × (l.names ≡ l.fn.names ++ more);
      are : AreNames l.names;
      met : (s : Store) → Shows h l.fn.names s → AreWithin h l.fn.names s l.elements
          → met_among l.fn.names s values
          ≡ fold meet l.names (texts_among s (drop (2 * l.place) values));
    }
