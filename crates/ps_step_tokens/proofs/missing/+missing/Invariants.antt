use Rattle.std.proofs.Common.{◌≡◌, drop}
use Rattle.ps_language.specs.StepTokens.{missing_in}
use Rattle.ps_language.specs.Value.{Store}
use Rattle.ps_mem.specs.Shows.{Shows}
use Rattle.ps_step_tokens.specs.Missing.{look_by}
use Rattle.ps_step_tokens.specs.Procedures.{tokens_in}
use Rattle.ps_step_tokens.specs.Short.{AreShort}
use Rattle.ps_step_tokens.proofs.missing.+missing.Given as goal

-- none of those up to the index is missing
abbrev pub invariant-first_missing-loop-element : goal.invariant-first_missing-loop-element
invariant-first_missing-loop-element g l = record {
  short : AreShort (tokens_in l.text (drop l.element-index l.elements));
  heap : g.M.Memory.heap l.memory ≡ g.M.Memory.heap l.fn.memory;
  grants : g.M.Memory.grants l.memory ≡ g.M.Memory.grants l.fn.memory;
  value : (s : Store) → Shows (g.M.Memory.heap l.fn.memory) l.names s
      → missing_in (look_by (g.M.Memory.heap l.fn.memory) l.names l.dictionaries s)
      (tokens_in l.text l.elements)
      ≡ missing_in (look_by (g.M.Memory.heap l.fn.memory) l.names l.dictionaries s)
      (tokens_in l.text (drop l.element-index l.elements));
}
