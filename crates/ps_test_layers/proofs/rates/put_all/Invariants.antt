use Rattle.ps_language.specs.declared.kinds.Kind.TheVariants.{Dictionary as DictionaryKind}
use Rattle.ps_mem.specs.References.{StandsAs}
use Rattle.ps_mem.specs.Shows.{IsSound}
use Rattle.ps_test_layers.proofs.rates.put_all.Given as goal

-- the dictionary stands in a sound memory
abbrev pub invariant-loop-number : goal.invariant-loop-number
invariant-loop-number g l = IsSound (g.M.Memory.heap l.memory)
    × StandsAs (g.M.Memory.heap l.memory) DictionaryKind l.address 4
