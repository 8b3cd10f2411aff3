use Rattle.ps_mem.proofs.ValueLemmas.{IsValue-integer}
use Rattle.ps_test_layers.proofs.rates.find_all.Goals as goal

pub value_of_key-requires-clause-held : goal.value_of_key-requires-clause-held
value_of_key-requires-clause-held g c =
    IsValue-integer (g.M.Memory.heap c.loop-number.memory) c.integer-key.result _
    c.integer-key.ensures.value c.integer-key.ensures.word
