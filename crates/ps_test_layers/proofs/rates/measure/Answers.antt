use Rattle.std.proofs.Common.{sym, subst, ◌∙◌}
use Rattle.ps_mem.specs.Shows.{IsSound}
use Rattle.ps_mem.proofs.EmptyLemmas.{IsSound-empty}
use Rattle.ps_test_layers.proofs.rates.measure.Goals as goal

pub new_dictionary-address-requires-clause-sound : goal.new_dictionary-address-requires-clause-sound
new_dictionary-address-requires-clause-sound c =
    subst IsSound (sym (c.need.ensures.heap ∙ c.new-memory.ensures)) (IsSound-empty _)
