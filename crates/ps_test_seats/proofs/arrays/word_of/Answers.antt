use Rattle.ps_mem.proofs.ValueLemmas.{IsValue-integer}
use Rattle.ps_test_seats.proofs.arrays.word_of.Goals as goal

pub returns-in-Number : goal.returns-in-Number
returns-in-Number c = λ h are.
    IsValue-integer h c.integer.result _ c.integer.ensures.value c.integer.ensures.word
