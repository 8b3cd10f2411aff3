use Rattle.std.proofs.Common.{refl}
use Rattle.ps_word.specs.Format.{content_in, packed}
use Rattle.ps_mem.specs.Index.{hash_of, index_of, index_words, placed}
use Rattle.ps_test_layers.proofs.index.index_rows.Goals as goal

pub returns-clause-put : goal.returns-clause-put
unfolding content_in packed hash_of index_of index_words placed
returns-clause-put c = λ births value. refl

pub returns-clause-removed : goal.returns-clause-removed
unfolding content_in packed hash_of index_of index_words placed
returns-clause-removed c = λ births value. refl

pub returns-clause-round : goal.returns-clause-round
unfolding content_in packed hash_of index_of index_words placed
returns-clause-round c = λ births value. refl
