-- The dictionary of errors is pushed.
use Rattle.ps_ops_state.proofs.Stacked.{pushed_acts}
use Rattle.ps_ops_dictionaries.proofs.Stacking.{error_pushes}
use Rattle.ps_ops_dictionaries.proofs.errors.error_dictionary.Goals as goal

pub returns : goal.returns
returns g c = rw (c.made.ensures)
    (record {
      acts = λ attempt. pushed_acts _ _ _ _ attempt c.requires.good
          (c.dictionary_word-word.ensures.held _ c.requires.good.error_stands.stands) _ _
          c.push.ensures.row
          (error_pushes _ _ c.dictionary_word-word.ensures.value
          c.dictionary_word-word.ensures.within) c.push.ensures.pushed c.push.ensures.full;
    })
