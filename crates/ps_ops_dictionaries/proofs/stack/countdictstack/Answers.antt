-- How many there are is pushed.
use Rattle.std.proofs.Common.{arith, w32, ap, ◌∙◌}
use Rattle.std.proofs.lemmas.Int.{to_z_pos}
use Rattle.ps_language.specs.Readers.{integer, natural}
use Rattle.ps_ops_operands.proofs.Ready.{plain_value}
use Rattle.ps_ops_state.proofs.Stacked.{pushed_acts}
use Rattle.ps_ops_dictionaries.proofs.Stacking.{count_pushes}
use Rattle.ps_ops_dictionaries.proofs.stack.countdictstack.Goals as goal

pub returns : goal.returns
returns g c = rw (c.made.ensures)
    (record {
      acts = λ attempt. pushed_acts _ _ _ _ attempt c.requires.good
          (plain_value _ _ c.integer.ensures.plain) _ _ c.push.ensures.row
          (count_pushes _ _ c.integer.ensures.plain
          (λ births names. c.integer.ensures.value births names
          ∙ (ap integer (to_z_pos w32 c.len-count.result (omega (arith, c.len-count.ensures.within)))
          ∙ ap natural c.len-count.ensures.count)))
          c.push.ensures.pushed c.push.ensures.full;
    })
