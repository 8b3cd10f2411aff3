-- The topmost dictionary is pushed.
use Rattle.std.proofs.Common.{refl, sym, ◌∙◌}
use Rattle.ps_language.specs.declared.errors.ErrorName.TheVariants.{DictStackUnderflow}
use Rattle.ps_mem.specs.Shows.{IsValue}
use Rattle.ps_ops_operands.proofs.Held.{first_held}
use Rattle.ps_ops_state.proofs.Acting.{raised_acts}
use Rattle.ps_ops_state.proofs.Stacked.{pushed_acts}
use Rattle.ps_ops_dictionaries.proofs.Stacking.{current_none, current_pushes}
use Rattle.ps_ops_dictionaries.proofs.stack.currentdict.Goals as goal

pub returns-in_default : goal.returns-in_default
returns-in_default g c = record {
  acts = λ attempt. raised_acts _ attempt _ _ c.requires.good DictStackUnderflow
      (current_none _ (sym c.in_default.is ∙ c.top.ensures));
  frames = refl;
}

pub returns : goal.returns
returns g c = rw (c.made.ensures)
    (record {
      acts = λ attempt. pushed_acts _ _ _ _ attempt c.requires.good
          (first_held (IsValue (g.M.Memory.heap c.args.runtime.now.memory)) _ c.requires.good.dictionaries _
          c.in-Some.ensures) _ _ c.push.ensures.row (current_pushes _ _ c.in-Some.ensures)
          c.push.ensures.pushed c.push.ensures.full;
      frames = refl;
    })
