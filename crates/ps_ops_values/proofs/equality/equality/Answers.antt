-- What the test says of what was found, or an error.
use Rattle.std.proofs.Common.{refl, ◌∙◌, ap}
use Rattle.ps_language.specs.Readers.{boolean}
use Rattle.ps_mem.specs.Shows.{IsValue}
use Rattle.ps_ops_operands.proofs.Held.{first_of_two_held, second_held}
use Rattle.ps_ops_values.proofs.Related.{wanted_is, equality_tested, short_acts, failed_acts, tested_acts}
use Rattle.ps_ops_values.proofs.equality.equality.Goals as goal

pub returns-in_default : goal.returns-in_default
returns-in_default g c = record {
  acts = λ attempt. short_acts _ _ _ (equality_tested c.args.wanted) _ c.requires.good attempt
      c.in_default.ensures;
  frames = refl;
}

pub are_equal-requires-clause-left : goal.are_equal-requires-clause-left
are_equal-requires-clause-left g c =
    second_held (IsValue (g.M.Memory.heap c.args.runtime.now.memory)) _ c.requires.good.operands _ _
    c.in-Some.ensures

pub are_equal-requires-clause-right : goal.are_equal-requires-clause-right
are_equal-requires-clause-right g c =
    first_of_two_held (IsValue (g.M.Memory.heap c.args.runtime.now.memory)) _ c.requires.good.operands _ _
    c.in-Some.ensures

pub returns-in-Ok : goal.returns-in-Ok
returns-in-Ok g c = rw (c.replace.ensures, c.are_equal.ensures.heap, c.are_equal.ensures.grants)
    (record {
      acts = λ attempt. tested_acts _ _ _ (equality_tested c.args.wanted) _ c.requires.good attempt _ _
          c.in-Some.ensures _ c.in-Ok.ensures.found _ c.boolean.ensures.plain
          (λ births names. c.boolean.ensures.value births names
          ∙ ap boolean (wanted_is c.args.wanted c.in-Ok.equal));
      frames = refl;
    })

pub returns-in-Err : goal.returns-in-Err
returns-in-Err g c = rw (c.are_equal.ensures.heap, c.are_equal.ensures.grants)
    (record {
      acts = λ attempt. failed_acts _ _ _ (equality_tested c.args.wanted) _ c.requires.good attempt _ _
          c.in-Some.ensures _ c.in-Err.ensures.found;
      frames = refl;
    })
