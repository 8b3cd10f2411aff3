-- What the relation says of the order that was found, or an error.
use Rattle.std.proofs.Common.{refl, ◌∙◌, ap}
use Rattle.ps_language.specs.Readers.{boolean}
use Rattle.ps_mem.specs.Shows.{IsValue}
use Rattle.ps_ops_operands.proofs.Held.{first_of_two_held, second_held}
use Rattle.ps_ops_values.proofs.Related.{order_tested, short_acts, failed_acts, tested_acts}
use Rattle.ps_ops_values.proofs.orders.order.Goals as goal

pub returns-in_default : goal.returns-in_default
returns-in_default g c = record {
  acts = λ attempt. short_acts _ _ _ (order_tested c.args.relation) _ c.requires.good attempt
      c.in_default.ensures;
  frames = refl;
}

pub compare-requires-clause-left : goal.compare-requires-clause-left
compare-requires-clause-left g c =
    second_held (IsValue (g.M.Memory.heap c.args.runtime.now.memory)) _ c.requires.good.operands _ _
    c.in-Some.ensures

pub compare-requires-clause-right : goal.compare-requires-clause-right
compare-requires-clause-right g c =
    first_of_two_held (IsValue (g.M.Memory.heap c.args.runtime.now.memory)) _ c.requires.good.operands _ _
    c.in-Some.ensures

pub returns-in-Ok : goal.returns-in-Ok
returns-in-Ok g c = rw (c.replace.ensures, c.compare.ensures.heap, c.compare.ensures.grants)
    (record {
      acts = λ attempt. tested_acts _ _ _ (order_tested c.args.relation) _ c.requires.good attempt _ _
          c.in-Some.ensures _ (c.in-Ok.ensures.found _) _ c.boolean.ensures.plain
          (λ births names. c.boolean.ensures.value births names ∙ ap boolean c.holds.ensures);
      frames = refl;
    })

pub returns-in-Err : goal.returns-in-Err
returns-in-Err g c = rw (c.compare.ensures.heap, c.compare.ensures.grants)
    (record {
      acts = λ attempt. failed_acts _ _ _ (order_tested c.args.relation) _ c.requires.good attempt _ _
          c.in-Some.ensures _ (c.in-Err.ensures.found _);
      frames = refl;
    })
