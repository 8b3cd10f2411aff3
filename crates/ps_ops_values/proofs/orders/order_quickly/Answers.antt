-- What the relation says of the order of two integers, or nothing is done.
use Rattle.std.proofs.Common.{◌∙◌, sym, ap, w32, rules}
use Rattle.std.proofs.lemmas.Int.{to_z-of_z}
use mir.Val.{SFits}
use Rattle.ps_language.specs.Outcome.{leaves}
use Rattle.ps_language.specs.Readers.{boolean}
use Rattle.ps_word.proofs.Reading.{first_integer, second_integer}
use Rattle.ps_ops_operands.proofs.Meanings.{as_integer-word}
use Rattle.ps_ops_operands.proofs.Sources.{from_same, from_replaced}
use Rattle.ps_ops_values.proofs.Comparing.{order_integers}
use Rattle.ps_ops_values.proofs.Related.{order_tested, tested_observes}
use Rattle.ps_ops_values.proofs.orders.order_quickly.Goals as goal

pub returns-clause-done : goal.returns-clause-done
returns-clause-done c = λ yes h.
    let first : SFits w32 c.in-Some-both_integers.i = search rules in
    let second : SFits w32 c.in-Some-both_integers.j = search rules in
    rw c.replace.ensures
    (tested_observes _ _ _ (order_tested c.args.relation) c.args.operands.now c.in-Some.right
    c.in-Some.left c.in-Some.ensures c.cmp.result
    (λ births names store. order_integers store _ _ _ _
    (as_integer-word births names c.in-Some.left
    ∙ first_integer _ _ _ _ c.in-Some-both_integers.ensures)
    (as_integer-word births names c.in-Some.right
    ∙ second_integer _ _ _ _ c.in-Some-both_integers.ensures)
    ∙ ap leaves (sym (simp to_z-of_z at c.cmp.ensures)))
    _ c.boolean.ensures.plain
    (λ births names. c.boolean.ensures.value births names ∙ ap boolean c.holds.ensures) h)

pub returns-clause-kept : goal.returns-clause-kept
returns-clause-kept c = from_replaced _ _ _ 2 c.replace.ensures c.boolean.ensures.plain

pub returns-in_default-clause-kept : goal.returns-in_default-clause-kept
returns-in_default-clause-kept c = from_same c.args.operands.now

pub returns-in_default-both_integers-clause-kept : goal.returns-in_default-both_integers-clause-kept
returns-in_default-both_integers-clause-kept c = from_same c.args.operands.now
