use Rattle.std.proofs.Common.{◌++◌, ◌∷◌, ap, arith, sym, ◌∙◌}
use Rattle.std.specs.Prelude.{reverse}
use Rattle.ps_mem.specs.Shows.{IsValue}
use Rattle.ps_ops_operands.proofs.Held.{first_held}
use Rattle.ps_ops_sequences.proofs.ArrayReads.{elements_read, aload_overflows, aload_done, aload_ready}
use Rattle.ps_ops_sequences.proofs.arrays.aload.Goals as goal

pub returns-then-len-part-gt-OPERAND_LIMIT-clause-does : goal.returns-then-len-part-gt-OPERAND_LIMIT-clause-does
returns-then-len-part-gt-OPERAND_LIMIT-clause-does g c =
    let h = g.M.Memory.heap c.args.memory.now in
    let old = c.args.operands.now in
    let ready = c.requires.ready in
    let stands = c.in-Some-array_of.ensures.stands h (first_held (IsValue h) old ready.values _ c.in-Some.ensures) in
    aload_overflows h old ready c.in-Some.array c.in-Some.ensures c.in-Some-array_of.part
    (λ births names. c.in-Some-array_of.ensures.part births names) (sym c.is_readable.ensures
    ∙ c.if-not-is_readable.false) stands (omega arith)

pub returns-clause-does : goal.returns-clause-does
returns-clause-does g c =
    let h = g.M.Memory.heap c.args.memory.now in
    let old = c.args.operands.now in
    let ready = c.requires.ready in
    let stands = c.in-Some-array_of.ensures.stands h (first_held (IsValue h) old ready.values _ c.in-Some.ensures) in
    aload_done h old ready c.in-Some.array c.in-Some.ensures c.in-Some-array_of.part
    (λ births names. c.in-Some-array_of.ensures.part births names) (sym c.is_readable.ensures
    ∙ c.if-not-is_readable.false) stands _ (omega arith)
    (c.push_within.ensures
    ∙ (ap (λ ws. c.in-Some.array ∷ ws) (c.push_elements.ensures.pushed
    ∙ ap (λ ws. reverse (elements_read h old ready c.in-Some.array c.in-Some.ensures c.in-Some-array_of.part
    (λ births names. c.in-Some-array_of.ensures.part births names) (sym c.is_readable.ensures
    ∙ c.if-not-is_readable.false) stands) ++ ws) c.discard.ensures)))

pub returns-clause-ready : goal.returns-clause-ready
returns-clause-ready g c =
    let h = g.M.Memory.heap c.args.memory.now in
    let old = c.args.operands.now in
    let ready = c.requires.ready in
    let stands = c.in-Some-array_of.ensures.stands h (first_held (IsValue h) old ready.values _ c.in-Some.ensures) in
    aload_ready h old ready c.in-Some.array c.in-Some.ensures c.in-Some-array_of.part
    (λ births names. c.in-Some-array_of.ensures.part births names) (sym c.is_readable.ensures
    ∙ c.if-not-is_readable.false) stands _
    (c.push_within.ensures
    ∙ (ap (λ ws. c.in-Some.array ∷ ws) (c.push_elements.ensures.pushed
    ∙ ap (λ ws. reverse (elements_read h old ready c.in-Some.array c.in-Some.ensures c.in-Some-array_of.part
    (λ births names. c.in-Some-array_of.ensures.part births names) (sym c.is_readable.ensures
    ∙ c.if-not-is_readable.false) stands) ++ ws) c.discard.ensures)))
