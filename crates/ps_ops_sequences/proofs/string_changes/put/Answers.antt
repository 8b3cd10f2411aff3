use Rattle.std.proofs.Common.{sym, subst, ◌∙◌, Ok, rules, w32, arith}
use mir.Val.{SFits}
use Rattle.std.proofs.lemmas.Int.{to_z-of_z}
use Rattle.ps_ops_sequences.specs.ArrayRows.{one_stored}
use Rattle.ps_mem.specs.Heap.{Heap}
use Rattle.ps_mem.specs.Shows.{IsValue, IsReady, AreValues}
use Rattle.ps_ops_operands.specs.Changes.{Changes}
use Rattle.ps_ops_operands.proofs.Held.{third_held, rest_held}
use Rattle.ps_ops_operands.proofs.Changed.{ready_changed}
use Rattle.ps_ops_sequences.specs.StringRows.{string_put_row}
use Rattle.ps_ops_sequences.proofs.StringChanged.{put_does}
use Rattle.ps_ops_sequences.proofs.string_changes.put.Goals as goal

pub returns-clause-does : goal.returns-clause-does
returns-clause-does g c =
    let h = g.M.Memory.heap c.permitted.new.memory in
    let now = g.M.Memory.heap c.set_byte.new.memory in
    let old = c.args.operands.now in
    let asked = g.M.Memory.grants c.args.memory.now in
    let left = g.M.Memory.grants c.set_byte.new.memory in
    let ready = subst (λ (k : Heap). IsReady k old) (sym c.permitted.ensures.heap) c.requires.ready
    in
    let string = third_held (IsValue h) old ready.values _ _ _ c.in-Some.ensures in
    let fits : SFits w32 c.in-Some-integer_of-2.number = search rules in
    let code_fits : SFits w32 c.in-Some-integer_of.code = search rules in
    subst (λ (k : Heap). Changes string_put_row one_stored (Ok tt) c.args.slot asked left k now old
    c.discard.new.self) c.permitted.ensures.heap
    (put_does h now old _ ready c.in-Some.value c.in-Some.key c.in-Some.string c.in-Some.ensures
    c.discard.ensures c.set_byte.ensures.keeps c.args.slot asked left
    c.in-Some-string_of.part _ (c.in-Some-string_of.ensures.stands h string)
    (λ births names. c.in-Some-string_of.ensures.part births names)
    (λ births names s within. c.in-Some-string_of.ensures.within births names s within)
    c.in-Some-integer_of.code c.in-Some-integer_of-2.number (λ births names.
    c.in-Some-integer_of.ensures births names) (λ births names. c.in-Some-integer_of-2.ensures
    births names) (sym c.is_writable.ensures ∙ c.if-not-is_writable.false)
    c.in-Some-index_below.index (simp to_z-of_z at c.in-Some-index_below.ensures.index) (omega
    (arith, c.in-Some-index_below.ensures.below)) c.in-Some-index_below-2.byte
    (simp to_z-of_z at c.in-Some-index_below-2.ensures.index)
    c.set_byte.ensures.births (λ names s shows within. c.set_byte.ensures.shows names s shows
    within))

pub returns-clause-ready : goal.returns-clause-ready
returns-clause-ready g c =
    let h = g.M.Memory.heap c.permitted.new.memory in
    let now = g.M.Memory.heap c.set_byte.new.memory in
    let old = c.args.operands.now in
    let ready = subst (λ (k : Heap). IsReady k old) (sym c.permitted.ensures.heap) c.requires.ready
    in
    ready_changed h now _ c.set_byte.ensures.keeps c.set_byte.ensures.sound (subst (AreValues h)
    (sym c.discard.ensures) (rest_held (IsValue h) old ready.values 3))
