use Rattle.std.proofs.Common.{sym, subst, ◌∙◌, Ok, rules, w32}
use mir.Val.{SFits}
use Rattle.std.proofs.lemmas.Int.{to_z-of_z}
use Rattle.ps_mem.specs.Heap.{Heap}
use Rattle.ps_mem.specs.Shows.{IsValue, IsReady}
use Rattle.ps_ops_sequences.specs.ArrayRows.{array_put_row, one_stored}
use Rattle.ps_ops_operands.specs.Changes.{Changes}
use Rattle.ps_ops_operands.proofs.Held.{third_held}
use Rattle.ps_ops_sequences.proofs.PutLemmas.{put_ready, put_does}
use Rattle.ps_ops_sequences.proofs.array_changes.put.Goals as goal

pub returns-clause-does : goal.returns-clause-does
returns-clause-does g c =
    let h = g.M.Memory.heap c.permitted.new.memory in
    let now = g.M.Memory.heap c.set_element.new.memory in
    let old = c.args.operands.now in
    let asked = g.M.Memory.grants c.args.memory.now in
    let left = g.M.Memory.grants c.set_element.new.memory in
    let ready = subst (λ (k : Heap). IsReady k old) (sym c.permitted.ensures.heap) c.requires.ready in
    let array = third_held (IsValue h) old ready.values _ _ _ c.in-Some.ensures in
    let fits : SFits w32 c.in-Some-integer_of.number = search rules in
    subst (λ (k : Heap). Changes array_put_row one_stored (Ok tt) c.args.slot asked left k now old c.discard.new.self)
    c.permitted.ensures.heap
    (put_does h now old _ ready c.in-Some.word c.in-Some.key c.in-Some.array c.in-Some.ensures c.discard.ensures
    c.set_element.ensures.keeps c.args.slot asked left
    c.in-Some-array_of.part _ (c.in-Some-array_of.ensures.stands h array)
    (λ births names. c.in-Some-array_of.ensures.part births names)
    c.in-Some-integer_of.number (λ births names. c.in-Some-integer_of.ensures births names) (sym c.is_writable.ensures
    ∙ c.if-not-is_writable.false)
    c.in-Some-index_below.index (simp to_z-of_z at c.in-Some-index_below.ensures.index) c.set_element.ensures.births
    (λ names s shows within. c.set_element.ensures.shows names s shows within))

pub returns-clause-ready : goal.returns-clause-ready
returns-clause-ready g c =
    let h = g.M.Memory.heap c.permitted.new.memory in
    let now = g.M.Memory.heap c.set_element.new.memory in
    let old = c.args.operands.now in
    let ready = subst (λ (k : Heap). IsReady k old) (sym c.permitted.ensures.heap) c.requires.ready in
    put_ready h now old _ ready c.in-Some.word c.in-Some.key c.in-Some.array c.in-Some.ensures c.discard.ensures
    c.set_element.ensures.keeps c.set_element.ensures.sound
