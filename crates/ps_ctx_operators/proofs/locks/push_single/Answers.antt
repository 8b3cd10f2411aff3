-- An object is made and pushed; or there is no room, on the stack or in memory.
use Rattle.std.proofs.Common.{sym, subst, Ok, arith}
use Rattle.std.proofs.lemmas.Bool.Decides.{nat_tests}
use Rattle.ps_mem.specs.Heap.{Heap}
use Rattle.ps_mem.specs.Shows.{IsReady}
use Rattle.ps_mem.proofs.KeepsLemmas.{Keeps-Extends}
use Rattle.ps_ops_operands.specs.Changes.{Makes}
use Rattle.ps_ops_operands.proofs.Making.{made_ready, does_makes, refused_makes, unmade_makes}
use Rattle.ps_ctx_operators.specs.Rows.{new_part}
use Rattle.ps_ctx_operators.specs.Singles.{object_of}
use Rattle.ps_ctx_operators.proofs.Singling.{single_full, single_making, single_object}
use Rattle.ps_ctx_operators.proofs.locks.push_single.Goals as goal

pub returns-then-is_full-clause-does : goal.returns-then-is_full-clause-does
returns-then-is_full-clause-does g c =
    single_full c.args.single _ _ (grind (arith, nat_tests, c.is_full.ensures, c.if-is_full.true))
    c.args.refused

pub returns-then-refused-clause-does : goal.returns-then-refused-clause-does
returns-then-refused-clause-does g c =
    refused_makes (new_part (object_of c.args.single)) c.args.refused
    (g.M.Memory.heap c.args.memory.now) 3 _ c.if-refused.true
    (single_making c.args.single _ _
    (grind (arith, nat_tests, c.is_full.ensures, c.if-is_full.false)))

pub returns-in-Err-clause-does : goal.returns-in-Err-clause-does
returns-in-Err-clause-does g c =
    unmade_makes (new_part (object_of c.args.single)) c.args.refused
    (g.M.Memory.heap c.args.memory.now) (g.M.Memory.heap c.granted.new.memory) 3 _
    c.in-Err.reason c.if-refused.false c.in-Err.ensures.heap c.in-Err.ensures.reason
    (single_making c.args.single _ _
    (grind (arith, nat_tests, c.is_full.ensures, c.if-is_full.false)))

pub returns-clause-does : goal.returns-clause-does
returns-clause-does g c =
    let h = g.M.Memory.heap c.granted.new.memory in
    let now = g.M.Memory.heap c.make_single-address.new.memory in
    let old = c.args.operands.now in
    let ready = subst (λ (k : Heap). IsReady k old) (sym c.granted.ensures.heap) c.requires.ready in
    let keeps = Keeps-Extends h now c.make_single-address.ensures.extends in
    subst (λ (k : Heap). Makes (new_part (object_of c.args.single)) c.args.refused (Ok tt) k now old
    c.push_reserved.new.self) c.granted.ensures.heap
    (does_makes h now old _ old keeps ready.values c.single_word.result c.push_reserved.ensures
    (new_part (object_of c.args.single)) c.args.refused c.if-refused.false
    (λ names s shows within.
    single_object c.args.single h old
    (grind (arith, nat_tests, c.is_full.ensures, c.if-is_full.false)) now c.single_word.result
    c.make_single-address.result c.make_single-address.ensures.birth c.single_word.ensures.value
    c.single_word.ensures.within names s shows within
    (c.make_single-address.ensures.shows names s shows)))

pub returns-clause-ready : goal.returns-clause-ready
returns-clause-ready g c =
    let h = g.M.Memory.heap c.granted.new.memory in
    let now = g.M.Memory.heap c.make_single-address.new.memory in
    let old = c.args.operands.now in
    let ready = subst (λ (k : Heap). IsReady k old) (sym c.granted.ensures.heap) c.requires.ready in
    let keeps = Keeps-Extends h now c.make_single-address.ensures.extends in
    made_ready h now old _ old keeps ready.values c.single_word.result c.push_reserved.ensures
    c.make_single-address.ensures.sound
    (c.single_word.ensures.held now c.make_single-address.ensures.known)
