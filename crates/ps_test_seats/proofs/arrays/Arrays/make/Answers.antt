use Rattle.std.specs.Result.{is_ok}
use Rattle.ps_ops_operands.proofs.Making.{array_stands_whole}
use Rattle.ps_test_seats.proofs.Ready.{made_ready}
use Rattle.ps_test_seats.proofs.arrays.Arrays.make.Goals as goal

pub invariant_of-self-in_err-push : goal.invariant_of-self-in_err-push
invariant_of-self-in_err-push g c =
    let made = c.new_array-part in
    let now = g.M.Memory.heap made.new.memory in
    made_ready (g.M.Memory.heap c.self.inside.memory) (g.M.Memory.heap c.need.new.self) now
    c.self.inside.words.items c.push.new.self.items c.array_word-word.result (is_ok c.push.result)
    c.need.ensures.heap made.ensures.extends made.ensures.sound
    (c.array_word-word.ensures.held now
    (array_stands_whole now made.result _ made.ensures.part made.ensures.known))
    c.push.ensures.items c.self.invariant

pub invariant_of-self-2 : goal.invariant_of-self-2
invariant_of-self-2 g c =
    let made = c.new_array-part in
    let now = g.M.Memory.heap made.new.memory in
    made_ready (g.M.Memory.heap c.self.inside.memory) (g.M.Memory.heap c.need.new.self) now
    c.self.inside.words.items c.push.new.self.items c.array_word-word.result (is_ok c.push.result)
    c.need.ensures.heap made.ensures.extends made.ensures.sound
    (c.array_word-word.ensures.held now
    (array_stands_whole now made.result _ made.ensures.part made.ensures.known))
    c.push.ensures.items c.self.invariant
