use Rattle.ps_test_seats.proofs.Ready.{same_ready, kept_ready}
use Rattle.ps_test_seats.proofs.arrays.Arrays.store.Goals as goal

pub invariant_of-self : goal.invariant_of-self
invariant_of-self g c =
    let words = c.self.inside.words.items in
    kept_ready (g.M.Memory.heap c.permit-permit.new.self)
    (g.M.Memory.heap c.set_element.new.memory) words c.set_element.ensures.keeps
    c.set_element.ensures.sound (same_ready (g.M.Memory.heap c.self.inside.memory)
    (g.M.Memory.heap c.permit-permit.new.self) words c.permit-permit.ensures.heap c.self.invariant)
