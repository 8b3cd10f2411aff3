use Rattle.ps_walks.proofs.Walking.{fresh, stands_fresh, stands_same}
use Rattle.ps_walks.proofs.walks.Walk.try_step.Goals as goal

pub step-requires-clause-stands : goal.step-requires-clause-stands
step-requires-clause-stands g c =
    let heap = g.M.Memory.heap in
    let grants = g.M.Memory.grants in
    let old = c.args.self.now in
    stands_same heap grants (fresh old.world) old.runtime c.is_ready-is_ready.new.runtime
    c.is_ready-is_ready.ensures.heap c.is_ready-is_ready.ensures.grants
    c.is_ready-is_ready.ensures.shared
    (stands_fresh heap grants old.runtime old.world c.requires.stands)

pub returns-else-is_ready-clause-stands : goal.returns-else-is_ready-clause-stands
returns-else-is_ready-clause-stands g c =
    let heap = g.M.Memory.heap in
    let grants = g.M.Memory.grants in
    let old = c.args.self.now in
    stands_same heap grants (fresh old.world) old.runtime c.is_ready-is_ready.new.runtime
    c.is_ready-is_ready.ensures.heap c.is_ready-is_ready.ensures.grants
    c.is_ready-is_ready.ensures.shared
    (stands_fresh heap grants old.runtime old.world c.requires.stands)
