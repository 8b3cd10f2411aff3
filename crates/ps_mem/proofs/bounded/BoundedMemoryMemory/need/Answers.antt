use Rattle.std.proofs.Common.{◌≡◌, true, arith, sym, ◌∙◌}
use Rattle.ps_mem.specs.Heap.{has_room}
use Rattle.ps_mem.specs.Objects.{heap_in}
use Rattle.ps_mem.specs.Bounded.{bounded_space}
use Rattle.ps_mem.proofs.SpaceLemmas.{left, room_for, not_past_bound}
use Rattle.ps_mem.proofs.bounded.BoundedMemoryMemory.need.Goals as goal

pub returns-then-fits-clause-granted : goal.returns-then-fits-clause-granted
returns-then-fits-clause-granted c =
    let m = c.args.self.now in
    let r = m.region in
    let (words, births) = left r.words r.used r.next m.size c.args.words c.args.births (sym c.fits.ensures
    ∙ c.if-fits.true) in
    (omega (arith, words), omega (arith, births))

pub returns-then-fits-clause-limit : goal.returns-then-fits-clause-limit
returns-then-fits-clause-limit c = λ past.
    let m = c.args.self.now in
    let r = m.region in
    let (words, births) = left r.words r.used r.next m.size c.args.words c.args.births (sym c.fits.ensures
    ∙ c.if-fits.true) in
    absurd (not_past_bound r.words r.used r.next m.size c.args.words c.args.births words past)

pub returns-else-fits-clause-already : goal.returns-else-fits-clause-already
returns-else-fits-clause-already c = λ words births.
    let m = c.args.self.now in
    let r = m.region in
    let limited = r.limited in
    let within = r.within in
    let numbered = r.births in
    let filled = m.filled in
    let room : has_room (heap_in r.words r.used r.next (bounded_space m.size)) c.args.words c.args.births ≡ true =
    room_for r.words r.used r.next m.size c.args.words c.args.births (omega (arith, words, filled))
    (omega (arith, births, limited, within, numbered)) in
    let not = c.if-fits.false in
    let answer = c.fits.ensures in
    cc
