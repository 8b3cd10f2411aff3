use Rattle.std.proofs.Common.{◌∙◌, ◌-◌, arith, ap}
use Rattle.std.specs.Prelude.{nat_le}
use Rattle.ps_mem.proofs.SpaceLemmas.{has_room-words, has_room-no_words}
use Rattle.ps_mem.proofs.bounded.BoundedMemory.fits.Goals as goal

pub returns-then-words-self : goal.returns-then-words-self
returns-then-words-self c =
    let m = c.args.self.now in
    let r = m.region in
    let limited = r.limited in
    let within = r.within in
    let births = r.births in
    let filled = m.filled in
    let used = c.used.ensures.answer in
    let test = c.if-words-self.true in
    ap (λ k. nat_le c.args.births (1099511627776 - k)) c.next.ensures
    ∙ has_room-words r.words r.used r.next m.size c.args.words c.args.births filled
    (omega (arith, limited, within, births)) (omega (arith, test, used))

pub returns-else-words-self : goal.returns-else-words-self
returns-else-words-self c =
    let m = c.args.self.now in
    let r = m.region in
    let filled = m.filled in
    let used = c.used.ensures.answer in
    let test = c.if-words-self.false in
    ap (λ k. nat_le c.args.words (m.size - k)) c.used.ensures.answer
    ∙ has_room-no_words r.words r.used r.next m.size c.args.words c.args.births filled
    (omega (arith, test, used))
