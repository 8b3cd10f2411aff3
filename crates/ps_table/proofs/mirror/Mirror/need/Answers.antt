use Rattle.std.proofs.Common.{arith, ◌≡◌, true, false, nat_le, sym, ◌∙◌}
use Rattle.ps_core_laws.proofs.HeapTests.{le_true, le_is, and_parts}
use Rattle.ps_core_laws.specs.Memory.{grants_of}
use Rattle.ps_core_laws.proofs.Stored.{rooms}
use Rattle.ps_table.proofs.Facts.{vm_facts}
use Rattle.ps_table.proofs.mirror.Mirror.need.Goals as goal

pub returns-then-room-clause-granted : goal.returns-then-room-clause-granted
returns-then-room-clause-granted c =
    let v = c.args.seat.now.me.0.vm in
    let w = c.args.words in let b = c.args.births in
    let r = rooms v (vm_facts v c.requires.runs) w b in
    let p = and_parts (nat_le w (grants_of v).words) (nat_le b (grants_of v).births)
    (sym r ∙ (sym c.room.ensures ∙ c.if-room.true)) in
    (le_is w (grants_of v).words p.0, le_is b (grants_of v).births p.1)

pub returns-then-room-clause-limit : goal.returns-then-room-clause-limit
returns-then-room-clause-limit c =
    let v = c.args.seat.now.me.0.vm in
    let w = c.args.words in let b = c.args.births in
    let k = vm_facts v c.requires.runs in
    let r = rooms v k w b in
    let p = and_parts (nat_le w (grants_of v).words) (nat_le b (grants_of v).births)
    (sym r ∙ (sym c.room.ensures ∙ c.if-room.true)) in
    let le = le_is w (grants_of v).words p.0 in
    let lo = k.low_end in let hi = k.end_high in
    λ lt. absurd (omega arith)

pub returns-else-room-clause-already : goal.returns-else-room-clause-already
returns-else-room-clause-already c =
    let v = c.args.seat.now.me.0.vm in
    let w = c.args.words in let b = c.args.births in
    let r = rooms v (vm_facts v c.requires.runs) w b in
    λ x y.
    let s = le_true w (grants_of v).words x in
    let t = le_true b (grants_of v).births y in
    let r' = rw (s, t) at r in
    let f = c.room.ensures ∙ r' in
    absurd (let e : true ≡ false = sym f ∙ c.if-room.false in cc)
