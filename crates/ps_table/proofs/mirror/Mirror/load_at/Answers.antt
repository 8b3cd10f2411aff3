use Rattle.std.proofs.Common.{◌≡◌, ◌+◌, ◌-◌, arith}
use Rattle.ps_core_laws.proofs.Loads.{field_loads}
use Rattle.ps_table.proofs.Facts.{vm_facts, words}
use Rattle.ps_table.proofs.mirror.Mirror.load_at.Goals as goal

pub overflow_add-at : goal.overflow_add-at
overflow_add-at g c =
    let v = c.args.seat.now.me.0.vm in
    let k = vm_facts v c.requires.sits.1.runs in
    let f = field_loads words v k c.args.address (c.args.at - c.args.address) c.requires.place in
    omega (arith, f.place, k.size, c.requires.from)

pub read-requires : goal.read-requires
read-requires g c =
    let v = c.args.seat.now.me.0.vm in
    let f = field_loads words v (vm_facts v c.requires.sits.1.runs) c.args.address
    (c.args.at - c.args.address) c.requires.place in
    let there : c.args.address + 2 + (c.args.at - c.args.address) ≡ c.args.at + 2 =
    omega (arith, c.requires.from) in
    record { sits = c.requires.sits; inside = rw there at f.place; stays = rw there at f.stays }

pub returns-clause-answer : goal.returns-clause-answer
returns-clause-answer g c =
    let v = c.args.seat.now.me.0.vm in
    let there : c.args.at + 2 ≡ c.args.address + 2 + (c.args.at - c.args.address) =
    omega (arith, c.requires.from) in
    (field_loads words v (vm_facts v c.requires.sits.1.runs) c.args.address
    (c.args.at - c.args.address) c.requires.place).word c.read.result
    (rw there at c.read.ensures.finds)
