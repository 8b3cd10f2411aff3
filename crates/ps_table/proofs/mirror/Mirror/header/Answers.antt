use Rattle.std.proofs.Common.{◌≡◌, sym, subst}
use Rattle.std.specs.Prelude.{IfSome}
use Rattle.ps_word.specs.declared.headers.Header.{Header}
use Rattle.ps_mem.specs.Heap as memory
use Rattle.ps_core_laws.specs.MemoryLaws.{header_told}
use Rattle.ps_core_laws.specs.Memory.{heap_of}
use Rattle.ps_core_laws.proofs.Loads.{header_loads}
use Rattle.ps_table.proofs.Facts.{vm_facts, words}
use Rattle.ps_table.proofs.mirror.Mirror.header.Goals as goal

pub read-requires : goal.read-requires
read-requires g c =
    let v = c.args.seat.now.me.0.vm in
    let f = header_loads words v (vm_facts v c.requires.sits.1.runs) c.args.address
    c.requires.stands in
    record { sits = c.requires.sits; inside = f.place; stays = f.stays }

pub returns-clause-answer : goal.returns-clause-answer
returns-clause-answer g c =
    let v = c.args.seat.now.me.0.vm in
    let f = header_loads words v (vm_facts v c.requires.sits.1.runs) c.args.address
    c.requires.stands in
    subst (λ (h : Header). IfSome (memory.object_at (heap_of v) c.args.address)
    (λ o. h ≡ header_told o)) (sym c.header_of.ensures) (f.word c.read.result c.read.ensures.finds)
