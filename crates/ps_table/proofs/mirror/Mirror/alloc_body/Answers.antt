use Rattle.std.proofs.Common.{arith, ◌+◌, ℕ, sym, ap, ◌∙◌, subst}
use Rattle.ps_language.specs.declared.kinds.Kind.TheVariants.{Dictionary}
use Rattle.ps_mem.specs.Heap.{made_body, AfterNew, object_at, birth_at}
use Rattle.ps_core_machine.specs.declared.events.Vm.{Vm}
use Rattle.ps_core_laws.specs.Memory.{heap_of, grants_of}
use Rattle.ps_core_laws.proofs.Loads.{header_loads}
use Rattle.ps_core_laws.specs.Stores.{part_made}
use Rattle.ps_table.proofs.Facts.{vm_facts, words}
use Rattle.ps_table.proofs.Kept.{keeps_on}
use Rattle.ps_table.proofs.Made.{NewBody, new_body, kind_stands}
use Rattle.ps_table.proofs.mirror.Mirror.alloc_body.Goals as goal

pub read-requires : goal.read-requires
read-requires g c =
    let v = c.args.seat.now.me.0.vm in
    let d = c.args.dictionary in
    let load = header_loads words v (vm_facts v c.requires.sits.1.runs) d
    (kind_stands Dictionary (object_at (heap_of v) d) c.requires.stands) in
    record { sits = c.requires.sits; inside = load.place; stays = load.stays }

pub stand-requires : goal.stand-requires
stand-requires g c =
    let v = c.args.seat.now.me.0.vm in
    let w : Vm = c.read.new.seat.me.0.vm in
    let header = c.pack.result.0 in
    let d = c.args.dictionary in
    let birth = c.header_of-birth.result.birth in
    let told = ap (λ h. h.birth) c.header_of-birth.ensures in
    let b : NewBody w header d c.args.fields =
    subst (λ (x : Vm). NewBody x header d c.args.fields) (sym c.read.ensures.part)
    (new_body v header birth d c.args.fields c.read.result c.requires.sits.1.runs
    c.requires.stands c.read.ensures.finds told (omega arith) c.pack.ensures c.requires.fields
    c.requires.words) in
    record {
      sits = c.read.ensures.sits;
      may = b.makes.may;
      fields = b.count;
      inside = b.makes.place;
      next = c.read.ensures.sits.1.mirrors.birth_is ∙ b.next;
    }

pub returns : goal.returns
returns g c =
    let v = c.args.seat.now.me.0.vm in
    let header = c.pack.result.0 in
    let d = c.args.dictionary in
    let fields = c.args.fields in
    let birth = c.header_of-birth.result.birth in
    let told = ap (λ h. h.birth) c.header_of-birth.ensures in
    let b = new_body v header birth d fields c.read.result c.requires.sits.1.runs
    c.requires.stands c.read.ensures.finds told (omega arith) c.pack.ensures c.requires.fields
    c.requires.words in
    let same = c.read.ensures.part in
    let at = c.stand.ensures.at ∙ ap (λ (x : Vm). x.end) same in
    let part = c.stand.ensures.part ∙ ap (λ (x : Vm). part_made x header) same in
    let low = b.makes.low in
    record {
      sits = c.stand.ensures.sits;
      same = c.stand.ensures.same ∙ c.read.ensures.same;
      gc = keeps_on _ _ _ c.read.ensures.gc c.stand.ensures.gc;
      address = omega arith;
      free = ap (object_at (heap_of v)) at ∙ b.makes.free;
      heap = ap heap_of part ∙ (b.makes.heap
          ∙ ap (λ (a : ℕ). made_body (heap_of v) a (birth_at (heap_of v) d) fields) (sym at));
      grants = subst (λ (x : Vm × ℕ). AfterNew (grants_of v) (grants_of x.0) x.1 (2 + fields) 0)
          (λ k. (sym part k, sym at k)) b.makes.grants;
    }
