use Rattle.std.proofs.Common.{arith, ◌+◌, ℕ, sym, ap, ◌∙◌, subst}
use Rattle.ps_mem.specs.Heap.{made, AfterNew, object_at}
use Rattle.ps_core_machine.specs.declared.events.Vm.{Vm}
use Rattle.ps_core_laws.specs.Memory.{heap_of, grants_of}
use Rattle.ps_table.proofs.Made.{new_object}
use Rattle.ps_table.proofs.mirror.Mirror.alloc.Goals as goal

pub stand-requires : goal.stand-requires
stand-requires g c =
    let s = c.requires.sits.1 in
    let o = new_object c.args.seat.now.me.0.vm c.pack.result.0 c.args.self.now.next_birth
    c.args.kind c.args.fields s.runs s.mirrors.birth_is c.pack.ensures c.requires.kind
    c.requires.fields c.requires.words c.requires.births in
    record {
      sits = c.requires.sits;
      may = o.makes.may;
      fields = o.count;
      inside = o.makes.place;
      next = o.next;
    }

pub returns : goal.returns
returns g c =
    let v = c.args.seat.now.me.0.vm in
    let s = c.requires.sits.1 in
    let kind = c.args.kind in
    let fields = c.args.fields in
    let o = new_object v c.pack.result.0 c.args.self.now.next_birth kind fields s.runs
    s.mirrors.birth_is c.pack.ensures c.requires.kind c.requires.fields c.requires.words
    c.requires.births in
    let at = c.stand.ensures.at in
    let part = c.stand.ensures.part in
    let low = o.makes.low in
    record {
      sits = c.stand.ensures.sits;
      same = c.stand.ensures.same;
      gc = c.stand.ensures.gc;
      address = omega arith;
      free = ap (object_at (heap_of v)) at ∙ o.makes.free;
      heap = ap heap_of part
          ∙ (o.makes.heap ∙ ap (λ (a : ℕ). made (heap_of v) a kind fields) (sym at));
      grants = subst (λ (x : Vm × ℕ). AfterNew (grants_of v) (grants_of x.0) x.1 (2 + fields) 1)
          (λ k. (sym part k, sym at k)) o.makes.grants;
    }
