use Rattle.std.proofs.Common.{arith, length, sym, ap, ◌∙◌}
use Rattle.ps_record.specs.declared.Record.TheVariants.{Place}
use Rattle.ps_core_machine.specs.declared.events.Event.TheVariants.{RecordStore}
use Rattle.ps_core_machine.specs.declared.events.Vm.{Vm}
use Rattle.ps_core_machine.specs.Steps.{table_size}
use Rattle.ps_core_laws.specs.MemoryLaws.{CanStore}
use Rattle.ps_core_laws.specs.Stores.{numbers}
use Rattle.ps_table.specs.Events.{field_stores}
use Rattle.ps_table.specs.Mirrored.{owes}
use Rattle.ps_table.proofs.Kept.{keeps_on, keeps_all, keeps_owed}
use Rattle.ps_table.proofs.Storing.{so, few, may_settle, stored_so, wrote_part, wrote_acts, space_stored}
use Rattle.ps_table.proofs.mirror.Mirror.store.Goals as goal

pub vm_fields-requires : goal.vm_fields-requires
vm_fields-requires g c =
    let m = c.args.seat.now.me in
    let s = c.requires.sits.1 in
    let can : CanStore m.0.vm c.args.address c.args.place c.args.items.now = record {
      some = c.requires.some;
      within = c.requires.place;
      known = c.requires.known;
      settled = s.mirrors.settled;
    } in
    let o = so _ m c.args.self.now s c.args.slot c.args.address c.args.place c.args.items.now can
    c.requires.granted in
    record {
      same = (c.requires.sits.0, s.wide);
      acts = s.acts;
      runs = s.runs;
      may = o.may;
      inside = o.place;
    }

pub overflow_cast-count : goal.overflow_cast-count
overflow_cast-count g c =
    let m = c.args.seat.now.me in
    let s = c.requires.sits.1 in
    let can : CanStore m.0.vm c.args.address c.args.place c.args.items.now = record {
      some = c.requires.some;
      within = c.requires.place;
      known = c.requires.known;
      settled = s.mirrors.settled;
    } in
    let small = (few _ m c.args.self.now s c.args.slot c.args.address c.args.place
    c.args.items.now can c.requires.granted).0 in
    omega arith

pub settle-requires : goal.settle-requires
settle-requires g c =
    let m = c.args.seat.now.me in
    let n = c.args.self.now in
    let s = c.requires.sits.1 in
    let a = c.args.address in
    let i = c.args.place in
    let items = c.args.items.now in
    let can : CanStore m.0.vm a i items = record {
      some = c.requires.some;
      within = c.requires.place;
      known = c.requires.known;
      settled = s.mirrors.settled;
    } in
    let small = (few _ m n s c.args.slot a i items can c.requires.granted).0 in
    let did = c.vm_fields.ensures.did in
    let now = c.vm_fields.new.seat.me in
    let part = wrote_part m now a i (numbers items) did in
    record {
      same = (
        c.vm_fields.ensures.same.0,
        ap (λ t. t.words) c.vm_fields.ensures.same.1 ∙ (s.wide ∙ ap table_size
            (sym (ap (λ (x : Vm). x.space) part ∙ space_stored m.0.vm a i (numbers items)))),
      );
      acts = wrote_acts m now a i (numbers items) did ∙ s.acts;
      runs = c.vm_fields.ensures.runs;
      fits = (omega arith, omega arith);
      wide = s.mirrors.wide_logged;
      may = may_settle _ m n s c.args.slot a i items can c.requires.granted now.0.vm part;
    }

pub returns : goal.returns
returns g c =
    let m = c.args.seat.now.me in
    let n = c.args.self.now in
    let s = c.requires.sits.1 in
    let slot = c.args.slot in
    let a = c.args.address in
    let i = c.args.place in
    let items = c.args.items.now in
    let can : CanStore m.0.vm a i items = record {
      some = c.requires.some;
      within = c.requires.place;
      known = c.requires.known;
      settled = s.mirrors.settled;
    } in
    let did = c.vm_fields.ensures.did in
    let now = c.vm_fields.new.seat.me in
    let last = c.settle.new.seat.me in
    let same = c.settle.ensures.same.1 ∙ c.vm_fields.ensures.same.1 in
    let whole = stored_so _ m n s slot a i items can c.requires.granted _ now last
    c.settle.new.mirror (ap (λ t. t.words) same) c.settle.ensures.mirror
    (wrote_part m now a i (numbers items) did)
    (wrote_acts m now a i (numbers items) did ∙ s.acts) (ap (λ x. x.1) did)
    c.settle.ensures.runs c.settle.ensures.did in
    record {
      sits = (c.settle.ensures.same.0, whole.sits);
      same = same;
      gc = keeps_on _ now.0 _
          (keeps_all _ _ (field_stores a i (numbers items)) (ap (λ x. x.0) did))
          (keeps_owed now last (owes n a) (RecordStore slot (Place a i (length items)))
          c.settle.ensures.did);
      heap = whole.heap;
      grants = whole.grants;
      logged = whole.put;
    }
