use Rattle.std.proofs.Common.{arith, ◌≡◌, ℕ, true, length, sym, ap, ◌∙◌, subst}
use Rattle.std.specs.Prelude.{slice_index, if◌then◌else◌}
use Rattle.ps_record.specs.declared.Record.TheVariants.{Place}
use Rattle.ps_core_machine.specs.declared.events.Event.TheVariants.{RecordStore}
use Rattle.ps_core_machine.specs.declared.events.Vm.{Vm}
use Rattle.ps_core_machine.specs.Conditions.{VmMay}
use Rattle.ps_core_machine.specs.Objects.{log_of}
use Rattle.ps_core_machine.specs.Steps.{table_size}
use Rattle.ps_core_laws.specs.MemoryLaws.{CanCopy, words_copied}
use Rattle.ps_core_laws.specs.Stores.{numbers}
use Rattle.ps_core_laws.proofs.Copied.{copies}
use Rattle.ps_table.specs.Mirrored.{owes}
use Rattle.ps_table.specs.Shown.{vm_did}
use Rattle.ps_table.proofs.Facts.{vm_facts}
use Rattle.ps_table.proofs.Kept.{keeps_on, keeps_owed}
use Rattle.ps_table.proofs.Storing.{few, may_settle, stored_so, space_stored}
use Rattle.ps_table.proofs.mirror.Mirror.copy.Goals as goal

pub settle-requires : goal.settle-requires
settle-requires g c =
    let m = c.args.seat.now.me in
    let v = m.0.vm in
    let n = c.args.self.now in
    let s = c.requires.sits.1 in
    let slot = c.args.slot in
    let a = c.args.to.address in
    let i = c.args.to.place in
    let able : CanCopy v c.args.from.address c.args.from.place a i c.args.count = record {
      some = c.requires.some;
      source_within = c.requires.source;
      target_within = c.requires.target;
      known = c.requires.known;
      settled = s.mirrors.settled;
    } in
    let items = words_copied v c.args.from.address c.args.from.place c.args.count in
    let copy = copies v (vm_facts v s.runs) c.args.from.address c.args.from.place a i c.args.count
    able in
    let count : length items ≡ c.args.count = copy.count_is in
    let small = (few _ m n s slot a i items copy.can c.requires.granted).0 in
    let now = c.vm_copy.new.seat.me in
    let part = c.vm_copy.ensures.part in
    record {
      same = (
        c.vm_copy.ensures.same.0,
        ap (λ t. t.words) c.vm_copy.ensures.same.1 ∙ (s.wide ∙ ap table_size
            (sym (ap (λ (x : Vm). x.space) part ∙ space_stored v a i (numbers items)))),
      );
      acts = c.vm_copy.ensures.acts;
      runs = c.vm_copy.ensures.runs;
      fits = (omega arith, omega arith);
      wide = s.mirrors.wide_logged;
      may = subst (λ (k : ℕ). owes n a ≡ true → (VmMay now.0.vm (RecordStore slot (Place a i k))
          × (length (log_of now.0.vm.logs slot) ≡ slice_index n.logged slot))) count
          (may_settle _ m n s slot a i items copy.can c.requires.granted now.0.vm part);
    }

pub returns : goal.returns
returns g c =
    let m = c.args.seat.now.me in
    let v = m.0.vm in
    let n = c.args.self.now in
    let s = c.requires.sits.1 in
    let slot = c.args.slot in
    let a = c.args.to.address in
    let i = c.args.to.place in
    let able : CanCopy v c.args.from.address c.args.from.place a i c.args.count = record {
      some = c.requires.some;
      source_within = c.requires.source;
      target_within = c.requires.target;
      known = c.requires.known;
      settled = s.mirrors.settled;
    } in
    let items = words_copied v c.args.from.address c.args.from.place c.args.count in
    let copy = copies v (vm_facts v s.runs) c.args.from.address c.args.from.place a i c.args.count
    able in
    let now = c.vm_copy.new.seat.me in
    let last = c.settle.new.seat.me in
    let same = c.settle.ensures.same.1 ∙ c.vm_copy.ensures.same.1 in
    let did = c.settle.ensures.did ∙ ap (λ (k : ℕ). if owes n a
    then (vm_did now.0 (RecordStore slot (Place a i k)), now.1) else now) (sym copy.count_is) in
    let whole = stored_so _ m n s slot a i items copy.can c.requires.granted _ now last
    c.settle.new.mirror (ap (λ t. t.words) same) c.settle.ensures.mirror c.vm_copy.ensures.part
    c.vm_copy.ensures.acts c.vm_copy.ensures.same.2 c.settle.ensures.runs did in
    record {
      sits = (c.settle.ensures.same.0, whole.sits);
      same = same;
      gc = keeps_on _ now.0 _ c.vm_copy.ensures.gc
          (keeps_owed now last (owes n a) (RecordStore slot (Place a i c.args.count))
          c.settle.ensures.did);
      heap = whole.heap;
      grants = whole.grants;
      logged = whole.put;
    }
