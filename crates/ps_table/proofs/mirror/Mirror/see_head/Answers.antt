use Rattle.std.proofs.Common.{ℕ, ◌+◌, refl, ap, subst}
use Rattle.std.specs.Prelude.{slice_set}
use Rattle.ps_core_machine.specs.declared.events.Event.TheVariants.{VmLoad}
use Rattle.ps_core_laws.proofs.KeptFacts.{kept}
use Rattle.ps_core_laws.proofs.Cycles.{sees_heads}
use Rattle.ps_core_laws.proofs.Facts.{head_found}
use Rattle.ps_core_laws.proofs.Room.{part_seen}
use Rattle.ps_table.specs.Shown.{BothFind}
use Rattle.ps_table.proofs.Facts.{vm_facts, words, taken}
use Rattle.ps_table.proofs.Kept.{keeps_by}
use Rattle.ps_table.proofs.Meeting.{found_runs, taken_found}
use Rattle.ps_table.proofs.Mirrored.{goes_by, mirrors_seen}
use Rattle.ps_table.proofs.mirror.Mirror.see_head.Goals as goal

pub returns-clause-sits : goal.returns-clause-sits
returns-clause-sits g c =
    let m = c.args.seat.now.me in
    let v = m.0.vm in
    let n = c.args.self.now in
    let s = c.requires.sits.1 in
    let slot = c.args.slot in
    let head = c.vm_load-head.result in
    let does = c.vm_load-head.ensures.does in
    let did = rw c.head_place.ensures at does.did in rw c.index.ensures.is (
      c.vm_load-head.ensures.same.0,
      goes_by _ _ m n c.vm_load-head.new.seat.me
          (record n { heads = slice_set n.heads slot head }) (VmLoad (2 + slot) head)
          (record v { heads = slice_set v.heads slot head })
          (ap (λ t. t.words) c.vm_load-head.ensures.same.1) s did does.runs
          (part_seen v m.0.gc slot head (rw c.index.ensures.is at c.index.ensures.within)) refl
          (mirrors_seen v n s.mirrors (vm_facts v s.runs) slot head),
    )

pub returns-clause-gc : goal.returns-clause-gc
returns-clause-gc g c =
    keeps_by _ _ (VmLoad (2 + c.args.slot) c.vm_load-head.result)
    (ap (λ x. x.0) (rw c.head_place.ensures at c.vm_load-head.ensures.does.did))

pub returns-clause-sees : goal.returns-clause-sees
returns-clause-sees g c =
    let m = c.args.seat.now.me in
    sees_heads m.0.vm (vm_facts m.0.vm c.requires.sits.1.runs) (head_found words kept taken m.0.vm)
    m.0.gc c.args.slot c.vm_load-head.result (rw c.index.ensures.is at c.index.ensures.within)
    (rw c.head_place.ensures at c.vm_load-head.ensures.does.finds)

pub returns-clause-taken : goal.returns-clause-taken
returns-clause-taken g c =
    let m = c.args.seat.now.me.0 in
    let head = c.vm_load-head.result in
    let does = c.vm_load-head.ensures.does in
    λ gc. taken_found m.vm m.gc c.args.slot head (rw c.index.ensures.is at c.index.ensures.within)
    (subst (λ (k : ℕ). BothFind m.vm m.gc k head) c.head_place.ensures (does.both gc))

pub returns-clause-runs : goal.returns-clause-runs
returns-clause-runs g c = λ gc. found_runs _ _ _ _ (c.vm_load-head.ensures.does.both gc)
