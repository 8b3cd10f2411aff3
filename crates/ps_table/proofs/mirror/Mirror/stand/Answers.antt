use Rattle.std.proofs.Common.{ℕ, ◌+◌, refl, ap, ◌∙◌, arith}
use Rattle.ps_core_laws.specs.Stores.{part_made}
use Rattle.ps_table.specs.Events.{did_all, object_made}
use Rattle.ps_table.proofs.Facts.{vm_facts}
use Rattle.ps_table.proofs.Kept.{keeps_all}
use Rattle.ps_table.proofs.Mirrored.{goes, mirrors_made}
use Rattle.ps_table.proofs.Storing.{did_acts}
use Rattle.ps_table.proofs.mirror.Mirror.stand.Goals as goal

pub overflow_add-self : goal.overflow_add-self
overflow_add-self g c =
    let s = c.requires.sits.1 in
    let size = (vm_facts c.args.seat.now.me.0.vm s.runs).size.1 in
    let e = s.mirrors.end_is in let inside = c.requires.inside in
    omega arith

pub overflow_add-self-2 : goal.overflow_add-self-2
overflow_add-self-2 g c =
    let s = c.requires.sits.1 in
    let size = (vm_facts c.args.seat.now.me.0.vm s.runs).size.1 in
    let e = s.mirrors.end_is in let inside = c.requires.inside in
    omega arith

pub overflow_cast-result : goal.overflow_cast-result
overflow_cast-result g c =
    let s = c.requires.sits.1 in
    let k = vm_facts c.args.seat.now.me.0.vm s.runs in
    let hi = k.end_high in let wide = k.base_high in let n = k.size.1 in
    let e = s.mirrors.end_is in
    omega arith

pub returns-clause-sits : goal.returns-clause-sits
returns-clause-sits g c =
    let m = c.args.seat.now.me in
    let v = m.0.vm in
    let n = c.args.self.now in
    let s = c.requires.sits.1 in
    let header = c.args.header in
    let fields = c.args.fields in
    let made = c.vm_object.ensures.did in
    let did = made.2 in (
      c.vm_object.ensures.same.0,
      goes _ _ m n c.vm_object.new.seat.me (record n {
        end = n.end + 2 + fields;
        next_birth = c.args.next_birth;
      }) (part_made v header) (ap (λ t. t.words) c.vm_object.ensures.same.1) s
          (ap (λ x. x.0.acts_vm) did ∙ (did_acts m.0 (object_made n.end made.0 header) ∙ s.acts))
          (ap (λ x. x.1) did)
          c.vm_object.ensures.part refl
          c.vm_object.ensures.runs
          (mirrors_made v n s.mirrors (vm_facts v s.runs) header fields c.args.next_birth
          c.requires.fields c.requires.next),
    )

pub returns-clause-gc : goal.returns-clause-gc
returns-clause-gc g c =
    let made = c.vm_object.ensures.did in
    keeps_all _ _ (object_made c.args.self.now.end made.0 c.args.header) (ap (λ x. x.0) made.2)

pub returns-clause-did : goal.returns-clause-did
returns-clause-did g c =
    let made = c.vm_object.ensures.did in (
      made.0,
      made.1,
      ap (λ x. x.0) made.2
          ∙ ap (λ (address : ℕ). did_all c.args.seat.now.me.0
          (object_made address made.0 c.args.header)) c.requires.sits.1.mirrors.end_is,
    )
