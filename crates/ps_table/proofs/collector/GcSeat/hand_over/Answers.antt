use Rattle.std.proofs.Common.{[], refl, ap, ◌∙◌}
use Rattle.ps_table.proofs.Facts.{vm_facts}
use Rattle.ps_table.proofs.Mirrored.{goes, mirrors_handed}
use Rattle.ps_table.proofs.collector.GcSeat.hand_over.Goals as goal

pub returns-clause-sits : goal.returns-clause-sits
returns-clause-sits g c =
    let m = c.args.self.now.seat.me in
    let v = m.0.vm in
    let n = c.args.mirror.now in
    let s = c.requires.sits in
    let does = c.hand-mirror.ensures.does in
    goes _ _ m n c.hand-mirror.new.seat.me (record n { fresh_from = n.end })
    (record v { fresh = [] }) (ap (λ t. t.words) c.hand-mirror.ensures.same.1) s (ap (λ x. x.0.acts_vm) does.did
    ∙ s.acts)
    (ap (λ x. x.1) does.did) (ap (λ x. x.0.vm) does.did) refl ∣ does.vm_runs ∣₁
    (mirrors_handed v n s.mirrors (vm_facts v s.runs))
