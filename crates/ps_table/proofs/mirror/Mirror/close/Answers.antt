use Rattle.std.proofs.Common.{◌≡◌, ◌+◌, ℕ, true, false, true≢false, ap, sym, subst, ◌∙◌, arith}
use Rattle.std.proofs.lemmas.List.{get_or_default}
use Rattle.ps_core_machine.specs.Conditions.{HasRoom}
use Rattle.ps_core_machine.specs.declared.events.Vm.{Vm}
use Rattle.ps_core_laws.specs.MemoryLaws.{AfterClose, seen}
use Rattle.ps_core_laws.specs.Memory.{grants_of}
use Rattle.ps_table.proofs.Facts.{knows}
use Rattle.ps_table.proofs.Full.{full_behind, full_left}
use Rattle.ps_table.proofs.Kept.{keeps_on}
use Rattle.ps_table.proofs.Mirrored.{close_seen, full_seen}
use Rattle.ps_table.proofs.mirror.Mirror.close.Goals as goal

pub returns-clause-gc : goal.returns-clause-gc
returns-clause-gc g c = keeps_on _ _ _ c.see_head.ensures.gc c.put_close.ensures.gc

pub returns-clause-closed : goal.returns-clause-closed
returns-clause-closed g c =
    let m = c.args.seat.now.me in
    let new = grants_of c.put_close.new.seat.me.0.vm in
    λ still done. close_seen m.0.vm m.0.gc c.args.slot c.see_head.result new
    c.see_head.ensures.sees
    (subst (λ (x : Vm). AfterClose (grants_of x) new c.args.slot)
    (ap (λ m. m.vm) c.see_head.ensures.did) c.put_close.ensures.grants)

pub returns-clause-already : goal.returns-clause-already
returns-clause-already g c = λ shut.
    let s = c.requires.sits.1 in
    let wide = s.mirrors.wide_shut in
    let below = rw c.index.ensures.is at c.index.ensures.within in
    let off = get_or_default c.args.self.now.shut c.args.slot true false (omega arith)
    ∙ (rw c.index.ensures.is at c.if-self-index.false) in
    absurd (true≢false (sym shut ∙ (sym (s.mirrors.shut_is c.args.slot below) ∙ off)))

pub returns-then-is_full-clause-kept : goal.returns-then-is_full-clause-kept
returns-then-is_full-clause-kept g c =
    let m = c.args.seat.now.me.0 in
    let slot = c.args.slot in
    let head = c.see_head.result in
    λ _. subst (λ (x : Vm). (HasRoom x slot → ⊥) → grants_of x ≡ grants_of m.vm)
    (sym (ap (λ v. v.vm) c.see_head.ensures.did))
    (λ full. full_seen m.vm m.gc slot head c.see_head.ensures.sees
    (full_left (seen m.vm m.gc slot head) slot c.requires.open full))
    (c.is_full.ensures.0 c.if-is_full.true)

pub returns-then-is_full-clause-taken : goal.returns-then-is_full-clause-taken
returns-then-is_full-clause-taken g c =
    let m = c.args.seat.now.me.0 in
    let slot = c.args.slot in
    let head = c.see_head.result in
    λ _ gc. full_behind m.vm m.gc slot head (knows m.vm c.requires.sits.1.runs) (rw c.index.ensures.is at c.index.ensures.within)
    c.see_head.ensures.sees
    (subst (λ (x : Vm). HasRoom x slot → ⊥) (ap (λ v. v.vm) c.see_head.ensures.did)
    (c.is_full.ensures.0 c.if-is_full.true))
    ∙ ap (λ (k : ℕ). k + 256) (c.see_head.ensures.taken gc)

pub returns-then-is_full-clause-runs : goal.returns-then-is_full-clause-runs
returns-then-is_full-clause-runs g c = λ _ gc. c.see_head.ensures.runs gc
