-- What the mutator's events leave of the collector's side, and the collector's of the mutator's.
use Rattle.std.proofs.Common.{◌≡◌, ℕ, Bool, true, false, List, [], ◌∷◌, refl, sym, ap, ◌∙◌, subst}
use Rattle.std.specs.Prelude.{if◌then◌else◌}
use Rattle.ps_core_machine.specs.declared.events.Event.{Event}
use Rattle.ps_core_machine.specs.declared.events.Vm.{Vm}
use Rattle.ps_core_laws.specs.Shown.{VmRuns}
use Rattle.ps_table.specs.declared.mirror.Mirror.{Mirror}
use Rattle.ps_table.specs.declared.plays.View.{View}
use Rattle.ps_table.specs.Events.{did_all, gc_did_all}
use Rattle.ps_table.specs.Mirrored.{KeepsGc, KeepsVm, Sits}
use Rattle.ps_table.specs.Shown.{SeatState, vm_did, gc_did}
use Rattle.ps_table.proofs.Mirrored.{goes}

pub keeps_on : (a b c : View) → KeepsGc a b → KeepsGc b c → KeepsGc a c
keeps_on a b c k l = record {
  acts = l.acts ∙ k.acts;
  events = l.events ∙ k.events;
  part = l.part ∙ k.part;
}

pub keeps_same : (a b : View) → b ≡ a → KeepsGc a b
keeps_same a b same = record {
  acts = ap (λ m. m.acts_gc) same;
  events = ap (λ m. m.gc_events) same;
  part = ap (λ m. m.gc) same;
}

pub keeps_by : (a b : View) (e : Event) → b ≡ vm_did a e → KeepsGc a b
keeps_by a b e did = record {
  acts = ap (λ m. m.acts_gc) did;
  events = ap (λ m. m.gc_events) did;
  part = ap (λ m. m.gc) did;
}

after_all : (a : View) (es : List Event) → KeepsGc a (did_all a es)
after_all a [] = keeps_same a a refl
after_all a (e ∷ es) = keeps_on a (vm_did a e) (did_all a (e ∷ es)) (keeps_by a (vm_did a e) e refl)
    (after_all (vm_did a e) es)

pub keeps_all : (a b : View) (es : List Event) → b ≡ did_all a es → KeepsGc a b
keeps_all a b es did =
    keeps_on a (did_all a es) b (after_all a es) (keeps_same (did_all a es) b did)

-- an event where it is owed
pub keeps_owed : (m m' : SeatState) (owed : Bool) (e : Event)
    → m' ≡ (if owed then (vm_did m.0 e, m.1) else m) → KeepsGc m.0 m'.0
keeps_owed m m' true e did = keeps_by m.0 m'.0 e (ap (λ x. x.0) did)
keeps_owed m m' false e did = keeps_same m.0 m'.0 (ap (λ x. x.0) did)

-- ---- the collector's events

gc_after_all : (a : View) (es : List Event) → KeepsVm a (gc_did_all a es)
gc_after_all a [] = record { acts = refl; events = refl; part = refl }
gc_after_all a (e ∷ es) = let k = gc_after_all (gc_did a e) es in
    record { acts = k.acts; events = k.events; part = k.part }

pub keeps_vm : (a b : View) (es : List Event) → b ≡ gc_did_all a es → KeepsVm a b
keeps_vm a b es did = let k = gc_after_all a es in record {
  acts = ap (λ m. m.acts_vm) did ∙ k.acts;
  events = ap (λ m. m.vm_events) did ∙ k.events;
  part = ap (λ m. m.vm) did ∙ k.part;
}

-- a seat with both sides sits as before
pub sits_on : (words words' : ℕ) (m m' : SeatState) (n : Mirror) → words' ≡ words → Sits words m n
    → KeepsVm m.0 m'.0 → m'.1 ≡ [] → Sits words' m' n
sits_on words words' m m' n same s k empty = goes words words' m n m' n m.0.vm same s
    (k.acts ∙ s.acts) (empty ∙ sym s.empty) k.part refl
    (subst (λ (x : Vm). ∥ VmRuns x ∥₁) (sym k.part) s.runs) s.mirrors
