-- The memory of both seats: where its objects lie, and what its values name.
use Rattle.std.proofs.Common.{◌≡◌, ◌+◌, ◌&&◌, true, not, List, [], ◌∷◌, length, refl, sym, ap, ◌∙◌, inl, inr, arith}
use Rattle.std.specs.Prelude.{◌==◌, nat_lt}
use Rattle.std.proofs.lemmas.Bool.Decides.{nat_tests}
use Rattle.std.proofs.Math.Logic.{∥∥₁_elim}
use Rattle.std.proofs.Props.{props}
use Rattle.ps_word.specs.declared.words.Word.{Word}
use Rattle.ps_word.specs.Headers.{cycle_limit}
use Rattle.ps_mem.specs.Shows.{AreValues}
use Rattle.ps_core_machine.specs.declared.events.Vm.{Vm}
use Rattle.ps_core_machine.specs.declared.events.Gc.{Gc}
use Rattle.ps_core_machine.specs.Objects.{value_stands, values_stand}
use Rattle.ps_core_laws.proofs.HeapTests.{and_both, bool_cases}
use Rattle.ps_core_laws.proofs.KeptFacts.{kept}
use Rattle.ps_core_laws.specs.Memory.{heap_of}
use Rattle.ps_core_laws.specs.Shown.{VmRuns}
use Rattle.ps_core_laws.specs.Stores.{numbers}
use Rattle.ps_core_laws.proofs.Written.{known_stands}
use Rattle.ps_core_laws.specs.Collected.{may_open}
use Rattle.ps_core_machine.specs.declared.events.Event.{Event}
use Rattle.ps_core_machine.specs.Steps.{is_open, knows_open}
use Rattle.ps_table.specs.declared.plays.View.{View}
use Rattle.ps_table.specs.Events.{gc_did_all}
use Rattle.ps_table.specs.Mirrored.{KeepsVm}
use Rattle.ps_table.specs.Shown.{GcRuns}
use Rattle.ps_table.proofs.Kept.{keeps_vm}
use Rattle.ps_table.proofs.Facts.{knows}

-- what values refer to stands
pub values_name : (v : Vm) (ws : List Word) → AreValues (heap_of v) ws
    → values_stand v.objects (numbers ws) ≡ true
values_name v [] are = refl
values_name v (w ∷ ws) are = and_both (value_stands v.objects w.0)
    (values_stand v.objects (numbers ws)) (known_stands v w are.0.known) (values_name v ws are.1)

-- each slot has a log
pub taken_wide : (g : Gc) → ∥ GcRuns g ∥₁ → length g.taken ≡ 32
taken_wide g t = ∥∥₁_elim t (hlevel props) (λ r. ap (λ (x : Gc). length x.taken) (sym r.is)
    ∙ (kept g.space r.size r.events r.is_run).collector.taken)

-- outside a cycle as many were opened as were flipped
pub may_open_is : (v : Vm) → ∥ VmRuns v ∥₁
    → (not (is_open v) && nat_lt (v.epoch + 1) cycle_limit) ≡ may_open (is_open v) v.cycle
may_open_is v runs = elim (bool_cases (is_open v)) [
  | inl now ↦ rw now refl
  | inr none ↦ (let k = (knows v runs).cycles in
      let low = k.low in let high = k.high in
      let same : v.epoch ≡ v.cycle = grind (arith, nat_tests) in
      ap (λ n. not (is_open v) && nat_lt (n + 1) cycle_limit) same)
]

-- ---- a seat with both sides

-- a call of the collector leaves the mutator's side
pub vm_on : (a b c : View) (es : List Event) → KeepsVm a b → c ≡ gc_did_all b es → KeepsVm a c
vm_on a b c es k did = let l = keeps_vm b c es did in record {
  acts = l.acts ∙ k.acts;
  events = l.events ∙ k.events;
  part = l.part ∙ k.part;
}

-- in a cycle the collector goes on to know of it
pub knows_on : (g h : Gc) → (h.cycle ≡ g.cycle) × (h.epoch ≡ g.epoch) → knows_open g ≡ true
    → knows_open h ≡ true
knows_on g h same knows = (λ k. same.1 k == same.0 k + 1) ∙ knows
