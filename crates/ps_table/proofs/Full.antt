-- What holds where a slot's ring has no free place.
use Rattle.std.proofs.Common.{◌≡◌, ℕ, ◌+◌, ◌<◌, ◌&&◌, true, not, length, inl, inr, subst, refl, arith}
use Rattle.std.specs.Prelude.{slice_index, slice_set, nat_lt, ◌==◌}
use Rattle.std.proofs.lemmas.List.{get_or-set_same}
use Rattle.ps_core_machine.specs.declared.events.Vm.{Vm}
use Rattle.ps_core_machine.specs.declared.events.Gc.{Gc}
use Rattle.ps_core_machine.specs.Conditions.{HasRoom}
use Rattle.ps_core_machine.specs.Objects.{closes, log_of}
use Rattle.ps_core_machine.specs.Steps.{is_open}
use Rattle.ps_core_laws.specs.Kept.{VmKnows}
use Rattle.ps_core_laws.proofs.HeapTests.{bool_cases}
use Rattle.ps_core_laws.specs.MemoryLaws.{SeesHead, seen}
use Rattle.ps_core_laws.specs.Memory.{records_left}
use Rattle.ps_core_laws.proofs.Room.{part_seen}

-- a full ring takes no record
pub full_left : (v : Vm) (slot : ℕ) → is_open v ≡ true → (HasRoom v slot → ⊥)
    → records_left v slot ≡ 0
full_left v slot is full =
    elim (bool_cases (nat_lt slot 32 && not (closes (log_of v.logs slot) == v.epoch))) [
      | inl t ↦ rw (is, t) (omega arith)
      | inr f ↦ rw (is, f) refl
    ]

-- by a head just loaded a ring is full where as many records as it holds come behind that head
pub full_behind : (v : Vm) (g : Gc) (slot n : ℕ) → VmKnows v → slot < 32 → SeesHead v g slot n
    → (HasRoom (seen v g slot n) slot → ⊥) → length (log_of v.logs slot) ≡ n + 256
full_behind v g slot n k lt s full =
    let room = (k.logs.each slot lt).room in
    let low = s.low in
    let wide = k.logs.heads in
    let at : slice_index (slice_set v.heads slot n) slot ≡ n =
    get_or-set_same v.heads slot n 0 (omega arith) in
    let past : length (log_of v.logs slot) < slice_index (slice_set v.heads slot n) slot + 256 → ⊥ =
    subst (λ (x : Vm). HasRoom x slot → ⊥) (part_seen v g slot n lt) full in
    omega arith
