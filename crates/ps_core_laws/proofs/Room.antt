-- The numbers that the mutator's seat keeps beside its part, and the records that are left.
use Rattle.std.proofs.Common.{◌≡◌, ◌≢◌, ◌^◌, ℕ, ◌+◌, ◌-◌, ◌<◌, ◌≤◌, true, ◌&&◌, not, List, length, None, refl, ap, inl}
use Rattle.std.proofs.Common.{inr, arith, Bool, false}
use Rattle.std.specs.Prelude.{slice_index, slice_set, nat_le, nat_lt, min, ◌==◌, if◌then◌else◌}
use Rattle.std.proofs.lemmas.List.{get_or-set_same, get_or-set_other}
use Rattle.ps_mem.specs.Heap.{empty_heap}
use Rattle.ps_mem.specs.Bounded.{bounded_space}
use Rattle.ps_core_machine.specs.declared.events.Vm.{Vm}
use Rattle.ps_core_machine.specs.declared.events.Gc.{Gc}
use Rattle.ps_core_machine.specs.declared.events.Event.TheVariants.{VmLoad}
use Rattle.ps_core_machine.specs.Objects.{log_of, closes}
use Rattle.ps_core_machine.specs.Steps.{start, is_open, heads_after, vm_after, space_base}
use Rattle.ps_core_laws.proofs.Bases.{bool_same}
use Rattle.ps_core_laws.proofs.HeapTests.{bool_cases, le_true, lt_true, le_is}
use Rattle.ps_mem.specs.Heap.{has_room}
use Rattle.ps_core_laws.specs.Memory.{records_left, heap_of}
use Rattle.ps_core_laws.proofs.Facts.{VmFacts}

-- what needs a test that fails
pub and_not_right : (x y : Bool) → y ≡ false → (x && y) ≡ false
and_not_right true y e = e
and_not_right false y e = refl

-- ---- how much is in use

le_less : (u w s : ℕ) → u ≤ s → nat_le w (s - u) ≡ nat_le (u + w) s
le_less u w s le = bool_same _ _ (λ t. let x = le_is w (s - u) t in le_true (u + w) s (omega arith))
    (λ t. let x = le_is (u + w) s t in le_true w (s - u) (omega arith))

pub room_answer : (v : Vm) (words births : ℕ) → VmFacts v
    → (nat_le words (v.space - (v.end - space_base v.space v.cycle)) && nat_le births
    (2 ^ 40 - v.next_birth)) ≡ has_room (heap_of v) words births
unfolding has_room
room_answer v words births k =
    let hi = k.end_high in
    let x = le_less (v.end - space_base v.space v.cycle) words v.space (omega arith) in
    let y = le_less v.next_birth births (2 ^ 40) k.births in
    rw (x, y) refl

-- ---- a head that is loaded

pub heads_seen : (heads : List ℕ) (slot n : ℕ) → slot < 32
    → heads_after heads (2 + slot) n ≡ slice_set heads slot n
heads_seen heads slot n lt =
    let a : nat_le 2 (2 + slot) ≡ true = le_true 2 (2 + slot) (omega arith) in
    let b : nat_lt (2 + slot) 34 ≡ true = lt_true (2 + slot) 34 (omega arith) in
    let c : 2 + slot - 2 ≡ slot = omega arith in
    rw (a, b, c) refl

pub part_seen : (v : Vm) (g : Gc) (slot n : ℕ) → slot < 32
    → vm_after v g (VmLoad (2 + slot) n) ≡ record v { heads = slice_set v.heads slot n }
part_seen v g slot n lt =
    ap (λ (hs : List ℕ). record v { heads = hs }) (heads_seen v.heads slot n lt)

-- ---- the records that are left

pub records_other : (v : Vm) (slot n s : ℕ) → s ≢ slot
    → records_left (record v { heads = slice_set v.heads slot n }) s ≡ records_left v s
records_other v slot n s ne =
    ap (λ (k : ℕ). if is_open v then
    (if nat_lt s 32 && not (closes (log_of v.logs s) == v.epoch) then min (k + 256) (2 ^ 63) -
    length (log_of v.logs s) else 0) else 2 ^ 64) (get_or-set_other v.heads slot s n 0 ne)

-- a head that is loaded is no lower, so no record less is left
pub records_more : (v : Vm) (slot n : ℕ) → slot < length v.heads → slice_index v.heads slot ≤ n
    → records_left v slot ≤ records_left (record v { heads = slice_set v.heads slot n }) slot
records_more v slot n wide le =
    let same : slice_index (slice_set v.heads slot n) slot ≡ n =
    get_or-set_same v.heads slot n 0 wide in
    let len : ℕ = length (log_of v.logs slot) in
    let old : ℕ = slice_index v.heads slot in
    let more : min (old + 256) (2 ^ 63) - len ≤ min (n + 256) (2 ^ 63) - len = omega arith in
    elim (bool_cases (is_open v)) [
      | inr out ↦ rw (out) (omega arith)
      | inl is ↦ elim (bool_cases (nat_lt slot 32 && not (closes
          (log_of v.logs slot) == v.epoch))) [
            | inl t ↦ rw (is, t, same) more
            | inr f ↦ rw (is, f) (omega arith)
          ]
    ]

-- ---- the start

pub heap_start : (space : ℕ) → heap_of (start space).vm ≡ empty_heap (bounded_space space)
unfolding empty_heap
heap_start space = let e : 8256 - space_base space 0 ≡ 0 = omega arith in
    λ i. record { at = λ a. None; next = 0; used = e i; space = bounded_space space }
