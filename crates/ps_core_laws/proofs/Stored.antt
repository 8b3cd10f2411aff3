-- The laws of a part as a memory, put together.
use Rattle.std.proofs.Common.{inl, inr, ◌≡◌, ◌^◌, ℕ, ◌-◌, ◌&&◌, true, false, [], ◌∷◌, length, refl, sym, ap, ◌∙◌, subst}
use Rattle.std.proofs.Common.{arith}
use Rattle.std.specs.Prelude.{nat_le, nat_eq}
use Rattle.ps_language.specs.declared.kinds.Kind.{Kind}
use Rattle.ps_word.specs.Headers.{kind_in}
use Rattle.ps_mem.specs.Heap.{AfterStore, records_put}
use Rattle.ps_record.specs.declared.Record.TheVariants.{Place}
use Rattle.ps_core_machine.specs.declared.events.Event.TheVariants.{RecordStore}
use Rattle.ps_core_machine.specs.declared.events.Vm.{Vm}
use Rattle.ps_core_machine.specs.Objects.{among, log_of}
use Rattle.ps_core_machine.specs.Steps.{is_open, space_base}
use Rattle.ps_core_machine.specs.Conditions.{VmMay}
use Rattle.ps_core_laws.specs.Memory.{grants_of}
use Rattle.ps_core_laws.specs.Stores.{number_of, numbers, fields_stored}
use Rattle.ps_core_laws.specs.MemoryLaws.{Stores, Fills, Logs, logged, CanMake, MayMake, Makes, HasRoomGranted}
use Rattle.ps_core_laws.proofs.Facts.{VmFacts}
use Rattle.ps_core_laws.proofs.Room.{room_answer}
use Rattle.ps_core_laws.proofs.Made.{kind_range, not_body, place_end, free_end, low_end, heap_made, after_new}
use Rattle.ps_core_laws.proofs.HeapTests.{bool_cases}
use Rattle.ps_core_laws.proofs.Written.{new_same, written_out, may_store, names_stand}
use Rattle.ps_core_laws.proofs.Logged.{logs_kept, length_here, length_numbers, target, fields_permitted, heap_stored}
use Rattle.ps_core_laws.proofs.Logged.{granted, after_fields, after_logged, part_logged, may_log}

pub rooms : (v : Vm) → VmFacts v → HasRoomGranted v
rooms v k words births =
    let lo = k.low_end in
    let same : v.space - (v.end - space_base v.space v.cycle) ≡ (grants_of v).words = omega arith in
    sym (room_answer v words births k)
    ∙ ap (λ (n : ℕ). nat_le words n && nat_le births (2 ^ 40 - v.next_birth)) same

-- ---- stores

-- a record is owed in a cycle, but for an object that may be filled
owed : (v : Vm) (a : ℕ) → records_put (grants_of v) a ≡ 1
    → (is_open v ≡ true) × (among v.fresh a ≡ false)
owed v a e = elim (bool_cases (is_open v)) [
  | inr out ↦ let e' = rw out at e in absurd (omega arith)
  | inl is ↦ let e' = rw is at e in (
    is,
    elim (bool_cases (among v.fresh a))
        [ inl t ↦ (let e'' = rw t at e' in absurd (omega arith)) | inr f ↦ f ],
  )
]

pub stores : (v : Vm) → VmFacts v → Stores v
stores v k a i items c =
    let t = target v a i items k c.some c.within in
    record {
      may = fields_permitted v a i items t c.known c.settled;
      place = let n = length_numbers items in let inside = t.inside in omega arith;
      heap = heap_stored v a i items t.object t.at t.fits;
      grants = λ slot. after_fields v a i (numbers items) slot;
      logs = logs_kept v a i (numbers items);
      settled = λ none. elim (bool_cases (is_open v)) [
        | inr out ↦ written_out v a i (numbers items) out ∙ c.settled
        | inl is ↦ let none' = rw is at none in elim (bool_cases (among v.fresh a)) [
          | inl new ↦ (new_same v a i (numbers items) new).1 ∙ c.settled
          | inr old ↦ let bad = rw old at none' in absurd (omega arith)
        ]
      ];
    }

pub fills : (v : Vm) → VmFacts v → Fills v
fills v k a i w c =
    let t = target v a i (w ∷ []) k (omega arith) (let lt = c.within in omega arith) in
    let new = c.fresh in
    record {
      may = (may_store v a i (number_of w ∷ []) t.object t.at t.fits
          (names_stand v a t.object (w ∷ []) t.at c.known)
          (λ off is. absurd (let b : true ≡ false = sym new ∙ off in cc))).0;
      place = let inside = t.inside in omega arith;
      heap = heap_stored v a i (w ∷ []) t.object t.at t.fits;
      grants = rw new refl;
      logs = rw new refl;
      settled = rw new refl;
    }

pub logs : (v : Vm) → VmFacts v → Logs v
logs v k g slot a i items c due some =
    let p = owed v a due in
    let is = p.0 in
    let off = p.1 in
    let t = target v a i items k c.some c.within in
    let n : length (numbers items) ≡ length items = length_numbers items in
    let grant = granted v slot is some in
    let wide = k.wide_logs in
    let low = grant.in_range in
    let here : logged v g slot a i items ≡ _ =
    part_logged v g a i (numbers items) slot a i (length items) in
    record {
      may = subst (λ (m : ℕ). VmMay (fields_stored v a i (numbers items))
          (RecordStore slot (Place a i m))) n
          (may_log v a i (numbers items) slot (let s = c.some in omega arith) t is off c.settled
          grant);
      heap = heap_stored v a i items t.object t.at t.fits;
      logs = ap (λ (x : Vm). x.logs) here;
      settled = ap (λ (x : Vm). x.written) here;
      counted = ap (λ (x : Vm). length (log_of x.logs slot)) here
          ∙ (length_here v.logs slot (Place a i (length items)) (omega arith)
          ∙ rw (is, off) refl);
      grants = subst (λ (x : Vm). AfterStore (grants_of v) (grants_of x) slot) (sym here)
          (after_logged v (fields_stored v a i (numbers items)) slot a i (length items) is
          (omega arith) grant);
    }

-- ---- a new object

may_make : (v : Vm) (header : ℕ) (kind : Kind) (fields : ℕ) → CanMake v header kind fields
    → MayMake v header fields
may_make v header kind fields c =
    let g = c.granted in
    let few = c.few in
    let f = c.new.fields_is in
    let range = kind_range kind in
    let low = range.0 in let high = range.1 in
    let is = c.new.kind_is in
    let body : nat_eq (kind_in header) 11 ≡ false = ap (λ (n : ℕ). nat_eq n 11) c.new.kind_is
    ∙ not_body kind c.new.no_body in
    record {
      clears = λ m le. omega arith;
      stands = record {
        kind = (omega arith, omega arith);
        fields = omega arith;
        cleared = omega arith;
        birth = rw body c.new.birth_is;
      };
      made = λ g. refl;
    }

pub makes : (v : Vm) → VmFacts v → Makes v
makes v k header kind fields c = let n = c.new in record {
  may = may_make v header kind fields c;
  place = place_end v fields k c.granted;
  free = free_end v k;
  low = low_end v k;
  heap = heap_made v header kind fields k n;
  grants = after_new v header kind fields n;
}
