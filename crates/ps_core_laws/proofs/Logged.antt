-- The mutator's part and its numbers after a store to the fields of an object, and after its
-- record.
use Rattle.std.proofs.Common.{◌≡◌, ◌≢◌, ◌^◌, ℕ, suc, ◌+◌, ◌-◌, ◌<◌, ◌≤◌, true, false, ◌&&◌, not, List, [], ◌∷◌, ◌++◌}
use Rattle.std.proofs.Common.{length, cond, Some, None, refl, sym, ap, ◌∙◌, inl, inr, subst, arith, length-append}
use Rattle.std.specs.Prelude.{slice_index, nat_lt, ◌==◌, if◌then◌else◌, min}
use native.Mathlib.Decide.{ℕ_discrete}
use Rattle.std.proofs.lemmas.List.Sums.{sum_by_push}
use Rattle.ps_word.specs.declared.words.Word.{Word}
use Rattle.ps_record.specs.declared.Record.{Record}
use Rattle.ps_record.specs.declared.Record.TheVariants.{Place}
use Rattle.ps_mem.specs.Heap.{AfterStore, fields_at}
use Rattle.ps_mem.specs.Heap as memory
use Rattle.ps_mem.specs.References.{NamesStanding}
use Rattle.ps_core_machine.specs.declared.events.Object.{Object}
use Rattle.ps_core_machine.specs.declared.events.Vm.{Vm}
use Rattle.ps_core_machine.specs.declared.events.Gc.{Gc}
use Rattle.ps_core_machine.specs.declared.events.Event.TheVariants.{RecordStore}
use Rattle.ps_core_machine.specs.Objects.{among, object_at, log_of, closes, is_close}
use Rattle.ps_core_machine.specs.Steps.{is_open, table_size, vm_after, with_record}
use Rattle.ps_core_machine.specs.Conditions.{VmMay}
use Rattle.ps_core_laws.proofs.Rings.{log_of-same, log_of-other}
use Rattle.ps_core_laws.proofs.HeapTests.{bool_cases, lt_is, lt_true, and_parts, clash}
use Rattle.ps_core_laws.specs.Memory.{heap_of, grants_of, records_left}
use Rattle.ps_core_laws.specs.Stores.{numbers, fields_stored, MayStoreFields}
use Rattle.ps_core_laws.proofs.Facts.{VmFacts}
use Rattle.ps_core_laws.proofs.Standing.{field_of, fields_of_object, length_words}
use Rattle.ps_core_laws.proofs.Written.{only, written_all, heap_all, may_store, names_stand, words_back}

-- ---- the object that is stored to

pub length_numbers : (items : List Word) → length (numbers items) ≡ length items
length_numbers [] = refl
length_numbers (w ∷ ws) = ap suc (length_numbers ws)

pub record Target (v : Vm) (a i n : ℕ) : Type 0 where
  pub object : Object
  pub at : object_at v.objects a ≡ Some object
  pub fits : i + n ≤ length object.fields
  pub few : length object.fields < 2 ^ 16
  pub low : a < 2 ^ 24
  pub below : a < v.end
  pub inside : a + 2 + i + n ≤ table_size v.space

pub target : (v : Vm) (a i : ℕ) (items : List Word) → VmFacts v → 1 ≤ length items
    → i + length items ≤ length (fields_at (heap_of v) a) → Target v a i (length (numbers items))
target v a i items k some le =
    let f = field_of v a i (omega arith) in
    let o = f.0 in
    let long = ap length (fields_of_object v a o f.1) in
    let same = length_words o.fields in
    let n = length_numbers items in
    let w = k.within a o f.1 in
    let hi = w.1 in let top = k.end_high in let wide = k.base_high in let size = k.size.1 in
    let s = k.sized a o f.1 in
    let few = (k.headed a o f.1).fields in
    record {
      object = o;
      at = f.1;
      fits = omega arith;
      few = omega arith;
      low = omega arith;
      below = omega arith;
      inside = omega arith;
    }

pub fields_permitted : (v : Vm) (a i : ℕ) (items : List Word)
    → Target v a i (length (numbers items)) → NamesStanding (heap_of v) a items → v.written ≡ None
    → MayStoreFields v a i (numbers items)
fields_permitted v a i items t known settled =
    may_store v a i (numbers items) t.object t.at t.fits (names_stand v a t.object items t.at known)
    (λ off is. inl settled)

pub heap_stored : (v : Vm) (a i : ℕ) (items : List Word) (o : Object)
    → object_at v.objects a ≡ Some o → i + length (numbers items) ≤ length o.fields
    → heap_of (fields_stored v a i (numbers items)) ≡ memory.stored (heap_of v) a i items
heap_stored v a i items o at fits = heap_all v a i (numbers items) o at fits
    ∙ ap (memory.stored (heap_of v) a i) (words_back items)

pub logs_kept : (v : Vm) (a i : ℕ) (ws : List ℕ) → (fields_stored v a i ws).logs ≡ v.logs
logs_kept v a i ws = ap (λ (x : Vm). x.logs) (only v a i ws)

closes_place : (log : List Record) (a i n : ℕ) → closes (log ++ Place a i n ∷ []) ≡ closes log
closes_place log a i n =
    let more : closes (log ++ Place a i n ∷ []) ≡ closes log + 0 =
    sum_by_push (λ x. cond (is_close x) 1 0) log (Place a i n) in
    omega (arith, more)

abbrev pub after_record : Vm → Vm → ℕ → Record → Vm
after_record v f slot r =
    record v {
      objects = f.objects;
      stored = f.stored;
      fresh = [];
      written = None;
      logs =
          with_record v.logs slot r;
    }

pub part_logged : (v : Vm) (g : Gc) (a i : ℕ) (ws : List ℕ) (slot b j n : ℕ)
    → vm_after (fields_stored v a i ws) g (RecordStore slot (Place b j n)) ≡ after_record v
    (fields_stored v a i ws) slot (Place b j n)
part_logged v g a i ws slot b j n =
    ap (λ (x : Vm). vm_after x g (RecordStore slot (Place b j n))) (only v a i ws)

pub log_here : (logs : List (List Record)) (slot : ℕ) (r : Record) → slot < length logs
    → log_of (with_record logs slot r) slot ≡ log_of logs slot ++ r ∷ []
log_here logs slot r lt = log_of-same logs slot (log_of logs slot ++ r ∷ []) lt

pub log_there : (logs : List (List Record)) (slot : ℕ) (r : Record) (s : ℕ) → s ≢ slot
    → log_of (with_record logs slot r) s ≡ log_of logs s
log_there logs slot r s ne = log_of-other logs slot s (log_of logs slot ++ r ∷ []) ne

closes_same : (logs : List (List Record)) (slot a i n : ℕ) (s : ℕ) → slot < length logs
    → closes (log_of (with_record logs slot (Place a i n)) s) ≡ closes (log_of logs s)
closes_same logs slot a i n s lt =
    elim (ℕ_discrete s slot) as
    (λ _. closes (log_of (with_record logs slot (Place a i n)) s) ≡ closes (log_of logs s)) [
      | yes e ↦ subst (λ (k : ℕ). closes (log_of (with_record logs slot (Place a i n)) k) ≡ closes
          (log_of logs k)) (sym e) (ap closes (log_here logs slot (Place a i n) lt)
          ∙ closes_place (log_of logs slot) a i n)
      | no ne ↦ ap closes (log_there logs slot (Place a i n) s ne)
    ]

pub length_here : (logs : List (List Record)) (slot : ℕ) (r : Record) → slot < length logs
    → length (log_of (with_record logs slot r) slot) ≡ length (log_of logs slot) + 1
length_here logs slot r lt = ap length (log_here logs slot r lt)
    ∙ length-append (log_of logs slot) (r ∷ [])

-- what a record that is granted may be put by
pub record Granted (v : Vm) (slot : ℕ) : Type 0 where
  pub in_range : slot < 32
  pub not_closed : (closes (log_of v.logs slot) == v.epoch) ≡ false
  pub free : length (log_of v.logs slot) < slice_index v.heads slot + 256
  pub short : length (log_of v.logs slot) + 1 ≤ 2 ^ 63

pub granted : (v : Vm) (slot : ℕ) → is_open v ≡ true → 1 ≤ records_left v slot → Granted v slot
granted v slot is some =
    let some1 = rw is at some in
    elim (bool_cases (nat_lt slot 32 && not (closes (log_of v.logs slot) == v.epoch))) [
      | inr f ↦ let some2 = rw f at some1 in absurd (omega arith)
      | inl t ↦ let some2 = rw t at some1 in
          let p = and_parts (nat_lt slot 32) (not (closes (log_of v.logs slot) == v.epoch)) t in
          record {
            in_range = lt_is slot 32 p.0;
            not_closed = elim (bool_cases (closes (log_of v.logs slot) == v.epoch))
                [ inl y ↦ let q = p.1 in let q' = rw y at q in absurd (cc) | inr n ↦ n ];
            free = omega arith;
            short = omega arith;
          }
    ]

-- ---- what is granted afterwards

pub after_fields : (v : Vm) (a i : ℕ) (ws : List ℕ) (slot : ℕ)
    → AfterStore (grants_of v) (grants_of (fields_stored v a i ws)) slot
after_fields v a i ws slot =
    let e = only v a i ws in
    subst (λ (x : Vm). AfterStore (grants_of v) (grants_of x) slot) (sym e) (record {
      words = refl;
      births = refl;
      cycle_open = refl;
      closed = refl;
      used = refl;
      others = λ s ne. refl;
      kept = omega arith;
      one = omega arith;
      put_no_other = λ s ne. refl;
    })

pub after_logged : (v : Vm) (f : Vm) (slot a i n : ℕ) → is_open v ≡ true → slot < length v.logs
    → Granted v slot
    → AfterStore (grants_of v) (grants_of (after_record v f slot (Place a i n))) slot
after_logged v f slot a i n is lt grant =
    let longer = length_here v.logs slot (Place a i n) lt in
    record {
      words = refl;
      births = refl;
      cycle_open = refl;
      closed = λ k s. is_open v && (closes_same v.logs slot a i n s lt k == v.epoch);
      used =
          let c = closes_same v.logs slot a i n slot lt in
          let low = lt_true slot 32 grant.in_range in
          let not_closed = grant.not_closed in
          let free = grant.free in
          let short = grant.short in
          rw (is, c, longer, low, not_closed) (omega arith);
      others = λ s ne. ap (λ (log : List Record). if is_open v
          then (if nat_lt s 32 && not (closes log == v.epoch)
          then min (slice_index v.heads s + 256) (2 ^ 63) - length log else 0)
          else 2 ^ 64) (log_there v.logs slot (Place a i n) s ne);
      kept = omega arith;
      one = omega arith;
      put_no_other = λ s ne. ap length (log_there v.logs slot (Place a i n) s ne);
    }

-- ---- the record is permitted

pub may_log : (v : Vm) (a i : ℕ) (ws : List ℕ) (slot : ℕ) → 1 ≤ length ws → Target v a i (length ws)
    → is_open v ≡ true → among v.fresh a ≡ false → v.written ≡ None → Granted v slot
    → VmMay (fields_stored v a i ws) (RecordStore slot (Place a i (length ws)))
may_log v a i [] slot some t is off settled g = absurd (omega arith)
may_log v a i (w ∷ ws) slot some t is off settled g =
    let f = fields_stored v a i (w ∷ ws) in
    let e = only v a i (w ∷ ws) in
    let fits = t.fits in let few = t.few in
    let ne = g.not_closed in
    record {
      in_range = g.in_range;
      opened = ap is_open e ∙ is;
      not_closed = subst (λ (x : Vm). closes (log_of x.logs slot) ≢ x.epoch) (sym e)
          (λ same. let t : (closes (log_of v.logs slot) == v.epoch) ≡ true =
          Rattle.ps_core_laws.proofs.HeapTests.eq_true (closes (log_of v.logs slot)) v.epoch same in
          clash (closes (log_of v.logs slot) == v.epoch) t ne);
      room = subst (λ (x : Vm). length (log_of x.logs slot) < slice_index x.heads slot + 256)
          (sym e) g.free;
      short = subst (λ (x : Vm). length (log_of x.logs slot) < 2 ^ 63) (sym e)
          (let short = g.short in omega arith);
      fits = (t.low, omega arith, omega arith);
      written = written_all v a i w ws is off settled;
    }
