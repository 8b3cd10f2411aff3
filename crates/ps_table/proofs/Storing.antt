-- A store by the mutator's seat: the words, and the record that is owed.
use Rattle.std.proofs.Common.{◌≡◌, ◌^◌, ℕ, ◌+◌, ◌-◌, ◌<◌, ◌≤◌, Bool, true, false, List, [], ◌∷◌, ◌++◌, length, None}
use Rattle.std.proofs.Common.{refl, sym, ap, ◌∙◌, inl, inr, subst, arith}
use Rattle.std.specs.Prelude.{slice_index, slice_set, nat_le, nat_lt, if◌then◌else◌}
use native.Mathlib.Decide.{ℕ_discrete}
use Rattle.ps_word.specs.declared.words.Word.{Word}
use Rattle.ps_record.specs.declared.Record.TheVariants.{Place}
use Rattle.ps_mem.specs.Heap.{AfterStore, records_put, stored}
use Rattle.ps_core_machine.specs.declared.events.Event.TheVariants.{RecordStore, FieldStore}
use Rattle.ps_core_machine.specs.declared.events.Event.{Event}
use Rattle.ps_core_machine.specs.declared.events.Vm.{Vm}
use Rattle.ps_core_machine.specs.declared.events.Gc.{Gc}
use Rattle.ps_core_machine.specs.Objects.{among, log_of}
use Rattle.ps_core_machine.specs.Steps.{is_open, vm_after}
use Rattle.ps_core_machine.specs.Conditions.{VmMay}
use Rattle.ps_core_laws.proofs.HeapTests.{bool_cases, le_true, le_is, lt_is, lt_true, and_parts}
use Rattle.ps_core_laws.specs.Memory.{heap_of, grants_of, records_left}
use Rattle.ps_core_laws.specs.Shown.{VmRuns}
use Rattle.ps_core_laws.specs.Stores.{numbers, fields_stored}
use Rattle.ps_core_laws.specs.MemoryLaws.{CanStore, StoresWords, StoresRecord, logged}
use Rattle.ps_core_laws.proofs.Facts.{VmFacts}
use Rattle.ps_core_laws.proofs.Logged.{Target, target, length_numbers, Granted, granted}
use Rattle.ps_core_laws.proofs.Stored.{stores, logs}
use Rattle.ps_core_laws.proofs.Written.{only, new_same, old_after}
use Rattle.ps_table.specs.declared.mirror.Mirror.{Mirror}
use Rattle.ps_table.specs.declared.plays.View.{View}
use Rattle.ps_table.specs.Events.{did_all, field_stores}
use Rattle.ps_table.specs.Mirrored.{Mirrors, Sits, owes, mirror_stored}
use Rattle.ps_table.specs.Shown.{SeatState, vm_did}
use Rattle.ps_table.proofs.Facts.{vm_facts}
use Rattle.ps_table.proofs.Mirrored.{goes, mirrors_new, mirrors_old, mirrors_logged}

-- ---- what the events leave of a view

pub did_part : (m : View) (a i : ℕ) (ws : List ℕ)
    → (did_all m (field_stores a i ws)).vm ≡ fields_stored m.vm a i ws
did_part m a i [] = refl
did_part m a i (w ∷ ws) = did_part (vm_did m (FieldStore a i w)) a (i + 1) ws

pub did_acts : (m : View) (es : List Event) → (did_all m es).acts_vm ≡ m.acts_vm
did_acts m [] = refl
did_acts m (e ∷ es) = did_acts (vm_did m e) es

pub did_more : (m : View) (es fs : List Event)
    → did_all m (es ++ fs) ≡ did_all (did_all m es) fs
did_more m [] fs = refl
did_more m (e ∷ es) fs = did_more (vm_did m e) es fs

-- words stored to fields, one after another
module _ (m m' : SeatState) (a i : ℕ) (ws : List ℕ)
    (did : m' ≡ (did_all m.0 (field_stores a i ws), m.1)) where
  pub wrote_part : m'.0.vm ≡ fields_stored m.0.vm a i ws
  wrote_part = ap (λ x. x.0.vm) did ∙ did_part m.0 a i ws

  pub wrote_acts : m'.0.acts_vm ≡ m.0.acts_vm
  wrote_acts = ap (λ x. x.0.acts_vm) did ∙ did_acts m.0 (field_stores a i ws)

pub space_stored : (v : Vm) (a i : ℕ) (ws : List ℕ) → (fields_stored v a i ws).space ≡ v.space
space_stored v a i ws = ap (λ (x : Vm). x.space) (only v a i ws)

-- ---- the whole store

pub record StoredSo (words : ℕ) (v : Vm) (m : SeatState) (n : Mirror) (slot a i : ℕ)
    (items : List Word) :
    Type 0 where
  pub sits : Sits words m n
  pub heap : heap_of m.0.vm ≡ stored (heap_of v) a i items
  pub grants : AfterStore (grants_of v) (grants_of m.0.vm) slot
  pub put : (grants_of m.0.vm).put slot
      ≡ (grants_of v).put slot + records_put (grants_of v) a

module _ (words : ℕ) (m : SeatState) (n : Mirror) (s : Sits words m n) (slot a i : ℕ)
    (items : List Word) (can : CanStore m.0.vm a i items) (some : 1 ≤ records_left m.0.vm slot)
  where
    facts : VmFacts m.0.vm
    facts = vm_facts m.0.vm s.runs

    at : Target m.0.vm a i (length (numbers items))
    at = target m.0.vm a i items facts can.some can.within

    pub so : StoresWords m.0.vm a i items
    so = stores m.0.vm facts a i items can

    pub few : (i + length items < 2 ^ 16) × (a < 2 ^ 24)
    few = let t = at in let count = length_numbers items in let fits = t.fits in let small = t.few
        in (omega arith, t.low)

    by_number : among m.0.vm.fresh a ≡ nat_le n.fresh_from a
    by_number = s.mirrors.fresh_is a at.object at.at

    is_old : nat_lt a n.fresh_from ≡ true → among m.0.vm.fresh a ≡ false
    is_old t = let lt = lt_is a n.fresh_from t in by_number
        ∙ elim (bool_cases (nat_le n.fresh_from a))
        [ inl t ↦ (let x = le_is n.fresh_from a t in absurd (omega arith)) | inr f ↦ f ]

    is_new : nat_lt a n.fresh_from ≡ false → among m.0.vm.fresh a ≡ true
    is_new f = by_number ∙ elim (ℕ_discrete (n.fresh_from - a) 0) [
      | yes e ↦ le_true n.fresh_from a (omega arith)
      | no ne ↦ (let t = lt_true a n.fresh_from (omega arith) in
          absurd (let b : true ≡ false = sym t ∙ f in cc))
    ]

    due : owes n a ≡ true → (is_open m.0.vm ≡ true) × (among m.0.vm.fresh a ≡ false)
    due t = let p = and_parts (nat_lt a n.fresh_from) n.cycle_open t in
        (sym s.mirrors.open_is ∙ p.1, is_old p.0)

    put_one : owes n a ≡ true → records_put (grants_of m.0.vm) a ≡ 1
    put_one t = let d = due t in rw (d.0, d.1) refl

    recorded : (g : Gc) → owes n a ≡ true → StoresRecord m.0.vm g slot a i items
    recorded g t = logs m.0.vm facts g slot a i items can (put_one t) some

    grant : owes n a ≡ true → Granted m.0.vm slot
    grant t = granted m.0.vm slot (due t).0 some

    pub may_settle : (v : Vm) → v ≡ fields_stored m.0.vm a i (numbers items) → owes n a ≡ true
        → VmMay v (RecordStore slot (Place a i (length items)))
        × (length (log_of v.logs slot) ≡ slice_index n.logged slot)
    may_settle v is t = (
      subst (λ (x : Vm). VmMay x (RecordStore slot (Place a i (length items)))) (sym is)
          (recorded m.0.gc t).may,
      ap (λ (x : Vm). length (log_of x.logs slot)) is
          ∙ (ap (λ ls. length (log_of ls slot)) so.logs
          ∙ sym (s.mirrors.logged_is slot (grant t).in_range)),
    )

    settled : (words' : ℕ) (m1 m2 : SeatState) (n' : Mirror) → words' ≡ words
        → m1.0.vm ≡ fields_stored m.0.vm a i (numbers items) → m1.0.acts_vm ≡ true → m1.1 ≡ m.1
        → ∥ VmRuns m2.0.vm ∥₁ → m2 ≡ m1 → records_put (grants_of m.0.vm) a ≡ 0
        → Mirrors (fields_stored m.0.vm a i (numbers items)) n'
        → StoredSo words' m.0.vm m2 n' slot a i items
    settled words' m1 m2 n' wide part acts empty runs same none mirrors =
        let part' : m2.0.vm ≡ fields_stored m.0.vm a i (numbers items) =
        ap (λ (x : SeatState). x.0.vm) same ∙ part in record {
          sits = goes words words' m n m2 n' (fields_stored m.0.vm a i (numbers items)) wide s
              (ap (λ (x : SeatState). x.0.acts_vm) same ∙ acts)
              (ap (λ (x : SeatState). x.1) same ∙ empty) part'
              (space_stored m.0.vm a i (numbers items)) runs mirrors;
          heap = ap heap_of part' ∙ so.heap;
          grants = subst (λ (x : Vm). AfterStore (grants_of m.0.vm) (grants_of x) slot) (sym part')
              (so.grants slot);
          put = ap (λ (x : Vm). length (log_of x.logs slot)) part'
              ∙ (ap (λ ls. length (log_of ls slot)) so.logs
              ∙ (let z : length (log_of m.0.vm.logs slot) ≡
              length (log_of m.0.vm.logs slot) + records_put (grants_of m.0.vm) a = omega arith in
              z));
        }

    stored_out : (m1 : SeatState) → m1.0.vm ≡ fields_stored m.0.vm a i (numbers items)
        → records_put (grants_of m.0.vm) a ≡ 0
        → (fields_stored m.0.vm a i (numbers items)).written ≡ None
    stored_out m1 is none = so.settled none

    -- the first field ends what is new
    nothing_new : nat_lt a n.fresh_from ≡ true
        → (fields_stored m.0.vm a i (numbers items)).fresh ≡ []
    nothing_new t = go items can.some
      where
        go : (xs : List Word) → 1 ≤ length xs → (fields_stored m.0.vm a i (numbers xs)).fresh ≡ []
        go [] le = absurd (omega arith)
        go (x ∷ xs) le = old_after m.0.vm a i x.0 (numbers xs) (is_old t)

    -- the numbers after it, by the tests
    abbrev counts : Mirror
    counts = record n {
      fresh_from = n.end;
      logged = slice_set n.logged slot (slice_index n.logged slot + 1);
    }

    abbrev ends : Mirror
    ends = record n { fresh_from = n.end }

    numbers_new : nat_lt a n.fresh_from ≡ false → mirror_stored n slot a ≡ n
    numbers_new f = ap (λ (b : Bool). if b then (if n.cycle_open then counts else ends) else n) f

    numbers_old : (b : Bool) → nat_lt a n.fresh_from ≡ true → n.cycle_open ≡ b
        → mirror_stored n slot a ≡ (if b then counts else ends)
    numbers_old b t is =
        ap (λ (c : Bool). if c then (if n.cycle_open then counts else ends) else n) t
        ∙ ap (λ (c : Bool). if c then counts else ends) is

    pub stored_so : (words' : ℕ) (m1 m2 : SeatState) (n' : Mirror) → words' ≡ words
        → n' ≡ mirror_stored n slot a → m1.0.vm ≡ fields_stored m.0.vm a i (numbers items)
        → m1.0.acts_vm ≡ true → m1.1 ≡ m.1 → ∥ VmRuns m2.0.vm ∥₁
        → m2 ≡ (if owes n a
        then (vm_did m1.0 (RecordStore slot (Place a i (length items))), m1.1) else m1)
        → StoredSo words' m.0.vm m2 n' slot a i items
    stored_so words' m1 m2 n' wide counted part acts empty runs same =
        let numbered : (x : Mirror) → mirror_stored n slot a ≡ x
        → StoredSo words' m.0.vm m2 x slot a i items
        → StoredSo words' m.0.vm m2 n' slot a i items =
        (λ x is so. subst (λ (y : Mirror). StoredSo words' m.0.vm m2 y slot a i items)
        (sym (counted ∙ is)) so)
        in
        elim (bool_cases (nat_lt a n.fresh_from)) [
          | inr new ↦ (
              let same' = rw new at same in
              let fresh = is_new new in
              let none : records_put (grants_of m.0.vm) a ≡ 0 =
              elim (bool_cases (is_open m.0.vm)) [ inl t ↦ rw (t, fresh) refl | inr f ↦ rw f refl ]
              in
              numbered n (numbers_new new) (settled words' m1 m2 n wide part acts empty runs same'
              none
              (mirrors_new m.0.vm n s.mirrors facts a i (numbers items)
              (new_same m.0.vm a i (numbers items) fresh).0 (so.settled none))))
          | inl old ↦ elim (bool_cases n.cycle_open) [
            | inr out ↦ (
                let same' = rw (old, out) at same in
                let shut : is_open m.0.vm ≡ false = sym s.mirrors.open_is ∙ out in
                let none : records_put (grants_of m.0.vm) a ≡ 0 = rw shut refl in
                numbered ends (numbers_old false old out) (settled words' m1 m2 ends wide part acts
                empty runs same' none (mirrors_old m.0.vm n s.mirrors facts a i (numbers items) (nothing_new old)
                (so.settled none))))
            | inl is_on ↦ (
                let same' = rw (old, is_on) at same in
                let owed : owes n a ≡ true = rw (old, is_on) refl in
                let g : Gc = m1.0.gc in
                let rec = recorded g owed in
                let lt = (grant owed).in_range in
                let part' : m2.0.vm ≡ logged m.0.vm g slot a i items =
                ap (λ (x : SeatState). x.0.vm) same'
                ∙ ap (λ (x : Vm). vm_after x g (RecordStore slot (Place a i (length items)))) part
                in
                numbered counts (numbers_old true old is_on) (record {
                  sits = goes words words' m n m2 counts (logged m.0.vm g slot a i items) wide s
                      (ap (λ (x : SeatState). x.0.acts_vm) same' ∙ acts)
                      (ap (λ (x : SeatState). x.1) same' ∙ empty) part'
                      (space_stored m.0.vm a i (numbers items)) runs
                      (mirrors_logged m.0.vm n s.mirrors facts a i (numbers items) g slot
                      (length items) lt rec.grants);
                  heap = ap heap_of part' ∙ rec.heap;
                  grants = subst (λ (x : Vm). AfterStore (grants_of m.0.vm) (grants_of x) slot)
                      (sym part') rec.grants;
                  put = ap (λ (x : Vm). length (log_of x.logs slot)) part' ∙ rec.counted;
                }))
          ]
        ]
