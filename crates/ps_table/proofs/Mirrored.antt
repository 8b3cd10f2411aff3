-- The numbers that the mutator's seat keeps, after each of its events.
use Rattle.std.proofs.Common.{◌≡◌, ◌≢◌, ℕ, ◌+◌, ◌<◌, Bool, true, false, List, [], ◌∷◌, length, Some, None, Option, refl}
use Rattle.std.proofs.Common.{sym, ap, ◌∙◌, inl, inr, subst, arith, length-set}
use Rattle.std.specs.Prelude.{slice_index, slice_index_or, slice_set, nat_le, replicate}
use Rattle.std.specs.Option.{option_map}
use Rattle.std.proofs.lemmas.Bool.{cases_eq}
use Rattle.std.proofs.lemmas.List.{get_or-set_same, get_or-set_other, get_or-replicate}
use Rattle.std.proofs.Math.Path.{fun_ext}
use native.Mathlib.Decide.{ℕ_discrete}
use Rattle.ps_word.specs.Headers.{fields_in}
use Rattle.ps_record.specs.declared.Record.{Record}
use Rattle.ps_record.specs.declared.Record.TheVariants.{Place, Close}
use Rattle.ps_mem.specs.Heap.{AfterStore, Grants}
use Rattle.ps_core_machine.specs.declared.events.Event.{Event}
use Rattle.ps_core_machine.specs.declared.events.Event.TheVariants.{RecordStore, EpochStore}
use Rattle.ps_core_machine.specs.declared.events.Object.{Object}
use Rattle.ps_core_machine.specs.declared.events.Vm.{Vm}
use Rattle.ps_core_machine.specs.declared.events.Gc.{Gc}
use Rattle.ps_core_machine.specs.Objects.{among, object_at, log_of, stored}
use Rattle.ps_core_machine.specs.Steps.{start, space_base, vm_after, field_stored, next_birth_after, table_size}
use Rattle.ps_core_machine.specs.Steps.{with_record}
use Rattle.ps_core_laws.proofs.HeapTests.{bool_cases, le_true, le_is, eq_true, number_not}
use Rattle.ps_core_laws.proofs.Headed.{stored_objects}
use Rattle.ps_core_laws.proofs.Lookups.{object_at-with_field}
use Rattle.ps_core_laws.specs.Memory.{grants_of, records_left}
use Rattle.ps_core_laws.specs.Shown.{VmRuns}
use Rattle.ps_core_laws.specs.Stores.{fields_stored, part_made}
use Rattle.ps_core_laws.specs.MemoryLaws.{OpensCycle, ClosesLog, SeesHead, AfterClose, seen}
use Rattle.ps_core_laws.proofs.Facts.{VmFacts}
use Rattle.ps_core_laws.proofs.Logged.{part_logged, after_record, length_here, log_there}
use Rattle.ps_core_laws.proofs.Written.{only}
use Rattle.ps_table.specs.declared.mirror.Mirror.{Mirror}
use Rattle.ps_table.specs.Mirrored.{Mirrors, Sits}
use Rattle.ps_table.specs.Shown.{SeatState, vm_did}

-- the seat sits as before at as many words, with another part of the same space
pub goes : (words words' : ℕ) (m : SeatState) (n : Mirror) (m' : SeatState) (n' : Mirror) (v : Vm)
    → words' ≡ words → Sits words m n → m'.0.acts_vm ≡ true → m'.1 ≡ m.1 → m'.0.vm ≡ v
    → v.space ≡ m.0.vm.space → ∥ VmRuns m'.0.vm ∥₁ → Mirrors v n' → Sits words' m' n'
goes words words' m n m' n' v same s acts empty part space runs mirrors = record {
  wide = same ∙ (s.wide ∙ ap table_size (sym (ap (λ (x : Vm). x.space) part ∙ space)));
  acts = acts;
  empty = empty ∙ s.empty;
  runs = runs;
  mirrors = subst (λ (x : Vm). Mirrors x n') (sym part) mirrors;
}

-- it made one event
pub goes_by : (words words' : ℕ) (m : SeatState) (n : Mirror) (m' : SeatState) (n' : Mirror)
    (e : Event) (v : Vm) → words' ≡ words → Sits words m n → m' ≡ (vm_did m.0 e, m.1)
    → VmRuns m'.0.vm → vm_after m.0.vm m.0.gc e ≡ v → v.space ≡ m.0.vm.space → Mirrors v n'
    → Sits words' m' n'
goes_by words words' m n m' n' e v same s did runs part space mirrors =
    goes words words' m n m' n' v same s (ap (λ x. x.0.acts_vm) did ∙ s.acts)
    (ap (λ x. x.1) did) (ap (λ x. x.0.vm) did ∙ part) space ∣ runs ∣₁ mirrors

some_before : (x : Option Object) (f : Object → Object) (o : Object) → option_map f x ≡ Some o
    → (p : Object) × (x ≡ Some p)
some_before None f o e = absurd (cc)
some_before (Some p) f o e = (p, refl)

-- what stands after stores to fields stood before them
stood : (v : Vm) (a i : ℕ) (ws : List ℕ) (b : ℕ) (o : Object)
    → object_at (fields_stored v a i ws).objects b ≡ Some o
    → (p : Object) × (object_at v.objects b ≡ Some p)
stood v a i [] b o e = (o, e)
stood v a i (w ∷ ws) b o e =
    let q = stood (field_stored v a i w) a (i + 1) ws b o e in
    some_before (object_at v.objects b) (stored a i w) q.0
    (sym (object_at-with_field v.objects a i w b)
    ∙ (ap (λ (os : List Object). object_at os b) (sym (stored_objects v a i w)) ∙ q.1))

module _ (v : Vm) (n : Mirror) (m : Mirrors v n) (k : VmFacts v) where
  -- nothing that stands lies from the end of use on
  none_new : (b : ℕ) (o : Object) → object_at v.objects b ≡ Some o → false ≡ nat_le n.end b
  none_new b o e = let hi = (k.within b o e).1 in let is = m.end_is in
      elim (bool_cases (nat_le n.end b))
      [ inl t ↦ (let x = le_is n.end b t in absurd (omega arith)) | inr f ↦ sym f ]

  pub mirrors_seen : (slot w : ℕ) → Mirrors (record v { heads = slice_set v.heads slot w })
      (record n { heads = slice_set n.heads slot w })
  mirrors_seen slot w = record {
    space_is = m.space_is;
    base_is = m.base_is;
    end_is = m.end_is;
    birth_is = m.birth_is;
    epoch_is = m.epoch_is;
    open_is = m.open_is;
    heads_are = ap (λ (hs : List ℕ). slice_set hs slot w) m.heads_are;
    wide_logged = m.wide_logged;
    wide_shut = m.wide_shut;
    logged_is = m.logged_is;
    shut_is = m.shut_is;
    fresh_is = m.fresh_is;
    fresh_low = m.fresh_low;
    idle = m.idle;
    settled = m.settled;
  }

  pub mirrors_made : (header fields birth : ℕ) → fields_in header ≡ fields
      → birth ≡ next_birth_after v.next_birth header
      → Mirrors (part_made v header) (record n { end = n.end + 2 + fields; next_birth = birth })
  mirrors_made header fields birth count next = record {
    space_is = m.space_is;
    base_is = m.base_is;
    end_is = let e = m.end_is in omega arith;
    birth_is = next;
    epoch_is = m.epoch_is;
    open_is = m.open_is;
    heads_are = m.heads_are;
    wide_logged = m.wide_logged;
    wide_shut = m.wide_shut;
    logged_is = m.logged_is;
    shut_is = m.shut_is;
    fresh_is = λ a o e. elim (ℕ_discrete a v.end) as
        (λ _. among (v.end ∷ v.fresh) a ≡ nat_le n.fresh_from a) [
          | yes is ↦ let t = eq_true a v.end is in let low = m.fresh_low in
              let le = le_true n.fresh_from a (omega arith) in rw (t, le) refl
          | no ne ↦ let f = number_not a v.end ne in let e' = rw f at e in
              rw f (m.fresh_is a o e')
        ];
    fresh_low = let low = m.fresh_low in omega arith;
    idle = refl;
    settled = m.settled;
  }

  pub mirrors_opened : (g : Gc) → OpensCycle v g → Mirrors (vm_after v g EpochStore)
      (record n {
        epoch = n.epoch + 1;
        cycle_open = true;
        fresh_from = n.end;
        shut = replicate 32 false;
      })
  mirrors_opened g c = record {
    space_is = m.space_is;
    base_is = m.base_is;
    end_is = m.end_is;
    birth_is = m.birth_is;
    epoch_is = ap (λ (x : ℕ). x + 1) m.epoch_is;
    open_is = sym c.grants.cycle_open;
    heads_are = m.heads_are;
    wide_logged = m.wide_logged;
    wide_shut = refl;
    logged_is = m.logged_is;
    shut_is = λ slot lt. get_or-replicate 32 slot false true lt ∙ sym (c.grants.closed slot);
    fresh_is = none_new;
    fresh_low = let is = m.end_is in omega arith;
    idle = m.idle;
    settled = m.settled;
  }

  -- after a hand-over nothing is new
  pub mirrors_handed : Mirrors (record v { fresh = [] }) (record n { fresh_from = n.end })
  mirrors_handed = record {
    space_is = m.space_is;
    base_is = m.base_is;
    end_is = m.end_is;
    birth_is = m.birth_is;
    epoch_is = m.epoch_is;
    open_is = m.open_is;
    heads_are = m.heads_are;
    wide_logged = m.wide_logged;
    wide_shut = m.wide_shut;
    logged_is = m.logged_is;
    shut_is = m.shut_is;
    fresh_is = none_new;
    fresh_low = let is = m.end_is in omega arith;
    idle = m.idle;
    settled = m.settled;
  }

  logged_at : (slot number : ℕ) (logs : List (List Record)) → slot < 32
      → number ≡ length (log_of logs slot)
      → ((s : ℕ) → s ≢ slot → length (log_of logs s) ≡ length (log_of v.logs s)) → (s : ℕ) → s < 32
      → slice_index (slice_set n.logged slot number) s ≡ length (log_of logs s)
  logged_at slot number logs lt here there s below = let wide = m.wide_logged in
      elim (ℕ_discrete s slot) as
      (λ _. slice_index (slice_set n.logged slot number) s ≡ length (log_of logs s)) [
        | yes e ↦ subst (λ (x : ℕ). slice_index (slice_set n.logged slot number) x
            ≡ length (log_of logs x)) (sym e)
            (get_or-set_same n.logged slot number 0 (omega arith) ∙ here)
        | no ne ↦ get_or-set_other n.logged slot s number 0 ne
            ∙ (m.logged_is s below ∙ sym (there s ne))
      ]

  pub mirrors_closed : (g : Gc) (slot : ℕ) → slot < 32 → ClosesLog v g slot
      → Mirrors (vm_after v g (RecordStore slot Close)) (record n {
        fresh_from = n.end;
        logged = slice_set n.logged slot (slice_index n.logged slot + 1);
        shut = slice_set n.shut slot true;
      })
  mirrors_closed g slot lt c =
      let after : Vm = vm_after v g (RecordStore slot Close) in
      let wide = m.wide_shut in
      record {
        space_is = m.space_is;
        base_is = m.base_is;
        end_is = m.end_is;
        birth_is = m.birth_is;
        epoch_is = m.epoch_is;
        open_is = m.open_is;
        heads_are = m.heads_are;
        wide_logged = length-set n.logged slot (slice_index n.logged slot + 1) ∙ m.wide_logged;
        wide_shut = length-set n.shut slot true ∙ m.wide_shut;
        logged_is = logged_at slot (slice_index n.logged slot + 1) after.logs lt
            (ap (λ (x : ℕ). x + 1) (m.logged_is slot lt) ∙ sym c.grants.put) c.grants.put_others;
        shut_is = λ s below. elim (ℕ_discrete s slot) as
            (λ _. slice_index_or (slice_set n.shut slot true) s true
            ≡ (grants_of after).closed s) [
              | yes e ↦ subst (λ (x : ℕ). slice_index_or (slice_set n.shut slot true) x true
                  ≡ (grants_of after).closed x) (sym e)
                  (get_or-set_same n.shut slot true true (omega arith) ∙ sym c.grants.closed)
              | no ne ↦ get_or-set_other n.shut slot s true true ne
                  ∙ (m.shut_is s below ∙ sym (c.grants.closed_others s ne))
            ];
        fresh_is = none_new;
        fresh_low = let is = m.end_is in omega arith;
        idle = m.idle;
        settled = m.settled;
      }

  -- ---- after stores to the fields of an object

  module _ (a i : ℕ) (ws : List ℕ) where
    -- one that is new
    pub mirrors_new : (fields_stored v a i ws).fresh ≡ v.fresh
        → (fields_stored v a i ws).written ≡ None → Mirrors (fields_stored v a i ws) n
    mirrors_new fresh written =
        let f : Vm = fields_stored v a i ws in
        subst (λ (x : Vm). Mirrors x n) (sym (only v a i ws)) (record {
          space_is = m.space_is;
          base_is = m.base_is;
          end_is = m.end_is;
          birth_is = m.birth_is;
          epoch_is = m.epoch_is;
          open_is = m.open_is;
          heads_are = m.heads_are;
          wide_logged = m.wide_logged;
          wide_shut = m.wide_shut;
          logged_is = m.logged_is;
          shut_is = m.shut_is;
          fresh_is = λ b o e. let p = stood v a i ws b o e in
              ap (λ (l : List ℕ). among l b) fresh ∙ m.fresh_is b p.0 p.1;
          fresh_low = m.fresh_low;
          idle = m.idle;
          settled = written;
        })

    -- another one, outside a cycle
    pub mirrors_old : (fields_stored v a i ws).fresh ≡ []
        → (fields_stored v a i ws).written ≡ None
        → Mirrors (fields_stored v a i ws) (record n { fresh_from = n.end })
    mirrors_old fresh written =
        subst (λ (x : Vm). Mirrors x (record n { fresh_from = n.end })) (sym (only v a i ws))
        (record {
          space_is = m.space_is;
          base_is = m.base_is;
          end_is = m.end_is;
          birth_is = m.birth_is;
          epoch_is = m.epoch_is;
          open_is = m.open_is;
          heads_are = m.heads_are;
          wide_logged = m.wide_logged;
          wide_shut = m.wide_shut;
          logged_is = m.logged_is;
          shut_is = m.shut_is;
          fresh_is = λ b o e. let p = stood v a i ws b o e in
              ap (λ (l : List ℕ). among l b) fresh ∙ none_new b p.0 p.1;
          fresh_low = let is = m.end_is in omega arith;
          idle = m.idle;
          settled = written;
        })

    -- another one in a cycle, with its record
    pub mirrors_logged : (g : Gc) (slot count : ℕ) → slot < 32
        → AfterStore (grants_of v) (grants_of (vm_after (fields_stored v a i ws) g
        (RecordStore slot (Place a i count)))) slot
        → Mirrors (vm_after (fields_stored v a i ws) g (RecordStore slot (Place a i count)))
        (record n {
          fresh_from = n.end;
          logged = slice_set n.logged slot (slice_index n.logged slot + 1);
        })
    mirrors_logged g slot count lt after =
        let whole = part_logged v g a i ws slot a i count in
        let r : Record = Place a i count in
        let wide = k.wide_logs in
        let f : Vm = fields_stored v a i ws in
        let shut : (grants_of (after_record v f slot r)).closed ≡ (grants_of v).closed =
        ap (λ (x : Vm). (grants_of x).closed) (sym whole) ∙ after.closed in
        subst (λ (x : Vm). Mirrors x (record n {
          fresh_from = n.end;
          logged = slice_set n.logged slot (slice_index n.logged slot + 1);
        })) (sym whole) (record {
          space_is = m.space_is;
          base_is = m.base_is;
          end_is = m.end_is;
          birth_is = m.birth_is;
          epoch_is = m.epoch_is;
          open_is = m.open_is;
          heads_are = m.heads_are;
          wide_logged = length-set n.logged slot (slice_index n.logged slot + 1) ∙ m.wide_logged;
          wide_shut = m.wide_shut;
          logged_is = logged_at slot (slice_index n.logged slot + 1) (with_record v.logs slot r) lt
              (ap (λ (x : ℕ). x + 1) (m.logged_is slot lt)
              ∙ sym (length_here v.logs slot r (omega arith)))
              (λ s ne. ap length (log_there v.logs slot r s ne));
          shut_is = λ s below. m.shut_is s below ∙ sym (ap (λ (c : ℕ → Bool). c s) shut);
          fresh_is = λ b o e. let p = stood v a i ws b o e in none_new b p.0 p.1;
          fresh_low = let is = m.end_is in omega arith;
          idle = m.idle;
          settled = refl;
        })

-- what a close makes of the grants, over the load of the head before it
pub close_seen : (v : Vm) (g : Gc) (slot n : ℕ) (new : Grants) → SeesHead v g slot n
    → AfterClose (grants_of (seen v g slot n)) new slot → AfterClose (grants_of v) new slot
close_seen v g slot n new s p = record {
  fresh = p.fresh;
  words = p.words;
  births = p.births;
  cycle_open = p.cycle_open;
  records = p.records;
  records_others = λ t ne. p.records_others t ne ∙ s.others t ne;
  put = p.put;
  put_others = p.put_others;
  closed = p.closed;
  closed_others = p.closed_others;
}

-- where no record has a free place, all is granted that was before the load
pub full_seen : (v : Vm) (g : Gc) (slot n : ℕ) → SeesHead v g slot n
    → records_left (seen v g slot n) slot ≡ 0 → grants_of (seen v g slot n) ≡ grants_of v
full_seen v g slot n s none =
    s.grants
    ∙ ap (λ (records : ℕ → ℕ). record (grants_of v) { records = records }) (fun_ext each)
  where
    each : (t : ℕ) → records_left (seen v g slot n) t ≡ records_left v t
    each t =
        elim (cases_eq t slot) [
          | inl same ↦ subst
              (λ (u : ℕ). records_left (seen v g slot n) u ≡ records_left v u) (sym same)
              (let more = s.more in omega (arith, more, none))
          | inr other ↦ s.others t other
        ]

-- ---- the start

empty_log : (slot : ℕ) → slot < 32 → log_of (replicate 32 []) slot ≡ []
empty_log slot lt = get_or-replicate 32 slot [] [] lt

pub mirrors_start : (space : ℕ) → Mirrors (start space).vm (record {
  space = space;
  base = 8256;
  end = 8256;
  next_birth = 0;
  fresh_from = 8256;
  epoch = 0;
  cycle_open = false;
  logged = replicate 32 0;
  heads = replicate 32 0;
  shut = replicate 32 false;
})
mirrors_start space = record {
  space_is = refl;
  base_is = let e : space_base space 0 ≡ 8256 = omega arith in sym e;
  end_is = refl;
  birth_is = refl;
  epoch_is = refl;
  open_is = refl;
  heads_are = refl;
  wide_logged = refl;
  wide_shut = refl;
  logged_is = λ slot lt. get_or-replicate 32 slot 0 0 lt ∙ sym (ap length (empty_log slot lt));
  shut_is = λ slot lt. get_or-replicate 32 slot false true lt;
  fresh_is = λ a o e. absurd (cc);
  fresh_low = omega arith;
  idle = refl;
  settled = refl;
}
