-- What is written and what is logged and not yet taken names fields of standing objects.
use Rattle.std.proofs.Common.{◌≡◌, ◌≢◌, ℕ, zero, suc, ◌+◌, ◌<◌, ◌≤◌, true, nat_eq, ◌&&◌, List, [], ◌∷◌, ◌++◌, length}
use Rattle.std.proofs.Common.{Some, None, Option, refl, sym, ap, ◌∙◌, inl, inr, subst, arith, length-set, nat_le}
use Rattle.std.specs.Prelude.{slice_get, replicate}
use Rattle.std.specs.Option.{option_map}
use native.Mathlib.Decide.{ℕ_discrete}
use Rattle.ps_record.specs.declared.Record.{Record}
use Rattle.ps_record.specs.declared.Record.TheVariants.{Place, Close}
use Rattle.ps_core_machine.specs.declared.events.Event.{Event}
use Rattle.ps_core_machine.specs.declared.events.Event.TheVariants.{VmLoad, GcLoad, TakeLoad, CopyLoad, HandOver}
use Rattle.ps_core_machine.specs.declared.events.Event.TheVariants.{ClearLoad, ClearStore, HeaderStore, FieldStore}
use Rattle.ps_core_machine.specs.declared.events.Event.TheVariants.{RecordStore, EpochStore, ReplicaHeaderStore}
use Rattle.ps_core_machine.specs.declared.events.Event.TheVariants.{ReplicaFieldStore, ForwardStore, HeadStore}
use Rattle.ps_core_machine.specs.declared.events.Event.TheVariants.{CycleStore}
use Rattle.ps_core_machine.specs.declared.events.Object.{Object}
use Rattle.ps_core_machine.specs.declared.events.Written.{Written}
use Rattle.ps_core_machine.specs.declared.events.Half.{Half}
use Rattle.ps_core_machine.specs.declared.events.Vm.{Vm}
use Rattle.ps_core_machine.specs.Objects.{among, object_at, stored, with_field, log_of, adjoins, widened}
use Rattle.ps_core_machine.specs.Steps.{State, happens, is_open, with_record, taken_after, new_object, unlogged_after}
use Rattle.ps_core_machine.specs.Conditions.{Permitted, HasField, IsNamed}
use Rattle.ps_core_laws.specs.Kept.{Kept}
use Rattle.ps_core_laws.specs.Runs.{run, IsRun, IsSpace}
use Rattle.ps_core_laws.proofs.Closes.{stored_only}
use Rattle.ps_core_laws.proofs.HeapTests.{bool_cases, at_number, and_parts, number_is}
use Rattle.ps_core_laws.proofs.KeptFacts.{kept}
use Rattle.ps_core_laws.proofs.Lists.{get_snoc}
use Rattle.ps_core_laws.proofs.Lookups.{object_at-with_field}
use Rattle.ps_core_laws.proofs.Logged.{log_here, log_there}

-- an object with at least so many fields stands there
pub record HasFields (os : List Object) (a n : ℕ) : Type 0 where
  pub object : Object
  pub at : object_at os a ≡ Some object
  pub some : n ≤ length object.fields

pub record Named (os : List Object) (written : Option Written) (logs taken : List (List Record)) :
    Type 0 where
  pub unlogged : (w : Written) → written ≡ Some w → HasFields os w.address (w.first + w.count)
  pub untaken : (slot k a first count : ℕ) → slot < 32 → length (log_of taken slot) ≤ k
      → slice_get (log_of logs slot) k ≡ Some (Place a first count)
      → HasFields os a (first + count)

-- a record names fields of an object
abbrev pub NamesFields : List Object → Record → Type 0
NamesFields os (Place a first count) = HasFields os a (first + count)
NamesFields os Close = Unit {0}

abbrev pub NamedIn : State → Type 0
NamedIn s = Named s.vm.objects s.vm.written s.vm.logs s.gc.taken

-- ---- objects that stand go on standing

more : (os : List Object) (o : Object) (a n : ℕ)
    → ((q : Object) → object_at os a ≡ Some q → a ≢ o.address) → HasFields os a n
    → HasFields (o ∷ os) a n
more os o a n off h = record {
  object = h.object;
  at = elim (at_number o.address a) [
    | inl is ↦ absurd (off h.object h.at is)
    | inr ne ↦ rw ne h.at
  ];
  some = h.some;
}

length_stored : (a i w : ℕ) (o : Object) → length (stored a i w o).fields ≡ length o.fields
length_stored a i w o = elim (bool_cases (nat_eq a o.address))
    [ inl t ↦ rw t (length-set o.fields i w) | inr f ↦ rw f refl ]

kept_field : (os : List Object) (a i w b n : ℕ) → HasFields os b n
    → HasFields (with_field os a i w) b n
kept_field os a i w b n h = record {
  object = stored a i w h.object;
  at = object_at-with_field os a i w b ∙ ap (option_map (stored a i w)) h.at;
  some = let same = length_stored a i w h.object in let le = h.some in omega arith;
}

-- ---- what is written

put_there : (v : Vm) (x : Option Object) (a i w : ℕ) → object_at v.objects a ≡ x → HasField v x i w
    → HasFields v.objects a (i + 1)
put_there v None a i w e has = absurd has
put_there v (Some o) a i w e has =
    let lt = has.0 in record { object = o; at = e; some = omega arith }

widens : (os : List Object) (x : Option Written) (a i : ℕ) → HasFields os a (i + 1)
    → ((w : Written) → x ≡ Some w → HasFields os w.address (w.first + w.count))
    → adjoins x a i ≡ true → (w : Written) → Some (widened x a i) ≡ Some w
    → HasFields os w.address (w.first + w.count)
widens os None a i here old near w e =
    let is : widened None a i ≡ w = cc in
    subst (λ (z : Written). HasFields os z.address (z.first + z.count)) is here
widens os (Some q) a i here old near w e =
    let is : widened (Some q) a i ≡ w = cc in
    let parts = and_parts (nat_eq a q.address)
    (nat_le q.first (i + 1) && nat_le i (q.first + q.count)) near in
    let same = number_is a q.address parts.0 in
    let was = old q refl in
    let there : HasFields os q.address (i + 1) = subst (λ (z : ℕ). HasFields os z (i + 1)) same here
    in
    let one : Some there.object ≡ Some was.object = sym there.at ∙ was.at in
    let object : there.object ≡ was.object = cc in
    let count = ap (λ (z : Object). length z.fields) object in
    let lo = there.some in
    let hi = was.some in
    subst (λ (z : Written). HasFields os z.address (z.first + z.count)) is
    (record { object = was.object; at = was.at; some = omega arith })

-- ---- logs

get_inside : {X : Type 0} (xs : List X) (k : ℕ) (x : X) → slice_get xs k ≡ Some x → k < length xs
get_inside [] k x e = absurd (cc)
get_inside (y ∷ ys) zero x e = omega arith
get_inside (y ∷ ys) (suc k) x e = let h = get_inside ys k x e in omega arith

grows : (taken : List (List Record)) (slot t : ℕ) (r : Record) → slot < length taken
    → length (log_of taken t) ≤ length (log_of (with_record taken slot r) t)
grows taken slot t r lt = elim (ℕ_discrete t slot) [
  | yes is ↦
      (let here = log_here taken slot r lt in
      let long = Rattle.std.proofs.lemmas.List.length_push (log_of taken slot) r in
      let more = ap length here in
      subst (λ (z : ℕ). length (log_of taken z) ≤ length (log_of (with_record taken slot r) z))
      (sym is) (omega arith))
  | no ne ↦
      (let there = ap length (log_there taken slot r t ne) in
      omega arith)
]

module _ (s : State) (h : Kept s) (k : NamedIn s) where
  makes : (header : ℕ) → NamedIn (happens s (HeaderStore header))
  makes header =
      let off : (a : ℕ) (q : Object) → object_at s.vm.objects a ≡ Some q → a ≢ s.vm.end =
      λ a q at e. let hi = (h.mutator.lie a q at).high in omega arith in
      record {
        unlogged = λ w e. more s.vm.objects (new_object s.vm.end header) w.address
            (w.first + w.count) (off w.address) (k.unlogged w e);
        untaken = λ slot n a first count lt le e. more s.vm.objects (new_object s.vm.end header) a
            (first + count) (off a) (k.untaken slot n a first count lt le e);
      }

  stores : (a i w : ℕ) → Permitted s (FieldStore a i w) → NamedIn (happens s (FieldStore a i w))
  stores a i w p =
      subst (λ (v : Vm). Named v.objects v.written v.logs s.gc.taken)
      (sym (stored_only s.vm a i w)) (record {
        unlogged = λ q e. kept_field s.vm.objects a i w q.address (q.first + q.count)
            (elim (bool_cases (among s.vm.fresh a)) [
              | inl t ↦ k.unlogged q (rw t at e)
              | inr f ↦ elim (bool_cases (is_open s.vm)) [
                | inl on ↦ widens s.vm.objects s.vm.written a i
                    (put_there s.vm (object_at s.vm.objects a) a i w refl p.vm.0) k.unlogged
                    (p.vm.1 f on) q (rw (f, on) at e)
                | inr out ↦ k.unlogged q (rw (f, out) at e)
              ]
            ]);
        untaken = λ slot n b first count lt le e. kept_field s.vm.objects a i w b (first + count)
            (k.untaken slot n b first count lt le e);
      })

  logs_one : (slot : ℕ) (r : Record) → Permitted s (RecordStore slot r)
      → NamedIn (happens s (RecordStore slot r))
  logs_one slot r p = record {
    unlogged = rest r;
    untaken = λ t n a first count lt le e. elim (ℕ_discrete t slot) [
      | no ne ↦ k.untaken t n a first count lt le
          (ap (λ (l : List Record). slice_get l n) (sym (log_there s.vm.logs slot r t ne)) ∙ e)
      | yes is ↦
          (let wide = h.mutator.logs.logs in
          let in_range = p.vm.in_range in
          let here = log_here s.vm.logs slot r (omega arith) in
          let e' : slice_get (log_of s.vm.logs slot ++ r ∷ []) n ≡ Some (Place a first count) =
          ap (λ (l : List Record). slice_get l n)
          (sym here ∙ ap (log_of (with_record s.vm.logs slot r)) (sym is)) ∙ e in
          elim (get_snoc (log_of s.vm.logs slot) r n (Place a first count) e') [
            | inl old ↦ k.untaken t n a first count lt le
                (ap (λ (z : ℕ). slice_get (log_of s.vm.logs z) n) is ∙ old)
            | inr new ↦ named r (Place a first count) new.1 p.vm.written
          ])
    ];
  }
    where
      rest : (r : Record) (w : Written) → unlogged_after s.vm.written r ≡ Some w
          → HasFields s.vm.objects w.address (w.first + w.count)
      rest (Place a f n) w e = absurd (cc)
      rest Close w e = k.unlogged w e

      named : (r q : Record) → r ≡ q → IsNamed s.vm.written r → NamesFields s.vm.objects q
      named (Place a f n) (Place b g m) e is =
          subst (NamesFields s.vm.objects) e (k.unlogged (record {
            address = a;
            first = f;
            count =
                n;
          }) is)
      named (Place a f n) Close e is = tt
      named Close (Place b g m) e is = absurd (cc)
      named Close Close e is = tt

  takes_at : (x : Option Half) → s.gc.taking ≡ x
      → Named s.vm.objects s.vm.written s.vm.logs (taken_after s.gc.taken x)
  takes_at None e = k
  takes_at (Some q) e = record {
    unlogged = k.unlogged;
    untaken = λ slot n a first count lt le is.
        let wide = h.collector.taken in
        let range = (h.collector.taking q e).0 in
        let g = grows s.gc.taken q.slot slot q.what (omega arith) in
        k.untaken slot n a first count lt (omega arith) is;
  }

  flips : (roots : List ℕ) → Permitted s (CycleStore roots) → NamedIn (happens s (CycleStore roots))
  flips roots p = record {
    unlogged = λ w e. let none = p.vm.2 in let bad : Some w ≡ None = sym e ∙ none in cc;
    untaken = λ slot n a first count lt le e.
        let inside = get_inside (log_of s.vm.logs slot) n (Place a first count) e in
        let same = ap (λ (l : List (List Record)). length (log_of l slot)) p.both in
        absurd (omega arith);
  }

  keeps : (e : Event) → Permitted s e → NamedIn (happens s e)
  keeps (VmLoad place word) p = k
  keeps (GcLoad place word) p = k
  keeps (TakeLoad slot word) p = k
  keeps (CopyLoad a i word) p = k
  keeps (HandOver word roots) p = k
  keeps ClearLoad p = k
  keeps ClearStore p = k
  keeps (HeaderStore header) p = makes header
  keeps (FieldStore a i w) p = stores a i w p
  keeps (RecordStore slot r) p = logs_one slot r p
  keeps EpochStore p = k
  keeps (ReplicaHeaderStore place w) p = k
  keeps (ReplicaFieldStore scans) p = k
  keeps (ForwardStore a c) p = k
  keeps HeadStore p = takes_at s.gc.taking refl
  keeps (CycleStore roots) p = flips roots p

pub named : (space : ℕ) → IsSpace space → (events : List Event) → IsRun space events
    → NamedIn (run space events)
named space size [] h = record {
  unlogged = λ w e. absurd (cc);
  untaken = λ slot n a first count lt le e.
      let none : log_of (replicate 32 []) slot ≡ [] =
      Rattle.std.proofs.lemmas.List.get_or-replicate 32 slot [] [] lt in
      let e' : slice_get [] n ≡ Some (Place a first count) =
      ap (λ (l : List Record). slice_get l n) (sym none) ∙ e in
      absurd (cc);
}
named space size (e ∷ es) h =
    keeps (run space es) (kept space size es h.0) (named space size es h.0) e h.1
