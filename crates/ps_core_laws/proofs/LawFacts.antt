-- The laws, from what every run keeps.
use Rattle.std.proofs.Common.{◌≢◌, ◌≡◌, ◌⊎◌, ℕ, ◌<◌, Bool, true, false, List, [], Some, None, Option, refl, sym, ap}
use Rattle.std.proofs.Common.{◌∙◌, inl, inr, subst, is_some}
use Rattle.std.specs.Prelude.{slice_index, MatchOption, if◌then◌else◌}
use Rattle.ps_word.specs.Format.{address_in}
use Rattle.ps_record.specs.declared.Record.{Record}
use Rattle.ps_core_machine.specs.declared.events.Event.TheVariants.{CycleStore, ForwardStore}
use Rattle.ps_core_machine.specs.declared.events.Object.{Object}
use Rattle.ps_core_machine.specs.declared.events.Pair.{Pair}
use Rattle.ps_core_machine.specs.declared.events.Carried.{Carried}
use Rattle.ps_core_machine.specs.Objects.{among, object_at, pair_of, log_of, renamed, replicas, as_object}
use Rattle.ps_core_machine.specs.Steps.{State, happens, is_open, space_base, other_base, forwarding}
use Rattle.ps_core_machine.specs.Conditions.{Permitted}
use Rattle.ps_core_laws.specs.Laws as laws
use Rattle.ps_core_laws.specs.Reach.{Carries}
use Rattle.ps_core_laws.specs.Runs.{IsSpace}
use Rattle.ps_core_laws.proofs.Heap as heap
use Rattle.ps_core_laws.proofs.HeapKept.{flips_to}
use Rattle.ps_core_laws.proofs.HeapTests.{same_number}
use Rattle.ps_core_laws.proofs.Bases.{match_some}
use Rattle.ps_core_laws.proofs.Lookups.{pair_to-of, object_at-replicas}
use Rattle.ps_core_laws.proofs.Views.{value_of, word_of, size_in, word_in, replica_in, copy_in, filled_in, load_of}
use Rattle.ps_core_laws.proofs.Views.{replica_by, view, word_of-renamed, word_of-same, value_of-reference}
use Rattle.ps_core_laws.proofs.Keeping.{Good, IsMatch, original}
use Rattle.ps_core_laws.proofs.Replicating.{replicas_low}
use Rattle.ps_core_laws.proofs.Kept.{can_flip}

module _ (space : ℕ) (size : IsSpace space) (s : State) (h : Good space s) where
  -- the heap's word for a field of a replica is the renamed word
  agrees : (a i : ℕ) (p : Pair) (o : Object) → pair_of s.gc.pairs a ≡ Some p
      → object_at s.vm.objects a ≡ Some o → o.header ≡ p.header
      → (view s).copy a i ≡ heap.renamed (view s).replica ((view s).field a i)
      → slice_index p.fields i ≡ renamed s.gc.pairs p.header (slice_index o.fields i)
  agrees a i p o at ob header e =
      word_of-same p.header (slice_index p.fields i)
      (renamed s.gc.pairs p.header (slice_index o.fields i))
      (ap (λ (x : Option Pair). copy_in x i) (sym at)
      ∙ (e ∙ (ap (λ (x : Option Object). heap.renamed (replica_by s.gc.pairs) (word_in x i)) ob
      ∙ (ap (λ (z : ℕ). heap.renamed (replica_by s.gc.pairs) (word_of z (slice_index o.fields i)))
      header
      ∙ sym (word_of-renamed s.gc.pairs p.header (slice_index o.fields i)
      (replicas_low space s h size))))))

  -- the object of a pair, where it is found
  matched : (a : ℕ) (p : Pair) (o : Object) → pair_of s.gc.pairs a ≡ Some p
      → object_at s.vm.objects a ≡ Some o → IsMatch p o
  matched a p o at ob = subst (λ (x : Option Object). MatchOption x ⊥ (IsMatch p)) ob
      (h.matches a p at)

  is_copying : (o : Option Carried) (a i : ℕ) → heap.IsCopying (load_of s.gc.pairs o) a i
      → laws.IsCopying o a i
  is_copying None a i c = c
  is_copying (Some k) a i c = c

  pub pairs_hold : laws.PairsHold s
  pairs_hold = (
    h.single,
    λ a p at.
        let o = original space s h a p at in
        let k = h.heap.pairs a p.replica (ap replica_in at) in
        match_some (laws.IsPair s a p) (object_at s.vm.objects a) o.0 o.1
        (record { opened = k.in_cycle; old = k.old; header = o.2.header; fields = o.2.fields }),
  )

  pub replicas_agree : laws.ReplicasAgree s
  replicas_agree a i p o at ob lt filled =
      let m = matched a p o at ob in
      elim (h.heap.agree a p.replica i (ap replica_in at)
      (subst (λ (x : Option Object). i < size_in x) (sym ob) lt)
      (ap (λ (x : Option Pair). filled_in x i) at ∙ filled)) [
        | inl eq ↦ inl (agrees a i p o at ob m.header eq.0)
        | inr more ↦ elim more [
          | inl due ↦ inr (inl due)
          | inr cop ↦
              inr (inr (is_copying s.gc.copying a i cop))
        ]
      ]

  pub copy_agrees : laws.CopyAgrees s
  copy_agrees k is =
      let c = h.heap.carried (record {
        a = k.address;
        i = k.field;
        w =
            word_of (Rattle.ps_core_machine.specs.Steps.header_of (pair_of s.gc.pairs k.address)) k.word;
      }) (ap (load_of s.gc.pairs) is) in
      let q = Rattle.ps_core_laws.proofs.Replicating.carried_pair space s h k is in
      let o = original space s h k.address q.0 q.1 in
      match_some (λ (x : Object). (k.word ≡ slice_index x.fields k.field)
      ⊎ laws.IsDue s k.address k.field) (object_at s.vm.objects k.address) o.0 o.1
      (elim c.same [
        | inl e ↦ inl (word_of-same o.0.header k.word (slice_index o.0.fields k.field)
            (ap (λ (z : ℕ). word_of z k.word)
            (o.2.header ∙ sym (ap Rattle.ps_core_machine.specs.Steps.header_of q.1))
            ∙ (e ∙ ap (λ (x : Option Object). word_in x k.field) o.1)))
        | inr due ↦ inr due
      ])

  pub names_standing : laws.NamesStanding s
  names_standing a i o ob refers =
      let lt = refers.within in let holds = refers.value in let ref = refers.reference in
      let w : ℕ = slice_index o.fields i in
      let named : heap.named_by ((view s).field a i) (address_in w) ≡ true =
      ap (λ (x : Option Object). heap.named_by (word_in x i) (address_in w)) ob
      ∙ (ap (λ (b : Bool). heap.named_by (if b then value_of w else heap.Word.Plain w)
      (address_in w)) holds
      ∙ (ap (λ (x : heap.Word). heap.named_by x (address_in w)) (value_of-reference w ref)
      ∙ same_number (address_in w))) in
      let r = h.heap.refs a i (address_in w) (ap is_some ob)
      (subst (λ (x : Option Object). i < size_in x) (sym ob) lt) named in (
        (λ none. let bad : is_some (object_at s.vm.objects (address_in w)) ≡ false =
            ap is_some none in let clash : false ≡ true = sym bad ∙ r.0 in cc),
        r.1,
      )

  pub words_follow : laws.WordsFollow s
  words_follow = record {
    table = h.control.wide ∙ ap Rattle.ps_core_machine.specs.Steps.table_size
        (sym h.counted.vm_space_is);
    cycle = h.control.cycle_word;
    epoch = h.control.epoch_word;
    heads = h.control.head_words;
    rings = h.rings.written;
    objects = λ a o e. let x = h.current.shown a o e in
        record { header = x.head; fields = x.fields };
    replicas_are = λ a p e. let x =
        h.other.shown p.replica p (pair_to-of s.gc.pairs a p h.single e) in
        record { header = x.head; fields = x.fields };
  }

  pub ready : (roots : List ℕ) → Permitted s (CycleStore roots) → laws.IsReadyToFlip s roots
  ready roots p = record {
    closed = λ slot lt. (p.vm.0, p.vm.1 slot lt);
    drained = λ slot lt. ap (λ (l : List (List Record)). log_of l slot) p.both;
    filled = p.gc.2;
    logged = p.vm.2;
    copied = p.gc.1;
    carried = p.gc.3;
  }

  pub flips_so : (roots : List ℕ) → Permitted s (CycleStore roots) → laws.Flips s roots
  flips_so roots p = record {
    objects = refl;
    moved = λ a o q ob at.
        let m = matched a q o at ob in
        let found : object_at (replicas s.gc.pairs) q.replica ≡ Some (as_object q) =
        object_at-replicas s.gc.pairs q.replica
        ∙ ap (Rattle.std.specs.Option.option_map as_object)
        (pair_to-of s.gc.pairs a q h.single at) in
        match_some (laws.IsMoved s o q) (object_at (replicas s.gc.pairs) q.replica) (as_object q)
        found (record {
          address = refl;
          header = sym m.header;
          count = sym m.fields;
          fields = λ i lt.
              let f = flips_to (view s) [] h.heap (can_flip space s h roots p) a q.replica i
              (ap replica_in at) (subst (λ (x : Option Object). i < size_in x) (sym ob) lt) in
              agrees a i q o at ob m.header f.0
              ∙ ap (λ (z : ℕ). renamed s.gc.pairs z (slice_index o.fields i)) (sym m.header);
        });
    roots_are = refl;
  }

  pub forwards_old : (a c : ℕ) → Permitted s (ForwardStore a c) → among s.vm.fresh a ≡ false
  forwards_old a c p = (h.heap.known a p.gc.known).1

  covered_pair : (x : Option Pair) (c : ℕ) → replica_in x ≡ Some c → x ≢ None
  covered_pair x c e none = let bad : replica_in None ≡ Some c =
      subst (λ (y : Option Pair). replica_in y ≡ Some c) none e in absurd (cc)

  pub carries_so : (roots : List ℕ) → Permitted s (CycleStore roots) → Carries s roots
  carries_so roots p a i o q ob at refers =
      let lt = refers.within in let holds = refers.value in let ref = refers.reference in
      let w : ℕ = slice_index o.fields i in
      let f = flips_to (view s) [] h.heap (can_flip space s h roots p) a q.replica i
      (ap replica_in at) (subst (λ (x : Option Object). i < size_in x) (sym ob) lt) in
      let is : (view s).field a i ≡ heap.Word.Ref (address_in w)
      (Rattle.ps_word.specs.Readers.readdressed w 0) =
      ap (λ (x : Option Object). word_in x i) ob
      ∙ (ap (λ (b : Bool). if b then value_of w else heap.Word.Plain w) holds
      ∙ value_of-reference w ref) in
      let cov : heap.IsCovered (view s).replica
      (heap.Word.Ref (address_in w) (Rattle.ps_word.specs.Readers.readdressed w 0)) =
      subst (heap.IsCovered (view s).replica) is f.1 in
      covered_pair (pair_of s.gc.pairs (address_in w)) cov.0 cov.1
