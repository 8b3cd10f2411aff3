-- What every run of the heap keeps, act by act.
use Rattle.std.proofs.Common.{◌≡◌, ◌≢◌, ◌⊎◌, ℕ, ◌<◌, Bool, true, false, nat_eq, ◌&&◌, List, [], ◌∷◌, Some}
use Rattle.std.proofs.Common.{None, Option, refl, sym, ap, ◌∙◌, inl, inr, subst}
use Rattle.std.specs.Prelude.{if◌then◌else◌}
use Rattle.ps_record.specs.declared.Record.{Record}
use Rattle.ps_core_machine.specs.declared.events.Half.{Half}
use Rattle.ps_core_machine.specs.Objects.{names, named_in, is_left}
use Rattle.ps_core_laws.proofs.Heap.{Word, Act, Heap, Load, nowhere, put, put2, named_by, renamed}
use Rattle.ps_core_laws.proofs.Heap.{redirected, IsCovered, rest, first_half, filled_copy}
use Rattle.ps_core_laws.proofs.Heap.{filled_with, is_there, or_zero, acted, May, IsDue, IsCopying, IsDone, CanFill}
use Rattle.ps_core_laws.proofs.Heap.Word.{Plain, Ref}
use Rattle.ps_core_laws.proofs.Heap.Act.{Make, Store, Log, Open, Hand, Take, Copy, Fill, Join, Head, Flip}
use Rattle.ps_core_laws.proofs.HeapTests.{bool_cases, and_both, or_parts, clash, same_number, number_is}
use Rattle.ps_core_laws.proofs.HeapTests.{at_number, at_place, put_same, put_other, put2_same, put2_other}
use Rattle.ps_core_laws.proofs.HeapTests.{renamed_more, left_of-zero, left_named, loaded_named}
use Rattle.ps_core_laws.proofs.HeapTests.{with_load_left}
use Rattle.ps_core_laws.proofs.HeapGood.{Agrees, IsLoad, Good, makes, map_agree, map_same, fills, stores, stores_shut}
use Rattle.ps_core_laws.proofs.HeapGood.{logs, opens, hands_over}

taken_due : (slot : ℕ) (rs : List Record) (b j : ℕ) → named_in rs b j ≡ true
    → (is_left (first_half slot rs) b j ≡ true) ⊎ (named_in (rest rs) b j ≡ true)
taken_due slot [] b j h = clash false h refl
taken_due slot (r ∷ rs) b j h = elim (or_parts (names r b j) (named_in rs b j) h) [
  | inl here ↦ inl (ap (λ (q : Record). names q b j) (left_of-zero r) ∙ here)
  | inr there ↦ inr there
]

takes : (s : Heap) (slot : ℕ) → Good s → s.taking ≡ None → Good (acted s (Take slot))
takes s slot h idle =
    let now : Heap = acted s (Take slot) in
    let later : (b j : ℕ) → IsDue s b j → IsDue now b j = λ b j due. elim due [
      | inl u ↦ inl u
      | inr more ↦ elim more [
        | inl half ↦ clash (is_left s.taking b j) half (ap (λ (t : Option Half). is_left t b j) idle)
        | inr owed ↦ elim (at_number slot owed.0) [
          | inl same ↦ elim (taken_due slot (s.ahead slot) b j (ap (λ (t : ℕ). named_in (s.ahead t) b j) (sym same)
              ∙ owed.1)) [
                | inl half ↦ inr (inl half)
                | inr left ↦ inr (inr (
                  slot,
                  ap (λ (l : List Record). named_in l b j) (put_same s.ahead slot (rest (s.ahead slot))) ∙ left,
                ))
              ]
          | inr ne ↦ inr (inr (
            owed.0,
            ap (λ (l : List Record). named_in l b j) (put_other s.ahead slot owed.0 (rest (s.ahead slot)) ne) ∙ owed.1,
          ))
        ]
      ]
    ] in
    record {
      pairs = λ b c e. let p = h.pairs b c e in record {
        stands = p.stands;
        old = p.old;
        in_cycle = p.in_cycle;
        origin = p.origin;
      };
      back = h.back;
      refs = h.refs;
      known = h.known;
      in_cycle = h.in_cycle;
      agree = λ b c j e lt f. map_agree (later b j) (h.agree b c j e lt f);
      carried = λ k e. let q = h.carried k e in record {
        c = q.c;
        paired = q.paired;
        within = q.within;
        same = map_same (later k.a k.i) q.same;
      };
      bare = h.bare;
    }

pub some_of : (o : Option ℕ) → o ≢ None → (c : ℕ) × (o ≡ Some c)
some_of None ne = absurd (ne refl)
some_of (Some c) ne = (c, refl)

copies : (s : Heap) (a i : ℕ) → Good s → s.copying ≡ None → s.replica a ≢ None → i < s.size a
    → Good (acted s (Copy a i))
copies s a i h idle paired lt =
    let now : Heap = acted s (Copy a i) in
    let c = some_of (s.replica a) paired in
    let p = h.pairs a c.0 c.1 in
    let later : (b j : ℕ) → (nat_eq b a && nat_eq j i) ≡ false → IsDue s b j → IsDue now b j = λ b j ne due. elim due [
      | inl u ↦ inl u
      | inr more ↦ elim more [
        | inl half ↦ inr (inl (with_load_left s.taking a i b j ne half))
        | inr owed ↦ inr (inr owed)
      ]
    ] in
    let this : Load = record { a = a; i = i; w = s.field a i } in
    record {
      pairs = λ b d e. let p = h.pairs b d e in record {
        stands = p.stands;
        old = p.old;
        in_cycle = p.in_cycle;
        origin = p.origin;
      };
      back = h.back;
      refs = h.refs;
      known = λ b k. elim (or_parts (named_by (s.field a i) b) (s.known b) k) [
        | inr old ↦ h.known b old
        | inl new ↦ let r = h.refs a i b p.stands lt new in (r.0, r.1 p.old)
      ];
      in_cycle = λ b k. p.in_cycle;
      agree = λ b d j e lt f. elim (at_place a i b j) [
        | inl same ↦ inr (inr (sym same.0, sym same.1))
        | inr ne ↦ elim (h.agree b d j e lt f) [
          | inl eq ↦ inl eq
          | inr more ↦ elim more [
            | inl due ↦ inr (inl (later b j ne due))
            | inr cop ↦ let bad : ⊥ = subst (λ (o : Option Load). IsCopying o b j) idle cop in absurd bad
          ]
        ]
      ];
      carried = λ k e. let is : this ≡ k = cc in subst (IsLoad now) is record {
        c = c.0;
        paired = c.1;
        within = lt;
        same = inl refl;
      };
      bare = h.bare;
    }

filled_other : (scans : Bool) (f : ℕ → ℕ → Bool) (k : Load) (b j : ℕ) → (nat_eq b k.a && nat_eq j k.i) ≡ false
    → filled_with scans f (Some k) b j ≡ f b j
filled_other true f k b j ne = put2_other f k.a k.i b j true ne
filled_other false f k b j ne = refl

-- what a store of the copy leaves bare
filled_bare : (scans : Bool) (f : ℕ → ℕ → Bool) (k : Load) (b j : ℕ) → (b ≡ k.a → j ≡ k.i → ⊥) → f b j ≡ false
    → filled_with scans f (Some k) b j ≡ false
filled_bare scans f k b j off e = elim (at_place k.a k.i b j) [
  | inl same ↦ absurd (off same.0 same.1)
  | inr ne ↦ filled_other scans f k b j ne ∙ e
]

fills_copy : (s : Heap) (scans : Bool) (o : Option Load) → Good s → s.copying ≡ o → CanFill s o
    → Good record s { copy = filled_copy s.replica s.copy o; filled = filled_with scans s.filled o; copying = None }
fills_copy s scans None h is can = absurd can
fills_copy s scans (Some k) h is can =
    let r = h.carried k is in
    let now : Heap =
    record s {
      copy = filled_copy s.replica s.copy (Some k);
      filled = filled_with scans s.filled (Some k);
      copying = None;
    } in
    let here : Agrees now k.a k.i = elim r.same [
      | inl eq ↦ inl (
        put2_same s.copy k.a k.i (renamed s.replica k.w) ∙ ap (renamed s.replica) eq,
        subst (IsCovered s.replica) eq can,
      )
      | inr due ↦ inr (inl due)
    ] in
    record {
      pairs = λ b d e. let p = h.pairs b d e in record {
        stands = p.stands;
        old = p.old;
        in_cycle = p.in_cycle;
        origin = p.origin;
      };
      back = h.back;
      refs = h.refs;
      known = h.known;
      in_cycle = h.in_cycle;
      agree = λ b d j e lt f. elim (at_place k.a k.i b j) [
        | inl same ↦ subst (λ (z : ℕ × ℕ). Agrees now z.0 z.1) (λ t. (sym same.0 t, sym same.1 t)) here
        | inr ne ↦ elim (h.agree b d j e lt (sym (filled_other scans s.filled k b j ne) ∙ f)) [
          | inl eq ↦ inl (put2_other s.copy k.a k.i b j (renamed s.replica k.w) ne ∙ eq.0, eq.1)
          | inr more ↦ elim more [
            | inl due ↦ inr (inl due)
            | inr cop ↦ let same : (k.a ≡ b) × (k.i ≡ j) = subst (λ (o : Option Load). IsCopying o b j) is cop in
                clash (nat_eq b k.a && nat_eq j k.i)
                (and_both (nat_eq b k.a) (nat_eq j k.i) (ap (λ (z : ℕ). nat_eq z k.a) (sym same.0)
                ∙ same_number k.a) (ap (λ (z : ℕ). nat_eq z k.i) (sym same.1) ∙ same_number k.i)) ne
          ]
        ]
      ];
      carried = λ k e. absurd (cc);
      bare = λ b j e. filled_bare scans s.filled k b j (λ eb ej. let bad : s.replica b ≡ Some r.c = ap s.replica eb
          ∙ r.paired in cc) (h.bare b j e);
    }

pairs_up : (s : Heap) (a c : ℕ) → Good s
    → (s.opened ≡ true) × (s.replica a ≡ None) × (s.origin c ≡ None) × (s.known a ≡ true) → Good (acted s (Join a c))
pairs_up s a c h p =
    let was = h.known a p.3 in
    record {
      pairs = λ b d e. elim (at_number a b) [
        | inl same ↦ let t : nat_eq b a ≡ true = ap (λ (z : ℕ). nat_eq z a) same ∙ same_number a in
            let e' = rw t at e in let cd : c ≡ d = cc in
            record {
              stands = ap s.stands same ∙ was.0;
              old = ap s.fresh same ∙ was.1;
              in_cycle = p.0;
              origin = ap (put s.origin c (Some a)) (sym cd) ∙ (put_same s.origin c (Some a) ∙ ap Some (sym same));
            }
        | inr ne ↦ let q = h.pairs b d (sym (put_other s.replica a b (Some c) ne) ∙ e) in
            record {
              stands = q.stands;
              old = q.old;
              in_cycle = q.in_cycle;
              origin = elim (at_number c d) [
                | inl same ↦ let bad : s.origin c ≡ Some b = ap s.origin (sym same) ∙ q.origin in let none = p.2 in
                    absurd (cc)
                | inr other ↦ put_other s.origin c d (Some a) other ∙ q.origin
              ];
            }
      ];
      back = λ d b e. elim (at_number c d) [
        | inl same ↦ let t : nat_eq d c ≡ true = ap (λ (z : ℕ). nat_eq z c) same ∙ same_number c in
            let e' = rw t at e in let ab : a ≡ b = cc in
            ap (put s.replica a (Some c)) (sym ab) ∙ (put_same s.replica a (Some c) ∙ ap Some (sym same))
        | inr ne ↦ let q = h.back d b (sym (put_other s.origin c d (Some a) ne) ∙ e) in elim (at_number a b) [
          | inl same ↦ let bad : s.replica a ≡ Some d = ap s.replica (sym same) ∙ q in let none = p.1 in absurd (cc)
          | inr other ↦ put_other s.replica a b (Some c) other ∙ q
        ]
      ];
      refs = h.refs;
      known = h.known;
      in_cycle = h.in_cycle;
      agree = λ b d j e lt f. elim (at_number a b) [
        | inl same ↦ clash (s.filled b j) f (h.bare b j (ap s.replica same ∙ p.1))
        | inr ne ↦ elim (h.agree b d j (sym (put_other s.replica a b (Some c) ne) ∙ e) lt f) [
          | inl eq ↦ let m = renamed_more s.replica a c (s.field b j) p.1 eq.1 in
              let other : (if nat_eq b a then Plain 0 else s.copy b j) ≡ s.copy b j = rw ne refl in
              inl (other ∙ (eq.0 ∙ sym m.1), m.0)
          | inr more ↦ inr more
        ]
      ];
      carried = λ k e. let r = h.carried k e in record {
        c = r.c;
        paired = elim (at_number a k.a) [
          | inl same ↦ let bad : s.replica a ≡ Some r.c = ap s.replica (sym same) ∙ r.paired in let none = p.1 in
              absurd (cc)
          | inr ne ↦ put_other s.replica a k.a (Some c) ne ∙ r.paired
        ];
        within = r.within;
        same = r.same;
      };
      bare = λ b j e. elim (at_number a b) [
        | inl same ↦ let t : nat_eq b a ≡ true = ap (λ (z : ℕ). nat_eq z a) same ∙ same_number a in
            let e' = rw t at e in absurd (cc)
        | inr ne ↦ h.bare b j (sym (put_other s.replica a b (Some c) ne) ∙ e)
      ];
    }

done_due : (s : Heap) (t : Option Half) (b j c : ℕ) → IsDone s t → s.replica b ≡ Some c → is_left t b j ≡ true → ⊥
done_due s None b j c done paired due = absurd done
done_due s (Some h) b j c done paired due = elim done [
  | inl all ↦ loaded_named h.what h.loaded b j all due
  | inr bare ↦ let none = bare b j (left_named h.what h.loaded b j due) in cc
]

heads : (s : Heap) → Good s → IsDone s s.taking → Good (acted s Head)
heads s h done =
    let now : Heap = acted s Head in
    let later : (b j c : ℕ) → s.replica b ≡ Some c → IsDue s b j → IsDue now b j = λ b j c e due. elim due [
      | inl u ↦ inl u
      | inr more ↦ elim more [ inl half ↦ absurd (done_due s s.taking b j c done e half) | inr owed ↦ inr (inr owed) ]
    ] in
    record {
      pairs = λ b c e. let p = h.pairs b c e in record {
        stands = p.stands;
        old = p.old;
        in_cycle = p.in_cycle;
        origin = p.origin;
      };
      back = h.back;
      refs = h.refs;
      known = h.known;
      in_cycle = h.in_cycle;
      agree = λ b c j e lt f. map_agree (later b j c e) (h.agree b c j e lt f);
      carried = λ k e. let q = h.carried k e in record {
        c = q.c;
        paired = q.paired;
        within = q.within;
        same = map_same (later k.a k.i q.c q.paired) q.same;
      };
      bare = h.bare;
    }

nothing_due : (s : Heap) (a i : ℕ) → s.taking ≡ None → ((slot : ℕ) → s.ahead slot ≡ [])
    → ((a i : ℕ) → s.unlogged a i ≡ false) → IsDue s a i → ⊥
nothing_due s a i idle drained logged due = elim due [
  | inl u ↦ clash (s.unlogged a i) u (logged a i)
  | inr more ↦ elim more [
    | inl half ↦ clash (is_left s.taking a i) half (ap (λ (t : Option Half). is_left t a i) idle)
    | inr owed ↦ clash (named_in (s.ahead owed.0) a i) owed.1
        (ap (λ (l : List Record). named_in l a i) (drained owed.0))
  ]
]

-- at a flip each field of each replica is its original's, renamed
pub flips_to : (s : Heap) (roots : List Word) → Good s → May s (Flip roots) → (a c i : ℕ) → s.replica a ≡ Some c
    → i < s.size a
    → (s.copy a i ≡ renamed s.replica (s.field a i)) × IsCovered s.replica (s.field a i)
flips_to s roots h p a c i e lt = elim (h.agree a c i e lt (p.filled a c i e lt)) [
  | inl eq ↦ eq
  | inr more ↦ elim more [
    | inl due ↦ absurd (nothing_due s a i p.idle p.drained p.logged due)
    | inr cop ↦ let bad : ⊥ = subst (λ (o : Option Load). IsCopying o a i) p.stored cop in absurd bad
  ]
]

covered_ref : (s : Heap) (w : Word) (d : ℕ) → Good s → IsCovered s.replica w → named_by (renamed s.replica w) d ≡ true
    → is_there (s.origin d) ≡ true
covered_ref s (Plain n) d h cov e = clash false e refl
covered_ref s (Ref b x) d h cov e =
    let e' : nat_eq d cov.0 ≡ true = sym (ap (λ (o : Option ℕ). named_by (redirected o b x) d) cov.1) ∙ e in
    ap is_there (ap s.origin (number_is d cov.0 e') ∙ (h.pairs b cov.0 cov.1).origin)

flip_refs : (s : Heap) (roots : List Word) → Good s → May s (Flip roots) → (o : Option ℕ) (c i d : ℕ) → s.origin c ≡ o
    → is_there o ≡ true → i < s.size (or_zero o) → named_by (s.copy (or_zero o) i) d ≡ true
    → is_there (s.origin d) ≡ true
flip_refs s roots h p None c i d is st lt e = clash false st refl
flip_refs s roots h p (Some a) c i d is st lt e =
    let f = flips_to s roots h p a c i (h.back c a is) lt in
    covered_ref s (s.field a i) d h f.1 (ap (λ (w : Word). named_by w d) (sym f.0) ∙ e)

pub flips : (s : Heap) (roots : List Word) → Good s → May s (Flip roots) → Good (acted s (Flip roots))
flips s roots h p = record {
  pairs = λ b c e. absurd (cc);
  back = λ c b e. absurd (cc);
  refs = λ c i d st lt e. (flip_refs s roots h p (s.origin c) c i d refl st lt e, λ f. refl);
  known = λ b k. clash false k refl;
  in_cycle = λ b k. clash false k refl;
  agree = λ b c j e. absurd (cc);
  carried = λ k e. let none = p.stored in absurd (cc);
  bare = λ b j e. refl;
}

pub keeps : (s : Heap) (e : Act) → Good s → May s e → Good (acted s e)
keeps s (Make a n) h p = makes s a n h p
keeps s (Store a i w) h p = elim (bool_cases (s.fresh a)) [
  | inl new ↦ rw new (fills s a i w h new p.2)
  | inr old ↦ let G : Bool
      → Type 0 =
      λ x.
      Good
      record s {
        field = put2 s.field a i w;
        fresh = nowhere;
        unlogged = if x then put2 s.unlogged a i true else s.unlogged;
      } in
      rw old (elim (bool_cases s.opened) [
        | inl op ↦ subst G (sym op) (stores s a i w h p.2)
        | inr shut ↦ subst G (sym shut) (stores_shut s a i w h shut p.2)
      ])
]
keeps s (Log slot r) h p = logs s slot r h
keeps s Open h p = opens s h p
keeps s (Hand roots) h p = hands_over s roots h p
keeps s (Take slot) h p = takes s slot h p.0
keeps s (Copy a i) h p = copies s a i h p.0 p.1 p.2
keeps s (Fill scans) h p = fills_copy s scans s.copying h refl p
keeps s (Join a c) h p = pairs_up s a c h p
keeps s Head h p = heads s h p
keeps s (Flip roots) h p = flips s roots h p
