-- What every run of the heap keeps, and that the acts of its program keep it.
use Rattle.std.proofs.Common.{◌≡◌, ◌⊎◌, ℕ, ◌<◌, Bool, true, false, nat_eq, not, ◌&&◌, List, [], ◌∷◌, ◌++◌, Some}
use Rattle.std.proofs.Common.{None, refl, sym, ap, ◌∙◌, inl, inr, subst}
use Rattle.ps_record.specs.declared.Record.{Record}
use Rattle.ps_core_machine.specs.Objects.{names, named_in}
use Rattle.ps_core_laws.proofs.Heap.{Word, Heap, Load, empty, nowhere, put, put2, named_by, named_among, renamed}
use Rattle.ps_core_laws.proofs.Heap.{IsCovered, Stands, AllStand}
use Rattle.ps_core_laws.proofs.Heap.{acted, IsDue, IsCopying}
use Rattle.ps_core_laws.proofs.Heap.Word.{Plain, Ref}
use Rattle.ps_core_laws.proofs.Heap.Act.{Make, Log, Open, Hand}
use Rattle.ps_core_laws.proofs.HeapTests.{bool_cases, and_parts, and_both, or_parts, clash, same_number, number_is}
use Rattle.ps_core_laws.proofs.HeapTests.{at_number, at_place, put_same, put_other, put2_same, put2_other, named_front}
use Rattle.ps_core_laws.proofs.HeapTests.{named_last}

-- the word in the replica is the renamed one, and needs no later pair; or its place is still to be
-- copied
abbrev pub Agrees : Heap → ℕ → ℕ → Type 0
Agrees s a i = ((s.copy a i ≡ renamed s.replica (s.field a i)) × IsCovered s.replica (s.field a i))
    ⊎ (IsDue s a i ⊎ IsCopying s.copying a i)

pub record IsPaired (s : Heap) (a c : ℕ) : Type 0 where
  pub stands : s.stands a ≡ true
  pub old : s.fresh a ≡ false
  pub in_cycle : s.opened ≡ true
  pub origin : s.origin c ≡ Some a

pub record IsLoad (s : Heap) (k : Load) : Type 0 where
  pub c : ℕ
  pub paired : s.replica k.a ≡ Some c
  pub within : k.i < s.size k.a
  pub same : (k.w ≡ s.field k.a k.i) ⊎ IsDue s k.a k.i

pub record Good (s : Heap) : Type 0 where
  pub pairs : (a c : ℕ) → s.replica a ≡ Some c → IsPaired s a c
  pub back : (c a : ℕ) → s.origin c ≡ Some a → s.replica a ≡ Some c
  pub refs : (a i b : ℕ) → s.stands a ≡ true → i < s.size a → named_by (s.field a i) b ≡ true
      → (s.stands b ≡ true) × (s.fresh a ≡ false → s.fresh b ≡ false)
  pub known : (b : ℕ) → s.known b ≡ true → (s.stands b ≡ true) × (s.fresh b ≡ false)
  pub in_cycle : (b : ℕ) → s.known b ≡ true → s.opened ≡ true
  pub agree : (a c i : ℕ) → s.replica a ≡ Some c → i < s.size a → s.filled a i ≡ true → Agrees s a i
  pub carried : (k : Load) → s.copying ≡ Some k → IsLoad s k
  pub bare : (a i : ℕ) → s.replica a ≡ None → s.filled a i ≡ false

pub begins : Good empty
begins = record {
  pairs = λ a c e. absurd (cc);
  back = λ c a e. absurd (cc);
  refs = λ a i b h _ _. clash false h refl;
  known = λ b h. clash false h refl;
  in_cycle = λ b h. clash false h refl;
  agree = λ a c i e. absurd (cc);
  carried = λ k e. absurd (cc);
  bare = λ a i e. refl;
}

-- an object is made
pub makes : (s : Heap) (a n : ℕ) → Good s → s.stands a ≡ false → Good (acted s (Make a n))
makes s a n h new =
    let apart : (b : ℕ) → s.stands b ≡ true → nat_eq b a ≡ false =
    λ b st. elim (at_number a b) [ inl e ↦ clash (s.stands b) st (ap s.stands e ∙ new) | inr ne ↦ ne ] in
    record {
      pairs = λ b c e. let p = h.pairs b c e in let ne = apart b p.stands in record {
        stands = put_other s.stands a b true ne ∙ p.stands;
        old = put_other s.fresh a b true ne ∙ p.old;
        in_cycle = p.in_cycle;
        origin = p.origin;
      };
      back = h.back;
      refs = λ b i d st lt e. elim (at_number a b) [
        | inl same ↦ let t : nat_eq b a ≡ true = ap (λ (z : ℕ). nat_eq z a) same ∙ same_number a in
            let e' = rw t at e in absurd (cc)
        | inr ne ↦
            let st' = rw ne at st in let lt' = rw ne at lt in let e' = rw ne at e in
            let r = h.refs b i d st' lt' e' in let ned = apart d r.0 in (
              put_other s.stands a d true ned ∙ r.0,
              λ f. put_other s.fresh a d true ned ∙ r.1 (sym (put_other s.fresh a b true ne) ∙ f),
            )
      ];
      known = λ b k. let r = h.known b k in let ne = apart b r.0 in
          (put_other s.stands a b true ne ∙ r.0, put_other s.fresh a b true ne ∙ r.1);
      in_cycle = h.in_cycle;
      agree = λ b c i e lt f. let ne = apart b (h.pairs b c e).stands in let lt' = rw ne at lt in
          rw ne (h.agree b c i e lt' f);
      carried = λ k e. let r = h.carried k e in let ne = apart k.a (h.pairs k.a r.c r.paired).stands in
          record { c = r.c; paired = r.paired; within = rw ne r.within; same = rw ne r.same };
      bare = h.bare;
    }

pub map_agree : {A B C D : Type 0} → (B → D) → A ⊎ (B ⊎ C) → A ⊎ (D ⊎ C)
map_agree f (inl a) = inl a
map_agree f (inr (inl b)) = inr (inl (f b))
map_agree f (inr (inr c)) = inr (inr c)

pub map_same : {A B D : Type 0} → (B → D) → A ⊎ B → A ⊎ D
map_same f (inl a) = inl a
map_same f (inr b) = inr (f b)

pub ref_stands : (stands : ℕ → Bool) (w : Word) (d : ℕ) → Stands stands w → named_by w d ≡ true → stands d ≡ true
ref_stands stands (Plain n) d st e = clash false e refl
ref_stands stands (Ref a x) d st e = ap stands (number_is d a e) ∙ st

pub named_same : (f : ℕ → ℕ → Word) (a i : ℕ) (w : Word) (b j d : ℕ) → b ≡ a → j ≡ i → named_by (put2 f a i w b j) d ≡ true
    → named_by w d ≡ true
named_same f a i w b j d eb ej e = let t : nat_eq b a ≡ true = ap (λ (z : ℕ). nat_eq z a) eb ∙ same_number a in
    let u : nat_eq j i ≡ true = ap (λ (z : ℕ). nat_eq z i) ej ∙ same_number i in rw (t, u) at e

pub named_other : (f : ℕ → ℕ → Word) (a i : ℕ) (w : Word) (b j d : ℕ) → (nat_eq b a && nat_eq j i) ≡ false
    → named_by (put2 f a i w b j) d ≡ true → named_by (f b j) d ≡ true
named_other f a i w b j d ne e = ap (λ (z : Word). named_by z d) (sym (put2_other f a i b j w ne)) ∙ e

-- a field of a new object is filled
pub fills : (s : Heap) (a i : ℕ) (w : Word) → Good s → s.fresh a ≡ true → Stands s.stands w
    → Good record s { field = put2 s.field a i w }
fills s a i w h new st =
    let apart : (b j : ℕ) → s.fresh b ≡ false → (nat_eq b a && nat_eq j i) ≡ false =
    λ b j old. elim (at_place a i b j) [ inl e ↦ clash (s.fresh b) (ap s.fresh e.0 ∙ new) old | inr ne ↦ ne ] in
    record {
      pairs = λ b c e. let p = h.pairs b c e in record {
        stands = p.stands;
        old = p.old;
        in_cycle = p.in_cycle;
        origin = p.origin;
      };
      back = h.back;
      refs = λ b j d sb lt e. elim (at_place a i b j) [
        | inl same ↦ let e' : named_by w d ≡ true = named_same s.field a i w b j d same.0 same.1 e in
            (ref_stands s.stands w d st e', λ f. clash (s.fresh b) (ap s.fresh same.0 ∙ new) f)
        | inr ne ↦ h.refs b j d sb lt (named_other s.field a i w b j d ne e)
      ];
      known = h.known;
      in_cycle = h.in_cycle;
      agree = λ b c j e lt f. rw (apart b j (h.pairs b c e).old) (h.agree b c j e lt f);
      carried = λ k e. let r = h.carried k e in
          record {
            c = r.c;
            paired = r.paired;
            within = r.within;
            same = rw (apart k.a k.i (h.pairs k.a r.c r.paired).old) r.same;
          };
      bare = h.bare;
    }

-- a field of an older object is stored, in a cycle
pub stores : (s : Heap) (a i : ℕ) (w : Word) → Good s → Stands s.stands w
    → Good record s { field = put2 s.field a i w; fresh = nowhere; unlogged = put2 s.unlogged a i true }
stores s a i w h st =
    let now : Heap = record s { field = put2 s.field a i w; fresh = nowhere; unlogged = put2 s.unlogged a i true } in
    let here : IsDue now a i = inl (put2_same s.unlogged a i true) in
    let later : (b j : ℕ) → (nat_eq b a && nat_eq j i) ≡ false → IsDue s b j → IsDue now b j =
    λ b j ne due. elim due [ inl u ↦ inl (put2_other s.unlogged a i b j true ne ∙ u) | inr more ↦ inr more ] in
    record {
      pairs = λ b c e. let p = h.pairs b c e in record {
        stands = p.stands;
        old = refl;
        in_cycle = p.in_cycle;
        origin = p.origin;
      };
      back = h.back;
      refs = λ b j d sb lt e. elim (at_place a i b j) [
        | inl same ↦ let e' : named_by w d ≡ true = named_same s.field a i w b j d same.0 same.1 e in
            (ref_stands s.stands w d st e', λ f. refl)
        | inr ne ↦ ((h.refs b j d sb lt (named_other s.field a i w b j d ne e)).0, λ f. refl)
      ];
      known = λ b k. ((h.known b k).0, refl);
      in_cycle = h.in_cycle;
      agree = λ b c j e lt f. elim (at_place a i b j) [
        | inl same ↦ inr (inl (subst (λ (z : ℕ × ℕ). IsDue now z.0 z.1) (λ k. (sym same.0 k, sym same.1 k)) here))
        | inr ne ↦ elim (h.agree b c j e lt f) [
          | inl eq ↦ inl (rw (put2_other s.field a i b j w ne) eq)
          | inr more ↦ inr (elim more [ inl due ↦ inl (later b j ne due) | inr cop ↦ inr cop ])
        ]
      ];
      carried = λ k e. let r = h.carried k e in
          record {
            c = r.c;
            paired = r.paired;
            within = r.within;
            same = elim (at_place a i k.a k.i) [
              | inl same ↦ inr (subst (λ (z : ℕ × ℕ). IsDue now z.0 z.1) (λ k. (sym same.0 k, sym same.1 k)) here)
              | inr ne ↦ elim r.same [
                | inl eq ↦ inl (eq ∙ sym (put2_other s.field a i k.a k.i w ne))
                | inr due ↦ inr (later k.a k.i ne due)
              ]
            ];
          };
      bare = h.bare;
    }

-- the same while no cycle is open
pub stores_shut : (s : Heap) (a i : ℕ) (w : Word) → Good s → s.opened ≡ false → Stands s.stands w
    → Good record s { field = put2 s.field a i w; fresh = nowhere }
stores_shut s a i w h shut st = record {
  pairs = λ b c e. clash s.opened (h.pairs b c e).in_cycle shut;
  back = h.back;
  refs = λ b j d sb lt e. elim (at_place a i b j) [
    | inl same ↦ let e' : named_by w d ≡ true = named_same s.field a i w b j d same.0 same.1 e in
        (ref_stands s.stands w d st e', λ f. refl)
    | inr ne ↦ ((h.refs b j d sb lt (named_other s.field a i w b j d ne e)).0, λ f. refl)
  ];
  known = λ b k. ((h.known b k).0, refl);
  in_cycle = h.in_cycle;
  agree = λ b c j e. clash s.opened (h.pairs b c e).in_cycle shut;
  carried = λ k e. let r = h.carried k e in clash s.opened (h.pairs k.a r.c r.paired).in_cycle shut;
  bare = h.bare;
}

pub logs : (s : Heap) (slot : ℕ) (r : Record) → Good s → Good (acted s (Log slot r))
logs s slot r h =
    let now : Heap = acted s (Log slot r) in
    let later : (b j : ℕ) → IsDue s b j → IsDue now b j = λ b j due. elim due [
      | inl u ↦ elim (bool_cases (names r b j)) [
        | inl t ↦ inr (inr (
          slot,
          ap (λ (l : List Record). named_in l b j) (put_same s.ahead slot (s.ahead slot ++ r ∷ []))
              ∙ named_last (s.ahead slot) r b j t,
        ))
        | inr f ↦ inl (and_both (s.unlogged b j) (not (names r b j)) u (rw f refl))
      ]
      | inr more ↦ inr (elim more [
        | inl half ↦ inl half
        | inr owed ↦ inr (
          owed.0,
          elim (at_number slot owed.0) [
            | inl same ↦ ap (λ (t : ℕ). named_in (put s.ahead slot (s.ahead slot ++ r ∷ []) t) b j) same
                ∙ (ap (λ (l : List Record). named_in l b j) (put_same s.ahead slot (s.ahead slot ++ r ∷ []))
                ∙ named_front (s.ahead slot) (r ∷ []) b j (ap (λ (t : ℕ). named_in (s.ahead t) b j) (sym same)
                ∙ owed.1))
            | inr ne ↦ ap (λ (l : List Record). named_in l b j)
                (put_other s.ahead slot owed.0 (s.ahead slot ++ r ∷ []) ne) ∙ owed.1
          ],
        )
      ])
    ] in
    record {
      pairs = λ b c e. let p = h.pairs b c e in record {
        stands = p.stands;
        old = refl;
        in_cycle = p.in_cycle;
        origin = p.origin;
      };
      back = h.back;
      refs = λ b j d sb lt e. ((h.refs b j d sb lt e).0, λ f. refl);
      known = λ b k. ((h.known b k).0, refl);
      in_cycle = h.in_cycle;
      agree = λ b c j e lt f. map_agree (later b j) (h.agree b c j e lt f);
      carried = λ k e. let q = h.carried k e in record {
        c = q.c;
        paired = q.paired;
        within = q.within;
        same = map_same (later k.a k.i) q.same;
      };
      bare = h.bare;
    }

pub opens : (s : Heap) → Good s → s.opened ≡ false → Good (acted s Open)
opens s h shut = record {
  pairs = λ b c e. clash s.opened (h.pairs b c e).in_cycle shut;
  back = h.back;
  refs = λ b j d sb lt e. ((h.refs b j d sb lt e).0, λ f. refl);
  known = λ b k. ((h.known b k).0, refl);
  in_cycle = λ b k. refl;
  agree = λ b c j e. clash s.opened (h.pairs b c e).in_cycle shut;
  carried = λ k e. let r = h.carried k e in clash s.opened (h.pairs k.a r.c r.paired).in_cycle shut;
  bare = h.bare;
}

pub roots_stand : (stands : ℕ → Bool) (ws : List Word) (b : ℕ) → AllStand stands ws → named_among ws b ≡ true
    → stands b ≡ true
roots_stand stands [] b st n = clash false n refl
roots_stand stands (Plain k ∷ ws) b st n = roots_stand stands ws b st.1 n
roots_stand stands (Ref a x ∷ ws) b st n = elim (or_parts (nat_eq b a) (named_among ws b) n) [
  | inl here ↦ ap stands (number_is b a here) ∙ st.0
  | inr there ↦ roots_stand stands ws b st.1 there
]

pub hands_over : (s : Heap) (roots : List Word) → Good s → AllStand s.stands roots → Good (acted s (Hand roots))
hands_over s roots h st = record {
  pairs = λ b c e. let p = h.pairs b c e in record {
    stands = p.stands;
    old = refl;
    in_cycle = p.in_cycle;
    origin = p.origin;
  };
  back = h.back;
  refs = λ b j d sb lt e. ((h.refs b j d sb lt e).0, λ f. refl);
  known = λ b k. elim (or_parts (s.opened && named_among roots b) (s.known b) k) [
    | inr old ↦ ((h.known b old).0, refl)
    | inl root ↦ (roots_stand s.stands roots b st (and_parts s.opened (named_among roots b) root).1, refl)
  ];
  in_cycle = λ b k. elim (or_parts (s.opened && named_among roots b) (s.known b) k) [
    | inr old ↦ h.in_cycle b old
    | inl root ↦ (and_parts s.opened (named_among roots b) root).0
  ];
  agree = h.agree;
  carried = λ k e. let r = h.carried k e in record { c = r.c; paired = r.paired; within = r.within; same = r.same };
  bare = h.bare;
}
