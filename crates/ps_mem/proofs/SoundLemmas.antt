-- When a memory stays sound.
use Rattle.std.proofs.Common.{◌≡◌, ◌≢◌, ℕ, ◌+◌, ◌<◌, ◌≤◌, ◌⊎◌, List, [], length, Some, refl, sym, ap, arith, ◌∙◌, inl, inr}
use Rattle.std.proofs.lemmas.Bool.{cases_eq}
use Rattle.ps_language.specs.declared.kinds.Kind.{Kind}
use Rattle.ps_language.specs.declared.kinds.Kind.TheVariants.{Body as BodyKind}
use Rattle.ps_language.specs.Access.{splice}
use Rattle.ps_word.specs.declared.words.Word.{Word}
use Rattle.ps_mem.specs.Heap.{Heap, Standing, object_at, stored}
use Rattle.ps_mem.specs.Keeps.{Keeps, KeepsBirth}
use Rattle.ps_mem.specs.Shows.{IsValue, AreValues, AreFields, array_fields, text_fields, dictionary_fields, lock_fields, condition_fields, body_fields, IsSound}
use Rattle.ps_mem.proofs.Lists.{all_splice}
use Rattle.ps_mem.proofs.HeapLemmas.{next-stored}
use Rattle.ps_mem.proofs.KeepsLemmas.{AreValues-kept, Keeps-stored, KeepsBirth-stored, stored_from}
use Rattle.ps_mem.proofs.ShowsLemmas.{shape-kept}

-- fields of which nothing has changed
fields-kept : (g h : Heap) (keeps : Keeps g h) (names : List (List ℕ)) (sound : IsSound g) (birth : ℕ)
    (same : KeepsBirth g h birth) {kind : Kind} {fields : List Word} → AreFields g kind birth fields
    → AreFields h kind birth fields
fields-kept g h keeps names sound birth same (array_fields {fields = fields} v) =
    array_fields (AreValues-kept g h keeps fields v)
fields-kept g h keeps names sound birth same text_fields = text_fields
fields-kept g h keeps names sound birth same (dictionary_fields {fields = fields} d) =
    dictionary_fields (shape-kept g h keeps names sound birth same fields d)
fields-kept g h keeps names sound birth same (lock_fields n is) = lock_fields n is
fields-kept g h keeps names sound birth same condition_fields = condition_fields
fields-kept g h keeps names sound birth same (body_fields {fields = fields} v) =
    body_fields (AreValues-kept g h keeps fields v)

-- what stands is untouched, or its fields are as they should be
module _ (g h : Heap) (keeps : Keeps g h) (sound : IsSound g)
    (single : (a b : ℕ) (o p : Standing) → object_at h a ≡ Some o → object_at h b ≡ Some p → o.kind ≢ BodyKind
    → p.kind ≢ BodyKind → o.birth ≡ p.birth → a ≡ b)
    (below : (a : ℕ) (o : Standing) → object_at h a ≡ Some o → o.birth < h.next)
    (fields : (a : ℕ) (o : Standing) → object_at h a ≡ Some o
    → ((object_at g a ≡ Some o) × KeepsBirth g h o.birth) ⊎ AreFields h o.kind o.birth o.fields) where
  pub IsSound-kept : IsSound h
  IsSound-kept = record {
    single = single;
    below = below;
    fields = λ a o at. elim (fields a o at) [
      | inl old ↦ fields-kept g h keeps [] sound o.birth old.1 (sound.fields a o old.0)
      | inr new ↦ new
    ];
  }

-- ---- a store

module _ (h : Heap) (a place : ℕ) (items : List Word) (o : Standing) (at : object_at h a
    ≡ Some o) (fits : place + length items ≤ length o.fields) (sound : IsSound h) where
  abbrev now : Heap
  now = stored h a place items

  -- each object after a store is one that stood, of the same kind and birth number
  pub stood : (b : ℕ) (p : Standing) → object_at now b ≡ Some p
      → (q : Standing) × (object_at h b ≡ Some q) × (q.birth ≡ p.birth) × (q.kind ≡ p.kind)
  stood b p e = elim (stored_from h a place items o at fits b p e) [
    | inl (same, is) ↦ (
      o,
      ap (object_at h) (sym same) ∙ at,
      ap (λ (x : Standing). x.birth) (sym is),
      ap (λ (x : Standing). x.kind) (sym is),
    )
    | inr (other, there) ↦ (p, there, refl, refl)
  ]

  pub single-stored : (b c : ℕ) (p q : Standing) → object_at now b ≡ Some p → object_at now c ≡ Some q
      → p.kind ≢ BodyKind → q.kind ≢ BodyKind → p.birth ≡ q.birth → b ≡ c
  single-stored b c p q e f body body' one =
      let (p', at', birth', kind') = stood b p e in
      let (q', atq', birthq', kindq') = stood c q f in
      sound.single b c p' q' at' atq' (λ k. body (sym kind' ∙ k)) (λ k. body' (sym kindq' ∙ k)) (birth' ∙ one
      ∙ sym birthq')

  pub below-stored : (b : ℕ) (p : Standing) → object_at now b ≡ Some p → p.birth < now.next
  below-stored b p e =
      let (q, at', birth', kind') = stood b p e in
      let old = sound.below b q at' in
      let next = next-stored h a place items in
      omega (arith, old, next, birth')

  -- what has another birth number stood as it stands
  pub untouched : (b : ℕ) (p : Standing) → object_at now b ≡ Some p → p.birth ≢ o.birth → object_at h b ≡ Some p
  untouched b p e other = elim (stored_from h a place items o at fits b p e) [
    | inl (same, is) ↦ absurd (other (ap (λ (x : Standing). x.birth) is))
    | inr (apart, there) ↦ there
  ]

  -- a store is sound where the fields of the objects of its birth number are: of the object, and of
  -- the dictionary whose body it is
  pub IsSound-stored : ((b : ℕ) (p : Standing) → object_at now b ≡ Some p → p.birth ≡ o.birth
      → AreFields now p.kind p.birth p.fields) → IsSound now
  IsSound-stored new =
      IsSound-kept h now (Keeps-stored h a place items o at fits) sound single-stored below-stored
      (λ b p e. elim (cases_eq p.birth o.birth) [
        | inl one ↦ inr (new b p e one)
        | inr other ↦ inl (
          untouched b p e other,
          KeepsBirth-stored h a place items o at fits p.birth (λ k. other (sym k)),
        )
      ])

  values-stored : AreValues h o.fields → AreValues h items → AreValues now (splice o.fields place items)
  values-stored old new =
      AreValues-kept h now (Keeps-stored h a place items o at fits) (splice o.fields place items)
      (all_splice (IsValue h) o.fields place items old new)
