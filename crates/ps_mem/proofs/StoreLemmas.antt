-- What a store into an array, a string, a lock, a dictionary or a body leaves sound and shown.
use Rattle.std.proofs.Common.{◌≡◌, ◌≢◌, ℕ, ◌+◌, ◌≤◌, ◌⊎◌, List, length, Some, refl, sym, ap, arith, ◌∙◌, subst, inl, inr, length-set}
use Rattle.std.specs.Prelude.{slice_get, slice_set}
use Rattle.std.proofs.lemmas.Bool.{cases_eq}
use Rattle.ps_language.specs.declared.kinds.Kind.{Kind}
use Rattle.ps_language.specs.declared.kinds.Kind.TheVariants.{Array as ArrayKind, Text as TextKind, Dictionary as DictionaryKind, Lock as LockKind, Condition as ConditionKind, Body as BodyKind}
use Rattle.ps_language.specs.Value.{Object, Store}
use Rattle.ps_language.specs.Access.{splice, bytes, bytes_in}
use Rattle.ps_word.specs.declared.words.Word.{Word}
use Rattle.ps_mem.specs.Heap.{Heap, Standing, object_at, stored}
use Rattle.ps_mem.specs.Keeps.{Keeps}
use Rattle.ps_mem.specs.Shows.{IsValue, AreValues, AreFields, array_fields, text_fields, body_fields, IsSound, AreWithin, IsShown, Shows}
use Rattle.ps_mem.proofs.Lists.{all_splice, slice_get-set_same, slice_get-set_other}
use Rattle.ps_mem.proofs.HeapLemmas.{next-stored}
use Rattle.ps_mem.proofs.KeepsLemmas.{Keeps-stored, KeepsBirth-stored, stored_from, AreValues-kept}
use Rattle.ps_mem.proofs.ShowsLemmas.{Shows-kept, body_values, array_values}
use Rattle.ps_mem.proofs.SoundLemmas.{IsSound-stored, untouched}

bytes_of_object : Object → List ℕ
bytes_of_object object = bytes_in (Some object)

module _ (h : Heap) (a place : ℕ) (items : List Word) (o : Standing) (at : object_at h a ≡ Some o)
    (fits : place + length items ≤ length o.fields) (sound : IsSound h)
    (names : List (List ℕ)) (s : Store) (shows : Shows h names s) where
  abbrev now : Heap
  now = stored h a place items

  abbrev keeps : Keeps h now
  keeps = Keeps-stored h a place items o at fits

  -- another object at the birth number of what was stored into, of as many bytes as the old one
  module _ (old new : Object) (there : slice_get s o.birth ≡ Some old)
      (bytes_kept : length (bytes_in (Some old)) ≡ length (bytes_in (Some new))) where
    abbrev after : Store
    after = slice_set s o.birth new

    abbrev there_now : slice_get after o.birth ≡ Some new
    there_now = slice_get-set_same s o.birth new old there

    pub lengths : (birth : ℕ) → length (bytes s birth) ≤ length (bytes after birth)
    unfolding bytes
    lengths birth = elim (cases_eq o.birth birth) [
      | inl same ↦
          let was : slice_get s birth ≡ Some old = ap (slice_get s) (sym same) ∙ there in
          let is : slice_get after birth ≡ Some new = ap (slice_get after) (sym same) ∙ there_now in
          let count : length (bytes_in (slice_get s birth)) ≡ length
          (bytes_in (slice_get after birth)) =
          ap (λ x. length (bytes_in x)) was
          ∙ (bytes_kept ∙ sym (ap (λ x. length (bytes_in x)) is)) in
          omega (arith, count)
      | inr other ↦
          let same : length (bytes_in (slice_get after birth)) ≡ length
          (bytes_in (slice_get s birth)) =
          ap (λ x. length (bytes_in x)) (slice_get-set_other s o.birth birth new other) in
          omega (arith, same)
    ]

    pub Shows-stored :
        ((b : ℕ) (p : Standing) → object_at now b ≡ Some p → p.kind ≢ BodyKind → p.birth ≡ o.birth
        → IsShown now names p.kind p.birth p.fields new)
        → ((b : ℕ) (p : Standing) → object_at now b ≡ Some p → p.kind ≢ TextKind → p.birth ≡ o.birth
        → AreWithin now names after p.fields)
        → Shows now names after
    Shows-stored shown within =
        Shows-kept h now keeps names sound s after shows
        (next-stored h a place items ∙ (shows.next ∙ sym (length-set s o.birth new)))
        lengths
        (λ b p e body. elim (cases_eq o.birth p.birth) [
          | inl same ↦ inr (record {
            object = new;
            there = ap (slice_get after) (sym same)
                ∙ there_now;
            shown = shown b p e body (sym same);
          })
          | inr other ↦ inl (
            untouched h a place items o at fits sound b p e (λ k. other (sym k)),
            KeepsBirth-stored h a place items o at fits p.birth other,
            slice_get-set_other s
                o.birth p.birth new other,
          )
        ])
        (λ b p e text. elim (cases_eq o.birth p.birth) [
          | inl same ↦ inr (within b p e text (sym same))
          | inr other ↦ inl (untouched h a place items o at fits sound b p e (λ k. other (sym k)))
        ])

-- ---- by kinds

-- an object of one kind stands alone at its birth number but for bodies; an array, a string, a lock
-- and a condition have none
module _ (h : Heap) (a place : ℕ) (items : List Word) (o : Standing) (at : object_at h a ≡ Some o)
    (fits : place + length items ≤ length o.fields) (sound : IsSound h) where
  abbrev stored_now : Heap
  stored_now = stored h a place items

  -- what isn't a body and has the birth number of what was stored into, which isn't a body either,
  -- is that object
  pub alone : o.kind ≢ BodyKind → (b : ℕ) (p : Standing) → object_at stored_now b ≡ Some p
      → p.kind ≢ BodyKind → p.birth ≡ o.birth
      → p ≡ record o { fields = splice o.fields place items }
  alone body b p e body' one = elim (stored_from h a place items o at fits b p e) [
    | inl (same, is) ↦ is
    | inr (other, there) ↦ absurd (other (sound.single a b o p at there body body' (sym one)))
  ]

pub body_or : (kind : Kind) → (kind ≡ BodyKind) ⊎ (kind ≢ BodyKind)
body_or ArrayKind = inr (λ e. cc)
body_or TextKind = inr (λ e. cc)
body_or DictionaryKind = inr (λ e. cc)
body_or LockKind = inr (λ e. cc)
body_or ConditionKind = inr (λ e. cc)
body_or BodyKind = inl refl

module _ (h : Heap) (a place : ℕ) (items : List Word) (o : Standing) (at : object_at h a ≡ Some o)
    (fits : place + length items ≤ length o.fields) (sound : IsSound h) where
  abbrev heap_now : Heap
  heap_now = stored h a place items

  -- a body that stands apart keeps its fields
  body_apart : (b : ℕ) (p : Standing) → object_at h b ≡ Some p → p.kind ≡ BodyKind
      → AreFields heap_now p.kind p.birth p.fields
  body_apart b p there body =
      let old : AreFields h BodyKind p.birth p.fields =
      subst (λ k. AreFields h k p.birth p.fields) body (sound.fields b p there) in
      subst (λ k. AreFields heap_now k p.birth p.fields) (sym body)
      (body_fields (AreValues-kept h heap_now (Keeps-stored h a place items o at fits) p.fields
      (body_values h p.birth p.fields old)))

  -- a store into what isn't a body
  pub IsSound-stored_object : o.kind ≢ BodyKind
      → AreFields heap_now o.kind o.birth (splice o.fields place items) → IsSound heap_now
  IsSound-stored_object body fields =
      IsSound-stored h a place items o at fits sound
      (λ b p e one. elim (stored_from h a place items o at fits b p e) [
        | inl (same, is) ↦ subst (λ (x : Standing). AreFields heap_now x.kind x.birth x.fields)
            (sym is) fields
        | inr (other, there) ↦ elim (body_or p.kind) [
          | inl body' ↦ body_apart b p there body'
          | inr body' ↦ absurd (other (sound.single a b o p at there body body' (sym one)))
        ]
      ])

  -- a store of values into an array
  pub IsSound-stored_array : o.kind ≡ ArrayKind → AreValues h items → IsSound heap_now
  IsSound-stored_array kind values =
      let old : AreValues h o.fields =
      array_values h o.birth o.fields
      (subst (λ k. AreFields h k o.birth o.fields) kind (sound.fields a o at)) in
      IsSound-stored_object (λ k. let clash : ArrayKind ≡ BodyKind = sym kind ∙ k in cc)
      (subst (λ k. AreFields heap_now k o.birth (splice o.fields place items)) (sym kind)
      (array_fields (AreValues-kept h heap_now (Keeps-stored h a place items o at fits)
      (splice o.fields place items) (all_splice (IsValue h) o.fields place items old values))))

  -- a store of any words into a string
  pub IsSound-stored_text : o.kind ≡ TextKind → IsSound heap_now
  IsSound-stored_text kind =
      IsSound-stored_object (λ k. let clash : TextKind ≡ BodyKind = sym kind ∙ k in cc)
      (subst (λ k. AreFields heap_now k o.birth (splice o.fields place items)) (sym kind)
      text_fields)
