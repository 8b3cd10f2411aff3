-- What stands after a store, and after a new object.
use Rattle.std.proofs.Common.{◌≡◌, ◌≢◌, ℕ, ◌+◌, ◌<◌, ◌≤◌, List, [], ◌∷◌, ◌++◌, length, take, get_or, replicate, Option, Some, None, refl, sym, ap, arith, ◌∙◌, inl, inr, subst}
use Rattle.std.proofs.lemmas.List.{length-take-le, take_more}
use Rattle.std.proofs.lemmas.Bool.Decides.{eqb_tells}
use Rattle.ps_language.specs.declared.kinds.Kind.{Kind}
use Rattle.ps_language.specs.declared.kinds.Kind.TheVariants.{Body}
use Rattle.ps_language.specs.Access.{splice}
use Rattle.ps_word.specs.declared.words.Word.{Word}
use Rattle.ps_mem.specs.Heap.{Heap, Space, Standing, object_at, birth_of, birth_at, fields_of, fields_at, with_fields, stored, made, made_body, zero_word}
use Rattle.ps_mem.proofs.Lists.{splice_more, splice-nil, length-splice}

-- two heaps of the same objects are one
pub same_heap : (g h : Heap) → ((b : ℕ) → object_at g b ≡ object_at h b) → g.next ≡ h.next → g.used ≡ h.used
    → g.space ≡ h.space → g ≡ h
unfolding object_at
same_heap g h at next used space i = record { at = λ b. at b i; next = next i; used = used i; space = space i }

-- ---- a store

pub object_at-stored_other : (h : Heap) (a place : ℕ) (items : List Word) (b : ℕ) → a ≢ b
    → object_at (stored h a place items) b ≡ object_at h b
unfolding object_at stored
object_at-stored_other h a place items b ne = grind (arith, eqb_tells a b, ne)

pub object_at-stored_at : (h : Heap) (a place : ℕ) (items : List Word)
    → object_at (stored h a place items) a
    ≡ with_fields (object_at h a) (splice (fields_of (object_at h a)) place items)
unfolding object_at stored
object_at-stored_at h a place items = grind (arith, eqb_tells a a)

pub object_at-stored_same : (h : Heap) (a place : ℕ) (items : List Word) (o : Standing) → object_at h a ≡ Some o
    → object_at (stored h a place items) a ≡ Some (record o { fields = splice o.fields place items })
object_at-stored_same h a place items o e = object_at-stored_at h a place items
    ∙ ap (λ x. with_fields x (splice (fields_of x) place items)) e

pub next-stored : (h : Heap) (a place : ℕ) (items : List Word) → (stored h a place items).next ≡ h.next
unfolding stored
next-stored h a place items = refl

pub used-stored : (h : Heap) (a place : ℕ) (items : List Word) → (stored h a place items).used ≡ h.used
unfolding stored
used-stored h a place items = refl

pub space-stored : (h : Heap) (a place : ℕ) (items : List Word) → (stored h a place items).space ≡ h.space
unfolding stored
space-stored h a place items = refl

-- the next birth number and the space
abbrev pub rest_of : Heap → ℕ × Space
rest_of h = (h.next, h.space)

pub rest-stored : (h : Heap) (a place : ℕ) (items : List Word)
    → rest_of (stored h a place items) ≡ rest_of h
unfolding stored
rest-stored h a place items = refl

standing_of_fields : (found : Option Standing) (i : ℕ) → i < length (fields_of found)
    → (o : Standing) × (found ≡ Some o) × (fields_of found ≡ o.fields)
standing_of_fields None i below = absurd (omega arith)
standing_of_fields (Some o) i below = (o, refl, refl)

-- what has a field stands
pub standing_at : (h : Heap) (a : ℕ) (i : ℕ) → i < length (fields_at h a)
    → (o : Standing) × (object_at h a ≡ Some o) × (fields_at h a ≡ o.fields)
unfolding fields_at
standing_at h a i below = standing_of_fields (object_at h a) i below

-- no store at all
with_same_fields : (o : Option Standing) (place : ℕ) → with_fields o (splice (fields_of o) place []) ≡ o
with_same_fields None place = refl
with_same_fields (Some o) place = ap (λ fields. Some (record o { fields = fields })) (splice-nil o.fields place)

pub stored-nil : (h : Heap) (a place : ℕ) → stored h a place [] ≡ h
stored-nil h a place =
    same_heap (stored h a place []) h
    (λ b. elim (eqb_tells a b) [
      | inl (_, e) ↦ subst (λ c. object_at (stored h a place []) c ≡ object_at h c) e (object_at-stored_at h a place []
          ∙ with_same_fields (object_at h a) place)
      | inr (_, ne) ↦ object_at-stored_other h a place [] b ne
    ])
    (next-stored h a place []) (used-stored h a place []) (space-stored h a place [])

-- words stored behind those just stored are stored with them
more_fields : (o : Option Standing) (place : ℕ) (items more : List Word)
    → place + (length items + length more) ≤ length (fields_of o) →
    with_fields (with_fields o (splice (fields_of o) place items))
    (splice (fields_of (with_fields o (splice (fields_of o) place items))) (place + length items) more)
    ≡ with_fields o (splice (fields_of o) place (items ++ more))
more_fields None place items more fits = refl
more_fields (Some o) place items more fits =
    ap (λ fields. Some (record o { fields = fields })) (splice_more o.fields place items more fits)

pub stored_more : (h : Heap) (a place : ℕ) (items more : List Word)
    → place + (length items + length more) ≤ length (fields_at h a) →
    stored (stored h a place items) a (place + length items) more ≡ stored h a place (items ++ more)
unfolding fields_at
stored_more h a place items more fits =
    let first = stored h a place items in
    same_heap (stored first a (place + length items) more) (stored h a place (items ++ more))
    (λ b. elim (eqb_tells a b) [
      | inl (_, e) ↦ subst (λ c. object_at (stored first a (place + length items) more) c
          ≡ object_at (stored h a place (items ++ more)) c) e
          (object_at-stored_at first a (place + length items) more
          ∙ (ap (λ o. with_fields o (splice (fields_of o) (place + length items) more))
          (object_at-stored_at h a place items)
          ∙ (more_fields (object_at h a) place items more fits ∙ sym (object_at-stored_at h a place (items ++ more)))))
      | inr (_, ne) ↦
          object_at-stored_other first a (place + length items) more b ne
          ∙ (object_at-stored_other h a place items b ne ∙ sym (object_at-stored_other h a place (items ++ more) b ne))
    ])
    (next-stored first a (place + length items) more
    ∙ (next-stored h a place items ∙ sym (next-stored h a place (items ++ more))))
    (used-stored first a (place + length items) more
    ∙ (used-stored h a place items ∙ sym (used-stored h a place (items ++ more))))
    (space-stored first a (place + length items) more
    ∙ (space-stored h a place items ∙ sym (space-stored h a place (items ++ more))))

-- ---- a new object

pub object_at-made_same : (h : Heap) (a : ℕ) (kind : Kind) (n : ℕ)
    → object_at (made h a kind n) a ≡ Some (record { kind = kind; birth = h.next; fields = replicate n zero_word })
unfolding object_at made
object_at-made_same h a kind n = grind (arith, eqb_tells a a)

pub object_at-made_other : (h : Heap) (a : ℕ) (kind : Kind) (n b : ℕ) → a ≢ b
    → object_at (made h a kind n) b ≡ object_at h b
unfolding object_at made
object_at-made_other h a kind n b ne = grind (arith, eqb_tells a b, ne)

pub object_at-made_body_same : (h : Heap) (a birth n : ℕ)
    → object_at (made_body h a birth n) a ≡ Some (record { kind = Body; birth = birth; fields = replicate n zero_word })
unfolding object_at made_body
object_at-made_body_same h a birth n = grind (arith, eqb_tells a a)

pub object_at-made_body_other : (h : Heap) (a birth n b : ℕ) → a ≢ b
    → object_at (made_body h a birth n) b ≡ object_at h b
unfolding object_at made_body
object_at-made_body_other h a birth n b ne = grind (arith, eqb_tells a b, ne)

pub next-made : (h : Heap) (a : ℕ) (kind : Kind) (n : ℕ) → (made h a kind n).next ≡ h.next + 1
unfolding made
next-made h a kind n = refl

pub next-made_body : (h : Heap) (a birth n : ℕ) → (made_body h a birth n).next ≡ h.next
unfolding made_body
next-made_body h a birth n = refl

pub space-made : (h : Heap) (a : ℕ) (kind : Kind) (n : ℕ) → (made h a kind n).space ≡ h.space
unfolding made
space-made h a kind n = refl

pub space-made_body : (h : Heap) (a birth n : ℕ) → (made_body h a birth n).space ≡ h.space
unfolding made_body
space-made_body h a birth n = refl

-- the number of fields stays
length-with_fields : (o : Option Standing) (place : ℕ) (items : List Word) → place + length items ≤ length (fields_of o)
    → length (fields_of (with_fields o (splice (fields_of o) place items))) ≡ length (fields_of o)
length-with_fields None place items fits = refl
length-with_fields (Some o) place items fits = length-splice o.fields place items fits

pub length-fields_at_stored : (h : Heap) (a place : ℕ) (items : List Word)
    → place + length items ≤ length (fields_at h a)
    → length (fields_at (stored h a place items) a) ≡ length (fields_at h a)
unfolding fields_at
length-fields_at_stored h a place items fits = ap (λ o. length (fields_of o)) (object_at-stored_at h a place items)
    ∙ length-with_fields (object_at h a) place items fits

-- one word more of those to be stored
module _ (h now : Heap) (a place i : ℕ) (items : List Word) (so_far : now ≡ stored h a place (take i items))
    (below : i < length items) (fits : place + length items ≤ length (fields_at h a)) where
  count : length (take i items) ≡ i
  count = length-take-le i items (omega arith)

  pub place_of_next : place + i < length (fields_at now a)
  place_of_next =
      let same : length (fields_at now a) ≡ length (fields_at h a) = ap (λ g. length (fields_at g a)) so_far
      ∙ length-fields_at_stored h a place (take i items) (omega (arith, fits, below, count)) in
      omega (arith, same, fits, below)

  pub stored_next : (d : Word)
      → stored now a (place + i) (get_or items i d ∷ []) ≡ stored h a place (take (i + 1) items)
  stored_next d =
      ap (λ g. stored g a (place + i) (get_or items i d ∷ [])) so_far
      ∙ (ap (λ k. stored (stored h a place (take i items)) a (place + k) (get_or items i d ∷ [])) (sym count)
      ∙ (stored_more h a place (take i items) (get_or items i d ∷ []) (omega (arith, fits, below, count))
      ∙ ap (stored h a place) (sym (take_more items i d below))))

-- what stands keeps its birth number, and what doesn't stand has none
birth_of-with_fields : (o : Option Standing) (fields : List Word) → birth_of (with_fields o fields) ≡ birth_of o
birth_of-with_fields None fields = refl
birth_of-with_fields (Some o) fields = refl

pub birth_at-stored : (h : Heap) (a place : ℕ) (items : List Word) → birth_at (stored h a place items) ≡ birth_at h
unfolding birth_at
birth_at-stored h a place items i b =
    let same : birth_of (object_at (stored h a place items) b) ≡ birth_of (object_at h b) = elim (eqb_tells a b) [
      | inl (_, e) ↦ subst (λ c. birth_of (object_at (stored h a place items) c)
          ≡ birth_of (object_at h c)) e (ap birth_of (object_at-stored_at h a place items)
          ∙ birth_of-with_fields (object_at h a) _)
      | inr (_, ne) ↦ ap birth_of (object_at-stored_other h a place items b ne)
    ] in same i
