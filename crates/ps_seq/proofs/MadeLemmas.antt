-- An object that is made and then filled.
use Rattle.std.proofs.Common.{◌≡◌, ℕ, ◌+◌, ◌<◌, ◌≤◌, List, [], ◌∷◌, ◌++◌, length, take, replicate, get_or, None, refl, sym, ap, arith, ◌∙◌, subst}
use Rattle.std.proofs.lemmas.List.{length-replicate, take_all, append-nil, drop_all}
use Rattle.std.specs.List.{AllByRecursion}
use Rattle.std.proofs.Common.{zero, suc}
use Rattle.ps_language.specs.declared.kinds.Kind.{Kind}
use Rattle.ps_language.specs.Access.{splice}
use Rattle.ps_word.specs.declared.words.Word.{Word}
use Rattle.ps_mem.specs.Heap.{Heap, object_at, birth_of, birth_at, fields_of, fields_at, stored, made, zero_word}
use Rattle.ps_mem.specs.Keeps.{Extends}
use Rattle.ps_mem.specs.References.{StandsAs, NamesStanding}
use Rattle.ps_mem.specs.Shows.{IsValue, AreValues}
use Rattle.ps_mem.proofs.Lists.{splice-zero}
use Rattle.ps_mem.proofs.HeapLemmas.{object_at-made_same, next-made, next-stored, place_of_next, stored_next}
use Rattle.ps_mem.proofs.KeepsLemmas.{Keeps-Extends, Extends-made, Extends-stored, IsKnown-kept}
use Rattle.ps_mem.proofs.NewShows.{NewObject, NewObject-made, NewObject-filled}

all_get : {A : Type 0} (P : A → Type 0) (xs : List A) (i : ℕ) (d : A) → AllByRecursion P xs
    → i < length xs → P (get_or xs i d)
all_get P [] i d p h = absurd (omega arith)
all_get P (x ∷ xs) zero d p h = p.0
all_get P (x ∷ xs) (suc i) d p h = all_get P xs i d p.1 (omega arith)

pub splice_all : {A : Type 0} (old items : List A) → length old ≡ length items → splice old 0 items
    ≡ items
splice_all old items same = splice-zero old items ∙ (ap (λ rest. items ++ rest) (drop_all
    (length items) old (omega (arith, same))) ∙ append-nil items)

module _ (g : Heap) (a : ℕ) (free : object_at g a ≡ None) (kind : Kind) (words : List Word) where
  abbrev pub made_object : Heap
  made_object = made g a kind (length words)

  fields_made : fields_at made_object a ≡ replicate (length words) zero_word
  unfolding fields_at
  fields_made = ap fields_of (object_at-made_same g a kind (length words))

  length_made : length (fields_at made_object a) ≡ length words
  length_made = ap length fields_made ∙ length-replicate (length words) zero_word

  module _ (now : Heap) (i : ℕ) (filled : now ≡ stored made_object a 0 (take i words)) where
    extends : Extends g now
    extends = subst (Extends g) (sym filled) (Extends-stored g made_object a 0 (take i words)
        (Extends-made g a kind (length words) free) free)

    -- it stands all the time
    pub still_stands : StandsAs now kind a 0
    still_stands =
        let new = NewObject-filled g made_object a _ 0 (take i words) (NewObject-made g a kind
        (length words) free) in
        subst (λ (h : Heap). StandsAs h kind a 0) (sym filled)
        (record { object = _; at = new.at; kind_is = refl; fits = omega arith })

    module _ (below : i < length words) where
      pub filled_place : i < length (fields_at now a)
      filled_place = let p = place_of_next made_object now a 0 i words filled below (omega
          (arith, length_made)) in omega (arith, p)

      pub filled_known : AreValues g words → (d : Word) → NamesStanding now a (get_or words i d
          ∷ [])
      filled_known values d =
          let value : IsValue g (get_or words i d) = all_get (IsValue g) words i d values below in
          record {
            known = λ o at text. (
              IsKnown-kept g now (Keeps-Extends g now extends)
                  (get_or words i d) value.known,
              tt,
            );
          }

      pub filled_next : (d : Word) → stored now a i (get_or words i d ∷ []) ≡ stored made_object a 0
          (take (i + 1) words)
      filled_next d =
          let at : i ≡ 0 + i = omega arith in
          ap (λ k. stored now a k (get_or words i d ∷ [])) at
          ∙ stored_next made_object now a 0 i words filled below (omega (arith, length_made)) d

    module _ (all : length words ≤ i) where
      fields_filled : splice (replicate (length words) zero_word) 0 (take i words) ≡ words
      fields_filled = ap (splice (replicate (length words) zero_word) 0) (take_all i words all)
          ∙ splice_all (replicate (length words) zero_word) words (length-replicate
          (length words) zero_word)

      pub new_object_filled : NewObject g now a (record {
        kind = kind;
        birth = g.next;
        fields =
            words;
      })
      new_object_filled =
          subst (λ (h : Heap). NewObject g h a (record {
            kind = kind;
            birth = g.next;
            fields = words;
          })) (sym filled)
          (subst (λ ws. NewObject g (stored made_object a 0 (take i words)) a
          (record { kind = kind; birth = g.next; fields = ws })) fields_filled
          (NewObject-filled g made_object a _ 0 (take i words) (NewObject-made g a kind
          (length words) free)))

      pub next_filled : now.next ≡ g.next + 1
      next_filled = ap (λ (h : Heap). h.next) filled ∙ (next-stored made_object a 0 (take i words)
          ∙ next-made g a kind (length words))

      pub stands_filled : StandsAs now kind a (length words)
      stands_filled = record {
        object = _;
        at = new_object_filled.at;
        kind_is = refl;
        fits = omega
            arith;
      }

      pub birth_filled : birth_at now a ≡ g.next
      unfolding birth_at
      birth_filled = ap birth_of new_object_filled.at
