-- A new lock and a new condition in a memory.
use Rattle.std.proofs.Common.{◌≡◌, ℕ, ◌+◌, ◌<◌, List, [], ◌∷◌, ◌++◌, length, None, refl, ap, ◌∙◌, arith}
use Rattle.ps_language.specs.declared.kinds.Kind.{Kind}
use Rattle.ps_language.specs.declared.kinds.Kind.TheVariants.{Lock as LockKind, Condition as ConditionKind}
use Rattle.ps_language.specs.Value.{lock_object, condition_object, Store}
use Rattle.ps_language.specs.Access.{splice}
use Rattle.ps_word.specs.declared.words.Word.{Word}
use Rattle.ps_word.specs.Format.{IsWord}
use Rattle.ps_mem.specs.Heap.{Heap, Standing, object_at, birth_at, birth_of, fields_at, fields_of, made, stored}
use Rattle.ps_mem.specs.Heap.{zero_word}
use Rattle.ps_mem.specs.Keeps.{Extends}
use Rattle.ps_mem.specs.References.{StandsAs, NamesStanding}
use Rattle.ps_mem.specs.Shows.{IsNatural, lock_fields, condition_fields, IsSound, shown_lock, shown_condition, Shows}
use Rattle.ps_mem.proofs.HeapLemmas.{next-made, next-stored}
use Rattle.ps_mem.proofs.KeepsLemmas.{known_values}
use Rattle.ps_mem.proofs.NewShows.{NewObject, NewObject-made, NewObject-filled, IsSound-new, Shows-new}
use Rattle.ps_mem.proofs.ZeroLemmas.{AreWithin-zeros}
use Rattle.ps_dict.proofs.Naturals.{natural-value, natural-within}

module _ (h : Heap) (a : ℕ) (free : object_at h a ≡ None) where
  -- an object of one field more
  abbrev one : Kind → Heap
  one kind = made h a kind 1

  abbrev blank : Kind → Standing
  blank kind = record { kind = kind; birth = h.next; fields = zero_word ∷ [] }

  one_at : (kind : Kind) → NewObject h (one kind) a (blank kind)
  one_at kind = NewObject-made h a kind 1 free

  pub one_birth : (kind : Kind) → birth_at (one kind) a ≡ h.next
  unfolding birth_at
  one_birth kind = ap birth_of (one_at kind).at

  pub one_reaches : (kind : Kind) → 0 < length (fields_at (one kind) a)
  unfolding fields_at
  one_reaches kind =
      let count = ap (λ (o : _). length (fields_of o)) (one_at kind).at in omega (arith, count)

  -- ---- a condition
  pub condition_stands : StandsAs (one ConditionKind) ConditionKind a 1
  condition_stands = record {
    object = blank ConditionKind;
    at = (one_at ConditionKind).at;
    kind_is = refl;
    fits = omega arith;
  }

  pub condition_extends : Extends h (one ConditionKind)
  condition_extends = (one_at ConditionKind).extends

  module _ (sound : IsSound h) where
    pub condition_sound : IsSound (one ConditionKind)
    condition_sound =
        IsSound-new h (one ConditionKind) a (blank ConditionKind) (one_at ConditionKind) sound
        (next-made h a ConditionKind 1) refl condition_fields

    pub condition_shows : (names : List (List ℕ)) (s : Store) → Shows h names s
        → Shows (one ConditionKind) names (s ++ condition_object ∷ [])
    condition_shows names s shows =
        Shows-new h (one ConditionKind) a (blank ConditionKind) (one_at ConditionKind) sound
        (next-made h a ConditionKind 1) refl names s condition_object shows shown_condition
        (λ text. AreWithin-zeros (one ConditionKind) names (s ++ condition_object ∷ []) 1)

  -- ---- a lock, into which zero is filled
  module _ (w : Word) (natural : IsNatural w 0) (word : IsWord w.0) where
    abbrev filled : Heap
    filled = stored (one LockKind) a 0 (w ∷ [])

    abbrev lock : Standing
    lock = record { kind = LockKind; birth = h.next; fields = w ∷ [] }

    pub zero_standing : NamesStanding (one LockKind) a (w ∷ [])
    zero_standing = record {
      known = λ object at text. known_values (one LockKind) (w ∷ [])
          (natural-value w 0 natural word (one LockKind), tt);
    }

    filled_at : NewObject h filled a lock
    unfolding splice
    filled_at = NewObject-filled h (one LockKind) a (blank LockKind) 0 (w ∷ []) (one_at LockKind)

    filled_next : filled.next ≡ h.next + 1
    filled_next = next-stored (one LockKind) a 0 (w ∷ []) ∙ next-made h a LockKind 1

    pub lock_stands : StandsAs filled LockKind a 1
    lock_stands =
        record { object = lock; at = filled_at.at; kind_is = refl; fits = omega arith }

    pub lock_extends : Extends h filled
    lock_extends = filled_at.extends

    pub lock_birth : birth_at filled a ≡ h.next
    unfolding birth_at
    lock_birth = ap birth_of filled_at.at

    module _ (sound : IsSound h) where
      pub lock_sound : IsSound filled
      lock_sound =
          IsSound-new h filled a lock filled_at sound filled_next refl (lock_fields 0 natural)

      pub lock_shows : (names : List (List ℕ)) (s : Store) → Shows h names s
          → Shows filled names (s ++ lock_object None ∷ [])
      lock_shows names s shows =
          Shows-new h filled a lock filled_at sound filled_next refl names s (lock_object None)
          shows (shown_lock natural) (λ text. (
            natural-within w 0 natural (birth_at filled) names
                (s ++ lock_object None ∷ []),
            tt,
          ))
