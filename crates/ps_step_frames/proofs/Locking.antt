-- A lock that is freed in a memory.
use Rattle.std.proofs.Common.{◌≡◌, ◌≢◌, ℕ, ◌≤◌, List, [], ◌∷◌, length, Option, Some, None, refl, sym, ap, subst, ◌∙◌}
use Rattle.std.specs.Prelude.{slice_get}
use Rattle.ps_language.specs.declared.kinds.Kind.TheVariants.{Lock as LockKind, Body as BodyKind}
use Rattle.ps_language.specs.Value.{Object, array_object, string_object, dictionary_object, lock_object, condition_object, Store}
use Rattle.ps_language.specs.Access.{splice}
use Rattle.ps_language.specs.Owners.{with_owner}
use Rattle.ps_word.specs.declared.words.Word.{Word}
use Rattle.ps_word.specs.Format.{IsWord}
use Rattle.ps_mem.specs.Heap.{Heap, Standing, birth_at, birth_of, fields_at, fields_of, stored}
use Rattle.ps_mem.specs.Keeps.{Keeps}
use Rattle.ps_mem.specs.References.{StandsAs, NamesStanding}
use Rattle.ps_mem.specs.Shows.{IsNatural, AreFields, lock_fields, IsSound, IsShown, shown_lock, Shows}
use Rattle.ps_mem.proofs.KeepsLemmas.{Keeps-stored, known_values}
use Rattle.ps_mem.proofs.StoreLemmas.{IsSound-stored_object}
use Rattle.ps_mem.proofs.StoreShows.{Shows-stored_lock}
use Rattle.ps_dict.proofs.Naturals.{natural-value, natural-within}

-- ---- what stands as a lock

one_field : (h : Heap) (birth : ℕ) (fields : List Word) → AreFields h LockKind birth fields
    → (owner : Word) × (fields ≡ owner ∷ [])
one_field h birth fields (lock_fields {owner = owner} n is) = (owner, refl)

owned : (h : Heap) (names : List (List ℕ)) (birth : ℕ) (fields : List Word) (object : Object)
    → IsShown h names LockKind birth fields object
    → (owner : Option ℕ) × (object ≡ lock_object owner)
owned h names birth fields (lock_object owner) (shown_lock is) = (owner, refl)
owned h names birth fields (array_object _) x = elim x [ ]
owned h names birth fields (string_object _) x = elim x [ ]
owned h names birth fields (dictionary_object _) x = elim x [ ]
owned h names birth fields condition_object x = elim x [ ]

module _ (h : Heap) (lock : ℕ) (known : StandsAs h LockKind lock 1) where
  abbrev o : Standing
  o = known.object

  no_body : o.kind ≢ BodyKind
  no_body body = let clash : LockKind ≡ BodyKind = sym known.kind_is ∙ body in cc

  pub birth_lock : birth_at h lock ≡ o.birth
  unfolding birth_at
  birth_lock = ap birth_of known.at

  pub lock_reaches : 1 ≤ length (fields_at h lock)
  unfolding fields_at
  lock_reaches = subst (λ (ws : List Word). 1 ≤ length ws) (sym (ap fields_of known.at)) known.fits

  -- the store's object
  pub lock_shown : (names : List (List ℕ)) (s : Store) → Shows h names s
      → (owner : Option ℕ) × (slice_get s (birth_at h lock) ≡ Some (lock_object owner))
  lock_shown names s shows =
      let there = shows.objects lock o known.at no_body in
      let is = owned h names o.birth o.fields there.object
      (subst (λ k. IsShown h names k o.birth o.fields there.object) known.kind_is there.shown) in
      (is.0, ap (slice_get s) birth_lock ∙ (there.there ∙ ap Some is.1))

  -- ---- zero is stored

  module _ (w : Word) (natural : IsNatural w 0) (word : IsWord w.0) where
    pub zero_standing : NamesStanding h lock (w ∷ [])
    zero_standing = record {
      known = λ object at text. known_values h (w ∷ []) (natural-value w 0 natural word h, tt);
    }

    module _ (sound : IsSound h) where
      new_fields : splice o.fields 0 (w ∷ []) ≡ w ∷ []
      unfolding splice
      new_fields =
          ap (λ ws. splice ws 0 (w ∷ [])) (one_field h o.birth o.fields
          (subst (λ k. AreFields h k o.birth o.fields) known.kind_is
          (sound.fields lock o known.at))).1

      pub freed_sound : IsSound (stored h lock 0 (w ∷ []))
      freed_sound =
          IsSound-stored_object h lock 0 (w ∷ []) o known.at known.fits sound no_body
          (subst (λ k. AreFields (stored h lock 0 (w ∷ [])) k o.birth (splice o.fields 0 (w ∷ [])))
          (sym known.kind_is)
          (subst (λ (ws : List Word). AreFields (stored h lock 0 (w ∷ [])) LockKind o.birth ws)
          (sym new_fields) (lock_fields 0 natural)))

      pub freed_keeps : Keeps h (stored h lock 0 (w ∷ []))
      freed_keeps = Keeps-stored h lock 0 (w ∷ []) o known.at known.fits

      pub freed_shows : (names : List (List ℕ)) (s : Store) → Shows h names s
          → Shows (stored h lock 0 (w ∷ [])) names (with_owner s (birth_at h lock) None)
      freed_shows names s shows =
          let there = lock_shown names s shows in
          subst (λ b. Shows (stored h lock 0 (w ∷ [])) names (with_owner s b None)) (sym birth_lock)
          (Shows-stored_lock h lock 0 (w ∷ []) o known.at known.fits sound names s shows
          known.kind_is there.0 (sym (ap (slice_get s) birth_lock) ∙ there.1) w None new_fields
          natural (known_values h (w ∷ []) (natural-value w 0 natural word h, tt))
          (natural-within w 0 natural (birth_at h) names s, tt))
