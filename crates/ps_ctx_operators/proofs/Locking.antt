-- A lock that is read, and that is given to an owner or freed.
use Rattle.std.proofs.Common.{◌≡◌, ◌≢◌, ℕ, zero, suc, ◌<◌, ◌≤◌, List, [], ◌∷◌, length, Option, Some, None, refl, sym}
use Rattle.std.proofs.Common.{ap, subst, ◌∙◌, arith, to_z, w32}
use Rattle.std.specs.Prelude.{ℤ, pos, ◌^◌, slice_get, false}
use Rattle.std.proofs.lemmas.Int.{to_z_pos}
use Rattle.ps_language.specs.declared.kinds.Kind.TheVariants.{Lock as LockKind, Body as BodyKind}
use Rattle.ps_language.specs.Value.{Object, array_object, string_object, dictionary_object, lock_object}
use Rattle.ps_language.specs.Value.{condition_object, Store}
use Rattle.ps_language.specs.Access.{splice}
use Rattle.ps_language.specs.Owners.{owner_in, owner_of, with_owner}
use Rattle.ps_word.specs.declared.words.Word.{Word}
use Rattle.ps_word.specs.declared.values.Value.{Value as Packed}
use Rattle.ps_word.specs.declared.values.Content.TheVariants.{Integer}
use Rattle.ps_word.specs.Format.{content_in, value_in, IsWord}
use Rattle.ps_word.specs.Readers as words
use Rattle.ps_mem.specs.Heap.{Heap, Standing, birth_at, birth_of, fields_at, fields_of, stored}
use Rattle.ps_mem.specs.Keeps.{Keeps}
use Rattle.ps_mem.specs.References.{StandsAs, NamesStanding}
use Rattle.ps_mem.specs.Shows.{IsNatural, IsOwner, AreFields, lock_fields, IsSound, IsShown, shown_lock, Shows}
use Rattle.ps_mem.proofs.KeepsLemmas.{Keeps-stored, known_values}
use Rattle.ps_mem.proofs.StoreLemmas.{IsSound-stored_object}
use Rattle.ps_mem.proofs.StoreShows.{Shows-stored_lock}
use Rattle.ps_dict.proofs.Naturals.{natural-value, natural-within}
use Rattle.ps_ctx_operators.specs.Singles.{owner_by}

-- ---- the word of an owner

-- its identifier; 0 where there is none
abbrev number_of : Option ℕ → ℕ
number_of None = 0
number_of (Some identifier) = identifier

natural_integer : (w : Word) (n : ℕ) → IsNatural w n
    → words.as_integer (content_in w.0) ≡ Some (pos n)
natural_integer w n natural =
    ap words.as_integer (ap (λ (packed : Packed). packed.content) natural)

owner_number : (w : Word) (owner : Option ℕ) → IsOwner w owner
    → words.as_integer (content_in w.0) ≡ Some (pos (number_of owner))
owner_number w None is = natural_integer w 0 is
owner_number w (Some identifier) is = natural_integer w identifier is.1

owner_back : (w : Word) (owner : Option ℕ) → IsOwner w owner → owner ≡ owner_by (number_of owner)
owner_back w None is = refl
owner_back w (Some zero) is = absurd (let some = is.0 in omega (arith, some))
owner_back w (Some (suc identifier)) is = refl

-- a number that is cast
pub natural_cast : (w : Word) (n : ℕ) → n < 2 ^ 31
    → value_in w.0 ≡ record { content = Integer (to_z w32 n); executable = false } → IsNatural w n
natural_cast w n below is =
    is ∙ ap (λ (z : ℤ). record { content = Integer z; executable = false })
    (to_z_pos w32 n (omega (arith, below)))

owner_word : (w : Word) (n : ℕ) → IsNatural w n → IsOwner w (owner_by n)
owner_word w zero natural = natural
owner_word w (suc n) natural = (omega arith, natural)

-- ---- what stands as a lock

one_field : (h : Heap) (birth : ℕ) (fields : List Word) → AreFields h LockKind birth fields
    → (owner : Word) × (fields ≡ owner ∷ [])
one_field h birth fields (lock_fields {owner = owner} n is) = (owner, refl)

-- the only field is the owner's
pub record Owned (fields : List Word) (object : Object) : Type 0 where
  pub word : Word
  pub owner : Option ℕ
  pub holds : fields ≡ word ∷ []
  pub is : object ≡ lock_object owner
  pub owns : IsOwner word owner

owned : (h : Heap) (names : List (List ℕ)) (birth : ℕ) (fields : List Word) (object : Object)
    → IsShown h names LockKind birth fields object → Owned fields object
owned h names birth fields (lock_object owner) (shown_lock {word = word} is) =
    record { word = word; owner = owner; holds = refl; is = refl; owns = is }
owned h names birth fields (array_object _) x = elim x [ ]
owned h names birth fields (string_object _) x = elim x [ ]
owned h names birth fields (dictionary_object _) x = elim x [ ]
owned h names birth fields condition_object x = elim x [ ]

module _ (h : Heap) (lock : ℕ) (known : StandsAs h LockKind lock 1) where
  abbrev o : Standing
  o = known.object

  no_body : o.kind ≢ BodyKind
  no_body body = let clash : LockKind ≡ BodyKind = sym known.kind_is ∙ body in cc

  pub birth_lock : birth_at h lock ≡ o.birth
  unfolding birth_at
  birth_lock = ap birth_of known.at

  pub lock_reaches : 1 ≤ length (fields_at h lock)
  unfolding fields_at
  lock_reaches = subst (λ (ws : List Word). 1 ≤ length ws) (sym (ap fields_of known.at)) known.fits

  fields_are : fields_at h lock ≡ o.fields
  unfolding fields_at
  fields_are = ap fields_of known.at

  -- ---- the store's object
  module _ (names : List (List ℕ)) (s : Store) (shows : Shows h names s) where
    shown_there : (object : Object) × (slice_get s o.birth ≡ Some object) × Owned o.fields object
    shown_there =
        let there = shows.objects lock o known.at no_body in (
          there.object,
          there.there,
          owned h names o.birth o.fields there.object
              (subst (λ k. IsShown h names k o.birth o.fields there.object) known.kind_is
              there.shown),
        )

    pub lock_shown : (owner : Option ℕ)
        × (slice_get s (birth_at h lock) ≡ Some (lock_object owner))
    lock_shown = (
      shown_there.2.owner,
      ap (slice_get s) birth_lock ∙ (shown_there.1 ∙ ap Some shown_there.2.is),
    )

    -- the number in its field is the owner's
    pub owner_read : (w : Word) → slice_get (fields_at h lock) 0 ≡ Some w → (n : ℕ)
        → Some (pos n) ≡ words.as_integer (content_in w.0)
        → owner_of s (birth_at h lock) ≡ owner_by n
    unfolding owner_of lock_shown
    owner_read w at n number =
        let is = shown_there.2 in
        let first : Some w ≡ Some is.word =
        sym at ∙ ap (λ (ws : List Word). slice_get ws 0) (fields_are ∙ is.holds) in
        let here : w ≡ is.word = cc in
        let same : Some (pos n) ≡ Some (pos (number_of is.owner)) =
        number ∙ (ap (λ (v : Word). words.as_integer (content_in v.0)) here
        ∙ owner_number is.word is.owner is.owns) in
        let equal : n ≡ number_of is.owner = cc in
        ap owner_in lock_shown.1
        ∙ (owner_back is.word is.owner is.owns ∙ ap owner_by (sym equal))

  -- in a sound memory its field is a natural number
  pub lock_number : IsSound h → (w : Word) → slice_get (fields_at h lock) 0 ≡ Some w
      → (n : ℕ) × (words.as_integer (content_in w.0) ≡ Some (pos n))
  lock_number sound w at =
      numbered o.fields
      (subst (λ k. AreFields h k o.birth o.fields) known.kind_is (sound.fields lock o known.at))
      (sym (ap (λ (ws : List Word). slice_get ws 0) fields_are) ∙ at)
    where
      numbered : (fields : List Word) → AreFields h LockKind o.birth fields
          → slice_get fields 0 ≡ Some w
          → (n : ℕ) × (words.as_integer (content_in w.0) ≡ Some (pos n))
      numbered fields (lock_fields {owner = owner} n is) here =
          let same : owner ≡ w = cc in
          (n, natural_integer w n (subst (λ (v : Word). IsNatural v n) same is))

  -- ---- an owner's number is stored
  module _ (w : Word) (n : ℕ) (natural : IsNatural w n) (word : IsWord w.0) where
    pub owner_standing : NamesStanding h lock (w ∷ [])
    owner_standing = record {
      known = λ object at text. known_values h (w ∷ []) (natural-value w n natural word h, tt);
    }

    module _ (sound : IsSound h) where
      new_fields : splice o.fields 0 (w ∷ []) ≡ w ∷ []
      unfolding splice
      new_fields =
          ap (λ ws. splice ws 0 (w ∷ [])) (one_field h o.birth o.fields
          (subst (λ k. AreFields h k o.birth o.fields) known.kind_is
          (sound.fields lock o known.at))).1

      pub owned_sound : IsSound (stored h lock 0 (w ∷ []))
      owned_sound =
          IsSound-stored_object h lock 0 (w ∷ []) o known.at known.fits sound no_body
          (subst (λ k. AreFields (stored h lock 0 (w ∷ [])) k o.birth (splice o.fields 0 (w ∷ [])))
          (sym known.kind_is)
          (subst (λ (ws : List Word). AreFields (stored h lock 0 (w ∷ [])) LockKind o.birth ws)
          (sym new_fields) (lock_fields n natural)))

      pub owned_keeps : Keeps h (stored h lock 0 (w ∷ []))
      owned_keeps = Keeps-stored h lock 0 (w ∷ []) o known.at known.fits

      pub owned_shows : (names : List (List ℕ)) (s : Store) → Shows h names s
          → Shows (stored h lock 0 (w ∷ [])) names (with_owner s (birth_at h lock) (owner_by n))
      owned_shows names s shows =
          let there = lock_shown names s shows in
          subst (λ b. Shows (stored h lock 0 (w ∷ [])) names (with_owner s b (owner_by n)))
          (sym birth_lock)
          (Shows-stored_lock h lock 0 (w ∷ []) o known.at known.fits sound names s shows
          known.kind_is there.0 (sym (ap (slice_get s) birth_lock) ∙ there.1) w (owner_by n)
          new_fields (owner_word w n natural)
          (known_values h (w ∷ []) (natural-value w n natural word h, tt))
          (natural-within w n natural (birth_at h) names s, tt))
