-- What a change of a dictionary leaves sound and shown: other words in its fields and in its body,
-- by any number of stores.
use Rattle.std.proofs.Common.{◌≡◌, ◌≢◌, ℕ, ◌≤◌, ◌⊎◌, List, length, Some, refl, sym, ap, arith, ◌∙◌, subst, inl, inr, length-set}
use Rattle.std.specs.Prelude.{slice_get, slice_set}
use Rattle.std.proofs.lemmas.Bool.{cases_eq}
use Rattle.ps_language.specs.declared.kinds.Kind.TheVariants.{Text as TextKind, Dictionary as DictionaryKind, Body as BodyKind}
use Rattle.ps_language.specs.Value.{Dictionary as DictionaryValue, dictionary_object, Store}
use Rattle.ps_language.specs.Access.{bytes, bytes_in, with_dictionary}
use Rattle.ps_mem.specs.Heap.{Heap, Standing, object_at}
use Rattle.ps_mem.specs.Keeps.{Keeps, KeepsBirth, StandsStill}
use Rattle.ps_mem.specs.References.{AreKnown}
use Rattle.ps_mem.specs.Shows.{AreValues, AreFields, body_fields, dictionary_fields, DictionaryFields, IsSound, AreWithin, ShowsDictionary, IsShown, shown_dictionary, Shows}
use Rattle.ps_mem.proofs.Lists.{slice_get-set_same, slice_get-set_other}
use Rattle.ps_mem.proofs.KeepsLemmas.{AreValues-kept, AreWithin-kept}
use Rattle.ps_mem.proofs.ShowsLemmas.{Shows-kept, body_values}
use Rattle.ps_mem.proofs.SoundLemmas.{IsSound-kept}
use Rattle.ps_mem.proofs.StoreLemmas.{body_or}

-- a dictionary at an address with a body at another have these fields now, and nothing else has
-- changed
pub record ChangesDictionary (g h : Heap) (a b : ℕ) (old new : Standing)
    (old_body new_body : Standing) : Type 0 where
  pub was : object_at g a ≡ Some old
  pub is : object_at h a ≡ Some new
  pub body_was : object_at g b ≡ Some old_body
  pub body_is : object_at h b ≡ Some new_body
  pub others : (c : ℕ) → a ≢ c → b ≢ c → object_at h c ≡ object_at g c
  pub next : h.next ≡ g.next
  pub space : h.space ≡ g.space
  pub kind_was : old.kind ≡ DictionaryKind
  pub kind_is : new.kind ≡ DictionaryKind
  pub body_kind_was : old_body.kind ≡ BodyKind
  pub body_kind_is : new_body.kind ≡ BodyKind
  pub birth : new.birth ≡ old.birth
  pub body_birth_was : old_body.birth ≡ old.birth
  pub body_birth_is : new_body.birth ≡ old.birth
  pub count : length new.fields ≡ length old.fields
  pub body_count : length new_body.fields ≡ length old_body.fields

module _ (g h : Heap) (a b : ℕ) (old new old_body new_body : Standing)
    (change : ChangesDictionary g h a b old new old_body new_body) where
  -- what stands is the dictionary, its body, or stood as it stands
  cases : (c : ℕ) (o : Standing) → object_at h c ≡ Some o → ((a ≡ c) × (o ≡ new))
      ⊎ (((b ≡ c) × (o ≡ new_body)) ⊎ ((a ≢ c) × (b ≢ c) × (object_at g c ≡ Some o)))
  cases c o at = elim (cases_eq a c) [
    | inl same ↦ let one : Some new ≡ Some o = sym change.is ∙ (ap (object_at h) same ∙ at) in
        inl (same, cc)
    | inr other ↦ elim (cases_eq b c) [
      | inl same ↦ let one : Some new_body ≡ Some o = sym change.body_is
          ∙ (ap (object_at h) same ∙ at) in inr (inl (same, cc))
      | inr other' ↦ inr (inr (other, other', sym (change.others c other other') ∙ at))
    ]
  ]

  still : (c : ℕ) (o : Standing) → object_at g c ≡ Some o → StandsStill h c o
  still c o at = elim (cases_eq a c) [
    | inl same ↦
        let one : Some old ≡ Some o = sym change.was ∙ (ap (object_at g) same ∙ at) in
        let is : old ≡ o = cc in
        record {
          now = new;
          at = ap (object_at h) (sym same) ∙ change.is;
          kind = change.kind_is ∙ (sym change.kind_was ∙ ap (λ (x : Standing). x.kind) is);
          birth = change.birth ∙ ap (λ (x : Standing). x.birth) is;
          count = change.count ∙ ap (λ (x : Standing). length x.fields) is;
        }
    | inr other ↦ elim (cases_eq b c) [
      | inl same ↦
          let one : Some old_body ≡ Some o = sym change.body_was ∙ (ap (object_at g) same ∙ at) in
          let is : old_body ≡ o = cc in
          record {
            now = new_body;
            at = ap (object_at h) (sym same) ∙ change.body_is;
            kind = change.body_kind_is
                ∙ (sym change.body_kind_was ∙ ap (λ (x : Standing). x.kind) is);
            birth = change.body_birth_is
                ∙ (sym change.body_birth_was ∙ ap (λ (x : Standing). x.birth) is);
            count = change.body_count ∙ ap (λ (x : Standing). length x.fields) is;
          }
      | inr other' ↦ record {
        now = o;
        at = change.others c other other' ∙ at;
        kind = refl;
        birth =
            refl;
        count = refl;
      }
    ]
  ]

  pub Keeps-changed : Keeps g h
  Keeps-changed = record { stays = still; space = change.space }

  KeepsBirth-changed : (birth : ℕ) → birth ≢ old.birth → KeepsBirth g h birth
  KeepsBirth-changed birth other = record {
    same = λ c o at is. elim (cases_eq a c) [
      | inl same ↦
          let one : Some old ≡ Some o = sym change.was ∙ (ap (object_at g) same ∙ at) in
          let it : old ≡ o = cc in
          absurd (other (sym is ∙ sym (ap (λ (x : Standing). x.birth) it)))
      | inr apart ↦ elim (cases_eq b c) [
        | inl same ↦
            let one : Some old_body ≡ Some o = sym change.body_was ∙ (ap (object_at g) same ∙ at) in
            let it : old_body ≡ o = cc in
            absurd (other (sym is ∙ (sym (ap (λ (x : Standing). x.birth) it)
            ∙ change.body_birth_was)))
        | inr apart' ↦ change.others c apart apart' ∙ at
      ]
    ];
  }

  no_body : old.kind ≢ BodyKind
  no_body k = let clash : DictionaryKind ≡ BodyKind = sym change.kind_was ∙ k in cc

  module _ (sound : IsSound g) where
    -- what stood apart with the birth number of the dictionary is a body
    body_apart : (c : ℕ) (o : Standing) → a ≢ c → object_at g c ≡ Some o → o.birth ≡ old.birth
        → o.kind ≡ BodyKind
    body_apart c o apart at one = elim (body_or o.kind) [
      | inl body ↦ body
      | inr visible ↦ absurd (apart
          (sound.single a c old o change.was at no_body visible (sym one)))
    ]

    -- each object is one that stood, of the same kind and birth number
    stood : (c : ℕ) (o : Standing) → object_at h c ≡ Some o → (p : Standing)
        × (object_at g c ≡ Some p) × (p.birth ≡ o.birth) × (p.kind ≡ o.kind)
    stood c o at = elim (cases c o at) [
      | inl (same, is) ↦ (
        old,
        ap (object_at g) (sym same) ∙ change.was,
        sym change.birth
            ∙ sym (ap (λ (x : Standing). x.birth) is),
        change.kind_was
            ∙ (sym change.kind_is ∙ sym (ap (λ (x : Standing). x.kind) is)),
      )
      | inr rest ↦ elim rest [
        | inl (same, is) ↦ (
          old_body,
          ap (object_at g) (sym same)
              ∙ change.body_was,
          change.body_birth_was
              ∙ (sym change.body_birth_is ∙ sym (ap (λ (x : Standing). x.birth) is)),
          change.body_kind_was ∙ (sym change.body_kind_is
              ∙ sym (ap (λ (x : Standing). x.kind) is)),
        )
        | inr (apart, apart', there) ↦ (o, there, refl, refl)
      ]
    ]

    module _ (shape : DictionaryFields h old.birth new.fields)
        (values : AreValues g new_body.fields) where
      fields-changed : (c : ℕ) (o : Standing) → object_at h c ≡ Some o
          → ((object_at g c ≡ Some o) × KeepsBirth g h o.birth)
          ⊎ AreFields h o.kind o.birth o.fields
      fields-changed c o at = elim (cases c o at) [
        | inl (same, is) ↦ inr (subst (λ (x : Standing). AreFields h x.kind x.birth x.fields)
            (sym is)
            (subst (λ k. AreFields h k new.birth new.fields) (sym change.kind_is)
            (subst (λ n. AreFields h DictionaryKind n new.fields) (sym change.birth)
            (dictionary_fields shape))))
        | inr rest ↦ elim rest [
          | inl (same, is) ↦ inr (subst (λ (x : Standing). AreFields h x.kind x.birth x.fields)
              (sym is)
              (subst (λ k. AreFields h k new_body.birth new_body.fields) (sym change.body_kind_is)
              (body_fields (AreValues-kept g h Keeps-changed new_body.fields values))))
          | inr (apart, apart', there) ↦ elim (cases_eq o.birth old.birth) [
            | inr other ↦ inl (there, KeepsBirth-changed o.birth other)
            | inl one ↦
                let body : o.kind ≡ BodyKind = body_apart c o apart there one in
                let old_fields : AreFields g BodyKind o.birth o.fields =
                subst (λ k. AreFields g k o.birth o.fields) body (sound.fields c o there) in
                inr (subst (λ k. AreFields h k o.birth o.fields) (sym body)
                (body_fields (AreValues-kept g h Keeps-changed o.fields
                (body_values g o.birth o.fields old_fields))))
          ]
        ]
      ]

      pub IsSound-changed : IsSound h
      IsSound-changed =
          IsSound-kept g h Keeps-changed sound
          (λ c e o p at at' body body' one.
          let (q, there, birth, kind) = stood c o at in
          let (r, there', birth', kind') = stood e p at' in
          sound.single c e q r there there' (λ k. body (sym kind ∙ k)) (λ k. body' (sym kind' ∙ k))
          (birth ∙ (one ∙ sym birth')))
          (λ c o at.
          let (q, there, birth, kind) = stood c o at in
          let below = sound.below c q there in
          let next = change.next in
          omega (arith, below, next, birth))
          fields-changed

    module _ (names : List (List ℕ)) (s : Store) (shows : Shows g names s) (d d' : DictionaryValue)
        (there : slice_get s old.birth ≡ Some (dictionary_object d))
        (shown : ShowsDictionary h names old.birth new.fields d')
        (values : AreKnown g new_body.fields) (within : AreWithin g names s new_body.fields)
        (known : AreKnown g new.fields) (inside : AreWithin g names s new.fields) where
      abbrev after : Store
      after = slice_set s old.birth (dictionary_object d')

      there_now : slice_get after old.birth ≡ Some (dictionary_object d')
      there_now = slice_get-set_same s old.birth (dictionary_object d') (dictionary_object d) there

      longer : (birth : ℕ) → length (bytes s birth) ≤ length (bytes after birth)
      unfolding bytes
      longer birth = elim (cases_eq old.birth birth) [
        | inl same ↦
            let was : slice_get s birth ≡ Some (dictionary_object d) = ap (slice_get s) (sym same)
            ∙ there in
            let is : slice_get after birth ≡ Some (dictionary_object d') =
            ap (slice_get after) (sym same) ∙ there_now in
            let count : length (bytes_in (slice_get s birth)) ≡ length
            (bytes_in (slice_get after birth)) = ap (λ x. length (bytes_in x)) was
            ∙ sym (ap (λ x. length (bytes_in x)) is) in
            omega (arith, count)
        | inr other ↦
            let same : length (bytes_in (slice_get after birth)) ≡ length
            (bytes_in (slice_get s birth)) =
            ap (λ x. length (bytes_in x))
            (slice_get-set_other s old.birth birth (dictionary_object d') other) in
            omega (arith, same)
      ]

      within-changed : (c : ℕ) (o : Standing) → object_at h c ≡ Some o → o.kind ≢ TextKind
          → (object_at g c ≡ Some o) ⊎ AreWithin h names after o.fields
      within-changed c o at text = elim (cases c o at) [
        | inl (same, is) ↦ inr (subst (λ (x : Standing). AreWithin h names after x.fields) (sym is)
            (AreWithin-kept g h Keeps-changed names s after longer new.fields known inside))
        | inr rest ↦ elim rest [
          | inl (same, is) ↦ inr (subst (λ (x : Standing). AreWithin h names after x.fields)
              (sym is) (AreWithin-kept g h Keeps-changed names s after longer new_body.fields values
              within))
          | inr (apart, apart', stood) ↦ inl stood
        ]
      ]

      pub Shows-changed : Shows h names (with_dictionary s old.birth d')
      unfolding with_dictionary
      Shows-changed =
          Shows-kept g h Keeps-changed names sound s after shows
          (change.next ∙ (shows.next ∙ sym (length-set s old.birth (dictionary_object d'))))
          longer
          (λ c o at body. elim (cases c o at) [
            | inl (same, is) ↦ inr (record {
              object = dictionary_object d';
              there = ap (slice_get after) (ap (λ (x : Standing). x.birth) is ∙ change.birth)
                  ∙ there_now;
              shown = subst (λ (x : Standing). IsShown h names x.kind x.birth x.fields
                  (dictionary_object d')) (sym is)
                  (subst (λ k. IsShown h names k new.birth new.fields (dictionary_object d'))
                  (sym change.kind_is)
                  (subst (λ n. IsShown h names DictionaryKind n new.fields (dictionary_object d'))
                  (sym change.birth) (shown_dictionary shown)));
            })
            | inr rest ↦ elim rest [
              | inl (same, is) ↦ absurd
                  (body (ap (λ (x : Standing). x.kind) is ∙ change.body_kind_is))
              | inr (apart, apart', stood) ↦ elim (cases_eq o.birth old.birth) [
                | inl one ↦ absurd (body (body_apart c o apart stood one))
                | inr other ↦ inl (
                  stood,
                  KeepsBirth-changed o.birth other,
                  slice_get-set_other s
                      old.birth o.birth (dictionary_object d') (λ k. other (sym k)),
                )
              ]
            ]
          ])
          within-changed
