-- The store of the language that is shown after a store into an array, a string, a lock, a
-- dictionary or a body.
use Rattle.std.proofs.Common.{◌≡◌, ◌≢◌, ℕ, ◌+◌, ◌≤◌, List, [], ◌∷◌, length, map, Option, Some, refl, sym, ap, ◌∙◌, subst, inl, inr}
use Rattle.std.specs.Prelude.{slice_get, slice_set}
use Rattle.ps_language.specs.declared.kinds.Kind.TheVariants.{Array as ArrayKind, Text as TextKind, Dictionary as DictionaryKind, Lock as LockKind, Body as BodyKind}
use Rattle.ps_language.specs.Value.{Value, Dictionary as DictionaryValue, Object, array_object, string_object, dictionary_object, lock_object, condition_object, Store}
use Rattle.ps_language.specs.Access.{splice, bytes, bytes_in, elements, elements_in, with_elements, with_bytes, with_dictionary}
use Rattle.ps_language.specs.Owners.{with_owner}
use Rattle.ps_word.specs.declared.words.Word.{Word}
use Rattle.ps_mem.specs.Heap.{Heap, Standing, object_at, birth_at, stored}
use Rattle.ps_mem.specs.Meaning.{value_of}
use Rattle.ps_mem.specs.Strings.{AreBytes, words_of}
use Rattle.ps_mem.specs.Shows.{AreValues, IsSound, AreWithin, ShowsDictionary, IsOwner, IsShown, shown_array, shown_text, shown_dictionary, shown_lock, Shows}
use Rattle.ps_mem.proofs.Lists.{all_splice, map-splice}
use Rattle.ps_mem.proofs.KeepsLemmas.{Keeps-stored, AreWithin-kept, values_of-kept, known_values, stored_from}
use Rattle.ps_mem.specs.References.{IsKnown, AreKnown}
use Rattle.ps_mem.specs.Shows.{IsWithin}
use Rattle.ps_mem.proofs.ShowsLemmas.{known_fields}
use Rattle.ps_mem.proofs.StoreLemmas.{Shows-stored, lengths, alone}

-- ---- what a memory shows of one object

shown_elements : (h : Heap) (names : List (List ℕ)) (birth : ℕ) (fields : List Word) (object : Object)
    → IsShown h names ArrayKind birth fields object → object ≡ array_object (map (value_of (birth_at h) names) fields)
shown_elements h names birth fields (array_object elements) (shown_array e) = ap array_object e
shown_elements h names birth fields (string_object _) x = elim x [ ]
shown_elements h names birth fields (dictionary_object _) x = elim x [ ]
shown_elements h names birth fields (lock_object _) x = elim x [ ]
shown_elements h names birth fields condition_object x = elim x [ ]

pub record TextShown (fields : List Word) (object : Object) : Type 0 where
  pub text : List ℕ
  pub is : object ≡ string_object text
  pub are : AreBytes text
  pub words : fields ≡ words_of text

shown_bytes : (h : Heap) (names : List (List ℕ)) (birth : ℕ) (fields : List Word) (object : Object)
    → IsShown h names TextKind birth fields object → TextShown fields object
shown_bytes h names birth fields (string_object text) (shown_text are e) =
    record { text = text; is = refl; are = are; words = e }
shown_bytes h names birth fields (array_object _) x = elim x [ ]
shown_bytes h names birth fields (dictionary_object _) x = elim x [ ]
shown_bytes h names birth fields (lock_object _) x = elim x [ ]
shown_bytes h names birth fields condition_object x = elim x [ ]

module _ (h : Heap) (names : List (List ℕ)) (s : Store) (shows : Shows h names s) (a : ℕ) (o : Standing)
    (at : object_at h a ≡ Some o) where
  -- the store's object of an array
  pub array-shown : o.kind ≡ ArrayKind
      → slice_get s o.birth ≡ Some (array_object (map (value_of (birth_at h) names) o.fields))
  array-shown kind =
      let there = shows.objects a o at (λ k. let clash : ArrayKind ≡ BodyKind = sym kind ∙ k in cc) in
      there.there
      ∙ ap Some (shown_elements h names o.birth o.fields there.object
      (subst (λ k. IsShown h names k o.birth o.fields there.object) kind there.shown))

  -- an array's elements are the values of its fields
  pub elements-shown : o.kind ≡ ArrayKind → elements s o.birth ≡ map (value_of (birth_at h) names) o.fields
  unfolding elements
  elements-shown kind = ap elements_in (array-shown kind)

  -- the store's object of a string
  pub text-shown : o.kind ≡ TextKind
      → (text : List ℕ) × (slice_get s o.birth ≡ Some (string_object text)) × AreBytes text × (o.fields ≡ words_of text)
  text-shown kind =
      let there = shows.objects a o at (λ k. let clash : TextKind ≡ BodyKind = sym kind ∙ k in cc) in
      let t = shown_bytes h names o.birth o.fields there.object
      (subst (λ k. IsShown h names k o.birth o.fields there.object) kind there.shown) in
      (t.text, there.there ∙ ap Some t.is, t.are, t.words)

-- ---- a store into an object that is no body

module _ (h : Heap) (a place : ℕ) (items : List Word) (o : Standing) (at : object_at h a
    ≡ Some o) (fits : place + length items ≤ length o.fields) (sound : IsSound h)
    (names : List (List ℕ)) (s : Store) (shows : Shows h names s) where
  abbrev after_store : Heap
  after_store = stored h a place items

  module _ (body : o.kind ≢ BodyKind) (old new : Object) (there : slice_get s o.birth
      ≡ Some old) (bytes_kept : length (bytes_in (Some old)) ≡ length (bytes_in (Some new))) where
    abbrev after : Store
    after = slice_set s o.birth new

    abbrev longer : (birth : ℕ) → length (bytes s birth) ≤ length (bytes after birth)
    longer = lengths h a place items o at fits sound names s shows old new there bytes_kept

    pub Shows-stored_object : IsShown after_store names o.kind o.birth (splice o.fields place items) new
        → (o.kind ≢ TextKind → AreWithin after_store names after (splice o.fields place items))
        → Shows after_store names after
    Shows-stored_object shown within =
        Shows-stored h a place items o at fits sound names s shows old new there bytes_kept
        (λ b p e body' one. subst (λ (x : Standing). IsShown after_store names x.kind x.birth x.fields new)
        (sym (alone h a place items o at fits sound body b p e body' one)) shown)
        (λ b p e text one. elim (stored_from h a place items o at fits b p e) [
          | inl (same, is) ↦ subst (λ (x : Standing). x.kind ≢ TextKind
              → AreWithin after_store names after x.fields) (sym is) within text
          | inr (other, stood) ↦ AreWithin-kept h after_store
              (Keeps-stored h a place items o at fits) names s after longer p.fields
              (known_fields h sound b p stood text) (shows.within b p stood text)
        ])

    -- new words among those within are within
    pub within-stored : o.kind ≢ TextKind → AreKnown h items → AreWithin h names s items
        → AreWithin after_store names after (splice o.fields place items)
    within-stored text known inside =
        AreWithin-kept h after_store (Keeps-stored h a place items o at fits) names s after longer
        (splice o.fields place items)
        (all_splice (IsKnown h) o.fields place items (known_fields h sound a o at text) known)
        (all_splice (IsWithin (birth_at h) names s) o.fields place items (shows.within a o at text) inside)

  -- a store of values into an array
  pub Shows-stored_array : o.kind ≡ ArrayKind → AreValues h items → AreWithin h names s items →
      Shows after_store names
      (with_elements s o.birth (splice (elements s o.birth) place (map (value_of (birth_at h) names) items)))
  unfolding with_elements
  Shows-stored_array kind values inside =
      let body : o.kind ≢ BodyKind = λ k. (let clash : ArrayKind ≡ BodyKind = sym kind ∙ k in cc) in
      let text : o.kind ≢ TextKind = λ k. (let clash : ArrayKind ≡ TextKind = sym kind ∙ k in cc) in
      let there = array-shown h names s shows a o at kind in
      let known = known_values h items values in
      let known_now : AreKnown h (splice o.fields place items) =
      all_splice (IsKnown h) o.fields place items (known_fields h sound a o at text) known in
      let elements_now : List Value = splice (elements s o.birth) place (map (value_of (birth_at h) names) items) in
      let shown : elements_now ≡ map (value_of (birth_at after_store) names) (splice o.fields place items) =
      ap (λ es. splice es place (map (value_of (birth_at h) names) items)) (elements-shown h names s shows a o at kind)
      ∙ (sym (map-splice (value_of (birth_at h) names) o.fields place items)
      ∙ sym (values_of-kept h after_store (Keeps-stored h a place items o at fits) names
      (splice o.fields place items) known_now)) in
      Shows-stored_object body (array_object (map (value_of (birth_at h) names) o.fields))
      (array_object elements_now) there refl
      (subst (λ k. IsShown after_store names k o.birth (splice o.fields place items) (array_object elements_now))
      (sym kind) (shown_array shown))
      (λ text'. within-stored body (array_object (map (value_of (birth_at h) names) o.fields))
      (array_object elements_now) there refl text known inside)

  -- a store of words into a string, which are its bytes from then on
  pub Shows-stored_text : o.kind ≡ TextKind → (text now_text : List ℕ) → slice_get s o.birth ≡ Some (string_object text)
      → length now_text ≡ length text → AreBytes now_text → splice o.fields place items ≡ words_of now_text →
      Shows after_store names (with_bytes s o.birth now_text)
  unfolding with_bytes
  Shows-stored_text kind text now_text there same are words =
      Shows-stored_object (λ k. let clash : TextKind ≡ BodyKind = sym kind ∙ k in
      cc) (string_object text) (string_object now_text) there (sym same)
      (subst (λ k. IsShown after_store names k o.birth (splice o.fields place items) (string_object now_text))
      (sym kind) (shown_text are words))
      (λ no. absurd (no kind))

  -- a store of the owner into a lock
  pub Shows-stored_lock : o.kind ≡ LockKind → (old : Option ℕ) → slice_get s o.birth ≡ Some (lock_object old)
      → (word : Word) (owner : Option ℕ) → splice o.fields place items ≡ word ∷ [] → IsOwner word owner
      → AreKnown h items → AreWithin h names s items →
      Shows after_store names (with_owner s o.birth owner)
  unfolding with_owner
  Shows-stored_lock kind old there word owner is owns known inside =
      let body : o.kind ≢ BodyKind = λ k. (let clash : LockKind ≡ BodyKind = sym kind ∙ k in cc) in
      let text : o.kind ≢ TextKind = λ k. (let clash : LockKind ≡ TextKind = sym kind ∙ k in cc) in
      Shows-stored_object body (lock_object old) (lock_object owner) there refl
      (subst (λ k. IsShown after_store names k o.birth (splice o.fields place items) (lock_object owner)) (sym kind)
      (subst (λ ws. IsShown after_store names LockKind o.birth ws (lock_object owner)) (sym is) (shown_lock owns)))
      (λ text'. within-stored body (lock_object old) (lock_object owner) there refl text known inside)

  -- a store into the fields of a dictionary: what they are from then on
  pub Shows-stored_dictionary : o.kind ≡ DictionaryKind → (old new : DictionaryValue)
      → slice_get s o.birth ≡ Some (dictionary_object old) →
      ShowsDictionary after_store names o.birth (splice o.fields place items) new → AreKnown h items
      → AreWithin h names s items → Shows after_store names (with_dictionary s o.birth new)
  unfolding with_dictionary
  Shows-stored_dictionary kind old new there is known inside =
      let body : o.kind ≢ BodyKind = λ k. (let clash : DictionaryKind ≡ BodyKind = sym kind ∙ k in cc) in
      let text : o.kind ≢ TextKind = λ k. (let clash : DictionaryKind ≡ TextKind = sym kind ∙ k in cc) in
      Shows-stored_object body (dictionary_object old) (dictionary_object new) there refl
      (subst (λ k. IsShown after_store names k o.birth (splice o.fields place items) (dictionary_object new)) (sym kind)
      (shown_dictionary is))
      (λ text'. within-stored body (dictionary_object old) (dictionary_object new) there refl text known inside)

  -- a store of values into a body: what its dictionary, which stands at c, is from then on
  pub Shows-stored_body : o.kind ≡ BodyKind → (c : ℕ) (p : Standing) → object_at h c ≡ Some p → p.kind ≡ DictionaryKind
      → p.birth ≡ o.birth → (old new : DictionaryValue) → slice_get s o.birth ≡ Some (dictionary_object old) →
      ShowsDictionary after_store names o.birth p.fields new → AreKnown h items → AreWithin h names s items
      → Shows after_store names (with_dictionary s o.birth new)
  unfolding with_dictionary
  Shows-stored_body kind c p there kind' one old new was is known inside =
      let after' : Store = slice_set s o.birth (dictionary_object new) in
      let longer' : (birth : ℕ) → length (bytes s birth) ≤ length (bytes after' birth) =
      lengths h a place items o at fits sound names s shows (dictionary_object old)
      (dictionary_object new) was refl in
      let text : o.kind ≢ TextKind = λ k. (let clash : BodyKind ≡ TextKind = sym kind ∙ k in cc) in
      let apart : a ≢ c = λ same.
      (let same_object : Some o ≡ Some p = sym at ∙ (ap (object_at h) same ∙ there) in
      let is_it : o ≡ p = cc in
      let clash : BodyKind ≡ DictionaryKind = sym kind ∙ (ap (λ (x : Standing). x.kind) is_it ∙ kind') in cc) in
      let body_p : p.kind ≢ BodyKind = λ k. (let clash : DictionaryKind ≡ BodyKind = sym kind' ∙ k in cc) in
      Shows-stored h a place items o at fits sound names s shows (dictionary_object old)
      (dictionary_object new) was refl
      (λ b q e body one'. elim (stored_from h a place items o at fits b q e) [
        | inl (same, is_q) ↦ absurd (body (ap (λ (x : Standing). x.kind) is_q ∙ kind))
        | inr (other, stood) ↦
            let here : b ≡ c = sound.single b c q p stood there body body_p (one' ∙ sym one) in
            let same_object : Some q ≡ Some p = sym stood ∙ (ap (object_at h) here ∙ there) in
            let is_p : p ≡ q = cc in
            subst (λ (x : Standing). IsShown after_store names x.kind x.birth x.fields (dictionary_object new)) is_p
            (subst (λ k. IsShown after_store names k p.birth p.fields (dictionary_object new)) (sym kind')
            (subst (λ n. IsShown after_store names DictionaryKind n p.fields (dictionary_object new)) (sym one)
            (shown_dictionary is)))
      ])
      (λ b q e no one'. elim (stored_from h a place items o at fits b q e) [
        | inl (same, is_q) ↦ subst (λ (x : Standing). AreWithin after_store names after' x.fields) (sym is_q)
            (AreWithin-kept h after_store (Keeps-stored h a place items o at fits) names s after' longer'
            (splice o.fields place items)
            (all_splice (IsKnown h) o.fields place items (known_fields h sound a o at text) known)
            (all_splice (IsWithin (birth_at h) names s) o.fields place items (shows.within a o at text) inside))
        | inr (other, stood) ↦ AreWithin-kept h after_store
            (Keeps-stored h a place items o at fits) names s after' longer' q.fields (known_fields h sound b q stood no)
            (shows.within b q stood no)
      ])
