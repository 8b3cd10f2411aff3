-- What new objects and a new body leave sound and shown.
use Rattle.std.proofs.Common.{◌≡◌, ◌≢◌, ℕ, zero, suc, ◌+◌, ◌<◌, ◌≤◌, ◌⊎◌, List, [], ◌∷◌, ◌++◌, length, map, replicate, Option, Some, None, refl, sym, ap, arith, ◌∙◌, subst, inl, inr, length-append}
use Rattle.std.specs.Prelude.{slice_get}
use Rattle.std.proofs.lemmas.Bool.{cases_lt}
use Rattle.std.proofs.lemmas.List.{append-nil}
use Rattle.std.proofs.lemmas.Bool.Decides.{eqb_tells}
use Rattle.ps_language.specs.declared.kinds.Kind.{Kind}
use Rattle.ps_language.specs.declared.kinds.Kind.TheVariants.{Array as ArrayKind, Text as TextKind, Dictionary as DictionaryKind, Body as BodyKind}
use Rattle.ps_language.specs.Value.{Dictionary as DictionaryValue, Object, array_object, dictionary_object, Store}
use Rattle.ps_language.specs.Access.{splice, bytes, bytes_in}
use Rattle.ps_word.specs.declared.words.Word.{Word}
use Rattle.ps_mem.specs.Heap.{Heap, Standing, object_at, birth_at, stored, made, made_body, zero_word}
use Rattle.ps_mem.specs.Keeps.{KeepsBirth, Extends}
use Rattle.ps_mem.specs.Meaning.{value_of}
use Rattle.ps_mem.specs.Shows.{AreValues, IsSound, AreFields, array_fields, body_fields, AreWithin, ShowsDictionary, IsShown, shown_array, shown_dictionary, IsObject, Shows}
use Rattle.ps_mem.proofs.HeapLemmas.{object_at-made_same, object_at-made_other, object_at-made_body_same, object_at-made_body_other, object_at-stored_same, object_at-stored_other}
use Rattle.ps_mem.proofs.KeepsLemmas.{Keeps-Extends, Extends-made, Extends-made_body, Extends-stored, AreValues-kept, AreWithin-kept, values_of-kept, known_values}
use Rattle.ps_mem.proofs.ShowsLemmas.{Shows-kept}
use Rattle.ps_mem.proofs.SoundLemmas.{IsSound-kept}
use Rattle.ps_mem.proofs.Lists.{slice_get-append_end}

found_or : (x : Option Standing) → (x ≡ None) ⊎ ((o : Standing) × (x ≡ Some o))
found_or None = inl refl
found_or (Some o) = inr (o, refl)

pub slice_get-append_left : {A : Type 0} (xs ys : List A) (i : ℕ) → i < length xs
    → slice_get (xs ++ ys) i ≡ slice_get xs i
slice_get-append_left [] ys i h = absurd (omega arith)
slice_get-append_left (x ∷ xs) ys zero h = refl
slice_get-append_left (x ∷ xs) ys (suc i) h = slice_get-append_left xs ys i (omega arith)

slice_get_past : {A : Type 0} (xs : List A) (i : ℕ) → length xs ≤ i → slice_get xs i ≡ None
slice_get_past [] i h = refl
slice_get_past (x ∷ xs) zero h = absurd (omega arith)
slice_get_past (x ∷ xs) (suc i) h = slice_get_past xs i (omega arith)

pub longer : (s more : Store) (birth : ℕ) → length (bytes s birth) ≤ length (bytes (s ++ more) birth)
unfolding bytes
longer s more birth = elim (cases_lt birth (length s)) [
  | inl below ↦
      let same : length (bytes_in (slice_get (s ++ more) birth)) ≡ length (bytes_in (slice_get s birth)) =
      ap (λ x. length (bytes_in x)) (slice_get-append_left s more birth below) in
      omega (arith, same)
  | inr past ↦
      let none : length (bytes_in (slice_get s birth)) ≡ 0 =
      ap (λ x. length (bytes_in x)) (slice_get_past s birth past) in
      omega (arith, none)
]

-- ---- any number of new objects

module _ (g h : Heap) (extends : Extends g h) (sound : IsSound g) where
  -- what stands stood, or is new
  stood_or : (a : ℕ) (o : Standing) → object_at h a ≡ Some o → (object_at g a ≡ None) ⊎ (object_at g a ≡ Some o)
  stood_or a o at = elim (found_or (object_at g a)) [
    | inl none ↦ inl none
    | inr (p, there) ↦ let one : Some p ≡ Some o = sym (extends.same a p there) ∙ at in inr (there ∙ one)
  ]

  abbrev keeps_birth : (birth : ℕ) → KeepsBirth g h birth
  keeps_birth birth = record { same = λ a o at is. extends.same a o at }

  pub IsSound-extended : g.next ≤ h.next
      → ((a : ℕ) (o : Standing) → object_at h a ≡ Some o → object_at g a ≡ None
      → (o.birth < h.next) × (o.kind ≢ BodyKind → g.next ≤ o.birth) × AreFields h o.kind o.birth o.fields)
      → ((a b : ℕ) (o p : Standing) → object_at h a ≡ Some o → object_at h b ≡ Some p → object_at g a ≡ None
      → object_at g b ≡ None → o.kind ≢ BodyKind → p.kind ≢ BodyKind → o.birth ≡ p.birth → a ≡ b)
      → IsSound h
  IsSound-extended later new alone =
      IsSound-kept g h (Keeps-Extends g h extends) sound
      (λ a b o p at at' body body' one. elim (stood_or a o at) [
        | inl fresh ↦ elim (stood_or b p at') [
          | inl fresh' ↦ alone a b o p at at' fresh fresh' body body' one
          | inr there' ↦ absurd (let low = (new a o at fresh).1 body in let old = sound.below b p there' in
              omega (arith, low, old, one))
        ]
        | inr there ↦ elim (stood_or b p at') [
          | inl fresh' ↦ absurd (let low = (new b p at' fresh').1 body' in let old = sound.below a o there in
              omega (arith, low, old, one))
          | inr there' ↦ sound.single a b o p there there' body body' one
        ]
      ])
      (λ a o at. elim (stood_or a o at) [
        | inl fresh ↦ (new a o at fresh).0
        | inr there ↦ let old = sound.below a o there in omega (arith, old, later)
      ])
      (λ a o at. elim (stood_or a o at) [
        | inl fresh ↦ inr (new a o at fresh).2
        | inr there ↦ inl (there, keeps_birth o.birth)
      ])

  module _ (names : List (List ℕ)) (s more : Store) (shows : Shows g names s) where
    pub Shows-extended : h.next ≡ length (s ++ more)
        → ((a : ℕ) (o : Standing) → object_at h a ≡ Some o → object_at g a ≡ None → o.kind ≢ BodyKind
        → IsObject h names (s ++ more) o.kind o.birth o.fields)
        → ((a : ℕ) (o : Standing) → object_at h a ≡ Some o → object_at g a ≡ None → o.kind ≢ TextKind
        → AreWithin h names (s ++ more) o.fields)
        → Shows h names (s ++ more)
    Shows-extended next objects within =
        Shows-kept g h (Keeps-Extends g h extends) names sound s (s ++ more) shows next (longer s more)
        (λ a o at body. elim (stood_or a o at) [
          | inl fresh ↦ inr (objects a o at fresh body)
          | inr there ↦ inl (
            there,
            keeps_birth o.birth,
            slice_get-append_left s more o.birth (let old = sound.below a o there in let count = shows.next in
                omega (arith, old, count)),
          )
        ])
        (λ a o at text. elim (stood_or a o at) [
          | inl fresh ↦ inr (within a o at fresh text)
          | inr there ↦ inl there
        ])

-- ---- one new object, filled or not

-- the one thing that stands beside what stood
pub record NewObject (g h : Heap) (a : ℕ) (o : Standing) : Type 0 where
  pub free : object_at g a ≡ None
  pub extends : Extends g h
  pub at : object_at h a ≡ Some o
  pub only : (b : ℕ) (p : Standing) → object_at h b ≡ Some p → object_at g b ≡ None → (b ≡ a) × (p ≡ o)

pub NewObject-made : (g : Heap) (a : ℕ) (kind : Kind) (n : ℕ) → object_at g a ≡ None
    → NewObject g (made g a kind n) a (record { kind = kind; birth = g.next; fields = replicate n zero_word })
NewObject-made g a kind n free = record {
  free = free;
  extends = Extends-made g a kind n free;
  at = object_at-made_same g a kind n;
  only = λ b p e none. elim (eqb_tells a b) [
    | inl (_, same) ↦
        let there : object_at (made g a kind n) b
        ≡ Some (record { kind = kind; birth = g.next; fields = replicate n zero_word }) =
        ap (object_at (made g a kind n)) (sym same) ∙ object_at-made_same g a kind n in
        (sym same, cc)
    | inr (_, other) ↦ let clash : None ≡ Some p = sym none ∙ (sym (object_at-made_other g a kind n b other) ∙ e) in cc
  ];
}

pub NewObject-made_body : (g : Heap) (a birth n : ℕ) → object_at g a ≡ None
    → NewObject g (made_body g a birth n) a (record { kind = BodyKind; birth = birth; fields = replicate n zero_word })
NewObject-made_body g a birth n free = record {
  free = free;
  extends = Extends-made_body g a birth n free;
  at = object_at-made_body_same g a birth n;
  only = λ b p e none. elim (eqb_tells a b) [
    | inl (_, same) ↦
        let there : object_at (made_body g a birth n) b
        ≡ Some (record { kind = BodyKind; birth = birth; fields = replicate n zero_word }) =
        ap (object_at (made_body g a birth n)) (sym same) ∙ object_at-made_body_same g a birth n in
        (sym same, cc)
    | inr (_, other) ↦ let clash : None ≡ Some p = sym none
        ∙ (sym (object_at-made_body_other g a birth n b other) ∙ e) in cc
  ];
}

-- filling it leaves it the one new thing
pub NewObject-filled : (g h : Heap) (a : ℕ) (o : Standing) (place : ℕ) (items : List Word) → NewObject g h a o
    → NewObject g (stored h a place items) a (record o { fields = splice o.fields place items })
NewObject-filled g h a o place items new = record {
  free = new.free;
  extends = Extends-stored g h a place items new.extends new.free;
  at = object_at-stored_same h a place items o new.at;
  only = λ b p e none. elim (eqb_tells a b) [
    | inl (_, same) ↦
        let there : object_at (stored h a place items) b ≡ Some (record o { fields = splice o.fields place items }) =
        ap (object_at (stored h a place items)) (sym same) ∙ object_at-stored_same h a place items o new.at in
        (sym same, cc)
    | inr (_, other) ↦
        let was = new.only b p (sym (object_at-stored_other h a place items b other) ∙ e) none in
        absurd (other (sym was.0))
  ];
}

module _ (g h : Heap) (a : ℕ) (o : Standing) (new : NewObject g h a o) (sound : IsSound g) where
  -- a new object of the next birth number
  module _ (next : h.next ≡ g.next + 1) (birth : o.birth ≡ g.next) where
    pub IsSound-new : AreFields h o.kind o.birth o.fields → IsSound h
    IsSound-new fields =
        IsSound-extended g h new.extends sound (omega (arith, next))
        (λ b p at none. subst (λ (x : Standing). (x.birth < h.next) × (x.kind ≢ BodyKind → g.next ≤ x.birth)
        × AreFields h x.kind x.birth x.fields) (sym (new.only b p at none).1)
        (omega (arith, next, birth), (λ _. omega (arith, birth)), fields))
        (λ b c p q at at' none none' body body' one. (new.only b p at none).0 ∙ sym (new.only c q at' none').0)

    pub Shows-new : (names : List (List ℕ)) (s : Store) (object : Object) → Shows g names s
        → IsShown h names o.kind o.birth o.fields object
        → (o.kind ≢ TextKind → AreWithin h names (s ++ object ∷ []) o.fields) → Shows h names (s ++ object ∷ [])
    Shows-new names s object shows shown within =
        let count : length s ≡ o.birth = sym shows.next ∙ sym birth in
        Shows-extended g h new.extends sound names s (object ∷ []) shows (next
        ∙ (ap (λ n. n + 1) shows.next ∙ sym (length-append s (object ∷ []))))
        (λ b p at none body. subst (λ (x : Standing). IsObject h names (s ++ object ∷ []) x.kind x.birth x.fields)
        (sym (new.only b p at none).1)
        (record {
          object = object;
          there = ap (slice_get (s ++ object ∷ [])) (sym count) ∙ slice_get-append_end s [] object;
          shown = shown;
        }))
        (λ b p at none text. subst (λ (x : Standing). x.kind ≢ TextKind
        → AreWithin h names (s ++ object ∷ []) x.fields) (sym (new.only b p at none).1) within text)

  -- a new body, of a birth number that was given out
  pub IsSound-new_body : h.next ≡ g.next → o.kind ≡ BodyKind → o.birth < g.next → AreValues h o.fields → IsSound h
  IsSound-new_body next kind below values =
      IsSound-extended g h new.extends sound (omega (arith, next))
      (λ b p at none. subst (λ (x : Standing). (x.birth < h.next) × (x.kind ≢ BodyKind → g.next ≤ x.birth)
      × AreFields h x.kind x.birth x.fields) (sym (new.only b p at none).1) (
        omega (arith, next, below),
        (λ body. absurd (body kind)),
        subst (λ k. AreFields h k o.birth o.fields) (sym kind) (body_fields values),
      ))
      (λ b c p q at at' none none' body body' one. (new.only b p at none).0 ∙ sym (new.only c q at' none').0)

  pub Shows-new_body : h.next ≡ g.next → o.kind ≡ BodyKind → (names : List (List ℕ)) (s : Store) → Shows g names s
      → AreWithin h names s o.fields → Shows h names s
  Shows-new_body next kind names s shows within =
      let same : s ++ [] ≡ s = append-nil s in
      subst (Shows h names) same
      (Shows-extended g h new.extends sound names s [] shows (next ∙ (shows.next ∙ ap length (sym same)))
      (λ b p at none body. absurd (body (ap (λ (x : Standing). x.kind) (new.only b p at none).1 ∙ kind)))
      (λ b p at none text. subst (λ (x : Standing). AreWithin h names (s ++ []) x.fields) (sym (new.only b p at none).1)
      (subst (λ t. AreWithin h names t o.fields) (sym same) within)))

-- a new array of values
module _ (g h : Heap) (a : ℕ) (fields : List Word)
    (new : NewObject g h a (record { kind = ArrayKind; birth = g.next; fields = fields })) (sound : IsSound g)
    (next : h.next ≡ g.next + 1) (values : AreValues g fields) where
  pub IsSound-new_array : IsSound h
  IsSound-new_array = IsSound-new g h a _ new sound next refl
      (array_fields (AreValues-kept g h (Keeps-Extends g h new.extends) fields values))

  pub Shows-new_array : (names : List (List ℕ)) (s : Store) → Shows g names s → AreWithin g names s fields
      → Shows h names (s ++ array_object (map (value_of (birth_at g) names) fields) ∷ [])
  Shows-new_array names s shows within =
      let object = array_object (map (value_of (birth_at g) names) fields) in
      Shows-new g h a _ new sound next refl names s object shows
      (shown_array (sym (values_of-kept g h (Keeps-Extends g h new.extends) names fields
      (known_values g fields values))))
      (λ _. AreWithin-kept g h (Keeps-Extends g h new.extends) names s (s ++ object ∷ [])
      (longer s (object ∷ [])) fields (known_values g fields values) within)

-- a new dictionary at a with its body at b, whatever order they were made and filled in
module _ (g h : Heap) (extends : Extends g h) (a b : ℕ) (d body : Standing) (sound : IsSound g)
    (only : (c : ℕ) (p : Standing) → object_at h c ≡ Some p → object_at g c ≡ None
    → ((c ≡ a) × (p ≡ d)) ⊎ ((c ≡ b) × (p ≡ body)))
    (next : h.next ≡ g.next + 1) (birth : d.birth ≡ g.next) (birth' : body.birth ≡ g.next) (kind : d.kind
    ≡ DictionaryKind) (kind' : body.kind ≡ BodyKind)
    (fields : AreFields h DictionaryKind d.birth d.fields) (values : AreValues h body.fields) where
  dictionary_is_no_body : d.kind ≢ BodyKind
  dictionary_is_no_body k = let clash : DictionaryKind ≡ BodyKind = sym kind ∙ k in cc

  -- of the two only the dictionary isn't a body
  the_dictionary : (c : ℕ) (p : Standing) → object_at h c ≡ Some p → object_at g c ≡ None → p.kind ≢ BodyKind
      → (c ≡ a) × (p ≡ d)
  the_dictionary c p at none no_body = elim (only c p at none) [
    | inl is ↦ is
    | inr (place, is) ↦ absurd (no_body (ap (λ (x : Standing). x.kind) is ∙ kind'))
  ]

  Fits : Standing → Type 0
  Fits p = (p.birth < h.next) × (p.kind ≢ BodyKind → g.next ≤ p.birth) × AreFields h p.kind p.birth p.fields

  pub IsSound-new_dictionary : IsSound h
  unfolding Fits
  IsSound-new_dictionary =
      IsSound-extended g h extends sound (omega (arith, next))
      (λ c p at none. elim (only c p at none) [
        | inl (place, is) ↦ subst Fits (sym is) (
          omega (arith, next, birth),
          (λ _. omega (arith, birth)),
          subst (λ k. AreFields h k d.birth d.fields) (sym kind) fields,
        )
        | inr (place, is) ↦ subst Fits (sym is) (
          omega (arith, next, birth'),
          (λ no. absurd (no kind')),
          subst (λ k. AreFields h k body.birth body.fields) (sym kind') (body_fields values),
        )
      ])
      (λ c e p q at at' none none' no no' one. (the_dictionary c p at none no).0
      ∙ sym (the_dictionary e q at' none' no').0)

  pub Shows-new_dictionary : (names : List (List ℕ)) (s : Store) (object : DictionaryValue) → Shows g names s
      → ShowsDictionary h names d.birth d.fields object
      → AreWithin h names (s ++ dictionary_object object ∷ []) d.fields
      → AreWithin h names (s ++ dictionary_object object ∷ []) body.fields
      → Shows h names (s ++ dictionary_object object ∷ [])
  Shows-new_dictionary names s object shows is within within' =
      let count : length s ≡ d.birth = sym shows.next ∙ sym birth in
      let t : Store = s ++ dictionary_object object ∷ [] in
      Shows-extended g h extends sound names s (dictionary_object object ∷ []) shows (next
      ∙ (ap (λ n. n + 1) shows.next ∙ sym (length-append s (dictionary_object object ∷ []))))
      (λ c p at none no. subst (λ (x : Standing). IsObject h names t x.kind x.birth x.fields)
      (sym (the_dictionary c p at none no).1)
      (record {
        object = dictionary_object object;
        there = ap (slice_get t) (sym count) ∙ slice_get-append_end s [] (dictionary_object object);
        shown = subst (λ k. IsShown h names k d.birth d.fields (dictionary_object object)) (sym kind)
            (shown_dictionary is);
      }))
      (λ c p at none text. elim (only c p at none) [
        | inl (place, is_d) ↦ subst (λ (x : Standing). AreWithin h names t x.fields) (sym is_d) within
        | inr (place, is_body) ↦ subst (λ (x : Standing). AreWithin h names t x.fields) (sym is_body) within'
      ])
