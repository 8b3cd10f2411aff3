-- What a store, a new object and a new body keep; and that words keep their meaning where what
-- stands is kept.
use Rattle.std.proofs.Common.{◌≡◌, ◌≢◌, ℕ, ◌+◌, ◌≤◌, List, [], ◌∷◌, length, map, take, Some, None, refl, sym, ap, arith, ◌∙◌, subst, inl, inr, ◌⊎◌}
use Rattle.std.proofs.lemmas.Bool.Decides.{eqb_tells}
use Rattle.ps_language.specs.declared.kinds.Kind.{Kind}
use Rattle.ps_language.specs.Value.{Store, array_value, string_value, dictionary_value, lock_value, condition_value}
use Rattle.ps_language.specs.Access.{splice, bytes}
use Rattle.ps_word.specs.declared.words.Word.{Word}
use Rattle.ps_word.specs.declared.values.Content.{Content}
use Rattle.ps_word.specs.declared.values.Content.TheVariants.{Null, Integer, Boolean, Mark, Name, Operator, Array, Text, Dictionary, Lock, Condition, Body}
use Rattle.ps_word.specs.Format.{content_in, executable_in}
use Rattle.ps_mem.specs.Heap.{Heap, Standing, object_at, birth_of, birth_at, stored, made, made_body}
use Rattle.ps_mem.specs.References.{StandsAs, IsKnown, IsKnownContent, AreKnown}
use Rattle.ps_mem.specs.Meaning.{value_of, what_of}
use Rattle.std.specs.List.{AllByRecursion}
use Rattle.ps_mem.specs.Index.{hash_of_content, hash_of, hashes_of, index_of, index_word, index_words, pairs_of_words}
use Rattle.ps_mem.specs.Keeps.{StandsStill, Keeps, KeepsBirth, Extends}
use Rattle.ps_mem.specs.Shows.{IsValue, AreValues, IsWithin, IsWithinContent, AreWithin}
use Rattle.ps_mem.proofs.Lists.{all_map, all_take, length-splice}
use Rattle.ps_mem.proofs.HeapLemmas.{object_at-stored_same, object_at-stored_other, object_at-made_other, object_at-made_body_other, space-stored, space-made, space-made_body}

-- ---- what keeps

pub Keeps-Extends : (g h : Heap) → Extends g h → Keeps g h
Keeps-Extends g h e = record {
  stays = λ a o at. record
      { now = o; at = e.same a o at; kind = refl; birth = refl; count = refl };
  space = e.space;
}

pub Extends-same : (h : Heap) → Extends h h
Extends-same h = record { same = λ a o at. at; space = refl }

pub Extends-then : (f g h : Heap) → Extends f g → Extends g h → Extends f h
Extends-then f g h e k =
    record { same = λ a o at. k.same a o (e.same a o at); space = k.space ∙ e.space }

pub Keeps-then : (f g h : Heap) → Keeps f g → Keeps g h → Keeps f h
Keeps-then f g h first second = record {
  stays = λ a o at.
      let p = first.stays a o at in
      let q = second.stays a p.now p.at in
      record {
        now = q.now;
        at = q.at;
        kind = q.kind ∙ p.kind;
        birth = q.birth ∙ p.birth;
        count =
            q.count ∙ p.count;
      };
  space = second.space ∙ first.space;
}

free_apart : (h : Heap) (a b : ℕ) (o : Standing) → object_at h a ≡ None → object_at h b ≡ Some o
    → a ≢ b
free_apart h a b o free at same = let clash : None ≡ Some o = sym free
    ∙ (ap (object_at h) same ∙ at) in cc

pub Extends-made : (h : Heap) (a : ℕ) (kind : Kind) (n : ℕ) → object_at h a ≡ None
    → Extends h (made h a kind n)
Extends-made h a kind n free =
    record {
      same = λ b o at. object_at-made_other h a kind n b (free_apart h a b o free at) ∙ at;
      space = space-made h a kind n;
    }

pub Extends-made_body : (h : Heap) (a birth n : ℕ) → object_at h a ≡ None
    → Extends h (made_body h a birth n)
Extends-made_body h a birth n free =
    record {
      same = λ b o at. object_at-made_body_other h a birth n b (free_apart h a b o free at)
          ∙ at;
      space = space-made_body h a birth n;
    }

-- a store into what is new to an older heap leaves the older heap
pub Extends-stored : (g h : Heap) (a place : ℕ) (items : List Word) → Extends g h
    → object_at g a ≡ None → Extends g (stored h a place items)
Extends-stored g h a place items e free =
    record {
      same = λ b o at. object_at-stored_other h a place items b (free_apart g a b o free at)
          ∙ e.same b o at;
      space = space-stored h a place items ∙ e.space;
    }

module _ (h : Heap) (a place : ℕ) (items : List Word) (o : Standing) (at : object_at h a ≡ Some o)
    (fits : place + length items ≤ length o.fields) where
  -- what stands after a store stood before, and only the object that was stored into has changed
  pub stored_from : (b : ℕ) (p : Standing) → object_at (stored h a place items) b ≡ Some p →
      ((a ≡ b) × (p ≡ record o { fields = splice o.fields place items }))
      ⊎ ((a ≢ b) × (object_at h b ≡ Some p))
  stored_from b p e = elim (eqb_tells a b) [
    | inl (_, same) ↦
        let there : object_at (stored h a place items) b ≡ Some
        (record o { fields = splice o.fields place items }) =
        ap (object_at (stored h a place items)) (sym same)
        ∙ object_at-stored_same h a place items o at in
        inl (same, cc)
    | inr (_, other) ↦ inr (other, sym (object_at-stored_other h a place items b other) ∙ e)
  ]

  still : (b : ℕ) (p : Standing) → object_at h b ≡ Some p → StandsStill (stored h a place items) b p
  still b p there = elim (eqb_tells a b) [
    | inl (_, same) ↦
        let one : Some o ≡ Some p = sym at ∙ (ap (object_at h) same ∙ there) in
        let is : o ≡ p = cc in
        record {
          now = record o { fields = splice o.fields place items };
          at = ap (object_at (stored h a place items)) (sym same)
              ∙ object_at-stored_same h a place items o at;
          kind = ap (λ (x : Standing). x.kind) is;
          birth = ap (λ (x : Standing). x.birth) is;
          count = length-splice o.fields place items fits
              ∙ ap (λ (x : Standing). length x.fields) is;
        }
    | inr (_, other) ↦ record {
      now = p;
      at = object_at-stored_other h a place items b other ∙ there;
      kind = refl;
      birth =
          refl;
      count = refl;
    }
  ]

  pub Keeps-stored : Keeps h (stored h a place items)
  Keeps-stored = record { stays = still; space = space-stored h a place items }

  pub KeepsBirth-stored : (birth : ℕ) → o.birth ≢ birth
      → KeepsBirth h (stored h a place items) birth
  KeepsBirth-stored birth other = record {
    same = λ b p there is.
        object_at-stored_other h a place items b (λ same.
        let one : Some o ≡ Some p = sym at ∙ (ap (object_at h) same ∙ there) in
        let same_object : o ≡ p = cc in
        other (ap (λ (x : Standing). x.birth) same_object ∙ is)) ∙ there;
  }

-- ---- meaning

module _ (g h : Heap) (keeps : Keeps g h) where
  pub birth_at-kept : (a : ℕ) (o : Standing) → object_at g a ≡ Some o → birth_at h a ≡ birth_at g a
  unfolding birth_at
  birth_at-kept a o at =
      let s = keeps.stays a o at in
      ap birth_of s.at ∙ (s.birth ∙ sym (ap birth_of at))

  pub stands-kept : (kind : Kind) (a n : ℕ) → StandsAs g kind a n → StandsAs h kind a n
  stands-kept kind a n s =
      let t = keeps.stays a s.object s.at in
      let fits = s.fits in
      let count = t.count in
      record {
        object = t.now;
        at = t.at;
        kind_is = t.kind ∙ s.kind_is;
        fits =
            omega (arith, fits, count);
      }

  known_content-kept : (content : Content) → IsKnownContent g content → IsKnownContent h content
  known_content-kept Null k = tt
  known_content-kept (Integer _) k = tt
  known_content-kept (Boolean _) k = tt
  known_content-kept Mark k = tt
  known_content-kept (Name _) k = tt
  known_content-kept (Operator _) k = tt
  known_content-kept (Array p) k = stands-kept _ p.address _ k
  known_content-kept (Text p) k = stands-kept _ p.address _ k
  known_content-kept (Dictionary a) k = stands-kept _ a _ k
  known_content-kept (Lock a) k = stands-kept _ a _ k
  known_content-kept (Condition a) k = stands-kept _ a _ k
  known_content-kept (Body a) k = stands-kept _ a _ k

  pub IsKnown-kept : (w : Word) → IsKnown g w → IsKnown h w
  unfolding IsKnown
  IsKnown-kept w k = known_content-kept (content_in w.0) k

  pub AreKnown-kept : (ws : List Word) → AreKnown g ws → AreKnown h ws
  AreKnown-kept ws k = all_map (IsKnown g) (IsKnown h) IsKnown-kept ws k

  pub IsValue-kept : (w : Word) → IsValue g w → IsValue h w
  IsValue-kept w v = record { word = v.word; known = IsKnown-kept w v.known; visible = v.visible }

  pub AreValues-kept : (ws : List Word) → AreValues g ws → AreValues h ws
  AreValues-kept ws v = all_map (IsValue g) (IsValue h) IsValue-kept ws v

  birth_known : (kind : Kind) (a n : ℕ) → StandsAs g kind a n → birth_at h a ≡ birth_at g a
  birth_known kind a n s = birth_at-kept a s.object s.at

  what_of-kept : (names : List (List ℕ)) (content : Content) → IsKnownContent g content
      → what_of (birth_at h) names content ≡ what_of (birth_at g) names content
  what_of-kept names Null k = refl
  what_of-kept names (Integer _) k = refl
  what_of-kept names (Boolean _) k = refl
  what_of-kept names Mark k = refl
  what_of-kept names (Name _) k = refl
  what_of-kept names (Operator _) k = refl
  what_of-kept names (Array p) k =
      ap (λ b. array_value (record
      { birth = b; offset = p.offset; count = p.length; access = p.access }))
      (birth_known _ p.address _ k)
  what_of-kept names (Text p) k =
      ap (λ b. string_value (record
      { birth = b; offset = p.offset; count = p.length; access = p.access }))
      (birth_known _ p.address _ k)
  what_of-kept names (Dictionary a) k = ap dictionary_value (birth_known _ a _ k)
  what_of-kept names (Lock a) k = ap lock_value (birth_known _ a _ k)
  what_of-kept names (Condition a) k = ap condition_value (birth_known _ a _ k)
  what_of-kept names (Body a) k = refl

  pub value_of-kept : (names : List (List ℕ)) (w : Word) → IsKnown g w
      → value_of (birth_at h) names w ≡ value_of (birth_at g) names w
  unfolding value_of IsKnown
  value_of-kept names w k =
      ap (λ what. record { what = what; executable = executable_in w.0 })
      (what_of-kept names (content_in w.0) k)

  hash_of_content-kept : (content : Content) → IsKnownContent g content
      → hash_of_content (birth_at h) content ≡ hash_of_content (birth_at g) content
  hash_of_content-kept Null k = refl
  hash_of_content-kept (Integer _) k = refl
  hash_of_content-kept (Boolean _) k = refl
  hash_of_content-kept Mark k = refl
  hash_of_content-kept (Name _) k = refl
  hash_of_content-kept (Operator _) k = refl
  hash_of_content-kept (Array p) k = ap (λ b. b + p.offset + p.length) (birth_known _ p.address _ k)
  hash_of_content-kept (Text p) k = birth_known _ p.address _ k
  hash_of_content-kept (Dictionary a) k = birth_known _ a _ k
  hash_of_content-kept (Lock a) k = birth_known _ a _ k
  hash_of_content-kept (Condition a) k = birth_known _ a _ k
  hash_of_content-kept (Body a) k = birth_known _ a _ k

  -- a key that names what stands keeps its hash number
  pub hash_of-kept : (w : Word) → IsKnown g w → hash_of (birth_at h) w ≡ hash_of (birth_at g) w
  unfolding hash_of IsKnown
  hash_of-kept w k = hash_of_content-kept (content_in w.0) k

  hashes_of-kept : (pairs : List (Word × Word))
      → AllByRecursion (λ (pair : Word × Word). IsKnown g pair.0) pairs
      → hashes_of (birth_at h) pairs ≡ hashes_of (birth_at g) pairs
  hashes_of-kept [] k = refl
  hashes_of-kept (pair ∷ pairs) k = λ i. hash_of-kept pair.0 k.0 i ∷ hashes_of-kept pairs k.1 i

  -- and so the index stays
  pub index_words-kept : (capacity : ℕ) (pairs : List (Word × Word))
      → AllByRecursion (λ (pair : Word × Word). IsKnown g pair.0) pairs
      → index_words (birth_at h) capacity pairs ≡ index_words (birth_at g) capacity pairs
  unfolding index_words
  index_words-kept capacity pairs k =
      ap (λ hashes. map index_word (index_of capacity hashes)) (hashes_of-kept pairs k)

  pub values_of-kept : (names : List (List ℕ)) (ws : List Word) → AreKnown g ws
      → map (value_of (birth_at h) names) ws ≡ map (value_of (birth_at g) names) ws
  values_of-kept names [] k = refl
  values_of-kept names (w ∷ ws) k = λ i. value_of-kept names w k.0 i ∷ values_of-kept names ws k.1 i

  module _ (names : List (List ℕ)) (s t : Store)
      (lengths : (birth : ℕ) → length (bytes s birth) ≤ length (bytes t birth)) where
    within_content-kept : (content : Content) → IsKnownContent g content
        → IsWithinContent (birth_at g) names s content
        → IsWithinContent (birth_at h) names t content
    within_content-kept Null k w = tt
    within_content-kept (Integer _) k w = tt
    within_content-kept (Boolean _) k w = tt
    within_content-kept Mark k w = tt
    within_content-kept (Name _) k w = w
    within_content-kept (Operator _) k w = tt
    within_content-kept (Array p) k w = tt
    within_content-kept (Text p) k w =
        let more = lengths (birth_at g p.address) in
        subst (λ b. p.offset + p.length ≤ length (bytes t b)) (sym (birth_known _ p.address _ k))
        (omega (arith, more, w))
    within_content-kept (Dictionary a) k w = tt
    within_content-kept (Lock a) k w = tt
    within_content-kept (Condition a) k w = tt
    within_content-kept (Body a) k w = tt

    pub IsWithin-kept : (w : Word) → IsKnown g w → IsWithin (birth_at g) names s w
        → IsWithin (birth_at h) names t w
    unfolding IsWithin IsKnown
    IsWithin-kept w k v = within_content-kept (content_in w.0) k v

    pub AreWithin-kept : (ws : List Word) → AreKnown g ws → AreWithin g names s ws
        → AreWithin h names t ws
    AreWithin-kept [] k v = tt
    AreWithin-kept (w ∷ ws) k v = (IsWithin-kept w k.0 v.0, AreWithin-kept ws k.1 v.1)

pub known_values : (h : Heap) (ws : List Word) → AreValues h ws → AreKnown h ws
known_values h ws v = all_map (IsValue h) (IsKnown h) (λ w x. x.known) ws v

-- the keys of pairs of words that name what stands do so
pub known_keys : (h : Heap) (ws : List Word) → AreKnown h ws
    → AllByRecursion (λ (pair : Word × Word). IsKnown h pair.0) (pairs_of_words ws)
unfolding pairs_of_words
known_keys h [] k = tt
known_keys h (a ∷ []) k = tt
known_keys h (a ∷ b ∷ ws) k = (k.0, known_keys h ws k.1.1)

pub known_keys-first : (h : Heap) (n : ℕ) (ws : List Word) → AreKnown h ws
    → AllByRecursion (λ (pair : Word × Word). IsKnown h pair.0) (take n (pairs_of_words ws))
known_keys-first h n ws k =
    all_take (λ (pair : Word × Word). IsKnown h pair.0) n (pairs_of_words ws) (known_keys h ws k)
