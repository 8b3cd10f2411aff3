-- How many words the objects need that are reached, where they stand in a memory.
use Rattle.std.proofs.Common.{◌≡◌, ◌≢◌, ℕ, zero, suc, ◌+◌, ◌^◌, ◌<◌, ◌≤◌, Bool, true, false, IsTrue, List, [], ◌∷◌, length, Some, Option, slice_get, refl, sym, ap, ◌∙◌, subst, subst₂, arith}
use Rattle.std.specs.Prelude.{if◌then◌else◌}
use Rattle.std.proofs.lemmas.List.{length-map}
use Rattle.ps_language.specs.declared.kinds.Kind.{Kind}
use Rattle.ps_language.specs.declared.kinds.Kind.TheVariants.{Dictionary as DictionaryKind, Body as BodyKind}
use Rattle.ps_language.specs.Value.{Dictionary as DictionaryValue, Object, dictionary_object, Store}
use Rattle.ps_language.specs.Objects as objects
use Rattle.ps_language.specs.Live.{words_reached}
use Rattle.ps_word.specs.declared.words.Word.{Word}
use Rattle.ps_word.specs.Format.{IsAddress}
use Rattle.ps_mem.specs.Heap.{Heap, Standing, IsKind, object_at, birth_at, size_of, words_below, standing_words}
use Rattle.ps_mem.specs.Meaning.{value_of}
use Rattle.ps_mem.specs.References.{words_for}
use Rattle.ps_mem.specs.Shows.{ShowsDictionary, IsShown, shown_array, shown_text, shown_dictionary, shown_lock, shown_condition, Shows}
use Rattle.ps_mem.specs.Stands.{IsAddressed, IsStanding}
use Rattle.ps_mem.specs.Strings.{words_from}
use Rattle.ps_mem.proofs.LessWords.{without, there, words_less}
use Rattle.ps_mem.proofs.StandsLemmas.{address-below}

-- ---- the words of one birth number

-- an object of this birth number has so many words below an address, or two have
data HasWords (at : ℕ → Option Standing) (n birth words : ℕ) : Type 0 where
  by_one : (a : ℕ) (o : Standing) → at a ≡ Some o → a < n → o.birth ≡ birth
      → 2 + length o.fields ≡ words → HasWords at n birth words
  by_two : (a b : ℕ) (o p : Standing) → at a ≡ Some o → at b ≡ Some p → a ≢ b → a < n → b < n
      → o.birth ≡ birth → p.birth ≡ birth
      → 2 + length o.fields + (2 + length p.fields) ≡ words → HasWords at n birth words

-- what is left without them: so many words less, and all of other birth numbers
record IsTaken (at : ℕ → Option Standing) (n birth words : ℕ) : Type 0 where
  left : ℕ → Option Standing
  less : words_below left n + words ≡ words_below at n
  others : (c : ℕ) (q : Standing) → at c ≡ Some q → q.birth ≢ birth → left c ≡ Some q

module _ (at : ℕ → Option Standing) (n birth : ℕ) where
  -- what has another birth number stands elsewhere
  apart : (a c : ℕ) (o q : Standing) → at a ≡ Some o → o.birth ≡ birth → at c ≡ Some q
      → q.birth ≢ birth → a ≢ c
  apart a c o q stands born is other same =
      let one : Some o ≡ Some q = sym stands ∙ (ap at same ∙ is) in
      let equal : o ≡ q = cc in
      other (sym (ap (λ (s : Standing). s.birth) equal) ∙ born)

  taken : {words : ℕ} → HasWords at n birth words → IsTaken at n birth words
  taken (by_one a o stands low born size) =
      let less = words_less at a n low in
      let sized : size_of (at a) ≡ 2 + length o.fields = ap size_of stands in
      record {
        left = without at a;
        less = omega (arith, less, sized, size);
        others = λ c q is other. there at a c (apart a c o q stands born is other) ∙ is;
      }
  taken (by_two a b o p stands beside differ low below born same size) =
      let less = words_less at a n low in
      let fewer = words_less (without at a) b n below in
      let sized : size_of (at a) ≡ 2 + length o.fields = ap size_of stands in
      let second : size_of (without at a b) ≡ 2 + length p.fields =
      ap size_of (there at a b differ ∙ beside) in
      record {
        left = without (without at a) b;
        less = omega (arith, less, fewer, sized, second, size);
        others = λ c q is other. there (without at a) b c (apart b c p q beside same is other)
            ∙ (there at a c (apart a c o q stands born is other) ∙ is);
      }

  -- those of other birth numbers have their words still
  still : (left : ℕ → Option Standing)
      → ((c : ℕ) (q : Standing) → at c ≡ Some q → q.birth ≢ birth → left c ≡ Some q)
      → (other words : ℕ) → other ≢ birth → HasWords at n other words
      → HasWords left n other words
  still left others other words ne (by_one a o stands low born size) =
      by_one a o (others a o stands (λ e. ne (sym born ∙ e))) low born size
  still left others other words ne (by_two a b o p stands beside differ low below born same size) =
      by_two a b o p (others a o stands (λ e. ne (sym born ∙ e)))
      (others b p beside (λ e. ne (sym same ∙ e))) differ low below born same size

-- ---- the words of all that are reached

module _ (reached : ℕ → Bool) (n : ℕ) where
  -- of objects whose first has this birth number
  abbrev AreHeld : (at : ℕ → Option Standing) → (first : ℕ) → Store → Type 0
  AreHeld at first store = (place birth : ℕ) (object : Object) → slice_get store place ≡ Some object
      → birth ≡ first + place → IsTrue (reached birth)
      → HasWords at n birth (objects.size_of object)

  words-held : (store : Store) (first : ℕ) (at : ℕ → Option Standing) → AreHeld at first store
      → words_reached reached first store ≤ words_below at n
  unfolding words_reached
  words-held [] first at held = omega arith
  words-held (object ∷ store) first at held = elim (reached first) as
      (λ r. reached first ≡ r
      → (if r then objects.size_of object else 0) + words_reached reached (suc first) store
      ≤ words_below at n) [
        | true ↦ λ is.
            let one = taken at n first (held 0 first object refl (omega arith) is) in
            let rest = words-held store (suc first) one.left (λ place birth other found e r.
            still at n first one.left one.others birth (objects.size_of other)
            (λ same. omega arith) (held (suc place) birth other found (omega arith) r)) in
            let less = one.less in
            omega (arith, rest, less)
        | false ↦ λ is.
            let rest = words-held store (suc first) at (λ place birth other found e r.
            held (suc place) birth other found (omega arith) r) in
            omega (arith, rest)
      ] refl

-- ---- the words of what is shown

length-words_from : (n : ℕ) (bytes : List ℕ) → length (words_from n bytes) ≡ n
unfolding words_from
length-words_from zero bytes = refl
length-words_from (suc n) bytes = ap suc (length-words_from n _)

module _ (h : Heap) (names : List (List ℕ)) (addressed : IsAddressed h) where
  low : (a : ℕ) (o : Standing) → object_at h a ≡ Some o → IsAddress a
  low = address-below h addressed

  dictionary-words : (a birth : ℕ) (fields : List Word) (d : DictionaryValue)
      → object_at h a ≡ Some (record { kind = DictionaryKind; birth = birth; fields = fields })
      → ShowsDictionary h names birth fields d
      → HasWords (object_at h) (2 ^ 24) birth (objects.size_of (dictionary_object d))
  dictionary-words a birth fields d stands s =
      let four : length fields ≡ 4 = ap length s.shape.are in
      let room = s.shape.room in
      let capacity = s.capacity in
      by_two a s.shape.body _ _ stands s.shape.stands
      (λ e. let other : BodyKind ≡ DictionaryKind = subst (IsKind DictionaryKind)
      (sym stands ∙ (ap (object_at h) e ∙ s.shape.stands)) refl in cc)
      (low a _ stands) (low s.shape.body _ s.shape.stands) refl refl (omega arith)

  -- an object that stands has the words of what it shows
  shown-words : {kind : Kind} {birth : ℕ} {fields : List Word} {object : Object} (a : ℕ)
      → object_at h a ≡ Some (record { kind = kind; birth = birth; fields = fields })
      → IsShown h names kind birth fields object
      → HasWords (object_at h) (2 ^ 24) birth (objects.size_of object)
  shown-words a stands (shown_array {fields = fields} e) =
      by_one a _ stands (low a _ stands) refl
      (ap (λ n. 2 + n) (sym (ap length e ∙ length-map fields (value_of (birth_at h) names))))
  shown-words a stands (shown_text {bytes = bytes} are e) =
      by_one a _ stands (low a _ stands) refl
      (ap (λ n. 2 + n) (ap length e ∙ length-words_from (words_for (length bytes)) bytes))
  shown-words a stands (shown_dictionary {birth = birth} {fields = fields} {d = d} s) =
      dictionary-words a birth fields d stands s
  shown-words a stands (shown_lock is) = by_one a _ stands (low a _ stands) refl refl
  shown-words a stands shown_condition = by_one a _ stands (low a _ stands) refl refl

  -- where what is reached stands, its words are among those that stand
  pub reached-words : (store : Store) → Shows h names store → (reached : ℕ → Bool)
      → ((birth : ℕ) → IsTrue (reached birth) → IsStanding h birth)
      → words_reached reached 0 store ≤ standing_words h
  unfolding standing_words object_at
  reached-words store shows reached stands =
      words-held reached (2 ^ 24) store 0 (object_at h) (λ place birth object found e r.
      let s = stands birth r in
      let shown = shows.objects s.address s.object s.at s.whole in
      let at : birth ≡ place = omega arith in
      let one : Some shown.object ≡ Some object =
      sym shown.there ∙ (ap (slice_get store) (s.born ∙ at) ∙ found) in
      let same : shown.object ≡ object = cc in
      subst₂ (λ b o. HasWords (object_at h) (2 ^ 24) b (objects.size_of o)) s.born same
      (shown-words s.address s.at shown.shown))
