-- Where nothing stands but what the roots reach, the words that stand are those of what lives.
use Rattle.std.proofs.Common.{◌≡◌, ◌≢◌, ℕ, zero, suc, ◌+◌, ◌-◌, ◌<◌, ◌^◌, Bool, true, false, IsTrue, List, [], ◌∷◌}
use Rattle.std.proofs.Common.{length, drop, Option, Some, None, slice_get, refl, sym, ap, ◌∙◌, subst, subst₂, inl, inr}
use Rattle.std.proofs.Common.{◌⊎◌, arith}
use Rattle.std.specs.Prelude.{◌==◌, ◌&&◌, ◌||◌}
use Rattle.std.proofs.lemmas.Bool.Decides.{eqb_tells}
use native.Mathlib.Decide.{ℕ_discrete}
use Rattle.std.proofs.lemmas.List.{length-map}
use Rattle.ps_language.specs.declared.kinds.Kind.{Kind}
use Rattle.ps_language.specs.declared.kinds.Kind.TheVariants as kinds
use Rattle.ps_language.specs.Contexts.{context_at}
use Rattle.ps_language.specs.Live.{IsReachable, Live}
use Rattle.ps_language.specs.Objects as objects
use Rattle.ps_language.specs.Value.{Dictionary as DictionaryValue, Object, dictionary_object}
use Rattle.ps_language.specs.World.{Context, World}
use Rattle.ps_language.specs.Worlds.{system_value, user_value}
use Rattle.ps_word.specs.declared.words.Word.{Word}
use Rattle.ps_word.specs.declared.values.Content.TheVariants.{Body}
use Rattle.ps_word.specs.declared.values.Value.{Value}
use Rattle.ps_word.specs.Format.{value_in}
use Rattle.ps_mem.specs.Heap.{Heap, Standing, IsKind, object_at, birth_at, standing_words}
use Rattle.ps_mem.specs.Meaning.{value_of}
use Rattle.ps_mem.specs.References.{words_for}
use Rattle.ps_mem.specs.Shows.{DictionaryFields, ShowsDictionary, IsShown, shown_array, shown_text, shown_dictionary}
use Rattle.ps_mem.specs.Shows.{shown_lock, shown_condition}
use Rattle.ps_mem.specs.Stands.{IsAddressed, IsStanding}
use Rattle.ps_mem.specs.Strings.{words_from}
use Rattle.ps_mem.proofs.StandsLemmas.{address-below}
use Rattle.ps_ctx_table.specs.Desks.{Desk, IsWorld, IsSteady}
use Rattle.ps_ctx_table.proofs.Reached.{reachable-stands}
use Rattle.ps_gc_roots.specs.Roots.{roots_in}
use Rattle.ps_core_laws.specs.Reached.{AreReached}
use Rattle.ps_gc_roots.proofs.Alive.{IsAlive, IsOwned, reached-alive}
use Rattle.ps_gc_roots.proofs.Named.{kind_cases}
use Rattle.ps_gc_roots.proofs.Counted.{HasJust, just_one, just_two, AreJust, words-just}

length-words_from : (n : ℕ) (bytes : List ℕ) → length (words_from n bytes) ≡ n
unfolding words_from
length-words_from zero bytes = refl
length-words_from (suc n) bytes = ap suc (length-words_from n _)

-- ---- whether an object of a birth number stands

is_whole : Kind → Bool
is_whole kinds.Body = false
is_whole _ = true

is_of : (birth : ℕ) → Option Standing → Bool
is_of birth None = false
is_of birth (Some o) = (o.birth == birth) && is_whole o.kind

stands_below : (ℕ → Option Standing) → (n birth : ℕ) → Bool
stands_below at zero birth = false
stands_below at (suc n) birth = is_of birth (at n) || stands_below at n birth

either : (a b : Bool) → IsTrue (a || b) → IsTrue a ⊎ IsTrue b
either true b h = inl refl
either false b h = inr h

first_of_two : (a b : Bool) → IsTrue a → IsTrue (a || b)
first_of_two true b h = refl
first_of_two false b h = absurd (cc)

second_of_two : (a b : Bool) → IsTrue b → IsTrue (a || b)
second_of_two true b h = refl
second_of_two false b h = h

both_true : (a b : Bool) → IsTrue (a && b) → IsTrue a × IsTrue b
both_true true b h = (refl, h)
both_true false b h = absurd (cc)

whole_is : (kind : Kind) → IsTrue (is_whole kind) → kind ≢ kinds.Body
unfolding is_whole
whole_is kinds.Body h = absurd (cc)
whole_is _ h = λ e. cc

is_whole_so : (kind : Kind) → kind ≢ kinds.Body → IsTrue (is_whole kind)
unfolding is_whole
is_whole_so kinds.Body h = absurd (h refl)
is_whole_so _ h = refl

equal_is : (m n : ℕ) → IsTrue (m == n) → m ≡ n
equal_is m n h = grind (arith, eqb_tells m n, h)

is_equal : (m n : ℕ) → m ≡ n → IsTrue (m == n)
is_equal m n e = grind (arith, eqb_tells m n, e)

module _ (h : Heap) where
  stands_at : (birth c : ℕ) (x : Option Standing) → object_at h c ≡ x → IsTrue (is_of birth x)
      → IsStanding h birth
  unfolding is_of
  stands_at birth c None at is = absurd (cc)
  stands_at birth c (Some o) at is =
      let two = both_true (o.birth == birth) (is_whole o.kind) is in
      record {
        address = c;
        object = o;
        at = at;
        whole = whole_is o.kind two.1;
        born = equal_is o.birth birth two.0;
      }

  found : (n birth : ℕ) → IsTrue (stands_below (object_at h) n birth) → IsStanding h birth
  unfolding stands_below
  found zero birth is = absurd (cc)
  found (suc n) birth is =
      elim (either (is_of birth (object_at h n)) (stands_below (object_at h) n birth) is) [
        | inl here ↦ stands_at birth n (object_at h n) refl here
        | inr below ↦ found n birth below
      ]

  is_there : (birth : ℕ) (o : Standing) → o.birth ≡ birth → o.kind ≢ kinds.Body
      → IsTrue (is_of birth (Some o))
  unfolding is_of
  is_there birth o born whole =
      subst (λ b. IsTrue (b && is_whole o.kind)) (sym (is_equal o.birth birth born))
      (is_whole_so o.kind whole)

  finds : (n birth c : ℕ) (o : Standing) → c < n → object_at h c ≡ Some o → o.birth ≡ birth
      → o.kind ≢ kinds.Body → IsTrue (stands_below (object_at h) n birth)
  unfolding stands_below
  finds zero birth c o low at born whole = absurd (omega (arith, low))
  finds (suc n) birth c o low at born whole = elim (ℕ_discrete c n) [
    | yes e ↦ first_of_two (is_of birth (object_at h n)) _
        (subst (λ x. IsTrue (is_of birth x)) (sym (ap (object_at h) (sym e) ∙ at))
        (is_there birth o born whole))
    | no other ↦ second_of_two (is_of birth (object_at h n)) _
        (finds n birth c o (omega (arith, low, other)) at born whole)
  ]

-- ---- the words of one birth number

module _ (d : Desk) (w : World) (at : IsWorld d w) (steady : IsSteady d)
    (addressed : IsAddressed d.heap) (all : AreReached d.heap (roots_in d.members)) where
  alive : (a : ℕ) (o : Standing) → object_at d.heap a ≡ Some o → IsAlive d w at steady addressed a
  alive a o stands = reached-alive d w at steady addressed a
      (all a (λ none. let clash : None ≡ Some o = sym none ∙ stands in cc))

  low : (a : ℕ) (o : Standing) → object_at d.heap a ≡ Some o → a < 2 ^ 24
  low = address-below d.heap addressed

  owned : (a : ℕ) (o : Standing) → object_at d.heap a ≡ Some o → o.kind ≡ kinds.Body
      → IsOwned d w at steady addressed a o.birth
  owned a o stands body = (alive a o stands).owned o stands body

  -- the dictionary that a body is of, by its birth number
  owner-is : (c : ℕ) (q : Standing) → object_at d.heap c ≡ Some q → q.kind ≡ kinds.Body
      → (a : ℕ) (o : Standing) → object_at d.heap a ≡ Some o → o.kind ≢ kinds.Body
      → o.birth ≡ q.birth
      → (own : IsOwned d w at steady addressed c q.birth) × (own.owner ≡ a)
  owner-is c q there body a o stands whole same =
      let own = owned c q there body in
      (own, steady.sound.single own.owner a _ o own.stands stands (λ k. cc) whole (sym same))

  -- ---- by what the object shows

  kind-same : (a b : ℕ) (o p : Standing) → object_at d.heap a ≡ Some o
      → object_at d.heap b ≡ Some p → a ≡ b → o.kind ≡ p.kind
  kind-same a b o p one other same =
      let both : Some o ≡ Some p = sym one ∙ (ap (object_at d.heap) same ∙ other) in
      let equal : o ≡ p = cc in ap (λ (x : Standing). x.kind) equal

  -- no body has the birth number of an object that isn't a dictionary
  only-one : (a : ℕ) (o : Standing) → object_at d.heap a ≡ Some o → o.kind ≢ kinds.Body
      → o.kind ≢ kinds.Dictionary → (c : ℕ) (q : Standing) → object_at d.heap c ≡ Some q
      → q.birth ≡ o.birth → a ≡ c
  only-one a o stands whole plain c q there same = elim (kind_cases q.kind) [
    | inl body ↦
        let own = owner-is c q there body a o stands whole (sym same) in
        absurd (plain (sym (kind-same own.0.owner a _ o own.0.stands stands own.1)))
    | inr other ↦ sym (steady.sound.single c a q o there stands other whole same)
  ]

  -- the body that a dictionary's fields name is one
  body-of : (birth born : ℕ) (one other : List Word) → one ≡ other
      → (s : DictionaryFields d.heap birth one) → (t : DictionaryFields d.heap born other)
      → s.body ≡ t.body
  body-of birth born one other same s t =
      let lists : s.count_word ∷ s.capacity_word ∷ s.access_word ∷ s.body_word ∷ []
      ≡ t.count_word ∷ t.capacity_word ∷ t.access_word ∷ t.body_word ∷ [] =
      sym s.are ∙ (same ∙ t.are) in
      let words : s.body_word ≡ t.body_word = cc in
      let contents : Body s.body ≡ Body t.body =
      ap (λ (v : Value). v.content) (sym s.body_is ∙ (ap (λ (x : Word). value_in x.0) words
      ∙ t.body_is)) in
      cc

  dictionary-just : (a birth : ℕ) (fields : List Word) (dictionary : DictionaryValue)
      → object_at d.heap a ≡ Some
      (record { kind = kinds.Dictionary; birth = birth; fields = fields })
      → ShowsDictionary d.heap d.names birth fields dictionary
      → HasJust (object_at d.heap) (2 ^ 24) birth (objects.size_of (dictionary_object dictionary))
  dictionary-just a birth fields dictionary stands s =
      let four : length fields ≡ 4 = ap length s.shape.are in
      let room = s.shape.room in
      let capacity = s.capacity in
      just_two a s.shape.body _ _ stands s.shape.stands
      (λ e. let other : kinds.Body ≡ kinds.Dictionary = subst (IsKind kinds.Dictionary)
      (sym stands ∙ (ap (object_at d.heap) e ∙ s.shape.stands)) refl in cc)
      (low a _ stands) (low s.shape.body _ s.shape.stands) refl refl
      (λ c q there same. elim (kind_cases q.kind) [
        | inl body ↦
            let own = owner-is c q there body a _ stands (λ k. cc) (sym same) in
            let found : Some (record {
              kind = kinds.Dictionary;
              birth = q.birth;
              fields =
                  own.0.fields;
            }) ≡ Some (record {
              kind = kinds.Dictionary;
              birth = birth;
              fields =
                  fields;
            }) = sym own.0.stands ∙ (ap (object_at d.heap) own.1 ∙ stands) in
            let equal : record {
              kind = kinds.Dictionary;
              birth = q.birth;
              fields =
                  own.0.fields;
            } ≡ record {
              kind = kinds.Dictionary;
              birth = birth;
              fields =
                  fields;
            } = cc in
            let listed : fields ≡ own.0.fields =
            sym (ap (λ (x : Standing). x.fields) equal) in
            inr (body-of birth q.birth fields own.0.fields listed s.shape own.0.shows.shape
            ∙ own.0.body)
        | inr other ↦ inl (sym (steady.sound.single c a q _ there stands other (λ k. cc) same))
      ])
      (omega (arith, four, room, capacity))

  shown-just : {kind : Kind} {birth : ℕ} {fields : List Word} {object : Object} (a : ℕ)
      → object_at d.heap a ≡ Some (record { kind = kind; birth = birth; fields = fields })
      → IsShown d.heap d.names kind birth fields object
      → HasJust (object_at d.heap) (2 ^ 24) birth (objects.size_of object)
  shown-just a stands (shown_array {fields = fields} e) =
      just_one a _ stands (low a _ stands) refl (only-one a _ stands (λ k. cc) (λ k. cc))
      (ap (λ n. 2 + n) (sym (ap length e ∙ length-map fields (value_of (birth_at d.heap) d.names))))
  shown-just a stands (shown_text {bytes = bytes} are e) =
      just_one a _ stands (low a _ stands) refl (only-one a _ stands (λ k. cc) (λ k. cc))
      (ap (λ n. 2 + n) (ap length e ∙ length-words_from (words_for (length bytes)) bytes))
  shown-just a stands (shown_dictionary {birth = birth} {fields = fields} {d = dictionary} s) =
      dictionary-just a birth fields dictionary stands s
  shown-just a stands (shown_lock is) =
      just_one a _ stands (low a _ stands) refl (only-one a _ stands (λ k. cc) (λ k. cc)) refl
  shown-just a stands shown_condition =
      just_one a _ stands (low a _ stands) refl (only-one a _ stands (λ k. cc) (λ k. cc)) refl

  -- ---- all that stand

  abbrev reached : ℕ → Bool
  reached birth = stands_below (object_at d.heap) (2 ^ 24) birth

  standing-of : (c : ℕ) (q : Standing) → object_at d.heap c ≡ Some q → IsTrue (reached q.birth)
  standing-of c q stands = elim (kind_cases q.kind) [
    | inl body ↦
        let own = owned c q stands body in
        finds d.heap (2 ^ 24) q.birth own.owner _ (low own.owner _ own.stands) own.stands refl
        (λ k. cc)
    | inr whole ↦ finds d.heap (2 ^ 24) q.birth c q (low c q stands) stands refl whole
  ]

  just-all : AreJust reached (2 ^ 24) (object_at d.heap) 0 w.store
  just-all = record {
    from = λ c q stands. omega arith;
    within = λ c q stands.
        let below = steady.sound.below c q stands in let next = at.shows.next in
        omega (arith, below, next);
    reached_all = standing-of;
    just = λ place birth object there e r.
        let s = found d.heap (2 ^ 24) birth r in
        let shown = at.shows.objects s.address s.object s.at s.whole in
        let placed : birth ≡ place = omega arith in
        let one : Some shown.object ≡ Some object =
        sym shown.there ∙ (ap (slice_get w.store) (s.born ∙ placed) ∙ there) in
        let same : shown.object ≡ object = cc in
        subst₂ (λ b o. HasJust (object_at d.heap) (2 ^ 24) b (objects.size_of o)) s.born same
        (shown-just s.address s.at shown.shown);
  }

  module _ (identifier : ℕ) (context : Context) (there : context_at w identifier ≡ Some context)
      (lowest : drop (length context.dictionaries - 2) context.dictionaries
      ≡ user_value ∷ system_value ∷ []) where
    pub lives : Live w (standing_words d.heap)
    unfolding standing_words object_at
    lives = record {
      reached = reached;
      exact = λ birth. (
        (λ is. let s = found d.heap (2 ^ 24) birth is in
            subst (IsReachable w) s.born ((alive s.address s.object s.at).born s.object s.at)),
        (λ reach. let s = reachable-stands d w at steady identifier context there lowest birth
            reach in finds d.heap (2 ^ 24) birth s.address s.object (low s.address s.object s.at) s.at
            s.born s.whole),
      );
      total = words-just reached (2 ^ 24) w.store 0 (object_at d.heap) just-all;
    }
