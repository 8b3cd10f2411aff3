-- What stores to one field after another leave.
use Rattle.std.proofs.Common.{◌≡◌, ◌≢◌, ◌⊎◌, ◌/◌, ◌^◌, ℕ, zero, suc, ◌+◌, ◌-◌, ◌<◌, ◌≤◌, Bool, true, false, nat_eq, not}
use Rattle.std.proofs.Common.{List, [], ◌∷◌, length, map, Some, None, Option, refl, sym, ap, ◌∙◌, inl, inr, subst}
use Rattle.std.proofs.Common.{arith, length-set, is_some}
use Rattle.std.specs.Prelude.{slice_set, nat_le, ◌==◌, if◌then◌else◌, min, max}
use Rattle.std.specs.Option.{option_map}
use native.Mathlib.Decide.{ℕ_discrete}
use Rattle.ps_language.specs.declared.kinds.Kind.TheVariants.{Text as TextKind}
use Rattle.ps_language.specs.Access.{splice}
use Rattle.ps_word.specs.declared.words.Word.{Word}
use Rattle.ps_word.specs.Format.{address_in, content_in, content_of}
use Rattle.ps_word.specs.Readers.{is_reference}
use Rattle.ps_word.specs.Headers.{kind_in}
use Rattle.ps_mem.specs.Heap.{Heap, Standing, fields_at}
use Rattle.ps_mem.specs.Heap as memory
use Rattle.ps_mem.specs.Objects.{kind_of_number, word_of}
use Rattle.ps_mem.specs.References.{NamesStanding, AreKnown, IsKnown, IsKnownContent}
use Rattle.ps_mem.proofs.HeapLemmas.{same_heap, object_at-stored_other, object_at-stored_same, next-stored, used-stored}
use Rattle.ps_mem.proofs.HeapLemmas.{space-stored, stored-nil, stored_more}
use Rattle.ps_mem.proofs.Lists.{splice-one}
use Rattle.ps_core_machine.specs.declared.events.Object.{Object}
use Rattle.ps_core_machine.specs.declared.events.Vm.{Vm}
use Rattle.ps_core_machine.specs.declared.events.Written.{Written}
use Rattle.ps_core_machine.specs.Objects.{among, object_at, stored, with_field, holds_values, value_stands, word_stands}
use Rattle.ps_core_machine.specs.Objects.{adjoins, widened}
use Rattle.ps_core_machine.specs.Steps.{is_open, field_stored, space_base}
use Rattle.ps_core_machine.specs.Conditions.{HasField}
use Rattle.ps_core_laws.proofs.HeapTests.{bool_cases, number_not, eq_true, le_true, le_is, and_parts, same_number}
use Rattle.ps_core_laws.proofs.Lookups.{object_at-address, object_at-with_field}
use Rattle.ps_core_laws.proofs.Headed.{stored_objects, stored_header}
use Rattle.ps_core_laws.proofs.Views.{stands-with_field}
use Rattle.ps_core_laws.specs.Memory.{heap_of, standing}
use Rattle.ps_core_laws.specs.Stores.{numbers, fields_stored, MayStoreFields}
use Rattle.ps_core_laws.proofs.Standing.{in_heap, length_words, fields_of_object}

-- ---- what changes

-- with the fields of another part that stores change
abbrev pub over : Vm → Vm → Vm
over v f = record v { objects = f.objects; stored = f.stored; fresh = f.fresh; written = f.written }

pub one : (v : Vm) (a i w : ℕ) → field_stored v a i w ≡ over v (field_stored v a i w)
one v a i w = elim (bool_cases (among v.fresh a)) [ inl t ↦ rw t refl | inr f ↦ rw f refl ]

pub only : (v : Vm) (a i : ℕ) (ws : List ℕ)
    → fields_stored v a i ws ≡ over v (fields_stored v a i ws)
only v a i [] = refl
only v a i (w ∷ ws) = only (field_stored v a i w) a (i + 1) ws
    ∙ ap (λ (x : Vm). over x (fields_stored (field_stored v a i w) a (i + 1) ws)) (one v a i w)

pub open_one : (v : Vm) (a i w : ℕ) → is_open (field_stored v a i w) ≡ is_open v
open_one v a i w = ap is_open (one v a i w)

-- a new object stays new, and nothing is to be logged
pub new_same : (v : Vm) (a i : ℕ) (ws : List ℕ) → among v.fresh a ≡ true
    → ((fields_stored v a i ws).fresh ≡ v.fresh) × ((fields_stored v a i ws).written ≡ v.written)
new_same v a i [] t = (refl, refl)
new_same v a i (w ∷ ws) t =
    let f = field_stored v a i w in
    let fresh : f.fresh ≡ v.fresh = rw t refl in
    let written : f.written ≡ v.written = rw t refl in
    let r = new_same f a (i + 1) ws (ap (λ (l : List ℕ). among l a) fresh ∙ t) in
    (r.0 ∙ fresh, r.1 ∙ written)

empty_stays : (v : Vm) (a i : ℕ) (ws : List ℕ) → v.fresh ≡ [] → (fields_stored v a i ws).fresh ≡ []
empty_stays v a i [] e = e
empty_stays v a i (w ∷ ws) e =
    let off : among v.fresh a ≡ false = ap (λ (l : List ℕ). among l a) e in
    empty_stays (field_stored v a i w) a (i + 1) ws (rw off refl)

pub old_after : (v : Vm) (a i w : ℕ) (ws : List ℕ) → among v.fresh a ≡ false
    → (fields_stored v a i (w ∷ ws)).fresh ≡ []
old_after v a i w ws off = empty_stays (field_stored v a i w) a (i + 1) ws (rw off refl)

pub written_out : (v : Vm) (a i : ℕ) (ws : List ℕ) → is_open v ≡ false
    → (fields_stored v a i ws).written ≡ v.written
written_out v a i [] out = refl
written_out v a i (w ∷ ws) out =
    let f = field_stored v a i w in
    let same : f.written ≡ v.written =
    elim (bool_cases (among v.fresh a)) [ inl t ↦ rw t refl | inr n ↦ rw (n, out) refl ] in
    written_out f a (i + 1) ws (open_one v a i w ∙ out) ∙ same

abbrev pub range : ℕ → ℕ → ℕ → Written
range a first count = record { address = a; first = first; count = count }

written_more : (v : Vm) (a i first count : ℕ) (ws : List ℕ) → is_open v ≡ true → v.fresh ≡ []
    → v.written ≡ Some (range a first count) → first + count ≡ i
    → (fields_stored v a i ws).written ≡ Some (range a first (count + length ws))
written_more v a i first count [] is e at next = let n : count + 0 ≡ count = omega arith in at
    ∙ ap (λ (k : ℕ). Some (range a first k)) (sym n)
written_more v a i first count (w ∷ ws) is e at next =
    let f = field_stored v a i w in
    let off : among v.fresh a ≡ false = ap (λ (l : List ℕ). among l a) e in
    let wide : f.written ≡ Some (widened v.written a i) = rw (off, is) refl in
    let low : min first i ≡ first = omega arith in
    let more : max (first + count) (i + 1) - min first i ≡ count + 1 = omega arith in
    let here : f.written ≡ Some (range a first (count + 1)) = wide
    ∙ (ap (λ (x : Option Written). Some (widened x a i)) at
    ∙ (λ k. Some (range a (low k) (more k)))) in
    let fresh : f.fresh ≡ [] = rw off refl in
    let next' : first + (count + 1) ≡ i + 1 = omega arith in
    let last : count + 1 + length ws ≡ count + length (w ∷ ws) = omega arith in
    written_more f a (i + 1) first (count + 1) ws (open_one v a i w ∙ is) fresh here next'
    ∙ ap (λ (k : ℕ). Some (range a first k)) last

-- a store in a cycle leaves one range to be logged
pub written_all : (v : Vm) (a i w : ℕ) (ws : List ℕ) → is_open v ≡ true → among v.fresh a ≡ false
    → v.written ≡ None → (fields_stored v a i (w ∷ ws)).written ≡ Some (range a i (length (w ∷ ws)))
written_all v a i w ws is off none =
    let f = field_stored v a i w in
    let wide : f.written ≡ Some (widened v.written a i) = rw (off, is) refl in
    let here : f.written ≡ Some (range a i 1) = wide
    ∙ ap (λ (x : Option Written). Some (widened x a i)) none in
    let last : 1 + length ws ≡ length (w ∷ ws) = omega arith in
    written_more f a (i + 1) i 1 ws (open_one v a i w ∙ is) (rw off refl) here refl
    ∙ ap (λ (k : ℕ). Some (range a i k)) last

-- ---- the memory

map_set : (xs : List ℕ) (i w : ℕ)
    → map word_of (slice_set xs i w) ≡ slice_set (map word_of xs) i (word_of w)
map_set [] i w = refl
map_set (x ∷ xs) zero w = refl
map_set (x ∷ xs) (suc i) w = ap (λ (l : List Word). word_of x ∷ l) (map_set xs i w)

stored_here : (a i w : ℕ) (o : Object) → o.address ≡ a
    → stored a i w o ≡ record o { fields = slice_set o.fields i w }
stored_here a i w o e = let t = eq_true a o.address (sym e) in rw t refl

stored_off : (a i w b : ℕ) (x : Option Object) → a ≢ b → ((o : Object) → x ≡ Some o → o.address ≡ b)
    → option_map (stored a i w) x ≡ x
stored_off a i w b None ne at = refl
stored_off a i w b (Some o) ne at = let f = number_not a o.address (λ e. ne (e ∙ at o refl)) in
    rw f refl

heap_one : (v : Vm) (a i w : ℕ) (o : Object) → object_at v.objects a ≡ Some o → i < length o.fields
    → heap_of (field_stored v a i w) ≡ memory.stored (heap_of v) a i (word_of w ∷ [])
heap_one v a i w o e lt =
    same_heap (heap_of (field_stored v a i w)) (memory.stored (heap_of v) a i (word_of w ∷ []))
    (λ b. let found : memory.object_at (heap_of (field_stored v a i w)) b ≡ option_map standing
    (option_map (stored a i w) (object_at v.objects b)) =
    in_heap (field_stored v a i w) b
    ∙ ap (option_map standing)
    (ap (λ (os : List Object). object_at os b) (stored_objects v a i w)
    ∙ object_at-with_field v.objects a i w b) in
    elim (ℕ_discrete a b) as (λ _. memory.object_at (heap_of (field_stored v a i w)) b ≡
    memory.object_at (memory.stored (heap_of v) a i (word_of w ∷ [])) b) [
      | yes is ↦ let e' : object_at v.objects b ≡ Some o = ap (object_at v.objects) (sym is) ∙ e in
          let at = object_at-address v.objects a o e in
          let words : map word_of (slice_set o.fields i w) ≡ splice (map word_of o.fields) i
          (word_of w ∷ []) = map_set o.fields i w
          ∙ sym (splice-one (map word_of o.fields) i (word_of w)
          (let n = length_words o.fields in omega arith)) in
          let right : memory.object_at (memory.stored (heap_of v) a i (word_of w ∷ [])) a ≡ Some
          (record (standing o) { fields = splice (map word_of o.fields) i (word_of w ∷ []) }) =
          object_at-stored_same (heap_of v) a i (word_of w ∷ []) (standing o)
          (in_heap v a ∙ ap (option_map standing) e) in
          found ∙ (ap (λ (x : Option Object). option_map standing (option_map (stored a i w) x)) e'
          ∙ (ap (λ (x : Object). Some (standing x)) (stored_here a i w o at)
          ∙ (ap (λ (fs : List Word). Some (record (standing o) { fields = fs })) words
          ∙ (sym right ∙ ap (memory.object_at (memory.stored (heap_of v) a i (word_of w ∷ [])))
          is))))
      | no ne ↦ found ∙ (ap (option_map standing)
          (stored_off a i w b (object_at v.objects b) ne (λ o e. object_at-address v.objects b o e))
          ∙ (sym (in_heap v b) ∙ sym (object_at-stored_other (heap_of v) a i (word_of w ∷ []) b
          ne)))
    ])
    (ap (λ (x : Vm). x.next_birth) (one v a i w)
    ∙ sym (next-stored (heap_of v) a i (word_of w ∷ [])))
    (ap (λ (x : Vm). x.end - space_base x.space x.cycle) (one v a i w)
    ∙ sym (used-stored (heap_of v) a i (word_of w ∷ [])))
    (ap (λ (x : Vm). (heap_of x).space) (one v a i w)
    ∙ sym (space-stored (heap_of v) a i (word_of w ∷ [])))

-- the object after one store
pub after_one : (v : Vm) (a i w : ℕ) (o : Object) → object_at v.objects a ≡ Some o
    → object_at (field_stored v a i w).objects a ≡ Some (stored a i w o)
after_one v a i w o e = ap (λ (os : List Object). object_at os a) (stored_objects v a i w)
    ∙ (object_at-with_field v.objects a i w a ∙ ap (option_map (stored a i w)) e)

pub count_one : (a i w : ℕ) (o : Object) → length (stored a i w o).fields ≡ length o.fields
count_one a i w o = elim (bool_cases (nat_eq a o.address))
    [ inl t ↦ rw t (length-set o.fields i w) | inr f ↦ rw f refl ]

pub heap_all : (v : Vm) (a i : ℕ) (ws : List ℕ) (o : Object) → object_at v.objects a ≡ Some o
    → i + length ws ≤ length o.fields
    → heap_of (fields_stored v a i ws) ≡ memory.stored (heap_of v) a i (map word_of ws)
heap_all v a i [] o e le = sym (stored-nil (heap_of v) a i)
heap_all v a i (w ∷ ws) o e le =
    let f = field_stored v a i w in
    let n = count_one a i w o in
    let rest = heap_all f a (i + 1) ws (stored a i w o) (after_one v a i w o e) (omega arith) in
    let here = heap_one v a i w o e (omega arith) in
    let long : i + (1 + length (map word_of ws)) ≤ length (fields_at (heap_of v) a) = let m =
    ap length (fields_of_object v a o e) in let k = length_words o.fields in let j =
    length_words ws in omega arith in
    rest ∙ (ap (λ (h : Heap). memory.stored h a (i + 1) (map word_of ws)) here
    ∙ stored_more (heap_of v) a i (word_of w ∷ []) (map word_of ws) long)

-- ---- when they are permitted

abbrev pub AllStand : List Object → ℕ → List ℕ → Type 0
AllStand objects header [] = Unit {0}
AllStand objects header (w ∷ ws) = (word_stands objects header w ≡ true)
    × AllStand objects header ws

value_same : (os : List Object) (a i w x : ℕ)
    → value_stands (with_field os a i w) x ≡ value_stands os x
value_same os a i w x = ap (λ (b : Bool). if is_reference x then b else true)
    (stands-with_field os a i w (address_in x))

pub word_same : (v : Vm) (a i w header x : ℕ) → word_stands v.objects header x ≡ true
    → word_stands (field_stored v a i w).objects header x ≡ true
word_same v a i w header x e =
    ap (λ (os : List Object). word_stands os header x) (stored_objects v a i w)
    ∙ (ap (λ (b : Bool). if holds_values header then b else true) (value_same v.objects a i w x)
    ∙ e)

all_same : (v : Vm) (a i w header : ℕ) (ws : List ℕ) → AllStand v.objects header ws
    → AllStand (field_stored v a i w).objects header ws
all_same v a i w header [] h = tt
all_same v a i w header (x ∷ ws) h =
    (word_same v a i w header x h.0, all_same v a i w header ws h.1)

-- what is written ends where the next store is
abbrev pub EndsAt : Option Written → ℕ → ℕ → Type 0
EndsAt written a i = (written ≡ None)
    ⊎ ((first : ℕ) × (count : ℕ) × (written ≡ Some (range a first count)) × (first + count ≡ i))

ends_adjoin : (written : Option Written) (a i : ℕ) → EndsAt written a i → adjoins written a i ≡ true
ends_adjoin written a i h = elim h [
  | inl none ↦ ap (λ (x : Option Written). adjoins x a i) none
  | inr r ↦ let at = r.2 in let e = r.3 in
      ap (λ (x : Option Written). adjoins x a i) at
      ∙ (let t = same_number a in let lo = le_true r.0 (i + 1) (omega arith) in let hi =
      le_true i (r.0 + r.1) (omega arith) in rw (t, lo, hi) refl)
]

ends_next : (v : Vm) (a i w : ℕ) → among v.fresh a ≡ false → is_open v ≡ true → EndsAt v.written a i
    → EndsAt (field_stored v a i w).written a (i + 1)
ends_next v a i w off is h =
    let wide : (field_stored v a i w).written ≡ Some (widened v.written a i) = rw (off, is) refl in
    elim h [
      | inl none ↦ inr (i, 1, wide ∙ ap (λ (x : Option Written). Some (widened x a i)) none, refl)
      | inr r ↦ let at = r.2 in let e = r.3 in
          let low : min r.0 i ≡ r.0 = omega arith in
          let more : max (r.0 + r.1) (i + 1) - min r.0 i ≡ r.1 + 1 = omega arith in
          let sum : r.0 + (r.1 + 1) ≡ i + 1 = omega arith in
          inr (
            r.0,
            r.1 + 1,
            wide ∙
                (ap (λ (x : Option Written). Some (widened x a i)) at
                ∙ (λ k. Some (range a (low k) (more k)))),
            sum,
          )
    ]

pub has_field : (v : Vm) (i w : ℕ) (x : Option Object) (o : Object) → x ≡ Some o
    → i < length o.fields
    → word_stands v.objects o.header w ≡ true → HasField v x i w
has_field v i w x o e lt st = subst (λ (y : Option Object). HasField v y i w) (sym e) (lt, st)

pub may_store : (v : Vm) (a i : ℕ) (ws : List ℕ) (o : Object) → object_at v.objects a ≡ Some o
    → i + length ws ≤ length o.fields → AllStand v.objects o.header ws
    → (among v.fresh a ≡ false → is_open v ≡ true → EndsAt v.written a i) → MayStoreFields v a i ws
may_store v a i [] o e le st ends = tt
may_store v a i (w ∷ ws) o e le st ends =
    let f = field_stored v a i w in
    let n = count_one a i w o in
    let header = stored_header a i w o in
    let stands : AllStand f.objects (stored a i w o).header ws =
    subst (λ (h : ℕ). AllStand f.objects h ws) (sym header)
    (all_same v a i w o.header ws st.1) in
    let next : among f.fresh a ≡ false → is_open f ≡ true → EndsAt f.written a (i + 1) =
    λ off is. elim (bool_cases (among v.fresh a)) [
      | inl t ↦ let same : f.fresh ≡ v.fresh = rw t refl in let t' : among f.fresh a ≡ true =
          ap (λ (l : List ℕ). among l a) same ∙ t in
          absurd (let b : true ≡ false = sym t' ∙ off in cc)
      | inr g ↦ ends_next v a i w g (sym (open_one v a i w) ∙ is)
          (ends g (sym (open_one v a i w) ∙ is))
    ] in (
      (
        has_field v i w (object_at v.objects a) o e (omega arith) st.0,
        λ off is. ends_adjoin
            v.written a i (ends off is),
      ),
      may_store f a (i + 1) ws (stored a i w o) (after_one v a i w o e) (omega arith) stands next,
    )

-- ---- what words to be stored refer to stands

some_at : (h : Heap) (v : Vm) (a : ℕ) (s : Standing) → h ≡ heap_of v → memory.object_at h a ≡ Some s
    → is_some (object_at v.objects a) ≡ true
some_at h v a s same e = go (object_at v.objects a)
    (sym (in_heap v a) ∙ (ap (λ (x : Heap). memory.object_at x a) (sym same) ∙ e))
  where
    go : (x : Option Object) → option_map standing x ≡ Some s → is_some x ≡ true
    go None e = absurd (cc)
    go (Some o) e = refl

by_type : (v : Vm) (w t : ℕ) → 6 ≤ t → t ≤ 11 → IsKnownContent (heap_of v) (content_of t w)
    → is_some (object_at v.objects (address_in w)) ≡ true
by_type v w t lo hi k = elim (ℕ_discrete t 6) as
    (λ _. is_some (object_at v.objects (address_in w)) ≡ true) [
      | yes e ↦ let k' = subst (λ (t : ℕ). IsKnownContent (heap_of v) (content_of t w)) e k in
          some_at (heap_of v) v (address_in w) k'.object refl k'.at
      | no n6 ↦ elim (ℕ_discrete t 7) as (λ _. is_some (object_at v.objects (address_in w))
          ≡ true) [
            | yes e ↦ let k' = subst (λ (t : ℕ). IsKnownContent (heap_of v) (content_of t w)) e k in
                some_at (heap_of v) v (address_in w) k'.object refl k'.at
            | no n7 ↦ elim (ℕ_discrete t 8) as (λ _. is_some (object_at v.objects (address_in w))
                ≡ true) [
                  | yes e ↦ let k' = subst (λ (t : ℕ). IsKnownContent (heap_of v) (content_of t w)) e k in
                      some_at (heap_of v) v (address_in w) k'.object refl k'.at
                  | no n8 ↦ elim (ℕ_discrete t 9) as (λ _. is_some (object_at v.objects (address_in w))
                      ≡ true) [
                        | yes e ↦ let k' = subst (λ (t : ℕ). IsKnownContent (heap_of v) (content_of t w)) e k in
                            some_at (heap_of v) v (address_in w) k'.object refl k'.at
                        | no n9 ↦ elim (ℕ_discrete t 10) as
                            (λ _. is_some (object_at v.objects (address_in w)) ≡ true) [
                              | yes e ↦ let k' = subst (λ (t : ℕ). IsKnownContent (heap_of v)
                                  (content_of t w)) e k in
                                  some_at (heap_of v) v (address_in w) k'.object refl k'.at
                              | no n10 ↦ let e : t ≡ 11 = omega arith in let k' =
                                  subst (λ (t : ℕ). IsKnownContent (heap_of v) (content_of t w)) e k in
                                  some_at (heap_of v) v (address_in w) k'.object refl k'.at
                            ]
                      ]
                ]
          ]
    ]

pub known_stands : (v : Vm) (w : Word) → IsKnown (heap_of v) w → value_stands v.objects w.0 ≡ true
unfolding IsKnown content_in
known_stands v w k = elim (bool_cases (is_reference w.0)) [
  | inr f ↦ rw f refl
  | inl t ↦ let p = and_parts (nat_le 6 (w.0 / 2 ^ 60)) (nat_le (w.0 / 2 ^ 60) 11) t in
      rw t (by_type v w.0 (w.0 / 2 ^ 60) (le_is 6 (w.0 / 2 ^ 60) p.0) (le_is (w.0 / 2 ^ 60) 11 p.1)
      k)
]

values_known : (v : Vm) (header : ℕ) (items : List Word) → AreKnown (heap_of v) items
    → AllStand v.objects header (numbers items)
values_known v header [] k = tt
values_known v header (w ∷ ws) k = (
  elim (bool_cases (holds_values header))
      [ inl t ↦ rw t (known_stands v w k.0) | inr f ↦ rw f refl ],
  values_known v header ws k.1,
)

text_stands : (v : Vm) (header : ℕ) (ws : List ℕ) → holds_values header ≡ false
    → AllStand v.objects header ws
text_stands v header [] f = tt
text_stands v header (w ∷ ws) f = (rw f refl, text_stands v header ws f)

not_text : (n : ℕ) → not (n == 7) ≡ true → kind_of_number n ≢ TextKind
not_text n h = elim (bool_cases (n == 7)) [
  | inl t ↦ let h' = rw t at h in absurd (cc)
  | inr f ↦ elim (bool_cases (n == 6)) [
    | inl a ↦ rw a (λ e. cc)
    | inr a ↦ elim (bool_cases (n == 8)) [
      | inl b ↦ rw (a, f, b) (λ e. cc)
      | inr b ↦ elim (bool_cases (n == 9)) [
        | inl d ↦ rw (a, f, b, d) (λ e. cc)
        | inr d ↦ elim (bool_cases (n == 10)) [
          | inl g ↦ rw (a, f, b, d, g) (λ e. cc)
          | inr g ↦ rw (a, f, b, d, g) (λ e. cc)
        ]
      ]
    ]
  ]
]

pub names_stand : (v : Vm) (a : ℕ) (o : Object) (items : List Word) → object_at v.objects a ≡ Some o
    → NamesStanding (heap_of v) a items → AllStand v.objects o.header (numbers items)
names_stand v a o items e n = elim (bool_cases (holds_values o.header)) [
  | inl t ↦ values_known v o.header items
      (n.known (standing o) (in_heap v a ∙ ap (option_map standing) e)
      (not_text (kind_in o.header) t))
  | inr f ↦ text_stands v o.header (numbers items) f
]

pub words_back : (items : List Word) → map word_of (numbers items) ≡ items
words_back [] = refl
words_back (w ∷ ws) = ap (λ (l : List Word). w ∷ l) (words_back ws)
