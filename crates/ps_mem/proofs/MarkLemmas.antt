-- Marks: what widening one admits, and what covers a heap still when something stands in it or is
-- stored.
use Rattle.std.proofs.Common.{length-take, length-drop, ◌≡◌, ◌≢◌, ◌⊎◌, ℕ, zero, suc, ◌+◌, ◌-◌, ◌%◌, ◌<◌, ◌≤◌, true, List, [], ◌∷◌, ◌++◌, length, get_or, drop, replicate, slice_index_or, Some, None, refl, sym, ap, arith, ◌∙◌, inl, inr, subst}
use Rattle.std.specs.Prelude.{slice_get, slice_set, slice_range, IsSome, IfSome, take, Option, if◌then◌else◌}
use Rattle.std.proofs.lemmas.Bool.Decides.{eqb_tells}
use Rattle.ps_language.specs.declared.kinds.Kind.{Kind}
use Rattle.ps_language.specs.declared.kinds.Kind.TheVariants.{Body as BodyKind}
use Rattle.ps_language.specs.Access.{splice}
use Rattle.ps_word.specs.declared.words.Word.{Word}
use Rattle.ps_word.specs.declared.values.Content.TheVariants.{Name, Null}
use Rattle.ps_word.specs.Format.{content_in}
use Rattle.ps_word.specs.declared.headers.Header.{Header}
use Rattle.ps_mem.specs.Heap.{Heap, Standing, object_at, fields_at, fields_of, stored, made, made_body, zero_word}
use Rattle.ps_mem.specs.declared.marks.Mark.{Mark}
use Rattle.ps_mem.specs.declared.marks.Mark.TheVariants.{Nowhere, In, Anywhere}
use Rattle.ps_mem.specs.Marks.{admits, widened, mark_of, marks_kept, Covers, IsMarked, AreMarked, Widens}
use Rattle.ps_mem.proofs.Lists.{splice-suc, splice-zero, slice_get_below}
use Rattle.ps_mem.proofs.HeapLemmas.{object_at-stored_other, object_at-stored_same, object_at-made_same, object_at-made_other, object_at-made_body_same, object_at-made_body_other, standing_at}

-- ---- one mark

pub admits-widened : (mark : Mark) (birth : ℕ) → admits (widened mark birth) birth ≡ true
admits-widened Nowhere birth = elim (eqb_tells birth birth) [
  | inl (same, _) ↦ same
  | inr (_, other) ↦ absurd (other refl)
]
admits-widened (In one) birth = elim (eqb_tells one birth) [
  | inl (same, _) ↦ ap (λ t. admits (if t then In one else Anywhere) birth) same ∙ same
  | inr (other, _) ↦ ap (λ t. admits (if t then In one else Anywhere) birth) other
]
admits-widened Anywhere birth = refl

pub admits-still : (mark : Mark) (birth b : ℕ) → admits mark b ≡ true
    → admits (widened mark birth) b ≡ true
admits-still Nowhere birth b e = cc
admits-still (In one) birth b e = elim (eqb_tells one birth) [
  | inl (same, _) ↦ ap (λ t. admits (if t then In one else Anywhere) b) same ∙ e
  | inr (other, _) ↦ ap (λ t. admits (if t then In one else Anywhere) b) other
]
admits-still Anywhere birth b e = refl

-- ---- the marks

-- a mark that is put, or any where none is kept
index-set_same : (marks : List Mark) (i : ℕ) (mark : Mark)
    → (slice_index_or (slice_set marks i mark) i Anywhere ≡ mark)
    ⊎ (slice_index_or (slice_set marks i mark) i Anywhere ≡ Anywhere)
index-set_same [] i mark = inr refl
index-set_same (m ∷ marks) zero mark = inl refl
index-set_same (m ∷ marks) (suc i) mark = index-set_same marks i mark

index-set_other : (marks : List Mark) (i j : ℕ) (mark : Mark) → i ≢ j
    → slice_index_or (slice_set marks i mark) j Anywhere ≡ slice_index_or marks j Anywhere
index-set_other [] i j mark ne = refl
index-set_other (m ∷ marks) zero zero mark ne = absurd (ne refl)
index-set_other (m ∷ marks) zero (suc j) mark ne = refl
index-set_other (m ∷ marks) (suc i) zero mark ne = refl
index-set_other (m ∷ marks) (suc i) (suc j) mark ne =
    index-set_other marks i j mark (λ e. ne (ap suc e))

module _ (marks : List Mark) (name birth : ℕ) where
  abbrev now : List Mark
  now = slice_set marks (name % marks_kept) (widened (mark_of marks name) birth)

  here : (b : ℕ) → admits (widened (mark_of marks name) birth) b ≡ true
      → admits (mark_of now name) b ≡ true
  here b e = elim (index-set_same marks (name % marks_kept) (widened (mark_of marks name) birth)) [
    | inl put ↦ ap (λ m. admits m b) put ∙ e
    | inr none ↦ ap (λ m. admits m b) none
  ]

  pub admits-new : admits (mark_of now name) birth ≡ true
  admits-new = here birth (admits-widened (mark_of marks name) birth)

  pub widens-new : Widens marks now
  widens-new n b e = elim (eqb_tells (name % marks_kept) (n % marks_kept)) [
    | inl (_, same) ↦
        let was : admits (mark_of marks name) b ≡ true =
        ap (λ i. admits (slice_index_or marks i Anywhere) b) same ∙ e in
        ap (λ i. admits (slice_index_or now i Anywhere) b) (sym same)
        ∙ here b (admits-still (mark_of marks name) birth b was)
    | inr (_, other) ↦
        ap (λ m. admits m b) (index-set_other marks (name % marks_kept) (n % marks_kept)
        (widened (mark_of marks name) birth) other) ∙ e
  ]

-- ---- what covers a heap

pub Covers-widened : (h : Heap) (old new : List Mark) → Covers h old → Widens old new
    → Covers h new
Covers-widened h old new covers widens name address place o w at kind there even is =
    widens name o.birth (covers name address place o w at kind there even is)

pub Covers-nothing : (h : Heap) (marks : List Mark) → ((a : ℕ) → object_at h a ≡ None)
    → Covers h marks
Covers-nothing h marks none name address place o w at kind there even is =
    let clash : Some o ≡ None = sym at ∙ none address in cc

-- a zero word is no name
zero_at : (n place : ℕ) (w : Word) → slice_get (replicate n zero_word) place ≡ Some w
    → w ≡ zero_word
zero_at zero place w e = cc
zero_at (suc n) zero w e = cc
zero_at (suc n) (suc place) w e = zero_at n place w e

no_name : (n place : ℕ) (w : Word) (name : ℕ)
    → slice_get (replicate n zero_word) place ≡ Some w → content_in w.0 ≡ Name name → ⊥
unfolding content_in
no_name n place w name there is =
    let null : content_in w.0 ≡ Null = ap (λ (x : Word). content_in x.0) (zero_at n place w there) in
    cc

-- an object more, of zero words
module _ (h now : Heap) (a : ℕ) (new : Standing) (n : ℕ) (zeros : new.fields ≡ replicate n zero_word)
    (same : object_at now a ≡ Some new)
    (others : (b : ℕ) → a ≢ b → object_at now b ≡ object_at h b) where
  pub Covers-more : (marks : List Mark) → Covers h marks → Covers now marks
  Covers-more marks covers name address place o w at kind there even is =
      elim (eqb_tells a address) [
        | inl (_, e) ↦
            let found : object_at now a ≡ Some o = ap (object_at now) e ∙ at in
            let is_new : new ≡ o = let both : Some new ≡ Some o = sym same ∙ found in cc in
            let fields : o.fields ≡ replicate n zero_word =
            ap (λ (x : Standing). x.fields) (sym is_new) ∙ zeros in
            absurd (no_name n place w name
            (ap (λ xs. slice_get xs place) (sym fields) ∙ there) is)
        | inr (_, ne) ↦
            covers name address place o w (sym (others address ne) ∙ at) kind there even is
      ]

pub Covers-made : (h : Heap) (a : ℕ) (kind : Kind) (n : ℕ) (marks : List Mark) → Covers h marks
    → Covers (made h a kind n) marks
Covers-made h a kind n marks covers =
    Covers-more h (made h a kind n) a
    (record { kind = kind; birth = h.next; fields = replicate n zero_word }) n refl
    (object_at-made_same h a kind n) (object_at-made_other h a kind n) marks covers

pub Covers-made_body : (h : Heap) (a birth n : ℕ) (marks : List Mark) → Covers h marks
    → Covers (made_body h a birth n) marks
Covers-made_body h a birth n marks covers =
    Covers-more h (made_body h a birth n) a
    (record { kind = BodyKind; birth = birth; fields = replicate n zero_word }) n refl
    (object_at-made_body_same h a birth n) (object_at-made_body_other h a birth n) marks covers

-- ---- a store

append_get : {A : Type 0} (xs ys : List A) (q : ℕ) (x : A) → slice_get (xs ++ ys) q ≡ Some x
    → (slice_get xs q ≡ Some x) ⊎ ((k : ℕ) × (q ≡ length xs + k) × (slice_get ys k ≡ Some x))
append_get [] ys q x e = inr (q, (let at : q ≡ 0 + q = omega arith in at), e)
append_get (y ∷ xs) ys zero x e = inl e
append_get (y ∷ xs) ys (suc q) x e = elim (append_get xs ys q x e) [
  | inl there ↦ inl there
  | inr (k, at, there) ↦ inr (k, omega (arith, at), there)
]

drop_get : {A : Type 0} (n : ℕ) (xs : List A) (k : ℕ) (x : A)
    → slice_get (drop n xs) k ≡ Some x → slice_get xs (n + k) ≡ Some x
drop_get zero xs k x e = let at : k ≡ 0 + k = omega arith in ap (slice_get xs) (sym at) ∙ e
drop_get (suc n) [] k x e = cc
drop_get (suc n) (y ∷ xs) k x e =
    let at : suc (n + k) ≡ suc n + k = omega arith in
    ap (slice_get (y ∷ xs)) (sym at) ∙ drop_get n xs k x e

-- what stands at a place behind a splice stood there, or is an item
pub get-splice : {A : Type 0} (old : List A) (place : ℕ) (items : List A) (q : ℕ) (x : A)
    → place ≤ length old → slice_get (splice old place items) q ≡ Some x
    → (slice_get old q ≡ Some x) ⊎ ((i : ℕ) × (q ≡ place + i) × (slice_get items i ≡ Some x))
get-splice old zero items q x fits e =
    elim (append_get items (drop (length items) old) q x
    (ap (λ xs. slice_get xs q) (sym (splice-zero old items)) ∙ e)) [
      | inl there ↦ inr (q, (let at : q ≡ 0 + q = omega arith in at), there)
      | inr (k, at, there) ↦
          inl (ap (slice_get old) at ∙ drop_get (length items) old k x there)
    ]
get-splice [] (suc place) items q x fits e = absurd (omega arith)
get-splice (y ∷ old) (suc place) items zero x fits e =
    inl (ap (λ xs. slice_get xs 0) (sym (splice-suc y old place items)) ∙ e)
get-splice (y ∷ old) (suc place) items (suc q) x fits e =
    elim (get-splice old place items q x (omega arith)
    (ap (λ xs. slice_get xs (suc q)) (sym (splice-suc y old place items)) ∙ e)) [
      | inl there ↦ inl there
      | inr (i, at, there) ↦ inr (i, omega (arith, at), there)
    ]

module _ (h : Heap) (a place : ℕ) (items : List Word) (some : 1 ≤ length items)
    (fits : place + length items ≤ length (fields_at h a)) (marks : List Mark)
    (covers : Covers h marks) (marked : AreMarked h marks a place items) where
  pub Covers-stored : Covers (stored h a place items) marks
  Covers-stored name address q o w at kind there even is =
      elim (eqb_tells a address) [
        | inl (_, e) ↦
            let (was, stood, fields) = standing_at h a place (omega (arith, some, fits)) in
            let now : object_at (stored h a place items) a
            ≡ Some (record was { fields = splice was.fields place items }) =
            object_at-stored_same h a place items was stood in
            let found : object_at (stored h a place items) a ≡ Some o =
            ap (object_at (stored h a place items)) e ∙ at in
            let is_now : record was { fields = splice was.fields place items } ≡ o =
            let both : Some (record was { fields = splice was.fields place items }) ≡ Some o =
            sym now ∙ found in cc in
            let birth : was.birth ≡ o.birth = ap (λ (x : Standing). x.birth) is_now in
            let kept : was.kind ≡ BodyKind = ap (λ (x : Standing). x.kind) is_now ∙ kind in
            let long : length (fields_at h a) ≡ length was.fields = ap length fields in
            let at_q : slice_get (splice was.fields place items) q ≡ Some w =
            ap (λ (x : Standing). slice_get x.fields q) is_now ∙ there in
            let known : admits (mark_of marks name) was.birth ≡ true =
            elim (get-splice was.fields place items q w (omega (arith, fits, long)) at_q) [
              | inl old ↦ covers name a q was w stood kept old even is
              | inr (i, behind, item) ↦
                  marked i w item (ap (λ k. k % 2) (sym behind) ∙ even) name is was stood kept
            ] in
            ap (admits (mark_of marks name)) (sym birth) ∙ known
        | inr (_, ne) ↦
            covers name address q o w (sym (object_at-stored_other h a place items address ne) ∙ at)
            kind there even is
      ]

-- ---- one word after another

-- what may be marked so far: the first words, so many of them
abbrev pub AreMarkedBelow : Heap → List Mark → (address place : ℕ) → List Word → (count : ℕ) → Type 0
AreMarkedBelow h marks address place words count =
    (i : ℕ) (w : Word) → i < count → slice_get words i ≡ Some w
    → IsMarked h marks address (place + i) w

pub marked-wider : (h : Heap) (old new : List Mark) (address place : ℕ) (words : List Word)
    (count : ℕ) → Widens old new → AreMarkedBelow h old address place words count
    → AreMarkedBelow h new address place words count
marked-wider h old new address place words count widens marked i w below there even name is o at kind =
    widens name o.birth (marked i w below there even name is o at kind)

pub marked-next : (h : Heap) (marks : List Mark) (address place : ℕ) (words : List Word)
    (count : ℕ) (word : Word) → AreMarkedBelow h marks address place words count
    → slice_get words count ≡ Some word → IsMarked h marks address (place + count) word
    → AreMarkedBelow h marks address place words (count + 1)
marked-next h marks address place words count word marked here next i w below there =
    elim (eqb_tells i count) [
      | inl (_, e) ↦
          let same : w ≡ word =
          let both : Some w ≡ Some word = sym there ∙ (ap (slice_get words) e ∙ here) in cc in
          subst (λ k. IsMarked h marks address (place + k) w) (sym e)
          (subst (λ (x : Word). IsMarked h marks address (place + count) x) (sym same) next)
      | inr (_, ne) ↦ marked i w (omega (arith, below, ne)) there
    ]

pub marked-all : (h : Heap) (marks : List Mark) (address place : ℕ) (words : List Word)
    (count : ℕ) → length words ≤ count → AreMarkedBelow h marks address place words count
    → AreMarked h marks address place words
marked-all h marks address place words count all marked i w there =
    let below = slice_get_below words i w there in
    marked i w (omega (arith, below, all)) there

pub one-marked : (h : Heap) (marks : List Mark) (address place : ℕ) (word : Word)
    → IsMarked h marks address place word → AreMarked h marks address place (word ∷ [])
one-marked h marks address place word marked zero w there =
    let same : word ≡ w = cc in
    let at : place ≡ place + 0 = omega arith in
    subst (λ k. IsMarked h marks address k w) at
    (subst (λ (x : Word). IsMarked h marks address place x) same marked)
one-marked h marks address place word marked (suc i) w there = cc

pub length-range : {A : Type 0} (xs : List A) (from count : ℕ) → from + count ≤ length xs
    → length (slice_range xs from (from + count)) ≡ count
length-range xs from count fits = simp (length-take, length-drop) (omega (arith, fits))

-- into what is no body nothing comes as a key
pub marked-elsewhere : (h : Heap) (marks : List Mark) (address place : ℕ) (words : List Word)
    (o : Standing) → object_at h address ≡ Some o → o.kind ≢ BodyKind
    → AreMarked h marks address place words
marked-elsewhere h marks address place words o at other i w there even name is p found kind =
    let same : o ≡ p = let both : Some o ≡ Some p = sym at ∙ found in cc in
    absurd (other (ap (λ (x : Standing). x.kind) same ∙ kind))

take_get : {A : Type 0} (n : ℕ) (xs : List A) (i : ℕ) (x : A)
    → slice_get (take n xs) i ≡ Some x → slice_get xs i ≡ Some x
take_get zero xs i x e = cc
take_get (suc n) [] i x e = cc
take_get (suc n) (y ∷ xs) zero x e = e
take_get (suc n) (y ∷ xs) (suc i) x e = take_get n xs i x e

get_take : {A : Type 0} (n : ℕ) (xs : List A) (i : ℕ) (x : A) → i < n
    → slice_get xs i ≡ Some x → slice_get (take n xs) i ≡ Some x
get_take zero xs i x below e = absurd (omega arith)
get_take (suc n) [] i x below e = cc
get_take (suc n) (y ∷ xs) zero x below e = e
get_take (suc n) (y ∷ xs) (suc i) x below e = get_take n xs i x (omega arith) e

get_drop : {A : Type 0} (n : ℕ) (xs : List A) (k : ℕ) (x : A)
    → slice_get xs (n + k) ≡ Some x → slice_get (drop n xs) k ≡ Some x
get_drop zero xs k x e = let at : k ≡ 0 + k = omega arith in ap (slice_get xs) at ∙ e
get_drop (suc n) [] k x e = cc
get_drop (suc n) (y ∷ xs) k x e =
    let at : suc (n + k) ≡ suc n + k = omega arith in
    get_drop n xs k x (ap (slice_get (y ∷ xs)) at ∙ e)

range_get : {A : Type 0} (xs : List A) (from to i : ℕ) (x : A)
    → slice_get (slice_range xs from to) i ≡ Some x → slice_get xs (from + i) ≡ Some x
range_get xs from to i x e =
    drop_get from xs i x (take_get (to - from) (drop from xs) i x e)

-- what a range has at a place
pub range_at : {A : Type 0} (xs : List A) (from count i : ℕ) (x : A) → i < count
    → slice_get xs (from + i) ≡ Some x → slice_get (slice_range xs from (from + count)) i ≡ Some x
range_at xs from count i x below there =
    let long : i < from + count - from = omega (arith, below) in
    get_take (from + count - from) (drop from xs) i x long (get_drop from xs i x there)

pub get_at : {A : Type 0} (xs : List A) (i : ℕ) (d : A) → i < length xs
    → slice_get xs i ≡ Some (get_or xs i d)
get_at [] i d below = absurd (omega arith)
get_at (x ∷ xs) zero d below = refl
get_at (x ∷ xs) (suc i) d below = get_at xs i d (omega arith)

pub fields_here : (h : Heap) (a : ℕ) (o : Standing) → object_at h a ≡ Some o
    → fields_at h a ≡ o.fields
unfolding fields_at
fields_here h a o at = ap fields_of at

-- ---- what stands, by its header

found_some : (found : Option Standing) → IsSome found → (o : Standing) × (found ≡ Some o)
found_some None some = cc
found_some (Some o) some = (o, refl)

module _ (h : Heap) (a : ℕ) (stands : IsSome (object_at h a)) (header : Header)
    (answer : IfSome (object_at h a) (λ (o : Standing). header ≡ record {
      kind = o.kind;
      fields = length o.fields;
      birth = o.birth;
    })) where
  pub headed : (o : Standing) × (object_at h a ≡ Some o) × (header.kind ≡ o.kind)
      × (header.fields ≡ length (fields_at h a)) × (header.birth ≡ o.birth)
  headed =
      let (o, at) = found_some (object_at h a) stands in
      let is : header ≡ record { kind = o.kind; fields = length o.fields; birth = o.birth } =
      subst (λ found. IfSome found (λ (p : Standing). header ≡ record {
        kind = p.kind;
        fields = length p.fields;
        birth = p.birth;
      })) at answer in (
        o,
        at,
        ap (λ (x : Header). x.kind) is,
        ap (λ (x : Header). x.fields) is ∙ sym (ap length (fields_here h a o at)),
        ap (λ (x : Header). x.birth) is,
      )

pub has_field : (h : Heap) (a i : ℕ) → i < length (fields_at h a) → IsSome (object_at h a)
has_field h a i below = let (o, at, fields) = standing_at h a i below in
    subst IsSome (sym at) refl

-- keys that are copied within their body, by an even way, are marked
pub marked-within : (h : Heap) (marks : List Mark) → Covers h marks → (a from to count : ℕ)
    → from % 2 ≡ to % 2
    → AreMarked h marks a to (slice_range (fields_at h a) from (from + count))
marked-within h marks covers a from to count same i w there even name is o at kind =
    covers name a (from + i) o w at kind
    (range_get o.fields from (from + count) i w
    (ap (λ xs. slice_get (slice_range xs from (from + count)) i) (sym (fields_here h a o at)) ∙ there))
    (omega (arith, same, even)) is
