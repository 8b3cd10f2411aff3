-- Cells: what they tell holds with an object more, and behind a store that goes elsewhere or
-- replaces a value.
use Rattle.std.proofs.Common.{◌≡◌, ◌≢◌, ◌⊎◌, ℕ, zero, suc, ◌+◌, ◌-◌, ◌*◌, ◌%◌, ◌<◌, ◌≤◌, true, List, [], ◌∷◌, length, take, slice_get, Option, Some, None, refl, sym, ap, arith, ◌∙◌, inl, inr, subst}
use Rattle.std.specs.Prelude.{slice_set, option_map, if◌then◌else◌}
use Rattle.std.specs.Option.{option_or}
use Rattle.std.proofs.lemmas.Bool.Decides.{eqb_tells}
use Rattle.ps_language.specs.declared.kinds.Kind.{Kind}
use Rattle.ps_language.specs.declared.kinds.Kind.TheVariants.{Dictionary as DictionaryKind, Body as BodyKind}
use Rattle.ps_language.specs.Access.{splice, is_readable}
use Rattle.ps_word.specs.declared.words.Word.{Word}
use Rattle.ps_word.specs.Format.{access_of}
use Rattle.ps_mem.specs.Heap.{Heap, Standing, object_at, fields_of, fields_at, with_fields, stored, made, made_body}
use Rattle.ps_mem.specs.Index.{pairs_of_words}
use Rattle.ps_mem.specs.Keys.{same_words}
use Rattle.ps_mem.specs.Places.{natural_in, body_in, count_at, body_at, pairs_at, place_of}
use Rattle.ps_mem.specs.declared.cells.Cell.{Cell}
use Rattle.ps_mem.specs.declared.cells.DictionaryPlace.{DictionaryPlace}
use Rattle.ps_mem.specs.declared.cells.DictionaryPair.{DictionaryPair}
use Rattle.ps_mem.specs.Cells.{kind_at, cell_at, IsOpen, IsCellOf, AreCellsOf, Leaves}
use Rattle.ps_mem.proofs.Lists.{splice-one}
use Rattle.ps_mem.proofs.HeapLemmas.{object_at-stored_other, object_at-stored_at, object_at-made_other, object_at-made_body_other, length-fields_at_stored}

-- ---- what leaves a dictionary as a cell tells of it

-- its fields and the keys in its body are as they were
record Stays (h now : Heap) (d : DictionaryPlace) : Type 0 where
  fields : fields_at now d.address ≡ fields_at h d.address
  stands : kind_at now d.address ≡ kind_at h d.address
  body_stands : kind_at now d.body ≡ kind_at h d.body
  keys : (n : ℕ) (key : Word) → place_of (take n (pairs_of_words (fields_at now d.body))) key
      ≡ place_of (take n (pairs_of_words (fields_at h d.body))) key

module _ (h now : Heap) (d : DictionaryPlace) (stays : Stays h now d) (was : IsOpen h d) where
  open-still : IsOpen now d
  open-still = record {
    is = was.is;
    stands = stays.stands ∙ was.stands;
    readable = ap (λ fields. is_readable (access_of (natural_in fields 2))) stays.fields
        ∙ was.readable;
    body = ap (λ fields. body_in fields 3) stays.fields ∙ was.body;
    body_stands = stays.body_stands ∙ was.body_stands;
  }

  place-still : (key : Word)
      → place_of (pairs_at now d.address) key ≡ place_of (pairs_at h d.address) key
  unfolding pairs_at
  place-still key =
      ap (λ fields. place_of (take (natural_in fields 0)
      (pairs_of_words (fields_at now (body_in fields 3)))) key) stays.fields
      ∙ (ap (λ b. place_of (take (count_at h d.address) (pairs_of_words (fields_at now b))) key)
      was.body
      ∙ (stays.keys (count_at h d.address) key
      ∙ ap (λ b. place_of (take (count_at h d.address) (pairs_of_words (fields_at h b))) key)
      (sym was.body)))

cell-still : (h now : Heap) (pair : DictionaryPair) (name : ℕ) (cell : Cell)
    → Stays h now pair.upper → Stays h now pair.lower
    → ((b : ℕ) → length (fields_at h b) ≤ length (fields_at now b))
    → IsCellOf h pair name cell → IsCellOf now pair name cell
cell-still h now pair name cell above below long was = record {
  upper = open-still h now pair.upper above was.upper;
  lower = open-still h now pair.lower below was.lower;
  first = λ key is.
      ap (λ p. option_or (option_map (cell_at pair.upper.body) p)
      (option_map (cell_at pair.lower.body) (place_of (pairs_at now pair.lower.address) key)))
      (place-still h now pair.upper above was.upper key)
      ∙ (ap (λ p. option_or
      (option_map (cell_at pair.upper.body) (place_of (pairs_at h pair.upper.address) key))
      (option_map (cell_at pair.lower.body) p))
      (place-still h now pair.lower below was.lower key)
      ∙ was.first key is);
  from = was.from;
  within = let room = was.within in let more = long cell.body in omega (arith, room, more);
}

stays-same : (h now : Heap) (d : DictionaryPlace)
    → object_at now d.address ≡ object_at h d.address → object_at now d.body ≡ object_at h d.body
    → Stays h now d
unfolding fields_at
stays-same h now d same body = record {
  fields = ap fields_of same;
  stands = ap (option_map (λ (o : Standing). o.kind)) same;
  body_stands = ap (option_map (λ (o : Standing). o.kind)) body;
  keys = λ n key. ap (λ o. place_of (take n (pairs_of_words (fields_of o))) key) body;
}

-- ---- a value is replaced

keys-set : (xs : List Word) (place : ℕ) (w : Word) (n : ℕ) (key : Word) → place % 2 ≡ 1
    → place_of (take n (pairs_of_words (slice_set xs place w))) key
    ≡ place_of (take n (pairs_of_words xs)) key
unfolding pairs_of_words place_of
keys-set xs zero w n key odd = absurd (cc)
keys-set [] (suc place) w n key odd = refl
keys-set (x ∷ []) (suc zero) w n key odd = refl
keys-set (x ∷ []) (suc (suc place)) w n key odd = refl
keys-set (x ∷ y ∷ xs) (suc zero) w zero key odd = refl
keys-set (x ∷ y ∷ xs) (suc zero) w (suc n) key odd = refl
keys-set (x ∷ y ∷ xs) (suc (suc place)) w zero key odd = refl
keys-set (x ∷ y ∷ xs) (suc (suc place)) w (suc n) key odd =
    ap (λ p. if same_words x key then Some 0 else option_map suc p)
    (keys-set xs place w n key (omega (arith, odd)))

kind-with_fields : (found : Option Standing) (fields : List Word)
    → option_map (λ (o : Standing). o.kind) (with_fields found fields)
    ≡ option_map (λ (o : Standing). o.kind) found
kind-with_fields None fields = refl
kind-with_fields (Some o) fields = refl

kind-stored : (h : Heap) (a place : ℕ) (items : List Word) (b : ℕ)
    → kind_at (stored h a place items) b ≡ kind_at h b
kind-stored h a place items b = elim (eqb_tells a b) [
  | inl (_, e) ↦
      subst (λ c. kind_at (stored h a place items) c ≡ kind_at h c) e
      (ap (option_map (λ (o : Standing). o.kind)) (object_at-stored_at h a place items)
      ∙ kind-with_fields (object_at h a) _)
  | inr (_, ne) ↦
      ap (option_map (λ (o : Standing). o.kind)) (object_at-stored_other h a place items b ne)
]

fields-with_fields : (found : Option Standing) (place : ℕ) (w : Word)
    → place < length (fields_of found)
    → fields_of (with_fields found (splice (fields_of found) place (w ∷ [])))
    ≡ slice_set (fields_of found) place w
fields-with_fields None place w below = absurd (omega arith)
fields-with_fields (Some o) place w below = splice-one o.fields place w below

module _ (h : Heap) (a place : ℕ) (w : Word) (odd : place % 2 ≡ 1)
    (below : place < length (fields_at h a)) where
  fields-value : fields_at (stored h a place (w ∷ [])) a ≡ slice_set (fields_at h a) place w
  unfolding fields_at
  fields-value = ap fields_of (object_at-stored_at h a place (w ∷ []))
      ∙ fields-with_fields (object_at h a) place w below

  keys-value : (b n : ℕ) (key : Word)
      → place_of (take n (pairs_of_words (fields_at (stored h a place (w ∷ [])) b))) key
      ≡ place_of (take n (pairs_of_words (fields_at h b))) key
  unfolding fields_at
  keys-value b n key = elim (eqb_tells a b) [
    | inl (_, e) ↦
        subst (λ c. place_of (take n (pairs_of_words (fields_at (stored h a place (w ∷ [])) c))) key
        ≡ place_of (take n (pairs_of_words (fields_at h c))) key) e
        (ap (λ fields. place_of (take n (pairs_of_words fields)) key) fields-value
        ∙ keys-set (fields_at h a) place w n key odd)
    | inr (_, ne) ↦
        ap (λ o. place_of (take n (pairs_of_words (fields_of o))) key)
        (object_at-stored_other h a place (w ∷ []) b ne)
  ]

  stays-value : (d : DictionaryPlace) → a ≢ d.address → Stays h (stored h a place (w ∷ [])) d
  unfolding fields_at
  stays-value d ne = record {
    fields = ap fields_of (object_at-stored_other h a place (w ∷ []) d.address ne);
    stands = kind-stored h a place (w ∷ []) d.address;
    body_stands = kind-stored h a place (w ∷ []) d.body;
    keys = keys-value d.body;
  }

-- a body is no dictionary's own object
apart : (h : Heap) (a : ℕ) (b d : DictionaryPlace) → IsOpen h b → IsOpen h d → a ≡ b.body
    → a ≢ d.address
apart h a b d body dictionary is same =
    let clash : Some BodyKind ≡ Some DictionaryKind =
    sym body.body_stands ∙ (ap (kind_at h) (sym is ∙ same) ∙ dictionary.stands) in cc

-- ---- all cells

long-stored : (h : Heap) (a place : ℕ) (items : List Word)
    → place + length items ≤ length (fields_at h a)
    → (b : ℕ) → length (fields_at h b) ≤ length (fields_at (stored h a place items) b)
unfolding fields_at
long-stored h a place items fits b = elim (eqb_tells a b) [
  | inl (_, e) ↦
      subst (λ c. length (fields_at h c) ≤ length (fields_at (stored h a place items) c)) e
      (let same = length-fields_at_stored h a place items fits in omega (arith, same))
  | inr (_, ne) ↦
      let same : length (fields_of (object_at (stored h a place items) b))
      ≡ length (fields_of (object_at h b)) =
      ap (λ o. length (fields_of o)) (object_at-stored_other h a place items b ne) in
      omega (arith, same)
]

module _ (h : Heap) (pair : DictionaryPair) (cells : List Cell) (tell : AreCellsOf h pair cells)
  where
    pub cells-stored : (a place : ℕ) (items : List Word)
        → place + length items ≤ length (fields_at h a) → Leaves pair a place (length items)
        → AreCellsOf (stored h a place items) pair cells
    cells-stored a place items fits (inl (above, below)) name cell at known =
        cell-still h (stored h a place items) pair name cell
        (stays-same h (stored h a place items) pair.upper
        (object_at-stored_other h a place items pair.upper.address above.0)
        (object_at-stored_other h a place items pair.upper.body above.1))
        (stays-same h (stored h a place items) pair.lower
        (object_at-stored_other h a place items pair.lower.address below.0)
        (object_at-stored_other h a place items pair.lower.body below.1))
        (long-stored h a place items fits) (tell name cell at known)
    cells-stored a place [] fits (inr (whose, (one, odd))) name cell at known = absurd (cc)
    cells-stored a place (w ∷ v ∷ items) fits (inr (whose, (one, odd))) name cell at known =
        absurd (cc)
    cells-stored a place (w ∷ []) fits (inr (whose, (one, odd))) name cell at known =
        let was = tell name cell at known in
        let below : place < length (fields_at h a) = omega (arith, fits) in
        cell-still h (stored h a place (w ∷ [])) pair name cell
        (stays-value h a place w odd below pair.upper (elim whose [
          | inl e ↦ apart h a pair.upper pair.upper was.upper was.upper e
          | inr e ↦ apart h a pair.lower pair.upper was.lower was.upper e
        ]))
        (stays-value h a place w odd below pair.lower (elim whose [
          | inl e ↦ apart h a pair.upper pair.lower was.upper was.lower e
          | inr e ↦ apart h a pair.lower pair.lower was.lower was.lower e
        ]))
        (long-stored h a place (w ∷ []) fits) was

    -- an object more stands where none did
    module _ (now : Heap) (a : ℕ) (free : object_at h a ≡ None)
        (others : (b : ℕ) → a ≢ b → object_at now b ≡ object_at h b) where
      other : (b : ℕ) (kind : Kind) → kind_at h b ≡ Some kind → object_at now b ≡ object_at h b
      other b kind stands =
          others b (λ e. none_there (ap (kind_at h) e ∙ stands))
        where
          none_there : kind_at h a ≡ Some kind → ⊥
          none_there is =
              let clash : None ≡ Some kind =
              ap (option_map (λ (o : Standing). o.kind)) (sym free) ∙ is in cc

      long : (b : ℕ) → length (fields_at h b) ≤ length (fields_at now b)
      unfolding fields_at
      long b = elim (eqb_tells a b) [
        | inl (_, e) ↦
            let none : length (fields_of (object_at h b)) ≡ 0 =
            ap (λ o. length (fields_of o)) (ap (object_at h) (sym e) ∙ free) in omega (arith, none)
        | inr (_, ne) ↦
            let same : length (fields_of (object_at now b)) ≡ length (fields_of (object_at h b)) =
            ap (λ o. length (fields_of o)) (others b ne) in omega (arith, same)
      ]

      cells-more : AreCellsOf now pair cells
      cells-more name cell at known =
          let was = tell name cell at known in
          cell-still h now pair name cell
          (stays-same h now pair.upper (other pair.upper.address DictionaryKind was.upper.stands)
          (other pair.upper.body BodyKind was.upper.body_stands))
          (stays-same h now pair.lower (other pair.lower.address DictionaryKind was.lower.stands)
          (other pair.lower.body BodyKind was.lower.body_stands))
          long was

    pub cells-made : (a : ℕ) (kind : Kind) (n : ℕ) → object_at h a ≡ None
        → AreCellsOf (made h a kind n) pair cells
    cells-made a kind n free =
        cells-more (made h a kind n) a free (object_at-made_other h a kind n)

    pub cells-made_body : (a birth n : ℕ) → object_at h a ≡ None
        → AreCellsOf (made_body h a birth n) pair cells
    cells-made_body a birth n free =
        cells-more (made_body h a birth n) a free (object_at-made_body_other h a birth n)

pub cells-none : (h : Heap) (pair : DictionaryPair) (cells : List Cell) → cells ≡ []
    → AreCellsOf h pair cells
cells-none h pair cells none name cell at known =
    let clash : None ≡ Some cell = ap (λ xs. slice_get xs name) (sym none) ∙ at in absurd (cc)

-- behind a store before which they were settled
pub cells-settled : (h : Heap) (old new : DictionaryPair) (cells left : List Cell) (a place : ℕ)
    (items : List Word) → AreCellsOf h old cells → new ≡ old
    → (left ≡ []) ⊎ ((left ≡ cells) × Leaves old a place (length items))
    → place + length items ≤ length (fields_at h a) → AreCellsOf (stored h a place items) new left
cells-settled h old new cells left a place items tell same (inl none) fits =
    cells-none (stored h a place items) new left none
cells-settled h old new cells left a place items tell same (inr (all, leaves)) fits =
    subst (λ (p : DictionaryPair). AreCellsOf (stored h a place items) p left) (sym same)
    (subst (AreCellsOf (stored h a place items) old) (sym all)
    (cells-stored h old cells tell a place items fits leaves))

-- with one more
pub cells-kept : (h : Heap) (old new pair : DictionaryPair) (cells more : List Cell) (name : ℕ)
    (cell : Cell) → AreCellsOf h old cells → IsCellOf h pair name cell
    → ((n : ℕ) (c : Cell) → slice_get more n ≡ Some c → 0 < c.at
    → ((new ≡ pair) × ((n ≡ name) × (c ≡ cell))) ⊎ ((new ≡ old) × (slice_get cells n ≡ Some c)))
    → AreCellsOf h new more
cells-kept h old new pair cells more name cell tell tells either n c at known =
    elim (either n c at known) [
      | inl (spoken, (named, is)) ↦
          subst (λ (p : DictionaryPair). IsCellOf h p n c) (sym spoken)
          (subst (λ m. IsCellOf h pair m c) (sym named)
          (subst (λ (x : Cell). IsCellOf h pair name x) (sym is) tells))
      | inr (same, was) ↦
          subst (λ (p : DictionaryPair). IsCellOf h p n c) (sym same) (tell n c was known)
    ]
