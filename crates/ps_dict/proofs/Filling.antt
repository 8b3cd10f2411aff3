-- Words filled into new objects.
use Rattle.std.proofs.Common.{◌≡◌, ◌≢◌, ℕ, zero, suc, ◌+◌, ◌*◌, ◌<◌, ◌≤◌, List, [], ◌∷◌, ◌++◌, length, take, get_or, Some, None, sym, ap, ◌∙◌, arith, subst, append_assoc, length-append}
use Rattle.std.specs.Prelude.{slice_get, Option}
use Rattle.std.specs.List.{AllByRecursion}
use Rattle.std.proofs.lemmas.List.{length-replicate, length-take-le}
use Rattle.ps_language.specs.declared.kinds.Kind.TheVariants.{Dictionary as DictionaryKind, Body as BodyKind}
use Rattle.ps_word.specs.declared.words.Word.{Word}
use Rattle.ps_mem.specs.Heap.{Heap, Standing, object_at, birth_at, fields_of, fields_at, stored, made_body, zero_word}
use Rattle.ps_mem.specs.Keeps.{Extends}
use Rattle.ps_mem.specs.References.{StandsAs, NamesStanding, IsKnown, AreKnown}
use Rattle.ps_mem.specs.Shows.{IsValue, IsSound}
use Rattle.ps_mem.proofs.Lists.{all_at}
use Rattle.ps_mem.proofs.HeapLemmas.{object_at-made_body_same, object_at-made_body_other, standing_at, stored_more, length-fields_at_stored, place_of_next, stored_next}
use Rattle.ps_mem.proofs.KeepsLemmas.{Keeps-stored, Keeps-Extends, Extends-made_body, Extends-stored, IsKnown-kept, AreKnown-kept, known_values}
use Rattle.ps_dict.specs.Places.{count_at, body_at}
use Rattle.ps_dict.proofs.Pairs.{slice_get-take}
use Rattle.ps_dict.proofs.Shapes.{count-fits, body-room, body-stands, body-values}
use Rattle.ps_dict.proofs.Changing.{fields-stored_other}

pub get_or-there : {A : Type 0} (xs : List A) (i : ℕ) (x d : A) → slice_get xs i ≡ Some x → get_or xs i d ≡ x
get_or-there [] i x d e = cc
get_or-there (y ∷ xs) zero x d e = cc
get_or-there (y ∷ xs) (suc i) x d e = get_or-there xs i x d e

-- what refers to what stood may be filled in
pub value_stands : (g h : Heap) (b : ℕ) (w : Word) → IsValue g w → Extends g h → NamesStanding h b (w ∷ [])
value_stands g h b w held extends =
    record { known = λ o at text. (IsKnown-kept g h (Keeps-Extends g h extends) w held.known, tt) }

-- ---- the words of one object, one after another, into another

module _ (h : Heap) (to from count : ℕ) (apart : to ≢ from) (source : count ≤ length (fields_at h from))
    (target : count ≤ length (fields_at h to)) (now : Heap) (i : ℕ)
    (so_far : now ≡ stored h to 0 (take i (take count (fields_at h from)))) (below : i < count) where
  abbrev copied : List Word
  copied = take count (fields_at h from)

  length-copied : length copied ≡ count
  length-copied = length-take-le count (fields_at h from) source

  pub source-now : fields_at now from ≡ fields_at h from
  source-now = ap (λ (k : Heap). fields_at k from) so_far ∙ fields-stored_other h to 0 (take i copied) from apart

  pub source-place : i < length (fields_at now from)
  source-place = let n = ap length source-now in omega (arith, n, source, below)

  pub target-place : i < length (fields_at now to)
  target-place = let n = length-copied in let p =
      place_of_next h now to 0 i copied so_far (omega (arith, below, n)) (omega (arith, n, target)) in omega (arith, p)

  module _ (w : Word) (read : slice_get (fields_at now from) i ≡ Some w) where
    read_before : slice_get (fields_at h from) i ≡ Some w
    read_before = ap (λ ws. slice_get ws i) (sym source-now) ∙ read

    pub read-known : AreKnown h (fields_at h from) → NamesStanding now to (w ∷ [])
    read-known known =
        let before : IsKnown h w = all_at (IsKnown h) (fields_at h from) i w known read_before in
        let (o, at, fields) = standing_at h to i (omega (arith, target, below)) in
        let n = length-copied in
        let short : length (take i copied) ≡ i = length-take-le i copied (omega (arith, n, below)) in
        let fits : 0 + length (take i copied) ≤ length o.fields =
        (let same = ap length fields in omega (arith, short, same, target, below)) in
        let kept : IsKnown now w =
        subst (λ (k : Heap). IsKnown k w) (sym so_far)
        (IsKnown-kept h (stored h to 0 (take i copied))
        (Keeps-stored h to 0 (take i copied) o at fits) w before) in
        record { known = λ p there text. (kept, tt) }

    pub filled-next : stored now to i (w ∷ []) ≡ stored h to 0 (take (i + 1) copied)
    filled-next =
        let n = length-copied in
        let this : get_or copied i w ≡ w = get_or-there copied i w w (slice_get-take count (fields_at h from) i below
        ∙ read_before) in
        let at : i ≡ 0 + i = omega arith in
        ap (λ x. stored now to i (x ∷ [])) (sym this)
        ∙ (ap (λ k. stored now to k (get_or copied i w ∷ [])) at ∙ stored_next h now to 0 i copied so_far
        (omega (arith, below, n)) (omega (arith, n, target)) w)

-- ---- words into the first fields

all_get : {A : Type 0} (P : A → Type 0) (xs : List A) (i : ℕ) (d : A) → AllByRecursion P xs → i < length xs
    → P (get_or xs i d)
all_get P [] i d p h = absurd (omega arith)
all_get P (x ∷ xs) zero d p h = p.0
all_get P (x ∷ xs) (suc i) d p h = all_get P xs i d p.1 (omega arith)

module _ (h : Heap) (a : ℕ) (words : List Word) (target : length words ≤ length (fields_at h a)) (now : Heap) (i : ℕ)
    (so_far : now ≡ stored h a 0 (take i words)) where
  module _ (below : i < length words) where
    pub word-place : i < length (fields_at now a)
    word-place = let p = place_of_next h now a 0 i words so_far below (omega (arith, target)) in omega (arith, p)

    pub word-known : AreKnown h words → (d : Word) → NamesStanding now a (get_or words i d ∷ [])
    word-known known d =
        let before : IsKnown h (get_or words i d) = all_get (IsKnown h) words i d known below in
        let (o, at, fields) = standing_at h a i (omega (arith, target, below)) in
        let short : length (take i words) ≡ i = length-take-le i words (omega (arith, below)) in
        let fits : 0 + length (take i words) ≤ length o.fields =
        (let same = ap length fields in omega (arith, short, same, target, below)) in
        let kept : IsKnown now (get_or words i d) =
        subst (λ (k : Heap). IsKnown k (get_or words i d)) (sym so_far)
        (IsKnown-kept h (stored h a 0 (take i words)) (Keeps-stored h a 0 (take i words) o at fits)
        (get_or words i d) before) in
        record { known = λ p there text. (kept, tt) }

    pub word-next : (d : Word) → stored now a i (get_or words i d ∷ []) ≡ stored h a 0 (take (i + 1) words)
    word-next d =
        let at : i ≡ 0 + i = omega arith in
        ap (λ k. stored now a k (get_or words i d ∷ [])) at ∙ stored_next h now a 0 i words so_far below
        (omega (arith, target)) d

-- ---- a new body

module _ (h : Heap) (a : ℕ) (known : StandsAs h DictionaryKind a 4) (sound : IsSound h) (b : ℕ) (free : object_at h b
    ≡ None) (c : ℕ) (room : count_at h a < c) where
  abbrev made : Heap
  made = made_body h b (birth_at h a) (3 * c)

  abbrev front : List Word
  front = take (2 * count_at h a) (fields_at h (body_at h a))

  pub body-apart : b ≢ body_at h a
  body-apart same =
      let clash : ◌≡◌ {A = Option Standing} None (Some (record {
        kind = BodyKind;
        birth = birth_at h a;
        fields = fields_at h (body_at h a);
      })) = sym free ∙ (ap (object_at h) same ∙ body-stands h a known sound) in cc

  pub source-is : fields_at made (body_at h a) ≡ fields_at h (body_at h a)
  unfolding fields_at
  source-is = ap fields_of (object_at-made_body_other h b (birth_at h a) (3 * c) (body_at h a) body-apart)

  pub target-length : length (fields_at made b) ≡ 3 * c
  unfolding fields_at
  target-length = ap (λ o. length (fields_of o)) (object_at-made_body_same h b (birth_at h a) (3 * c))
      ∙ length-replicate (3 * c) zero_word

  pub source-fits : 2 * count_at h a ≤ length (fields_at made (body_at h a))
  source-fits = let same = ap length source-is in let long = body-room h a known sound in
      let few = count-fits h a known sound in omega (arith, same, long, few)

  pub target-fits : 2 * count_at h a ≤ length (fields_at made b)
  target-fits = let long = target-length in omega (arith, long, room)

  pub made-extends : Extends h made
  made-extends = Extends-made_body h b (birth_at h a) (3 * c) free

  pub source-known : AreKnown made (fields_at made (body_at h a))
  source-known = subst (AreKnown made) (sym source-is)
      (AreKnown-kept h made (Keeps-Extends h made made-extends) (fields_at h (body_at h a))
      (known_values h (fields_at h (body_at h a)) (body-values h a known sound)))

  length-front : length front ≡ 2 * count_at h a
  length-front = let long = body-room h a known sound in let few = count-fits h a known sound in
      length-take-le (2 * count_at h a) (fields_at h (body_at h a)) (omega (arith, long, few))

  pub filled-extends : (items : List Word) → Extends h (stored made b 0 items)
  filled-extends items = Extends-stored h made b 0 items made-extends free

  filled-length : (items : List Word) → length items ≤ 3 * c → length (fields_at (stored made b 0 items) b) ≡ 3 * c
  filled-length items fits = let long = target-length in
      length-fields_at_stored made b 0 items (omega (arith, fits, long)) ∙ long

  module _ (k v : Word) where
    pub key-fits : 2 * count_at h a < length (fields_at (stored made b 0 front) b)
    key-fits = let n = length-front in let long = filled-length front (omega (arith, n, room)) in
        omega (arith, long, room)

    pub key-filled : stored (stored made b 0 front) b (2 * count_at h a) (k ∷ []) ≡ stored made b 0 (front ++ k ∷ [])
    key-filled =
        let n = length-front in
        let long = target-length in
        let at : 2 * count_at h a ≡ 0 + length front = omega (arith, n) in
        ap (λ p. stored (stored made b 0 front) b p (k ∷ [])) at ∙ stored_more made b 0 front (k ∷ [])
        (omega (arith, n, long, room))

    length-key : length (front ++ k ∷ []) ≡ 2 * count_at h a + 1
    length-key = length-append front (k ∷ []) ∙ ap (λ m. m + 1) length-front

    pub value-fits : 2 * count_at h a + 1 < length (fields_at (stored made b 0 (front ++ k ∷ [])) b)
    value-fits = let n = length-key in let long = filled-length (front ++ k ∷ []) (omega (arith, n, room)) in
        omega (arith, long, room)

    pub value-filled : stored (stored made b 0 (front ++ k ∷ [])) b (2 * count_at h a + 1) (v ∷ [])
        ≡ stored made b 0 (front ++ k ∷ v ∷ [])
    value-filled =
        let n = length-key in
        let long = target-length in
        let at : 2 * count_at h a + 1 ≡ 0 + length (front ++ k ∷ []) = omega (arith, n) in
        ap (λ p. stored (stored made b 0 (front ++ k ∷ [])) b p (v ∷ [])) at
        ∙ (stored_more made b 0 (front ++ k ∷ []) (v ∷ []) (omega (arith, n, long, room))
        ∙ ap (stored made b 0) (append_assoc front (k ∷ []) (v ∷ [])))
