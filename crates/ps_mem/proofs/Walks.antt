-- What stands in words one object after another, and what a write and a new object change of it.
use Rattle.std.proofs.Common.{◌≡◌, ℕ, zero, suc, ◌+◌, ◌<◌, ◌≤◌, List, [], ◌∷◌, length, take, drop, map, Some, None, refl, sym, ap, arith, ◌∙◌, subst, length-take, length-drop}
use Rattle.std.specs.Prelude.{slice_get}
use Rattle.std.proofs.lemmas.List.{length-map, length-take-le}
use Rattle.ps_word.specs.Headers.{fields_in, birth_in, kind_in}
use Rattle.ps_mem.specs.Heap.{Standing}
use Rattle.std.specs.Prelude.{Bool, true, false, ◌&&◌}
use Rattle.ps_mem.specs.Objects.{standing_of, object_in, wanting, all_headers, is_kind_number, word_of, kind_of_number}

-- ---- places

-- nothing begins in words that still belong to an object
pub object_in_behind : (ws : List ℕ) (skip place : ℕ) (o : Standing) → object_in ws skip place ≡ Some o → skip ≤ place
unfolding object_in
object_in_behind [] skip place o e = cc
object_in_behind (w ∷ ws) zero place o e = omega arith
object_in_behind (w ∷ ws) (suc skip) zero o e = cc
object_in_behind (w ∷ ws) (suc skip) (suc place) o e = let h = object_in_behind ws skip place o e in omega (arith, h)

pub object_in_past : (ws : List ℕ) (skip place : ℕ) → length ws ≤ place → object_in ws skip place ≡ None
unfolding object_in
object_in_past [] skip place h = refl
object_in_past (w ∷ ws) skip zero h = absurd (omega arith)
object_in_past (w ∷ ws) zero (suc place) h = object_in_past ws (suc (fields_in w)) place (omega arith)
object_in_past (w ∷ ws) (suc skip) (suc place) h = object_in_past ws skip place (omega arith)

pub object_in_skipped : (ws : List ℕ) (skip place : ℕ) → length ws ≤ skip → object_in ws skip place ≡ None
unfolding object_in
object_in_skipped [] skip place h = refl
object_in_skipped (w ∷ ws) zero place h = absurd (omega arith)
object_in_skipped (w ∷ ws) (suc skip) zero h = refl
object_in_skipped (w ∷ ws) (suc skip) (suc place) h = object_in_skipped ws skip place (omega arith)

-- objects that are whole have their words
pub wanting_none : (ws : List ℕ) (skip : ℕ) → wanting ws skip ≡ 0 → skip ≤ length ws
unfolding wanting
wanting_none [] skip e = omega (arith, e)
wanting_none (w ∷ ws) zero e = omega arith
wanting_none (w ∷ ws) (suc skip) e = let h = wanting_none ws skip e in omega (arith, h)

length-fields : (w : ℕ) (ws : List ℕ) → length (standing_of w ws).fields ≤ fields_in w
unfolding standing_of
length-fields w ws = rw length-map (rw length-take (omega arith))

pub object_in_within : (ws : List ℕ) (skip place : ℕ) (o : Standing) → object_in ws skip place ≡ Some o
    → wanting ws skip ≡ 0 → place + 2 + length o.fields ≤ length ws
unfolding object_in wanting
object_in_within [] skip place o e whole = cc
object_in_within (w ∷ ws) zero zero o e whole =
    let is : standing_of w ws ≡ o = cc in
    let many = length-fields w ws in
    let all = wanting_none ws (suc (fields_in w)) whole in
    subst (λ (x : Standing). 0 + 2 + length x.fields ≤ length (w ∷ ws)) is (omega (arith, many, all))
object_in_within (w ∷ ws) zero (suc place) o e whole = let h =
    object_in_within ws (suc (fields_in w)) place o e whole in omega (arith, h)
object_in_within (w ∷ ws) (suc skip) zero o e whole = cc
object_in_within (w ∷ ws) (suc skip) (suc place) o e whole = let h = object_in_within ws skip place o e whole in
    omega (arith, h)

-- ---- reads

slice_get-take : {A : Type 0} (n : ℕ) (xs : List A) (i : ℕ) → i < length (take n xs)
    → slice_get (take n xs) i ≡ slice_get xs i
slice_get-take zero xs i h = absurd (omega arith)
slice_get-take (suc n) [] i h = refl
slice_get-take (suc n) (x ∷ xs) zero h = refl
slice_get-take (suc n) (x ∷ xs) (suc i) h = slice_get-take n xs i (omega arith)

slice_get-words : (xs : List ℕ) (i x : ℕ) → slice_get xs i ≡ Some x → slice_get (map word_of xs) i ≡ Some (word_of x)
slice_get-words [] i x e = cc
slice_get-words (y ∷ xs) zero x e = let same : y ≡ x = cc in ap (λ z. Some (word_of z)) same
slice_get-words (y ∷ xs) (suc i) x e = slice_get-words xs i x e

field_of : (w : ℕ) (ws : List ℕ) (i x : ℕ) → i < length (standing_of w ws).fields → slice_get (drop 1 ws) i ≡ Some x
    → slice_get (standing_of w ws).fields i ≡ Some (word_of x)
unfolding standing_of
field_of w ws i x h e =
    let below : i < length (take (fields_in w) (drop 1 ws)) =
    subst (λ n. i < n) (length-map (take (fields_in w) (drop 1 ws)) word_of) h in
    slice_get-words (take (fields_in w) (drop 1 ws)) i x (slice_get-take (fields_in w) (drop 1 ws) i below ∙ e)

behind_header : (ws : List ℕ) (i x : ℕ) → slice_get ws (suc i) ≡ Some x → slice_get (drop 1 ws) i ≡ Some x
behind_header [] i x e = cc
behind_header (w ∷ ws) i x e = e

-- the word of a field
pub field_in : (ws : List ℕ) (skip place : ℕ) (o : Standing) (i x : ℕ) → object_in ws skip place ≡ Some o
    → i < length o.fields → slice_get ws (place + 2 + i) ≡ Some x → slice_get o.fields i ≡ Some (word_of x)
unfolding object_in
field_in [] skip place o i x e below read = cc
field_in (w ∷ ws) zero zero o i x e below read =
    let is : standing_of w ws ≡ o = cc in
    let at : 0 + 2 + i ≡ suc (suc i) = omega arith in
    let found : slice_get ws (suc i) ≡ Some x = sym (ap (slice_get (w ∷ ws)) at) ∙ read in
    subst (λ (y : Standing). i < length y.fields → slice_get y.fields i ≡ Some (word_of x)) is
    (λ h. field_of w ws i x h (behind_header ws i x found)) below
field_in (w ∷ ws) zero (suc place) o i x e below read =
    let at : suc place + 2 + i ≡ suc (place + 2 + i) = omega arith in
    field_in ws (suc (fields_in w)) place o i x e below (sym (ap (slice_get (w ∷ ws)) at) ∙ read)
field_in (w ∷ ws) (suc skip) zero o i x e below read = cc
field_in (w ∷ ws) (suc skip) (suc place) o i x e below read =
    let at : suc place + 2 + i ≡ suc (place + 2 + i) = omega arith in
    field_in ws skip place o i x e below (sym (ap (slice_get (w ∷ ws)) at) ∙ read)

-- the first header of what stands
pub header_in : (ws : List ℕ) (skip place : ℕ) (o : Standing) (x : ℕ) → object_in ws skip place ≡ Some o
    → slice_get ws place ≡ Some x → wanting ws skip ≡ 0 →
    (o.kind ≡ kind_of_number (kind_in x)) × (o.birth ≡ birth_in x) × (length o.fields ≡ fields_in x)
unfolding object_in wanting standing_of
header_in [] skip place o x e read whole = cc
header_in (w ∷ ws) zero zero o x e read whole =
    let is : standing_of w ws ≡ o = cc in
    let same : w ≡ x = cc in
    let all = wanting_none ws (suc (fields_in w)) whole in
    let many : length (standing_of w ws).fields ≡ fields_in w =
    rw length-map (length-take-le (fields_in w) (drop 1 ws) (omega (arith, all, length-drop 1 ws))) in
    subst (λ (y : Standing). (y.kind ≡ kind_of_number (kind_in x)) × (y.birth ≡ birth_in x)
    × (length y.fields ≡ fields_in x)) is
    (ap (λ n. kind_of_number (kind_in n)) same, ap birth_in same, many ∙ ap fields_in same)
header_in (w ∷ ws) zero (suc place) o x e read whole = header_in ws (suc (fields_in w)) place o x e read whole
header_in (w ∷ ws) (suc skip) zero o x e read whole = cc
header_in (w ∷ ws) (suc skip) (suc place) o x e read whole = header_in ws skip place o x e read whole

-- the words of the fields
pub fields_in-words : (ws : List ℕ) (skip place : ℕ) (o : Standing) → object_in ws skip place ≡ Some o
    → wanting ws skip ≡ 0 → o.fields ≡ map word_of (take (length o.fields) (drop (place + 2) ws))
unfolding object_in wanting standing_of
fields_in-words [] skip place o e whole = cc
fields_in-words (w ∷ ws) zero zero o e whole =
    let is : standing_of w ws ≡ o = cc in
    let all = wanting_none ws (suc (fields_in w)) whole in
    let n = fields_in w in
    let words : List ℕ = drop 1 ws in
    let many : length (take n words) ≡ n = length-take-le n words (omega (arith, all, length-drop 1 ws)) in
    let count : length (map word_of (take n words)) ≡ n = length-map (take n words) word_of ∙ many in
    subst (λ (y : Standing). y.fields ≡ map word_of (take (length y.fields) (drop (0 + 2) (w ∷ ws)))) is
    (ap (λ k. map word_of (take k words)) (sym count))
fields_in-words (w ∷ ws) zero (suc place) o e whole =
    let at : suc place + 2 ≡ suc (place + 2) = omega arith in
    fields_in-words ws (suc (fields_in w)) place o e whole
    ∙ ap (λ k. map word_of (take (length o.fields) (drop k (w ∷ ws)))) (sym at)
fields_in-words (w ∷ ws) (suc skip) zero o e whole = cc
fields_in-words (w ∷ ws) (suc skip) (suc place) o e whole =
    let at : suc place + 2 ≡ suc (place + 2) = omega arith in
    fields_in-words ws skip place o e whole ∙ ap (λ k. map word_of (take (length o.fields) (drop k (w ∷ ws)))) (sym at)

both : (a b : Bool) → a && b ≡ true → (a ≡ true) × (b ≡ true)
both true b e = (refl, e)
both false b e = cc

-- the first word of what stands says its kind
pub header_says_kind : (ws : List ℕ) (skip place : ℕ) (o : Standing) (x : ℕ) → object_in ws skip place ≡ Some o
    → slice_get ws place ≡ Some x → all_headers ws skip ≡ true → is_kind_number (kind_in x) ≡ true
unfolding object_in all_headers
header_says_kind [] skip place o x e read all = cc
header_says_kind (w ∷ ws) zero zero o x e read all =
    let same : w ≡ x = cc in
    ap (λ n. is_kind_number (kind_in n)) (sym same) ∙ (both _ _ all).0
header_says_kind (w ∷ ws) zero (suc place) o x e read all =
    header_says_kind ws (suc (fields_in w)) place o x e read (both _ _ all).1
header_says_kind (w ∷ ws) (suc skip) zero o x e read all = cc
header_says_kind (w ∷ ws) (suc skip) (suc place) o x e read all = header_says_kind ws skip place o x e read all
