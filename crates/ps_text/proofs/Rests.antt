-- What is left of a text: of elements, of bytes and of lines.
use Rattle.std.proofs.Common.{◌≡◌, ℕ, zero, suc, ◌+◌, ◌-◌, ◌<◌, ◌≤◌, List, [], ◌∷◌, ◌++◌, length, map, take, drop}
use Rattle.std.proofs.Common.{reverse, get_or, Some, refl, sym, ap, arith, ◌∙◌, append_assoc}
use Rattle.std.specs.Prelude.{slice_get, slice_range}
use Rattle.std.specs.List.{flat_map, join_with_byte, AllByRecursion}
use Rattle.std.proofs.Math.Seq.{take-suc}
use Rattle.std.proofs.lemmas.Grind.{flat_map-append}
use Rattle.std.proofs.lemmas.List.{append-nil, length-append, length-drop, reverse-append, take_all, get_or-drop}
use Rattle.ps_text.specs.Shown.{separator}
use Rattle.ps_text.proofs.Cuts.{cut_more, cut_full, longer}

-- ---- the parts of lists

drop_next : {A : Type 0} (xs : List A) (i : ℕ) (x : A) → slice_get xs i ≡ Some x → drop i xs ≡ x ∷ drop (i + 1) xs
drop_next [] i x e = cc
drop_next (y ∷ xs) zero x e = let same : y ≡ x = cc in ap (λ z. z ∷ xs) same
drop_next (y ∷ xs) (suc i) x e = let next : suc i + 1 ≡ suc (i + 1) = omega arith in
    drop_next xs i x e ∙ ap (λ n. x ∷ drop n (y ∷ xs)) (sym next)

get_take : {A : Type 0} (n : ℕ) (xs : List A) (i : ℕ) (x : A) → i < n → slice_get xs i ≡ Some x
    → slice_get (take n xs) i ≡ Some x
get_take zero xs i x below e = absurd (omega arith)
get_take (suc n) [] i x below e = cc
get_take (suc n) (y ∷ xs) zero x below e = e
get_take (suc n) (y ∷ xs) (suc i) x below e = get_take n xs i x (omega arith) e

get_drop : {A : Type 0} (n : ℕ) (xs : List A) (i : ℕ) → slice_get (drop n xs) i ≡ slice_get xs (n + i)
get_drop zero xs i = let same : i ≡ zero + i = omega arith in ap (slice_get xs) same
get_drop (suc n) [] i = refl
get_drop (suc n) (x ∷ xs) i = let next : suc (n + i) ≡ suc n + i = omega arith in
    get_drop n xs i ∙ ap (slice_get (x ∷ xs)) next

-- an item of a part is the first of what is left of it
pub part_next : {A : Type 0} (xs : List A) (offset count i : ℕ) (x : A) → i < count → slice_get xs (offset + i) ≡ Some x
    →
    drop i (slice_range xs offset (offset + count)) ≡ x ∷ drop (i + 1) (slice_range xs offset (offset + count))
part_next xs offset count i x below e =
    drop_next _ i x (get_take _ (drop offset xs) i x (omega arith) (get_drop offset xs i ∙ e))

drop_none : {A : Type 0} (n : ℕ) (xs : List A) (i : ℕ) → n ≤ i → drop i (take n xs) ≡ []
drop_none zero xs zero h = refl
drop_none zero xs (suc i) h = refl
drop_none (suc n) xs zero h = absurd (omega arith)
drop_none (suc n) [] (suc i) h = refl
drop_none (suc n) (x ∷ xs) (suc i) h = drop_none n xs i (omega arith)

-- behind its end nothing is left
pub part_end : {A : Type 0} (xs : List A) (offset count i : ℕ) → count ≤ i
    → drop i (slice_range xs offset (offset + count)) ≡ []
part_end xs offset count i h = drop_none ((offset + count) - offset) (drop offset xs) i (omega arith)

-- ---- the text of the elements from an index on

abbrev pub rest_text : ℕ → List (List ℕ) → List ℕ
rest_text zero texts = join_with_byte 32 texts
rest_text (suc i) texts = flat_map (λ text. 32 ∷ text) texts

join-cons : (text : List ℕ) (texts : List (List ℕ))
    → join_with_byte 32 (text ∷ texts) ≡ text ++ flat_map (λ next. 32 ∷ next) texts
join-cons text [] = sym (append-nil text)
join-cons text (next ∷ texts) = ap (λ rest. text ++ 32 ∷ rest) (join-cons next texts)

pub rest_next : (i : ℕ) (text : List ℕ) (texts : List (List ℕ))
    → rest_text i (text ∷ texts) ≡ separator i ++ (text ++ rest_text (i + 1) texts)
rest_next zero text texts = join-cons text texts
rest_next (suc i) text texts = let next : suc i + 1 ≡ suc (i + 1) = omega arith in
    ap (λ n. 32 ∷ (text ++ rest_text n texts)) (sym next)

pub rest_end : (i : ℕ) → rest_text i [] ≡ []
rest_end zero = refl
rest_end (suc i) = refl

module _ {A : Type 0} (text : A → List ℕ) (end : ℕ) (all now : List ℕ) (i : ℕ) (xs : List A) (x : A) (left : drop i xs
    ≡ x ∷ drop (i + 1) xs)
    (rest : take end (now ++ rest_text i (map text (drop i xs))) ≡ all) where
  abbrev after : List ℕ
  after = rest_text (i + 1) (map text (drop (i + 1) xs))

  here : take end (now ++ (separator i ++ (text x ++ after))) ≡ all
  here = sym (ap (λ ys. take end (now ++ rest_text i (map text ys))) left
      ∙ ap (λ t. take end (now ++ t)) (rest_next i (text x) (map text (drop (i + 1) xs)))) ∙ rest

  -- an element more
  module _ (mid : List ℕ) (separated : mid ≡ take end (now ++ separator i)) where
    behind : take end (mid ++ (text x ++ after)) ≡ all
    behind = cut_more end now (separator i) (text x ++ after) mid separated ∙ here

    pub elements_step : (new : List ℕ) → new ≡ take end (mid ++ text x) → take end (new ++ after) ≡ all
    elements_step new written = cut_more end mid (text x) after new written ∙ behind

    -- no room for the element
    pub element_full : (room : ℕ) → room < length (take end (mid ++ text x)) → room < length all
    element_full room h = let more = longer end mid (text x) after in omega (arith, h, more, ap length behind)

  pub separator_full : (room : ℕ) → room < length (take end (now ++ separator i)) → room < length all
  separator_full room h = let more = longer end now (separator i) (text x ++ after) in
      omega (arith, h, more, ap length here)

-- nothing is left
pub elements_end : {A : Type 0} (text : A → List ℕ) (end : ℕ) (all now : List ℕ) (i : ℕ) (xs : List A) → drop i xs ≡ []
    → length now ≤ end →
    take end (now ++ rest_text i (map text (drop i xs))) ≡ all → now ≡ all
elements_end text end all now i xs none short rest =
    sym (ap (λ ys. take end (now ++ rest_text i (map text ys))) none
    ∙ (ap (λ t. take end (now ++ t)) (rest_end i) ∙ (ap (take end) (append-nil now) ∙ take_all end now short)))
    ∙ rest

-- what is full is all
pub full_is_all : (end : ℕ) (all now more : List ℕ) → end ≤ length now → length now ≤ end → take end (now ++ more) ≡ all
    → now ≡ all
full_is_all end all now more full short rest = sym (cut_full end now more full short) ∙ rest

-- ---- the texts of the bytes from an index on

pub texts_end : {A : Type 0} (end : ℕ) (text : A → List ℕ) (all now : List ℕ) (xs : List A) → xs ≡ [] → length now ≤ end
    → take end (now ++ flat_map text xs) ≡ all → now ≡ all
texts_end end text all now xs none short rest =
    sym (ap (λ ys. take end (now ++ flat_map text ys)) none ∙ (ap (take end) (append-nil now) ∙ take_all end now short))
    ∙ rest

-- ---- lines, the last first

module _ {A B : Type 0} (text : B → List ℕ)
    (value : A → B) (all now : List ℕ) (xs below : List A) (x : A) (last : xs ≡ below ++ x ∷ [])
    (rest : now ++ flat_map text (map value (reverse xs)) ≡ all) where
  abbrev lines_below : List ℕ
  lines_below = flat_map text (map value (reverse below))

  lines_here : now ++ (text (value x) ++ lines_below) ≡ all
  lines_here = sym (ap (λ ys. now ++ flat_map text (map value (reverse ys))) last
      ∙ ap (λ ys. now ++ flat_map text (map value ys)) (reverse-append below (x ∷ []))) ∙ rest

  pub lines_step : (new : List ℕ) → new ≡ now ++ text (value x) → new ++ lines_below ≡ all
  lines_step new added = ap (λ ys. ys ++ lines_below) added
      ∙ (append_assoc now (text (value x)) lines_below ∙ lines_here)

  pub line_full : (room : ℕ) → room < length (now ++ text (value x)) → room < length all
  line_full room h =
      omega (
        arith,
        h,
        ap length lines_here,
        length-append now (text (value x)),
        length-append now (text (value x) ++ lines_below),
        length-append (text (value x)) lines_below,
      )

module _ {A : Type 0} (P : A → Type 0) where
  pub all_below : (xs : List A) (x : A) → AllByRecursion P (xs ++ x ∷ []) → AllByRecursion P xs
  all_below [] x p = tt
  all_below (y ∷ xs) x p = (p.0, all_below xs x p.1)

  pub all_last : (xs : List A) (x : A) → AllByRecursion P (xs ++ x ∷ []) → P x
  all_last [] x p = p.0
  all_last (y ∷ xs) x p = all_last xs x p.1

-- ---- runs of bytes that are shown so

module _ (end : ℕ) (text : ℕ → List ℕ) (all now : List ℕ) (i n : ℕ) (xs run shown : List ℕ) (left : drop i xs
    ≡ run ++ drop (i + n) xs)
    (is : flat_map text run ≡ shown) (rest : take end (now ++ flat_map text (drop i xs)) ≡ all) where
  abbrev runs_after : List ℕ
  runs_after = flat_map text (drop (i + n) xs)

  runs_here : take end (now ++ (shown ++ runs_after)) ≡ all
  runs_here = sym (ap (λ ys. take end (now ++ flat_map text ys)) left
      ∙ (ap (λ t. take end (now ++ t)) (flat_map-append text run (drop (i + n) xs))
      ∙ ap (λ t. take end (now ++ (t ++ runs_after))) is)) ∙ rest

  pub run_step : (new : List ℕ) → new ≡ take end (now ++ shown) → take end (new ++ runs_after) ≡ all
  run_step new written = cut_more end now shown runs_after new written ∙ runs_here

  pub run_full : (room : ℕ) → room < length (take end (now ++ shown)) → room < length all
  run_full room h = let more = longer end now shown runs_after in omega (arith, h, more, ap length runs_here)

pub slice_none : (xs : List ℕ) (at : ℕ) → slice_range xs at at ≡ []
slice_none xs at = ap (λ k. take k (drop at xs)) (let e : at - at ≡ 0 = omega arith in e)

pub slice_next : (xs : List ℕ) (at i : ℕ) → at ≤ i → i < length xs
    → slice_range xs at (i + 1) ≡ slice_range xs at i ++ get_or xs i 0 ∷ []
slice_next xs at i low below =
    ap (λ k. take k (drop at xs)) (let e : i + 1 - at ≡ suc (i - at) = omega (arith, low) in e)
    ∙ (take-suc (drop at xs) (i - at) 0 (let e = length-drop at xs in omega (arith, e, low, below))
    ∙ ap (λ b. slice_range xs at i ++ b ∷ []) (get_or-drop at xs (i - at) 0
    ∙ ap (λ k. get_or xs k 0) (let e : at + (i - at) ≡ i = omega (arith, low) in e)))

pub slice_one : (xs : List ℕ) (i : ℕ) → i < length xs → slice_range xs i (i + 1) ≡ get_or xs i 0 ∷ []
slice_one xs i below = slice_next xs i i (omega arith) below ∙ ap (λ ys. ys ++ get_or xs i 0 ∷ []) (slice_none xs i)
