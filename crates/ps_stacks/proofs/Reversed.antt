-- A list read from its end.
use Rattle.std.proofs.Common.{◌≡◌, ℕ, ◌-◌, ◌≤◌, List, ◌++◌, length, drop, take, sym, ap, ◌∙◌, arith, ◌∷◌, [], suc, refl}
use Rattle.std.proofs.Common.{length-drop, append-nil}
use Rattle.std.specs.Prelude.{reverse, slice_range, slice_set, slice_index_or, Some}
use Rattle.std.proofs.lemmas.Slice.{between_to_end}
use Rattle.std.proofs.lemmas.List.{reverse-append, reverse-reverse, set_split, drop_all, set-get_or, length-reverse}
use Rattle.std.proofs.lemmas.List.{take-append-drop, take_all}
use Rattle.std.proofs.Math.Seq.{drop-append_seam, take-append_seam, drop-length, take-length}
use Rattle.ps_stacks.specs.Tops.{rotated, first_of}

-- its parts in the other order
split : {A : Type 0} (xs : List A) (m : ℕ) → reverse xs ≡ reverse (drop m xs) ++ reverse (take m xs)
split xs m = ap reverse (sym (take-append-drop m xs)) ∙ reverse-append (take m xs) (drop m xs)

count : {A : Type 0} (xs : List A) (k : ℕ) → k ≤ length xs
    → length (reverse (drop (length xs - k) xs)) ≡ k
count xs k h = length-reverse (drop (length xs - k) xs)
    ∙ (length-drop (length xs - k) xs ∙ omega arith)

-- what is left without the last items
pub reverse-take : {A : Type 0} (xs : List A) (k : ℕ) → k ≤ length xs
    → reverse (take (length xs - k) xs) ≡ drop k (reverse xs)
reverse-take xs k h =
    let m : ℕ = length xs - k in
    sym (ap (drop k) (split xs m)
    ∙ (ap (λ n. drop n (reverse (drop m xs) ++ reverse (take m xs))) (sym (count xs k h))
    ∙ drop-append_seam (reverse (drop m xs)) (reverse (take m xs))))

-- the last items
pub reverse-drop : {A : Type 0} (xs : List A) (k : ℕ) → k ≤ length xs
    → reverse (drop (length xs - k) xs) ≡ take k (reverse xs)
reverse-drop xs k h =
    let m : ℕ = length xs - k in
    sym (ap (take k) (split xs m)
    ∙ (ap (λ n. take n (reverse (drop m xs) ++ reverse (take m xs))) (sym (count xs k h))
    ∙ take-append_seam (reverse (drop m xs)) (reverse (take m xs))))

-- the last items in front of others, read from the end
pub reverse-rotated : {A : Type 0} (xs : List A) (group places : ℕ) → group ≤ length xs
    → places ≤ group
    → (let rest = drop (length xs - group) xs in let kept = length rest - places in
    reverse (take (length xs - group) xs ++ (drop kept rest ++ take kept rest)) ≡ rotated places
    (take group (reverse xs)) ++ drop group (reverse xs))
reverse-rotated xs group places h k =
    let rest : List _ = drop (length xs - group) xs in
    let size : length rest ≡ group = length-drop (length xs - group) xs ∙ omega arith in
    let few : places ≤ length rest = omega (arith, size) in
    let kept : ℕ = length rest - places in
    let front : reverse rest ≡ take group (reverse xs) = reverse-drop xs group h in
    reverse-append (take (length xs - group) xs) (drop kept rest ++ take kept rest)
    ∙ (ap (λ tail. reverse (drop kept rest ++ take kept rest) ++ tail) (reverse-take xs group h)
    ∙ ap (λ head. head ++ drop group (reverse xs))
    (reverse-append (drop kept rest) (take kept rest)
    ∙ (ap (λ x. x ++ reverse (drop kept rest)) (reverse-take rest places few)
    ∙ (ap (λ x. drop places (reverse rest) ++ x) (reverse-drop rest places few)
    ∙ ap (rotated places) front))))

-- the same of what a buffer holds before and after
pub rotated_buffer : {A : Type 0} (items new now : List A) (start group places : ℕ)
    → new ≡ (let rest = drop start items in let kept = length rest - places in take start items
    ++ (drop kept rest ++ take kept rest))
    → start ≡ length items - group → group ≤ length items → places ≤ group → reverse items ≡ now
    → reverse new ≡ rotated places (take group now) ++ drop group now
rotated_buffer items new now start group places is at h k view =
    rw (is, at, ← view) (reverse-rotated items group places h k)

-- the last items again
pub repeated_buffer : {A : Type 0} (items new now : List A) (from to count : ℕ)
    → new ≡ items ++ slice_range items from to → to ≡ length items → from ≡ length items - count
    → count ≤ length items → reverse items ≡ now
    → reverse new ≡ take count now ++ now
repeated_buffer items new now from to count is end at h view =
    let last : slice_range items from to ≡ drop (length items - count) items =
    between_to_end items from to (omega arith) ∙ ap (λ n. drop n items) at in
    ap reverse (is ∙ ap (λ tail. items ++ tail) last)
    ∙ (reverse-append items (drop (length items - count) items)
    ∙ (ap (λ head. head ++ reverse items) (reverse-drop items count h)
    ∙ ap (λ xs. take count xs ++ xs) view))

-- what a buffer holds behind a loan of all of it
pub written_back : {A : Type 0} (old new : List A) (n : ℕ) → length new ≡ length old
    → n ≡ length old → take n (new ++ drop (length new) old) ≡ new
written_back old new n same size =
    rw (size, same, drop-length, append-nil) (ap (λ k. take k new) (sym same) ∙ take-length new)

-- the last items as they stand
pub last_buffer : {A : Type 0} (items now : List A) (size count : ℕ)
    → size ≡ length items → count ≤ length items → reverse items ≡ now
    → take (length items - (size - count)) (drop (size - count) items) ≡ reverse (take count now)
last_buffer items now size count at h view =
    let all : take (length items - (size - count)) (drop (size - count) items) ≡ drop (size - count)
    items =
    take_all (length items - (size - count)) (drop (size - count) items)
    (omega (arith, length-drop (size - count) items)) in
    all
    ∙ (ap (λ n. drop (n - count) items) at
    ∙ (sym (reverse-reverse (drop (length items - count) items))
    ∙ (ap reverse (reverse-drop items count h)
    ∙ ap (λ xs. reverse (take count xs)) view)))

-- the last item anew
pub reverse-set : {A : Type 0} (items now : List A) (at : ℕ) (item : A) → at ≡ length items - 1
    → 1 ≤ length now → reverse items ≡ now
    → reverse (slice_set items at item) ≡ item ∷ drop 1 now
reverse-set items now at item is h view =
    let some : 1 ≤ length items = omega (arith, length-reverse items, ap length view) in
    let none : drop (suc at) items ≡ [] = drop_all (suc at) items (omega (arith, is)) in
    ap reverse (set_split items at item (omega (arith, is))
    ∙ ap (λ rest. take at items ++ item ∷ rest) none)
    ∙ (reverse-append (take at items) (item ∷ [])
    ∙ ap (λ rest. item ∷ rest)
    (ap (λ n. reverse (take n items)) is ∙ (reverse-take items 1 some ∙ ap (drop 1) view)))

first-more : {A : Type 0} (xs : List A) (y : A) → first_of (reverse (xs ++ y ∷ [])) ≡ Some y
first-more xs y = rw (reverse-append xs (y ∷ [])) refl

-- the last item is the first of the others
pub first-last : {A : Type 0} (items : List A) (item : A) (at : ℕ) → at ≡ length items - 1
    → 1 ≤ length items → item ≡ slice_index_or items at item → first_of (reverse items) ≡ Some item
first-last items item at is some h =
    let none : drop (suc at) items ≡ [] = drop_all (suc at) items (omega (arith, is)) in
    let same : slice_set items at item ≡ items = ap (λ x. slice_set items at x) h
    ∙ set-get_or items at item in
    let split : items ≡ take at items ++ item ∷ [] =
    sym same ∙ (set_split items at item (omega (arith, is))
    ∙ ap (λ rest. take at items ++ item ∷ rest) none) in
    ap (λ xs. first_of (reverse xs)) split ∙ first-more (take at items) item
