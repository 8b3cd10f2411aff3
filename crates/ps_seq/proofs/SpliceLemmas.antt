-- The words of a text after some of its bytes have changed.
use Rattle.std.proofs.Common.{◌≡◌, ℕ, zero, suc, ◌+◌, ◌-◌, ◌*◌, ◌<◌, ◌≤◌, List, [], ◌∷◌, ◌++◌, length, take, drop, get_or, refl, sym, ap, arith, ◌∙◌, inl, inr}
use Rattle.std.specs.Int.{w64, from_le_bytes}
use borrow.Rule.Slice.PartMut.{put_mid}
use Rattle.std.proofs.lemmas.Bool.{cases_lt}
use Rattle.std.proofs.lemmas.List.{get_or-take, get_or-drop, get_or_past, drop-drop, length-take, length-take-le, length-drop, take_at, drop_at, drop_all}
use Rattle.ps_language.specs.Access.{splice}
use Rattle.ps_mem.specs.Objects.{word_of}
use Rattle.ps_mem.specs.References.{words_for}
use Rattle.ps_mem.specs.Strings.{number_of_bytes, words_from, words_of}
use Rattle.ps_mem.proofs.Lists.{splice-zero, splice-suc, length-splice}
use Rattle.ps_seq.proofs.ByteLemmas.{padded, get_or-padded, length-padded}

-- ---- the items of a splice

pub splice_before : (old : List ℕ) (place : ℕ) (items : List ℕ) (i : ℕ) → i < place
    → place ≤ length old → get_or (splice old place items) i 0 ≡ get_or old i 0
splice_before old zero items i before within = absurd (omega arith)
splice_before [] (suc place) items i before within = absurd (omega arith)
splice_before (y ∷ old) (suc place) items zero before within = ap (λ xs. get_or xs 0 0)
    (splice-suc y old place items)
splice_before (y ∷ old) (suc place) items (suc i) before within =
    ap (λ xs. get_or xs (suc i) 0) (splice-suc y old place items) ∙ splice_before old place items i
    (omega arith) (omega arith)

get_or-left : (xs ys : List ℕ) (i : ℕ) → i < length xs → get_or (xs ++ ys) i 0 ≡ get_or xs i 0
get_or-left [] ys i below = absurd (omega arith)
get_or-left (x ∷ xs) ys zero below = refl
get_or-left (x ∷ xs) ys (suc i) below = get_or-left xs ys i (omega arith)

get_or-right : (xs ys : List ℕ) (j : ℕ) → get_or (xs ++ ys) (length xs + j) 0 ≡ get_or ys j 0
get_or-right [] ys j = let e : 0 + j ≡ j = omega arith in ap (λ k. get_or ys k 0) e
get_or-right (x ∷ xs) ys j = let e : suc (length xs) + j ≡ suc (length xs + j) = omega arith in ap
    (λ k. get_or (x ∷ (xs ++ ys)) k 0) e ∙ get_or-right xs ys j

pub splice_within : (old : List ℕ) (place : ℕ) (items : List ℕ) (j : ℕ) → j < length items
    → place ≤ length old → get_or (splice old place items) (place + j) 0 ≡ get_or items j 0
splice_within old zero items j below within =
    let e : 0 + j ≡ j = omega arith in
    ap (λ k. get_or (splice old 0 items) k 0) e ∙ (ap (λ xs. get_or xs j 0) (splice-zero old items)
    ∙ get_or-left items (drop (length items) old) j below)
splice_within [] (suc place) items j below within = absurd (omega arith)
splice_within (y ∷ old) (suc place) items j below within =
    let e : suc place + j ≡ suc (place + j) = omega arith in
    ap (λ k. get_or (splice (y ∷ old) (suc place) items) k 0) e
    ∙ (ap (λ xs. get_or xs (suc (place + j)) 0) (splice-suc y old place items)
    ∙ splice_within old place items j below (omega arith))

pub splice_behind : (old : List ℕ) (place : ℕ) (items : List ℕ) (i : ℕ) → place + length items ≤ i
    → place ≤ length old → get_or (splice old place items) i 0 ≡ get_or old i 0
splice_behind old zero items i behind within =
    let e : length items + (i - length items) ≡ i = omega arith in
    ap (λ k. get_or (splice old 0 items) k 0) (sym e)
    ∙ (ap (λ xs. get_or xs (length items + (i - length items)) 0) (splice-zero old items)
    ∙ (get_or-right items (drop (length items) old) (i - length items)
    ∙ (get_or-drop (length items) old (i - length items) 0 ∙ ap (λ k. get_or old k 0) e)))
splice_behind [] (suc place) items i behind within = absurd (omega arith)
splice_behind (y ∷ old) (suc place) items zero behind within = absurd (omega arith)
splice_behind (y ∷ old) (suc place) items (suc i) behind within =
    ap (λ xs. get_or xs (suc i) 0) (splice-suc y old place items) ∙ splice_behind old place items i
    (omega arith) (omega arith)

-- ---- numbers and words of the same bytes

pub same_number : (xs ys : List ℕ) → ((i : ℕ) → get_or xs i 0 ≡ get_or ys i 0) → number_of_bytes xs
    ≡ number_of_bytes ys
unfolding number_of_bytes
same_number [] [] same = refl
same_number [] (y ∷ ys) same = let first : 0 ≡ y = same 0 in let rest = same_number [] ys (λ i. same
    (suc i)) in omega (arith, first, rest)
same_number (x ∷ xs) [] same = let first : x ≡ 0 = same 0 in let rest = same_number xs [] (λ i. same
    (suc i)) in omega (arith, first, rest)
same_number (x ∷ xs) (y ∷ ys) same = let first : x ≡ y = same 0 in let rest = same_number xs ys
    (λ i. same (suc i)) in omega (arith, first, rest)

-- bytes that are those of a run of eight
pub same_as_run : (xs ys : List ℕ) → length xs ≤ 8 → ((i : ℕ) → i < 8 → get_or xs i 0
    ≡ get_or ys i 0) → number_of_bytes xs ≡ number_of_bytes (take 8 ys)
same_as_run xs ys short same = same_number xs (take 8 ys) (λ i. elim (cases_lt i 8) [
  | inl below ↦ same i below ∙ sym (get_or-take 8 ys i 0 below)
  | inr past ↦
      get_or_past xs i 0 (omega (arith, short, past)) ∙ sym (get_or_past (take 8 ys) i 0 (omega
      (arith, past, length-take 8 ys)))
])

short_take : (ys : List ℕ) → length (take 8 ys) ≤ 8
short_take ys = omega (arith, length-take 8 ys)

pub same_words : (n : ℕ) (xs ys : List ℕ) → ((i : ℕ) → i < 8 * n → get_or xs i 0 ≡ get_or ys i 0)
    → words_from n xs ≡ words_from n ys
unfolding words_from
same_words zero xs ys same = refl
same_words (suc n) xs ys same =
    let first = same_as_run (take 8 xs) ys (short_take xs) (λ i below. get_or-take 8 xs i 0 below
    ∙ same i (omega (arith, below))) in
    let rest = same_words n (drop 8 xs) (drop 8 ys) (λ i below. get_or-drop 8 xs i 0 ∙ (same (8 + i)
    (omega (arith, below)) ∙ sym (get_or-drop 8 ys i 0))) in
    λ k. word_of (first k) ∷ rest k

-- ---- runs of the words of a text

pub length-words_from : (n : ℕ) (bs : List ℕ) → length (words_from n bs) ≡ n
unfolding words_from
length-words_from zero bs = refl
length-words_from (suc n) bs = ap suc (length-words_from n (drop 8 bs))

pub words_from-add : (m n : ℕ) (bs : List ℕ) → words_from (m + n) bs
    ≡ words_from m bs ++ words_from n (drop (8 * m) bs)
unfolding words_from
words_from-add zero n bs = let e : 0 + n ≡ n = omega arith in ap (λ k. words_from k bs) e
words_from-add (suc m) n bs =
    let e : suc m + n ≡ suc (m + n) = omega arith in
    let next : 8 + 8 * m ≡ 8 * suc m = omega arith in
    ap (λ k. words_from k bs) e
    ∙ ap (λ ws. word_of (number_of_bytes (take 8 bs)) ∷ ws) (words_from-add m n (drop 8 bs) ∙ ap
    (λ ds. words_from m (drop 8 bs) ++ words_from n ds) (drop-drop (8 * m) 8 bs ∙ ap
    (λ k. drop k bs) next))

pub words_from-more : (n : ℕ) (bs : List ℕ) → words_from n bs ++ word_of (number_of_bytes (take 8
    (drop (8 * n) bs))) ∷ [] ≡ words_from (n + 1) bs
unfolding words_from
words_from-more n bs = sym (words_from-add n 1 bs)

-- a run of the words of a text
pub words_from-run : (n first count : ℕ) (bs : List ℕ) → first + count ≤ n
    → take count (drop first (words_from n bs)) ≡ words_from count (drop (8 * first) bs)
words_from-run n first count bs fits =
    let rest = n - (first + count) in
    let behind = words_from rest (drop (8 * count) (drop (8 * first) bs)) in
    let whole : n ≡ first + (count + rest) = omega (arith, fits) in
    ap (λ m. take count (drop first (words_from m bs))) whole
    ∙ (ap (λ ws. take count (drop first ws)) (words_from-add first (count + rest) bs)
    ∙ (ap (take count) (drop_at (words_from first bs) (words_from (count + rest) (drop
    (8 * first) bs)) first (length-words_from first bs))
    ∙ (ap (take count) (words_from-add count rest (drop (8 * first) bs))
    ∙ take_at (words_from count (drop (8 * first) bs)) behind count (length-words_from count (drop
    (8 * first) bs)))))

pub words_from-taken : (n : ℕ) (bs : List ℕ) → words_from n (take (8 * n) bs) ≡ words_from n bs
words_from-taken n bs = same_words n (take (8 * n) bs) bs
    (λ i below. get_or-take (8 * n) bs i 0 below)

-- where a text has others put into it, words of which all bytes are among these are theirs
pub words_from-spliced : (old : List ℕ) (place : ℕ) (text : List ℕ) (k from n : ℕ)
    → place + from ≡ 8 * k → from + 8 * n ≤ length text → place ≤ length old
    → words_from n (take (8 * n) (drop from text))
    ≡ words_from n (drop (8 * k) (splice old place text))
words_from-spliced old place text k from n at fits within =
    words_from-taken n (drop from text)
    ∙ same_words n (drop from text) (drop (8 * k) (splice old place text)) (λ i below.
    let there : place + (from + i) ≡ 8 * k + i = omega (arith, at) in
    get_or-drop from text i 0
    ∙ (sym (splice_within old place text (from + i) (omega (arith, below, fits)) within)
    ∙ (ap (λ m. get_or (splice old place text) m 0) there
    ∙ sym (get_or-drop (8 * k) (splice old place text) i 0))))

-- bytes of a text that are put at the beginning of a word of another are these words there
pub words_from-copied : (text from : List ℕ) (first source count : ℕ)
    → 8 * first + 8 * count ≤ length text → 8 * source + 8 * count ≤ length from
    → words_from count (drop (8 * source) from) ≡ words_from count (drop (8 * first) (splice text
    (8 * first) (take (8 * count) (drop (8 * source) from))))
words_from-copied text from first source count fits within =
    let bs = take (8 * count) (drop (8 * source) from) in
    let size : length bs ≡ 8 * count = length-take-le (8 * count) (drop (8 * source) from) (omega
    (arith, within, length-drop (8 * source) from)) in
    sym (words_from-taken count (drop (8 * source) from))
    ∙ (sym (words_from-taken count bs)
    ∙ words_from-spliced text (8 * first) bs first 0 count (omega arith) (omega (arith, size))
    (omega (arith, fits)))

-- where only bytes of the words of a run differ, the run alone has changed
pub splice_words : (old new : List ℕ) (first count rest : ℕ) → ((i : ℕ) → i < 8 * first
    → get_or old i 0 ≡ get_or new i 0) → ((i : ℕ) → 8 * (first + count) ≤ i → get_or old i 0
    ≡ get_or new i 0) →
    splice (words_from (first + (count + rest)) old) first (words_from count (drop (8 * first) new))
    ≡ words_from (first + (count + rest)) new
unfolding splice
splice_words old new first count rest before behind =
    let items = words_from count (drop (8 * first) new) in
    let front = words_from first old in
    let mid = words_from count (drop (8 * first) old) in
    let all : words_from (first + (count + rest)) old ≡ front ++ words_from (count + rest) (drop
    (8 * first) old) = words_from-add first (count + rest) old in
    let back : words_from (first + (count + rest)) old ≡ words_from
    (first + count) old ++ words_from rest (drop (8 * (first + count)) old) =
    (let e : first + (count + rest) ≡ (first + count) + rest = omega arith in ap
    (λ k. words_from k old) e ∙ words_from-add (first + count) rest old) in
    let same_front : front ≡ words_from first new = same_words first old new before in
    let same_rest : words_from rest (drop (8 * (first + count)) old) ≡ words_from rest (drop (8 *
    (first + count)) new) =
    same_words rest (drop (8 * (first + count)) old) (drop (8 * (first + count)) new)
    (λ i below. get_or-drop (8 * (first + count)) old i 0 ∙ (behind (8 * (first + count) + i)
    (omega arith) ∙ sym (get_or-drop (8 * (first + count)) new i 0))) in
    let end : first + length items ≡ first + count = ap (λ k. first + k) (length-words_from count
    (drop (8 * first) new)) in
    let taken : take first (words_from (first + (count + rest)) old) ≡ words_from first new = ap
    (take first) all ∙ (take_at front (words_from (count + rest) (drop (8 * first) old)) first
    (length-words_from first old) ∙ same_front) in
    let dropped : drop (first + length items) (words_from (first + (count + rest)) old)
    ≡ words_from rest (drop (8 * (first + count)) new) =
    ap (λ k. drop k (words_from (first + (count + rest)) old)) end
    ∙ (ap (drop (first + count)) back
    ∙ (drop_at (words_from (first + count) old) (words_from rest (drop (8 * (first + count)) old))
    (first + count) (length-words_from (first + count) old) ∙ same_rest)) in
    let there : drop (8 * count) (drop (8 * first) new) ≡ drop (8 * (first + count)) new = drop-drop
    (8 * count) (8 * first) new ∙ (let e : 8 * first + 8 * count ≡ 8 *
    (first + count) = omega arith in ap (λ k. drop k new) e) in
    (λ k. taken k ++ (items ++ dropped k))
    ∙ (ap (λ ds. words_from first new ++ (items ++ words_from rest ds)) (sym there)
    ∙ (ap (λ ws. words_from first new ++ ws) (sym (words_from-add count rest (drop
    (8 * first) new))) ∙ sym (words_from-add first (count + rest) new)))

-- bytes put into a text: the run of the words that have them is put into its words
pub words_of-splice : (text : List ℕ) (at : ℕ) (bs : List ℕ) (first count : ℕ)
    → at + length bs ≤ length text → 8 * first ≤ at → at + length bs ≤ 8 * (first + count)
    → first + count ≤ words_for (length text) →
    splice (words_of text) first (words_from count (drop (8 * first) (splice text at bs)))
    ≡ words_of (splice text at bs)
words_of-splice text at bs first count within low high fits =
    let rest = words_for (length text) - (first + count) in
    let whole : words_for (length text) ≡ first + (count + rest) = omega (arith, fits) in
    let same : length (splice text at bs) ≡ length text = length-splice text at bs within in
    let new = splice text at bs in
    ap (λ n. splice (words_from n text) first (words_from count (drop (8 * first) new))) whole
    ∙ (splice_words text new first count rest
    (λ i before. sym (splice_before text at bs i (omega (arith, before, low)) (omega
    (arith, within))))
    (λ i behind. sym (splice_behind text at bs i (omega (arith, behind, high)) (omega
    (arith, within))))
    ∙ (ap (λ n. words_from n new) (sym whole) ∙ ap (λ n. words_from (words_for n) new) (sym same)))

-- ---- one word

-- a word of a text with some of its bytes changed is the word of the text with these bytes put into
-- it: the word's bytes are those from `from` to
-- `upto`, of a run of bytes at a place
pub changed_word : (text : List ℕ) (at : ℕ) (bs : List ℕ) (k r : ℕ) (chunk : List ℕ)
    → at + length bs ≤ length text → r + length chunk ≤ 8 →
    ((j : ℕ) → j < length chunk → (at ≤ 8 * k + (r + j)) × (get_or chunk j 0 ≡ get_or bs ((8 * k +
    (r + j)) - at) 0)) →
    ((i : ℕ) → i < r → 8 * k + i < at) → ((i : ℕ) → i < 8 → r + length chunk ≤ i
    → at + length bs ≤ 8 * k + i) → 8 * k + (r + length chunk) ≤ at + length bs →
    number_of_bytes (splice (padded 8 (drop (8 * k) text)) r chunk) ≡ number_of_bytes (take 8 (drop
    (8 * k) (splice text at bs)))
changed_word text at bs k r chunk within fits inside before behind last =
    let old = padded 8 (drop (8 * k) text) in
    let long : length old ≡ 8 = length-padded 8 (drop (8 * k) text) in
    let long' : length (splice old r chunk) ≡ length old = length-splice old r chunk (omega
    (arith, long, fits)) in
    let new = splice text at bs in
    same_as_run (splice old r chunk) (drop (8 * k) new) (omega (arith, long, long')) (λ i below.
    let was : get_or old i 0 ≡ get_or text (8 * k + i) 0 = get_or-padded 8 (drop
    (8 * k) text) i below ∙ get_or-drop (8 * k) text i 0 in
    let goal_is : get_or (drop (8 * k) new) i 0 ≡ get_or new (8 * k + i) 0 = get_or-drop
    (8 * k) new i 0 in
    elim (cases_lt i r) [
      | inl early ↦
          splice_before old r chunk i early (omega (arith, long, fits))
          ∙ (was ∙ (sym (splice_before text at bs (8 * k + i) (before i early) (omega
          (arith, within))) ∙ sym goal_is))
      | inr later ↦ elim (cases_lt i (r + length chunk)) [
        | inl here ↦
            let j = i - r in
            let place : r + j ≡ i = omega (arith, later) in
            let found = inside j (omega (arith, here, later)) in
            let low = found.0 in
            let from : at + ((8 * k + (r + j)) - at) ≡ 8 * k + i = omega (arith, place, low) in
            ap (λ n. get_or (splice old r chunk) n 0) (sym place)
            ∙ (splice_within old r chunk j (omega (arith, here, later)) (omega (arith, long, fits))
            ∙ (found.1
            ∙ (sym (splice_within text at bs ((8 * k + (r + j)) - at) (omega
            (arith, here, later, last, place, low)) (omega (arith, within)))
            ∙ (ap (λ n. get_or new n 0) from ∙ sym goal_is))))
        | inr past ↦
            splice_behind old r chunk i past (omega (arith, long, fits))
            ∙ (was ∙ (sym (splice_behind text at bs (8 * k + i) (behind i below past) (omega
            (arith, within))) ∙ sym goal_is))
      ]
    ])

-- ---- eight bytes as a number

split_at : (i : ℕ) (bs : List ℕ) → number_of_bytes (drop i bs)
    ≡ get_or bs i 0 + 256 * number_of_bytes (drop (suc i) bs)
unfolding number_of_bytes
split_at zero [] = refl
split_at zero (b ∷ bs) = refl
split_at (suc i) [] = refl
split_at (suc i) (b ∷ bs) = split_at i bs

pub from_le_bytes-number : (bs : List ℕ) → length bs ≡ 8 → from_le_bytes w64 bs ≡ number_of_bytes bs
unfolding number_of_bytes
from_le_bytes-number bs long =
    let none : number_of_bytes (drop 8 bs) ≡ 0 = ap number_of_bytes (drop_all 8 bs (omega
    (arith, long))) in
    omega (
      arith,
      none,
      split_at 0 bs,
      split_at 1 bs,
      split_at 2 bs,
      split_at 3 bs,
      split_at 4 bs,
      split_at 5 bs,
      split_at 6 bs,
      split_at 7 bs,
    )

-- what is left after a write to a part of the bytes
pub put_mid-splice : (a k : ℕ) (xs ys items : List ℕ) → ys ≡ items → k ≡ length items
    → put_mid a k xs ys ≡ splice xs a items
unfolding splice
put_mid-splice a k xs ys items same count =
    ap (λ zs. take a xs ++ (zs ++ drop k (drop a xs))) same
    ∙ (ap (λ n. take a xs ++ (items ++ drop n (drop a xs))) count ∙ ap (λ ds. take a xs ++
    (items ++ ds)) (drop-drop (length items) a xs))
