-- One item more in a host's room.
use Rattle.std.proofs.Common.{◌≡◌, ℕ, ◌+◌, ◌<◌, ◌≤◌, List, [], ◌∷◌, ◌++◌, take, drop, map, length, get_or, set, sym, subst, ◌∙◌, ap, arith}
use Rattle.ps_run_hosts.specs.Hosts.{handed}
use Rattle.std.proofs.lemmas.List.{take_more, drop_more, drop_all, length-drop, take_all, set_at, take-map, map-append, append_assoc, length-take-le, length-map}

-- where so many items stand in the room, the next comes behind them
pub one_more : {A B : Type 0} (f : A → B) (xs : List A) (room before : List B) (i : ℕ) (d : A)
    → i < length xs → i < length before → room ≡ take i (map f xs) ++ drop i before
    → set room i (f (get_or xs i d)) ≡ take (i + 1) (map f xs) ++ drop (i + 1) before
one_more {A} {B} f xs room before i d lt fits is =
    let y : B = f (get_or xs i d) in
    let front : List B = take i (map f xs) in
    let rest : List B = drop (i + 1) before in
    let within : i ≤ length (map f xs) = subst (λ (n : ℕ). i ≤ n) (sym (length-map xs f)) (omega (arith, lt)) in
    let long : length front ≡ i = length-take-le i (map f xs) within in
    let taken : take (i + 1) (map f xs) ≡ front ++ y ∷ [] =
    take-map f (i + 1) xs ∙ (ap (map f) (take_more xs i d lt)
    ∙ (map-append f (take i xs) (get_or xs i d ∷ [])
    ∙ ap (λ (ys : List B). ys ++ y ∷ []) (sym (take-map f i xs)))) in
    ap (λ (r : List B). set r i y) (is ∙ ap (λ (ys : List B). front ++ ys) (drop_more before i y fits))
    ∙ (set_at front (get_or before i y) rest y i long
    ∙ (sym (append_assoc front (y ∷ []) rest) ∙ ap (λ (ys : List B). ys ++ rest) (sym taken)))

-- what is behind so many items, where one is left
pub record IsNextOf {A : Type 0} (xs : List A) (i : ℕ) (x d : A) (rest : List A) : Type 0 where
  pub less : i < length xs
  pub is : get_or xs i d ≡ x
  pub behind : drop (i + 1) xs ≡ rest

pub next_of : {A : Type 0} (xs rest : List A) (i : ℕ) (x d : A) → drop i xs ≡ x ∷ rest
    → IsNextOf xs i x d rest
next_of {A} xs rest i x d is =
    let size = ap {B = ℕ} (λ (ys : List A). length ys) is in
    let left = length-drop i xs in
    let less : i < length xs = omega (arith, size, left) in
    let both : get_or xs i d ∷ drop (i + 1) xs ≡ x ∷ rest = sym (drop_more xs i d less) ∙ is in
    record {
      less = less;
      is = ap (λ (ys : List A). get_or ys 0 d) both;
      behind = ap (λ (ys : List A). drop 1 ys) both;
    }

-- where none is left all stand in the room
pub all_stand : {A B : Type 0} (f : A → B) (xs : List A) (before : List B) (i : ℕ)
    → i ≤ length xs → i ≤ length before → drop i xs ≡ []
    → take i (map f xs) ++ drop i before ≡ handed (map f xs) before
all_stand {A} {B} f xs before i within fits none =
    let size = ap {B = ℕ} (λ (ys : List A). length ys) none in
    let left = length-drop i xs in
    let same : i ≡ length xs = omega (arith, size, left, within) in
    let long : length (map f xs) ≡ length xs = length-map xs f in
    let whole : take i (map f xs) ≡ map f xs = take_all i (map f xs) (omega (arith, same, long)) in
    let all : take (length before) (map f xs) ≡ map f xs =
    take_all (length before) (map f xs) (omega (arith, same, long, fits)) in
    (λ k. (whole ∙ sym all) k ++ drop ((same ∙ sym long) k) before)

-- where the room is full no more do
pub room_full : {A B : Type 0} (f : A → B) (xs : List A) (before : List B) (i : ℕ)
    → i ≤ length xs → i ≡ length before
    → take i (map f xs) ++ drop i before ≡ handed (map f xs) before
room_full {A} {B} f xs before i within full =
    let long : length (map f xs) ≡ length xs = length-map xs f in
    let none : drop i before ≡ [] = drop_all i before (omega (arith, full)) in
    let past : drop (length (map f xs)) before ≡ [] =
    drop_all (length (map f xs)) before (omega (arith, full, within, long)) in
    (λ k. take (full k) (map f xs) ++ (none ∙ sym past) k)
