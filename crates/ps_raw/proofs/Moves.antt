-- One word moved within a list of words.
use Rattle.std.proofs.Common.{◌≡◌, ℕ, ◌+◌, ◌-◌, ◌<◌, ◌≤◌, List, ◌++◌, ◌∷◌, [], length, take, drop, set, get_or, refl}
use Rattle.std.proofs.Common.{sym, ap, arith, ◌∙◌}
use Rattle.std.proofs.lemmas.List.{get_or-append_right, get_or_append_left, get_or-take, get_or-drop, take_more, set_at}
use Rattle.std.proofs.lemmas.List.{length-take-le, length-drop, length-append, drop_more, take-append-drop}
use Rattle.std.proofs.lemmas.List.{append_assoc}

module _ {X : Type 0} where
  -- the front of a list, items, and what of the list lies behind an index
  abbrev pub put_between : List X → ℕ → List X → ℕ → List X
  put_between xs from items behind = take from xs ++ (items ++ drop behind xs)

  -- what lies behind the items
  pub get_or_behind : (xs : List X) (from behind : ℕ) (items : List X) (k : ℕ) (d : X) → from + length items ≡ behind
      → behind ≤ length xs → behind ≤ k → get_or (put_between xs from items behind) k d ≡ get_or xs k d
  get_or_behind xs from behind items k d ends fits beyond =
      let front : length (take from xs) ≡ from = length-take-le from xs (omega arith) in
      let at : k ≡ behind + (k - behind) = omega arith in
      get_or-append_right (take from xs) (items ++ drop behind xs) from k d front (omega arith)
      ∙ (get_or-append_right items (drop behind xs) (length items) (k - from) d refl (omega arith)
      ∙ (get_or-drop behind xs (k - from - length items) d ∙ ap (λ j. get_or xs j d) (omega arith)))

  -- what lies before the items
  pub get_or_before : (xs : List X) (from behind : ℕ) (items : List X) (k : ℕ) (d : X) → from ≤ length xs → k < from
      → get_or (put_between xs from items behind) k d ≡ get_or xs k d
  get_or_before xs from behind items k d fits before =
      let front : length (take from xs) ≡ from = length-take-le from xs fits in
      get_or_append_left (take from xs) (items ++ drop behind xs) d k (omega arith) ∙ get_or-take from xs k d before

  -- the items grow at their end
  pub set_behind : (xs : List X) (from behind : ℕ) (items : List X) (x : X) → from + length items ≡ behind
      → behind < length xs →
      set (put_between xs from items behind) behind x ≡ put_between xs from (items ++ x ∷ []) (behind + 1)
  set_behind xs from behind items x ends inside =
      let front : length (take from xs ++ items) ≡ behind = length-append (take from xs) items
      ∙ (ap (λ n. n + length items) (length-take-le from xs (omega arith)) ∙ ends) in
      let here : drop behind xs ≡ get_or xs behind x ∷ drop (behind + 1) xs = drop_more xs behind x inside in
      ap (λ rest. set (take from xs ++ (items ++ rest)) behind x) here
      ∙ (ap (λ ys. set ys behind x)
      (sym (append_assoc (take from xs) items (get_or xs behind x ∷ drop (behind + 1) xs)))
      ∙ (set_at (take from xs ++ items) (get_or xs behind x) (drop (behind + 1) xs) x behind front
      ∙ (append_assoc (take from xs) items (x ∷ drop (behind + 1) xs)
      ∙ ap (λ ys. take from xs ++ ys) (sym (append_assoc items (x ∷ []) (drop (behind + 1) xs))))))

  -- the items grow at their front
  pub set_before : (xs : List X) (from behind : ℕ) (items : List X) (x : X) → from < length xs →
      set (put_between xs (from + 1) items behind) from x ≡ put_between xs from (x ∷ items) behind
  set_before xs from behind items x inside =
      let front : length (take from xs) ≡ from = length-take-le from xs (omega arith) in
      ap (λ ys. set (ys ++ (items ++ drop behind xs)) from x) (take_more xs from x inside)
      ∙ (ap (λ ys. set ys from x) (append_assoc (take from xs) (get_or xs from x ∷ []) (items ++ drop behind xs))
      ∙ set_at (take from xs) (get_or xs from x) (items ++ drop behind xs) x from front)

  pub put_nothing : (xs : List X) (at : ℕ) → put_between xs at [] at ≡ xs
  put_nothing xs at = take-append-drop at xs

-- the next word of a move to lower places
pub moved_down : (old new : List ℕ) (from to i word : ℕ) → to ≤ from → from + i < length old
    → new ≡ put_between old to (take i (drop from old)) (to + i) → word ≡ get_or new (from + i) 0 →
    set new (to + i) word ≡ put_between old to (take (i + 1) (drop from old)) (to + (i + 1))
moved_down old new from to i word lower inside so_far read =
    let items : List ℕ = take i (drop from old) in
    let many : length items ≡ i = length-take-le i (drop from old) (omega (arith, length-drop from old)) in
    let is : word ≡ get_or (drop from old) i 0 =
    read ∙ (ap (λ ws. get_or ws (from + i) 0) so_far
    ∙ (get_or_behind old to (to + i) items (from + i) 0 (omega arith) (omega arith) (omega arith)
    ∙ sym (get_or-drop from old i 0))) in
    let more : items ++ word ∷ [] ≡ take (i + 1) (drop from old) =
    ap (λ x. items ++ x ∷ []) is ∙ sym (take_more (drop from old) i 0 (omega (arith, length-drop from old))) in
    ap (λ ws. set ws (to + i) word) so_far
    ∙ (set_behind old to (to + i) items word (omega arith) (omega arith)
    ∙ (ap (λ xs. put_between old to xs ((to + i) + 1)) more
    ∙ ap (λ k. put_between old to (take (i + 1) (drop from old)) k) (omega arith)))

-- the next word of a move to higher places, of which i are left
pub moved_up : (old new : List ℕ) (from to count i word : ℕ) → from ≤ to → to + count ≤ length old → i < count →
    new ≡ put_between old (to + (i + 1)) (drop (i + 1) (take count (drop from old))) (to + count)
    → word ≡ get_or new (from + i) 0 →
    set new (to + i) word ≡ put_between old (to + i) (drop i (take count (drop from old))) (to + count)
moved_up old new from to count i word higher inside below so_far read =
    let run : List ℕ = take count (drop from old) in
    let many : length run ≡ count = length-take-le count (drop from old) (omega (arith, length-drop from old)) in
    let is : word ≡ get_or run i 0 =
    read ∙ (ap (λ ws. get_or ws (from + i) 0) so_far
    ∙ (get_or_before old (to + (i + 1)) (to + count) (drop (i + 1) run) (from + i) 0 (omega arith) (omega arith)
    ∙ (sym (get_or-drop from old i 0) ∙ sym (get_or-take count (drop from old) i 0 below)))) in
    let more : word ∷ drop (i + 1) run ≡ drop i run = ap (λ x. x ∷ drop (i + 1) run) is
    ∙ sym (drop_more run i 0 (omega arith)) in
    let next : to + (i + 1) ≡ (to + i) + 1 = omega arith in
    ap (λ ws. set ws (to + i) word) so_far
    ∙ (ap (λ k. set (put_between old k (drop (i + 1) run) (to + count)) (to + i) word) next
    ∙ (set_before old (to + i) (to + count) (drop (i + 1) run) word (omega arith)
    ∙ ap (λ xs. put_between old (to + i) xs (to + count)) more))
