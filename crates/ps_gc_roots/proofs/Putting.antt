-- RootList that are written one after the other.
use Rattle.std.proofs.Common.{◌≡◌, ℕ, zero, suc, ◌+◌, ◌-◌, ◌<◌, ◌≤◌, List, [], ◌∷◌, ◌++◌, length, map, get_or, take}
use Rattle.std.proofs.Common.{drop, Option, Some, None, option_map, refl, sym, ap, ap₂, ◌∙◌, subst, arith, append_assoc}
use Rattle.std.specs.Prelude.{flat_map}
use Rattle.std.proofs.lemmas.List.{append-nil, map-append, drop_at, drop-drop, take_at, take_rest, length-map}
use Rattle.std.proofs.lemmas.List.{length-append, length-drop, length-set}
use Rattle.ps_word.specs.declared.words.Word.{Word}
use Rattle.ps_stacks.specs.Tops.{first_of}
use Rattle.ps_ops_control.specs.declared.frames.Frame.{Frame}
use Rattle.ps_ctx_table.specs.declared.members.Member.{Member}
use Rattle.ps_ctx_table.specs.Seats.{item_at, with_item}
use Rattle.ps_gc_roots.specs.Roots.{roots_of_frame, roots_of_member, roots_in}
use Rattle.ps_gc_roots.specs.Renamed.{Renaming, BeginWith, renamed_frame, renamed_member, renamed_members}

-- ---- where some stand behind others

module _ (rename : Renaming) where
  pub begin_all : (words before : List Word) → words ≡ map rename before
      → BeginWith rename before words
  begin_all words before is = ([], is ∙ sym (append-nil (map rename before)))

  parts : (words one others rest : List Word) → words ≡ map rename (one ++ others) ++ rest
      → words ≡ map rename one ++ (map rename others ++ rest)
  parts words one others rest is =
      is ∙ (ap (λ list. list ++ rest) (map-append rename one others)
      ∙ append_assoc (map rename one) (map rename others) rest)

  pub begin_first : (words one others : List Word) → BeginWith rename (one ++ others) words
      → BeginWith rename one words
  begin_first words one others begin =
      (map rename others ++ begin.0, parts words one others begin.0 begin.1)

  pub begin_behind : (words one others : List Word) (n : ℕ) → n ≡ length one
      → BeginWith rename (one ++ others) words → BeginWith rename others (drop n words)
  begin_behind words one others n count begin = (
    begin.0,
    ap (drop n) (parts words one others begin.0 begin.1)
        ∙ drop_at (map rename one) (map rename others ++ begin.0) n
        (length-map one rename ∙ sym count),
  )

  -- the same from a place on
  pub begin_past : (words one others : List Word) (at n m : ℕ) → n ≡ length one → m ≡ at + n
      → BeginWith rename (one ++ others) (drop at words) → BeginWith rename others (drop m words)
  begin_past words one others at n m count is begin =
      subst (BeginWith rename others)
      (drop-drop n at words ∙ ap (λ k. drop k words) (sym is))
      (begin_behind (drop at words) one others n count begin)

  pub begin_take : (words before : List Word) → BeginWith rename before words
      → take (length before) words ≡ map rename before
  begin_take words before begin =
      ap (take (length before)) begin.1
      ∙ take_at (map rename before) begin.0 (length before) (length-map before rename)

  -- the rest of a slice
  pub begin_rest : (words before : List Word) (at : ℕ) → BeginWith rename before (drop at words)
      → BeginWith rename before (take (length words - at) (drop at words))
  begin_rest words before at begin =
      subst (BeginWith rename before) (sym (take_rest words at)) begin

  -- the first of them
  pub begin_word : (words : List Word) (word : Word) (others : List Word) (at : ℕ) (d : Word)
      → BeginWith rename (word ∷ others) (drop at words) → get_or words at d ≡ rename word
  begin_word [] word others zero d begin = let bad = begin.1 in cc
  begin_word [] word others (suc at) d begin = let bad = begin.1 in cc
  begin_word (w ∷ words) word others zero d begin = let is = begin.1 in cc
  begin_word (w ∷ words) word others (suc at) d begin = begin_word words word others at d begin

  -- ---- frames

  pub frames_written : (frames below : List Frame) (frame put : Frame) (words : List Word) (n : ℕ)
      → Some frame ≡ first_of frames → n ≡ length (roots_of_frame frame)
      → (BeginWith rename (flat_map roots_of_frame (drop 1 frames)) (drop n words)
      → below ≡ map (renamed_frame rename) (drop 1 frames))
      → (BeginWith rename (roots_of_frame frame) words → put ≡ renamed_frame rename frame)
      → BeginWith rename (flat_map roots_of_frame frames) words
      → put ∷ below ≡ map (renamed_frame rename) frames
  frames_written [] below frame put words n top count others first begin = cc
  frames_written (one ∷ frames) below frame put words n top count others first begin =
      let same : frame ≡ one = cc in
      let begins = subst (λ f. BeginWith rename (roots_of_frame f ++ flat_map roots_of_frame frames)
      words) (sym same) begin in
      ap₂ (λ x xs. x ∷ xs)
      (first (begin_first words (roots_of_frame frame) (flat_map roots_of_frame frames) begins)
      ∙ ap (renamed_frame rename) same)
      (others (begin_behind words (roots_of_frame frame) (flat_map roots_of_frame frames) n count
      begins))

-- ---- tables

-- nothing stands under the identifiers between, and this under the next
pub record IsNext {A : Type 0} (list : List (Option A)) (identifier next : ℕ) (item : A) : Type 0
  where
    pub above : identifier < next
    pub between : (k : ℕ) → identifier < k → k < next → item_at list k ≡ None
    pub found : item_at list next ≡ Some item

-- the same without the first
next_rest : {A : Type 0} (one : Option A) (list : List (Option A)) (identifier next : ℕ) (item : A)
    → IsNext (one ∷ list) (suc identifier) (suc (suc next)) item
    → IsNext list identifier (suc next) item
next_rest one list identifier next item is = record {
  above = let above = is.above in omega (arith, above);
  between = λ k over under. between k over under;
  found = is.found;
}
  where
    between : (k : ℕ) → identifier < k → k < suc next → item_at list k ≡ None
    between zero over under = absurd (omega (arith, over))
    between (suc k) over under =
        is.between (suc (suc k)) (omega (arith, over)) (omega (arith, under))

next_start : {A : Type 0} (one : Option A) (list : List (Option A)) (next : ℕ) (item : A)
    → IsNext (one ∷ list) 0 (suc (suc next)) item → IsNext list 0 (suc next) item
next_start one list next item is = record {
  above = omega arith;
  between = λ k over under. between k over under;
  found = is.found;
}
  where
    between : (k : ℕ) → 0 < k → k < suc next → item_at list k ≡ None
    between zero over under = absurd (omega (arith, over))
    between (suc k) over under =
        is.between (suc (suc k)) (omega (arith, over)) (omega (arith, under))

flat_first : {A : Type 0} (one : Option A) (list : List (Option A)) (item : Option A)
    → item_at (one ∷ list) 1 ≡ item → one ≡ item
flat_first None list item is = is
flat_first (Some x) list item is = is

pub next-roots : (members : List (Option Member)) (identifier next : ℕ) (member : Member)
    → IsNext members identifier next member
    → roots_in (drop identifier members)
    ≡ roots_of_member member ++ roots_in (drop next members)
next-roots members identifier zero member is =
    let above = is.above in absurd (omega (arith, above))
next-roots [] identifier (suc next) member is = let found = is.found in cc
next-roots (one ∷ members) zero (suc zero) member is =
    ap (λ item. roots_in (item ∷ members)) (flat_first one members (Some member) is.found)
next-roots (one ∷ members) zero (suc (suc next)) member is =
    ap (λ item. roots_in (item ∷ members))
    (flat_first one members None (is.between 1 (omega arith) (omega arith)))
    ∙ next-roots members 0 (suc next) member (next_start one members next member is)
next-roots (one ∷ members) (suc identifier) (suc zero) member is =
    let above = is.above in absurd (omega (arith, above))
next-roots (one ∷ members) (suc identifier) (suc (suc next)) member is =
    next-roots members identifier (suc next) member
    (next_rest one members identifier next member is)

-- their roots lie within those that are left
pub next-within : (members : List (Option Member)) (identifier next : ℕ) (member : Member)
    (words : List Word) (at : ℕ) → IsNext members identifier next member
    → at + length (roots_in (drop identifier members)) ≤ length words
    → at + length (roots_of_member member) + length (roots_in (drop next members)) ≤ length words
next-within members identifier next member words at is within =
    let all = ap length (next-roots members identifier next member is) in
    let both = length-append (roots_of_member member) (roots_in (drop next members)) in
    omega (arith, all, both, within)

pub rest-length : (words : List Word) (at n : ℕ) → at + n ≤ length words
    → n ≤ length (take (length words - at) (drop at words))
rest-length words at n within =
    subst (λ rest. n ≤ length rest) (sym (take_rest words at))
    (let long = length-drop at words in omega (arith, long, within))

pub next-below : {A : Type 0} (list : List (Option A)) (identifier next : ℕ) (item : A)
    → IsNext list identifier next item → next ≤ length list
next-below list identifier zero item is = omega arith
next-below [] identifier (suc next) item is = let found = is.found in cc
next-below (one ∷ list) zero (suc zero) item is = omega arith
next-below (one ∷ list) zero (suc (suc next)) item is =
    let below = next-below list 0 (suc next) item (next_start one list next item is) in
    omega (arith, below)
next-below (one ∷ list) (suc identifier) (suc zero) item is =
    let above = is.above in absurd (omega (arith, above))
next-below (one ∷ list) (suc identifier) (suc (suc next)) item is =
    let below = next-below list identifier (suc next) item
    (next_rest one list identifier next item is) in
    omega (arith, below)

length-with_item : {A : Type 0} (list : List (Option A)) (next : ℕ) (item : Option A)
    → length (with_item list next item) ≡ length list
length-with_item list zero item = refl
length-with_item list (suc place) item = length-set list place item

-- fewer identifiers are left
pub next-fewer : {A : Type 0} (list : List (Option A)) (identifier next : ℕ) (item : A)
    (put : Option A) → IsNext list identifier next item
    → length (with_item list next put) - next < length list - identifier
next-fewer list identifier next item put is =
    let same = length-with_item list next put in
    let above = is.above in
    let below = next-below list identifier next item is in
    omega (arith, same, above, below)

-- what stands behind a place stays
pub next-left : {A : Type 0} (list : List (Option A)) (next : ℕ) (item : Option A)
    → drop next (with_item list next item) ≡ drop next list
next-left list zero item = refl
next-left [] (suc next) item = refl
next-left (one ∷ list) (suc zero) item = refl
next-left (one ∷ list) (suc (suc next)) item = next-left list (suc next) item

module _ (rename : Renaming) where
  -- the table once those are renamed whose turn is still to come
  abbrev pub renamed_past : (identifier : ℕ) → List (Option Member) → List (Option Member)
  renamed_past identifier members =
      take identifier members ++ renamed_members rename (drop identifier members)

  pub next-renamed : (members : List (Option Member)) (identifier next : ℕ) (member put : Member)
      → IsNext members identifier next member → put ≡ renamed_member rename member
      → renamed_past next (with_item members next (Some put)) ≡ renamed_past identifier members
  next-renamed members identifier zero member put is same =
      let above = is.above in absurd (omega (arith, above))
  next-renamed [] identifier (suc next) member put is same = let found = is.found in cc
  next-renamed (one ∷ members) zero (suc zero) member put is same =
      ap (λ item. item ∷ renamed_members rename members)
      (ap Some same ∙ sym (ap (option_map (renamed_member rename))
      (flat_first one members (Some member) is.found)))
  next-renamed (one ∷ members) zero (suc (suc next)) member put is same =
      let none = flat_first one members None (is.between 1 (omega arith) (omega arith)) in
      ap₂ (λ item rest. item ∷ rest)
      (none ∙ sym (ap (option_map (renamed_member rename)) none))
      (next-renamed members 0 (suc next) member put (next_start one members next member is) same)
  next-renamed (one ∷ members) (suc identifier) (suc zero) member put is same =
      let above = is.above in absurd (omega (arith, above))
  next-renamed (one ∷ members) (suc identifier) (suc (suc next)) member put is same =
      ap (λ rest. one ∷ rest)
      (next-renamed members identifier (suc next) member put
      (next_rest one members identifier next member is) same)

  -- nothing is left
  pub none-renamed : (members : List (Option Member)) (identifier : ℕ)
      → ((k : ℕ) → identifier < k → item_at members k ≡ None)
      → members ≡ renamed_past identifier members
  none-renamed [] zero none = refl
  none-renamed [] (suc identifier) none = refl
  none-renamed (one ∷ members) zero none =
      let empty = flat_first one members None (none 1 (omega arith)) in
      ap₂ (λ item rest. item ∷ rest)
      (empty ∙ sym (ap (option_map (renamed_member rename)) empty))
      (none-renamed members 0 shifted)
    where
      shifted : (k : ℕ) → 0 < k → item_at members k ≡ None
      shifted zero over = absurd (omega (arith, over))
      shifted (suc k) over = none (suc (suc k)) (omega (arith, over))
  none-renamed (one ∷ members) (suc identifier) none =
      ap (λ rest. one ∷ rest) (none-renamed members identifier shifted)
    where
      shifted : (k : ℕ) → identifier < k → item_at members k ≡ None
      shifted zero over = absurd (omega (arith, over))
      shifted (suc k) over = none (suc (suc k)) (omega (arith, over))
