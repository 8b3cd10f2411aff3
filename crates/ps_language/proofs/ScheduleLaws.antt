-- Laws of schedules: a step more, and beginnings.
use Rattle.std.proofs.Common.{◌≡◌, ℕ, ℤ, zero, suc, ◌+◌, ◌<◌, ◌≤◌, Bool, true, false, not, ◌&&◌, Option, Some, None}
use Rattle.std.proofs.Common.{List, [], ◌∷◌, ◌++◌, refl, sym, ◌∙◌, ap, arith, add-one, length-append, append_assoc}
use Rattle.std.proofs.Common.{append-nil}
use mathlib.Core.List.{IsPrefix}
use Rattle.std.specs.Prelude.{replicate, nat_lt, is_none, if◌then◌else◌}
use Rattle.std.proofs.lemmas.Bool.Decides.{nat_tests}
use Rattle.std.proofs.lemmas.List.{replicate_more}
use Rattle.ps_language.specs.declared.schedules.Entry.{Entry}
use Rattle.ps_language.specs.Schedules.{Move, plain_move, last_move, moves_of, moves, count_of, joins, single, joined}
use Rattle.ps_language.specs.Schedules.{added, is_longest, Begins}

-- the first entry's steps come first
moves_head : (entry : Entry) (after : List Entry) → moves (entry ∷ after) ≡ moves_of entry entry.steps ++ moves after
unfolding moves
moves_head entry after = refl

-- the steps of two schedules in a row
pub moves-append : (first second : List Entry) → moves (first ++ second) ≡ moves first ++ moves second
unfolding moves
moves-append [] second = refl
moves-append (entry ∷ first) second =
    ap {B = List Move} (λ rest. moves_of entry entry.steps ++ rest) (moves-append first second)
    ∙ sym (append_assoc (moves_of entry entry.steps) (moves first) (moves second))

-- a schedule of one entry
pub moves-single : (entry : Entry) → moves (entry ∷ []) ≡ moves_of entry entry.steps
unfolding moves
moves-single entry = append-nil (moves_of entry entry.steps)

none_shown : (shown : Option (ℤ × ℤ)) → is_none shown ≡ true → shown ≡ None
none_shown None h = refl
none_shown (Some pair) h = cc

-- the steps of an entry whose last step is an ordinary one
plain_steps : (entry : Entry) (n : ℕ) → last_move entry ≡ plain_move entry.context
    → moves_of entry n ≡ replicate n (plain_move entry.context)
plain_steps entry zero h = refl
plain_steps entry (suc n) h = rw h (replicate_more n (plain_move entry.context)
    ∙ ap (λ k. replicate k (plain_move entry.context)) (add-one n))

-- a step more of an entry that it joins
joined_steps : (entry : Entry) (move : Move) → joins entry move.context ≡ true
    → moves_of (joined entry move) (suc entry.steps) ≡ moves_of entry entry.steps ++ move ∷ []
joined_steps entry move h =
    let same : entry.context ≡ move.context = grind (arith, nat_tests) in
    let ordinary : entry.refused ≡ false = grind (arith, nat_tests) in
    let bare : is_none entry.shown ≡ true = grind (arith, nat_tests) in
    let last : last_move entry ≡ plain_move entry.context = rw (ordinary, none_shown entry.shown bare) refl in
    rw (plain_steps entry entry.steps last, same) refl

added_last : (entry : Entry) (move : Move) (test : Bool) → joins entry move.context ≡ test
    → moves (if test then joined entry move ∷ [] else entry ∷ single move ∷ [])
    ≡ moves_of entry entry.steps ++ move ∷ []
added_last entry move true h = moves-single (joined entry move) ∙ rw add-one (joined_steps entry move h)
added_last entry move false h = moves-append (entry ∷ []) (single move ∷ [])
    ∙ rw (moves-single entry, moves-single (single move)) refl

-- a step more is the last of the steps
pub moves-added : (schedule : List Entry) (move : Move) → moves (added schedule move) ≡ moves schedule ++ move ∷ []
unfolding moves
moves-added [] move = refl
moves-added (entry ∷ []) move = added_last entry move (joins entry move.context) refl
    ∙ ap {B = List Move} (λ steps. steps ++ move ∷ []) (sym (moves-single entry))
moves-added (entry ∷ next ∷ entries) move =
    ap {B = List Move} (λ rest. moves_of entry entry.steps ++ rest) (moves-added (next ∷ entries) move)
    ∙ sym (append_assoc (moves_of entry entry.steps) (moves (next ∷ entries)) (move ∷ []))

-- none
pub count_of-nil : count_of [] ≡ 0
unfolding count_of moves
count_of-nil = refl

-- and one more
pub count_of-added : (schedule : List Entry) (move : Move) → count_of (added schedule move) ≡ count_of schedule + 1
unfolding count_of
count_of-added schedule move = rw (moves-added schedule move, length-append) refl

longest_last : (entry : Entry) (move : Move) (test : Bool) → joins entry move.context ≡ test
    → nat_lt 0 entry.steps ≡ true
    → is_longest (if test then joined entry move ∷ [] else entry ∷ single move ∷ []) ≡ true
longest_last entry move true h some = grind (arith, nat_tests)
longest_last entry move false h some = rw (some, h) refl

both : (a b : Bool) → (a && b) ≡ true → (a ≡ true) × (b ≡ true)
both true b h = (refl, h)
both false b h = cc

-- a first entry before those of which the first stays, or grows
longest_head : (entry next : Entry) (entries : List Entry) (move : Move)
    → is_longest (entry ∷ added (next ∷ entries) move)
    ≡ (nat_lt 0 entry.steps && (not (joins entry next.context) && is_longest (added (next ∷ entries) move)))
longest_head entry next [] move =
    elim (joins next move.context) as
    (λ b. is_longest (entry ∷ (if b then joined next move ∷ [] else next ∷ single move ∷ []))
    ≡ (nat_lt 0 entry.steps
    && (not (joins entry next.context) && is_longest (if b then joined next move ∷ []
    else next ∷ single move ∷ [])))) [ true ↦ refl | false ↦ refl ]
longest_head entry next (further ∷ entries) move = refl

-- a schedule of longest entries stays one
pub longest-added : (schedule : List Entry) (move : Move) → is_longest schedule ≡ true
    → is_longest (added schedule move) ≡ true
longest-added [] move h = refl
longest-added (entry ∷ []) move h = longest_last entry move (joins entry move.context) refl h
longest-added (entry ∷ next ∷ entries) move h =
    let p = both (nat_lt 0 entry.steps) (not (joins entry next.context) && is_longest (next ∷ entries)) h in
    let q = both (not (joins entry next.context)) (is_longest (next ∷ entries)) p.1 in
    longest_head entry next entries move ∙ rw (p.0, q.0, longest-added (next ∷ entries) move q.1) refl

-- only the last entry changes
pub added-last : (schedule : List Entry) (entry : Entry) (move : Move)
    → added (schedule ++ entry ∷ []) move ≡ schedule ++ added (entry ∷ []) move
added-last [] entry move = refl
added-last (first ∷ []) entry move = refl
added-last (first ∷ second ∷ schedule) entry move =
    ap (λ (rest : List Entry). first ∷ rest) (added-last (second ∷ schedule) entry move)

-- ---- beginnings

-- as many ordinary steps of a context
pub plain_entry : (context steps : ℕ)
    → moves_of (record { context = context; steps = steps; refused = false; shown = None }) steps
    ≡ replicate steps (plain_move context)
plain_entry context steps =
    plain_steps (record { context = context; steps = steps; refused = false; shown = None }) steps refl

-- as many equal steps begin more of them
fewer_equal : (few many : ℕ) (move : Move) (rest : List Move) → few ≤ many
    → IsPrefix (replicate few move) (replicate many move ++ rest)
fewer_equal zero many move rest h = (replicate many move ++ rest, refl)
fewer_equal (suc few) zero move rest h = absurd (omega arith)
fewer_equal (suc few) (suc many) move rest h =
    let p = fewer_equal few many move rest (omega arith) in
    (p.0, ap (λ (steps : List Move). move ∷ steps) p.1)

-- fewer steps than an entry has, as ordinary ones, begin its steps
fewer_plain : (entry : Entry) (few many : ℕ) (rest : List Move) → few < many
    → IsPrefix (replicate few (plain_move entry.context)) (moves_of entry many ++ rest)
fewer_plain entry few zero rest h = absurd (omega arith)
fewer_plain entry few (suc before) rest h =
    let plain : Move = plain_move entry.context in
    let last : List Move = last_move entry ∷ [] in
    let p = fewer_equal few before plain (last ++ rest) (omega arith) in
    (p.0, p.1 ∙ sym (append_assoc (replicate before plain) last rest))

-- entries, and then fewer ordinary steps than the next entry has, are a beginning
pub begins-part : (before after : List Entry) (entry : Entry) (few : ℕ) (part : List Entry)
    → moves part ≡ replicate few (plain_move entry.context) → few < entry.steps
    → Begins (before ++ part) (before ++ entry ∷ after)
begins-part before after entry few part steps h =
    let behind : List Move → List Move = λ rest. moves before ++ rest in
    let p = fewer_plain entry few entry.steps (moves after) h in (
      p.0,
      rw (moves-append before part, steps)
          (append_assoc (moves before) (replicate few (plain_move entry.context)) p.0
          ∙ (ap behind p.1
          ∙ sym (moves-append before (entry ∷ after) ∙ ap behind (moves_head entry after)))),
    )
