-- The single steps of an entry, one after another.
use Rattle.std.proofs.Common.{◌≡◌, ◌≢◌, ◌∙◌, ℕ, zero, suc, ◌+◌, ◌-◌, ◌<◌, ◌≤◌, List, [], ◌∷◌, ◌++◌, drop, length, refl, sym, ap, arith, inl, inr}
use Rattle.std.proofs.Math.Nat.{eq-or-lt_of_le}
use Rattle.std.proofs.Math.Seq.{drop-append-add, drop-length}
use Rattle.std.proofs.lemmas.List.{drop-append-le, drop-drop, length-drop}
use Rattle.std.specs.Prelude.{replicate}
use Rattle.ps_language.specs.declared.schedules.Entry.{Entry}
use Rattle.ps_language.specs.Schedules.{Move, last_move, moves, moves_of, plain_move}
use Rattle.ps_walks.proofs.Following.{length_moves, move_behind, move_last, move_plain}

-- the plain ones come first
drop_plain : (plain last : Move) (before made : ℕ) → made < before
    → drop made (replicate before plain ++ last ∷ [])
    ≡ plain ∷ drop (suc made) (replicate before plain ++ last ∷ [])
drop_plain plain last zero made below = absurd (omega (arith, below))
drop_plain plain last (suc before) zero below = refl
drop_plain plain last (suc before) (suc made) below =
    drop_plain plain last before made (omega (arith, below))

drop_last : (plain last : Move) (before : ℕ)
    → drop before (replicate before plain ++ last ∷ [])
    ≡ last ∷ drop (suc before) (replicate before plain ++ last ∷ [])
drop_last plain last zero = refl
drop_last plain last (suc before) = drop_last plain last before

-- the step behind so many, and those behind it
single_next : (entry : Entry) (steps made : ℕ) → made < steps
    → drop made (moves_of entry steps)
    ≡ move_behind entry steps made ∷ drop (made + 1) (moves_of entry steps)
single_next entry zero made below = absurd (omega (arith, below))
single_next entry (suc before) made below = elim (eq-or-lt_of_le (let le : made ≤ before = omega (arith, below) in le)) [
  | inr less ↦
      let other : made + 1 ≢ suc before = λ is. omega (arith, is, less) in
      let next : suc made ≡ made + 1 = omega arith in
      drop_plain (plain_move entry.context) (last_move entry) before made less
      ∙ ap (λ n. plain_move entry.context ∷ drop n (moves_of entry (suc before))) next
      ∙ ap (λ move. move ∷ drop (made + 1) (moves_of entry (suc before)))
      (sym (move_plain entry (suc before) made other))
  | inl same ↦
      let last : made + 1 ≡ suc before = omega (arith, same) in
      let next : suc before ≡ made + 1 = sym last in
      ap (λ n. drop n (moves_of entry (suc before))) same
      ∙ drop_last (plain_move entry.context) (last_move entry) before
      ∙ ap (λ n. last_move entry ∷ drop n (moves_of entry (suc before))) next
      ∙ ap (λ move. move ∷ drop (made + 1) (moves_of entry (suc before)))
      (sym (move_last entry (suc before) made last))
]

module _ (entry : Entry) (made : ℕ) (left : List Entry) where
  -- the steps that are left: of an entry, and of those behind it
  abbrev pub left_behind : List Move
  left_behind = drop made (moves_of entry entry.steps) ++ moves left

  -- one more of the entry's
  pub one_more : made < entry.steps → left_behind
      ≡ move_behind entry entry.steps made
      ∷ (drop (made + 1) (moves_of entry entry.steps) ++ moves left)
  one_more below = ap (λ steps. steps ++ moves left) (single_next entry entry.steps made below)

  -- none of it
  pub none_more : made ≡ entry.steps → left_behind ≡ moves left
  none_more all = ap (λ steps. steps ++ moves left)
      (ap (λ n. drop n (moves_of entry entry.steps))
      (all ∙ sym (length_moves entry entry.steps))
      ∙ drop-length (moves_of entry entry.steps))

-- behind those of an entry are those of the next
pub next_entry : (entry : Entry) (left rest : List Entry) → left ≡ entry ∷ rest
    → moves left ≡ moves_of entry entry.steps ++ moves rest
unfolding moves
next_entry entry left rest is = ap moves is

pub no_entry : (left : List Entry) → left ≡ [] → moves left ≡ []
unfolding moves
no_entry left is = ap moves is

module _ (all rest : List Move) (made more : ℕ) where
  -- so many of an entry are passed over
  pub pass_within : made + more ≤ length all
      → drop more (drop made all ++ rest) ≡ drop (made + more) all ++ rest
  pass_within within =
      let few : more ≤ length (drop made all) = omega (arith, within, length-drop made all) in
      drop-append-le more (drop made all) rest few
      ∙ ap (λ steps. steps ++ rest) (drop-drop more made all)

  -- or all of it
  pub pass_beyond : made ≤ length all → length all ≤ made + more
      → drop more (drop made all ++ rest) ≡ drop (more - (length all - made)) rest
  pass_beyond within beyond =
      let here : more ≡ length (drop made all) + (more - (length all - made)) =
      omega (arith, within, beyond, length-drop made all) in
      ap (λ n. drop n (drop made all ++ rest)) here
      ∙ drop-append-add (drop made all) rest (more - (length all - made))
