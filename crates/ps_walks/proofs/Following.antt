-- The steps of an entry, one behind another.
use Rattle.std.proofs.Common.{◌≡◌, ◌≢◌, ℕ, zero, suc, ◌+◌, ◌-◌, ◌<◌, ◌≤◌, List, [], ◌∷◌, ◌++◌, Bool, true, false, refl, sym, ap, ◌∙◌, arith, inl, inr}
use Rattle.std.proofs.lemmas.Bool.{eq-eqb, le-ltb, lt-ltb, ne_eqb}
use Rattle.std.proofs.lemmas.Bool.Decides.{eqb_tells}
use Rattle.std.proofs.lemmas.List.{length-append, length-replicate, replicate_more, take-append-le, take-replicate}
use Rattle.std.proofs.Math.Seq.{take-append-add}
use Rattle.std.specs.Prelude.{◌==◌, length, nat_lt, replicate, take, if◌then◌else◌}
use Rattle.ps_language.specs.declared.schedules.Entry.{Entry}
use Rattle.ps_language.specs.Schedules.{Move, last_move, moves, moves_of, plain_move}
use Rattle.ps_language.specs.World.{World}
use Rattle.ps_language.specs.Locks.{is_ready}
use Rattle.ps_language.specs.Worlds.{after_move}
use Rattle.ps_walks.specs.Walks.{walked, walked_all, without_lines}

-- no step
pub walked_none : (w : World) → walked_all w [] ≡ w
unfolding walked_all
walked_none w = refl

-- one list of steps behind another
pub walked_on : (w : World) (first more : List Move)
    → walked_all w (first ++ more) ≡ walked_all (walked_all w first) more
unfolding walked_all
walked_on w [] more = refl
walked_on w (move ∷ first) more = walked_on (walked w move) first more

-- a step more
pub walked_more : (w : World) (first : List Move) (move : Move)
    → walked_all w (first ++ move ∷ []) ≡ walked (walked_all w first) move
unfolding walked_all
walked_more w first move = walked_on w first (move ∷ [])

-- the steps of an entry, and those behind it
pub walked_entry : (w : World) (entry : Entry) (left entries : List Entry)
    → left ≡ entry ∷ entries
    → walked_all w (moves left) ≡ walked_all (walked_all w (moves_of entry entry.steps)) (moves entries)
unfolding moves
walked_entry w entry left entries is =
    ap (λ list. walked_all w (moves list)) is
    ∙ walked_on w (moves_of entry entry.steps) (moves entries)

-- none is left
pub walked_end : (w : World) (left : List Entry) → left ≡ [] → walked_all w (moves left) ≡ w
unfolding moves
walked_end w left is = ap (λ list. walked_all w (moves list)) is ∙ walked_none w

-- so many of an entry's steps, from the first on
abbrev pub first_moves : Entry → (steps number : ℕ) → List Move
first_moves entry steps number =
    if nat_lt number steps then replicate number (plain_move entry.context)
    else moves_of entry steps

-- the step behind so many
abbrev pub move_behind : Entry → (steps number : ℕ) → Move
move_behind entry steps number =
    if number + 1 == steps then last_move entry else plain_move entry.context

module _ (entry : Entry) where
  first_below : (steps number : ℕ) → number < steps
      → first_moves entry steps number ≡ replicate number (plain_move entry.context)
  first_below steps number below =
      ap (λ (is : Bool). if is then replicate number (plain_move entry.context)
      else moves_of entry steps) (lt-ltb number steps below)

  pub first_all : (steps number : ℕ) → steps ≤ number
      → first_moves entry steps number ≡ moves_of entry steps
  first_all steps number all =
      ap (λ (is : Bool). if is then replicate number (plain_move entry.context)
      else moves_of entry steps) (le-ltb number steps all)

  pub first_none : (steps : ℕ) → first_moves entry steps 0 ≡ []
  first_none zero = first_all 0 0 (omega arith)
  first_none (suc before) = first_below (suc before) 0 (omega arith)

  pub move_last : (steps number : ℕ) → number + 1 ≡ steps
      → move_behind entry steps number ≡ last_move entry
  move_last steps number is =
      ap (λ (is : Bool). if is then last_move entry else plain_move entry.context)
      (eq-eqb (number + 1) steps is)

  pub move_plain : (steps number : ℕ) → number + 1 ≢ steps
      → move_behind entry steps number ≡ plain_move entry.context
  move_plain steps number isnt =
      ap (λ (is : Bool). if is then last_move entry else plain_move entry.context)
      (ne_eqb (number + 1) steps isnt)

  pub first_more : (steps number : ℕ) → number < steps
      → first_moves entry steps number ++ move_behind entry steps number ∷ []
      ≡ first_moves entry steps (number + 1)
  first_more zero number below = absurd (omega (arith, below))
  first_more (suc before) number below = elim (eqb_tells (number + 1) (suc before)) [
    | inl (_, same) ↦
        let is : number ≡ before = omega (arith, same) in
        ap (λ move. first_moves entry (suc before) number ++ move ∷ [])
        (move_last (suc before) number same)
        ∙ ap (λ moves. moves ++ last_move entry ∷ []) (first_below (suc before) number below)
        ∙ ap (λ n. replicate n (plain_move entry.context) ++ last_move entry ∷ []) is
        ∙ sym (first_all (suc before) (number + 1) (omega (arith, same)))
    | inr (_, other) ↦
        ap (λ move. first_moves entry (suc before) number ++ move ∷ [])
        (move_plain (suc before) number other)
        ∙ ap (λ moves. moves ++ plain_move entry.context ∷ [])
        (first_below (suc before) number below)
        ∙ replicate_more number (plain_move entry.context)
        ∙ sym (first_below (suc before) (number + 1) (omega (arith, below, other)))
  ]

-- ---- who isn't ready

-- the steps of an entry are its context's
move_context : (entry : Entry) (steps number : ℕ)
    → (move_behind entry steps number).context ≡ entry.context
move_context entry steps number = by (number + 1 == steps)
  where
    by : (is : Bool)
        → (if is then last_move entry else plain_move entry.context).context ≡ entry.context
    by true = refl
    by false = refl

-- a step of one who isn't leaves the world
pub idle_move : (x : World) (move : Move) (context : ℕ) → move.context ≡ context
    → is_ready (without_lines x) context ≡ false → walked x move ≡ without_lines x
idle_move x move context same idle =
    ap (λ (is : Bool). if is then after_move (without_lines x) move else without_lines x)
    (ap (is_ready (without_lines x)) same ∙ idle)

-- and so do all steps of the entry behind it
module _ (w : World) (entry : Entry) (steps number : ℕ) (below : number < steps)
    (idle : is_ready (without_lines (walked_all w (first_moves entry steps number))) entry.context
    ≡ false) where
  abbrev pub world_before : World
  world_before = walked_all w (first_moves entry steps number)

  next_is : (at : ℕ) → at < steps → walked_all w (first_moves entry steps (at + 1))
      ≡ walked (walked_all w (first_moves entry steps at)) (move_behind entry steps at)
  next_is at within =
      ap (walked_all w) (sym (first_more entry steps at within))
      ∙ walked_more w (first_moves entry steps at) (move_behind entry steps at)

  first_idle : walked_all w (first_moves entry steps (number + 1)) ≡ without_lines world_before
  first_idle = next_is number below
      ∙ idle_move world_before (move_behind entry steps number) entry.context
      (move_context entry steps number) idle

  later : (more : ℕ) → number + 1 + more ≤ steps
      → walked_all w (first_moves entry steps (number + 1 + more)) ≡ without_lines world_before
  later zero within =
      let none : number + 1 + 0 ≡ number + 1 = omega arith in
      ap (λ n. walked_all w (first_moves entry steps n)) none ∙ first_idle
  later (suc more) within =
      let at : ℕ = number + 1 + more in
      let next : number + 1 + suc more ≡ at + 1 = omega arith in
      ap (λ n. walked_all w (first_moves entry steps n)) next
      ∙ next_is at (omega (arith, within))
      ∙ ap (λ x. walked x (move_behind entry steps at)) (later more (omega (arith, within)))
      ∙ idle_move (without_lines world_before) (move_behind entry steps at) entry.context
      (move_context entry steps at) idle

  pub idle_entry : walked world_before (move_behind entry steps number)
      ≡ walked_all w (moves_of entry steps)
  idle_entry =
      let whole : number + 1 + (steps - (number + 1)) ≡ steps = omega (arith, below) in
      idle_move world_before (move_behind entry steps number) entry.context
      (move_context entry steps number) idle
      ∙ sym (later (steps - (number + 1)) (omega (arith, below)))
      ∙ ap (λ n. walked_all w (first_moves entry steps n)) whole
      ∙ ap (walked_all w) (first_all entry steps steps (omega arith))

-- ---- the first steps of a schedule

pub length_moves : (entry : Entry) (steps : ℕ) → length (moves_of entry steps) ≡ steps
length_moves entry zero = refl
length_moves entry (suc before) =
    let one : before + 1 ≡ suc before = omega arith in
    length-append (replicate before (plain_move entry.context)) (last_move entry ∷ [])
    ∙ ap (λ n. n + 1) (length-replicate before (plain_move entry.context)) ∙ one

-- so many ordinary steps
plain_steps : (entry : Entry) (steps : ℕ) → last_move entry ≡ plain_move entry.context
    → moves_of entry steps ≡ replicate steps (plain_move entry.context)
plain_steps entry zero is = refl
plain_steps entry (suc before) is =
    let one : before + 1 ≡ suc before = omega arith in
    ap (λ move. replicate before (plain_move entry.context) ++ move ∷ []) is
    ∙ replicate_more before (plain_move entry.context)
    ∙ ap (λ n. replicate n (plain_move entry.context)) one

-- the first steps of an entry that has more
pub front_moves : (entry front : Entry) (steps more : ℕ) → front.context ≡ entry.context
    → last_move front ≡ plain_move front.context → more < steps
    → moves_of front more ≡ take more (moves_of entry steps)
front_moves entry front zero more same is below = absurd (omega (arith, below))
front_moves entry front (suc before) more same is below =
    let plains = replicate before (plain_move entry.context) in
    let within : more ≤ length plains =
    omega (arith, below, length-replicate before (plain_move entry.context)) in
    let few : more ≤ before = omega (arith, below) in
    plain_steps front more is
    ∙ ap (λ context. replicate more (plain_move context)) same
    ∙ sym (take-append-le more plains (last_move entry ∷ []) within
    ∙ take-replicate more before (plain_move entry.context) few)

module _ (now : World) (entry : Entry) (left entries : List Entry) (more : ℕ)
    (is : left ≡ entry ∷ entries) where
  first_of : take more (moves left)
      ≡ take more (moves_of entry entry.steps ++ moves entries)
  unfolding moves
  first_of = ap (λ list. take more (moves list)) is

  pub entry_front : more < entry.steps → walked_all now (take more (moves_of entry entry.steps))
      ≡ walked_all now (take more (moves left))
  entry_front below =
      let within : more ≤ length (moves_of entry entry.steps) =
      omega (arith, below, length_moves entry entry.steps) in
      ap (walked_all now) (sym (first_of
      ∙ take-append-le more (moves_of entry entry.steps) (moves entries) within))

  pub entry_whole : entry.steps ≤ more → walked_all now (take more (moves left))
      ≡ walked_all (walked_all now (moves_of entry entry.steps))
      (take (more - entry.steps) (moves entries))
  entry_whole within =
      let count : more ≡ length (moves_of entry entry.steps) + (more - entry.steps) =
      omega (arith, within, length_moves entry entry.steps) in
      ap (walked_all now) (first_of
      ∙ ap (λ n. take n (moves_of entry entry.steps ++ moves entries)) count
      ∙ take-append-add (moves_of entry entry.steps) (moves entries) (more - entry.steps))
      ∙ walked_on now (moves_of entry entry.steps) (take (more - entry.steps) (moves entries))

take_none : (n : ℕ) → take {A = Move} n [] ≡ []
take_none zero = refl
take_none (suc n) = refl

-- none is left
pub front_end : (now : World) (left : List Entry) (more : ℕ) → left ≡ []
    → walked_all now (take more (moves left)) ≡ now
unfolding moves
front_end now left more is =
    ap (λ list. walked_all now (take more (moves list))) is
    ∙ ap (walked_all now) (take_none more) ∙ walked_none now
