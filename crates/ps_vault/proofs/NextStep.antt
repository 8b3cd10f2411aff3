-- The step of a given schedule behind a part of an entry.
use Rattle.std.proofs.Common.{◌≡◌, ℕ, zero, suc, ◌+◌, ◌<◌, ◌≤◌, Bool, true, false, List, [], ◌∷◌, ◌++◌, length, take, drop, get_or, refl, sym, ◌∙◌, ap, ap₂, arith, add-one, drop-cons, length-append}
use Rattle.std.specs.Prelude.{◌==◌, ◌&&◌, replicate}
use Rattle.std.proofs.lemmas.List.{length-replicate, take-append-drop}
use Rattle.std.proofs.lemmas.Bool.Decides.{nat_tests}
use Rattle.ps_language.specs.declared.schedules.Entry.{Entry}
use Rattle.ps_language.specs.Schedules.{Move, plain_move, last_move, moves_of, moves, count_of}
use Rattle.ps_language.proofs.ScheduleLaws.{moves-single, moves-append}
use Rattle.ps_vault.specs.Reports.{is_first_refused, first_identifier, steps_behind, is_next_refused, next_identifier}
use Rattle.ps_vault.proofs.Following.{and_false}

-- ---- of an entry

both_true : (a : Bool) → a ≡ (a && true)
both_true true = refl
both_true false = refl

first_behind : (few before : ℕ) (move last : Move) (rest : List Move) → few ≤ before
    → move.refused ≡ false
    → is_first_refused (drop few ((replicate before move ++ last ∷ []) ++ rest)) ≡
    (last.refused && (few + 1 == suc before))
first_behind zero zero move last rest h plain = both_true last.refused
first_behind zero (suc before) move last rest h plain = plain
    ∙ and_false last.refused (1 == suc (suc before)) (grind (arith, nat_tests))
first_behind (suc few) zero move last rest h plain = absurd (omega arith)
first_behind (suc few) (suc before) move last rest h plain =
    first_behind few before move last rest (omega arith) plain
    ∙ ap (λ (b : Bool). last.refused && b) (grind (arith, nat_tests))

-- of an entry of which some were made
first_in : (entry : Entry) (few n : ℕ) (rest : List Move) → few < n
    → is_first_refused (drop few (moves_of entry n ++ rest)) ≡ (entry.refused && (few + 1 == n))
first_in entry few zero rest h = absurd (omega arith)
first_in entry few (suc before) rest h =
    first_behind few before (plain_move entry.context) (last_move entry) rest (omega arith) refl

context_behind : (few before : ℕ) (move last : Move) (rest : List Move) → few ≤ before
    → move.context ≡ last.context
    → first_identifier (drop few ((replicate before move ++ last ∷ []) ++ rest)) ≡ last.context
context_behind zero zero move last rest h same = refl
context_behind zero (suc before) move last rest h same = same
context_behind (suc few) zero move last rest h same = absurd (omega arith)
context_behind (suc few) (suc before) move last rest h same =
    context_behind few before move last rest (omega arith) same

context_in : (entry : Entry) (few n : ℕ) (rest : List Move) → few < n
    → first_identifier (drop few (moves_of entry n ++ rest)) ≡ entry.context
context_in entry few zero rest h = absurd (omega arith)
context_in entry few (suc before) rest h =
    context_behind few before (plain_move entry.context) (last_move entry) rest (omega arith) refl

-- ---- of a schedule

drop_front : (front : List Move) (few : ℕ) (rest : List Move)
    → drop (length front + few) (front ++ rest) ≡ drop few rest
drop_front [] few rest = let none : length {A = Move} [] + few ≡ few = omega arith in
    ap (λ k. drop k rest) none
drop_front (move ∷ front) few rest =
    let more : length (move ∷ front) + few ≡ suc (length front + few) = omega arith in
    ap (λ k. drop k (move ∷ (front ++ rest))) more ∙ drop_front front few rest

module _ (given schedule : List Entry) (i few : ℕ) (d : Entry) (lt : i < length given)
    (less : few < (get_or given i d).steps)
    (steps : moves schedule
    ≡ moves (take i given) ++ replicate few (plain_move (get_or given i d).context)) where
  abbrev part : Entry
  part = get_or given i d

  abbrev later : List Move
  later = moves (drop (i + 1) given)

  behind_part : steps_behind given schedule ≡ drop few (moves_of part part.steps ++ later)
  unfolding count_of
  behind_part =
      let rest : List Entry = drop (i + 1) given in
      let front : List Move = moves (take i given) in
      let cut : take i given ++ (part ∷ rest) ≡ given =
      rw (add-one, ← drop-cons given i d) (take-append-drop i given) in
      let made : length (moves schedule) ≡ length front + few =
      ap {B = ℕ} (λ (m : List Move). length m) steps
      ∙ (length-append front (replicate few (plain_move part.context))
      ∙ ap (λ k. length front + k) (length-replicate few (plain_move part.context))) in
      let all : moves given ≡ front ++ (moves_of part part.steps ++ later) =
      ap moves (sym cut) ∙ (moves-append (take i given) (part ∷ rest)
      ∙ ap {B = List Move} (λ m. front ++ m)
      (moves-append (part ∷ []) rest
      ∙ ap {B = List Move} (λ m. m ++ moves rest) (moves-single part))) in
      ap₂ drop made all ∙ drop_front front few (moves_of part part.steps ++ later)

  -- whether it is refused
  pub refused_behind : is_next_refused given schedule ≡ (part.refused && (few + 1 == part.steps))
  refused_behind =
      ap is_first_refused behind_part ∙ first_in part few part.steps later less

  -- whose it is
  pub context_behind_part : next_identifier given schedule ≡ part.context
  context_behind_part =
      ap first_identifier behind_part ∙ context_in part few part.steps later less
