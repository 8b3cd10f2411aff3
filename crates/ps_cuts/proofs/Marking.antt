-- Where cuts are: how many, by rising steps, and none within steps that are made at once.
use Rattle.std.proofs.Common.{◌≡◌, ℕ, zero, suc, ◌+◌, ◌-◌, ◌≤◌, ◌==◌, Bool, true, false, Option, Some, None, List, [], ◌∷◌, ◌++◌, length, append_assoc, append-nil, length-append, refl, sym, ◌∙◌, ap, subst, arith}
use Rattle.std.specs.Prelude.{replicate, if◌then◌else◌}
use Rattle.std.proofs.lemmas.Bool.{eq-eqb}
use Rattle.std.proofs.lemmas.List.{replicate-append-replicate}
use Rattle.ps_language.specs.declared.schedules.Entry.{Entry}
use Rattle.ps_language.specs.Schedules.{Move, moves, plain_move}
use Rattle.ps_language.specs.World.{World}
use Rattle.ps_language.specs.Worlds.{after_move, after_moves, all_ready}
use Rattle.ps_language.proofs.WorldLaws.{after_moves-append}
use Rattle.ps_ctx.specs.Steps.{AllFrom}
use Rattle.ps_vault.specs.Order.{IsNoEnd, Tells}
use Rattle.ps_views.specs.declared.cuts.CutAt.{CutAt}
use Rattle.ps_views.specs.Cuts.{AreRising}
use Rattle.ps_cuts.specs.Cuts.{cut_at, cut_by, cuts_at, cuts_behind, due}
use Rattle.ps_cuts.proofs.Batches.{and_left, and_right, due_again}

-- ---- one list of moves behind another

pub cuts_none : (start : World) (made : List Move) → cuts_at start made [] ≡ []
unfolding cuts_at
cuts_none start made = refl

pub cuts_on : (start : World) (made first more : List Move)
    → cuts_at start made (first ++ more)
    ≡ cuts_at start made first ++ cuts_at start (made ++ first) more
unfolding cuts_at
cuts_on start made [] more =
    ap (λ (ms : List Move). cuts_at start ms more) (sym (append-nil made))
cuts_on start made (move ∷ first) more =
    let one = cut_at (length made) (due start made) move.context in
    let next = made ++ move ∷ [] in
    ap (λ (cuts : List CutAt). one ++ cuts)
    (cuts_on start next first more
    ∙ ap (λ (ms : List Move). cuts_at start next first ++ cuts_at start ms more)
    (append_assoc made (move ∷ []) first))
    ∙ sym (append_assoc one (cuts_at start next first)
    (cuts_at start (made ++ move ∷ first) more))

-- before the first move
pub none_counted : (start : World) (schedule : List Entry) → schedule ≡ []
    → (length (moves schedule) ≡ 0) × (cuts_at start [] (moves schedule) ≡ [])
unfolding moves cuts_at
none_counted start schedule none = (
  ap (λ (entries : List Entry). length (moves entries)) none,
  ap (λ (entries : List Entry). cuts_at start [] (moves entries)) none,
)

-- ---- how many

one_cut : (behind : ℕ) (due : Option ℕ) (context : ℕ)
    → length (cut_at behind due context) ≡ cut_by due context
one_cut behind None context = refl
one_cut behind (Some other) context = by (other == context)
  where
    cut : CutAt
    cut = record { behind = behind; left = other; other = context }

    by : (same : Bool) → length (if same then [] else cut ∷ []) ≡ (if same then 0 else 1)
    by true = refl
    by false = refl

pub cuts_counted : (start : World) (made more : List Move)
    → length (cuts_at start made more) ≡ cuts_behind start made more
unfolding cuts_at cuts_behind
cuts_counted start made [] = refl
cuts_counted start made (move ∷ more) =
    length-append (cut_at (length made) (due start made) move.context)
    (cuts_at start (made ++ move ∷ []) more)
    ∙ (ap (λ (n : ℕ). n + length (cuts_at start (made ++ move ∷ []) more))
    (one_cut (length made) (due start made) move.context)
    ∙ ap (λ (n : ℕ). cut_by (due start made) move.context + n)
    (cuts_counted start (made ++ move ∷ []) more))

-- ---- by rising steps

rising_from : (from next : ℕ) (cuts : List CutAt) → from ≤ next → AreRising next cuts
    → AreRising from cuts
rising_from from next [] less are = tt
rising_from from next (cut ∷ cuts) less are =
    let first = are.0 in (omega (arith, less, first), are.1)

rising_one : (from behind : ℕ) (due : Option ℕ) (context : ℕ) (rest : List CutAt)
    → from ≤ behind → AreRising behind rest → AreRising from (cut_at behind due context ++ rest)
rising_one from behind None context rest less are = rising_from from behind rest less are
rising_one from behind (Some other) context rest less are = by (other == context)
  where
    cut : CutAt
    cut = record { behind = behind; left = other; other = context }

    by : (same : Bool) → AreRising from ((if same then [] else cut ∷ []) ++ rest)
    by true = rising_from from behind rest less are
    by false = (less, are)

pub cuts_rising : (from : ℕ) (start : World) (made more : List Move) → from ≤ length made
    → AreRising from (cuts_at start made more)
unfolding cuts_at
cuts_rising from start made [] less = tt
cuts_rising from start made (move ∷ more) less =
    let longer = length-append made (move ∷ []) in
    rising_one from (length made) (due start made) move.context
    (cuts_at start (made ++ move ∷ []) more) less
    (cuts_rising (length made) start (made ++ move ∷ []) more (omega (arith, longer)))

-- ---- none within steps that are made at once

no_cut : (behind : ℕ) (found : Option ℕ) (context : ℕ) → found ≡ Some context
    → cut_at behind found context ≡ []
no_cut behind found context is =
    ap (λ (o : Option ℕ). cut_at behind o context) is
    ∙ ap (λ (same : Bool). if same then [] else
    record { behind = behind; left = context; other = context } ∷ [])
    (eq-eqb context context refl)

module _ (start : World) (context : ℕ) where
  one_on : (made : List Move) → after_moves start (made ++ plain_move context ∷ [])
      ≡ after_move (after_moves start made) (plain_move context)
  unfolding after_moves
  one_on made = after_moves-append start made (plain_move context ∷ [])

  ready_on : (n : ℕ) (made : List Move)
      → all_ready (after_moves start made) (replicate (suc n) (plain_move context)) ≡ true
      → all_ready (after_moves start (made ++ plain_move context ∷ []))
      (replicate n (plain_move context)) ≡ true
  ready_on n made ready =
      ap (λ (w : World). all_ready w (replicate n (plain_move context))) (one_on made)
      ∙ and_right _ _ ready

  tells_on : (n : ℕ) (made : List Move)
      → AllFrom (Tells IsNoEnd) (after_moves start made) (replicate (suc n) (plain_move context))
      → AllFrom (Tells IsNoEnd) (after_moves start (made ++ plain_move context ∷ []))
      (replicate n (plain_move context))
  tells_on n made tells =
      subst (λ (w : World). AllFrom (Tells IsNoEnd) w (replicate n (plain_move context)))
      (sym (one_on made)) tells.1

  no_cuts : (n : ℕ) (made : List Move) → due start made ≡ Some context
      → all_ready (after_moves start made) (replicate (suc n) (plain_move context)) ≡ true
      → AllFrom (Tells IsNoEnd) (after_moves start made) (replicate n (plain_move context))
      → cuts_at start made (replicate (suc n) (plain_move context)) ≡ []
  unfolding cuts_at
  no_cuts zero made is ready tells =
      append-nil (cut_at (length made) (due start made) context)
      ∙ no_cut (length made) (due start made) context is
  no_cuts (suc n) made is ready tells =
      let next = made ++ plain_move context ∷ [] in
      let behind = ready_on (suc n) made ready in
      ap (λ (cuts : List CutAt). cuts ++ cuts_at start next (replicate (suc n) (plain_move context)))
      (no_cut (length made) (due start made) context is)
      ∙ no_cuts n next (due_again start made context tells.0 (and_left _ _ behind)) behind
      (tells_on n made tells)

  -- the first of them alone may be one
  pub first_cut : (n : ℕ) (made : List Move)
      → all_ready (after_moves start made) (replicate (suc n) (plain_move context)) ≡ true
      → AllFrom (Tells IsNoEnd) (after_moves start made) (replicate n (plain_move context))
      → cuts_at start made (replicate (suc n) (plain_move context))
      ≡ cut_at (length made) (due start made) context
  unfolding cuts_at
  first_cut zero made ready tells = append-nil (cut_at (length made) (due start made) context)
  first_cut (suc n) made ready tells =
      let next = made ++ plain_move context ∷ [] in
      let behind = ready_on (suc n) made ready in
      let one = cut_at (length made) (due start made) context in
      ap (λ (cuts : List CutAt). one ++ cuts)
      (no_cuts n next (due_again start made context tells.0 (and_left _ _ behind)) behind
      (tells_on n made tells))
      ∙ append-nil one

  -- behind others of the same context
  pub more_cuts : (k n : ℕ) (from made : List Move) → 1 ≤ n
      → made ≡ from ++ replicate k (plain_move context)
      → all_ready (after_moves start made) (replicate n (plain_move context)) ≡ true
      → AllFrom (Tells IsNoEnd) (after_moves start made) (replicate (n - 1) (plain_move context))
      → cuts_at start from (replicate k (plain_move context))
      ++ cut_at (length made) (due start made) context
      ≡ cuts_at start from (replicate (k + n) (plain_move context))
  more_cuts k n from made some is ready tells =
      let one : suc (n - 1) ≡ n = omega (arith, some) in
      let here : cuts_at start made (replicate n (plain_move context))
      ≡ cut_at (length made) (due start made) context =
      ap (λ (m : ℕ). cuts_at start made (replicate m (plain_move context))) (sym one)
      ∙ first_cut (n - 1) made
      (ap (λ (m : ℕ). all_ready (after_moves start made) (replicate m (plain_move context))) one
      ∙ ready) tells in
      ap (λ (cuts : List CutAt). cuts_at start from (replicate k (plain_move context)) ++ cuts)
      (sym here ∙ ap (λ (ms : List Move). cuts_at start ms (replicate n (plain_move context))) is)
      ∙ (sym (cuts_on start from (replicate k (plain_move context))
      (replicate n (plain_move context)))
      ∙ ap (cuts_at start from) (replicate-append-replicate k n (plain_move context)))
