-- Turns one after another.
use Rattle.std.proofs.Common.{◌≡◌, ℕ, zero, suc, ◌+◌, ◌<◌, ◌≤◌, true, false, List, [], ◌∷◌, ◌++◌, length, map, inl, inr, refl, sym, ◌∙◌, ap, ap₂, subst, arith, append-nil, append_assoc, length-append}
use Rattle.std.specs.Prelude.{replicate, ◌⊎◌}
use Rattle.std.proofs.lemmas.Bool.{true≢false}
use Rattle.std.proofs.lemmas.List.{length-map, length-replicate, map-append, replicate-append-replicate}
use Rattle.ps_language.specs.declared.schedules.Entry.{Entry}
use Rattle.ps_language.specs.Contexts.{context_at}
use Rattle.ps_language.specs.Locks.{is_ready}
use Rattle.ps_language.specs.Schedules.{Move, plain_move, added, moves}
use Rattle.ps_language.specs.World.{World}
use Rattle.ps_language.specs.Worlds.{after_move, after_moves, starting_world, world}
use Rattle.ps_language.proofs.ScheduleLaws.{moves-added}
use Rattle.ps_language.proofs.WorldLaws.{after_moves-append}
use Rattle.ps_ctx.specs.Steps.{AllFrom}
use Rattle.ps_run_schedules.specs.Turns.{added_times}
use Rattle.ps_vault.specs.declared.vaults.Advanced.{Advanced}
use Rattle.ps_vault.specs.Holds.{is_held_up}
use Rattle.ps_vault.specs.Order.{IsNoneAbove, IsLeastAbove, IsNext, IsAlone, AddsSteps, KeepsTurn, AddsAll, NoneEnds, OnlyLastMayEnd, AddsTurn, AreTurns, no_turn, one_more, IsDue, AddsWhole, no_whole, whole_more, AddsTurns, IsTurnEnd, HasTurn, InOrder}
use Rattle.ps_vault.specs.Stories.{Story, world_at}
use Rattle.ps_vault.proofs.Following.{times_moves}

-- the world of a story by its steps
pub world_moves : (story : Story) (program : List ℕ) → story.program ≡ program
    → world_at story ≡ after_moves (starting_world program) (moves story.schedule)
unfolding world
world_moves story program same =
    ap (λ (p : List ℕ). after_moves (starting_world p) (moves story.schedule)) same

-- ---- steps of one context

contexts_of : (count : ℕ) (move : Move)
    → map (λ (step : Move). step.context) (replicate count move) ≡ replicate count move.context
contexts_of zero move = refl
contexts_of (suc count) move =
    ap (λ (rest : List ℕ). move.context ∷ rest) (contexts_of count move)

pub adds_times : (context count : ℕ) (old new : List Entry)
    → new ≡ added_times count old (plain_move context)
    → AddsSteps context count (moves old) (moves new)
adds_times context count old new is = record {
  steps = replicate count (plain_move context);
  is = ap moves is ∙ times_moves count old (plain_move context);
  all = contexts_of count (plain_move context);
}

pub adds_one : (move : Move) (old new : List Entry) → new ≡ added old move
    → AddsSteps move.context 1 (moves old) (moves new)
adds_one move old new is = record {
  steps = move ∷ [];
  is = ap moves is ∙ moves-added old move;
  all = refl;
}

pub adds_more : (context few more : ℕ) (old now new : List Move)
    → AddsSteps context few old now → AddsSteps context more now new
    → AddsSteps context (few + more) old new
adds_more context few more old now new first second = record {
  steps = first.steps ++ second.steps;
  is = second.is ∙ (ap (λ (steps : List Move). steps ++ second.steps) first.is
      ∙ append_assoc old first.steps second.steps);
  all = map-append (λ (step : Move). step.context) first.steps second.steps
      ∙ (ap₂ (λ (a b : List ℕ). a ++ b) first.all second.all
      ∙ replicate-append-replicate few more context);
}

-- none are none
adds_zero : (context : ℕ) (old new : List Move) → AddsSteps context 0 old new → new ≡ old
adds_zero context old new adds =
    adds.is ∙ (ap (λ (steps : List Move). old ++ steps) (empty adds.steps adds.all)
    ∙ append-nil old)
  where
    empty : (steps : List Move) → map (λ (step : Move). step.context) steps ≡ [] → steps ≡ []
    empty [] is = refl
    empty (step ∷ steps) is = absurd (cc)

-- so many more are longer by so many
pub adds_length : (context count : ℕ) (old new : List Move) → AddsSteps context count old new
    → length new ≡ length old + count
adds_length context count old new adds =
    let steps : length adds.steps ≡ count =
    sym (length-map adds.steps (λ (step : Move). step.context))
    ∙ (ap {A = List ℕ} {B = ℕ} (λ list. length list) adds.all ∙ length-replicate count context) in
    let both : length new ≡ length old + length adds.steps =
    ap {A = List Move} {B = ℕ} (λ list. length list) adds.is ∙ length-append old adds.steps in
    omega (arith, steps, both)

-- ---- steps that are so, one after another

pub all_from-append : (IsSo : World → Move → Type 0) (now : World) (first second : List Move)
    → AllFrom IsSo now first → AllFrom IsSo (after_moves now first) second
    → AllFrom IsSo now (first ++ second)
unfolding after_moves
all_from-append IsSo now [] second one other = other
all_from-append IsSo now (step ∷ first) second one other =
    (one.0, all_from-append IsSo (after_move now step) first second one.1 other)

pub all_from-split : (IsSo : World → Move → Type 0) (now : World) (first second : List Move)
    → AllFrom IsSo now (first ++ second)
    → AllFrom IsSo now first × AllFrom IsSo (after_moves now first) second
unfolding after_moves
all_from-split IsSo now [] second all = (tt, all)
all_from-split IsSo now (step ∷ first) second all =
    let rest = all_from-split IsSo (after_move now step) first second all.1 in
    ((all.0, rest.0), rest.1)

pub adds_none : (IsSo : World → Move → Type 0) (start : World) (steps : List Move)
    → AddsAll IsSo start steps steps
adds_none IsSo start steps = record { steps = []; is = sym (append-nil steps); all = tt }

pub adds_all_more : (IsSo : World → Move → Type 0) (start : World) (old now new : List Move)
    → AddsAll IsSo start old now → AddsAll IsSo start now new → AddsAll IsSo start old new
adds_all_more IsSo start old now new first second = record {
  steps = first.steps ++ second.steps;
  is = second.is ∙ (ap (λ (steps : List Move). steps ++ second.steps) first.is
      ∙ append_assoc old first.steps second.steps);
  all = all_from-append IsSo (after_moves start old) first.steps second.steps first.all
      (subst (λ (w : World). AllFrom IsSo w second.steps)
      (ap (after_moves start) first.is ∙ after_moves-append start old first.steps) second.all);
}

-- ---- steps that end no turn

pub only_last_more : (start : World) (old now new : List Move) → NoneEnds start old now
    → OnlyLastMayEnd start now new → OnlyLastMayEnd start old new
only_last_more start old now new first second = record {
  before = second.before;
  last = second.last;
  is = second.is;
  others = adds_all_more KeepsTurn start old now second.before first second.others;
}

-- some steps without the last
record IsWithoutLast (now : World) (steps : List Move) : Type 0 where
  before : List Move
  last : Move
  is : steps ≡ before ++ last ∷ []
  keep : AllFrom KeepsTurn now before

without_last : (now : World) (step : Move) (steps : List Move)
    → AllFrom KeepsTurn now (step ∷ steps) → IsWithoutLast now (step ∷ steps)
without_last now step [] keep = record { before = []; last = step; is = refl; keep = tt }
without_last now step (next ∷ steps) keep =
    let others = without_last (after_move now step) next steps keep.1 in
    record {
      before = step ∷ others.before;
      last = others.last;
      is = ap (λ (rest : List Move). step ∷ rest) others.is;
      keep = (keep.0, others.keep);
    }

-- where none ended it and there are some, none but the last did
pub only_last_of : (start : World) (context made : ℕ) (old new : List Move)
    → AddsSteps context made old new → NoneEnds start old new → 1 ≤ made
    → OnlyLastMayEnd start old new
only_last_of start context made old new adds none some = by none.steps refl
  where
    by : (steps : List Move) → none.steps ≡ steps → OnlyLastMayEnd start old new
    by [] is =
        let few : length new ≡ length old =
        ap {A = List Move} {B = ℕ} (λ list. length list)
        (none.is ∙ (ap (λ (steps : List Move). old ++ steps) is ∙ append-nil old)) in
        let more = adds_length context made old new adds in
        absurd (omega (arith, few, more, some))
    by (step ∷ steps) is =
        let cut = without_last (after_moves start old) step steps
        (subst (AllFrom KeepsTurn (after_moves start old)) is none.all) in
        record {
          before = old ++ cut.before;
          last = cut.last;
          is = none.is
              ∙ (ap (λ (steps : List Move). old ++ steps) (is ∙ cut.is)
              ∙ sym (append_assoc old cut.before (cut.last ∷ [])));
          others = record { steps = cut.before; is = refl; all = cut.keep };
        }

-- ---- turns in order

ready_above : (w : World) (context : ℕ) → is_ready w context ≡ true → 0 < context
unfolding is_ready context_at
ready_above w zero ready = absurd (true≢false (sym ready))
ready_above w (suc place) ready = omega arith

-- who alone is ready is next behind its own turn
alone_next : (context : ℕ) (w : World) → IsAlone context w → IsNext w context context
alone_next context w alone = inr (
  λ k above. alone.others k (λ same. absurd (omega (arith, above, same))),
  record {
    above = ready_above w context alone.ready;
    ready = alone.ready;
    least = λ k above below. alone.others k (λ same. absurd (omega (arith, below, same)));
  },
)

module _ (quantum : ℕ) (start : World) where
  -- all steps are turns that are over, and the next context is looked for above this one
  pub record Passing (after : ℕ) (steps : List Move) : Type 0 where
    pub last : ℕ
    pub turns : AreTurns quantum start last steps
    pub above : (after ≡ last) ⊎ ((after ≡ 0) × IsNoneAbove (after_moves start steps) last)

  pub passing_start : (steps : List Move) → steps ≡ [] → Passing 0 steps
  passing_start steps none = subst (Passing 0) (sym none)
      (record { last = 0; turns = no_turn; above = inl refl })

  -- the next pass begins
  pub passing_anew : (after : ℕ) (steps : List Move) → Passing after steps
      → IsNoneAbove (after_moves start steps) after → Passing 0 steps
  passing_anew after steps passing none = record {
    last = passing.last;
    turns = passing.turns;
    above = inr (elim passing.above [
      | inl is ↦ (refl, subst (IsNoneAbove (after_moves start steps)) is none)
      | inr wrapped ↦ (refl, wrapped.1)
    ]);
  }

  pub passing_order : (after : ℕ) (steps : List Move) → Passing after steps
      → InOrder quantum start steps
  passing_order after steps passing =
      record { last = passing.last; whole = steps; turns = passing.turns; rest = inl refl }

  next_of : (after next : ℕ) (steps : List Move) (passing : Passing after steps)
      → IsLeastAbove (after_moves start steps) after next
      → IsNext (after_moves start steps) passing.last next
  next_of after next steps passing least = elim passing.above [
    | inl is ↦ inl (subst (λ n. IsLeastAbove (after_moves start steps) n next) is least)
    | inr wrapped ↦ inr (
      wrapped.1,
      subst (λ n. IsLeastAbove (after_moves start steps) n next) wrapped.0 least,
    )
  ]

  pub due_of : (after next : ℕ) (steps : List Move) → Passing after steps
      → IsLeastAbove (after_moves start steps) after next → IsDue quantum start next steps
  due_of after next steps passing least = record {
    last = passing.last;
    turns = passing.turns;
    next = next_of after next steps passing least;
  }

  -- ---- behind whole turns

  turn_of : (context count : ℕ) (old new : List Move) (due : IsDue quantum start context old)
      → 1 ≤ count → count ≤ quantum → AddsSteps context count old new
      → OnlyLastMayEnd start old new → AddsTurn quantum start due.last context count old new
  turn_of context count old new due some within adds only_last = record {
    next = due.next;
    some = some;
    within = within;
    adds = adds;
    only_last = only_last;
  }

  due_whole : (context : ℕ) (old new : List Move) → 1 ≤ quantum
      → IsDue quantum start context old → AddsWhole quantum start context old new
      → IsDue quantum start context new
  due_whole context old new some due no_whole = due
  due_whole context old new some due (whole_more mid next turns adds none alone) =
      let here = due_whole context old mid some due turns in
      record {
        last = context;
        turns = one_more here.turns (turn_of context quantum mid next here some (omega arith) adds
            (only_last_of start context quantum mid next adds none some)) (inl refl);
        next = alone_next context (after_moves start next) alone;
      }

  module _ (context most : ℕ) (turn : Advanced) (old new : List Move) (some : 1 ≤ quantum)
      (due : IsDue quantum start context old)
      (goes : AddsTurns quantum most start context turn old new) where
    due_last : IsDue quantum start context goes.whole
    due_last = due_whole context old goes.whole some due goes.turns

    last_turn : 1 ≤ goes.count
        → AddsTurn quantum start due_last.last context goes.count goes.whole new
    last_turn some =
        turn_of context goes.count goes.whole new due_last some goes.within goes.adds
        (goes.only_last some)

    -- the last one is over
    pub turns_over : is_held_up turn.told ≡ false → IsTurnEnd quantum most turn.made → Passing context new
    turns_over free ends = record {
      last = context;
      turns = one_more due_last.turns (last_turn (goes.some free)) (goes.over free ends);
      above = inl refl;
    }

    -- or not
    pub turns_order : InOrder quantum start new
    turns_order = by goes.count refl
      where
        by : (n : ℕ) → goes.count ≡ n → InOrder quantum start new
        by zero is = record {
          last = due_last.last;
          whole = goes.whole;
          turns = due_last.turns;
          rest = inl (adds_zero context goes.whole new
              (subst (λ n. AddsSteps context n goes.whole new) is goes.adds));
        }
        by (suc n) is = record {
          last = due_last.last;
          whole = goes.whole;
          turns = due_last.turns;
          rest = inr (context, goes.count, last_turn (omega (arith, is)));
        }

    -- the next step was held up
    pub turns_held : is_held_up turn.told ≡ true → HasTurn quantum start context new
    turns_held held = by goes.count refl
      where
        by : (n : ℕ) → goes.count ≡ n → HasTurn quantum start context new
        by zero is =
            let same : new ≡ goes.whole = adds_zero context goes.whole new
            (subst (λ n. AddsSteps context n goes.whole new) is goes.adds) in
            record {
              last = due_last.last;
              whole = goes.whole;
              turns = due_last.turns;
              turn = inl (same, due_last.next);
            }
        by (suc n) is = record {
          last = due_last.last;
          whole = goes.whole;
          turns = due_last.turns;
          turn = inr (
            goes.count,
            (goes.goes_on held).0,
            last_turn (omega (arith, is)),
            (goes.goes_on held).1,
          );
        }
