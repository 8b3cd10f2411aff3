-- Turns of one context, one after another, while no other is ready.
use Rattle.std.proofs.Common.{◌≡◌, ℕ, ◌+◌, ◌-◌, ◌*◌, ◌/◌, ◌%◌, ◌<◌, ◌≤◌, Bool, true, false, min, List, [], ◌∷◌, ◌++◌, length, inl, inr, refl, sym, ◌∙◌, ap, subst, arith, append-nil, append_assoc, length-append}
use Rattle.std.specs.Prelude.{◌⊎◌, if◌then◌else◌}
use Rattle.std.proofs.lemmas.Bool.{cases_lt, true≢false}
use Rattle.std.proofs.lemmas.List.{append_cancel_left}
use Rattle.std.proofs.lemmas.Nat.{div-add-mod', mod-mul-add}
use Rattle.ps_language.specs.Schedules.{Move}
use Rattle.ps_language.specs.World.{World}
use Rattle.ps_language.specs.Worlds.{after_moves}
use Rattle.ps_language.proofs.WorldLaws.{after_moves-append}
use Rattle.ps_ctx.specs.Steps.{AllFrom}
use Rattle.ps_vault.specs.declared.vaults.Advanced.{Advanced}
use Rattle.ps_vault.specs.Holds.{is_held_up}
use Rattle.ps_vault.specs.Order.{IsAlone, AddsSteps, KeepsTurn, NoneEnds, IsOfOne, AllOfOne, OnlyLastMayEnd, EndsTurn, IsOver, AddsWhole, no_whole, whole_more, AddsTurns, IsTurnEnd}
use Rattle.ps_vault.proofs.Ordering.{adds_length, adds_more, adds_none, adds_all_more, all_from-split, only_last_more, only_last_of}

module _ (quantum : ℕ) (start : World) (context : ℕ) (old : List Move) where
  -- behind whole turns, so many steps of one more, none of which ended it
  pub record Begun (count : ℕ) (steps : List Move) : Type 0 where
    pub whole : List Move
    pub turns : AddsWhole quantum start context old whole
    pub within : count ≤ quantum
    pub adds : AddsSteps context count whole steps
    pub keeps : NoneEnds start whole steps

  begun_at : (steps : List Move) → AddsWhole quantum start context old steps → Begun 0 steps
  begun_at steps turns = record {
    whole = steps;
    turns = turns;
    within = omega arith;
    adds = record { steps = []; is = sym (append-nil steps); all = refl };
    keeps = adds_none KeepsTurn start steps;
  }

  pub begun_none : Begun 0 old
  begun_none = begun_at old no_whole

  pub begun_more : (count more : ℕ) (now new : List Move) → Begun count now
      → AddsSteps context more now new → NoneEnds start now new → count + more ≤ quantum
      → Begun (count + more) new
  begun_more count more now new begun adds none within = record {
    whole = begun.whole;
    turns = begun.turns;
    within = within;
    adds = adds_more context count more begun.whole now new begun.adds adds;
    keeps = adds_all_more KeepsTurn start begun.whole now new begun.keeps none;
  }

  -- behind as many as a turn may have the next one begins
  begun_anew : (count : ℕ) (steps : List Move) → count ≡ quantum → Begun count steps
      → IsAlone context (after_moves start steps) → Begun 0 steps
  begun_anew count steps full begun alone =
      begun_at steps (whole_more begun.whole steps begun.turns
      (subst (λ n. AddsSteps context n begun.whole steps) full begun.adds) begun.keeps alone)

  -- room for one more step
  pub record HasSome (count : ℕ) (steps : List Move) : Type 0 where
    pub turns : ℕ
    pub now : ℕ
    pub is : count ≡ turns * quantum + now
    pub less : now < quantum
    pub at : Begun now steps

  pub begun_some : (count : ℕ) (steps : List Move) → 1 ≤ quantum → Begun count steps
      → IsAlone context (after_moves start steps) → HasSome count steps
  begun_some count steps some begun alone = elim (cases_lt count quantum) [
    | inl less ↦ record {
      turns = 0;
      now = count;
      is = omega arith;
      less = less;
      at = begun;
    }
    | inr full ↦
        let within = begun.within in
        let is : count ≡ quantum = omega (arith, full, within) in
        record {
          turns = 1;
          now = 0;
          is = omega (arith, is);
          less = omega (arith, some);
          at = begun_anew count steps is begun alone;
        }
  ]

  -- so many steps more: whole turns, and how many steps the last one has
  pub record Chunk (count made : ℕ) (steps : List Move) : Type 0 where
    pub turns : ℕ
    pub now : ℕ
    pub is : count + made ≡ turns * quantum + now
    pub some : 1 ≤ made → 1 ≤ now
    pub at : Begun now steps

  -- of one turn
  chunk_within : (count made : ℕ) (now new : List Move) → Begun count now
      → AddsSteps context made now new → NoneEnds start now new → count + made ≤ quantum
      → Chunk count made new
  chunk_within count made now new begun adds none within = record {
    turns = 0;
    now = count + made;
    is = omega arith;
    some = λ more. omega (arith, more);
    at = begun_more count made now new begun adds none within;
  }

  adds_step : (now : List Move) (step : Move) → step.context ≡ context
      → AddsSteps context 1 now (now ++ step ∷ [])
  adds_step now step of = record {
    steps = step ∷ [];
    is = refl;
    all = ap (λ c. c ∷ []) of;
  }

  chunk_one : (count : ℕ) (now : List Move) (step : Move) → 1 ≤ quantum → Begun count now
      → KeepsTurn (after_moves start now) step → IsOfOne context (after_moves start now) step
      → Chunk count 1 (now ++ step ∷ [])
  chunk_one count now step some begun keeps one =
      let here = begun_some count now some begun one.1 in
      let is = here.is in
      let less = here.less in
      record {
        turns = here.turns;
        now = here.now + 1;
        is = omega (arith, is);
        some = λ more. omega arith;
        at = begun_more here.now 1 now (now ++ step ∷ []) here.at (adds_step now step one.0)
            (record { steps = step ∷ []; is = refl; all = (keeps, tt) }) (omega (arith, less));
      }

  -- of many, before each of which the context alone is ready
  chunk_alone : (steps : List Move) (count : ℕ) (now : List Move) → 1 ≤ quantum
      → Begun count now → AllFrom KeepsTurn (after_moves start now) steps
      → AllFrom (IsOfOne context) (after_moves start now) steps
      → Chunk count (length steps) (now ++ steps)
  unfolding after_moves
  chunk_alone [] count now some begun keep one = record {
    turns = 0;
    now = count;
    is = omega arith;
    some = λ more. absurd (omega (arith, more));
    at = subst (Begun count) (sym (append-nil now)) begun;
  }
  chunk_alone (step ∷ []) count now some begun keep one =
      chunk_one count now step some begun keep.0 one.0
  chunk_alone (step ∷ next ∷ steps) count now some begun keep one =
      let first = chunk_one count now step some begun keep.0 one.0 in
      let here = after_moves-append start now (step ∷ []) in
      let rest = chunk_alone (next ∷ steps) first.now (now ++ step ∷ []) some first.at
      (subst (λ (w : World). AllFrom KeepsTurn w (next ∷ steps)) (sym here) keep.1)
      (subst (λ (w : World). AllFrom (IsOfOne context) w (next ∷ steps)) (sym here) one.1) in
      let is_first = first.is in
      let is_rest = rest.is in
      let both : (first.turns + rest.turns) * quantum
      ≡ first.turns * quantum + rest.turns * quantum = omega arith in
      record {
        turns = first.turns + rest.turns;
        now = rest.now;
        is = omega (arith, is_first, is_rest, both);
        some = λ more. rest.some (omega arith);
        at = subst (Begun rest.now) (append_assoc now (step ∷ []) (next ∷ steps)) rest.at;
      }

  -- ---- as many as may be made at once

  -- all that are left where no other context is left, else those that are left of the turn
  module _ (before left made : ℕ) (is_one_left : Bool) (positive : 1 ≤ quantum)
      (mid new : List Move) (begun : Begun before mid) (adding : AddsSteps context made mid new)
      (within : made ≤ (if is_one_left then left else min (quantum - before) left))
      (alone : is_one_left ≡ true → AllOfOne context start mid new) where
    same_steps : (steps : List Move) → new ≡ mid ++ steps → length steps ≡ made
    same_steps steps is =
        let more = adds_length context made mid new adding in
        let both : length new ≡ length mid + length steps =
        ap {A = List Move} {B = ℕ} (λ list. length list) is ∙ length-append mid steps in
        omega (arith, more, both)

    pub chunk_of : NoneEnds start mid new → Chunk before made new
    chunk_of none = by is_one_left refl
      where
        by : (one : Bool) → is_one_left ≡ one → Chunk before made new
        by false is =
            let few : made ≤ min (quantum - before) left =
            subst (λ b. made ≤ (if b then left else min (quantum - before) left)) is within in
            let fits = begun.within in
            chunk_within before made mid new begun adding none (omega (arith, few, fits))
        by true is =
            let all = alone is in
            let same : none.steps ≡ all.steps =
            append_cancel_left mid none.steps all.steps (sym none.is ∙ all.is) in
            subst (λ n. Chunk before n new) (same_steps all.steps all.is)
            (subst (Chunk before (length all.steps)) (sym all.is)
            (chunk_alone all.steps before mid positive begun
            (subst (AllFrom KeepsTurn (after_moves start mid)) same none.all) all.all))

    -- a turn that may be ended by its last step
    pub record Last : Type 0 where
      pub whole : List Move
      pub turns : AddsWhole quantum start context old whole
      pub count : ℕ
      pub fits : count ≤ quantum
      pub some : 1 ≤ count
      pub adds : AddsSteps context count whole new
      pub only_last : OnlyLastMayEnd start whole new

    pub last_of : OnlyLastMayEnd start mid new → 1 ≤ made → Last
    last_of only more = by is_one_left refl
      where
        by : (one : Bool) → is_one_left ≡ one → Last
        by false is =
            let few : made ≤ min (quantum - before) left =
            subst (λ b. made ≤ (if b then left else min (quantum - before) left)) is within in
            let fits = begun.within in
            record {
              whole = begun.whole;
              turns = begun.turns;
              count = before + made;
              fits = omega (arith, few, fits);
              some = omega (arith, more);
              adds = adds_more context before made begun.whole mid new begun.adds adding;
              only_last = only_last_more start begun.whole mid new begun.keeps only;
            }
        by true is =
            let all = alone is in
            let steps = only.others.steps in
            let same : all.steps ≡ steps ++ only.last ∷ [] =
            append_cancel_left mid all.steps (steps ++ only.last ∷ []) (sym all.is ∙ (only.is
            ∙ (ap (λ (list : List Move). list ++ only.last ∷ []) only.others.is
            ∙ append_assoc mid steps (only.last ∷ [])))) in
            let parts = all_from-split (IsOfOne context) (after_moves start mid) steps
            (only.last ∷ [])
            (subst (AllFrom (IsOfOne context) (after_moves start mid)) same all.all) in
            let chunk : Chunk before (length steps) only.before =
            subst (Chunk before (length steps)) (sym only.others.is)
            (chunk_alone steps before mid positive begun only.others.all parts.0) in
            let at : after_moves start only.before ≡ after_moves (after_moves start mid) steps =
            ap (after_moves start) only.others.is ∙ after_moves-append start mid steps in
            let here = begun_some chunk.now only.before positive chunk.at
            (subst (IsAlone context) (sym at) parts.1.0.1) in
            let less = here.less in
            record {
              whole = here.at.whole;
              turns = here.at.turns;
              count = here.now + 1;
              fits = omega (arith, less);
              some = omega arith;
              adds = adds_more context here.now 1 here.at.whole only.before new here.at.adds
                  (subst (AddsSteps context 1 only.before) (sym only.is)
                  (adds_step only.before only.last parts.1.0.0));
              only_last = record {
                before = only.before;
                last = only.last;
                is = only.is;
                others = here.at.keeps;
              };
            }

    -- where the next one is held up, the last turn goes on
    pub record Held : Type 0 where
      pub now : ℕ
      pub less : now < quantum
      pub at : Begun now new

    pub held_of : NoneEnds start mid new
        → made < (if is_one_left then left else min (quantum - before) left)
        → (is_one_left ≡ true → IsAlone context (after_moves start new)) → Held
    held_of none fewer alone_on = by is_one_left refl
      where
        by : (one : Bool) → is_one_left ≡ one → Held
        by false is =
            let few : made < min (quantum - before) left =
            subst (λ b. made < (if b then left else min (quantum - before) left)) is fewer in
            record {
              now = before + made;
              less = omega (arith, few);
              at = begun_more before made mid new begun adding none (omega (arith, few));
            }
        by true is =
            let chunk = chunk_of none in
            let here = begun_some chunk.now new positive chunk.at (alone_on is) in
            record { now = here.now; less = here.less; at = here.at }

  -- how many steps the last turn has, by all that were made
  pub count_now : (all count made : ℕ) (steps : List Move) → 1 ≤ quantum → count ≡ all % quantum
      → (chunk : Chunk count made steps)
      → (((all + made) % quantum ≡ chunk.now) × (chunk.now < quantum))
      ⊎ (((all + made) % quantum ≡ 0) × (chunk.now ≡ quantum))
  count_now all count made steps some rest chunk = elim (cases_lt chunk.now quantum) [
    | inl less ↦ inl (
      ap (λ n. n % quantum) sum ∙ mod-mul-add (all / quantum + chunk.turns) quantum chunk.now less,
      less,
    )
    | inr full ↦
        let within = chunk.at.within in
        let is : chunk.now ≡ quantum = omega (arith, full, within) in
        let next : (all / quantum + chunk.turns) * quantum + quantum
        ≡ (all / quantum + chunk.turns + 1) * quantum + 0 = omega arith in inr (
          ap (λ n. n % quantum)
              (sum ∙ (ap (λ n. (all / quantum + chunk.turns) * quantum + n) is ∙ next))
              ∙ mod-mul-add (all / quantum + chunk.turns + 1) quantum 0 (omega (arith, some)),
          is,
        )
  ]
    where
      sum : all + made ≡ (all / quantum + chunk.turns) * quantum + chunk.now
      sum =
          let parts = div-add-mod' all quantum in
          let is = chunk.is in
          let both : (all / quantum + chunk.turns) * quantum
          ≡ all / quantum * quantum + chunk.turns * quantum = omega arith in
          omega (arith, parts, is, rest, both)

  -- ---- what turns of it came to

  module _ (most : ℕ) (turn : Advanced) (new : List Move) where
    pub turns_begun : (count : ℕ) → Begun count new → (is_held_up turn.told ≡ true → count < quantum)
        → (is_held_up turn.told ≡ false → 1 ≤ count)
        → (is_held_up turn.told ≡ false → IsTurnEnd quantum most turn.made
        → IsOver quantum start context count new)
        → AddsTurns quantum most start context turn old new
    turns_begun count begun less some over = record {
      whole = begun.whole;
      turns = begun.turns;
      count = count;
      within = begun.within;
      adds = begun.adds;
      only_last = only_last_of start context count begun.whole new begun.adds begun.keeps;
      goes_on = λ held. (less held, begun.keeps);
      some = some;
      over = over;
    }

    -- its last step ended it
    pub turns_ended : (whole : List Move) (count : ℕ) → AddsWhole quantum start context old whole
        → count ≤ quantum → 1 ≤ count → AddsSteps context count whole new
        → OnlyLastMayEnd start whole new → is_held_up turn.told ≡ false → EndsTurn start context new
        → AddsTurns quantum most start context turn old new
    turns_ended whole count turns within some adds only_last free ends = record {
      whole = whole;
      turns = turns;
      count = count;
      within = within;
      adds = adds;
      only_last = λ some. only_last;
      goes_on = λ held. absurd (true≢false (sym held ∙ free));
      some = λ free. some;
      over = λ free less. inr (inr ends);
    }
