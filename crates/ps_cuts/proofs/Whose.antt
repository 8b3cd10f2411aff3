-- Who is due, and what a step costs.
use Rattle.std.proofs.Common.{◌≡◌, ℕ, zero, suc, ◌+◌, ◌-◌, ◌<◌, ◌≤◌, Bool, true, false, Option, Some, None, List, [], ◌∷◌, ◌++◌, length, refl, sym, ◌∙◌, ap, inl, inr, arith}
use Rattle.std.specs.Prelude.{IfNone, IfSome, IsSome, if◌then◌else◌}
use Rattle.std.specs.Option.{option_map_or}
use Rattle.std.proofs.lemmas.Bool.{cases_eq, cases_lt, true≢false}
use Rattle.std.proofs.lemmas.Bool.Decides.{nat_tests}
use Rattle.std.proofs.lemmas.Option.{slice_get_past}
use Rattle.ps_language.specs.Contexts.{context_at, context_in}
use Rattle.ps_language.specs.Locks.{is_ready, is_ready_as}
use Rattle.ps_language.specs.Schedules.{Move, plain_move}
use Rattle.ps_language.specs.Step.{stepped}
use Rattle.ps_language.specs.World.{Context, World}
use Rattle.ps_language.specs.Worlds.{after_move, after_moves, starting_world}
use Rattle.ps_vault.specs.Order.{IsNoneAbove, IsLeastAbove}
use Rattle.ps_searches.specs.Searches.{IsFree, IsOver}
use Rattle.ps_cuts.specs.Cuts.{cut_by, due, first_ready, going, holder, if_ready, is_turn_end, last_of, next_above, next_round, or_else, price, steps_by}

-- ---- who is ready

unready_beyond : (w : World) (place : ℕ) → length w.contexts ≤ place
    → is_ready w (suc place) ≡ false
unfolding is_ready context_at
unready_beyond w place few =
    ap (λ (found : Option (Option Context)). option_map_or
    (λ (there : Context). is_ready_as there.status (suc place) there w) (context_in found) false)
    (slice_get_past w.contexts place few)

pub unready_zero : (w : World) → is_ready w 0 ≡ false
unfolding is_ready context_at
unready_zero w = refl

-- a context that is ready is one of those that there are
pub ready_within : (w : World) (context : ℕ) → is_ready w context ≡ true
    → context ≤ length w.contexts
ready_within w zero ready = omega arith
ready_within w (suc place) ready = elim (cases_lt place (length w.contexts)) [
  | inl within ↦ omega (arith, within)
  | inr beyond ↦ absurd (true≢false (sym ready ∙ unready_beyond w place beyond))
]

-- ---- the next one

first_none : (w : World) (from count : ℕ) → ((k : ℕ) → from ≤ k → is_ready w k ≡ false)
    → first_ready w from count ≡ None
unfolding first_ready
first_none w from zero none = refl
first_none w from (suc count) none =
    ap (λ (b : Bool). if b then Some from else first_ready w (suc from) count)
    (none from (omega arith))
    ∙ first_none w (suc from) count (λ k above. none k (omega (arith, above)))

first_some : (w : World) (from count next : ℕ) → from ≤ next → next < from + count
    → is_ready w next ≡ true
    → ((k : ℕ) → from ≤ k → k < next → is_ready w k ≡ false)
    → first_ready w from count ≡ Some next
unfolding first_ready
first_some w from zero next above within ready least = absurd (omega (arith, above, within))
first_some w from (suc count) next above within ready least = elim (cases_eq from next) [
  | inl same ↦
      ap (λ (b : Bool). if b then Some from else first_ready w (suc from) count)
      (ap (is_ready w) same ∙ ready) ∙ ap (λ (n : ℕ). Some n) same
  | inr differs ↦
      ap (λ (b : Bool). if b then Some from else first_ready w (suc from) count)
      (least from (omega arith) (omega (arith, above, differs)))
      ∙ first_some w (suc from) count next (omega (arith, above, differs))
      (omega (arith, within)) ready (λ k over under. least k (omega (arith, over)) under)
]

pub above_none : (w : World) (after : ℕ) → IsNoneAbove w after → next_above w after ≡ None
above_none w after none =
    first_none w (suc after) (length w.contexts - after) (λ k over. none k (omega (arith, over)))

pub above_some : (w : World) (after next : ℕ) → IsLeastAbove w after next
    → next_above w after ≡ Some next
above_some w after next least =
    let within = ready_within w next least.ready in
    first_some w (suc after) (length w.contexts - after) next (omega (arith, least.above))
    (omega (arith, least.above, within)) least.ready
    (λ k over under. least.least k (omega (arith, over)) under)

-- ---- one move more

pub holder-append : (start : World) (before : List Move) (last : Move)
    → holder start (before ++ last ∷ []) ≡
    (if is_turn_end
    (stepped (after_moves start before) last.context last.refused last.shown).note then None
    else Some last.context)
unfolding holder after_moves
holder-append start [] last = refl
holder-append start (one ∷ []) last = refl
holder-append start (one ∷ two ∷ more) last =
    holder-append (after_move start one) (two ∷ more) last

pub last_of-append : (before : List Move) (last : Move)
    → last_of (before ++ last ∷ []) ≡ last.context
unfolding last_of
last_of-append [] last = refl
last_of-append (one ∷ []) last = refl
last_of-append (one ∷ two ∷ more) last = last_of-append (two ∷ more) last

pub steps_by-append : (path more : List ℕ) → steps_by (path ++ more) ≡ steps_by path ++ steps_by more
steps_by-append [] more = refl
steps_by-append (one ∷ path) more =
    ap (λ (ms : List Move). plain_move one ∷ ms) (steps_by-append path more)

-- ---- who is due

pub round_above : (w : World) (last next : ℕ) → IsLeastAbove w last next
    → Some next ≡ next_round w last
round_above w last next least =
    sym (ap (λ (o : Option ℕ). or_else o (next_above w 0)) (above_some w last next least))

pub round_again : (w : World) (last : ℕ) (found : Option ℕ) → IsNoneAbove w last
    → found ≡ next_above w 0 → found ≡ next_round w last
round_again w last found none is =
    is ∙ sym (ap (λ (o : Option ℕ). or_else o (next_above w 0)) (above_none w last none))

pub first_is : (w : World) (found : Option ℕ) → IfSome found (λ next. IsLeastAbove w 0 next)
    → IfNone found (IsNoneAbove w 0) → found ≡ next_above w 0
first_is w None some none = sym (above_none w 0 none)
first_is w (Some next) some none = sym (above_some w 0 next some)

pub due_goes : (start : World) (made : List Move) (context : ℕ)
    → Some context ≡ going start made → Some context ≡ due start made
due_goes start made context is =
    ap (λ (o : Option ℕ). or_else o (next_round (after_moves start made) (last_of made))) is

pub due_round : (start : World) (made : List Move) (found : Option ℕ)
    → None ≡ going start made → found ≡ next_round (after_moves start made) (last_of made)
    → found ≡ due start made
due_round start made found none is =
    is ∙ ap (λ (o : Option ℕ). or_else o (next_round (after_moves start made) (last_of made))) none

pub goes_ready : (start : World) (made : List Move) (context : ℕ) (ready : Bool)
    → Some context ≡ holder start made → is_ready (after_moves start made) context ≡ ready
    → (if ready then Some context else None) ≡ going start made
goes_ready start made context ready holds is =
    sym (ap (if_ready (after_moves start made)) (sym holds)
    ∙ ap (λ (b : Bool). if b then Some context else None) is)

pub none_goes : (start : World) (made : List Move) → None ≡ holder start made
    → None ≡ going start made
none_goes start made holds = ap (if_ready (after_moves start made)) holds

-- ---- what a step costs

module _ (program path : List ℕ) where
  here : World
  here = after_moves (starting_world program) (steps_by path)

  who : Option ℕ
  who = due (starting_world program) (steps_by path)

  pub price_ready : (context : ℕ)
      → is_ready (after_moves (starting_world program) (steps_by path)) context ≡ true
      → price program path context
      ≡ Some (cut_by (due (starting_world program) (steps_by path)) context)
  unfolding here who
  price_ready context ready =
      ap (λ (b : Bool). if b then Some (cut_by who context) else None) ready

  pub price_unready : (context : ℕ)
      → is_ready (after_moves (starting_world program) (steps_by path)) context ≡ false
      → price program path context ≡ None
  unfolding here who
  price_unready context unready =
      ap (λ (b : Bool). if b then Some (cut_by who context) else None) unready

  can_by : (context : ℕ) (ready : Bool) (cost : ℕ)
      → IsSome (if ready then Some cost else None) → ready ≡ true
  can_by context true cost can = refl
  can_by context false cost can = absurd (true≢false (sym can))

  -- whoever can step is ready
  pub can_ready : (context : ℕ) → IsSome (price program path context)
      → is_ready (after_moves (starting_world program) (steps_by path)) context ≡ true
  unfolding here who
  can_ready context can = can_by context (is_ready here context) (cut_by who context) can

  -- where none is ready it is over
  pub none_over : IsNoneAbove (after_moves (starting_world program) (steps_by path)) 0
      → IsOver (price program) path
  none_over none zero = price_unready 0 (unready_zero _)
  none_over none (suc context) = price_unready (suc context) (none (suc context) (omega arith))

  free_by : (one other : ℕ) → cut_by (Some one) other ≡ 0 → other ≡ one
  free_by one other free = grind (arith, nat_tests)

  same_by : (one : ℕ) → cut_by (Some one) one ≡ 0
  same_by one = grind (arith, nat_tests)

  paid_by : (ready : Bool) (cost : ℕ) → (if ready then Some cost else None) ≡ Some 0 → cost ≡ 0
  paid_by true cost is = cc
  paid_by false cost is = cc

  -- who is due and ready steps for nothing, and nobody else does
  pub due_free : (context : ℕ) → due (starting_world program) (steps_by path) ≡ Some context
      → is_ready (after_moves (starting_world program) (steps_by path)) context ≡ true
      → IsFree (price program) path context
  unfolding here who
  due_free context is ready = record {
    free = price_ready context ready
        ∙ ap (λ (n : ℕ). Some n) (ap (λ (w : Option ℕ). cut_by w context) is ∙ same_by context);
    only = λ other costs. free_by context other
        (ap (λ (w : Option ℕ). cut_by w other) (sym is)
        ∙ paid_by (is_ready here other) (cut_by who other) costs);
  }
