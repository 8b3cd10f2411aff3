-- Whether any context is ready, by those that are.
use Rattle.std.proofs.Common.{◌≡◌, ℕ, zero, suc, ◌+◌, ◌<◌, Bool, true, false, Option, Some, None, List, [], ◌∷◌, length, refl, sym, ◌∙◌, ap, arith}
use Rattle.std.specs.Prelude.{◌||◌, slice_get}
use Rattle.std.specs.Option.{option_map_or}
use Rattle.std.proofs.lemmas.Bool.{true≢false}
use Rattle.std.proofs.lemmas.Option.{slice_get_within}
use Rattle.ps_language.specs.Contexts.{context_in, context_at}
use Rattle.ps_language.specs.Locks.{is_ready_as, is_ready}
use Rattle.ps_language.specs.World.{Context, World}
use Rattle.ps_language.specs.Worlds.{is_all_over, is_one_ready, is_some_ready, IsAllWaiting}

or_true : (a b : Bool) → b ≡ true → (a || b) ≡ true
or_true true b h = refl
or_true false b h = h

module _ (now : World) where
  one_ready : (identifier place : ℕ) (contexts : List (Option Context)) → place < length contexts
      → is_ready now (identifier + place) ≡ true → is_one_ready now identifier contexts ≡ true
  one_ready identifier place [] less ready = absurd (omega arith)
  one_ready identifier zero (context ∷ contexts) less ready =
      let first : identifier ≡ identifier + zero = omega arith in
      let here : is_ready now identifier ≡ true = ap (is_ready now) first ∙ ready in
      rw here refl
  one_ready identifier (suc place) (context ∷ contexts) less ready =
      let next : suc identifier + place ≡ identifier + suc place = omega arith in
      or_true (is_ready now identifier) (is_one_ready now (suc identifier) contexts)
      (one_ready (suc identifier) place contexts (omega arith) (ap (is_ready now) next ∙ ready))

  -- one is
  some_ready : (identifier : ℕ) → is_ready now identifier ≡ true → is_some_ready now ≡ true
  unfolding is_ready context_at is_some_ready
  some_ready zero ready = absurd (true≢false (sym ready))
  some_ready (suc place) ready =
      let next : 1 + place ≡ suc place = omega arith in
      one_ready 1 place now.contexts (there (slice_get now.contexts place) ready refl)
      (ap (is_ready now) next ∙ ready)
    where
      there : (found : Option (Option Context)) → option_map_or (λ context.
          is_ready_as context.status (suc place) context now) (context_in found) false ≡ true
          → slice_get now.contexts place ≡ found → place < length now.contexts
      there None ready is = absurd (true≢false (sym ready))
      there (Some context) ready is = slice_get_within now.contexts place context is

  none_ready : (identifier : ℕ) (contexts : List (Option Context)) → 0 < identifier
      → ((k : ℕ) → 0 < k → is_ready now k ≡ false)
      → is_one_ready now identifier contexts ≡ false
  none_ready identifier [] some unready = refl
  none_ready identifier (context ∷ contexts) some unready =
      let here : is_ready now identifier ≡ false = unready identifier some in
      rw here (none_ready (suc identifier) contexts (omega arith) unready)

  -- a context is left, and none is ready
  pub all_waiting : is_all_over now ≡ false → ((k : ℕ) → 0 < k → is_ready now k ≡ false)
      → IsAllWaiting now
  unfolding is_some_ready
  all_waiting left unready =
      rw (left, none_ready 1 now.contexts (omega arith) unready) refl

  -- where steps are left, none is ready
  used : (used_up : Bool) (next : ℕ) → 0 < next → is_ready now next ≡ true
      → (used_up ≡ false → (k : ℕ) → 0 < k → is_ready now k ≡ false) → used_up ≡ true
  used true next above ready unready = refl
  used false next above ready unready = absurd (true≢false (sym ready ∙ unready refl next above))

  -- a context is ready, and the steps are used up
  pub steps_out : (used_up : Bool) (next : ℕ) → is_all_over now ≡ false → 0 < next
      → is_ready now next ≡ true
      → (used_up ≡ false → (k : ℕ) → 0 < k → is_ready now k ≡ false)
      → (is_all_over now ≡ false) × (is_some_ready now ≡ true) × (used_up ≡ true)
  steps_out used_up next left above ready unready =
      (left, some_ready next ready, used used_up next above ready unready)
