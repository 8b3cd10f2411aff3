-- What is told of a context's values while a call waits is what the world has.
use Rattle.std.proofs.Common.{◌≡◌, ℕ, List, Bool, true, false, Option, Some, None, refl, sym, ap, ◌∙◌, subst}
use Rattle.std.specs.Prelude.{◌==◌, Result}
use Rattle.std.proofs.lemmas.Bool.{eqb-true, eqb-false}
use Rattle.ps_language.specs.Contexts.{context_at}
use Rattle.ps_language.specs.Keeping.{Stays}
use Rattle.ps_language.specs.Lowest.{HasFirstDictionaries, HaveFirstDictionaries}
use Rattle.ps_language.specs.Machines.{around_of, own_step, scene_of, turn_as}
use Rattle.ps_language.specs.Schedules.{moves}
use Rattle.ps_language.specs.Step.{machine_of, with_machine}
use Rattle.ps_language.specs.Value.{Store, Value}
use Rattle.ps_language.specs.World.{Context, Machine, World}
use Rattle.ps_language.specs.Worlds.{world}
use Rattle.ps_language.specs.declared.schedules.Entry.{Entry}
use Rattle.ps_language.proofs.LeftContexts.{context_at-left, with_context-left}
use Rattle.ps_language.proofs.LeftTurns.{left_by}
use Rattle.ps_language.proofs.LowestSteps.{after_moves-lowest}
use Rattle.ps_ctx_table.specs.Desks.{Desk, IsWorld}
use Rattle.ps_ctx_table.proofs.Owning.{goes_left, put_apart, put_back}
use Rattle.ps_step_outcome.specs.Turns.{calling_of}
use Rattle.ps_ctx.specs.declared.worlds.Calling.{Calling}
use Rattle.ps_ctx.specs.Held.{Held, IsAtBy, IsCalling}
use Rattle.ps_ctx_readers.specs.declared.views.Place.{Place}
use Rattle.ps_ctx_readers.specs.declared.views.Place.TheVariants.{Operand, ErrorName, ErrorCommand, Definition}
use Rattle.ps_ctx_readers.specs.declared.views.Untold.{Untold}
use Rattle.ps_ctx_readers.specs.declared.views.ToldValue.{ToldValue}
use Rattle.ps_ctx_readers.specs.Values.{HasLowest, IsTold, IsToldAs, told, told_in, value_in}
use Rattle.ps_vault.specs.Stories.{Keeps}
use Rattle.ps_vault.proofs.Reasons.{left_stays}

-- ---- what is told rests on the objects, and of a context on its operands and its $error

alike : (place : Place) (store : Store) (one other : Context) → one.operands ≡ other.operands
    → one.error_dictionary ≡ other.error_dictionary
    → value_in place store one ≡ value_in place store other
alike (Operand depth) store one other operands errors = rw operands refl
alike ErrorName store one other operands errors = rw errors refl
alike ErrorCommand store one other operands errors = rw errors refl
alike (Definition key) store one other operands errors = refl

-- ---- a call that waits

module _ (calling : Calling) (d : Desk) (w : World) (at : IsCalling calling d w) where
  abbrev pub taken : World
  taken = with_machine calling.caller w at.left

  same_store : at.left.store ≡ w.store
  same_store = ap (λ (x : Stays). x.2) (left_stays calling d w at)

  same_operands : at.left.context.operands ≡ at.context.operands
  same_operands = ap (λ (x : Stays). x.0) (left_stays calling d w at)

  same_dictionaries : at.left.context.dictionaries ≡ at.context.dictionaries
  same_dictionaries = ap (λ (x : Stays). x.1) (left_stays calling d w at)

  same_errors : at.left.context.error_dictionary ≡ at.context.error_dictionary
  unfolding own_step
  same_errors =
      sym (ap (λ (m : Machine). m.context.error_dictionary)
      (left_by false (machine_of w at.context)
      (turn_as (around_of w.program (machine_of w at.context)) at.context.status at.context.frames
      (scene_of (machine_of w at.context))) (calling_of calling.operator) at.left
      (at.leaves false)).is)

  back : context_at taken calling.caller ≡ Some at.left.context
  back = put_back w calling.caller at.context at.found at.left (goes_left at.left.context at.runs)

  here : (place : Place) → told_in place at.left.store (context_at taken calling.caller)
      ≡ told_in place w.store (context_at w calling.caller)
  here place =
      ap (told_in place at.left.store) back
      ∙ ap (λ (s : Store). told_in place s (Some at.left.context)) same_store
      ∙ ap told (alike place w.store at.left.context at.context same_operands same_errors)
      ∙ ap (told_in place w.store) (sym at.found)

  pub told_taken : (place : Place) (identifier : ℕ)
      → told_in place at.left.store (context_at taken identifier)
      ≡ told_in place w.store (context_at w identifier)
  told_taken place identifier = by (calling.caller == identifier) refl
    where
      by : (same : Bool) → (calling.caller == identifier) ≡ same
          → told_in place at.left.store (context_at taken identifier)
          ≡ told_in place w.store (context_at w identifier)
      by true is =
          subst (λ (n : ℕ). told_in place at.left.store (context_at taken n)
          ≡ told_in place w.store (context_at w n)) (eqb-true _ _ is) (here place)
      by false is =
          ap (told_in place at.left.store)
          (put_apart w calling.caller identifier at.left (eqb-false _ _ is))
          ∙ ap (λ (s : Store). told_in place s (context_at w identifier)) same_store

  -- and its lowest dictionaries are the first ones
  pub lowest_taken : HaveFirstDictionaries w → HaveFirstDictionaries taken
  lowest_taken all =
      with_context-left (λ (c : Context). HasFirstDictionaries c.dictionaries) calling.caller
      at.left.context w all (subst HasFirstDictionaries (sym same_dictionaries)
      (context_at-left (λ (c : Context). HasFirstDictionaries c.dictionaries) calling.caller
      at.context w all at.found))

lowest_there : (w : World) (identifier : ℕ) → HaveFirstDictionaries w
    → HasLowest (context_at w identifier)
lowest_there w identifier all = by (context_at w identifier) refl
  where
    by : (found : Option Context) → context_at w identifier ≡ found → HasLowest found
    by None is = tt
    by (Some one) is =
        context_at-left (λ (c : Context). HasFirstDictionaries c.dictionaries) identifier one w
        all is

-- ---- whether a call waits or not

-- the desk is that of a world of which the same is told
pub record Tells (d : Desk) (w : World) : Type 0 where
  pub now : World
  pub at : IsWorld d now
  pub lowest : HaveFirstDictionaries now
  pub store : now.store ≡ w.store
  pub same : (place : Place) (identifier : ℕ)
      → told_in place now.store (context_at now identifier)
      ≡ told_in place w.store (context_at w identifier)

tells_by : (calling : Option Calling) (d : Desk) (w : World) → IsAtBy calling d w
    → HaveFirstDictionaries w → Tells d w
tells_by None d w at all =
    record { now = w; at = at; lowest = all; store = refl; same = λ place identifier. refl }
tells_by (Some calling) d w at all = record {
  now = taken calling d w at;
  at = at.world;
  lowest = lowest_taken calling d w at all;
  store = same_store calling d w at;
  same = told_taken calling d w at;
}

pub tells : (h : Held) (schedule : List Entry) → Keeps h schedule
    → Tells h.desk (world h.desk.program schedule)
unfolding world
tells h schedule keeps =
    tells_by h.calling h.desk (world h.desk.program schedule) keeps.at
    (after_moves-lowest h.desk.program (moves schedule))

module _ (d : Desk) (w : World) (tells : Tells d w) (place : Place) (identifier : ℕ) where
  pub lowest_now : HasLowest (context_at tells.now identifier)
  lowest_now = lowest_there tells.now identifier tells.lowest

  pub told_same : (old new : List ℕ) (told : Result ToldValue Untold)
      → IsTold tells.now identifier place old new told → IsTold w identifier place old new told
  told_same old new told is =
      subst (λ (found : Result Value Untold). IsToldAs w.store found old new told)
      (tells.same place identifier)
      (subst (λ (s : Store). IsToldAs s
      (told_in place tells.now.store (context_at tells.now identifier)) old new told) tells.store is)
