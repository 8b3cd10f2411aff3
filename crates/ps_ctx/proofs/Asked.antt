-- What a step may want of objects is what its unrefused step makes.
use Rattle.std.proofs.Common.{◌≡◌, ℕ, suc, zero, ◌+◌, ◌-◌, ◌≤◌, Bool, true, false, List, length, Option, Some, None, []}
use Rattle.std.proofs.Common.{◌∷◌, ◌++◌, refl, sym, ap, subst, ◌∙◌, arith, zero-add}
use Rattle.std.proofs.lemmas.Bool.{true≢false}
use Rattle.std.proofs.lemmas.List.{length-drop, length-set}
use Rattle.std.specs.Prelude.{◌&&◌, ◌*◌, drop, fold, slice_get, slice_set, if◌then◌else◌}
use Rattle.std.specs.Option.{option_map_or}
use Rattle.ps_language.specs.Access.{dictionary_at, with_dictionary, dictionary_object_in}
use Rattle.ps_language.specs.Contexts.{context_at}
use Rattle.ps_language.specs.Effect.{Around, Scene, Calling, Deed, does, waits}
use Rattle.ps_language.specs.Keeping.{Stays, stays, Keeps}
use Rattle.ps_language.specs.Live.{asked_words, asked_births}
use Rattle.ps_language.specs.Locks.{is_ready_as, is_ready, retried}
use Rattle.ps_language.specs.Machines.{around_of, scene_of, with_scene, with_status, settled, told_by, turn_as, may_end}
use Rattle.ps_language.specs.Machines.{is_empty, after_turn, own_step}
use Rattle.ps_language.specs.Objects.{size_of, growth_of, made_between}
use Rattle.ps_language.specs.Outcome.{Outcome, leaves, fails}
use Rattle.ps_language.specs.Step.{machine_of, with_machine, Stepped, plainly, deed_given_room, after_deed, called}
use Rattle.ps_language.specs.Step.{after_own, moved_as, stepped, step}
use Rattle.ps_language.specs.StepErrors.{has_new_error, told}
use Rattle.ps_language.specs.StepValues.{Turn, goes, tries, breaks, errs, asks}
use Rattle.ps_language.specs.Value.{Dictionary, Object, array_object, string_object, dictionary_object, lock_object}
use Rattle.ps_language.specs.Value.{condition_object, Store}
use Rattle.ps_language.specs.World.{for_stop, for_exit, for_quit, Status, running, unwinding, again, waiting, retaking}
use Rattle.ps_language.specs.World.{finished, Context, Machine, World}
use Rattle.ps_language.proofs.OperandsKept.{turn_as-keeps}
use Rattle.ps_ops_state.specs.Acts.{Asked}
use Rattle.ps_ctx.specs.Growth.{Growth, no_growth}
use Rattle.ps_ctx.specs.Calls.{call_by, deed_wants, call_wants}
use Rattle.ps_ctx.specs.Needs.{turn_wants, wants_as, step_wants}

-- ---- stores of as many words and objects

-- from whatever store
record IsLike (one other : Store) : Type 0 where
  made : (s : Store) → made_between s one ≡ made_between s other
  long : length one ≡ length other

like-same : (t : Store) → IsLike t t
like-same t = record { made = λ s. refl; long = refl }

-- the words and the birth numbers of what one store has more than another
pub record IsAsked (growth : Growth) (before after : Store) : Type 0 where
  pub words : growth.words ≡ made_between before after
  pub births : growth.births ≡ length (drop (length before) after)

like-asked : (growth : Growth) (before one other : Store) → IsLike one other
    → IsAsked growth before other → IsAsked growth before one
like-asked growth before one other like asked = record {
  words = asked.words ∙ sym (like.made before);
  births = asked.births
      ∙ (length-drop (length before) other
      ∙ (ap (λ n. n - length before) (sym like.long) ∙ sym (length-drop (length before) one)));
}

-- ---- the end of a context makes nothing

-- a dictionary of the same capacity in its place
same-sum : (t : Store) (n birth : ℕ) (old new : Dictionary)
    → slice_get t birth ≡ Some (dictionary_object old) → new.capacity ≡ old.capacity
    → fold (λ words object. words + size_of object) n (slice_set t birth (dictionary_object new)) ≡
    fold (λ words object. words + size_of object) n t
same-sum [] n birth old new stands same = cc
same-sum (o ∷ t) n zero old new stands same =
    let here : o ≡ dictionary_object old = cc in
    let size : size_of (dictionary_object new) ≡ size_of o = ap (λ (k : ℕ). 6 + (2 + 3 * k)) same
    ∙ ap size_of (sym here) in
    ap (λ (m : ℕ). fold (λ words object. words + size_of object) (n + m) t) size
same-sum (o ∷ t) n (suc birth) old new stands same =
    same-sum t (n + size_of o) birth old new stands same

same-size : (s t : Store) (birth : ℕ) (old new : Dictionary)
    → slice_get t birth ≡ Some (dictionary_object old) → new.capacity ≡ old.capacity
    → made_between s (slice_set t birth (dictionary_object new)) ≡ made_between s t
same-size [] t birth old new stands same = same-sum t 0 birth old new stands same
same-size (x ∷ s) [] birth old new stands same = cc
same-size (x ∷ s) (o ∷ t) zero old new stands same =
    let here : o ≡ dictionary_object old = cc in
    ap (λ (n : ℕ). n + made_between s t) (grown x)
    ∙ ap (λ (y : Object). growth_of x y + made_between s t) (sym here)
  where
    grown : (x : Object) → growth_of x (dictionary_object new) ≡ growth_of x (dictionary_object old)
    grown (dictionary_object d) = rw same refl
    grown (array_object xs) = refl
    grown (string_object xs) = refl
    grown (lock_object owner) = refl
    grown condition_object = refl
same-size (x ∷ s) (o ∷ t) (suc birth) old new stands same =
    ap (λ (n : ℕ). growth_of x o + n) (same-size s t birth old new stands same)

told-like : (t : Store) (birth : ℕ) (found : Option Object) → slice_get t birth ≡ found
    → IsLike (if has_new_error (dictionary_object_in found) then slice_set t birth
    (dictionary_object (told (dictionary_object_in found))) else t) t
unfolding has_new_error
told-like t birth None stands = like-same t
told-like t birth (Some (array_object xs)) stands = like-same t
told-like t birth (Some (string_object xs)) stands = like-same t
told-like t birth (Some (lock_object owner)) stands = like-same t
told-like t birth (Some condition_object) stands = like-same t
told-like t birth (Some (dictionary_object d)) stands = by (has_new_error d)
  where
    by : (new : Bool)
        → IsLike (if new then slice_set t birth (dictionary_object (told d)) else t) t
    by true = record {
      made = λ s. same-size s t birth d (told d) stands refl;
      long = length-set t birth (dictionary_object (told d));
    }
    by false = like-same t

store-if : (new : Bool) (a b : Machine)
    → (if new then a else b).store ≡ (if new then a.store else b.store)
store-if true a b = refl
store-if false a b = refl

told_by-like : (status : Status) (machine : Machine)
    → IsLike (told_by status machine).store machine.store
unfolding dictionary_at with_dictionary
told_by-like (unwinding for_stop) machine =
    subst (λ t. IsLike t machine.store) (sym (store-if
    (has_new_error (dictionary_at machine.store machine.context.error_dictionary)) _ machine))
    (told-like machine.store machine.context.error_dictionary
    (slice_get machine.store machine.context.error_dictionary) refl)
told_by-like _ machine = like-same machine.store

settled-like : (machine : Machine) → IsLike (settled machine).store machine.store
unfolding settled
settled-like machine = by (may_end machine.context.status && is_empty machine.context.frames)
  where
    by : (ends : Bool) → IsLike
        (if ends then with_status finished (told_by machine.context.status machine) else
        machine).store machine.store
    by true = told_by-like machine.context.status machine
    by false = like-same machine.store

lifted-like : (identifier : ℕ) (now : World) (found : Option Context)
    → IsLike (option_map_or
    (λ context. with_machine identifier now (settled (machine_of now context))) found now).store
    now.store
lifted-like identifier now None = like-same now.store
lifted-like identifier now (Some context) = settled-like (machine_of now context)

-- ---- a call

module _ (s : Store) (calling : Calling) (identifier : ℕ) (before : World) (context : Context)
    (same : before.store ≡ s) where
  deed-asked : (outcome : Outcome Deed) → 1 ≤ (deed_wants calling before context outcome).words
      → IsAsked (deed_wants calling before context outcome) s
      (after_deed calling identifier before outcome).world.store
  deed-asked (leaves (does note next)) some =
      like-asked (deed_wants calling before context (leaves (does note next))) s _ next.store
      (lifted-like identifier next (context_at next identifier)) (record {
        words = ap (λ t. made_between t next.store) same;
        births = ap (λ (t : Store). length (drop (length t) next.store)) same;
      })
  deed-asked (leaves waits) some = absurd (omega (arith, some))
  deed-asked (fails error) some = absurd (omega (arith, some))

  call-asked : 1 ≤ (call_wants calling identifier false before context).words
      → IsAsked (call_wants calling identifier false before context) s
      (called calling identifier false None before context).world.store
  call-asked some =
      deed-asked (deed_given_room false before
      (calling.deed context.operands (call_by identifier None before context))) some

-- ---- a turn

none_after : (n : ℕ) → n + 0 ≡ n
none_after n = omega arith

module _ (identifier : ℕ) (asked : Asked) (w : World) (context : Context) where
  abbrev machine : Machine
  machine = machine_of w context

  -- a scene is made
  scene-asked : (scene : Scene) (output : List ℕ)
      → IsAsked (turn_wants identifier false asked w machine (goes scene output)) w.store
      (after_own identifier false None w (after_turn false machine (goes scene output))).world.store
  scene-asked scene output =
      like-asked _ w.store _ scene.store
      (settled-like (record (with_scene scene running machine)
      { printed = w.printed ++ output })) (record {
        words = none_after (made_between w.store scene.store);
        births = none_after (length scene.store - length w.store)
            ∙ sym (length-drop (length w.store) scene.store);
      })

  turn-asked : (turn : Turn) → Keeps (stays (scene_of machine)) turn
      → 1 ≤ (turn_wants identifier false asked w machine turn).words
      → IsAsked (turn_wants identifier false asked w machine turn) w.store
      (after_own identifier false None w (after_turn false machine turn)).world.store
  turn-asked (goes scene output) keeps some = scene-asked scene output
  turn-asked (tries command kept scene output) keeps some = scene-asked scene output
  turn-asked (breaks for_stop scene) keeps some = absurd (omega (arith, some))
  turn-asked (breaks for_exit scene) keeps some = absurd (omega (arith, some))
  turn-asked (breaks for_quit scene) keeps some = absurd (omega (arith, some))
  turn-asked (errs error command kept) keeps some = absurd (omega (arith, some))
  turn-asked (asks calling kept) keeps some =
      let left : Machine = with_scene kept running machine in
      let same : kept.store ≡ w.store = ap (λ (x : Stays). x.2) keeps.0 in
      let wanted : Growth = call_wants calling identifier false (with_machine identifier w left)
      left.context in
      let made = call-asked w.store calling identifier (with_machine identifier w left)
      left.context same (subst (λ n. 1 ≤ n) (zero-add wanted.words) some) in
      record {
        words = zero-add wanted.words ∙ made.words;
        births = zero-add wanted.births ∙ made.births;
      }

-- ---- a step

module _ (asks_for : Status → Around → Scene → Asked) (w : World) (identifier : ℕ) where
  module _ (context : Context) (found : context_at w identifier ≡ Some context)
      (ready : is_ready w identifier ≡ true) where
    step_is : step w identifier false None
        ≡ (moved_as context.status identifier false None w context).world
    unfolding step stepped
    step_is = ap (λ (s : Stepped). s.world)
        (ap (λ b. if b then option_map_or (λ (one : Context).
        moved_as one.status identifier false None w one) (context_at w identifier) (plainly w)
        else plainly w) ready
        ∙ ap (λ (one : Option Context). option_map_or (λ (it : Context).
        moved_as it.status identifier false None w it) one (plainly w)) found)

    wants_is : step_wants asks_for identifier false w
        ≡ wants_as asks_for context.status identifier false w (machine_of w context)
    wants_is = ap (λ (one : Option Context). option_map_or (λ (it : Context).
        wants_as asks_for it.status identifier false w (machine_of w it)) one no_growth) found

    own_turn : Turn
    own_turn = turn_as (around_of w.program (machine_of w context)) context.status context.frames
        (scene_of (machine_of w context))

    by_status : (status : Status) → context.status ≡ status
        → 1 ≤ (wants_as asks_for status identifier false w (machine_of w context)).words
        → IsAsked (wants_as asks_for status identifier false w (machine_of w context)) w.store
        (moved_as status identifier false None w context).world.store
    unfolding own_step
    by_status running is some =
        turn-asked identifier _ w context _
        (turn_as-keeps (around_of w.program (machine_of w context)) context.status context.frames
        (scene_of (machine_of w context))).0 some
    by_status (unwinding cause) is some =
        turn-asked identifier _ w context _
        (turn_as-keeps (around_of w.program (machine_of w context)) context.status context.frames
        (scene_of (machine_of w context))).0 some
    by_status again is some =
        call-asked w.store (retried context.operands) identifier
        (with_machine identifier w (with_status running (machine_of w context)))
        (record context { status = running }) refl some
    by_status (waiting lock condition) is some = absurd (omega (arith, some))
    by_status (retaking lock) is some = absurd (omega (arith, some))
    by_status finished is some = absurd (omega (arith, some))

    there-asked : 1 ≤ (step_wants asks_for identifier false w).words
        → IsAsked (step_wants asks_for identifier false w) w.store
        (step w identifier false None).store
    there-asked some =
        subst (λ (growth : Growth). IsAsked growth w.store (step w identifier false None).store)
        (sym wants_is) (subst (λ (now : World). IsAsked
        (wants_as asks_for context.status identifier false w (machine_of w context)) w.store
        now.store) (sym step_is) (by_status context.status refl
        (subst (λ (growth : Growth). 1 ≤ growth.words) wants_is some)))

  step-asked : is_ready w identifier ≡ true → 1 ≤ (step_wants asks_for identifier false w).words
      → IsAsked (step_wants asks_for identifier false w) w.store
      (step w identifier false None).store
  unfolding is_ready
  step-asked ready some = by (context_at w identifier) refl
    where
      by : (found : Option Context) → context_at w identifier ≡ found
          → IsAsked (step_wants asks_for identifier false w) w.store
          (step w identifier false None).store
      by None gone = absurd (true≢false (sym ready ∙ ap (λ (one : Option Context).
          option_map_or (λ it. is_ready_as it.status identifier it w) one false) gone))
      by (Some context) found = there-asked context found ready some

pub asked-words : (asks_for : Status → Around → Scene → Asked) (w : World) (identifier : ℕ)
    → is_ready w identifier ≡ true → 1 ≤ (step_wants asks_for identifier false w).words
    → (step_wants asks_for identifier false w).words ≡ asked_words w identifier
unfolding asked_words
asked-words asks_for w identifier ready some = (step-asked asks_for w identifier ready some).words

pub asked-births : (asks_for : Status → Around → Scene → Asked) (w : World) (identifier : ℕ)
    → is_ready w identifier ≡ true → 1 ≤ (step_wants asks_for identifier false w).words
    → (step_wants asks_for identifier false w).births ≡ asked_births w identifier
unfolding asked_births
asked-births asks_for w identifier ready some = (step-asked asks_for w identifier ready some).births
