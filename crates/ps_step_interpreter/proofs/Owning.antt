-- The world of a context that is alone, over steps that are its own.
use Rattle.std.proofs.Common.{◌≡◌, ℕ, ℤ, zero, suc, Bool, true, false, not, ◌&&◌, Option, Some, List, [], ◌∷◌, refl}
use Rattle.std.proofs.Common.{sym, ◌∙◌, ap, arith, subst}
use Rattle.std.specs.Prelude.{◌==◌, ◌||◌, if◌then◌else◌}
use Rattle.std.proofs.lemmas.Bool.{true≢false}
use Rattle.std.proofs.lemmas.Bool.Decides.{nat_tests}
use Rattle.ps_language.specs.declared.schedules.Entry.{Entry}
use Rattle.ps_language.specs.Contexts.{context_at, with_context, left_of}
use Rattle.ps_language.specs.Locks.{is_ready_as, is_ready}
use Rattle.ps_language.specs.Machines.{may_end, is_empty, told_by, with_line, with_status, settled, Reached, reaches}
use Rattle.ps_language.specs.Machines.{leaves_to_world, after_turn, turn_as, own_step, around_of, scene_of}
use Rattle.ps_language.specs.Access.{dictionary_at}
use Rattle.ps_language.specs.Objects.{lacks_room}
use Rattle.ps_language.specs.Schedules.{Move, moves}
use Rattle.ps_language.specs.Step.{Stepped, plainly, after_own, moved_as, stepped, step}
use Rattle.ps_language.specs.StepErrors.{has_new_error}
use Rattle.ps_language.specs.StepValues.{Turn, goes, tries, breaks, errs, asks as leaves_to}
use Rattle.ps_language.specs.Value.{Dictionary}
use Rattle.ps_language.specs.World.{for_stop, for_exit, for_quit, Status, running, unwinding, again, waiting, retaking}
use Rattle.ps_language.specs.World.{finished, Context, Machine, World}
use Rattle.ps_language.specs.Worlds.{starting_world, after_move, after_moves, world, printed, all_ready}
use Rattle.ps_language.proofs.WorldLaws.{step-unready}
use Rattle.ps_ctx_start.specs.Starts.{first_machine}
use Rattle.ps_step_interpreter.specs.Alone.{alone_reached, alone_step, is_alone_ready, after_alone_move, after_alone_moves}
use Rattle.ps_step_interpreter.specs.Alone.{alone_machine, alone_printed, all_alone_ready}
use Rattle.ps_step_interpreter.specs.Owns.{alone_world, is_own, are_own}
use Rattle.ps_step_interpreter.proofs.Laws.{unready_move, ready_move}

-- ---- what a context by itself may be

abbrev IsOwnStatus : Status → Type 0
IsOwnStatus running = Unit {0}
IsOwnStatus (unwinding cause) = Unit {0}
IsOwnStatus finished = Unit {0}
IsOwnStatus status = ⊥

-- it is not detached, and waits for nothing
pub record IsAlone (machine : Machine) : Type 0 where
  pub attached : machine.context.is_detached ≡ false
  pub status : IsOwnStatus machine.context.status

abbrev IsAloneOwn : Reached → Type 0
IsAloneOwn (reaches machine) = IsAlone machine
IsAloneOwn (leaves_to_world calling machine) = Unit {0}

line_context : (d : Dictionary) (new : Bool) (machine : Machine)
    → (if new then with_line d machine else machine).context ≡ machine.context
line_context d true machine = refl
line_context d false machine = refl

told_context : (status : Status) (machine : Machine)
    → (told_by status machine).context ≡ machine.context
told_context running machine = refl
told_context (unwinding for_stop) machine =
    let d : Dictionary = dictionary_at machine.store machine.context.error_dictionary in
    line_context d (has_new_error d) machine
told_context (unwinding for_exit) machine = refl
told_context (unwinding for_quit) machine = refl
told_context again machine = refl
told_context (waiting lock condition) machine = refl
told_context (retaking lock) machine = refl
told_context finished machine = refl

settled_by : (ends : Bool) (machine : Machine) → IsAlone machine
    → IsAlone (if ends then with_status finished (told_by machine.context.status machine)
    else machine)
settled_by true machine alone = record {
  attached = ap (λ (c : Context). c.is_detached)
      (told_context machine.context.status machine) ∙ alone.attached;
  status = tt;
}
settled_by false machine alone = alone

settled_alone : (machine : Machine) → IsAlone machine → IsAlone (settled machine)
unfolding settled
settled_alone machine alone =
    settled_by (may_end machine.context.status && is_empty machine.context.frames) machine alone

either_alone : (lacks : Bool) (one other : Machine) → IsAlone one → IsAlone other
    → IsAloneOwn (if lacks then reaches one else reaches other)
either_alone true one other h k = h
either_alone false one other h k = k

turn_alone : (refused : Bool) (machine : Machine) (turn : Turn)
    → machine.context.is_detached ≡ false → IsAloneOwn (after_turn refused machine turn)
turn_alone refused machine (goes scene output) attached =
    settled_alone _ (record { attached = attached; status = tt })
turn_alone refused machine (tries command kept scene output) attached =
    either_alone (lacks_room refused kept.store scene.store) _ _
    (settled_alone _ (record { attached = attached; status = tt }))
    (settled_alone _ (record { attached = attached; status = tt }))
turn_alone refused machine (breaks cause scene) attached =
    settled_alone _ (record { attached = attached; status = tt })
turn_alone refused machine (errs error command kept) attached =
    settled_alone _ (record { attached = attached; status = tt })
turn_alone refused machine (leaves_to calling kept) attached = tt

step_alone : (program : List ℕ) (refused : Bool) (machine : Machine) → IsAlone machine
    → IsAloneOwn (own_step program refused machine)
unfolding own_step
step_alone program refused machine alone =
    turn_alone refused machine
    (turn_as (around_of program machine) machine.context.status machine.context.frames
    (scene_of machine)) alone.attached

-- where it is its own
own_reached : (reached : Reached) → is_own reached ≡ true
    → reached ≡ reaches (alone_reached reached)
own_reached (reaches machine) own = refl
own_reached (leaves_to_world calling machine) own = absurd (true≢false (sym own))

own_alone : (reached : Reached) → is_own reached ≡ true → IsAloneOwn reached
    → IsAlone (alone_reached reached)
own_alone (reaches machine) own alone = alone
own_alone (leaves_to_world calling machine) own alone = absurd (true≢false (sym own))

-- ---- a step in the world

module _ (program : List ℕ) (machine : Machine) (alone : IsAlone machine) where
  abbrev here : World
  here = alone_world program machine

  status_ready : (status : Status) → IsOwnStatus status → (context : Context)
      → is_ready_as status 1 context here ≡ may_end status
  status_ready running own context = refl
  status_ready (unwinding cause) own context = refl
  status_ready again own context = absurd own
  status_ready (waiting lock condition) own context = absurd own
  status_ready (retaking lock) own context = absurd own
  status_ready finished own context = refl

  pub ready_same : (context : ℕ) → is_ready here context ≡ is_alone_ready machine context
  unfolding is_ready context_at is_alone_ready
  ready_same zero = refl
  ready_same (suc zero) = status_ready machine.context.status alone.status machine.context
  ready_same (suc (suc more)) =
      let other : (suc (suc more) == 1) ≡ false = grind (arith, nat_tests) in
      sym (ap (λ (b : Bool). b && may_end machine.context.status) other)

  moved_same : (status : Status) → IsOwnStatus status → may_end status ≡ true → (refused : Bool)
      (shown : Option (ℤ × ℤ))
      → moved_as status 1 refused shown here machine.context
      ≡ after_own 1 refused shown here (own_step program refused machine)
  moved_same running own may refused shown = refl
  moved_same (unwinding cause) own may refused shown = refl
  moved_same again own may refused shown = absurd own
  moved_same (waiting lock condition) own may refused shown = absurd own
  moved_same (retaking lock) own may refused shown = absurd own
  moved_same finished own may refused shown = absurd (true≢false (sym may))

  -- the context goes back into its place
  put_back : (next : Machine) → IsAlone next → (refused : Bool) (shown : Option (ℤ × ℤ))
      → (after_own 1 refused shown here (reaches next)).world ≡ alone_world program next
  unfolding with_context
  put_back next still refused shown =
      ap (λ (c : Option Context). record (alone_world program next) { contexts = c ∷ [] })
      (attached_left next.context still.attached)
    where
      attached_left : (context : Context) → context.is_detached ≡ false
          → left_of context ≡ Some context
      attached_left context attached = rw attached refl

  stepped_same : (refused : Bool) (shown : Option (ℤ × ℤ)) → is_alone_ready machine 1 ≡ true
      → stepped here 1 refused shown
      ≡ moved_as machine.context.status 1 refused shown here machine.context
  unfolding stepped context_at
  stepped_same refused shown ready =
      ap (λ (b : Bool). if b then
      moved_as machine.context.status 1 refused shown here machine.context else plainly here)
      (ready_same 1 ∙ ready)

  own_same : (refused : Bool) (shown : Option (ℤ × ℤ)) → is_alone_ready machine 1 ≡ true
      → is_own (own_step program refused machine) ≡ true
      → step here 1 refused shown ≡ alone_world program (alone_step program refused machine)
  unfolding step is_alone_ready alone_step
  own_same refused shown ready own =
      let reached : Reached = own_step program refused machine in
      ap (λ (s : Stepped). s.world)
      (stepped_same refused shown ready
      ∙ (moved_same machine.context.status alone.status ready refused shown
      ∙ ap (after_own 1 refused shown here) (own_reached reached own)))
      ∙ put_back (alone_reached reached)
      (own_alone reached own (step_alone program refused machine alone)) refused shown

  ready_first : (context : ℕ) → is_alone_ready machine context ≡ true → context ≡ 1
  unfolding is_alone_ready
  ready_first zero ready = absurd (true≢false (sym ready))
  ready_first (suc zero) ready = refl
  ready_first (suc (suc more)) ready =
      let other : (suc (suc more) == 1) ≡ false = grind (arith, nat_tests) in
      absurd (true≢false (sym ready
      ∙ ap (λ (b : Bool). b && may_end machine.context.status) other))

-- ---- one move

-- whether it is its own
abbrev own_move : (program : List ℕ) → Machine → Move → Bool
own_move program machine move =
    not (is_alone_ready machine move.context) || is_own (own_step program move.refused machine)

own_then : (ready own : Bool) → ready ≡ true → (not ready || own) ≡ true → own ≡ true
own_then true own is both = both
own_then false own is both = absurd (true≢false (sym is))

module _ (program : List ℕ) (machine : Machine) (alone : IsAlone machine) (move : Move)
    (own : own_move program machine move ≡ true) where
  -- of a ready context
  module _ (ready : is_alone_ready machine move.context ≡ true) where
    own_here : is_own (own_step program move.refused machine) ≡ true
    own_here = own_then (is_alone_ready machine move.context) _ ready own

    ready_one : is_alone_ready machine 1 ≡ true
    ready_one =
        ap (λ n. is_alone_ready machine n) (sym (ready_first program machine alone move.context
        ready)) ∙ ready

    move_ready : after_move (alone_world program machine) move
        ≡ alone_world program (after_alone_move program machine move)
    move_ready =
        ap (λ n. step (alone_world program machine) n move.refused move.shown)
        (ready_first program machine alone move.context ready)
        ∙ (own_same program machine alone move.refused move.shown ready_one own_here
        ∙ ap (alone_world program) (sym (ready_move program machine move ready)))

    still_ready : IsAlone (after_alone_move program machine move)
    unfolding alone_step
    still_ready =
        subst IsAlone (sym (ready_move program machine move ready))
        (own_alone (own_step program move.refused machine) own_here
        (step_alone program move.refused machine alone))

  -- of one that isn't
  module _ (unready : is_alone_ready machine move.context ≡ false) where
    move_unready : after_move (alone_world program machine) move
        ≡ alone_world program (after_alone_move program machine move)
    move_unready =
        step-unready (alone_world program machine) move.context move.refused move.shown
        (ready_same program machine alone move.context ∙ unready)
        ∙ ap (alone_world program) (sym (unready_move program machine move unready))

    still_unready : IsAlone (after_alone_move program machine move)
    still_unready = subst IsAlone (sym (unready_move program machine move unready)) alone

  by_ready : (ready : Bool) → is_alone_ready machine move.context ≡ ready
      → (after_move (alone_world program machine) move
      ≡ alone_world program (after_alone_move program machine move))
      × IsAlone (after_alone_move program machine move)
  by_ready true ready = (move_ready ready, still_ready ready)
  by_ready false unready = (move_unready unready, still_unready unready)

  pub move_same : after_move (alone_world program machine) move
      ≡ alone_world program (after_alone_move program machine move)
  move_same = (by_ready (is_alone_ready machine move.context) refl).0

  pub move_alone : IsAlone (after_alone_move program machine move)
  move_alone = (by_ready (is_alone_ready machine move.context) refl).1

-- ---- many moves

both_true : (a b : Bool) → (a && b) ≡ true → (a ≡ true) × (b ≡ true)
both_true true b h = (refl, h)
both_true false b h = absurd (true≢false (sym h))

moves_same : (program : List ℕ) (machine : Machine) (steps : List Move) → IsAlone machine
    → are_own program machine steps ≡ true
    → after_moves (alone_world program machine) steps
    ≡ alone_world program (after_alone_moves program machine steps)
unfolding after_moves after_alone_moves
moves_same program machine [] alone own = refl
moves_same program machine (move ∷ rest) alone own =
    let both = both_true (own_move program machine move)
    (are_own program (after_alone_move program machine move) rest) own in
    ap (λ (w : World). after_moves w rest) (move_same program machine alone move both.0)
    ∙ moves_same program (after_alone_move program machine move) rest
    (move_alone program machine alone move both.0) both.1

all_ready_same : (program : List ℕ) (machine : Machine) (steps : List Move) → IsAlone machine
    → are_own program machine steps ≡ true
    → all_ready (alone_world program machine) steps ≡ all_alone_ready program machine steps
all_ready_same program machine [] alone own = refl
all_ready_same program machine (move ∷ rest) alone own =
    let next : Machine = after_alone_move program machine move in
    let both = both_true (own_move program machine move) (are_own program next rest) own in
    (λ i. ready_same program machine alone move.context i
    && (ap (λ (w : World). all_ready w rest) (move_same program machine alone move both.0)
    ∙ all_ready_same program next rest (move_alone program machine alone move both.0) both.1) i)

-- ---- a whole run

first_alone : (program : List ℕ) → IsAlone (first_machine program)
first_alone program = record { attached = refl; status = tt }

first_world : (program : List ℕ)
    → starting_world program ≡ alone_world program (first_machine program)
unfolding starting_world
first_world program = refl

module _ (program : List ℕ) (schedule : List Entry)
    (own : are_own program (first_machine program) (moves schedule) ≡ true) where
  pub world_alone : world program schedule ≡ alone_world program (alone_machine program schedule)
  unfolding world alone_machine
  world_alone =
      ap (λ (w : World). after_moves w (moves schedule)) (first_world program)
      ∙ moves_same program (first_machine program) (moves schedule) (first_alone program) own

  pub printed_alone : printed program schedule ≡ alone_printed program schedule
  unfolding printed alone_printed
  printed_alone = ap (λ (w : World). w.printed) world_alone

  pub ready_alone : all_ready (starting_world program) (moves schedule)
      ≡ all_alone_ready program (first_machine program) (moves schedule)
  ready_alone =
      ap (λ (w : World). all_ready w (moves schedule)) (first_world program)
      ∙ all_ready_same program (first_machine program) (moves schedule) (first_alone program) own
