-- Many own steps of one context are moves of the world.
use Rattle.std.proofs.Common.{◌≡◌, ◌≢◌, ℕ, zero, suc, Bool, true, false, Option, Some, None, refl, sym, ap, subst, ◌∙◌}
use Rattle.std.proofs.Common.{IsTrue}
use Rattle.std.specs.Option.{option_map_or}
use Rattle.std.specs.Prelude.{◌&&◌, not, nat_eq, if◌then◌else◌}
use Rattle.ps_language.specs.Contexts.{is_finished, left_of, context_at, with_context}
use Rattle.ps_language.specs.Locks.{is_ready_as, is_ready}
use Rattle.ps_language.specs.Machines.{may_end}
use Rattle.ps_language.specs.Step.{machine_of, with_machine, Stepped, after_own, step}
use Rattle.ps_language.specs.World.{Status, running, unwinding, again, waiting, retaking, finished, Context, Machine}
use Rattle.ps_language.specs.World.{World}
use Rattle.ps_language.specs.Worlds.{after_moves, all_ready}
use Rattle.ps_mem.specs.Heap.{birth_at}
use Rattle.ps_mem.specs.Keeps.{Keeps}
use Rattle.ps_ops_state.specs.Acts.{Lasts, Stays}
use Rattle.ps_ops_state.specs.Lent.{Lent, IsGood}
use Rattle.ps_ctx_table.specs.declared.members.Course.{Course}
use Rattle.ps_ctx_table.specs.declared.members.Member.{Member}
use Rattle.ps_ctx_table.specs.Seats.{item_at, with_item}
use Rattle.ps_ctx_table.specs.Worlds.{status_of, context_of}
use Rattle.ps_ctx_table.specs.Desks.{Desk, lent_to, desk_after, IsWorld, IsLentBy, IsCourseHeld, IsSteady}
use Rattle.ps_ctx_table.specs.Moves.{OwnStep, OwnSteps, plain_moves}
use Rattle.ps_ctx_table.proofs.Places.{with_item-same, with_item-twice, item_at-with_item, item_at-apart}
use Rattle.ps_ctx_table.proofs.Stepping.{stepped_own, context_there}
use Rattle.ps_ctx_table.proofs.Turning.{went_world}

-- ---- what goes on is left

goes_unfinished : (status : Status) → may_end status ≡ true → is_finished status ≡ false
goes_unfinished running may = refl
goes_unfinished (unwinding cause) may = refl
goes_unfinished again may = refl
goes_unfinished (waiting lock condition) may = refl
goes_unfinished (retaking lock) may = refl
goes_unfinished finished may = cc

and_false : (b : Bool) → (b && false) ≡ false
and_false true = refl
and_false false = refl

pub goes_left : (context : Context) → may_end context.status ≡ true
    → left_of context ≡ Some context
goes_left context may =
    ap (λ b. if context.is_detached && b then None else Some context)
    (goes_unfinished context.status may)
    ∙ ap (λ b. if b then None else Some context) (and_false context.is_detached)

-- ---- a context that is put back

there : (w : World) (identifier : ℕ)
    → context_at w identifier ≡ item_at w.contexts identifier
unfolding context_at
there w zero = refl
there w (suc place) = refl

-- every other is as it was
pub put_apart : (w : World) (identifier other : ℕ) (next : Machine) → identifier ≢ other
    → context_at (with_machine identifier w next) other ≡ context_at w other
unfolding with_context
put_apart w identifier other next apart =
    there (with_machine identifier w next) other
    ∙ (item_at-apart w.contexts identifier other (left_of next.context) apart ∙ sym (there w other))

module _ (w : World) (identifier : ℕ) (context : Context)
    (found : context_at w identifier ≡ Some context) where
  in_list : item_at w.contexts identifier ≡ Some context
  in_list = sym (there w identifier) ∙ found

  pub put_back : (next : Machine) → left_of next.context ≡ Some next.context
      → context_at (with_machine identifier w next) identifier ≡ Some next.context
  unfolding with_context
  put_back next left =
      there (with_machine identifier w next) identifier
      ∙ (item_at-with_item w.contexts identifier context (left_of next.context) in_list ∙ left)

  -- twice: the later one stands
  pub put_twice : (one other : Machine)
      → with_machine identifier (with_machine identifier w one) other
      ≡ with_machine identifier w other
  unfolding with_context
  put_twice one other =
      ap (λ contexts. record w {
        contexts = contexts;
        store = other.store;
        printed = other.printed;
        error_lines = other.error_lines;
        names = other.names;
      })
      (with_item-twice w.contexts identifier (left_of one.context) (left_of other.context))

  -- as it was
  pub put_same : left_of context ≡ Some context
      → with_machine identifier w (machine_of w context) ≡ w
  unfolding with_context
  put_same left =
      ap (λ contexts. record w { contexts = contexts })
      (ap (with_item w.contexts identifier) left
      ∙ with_item-same w.contexts identifier context in_list)

  -- ---- one step

  ready_by : (status : Status) → may_end status ≡ true
      → is_ready_as status identifier context w ≡ true
  ready_by running may = refl
  ready_by (unwinding cause) may = refl
  ready_by again may = cc
  ready_by (waiting lock condition) may = cc
  ready_by (retaking lock) may = cc
  ready_by finished may = cc

  pub own_ready : may_end context.status ≡ true → is_ready w identifier ≡ true
  unfolding is_ready
  own_ready may =
      ap (λ (item : Option Context).
      option_map_or (λ one. is_ready_as one.status identifier one w) item false) found
      ∙ ready_by context.status may

  pub own_move : (next : Machine) → OwnStep w.program (machine_of w context) next
      → step w identifier false None ≡ with_machine identifier w next
  unfolding step
  own_move next own =
      ap (λ (s : Stepped). s.world)
      (stepped_own w identifier false None context found own.goes
      ∙ ap (after_own identifier false None w) own.reached)

-- ---- many

-- the first move goes on to the others
pub own_moves : (made : ℕ) (w : World) (identifier : ℕ) (context : Context)
    → context_at w identifier ≡ Some context → (after : Machine)
    → OwnSteps w.program (suc made) (machine_of w context) after
    → after_moves w (plain_moves identifier (suc made)) ≡ with_machine identifier w after
unfolding after_moves with_context
own_moves zero w identifier context found after own =
    own_move w identifier context found own.0 own.1
    ∙ ap (with_machine identifier w) own.2
own_moves (suc made) w identifier context found after own =
    let next = own.0 in
    let moved = own_move w identifier context found next own.1 in
    let left = goes_left next.context own.2.1.goes in
    ap (λ (now : World). after_moves now (plain_moves identifier (suc made))) moved
    ∙ (own_moves made (with_machine identifier w next) identifier next.context
    (put_back w identifier context found next left) after own.2
    ∙ put_twice w identifier context found next after)

true_and : (a b : Bool) → a ≡ true → IsTrue b → IsTrue (a && b)
true_and true b h k = k
true_and false b h k = cc

-- each is made by a context that is ready
pub own_all_ready : (made : ℕ) (w : World) (identifier : ℕ) (context : Context)
    → context_at w identifier ≡ Some context → (after : Machine)
    → OwnSteps w.program made (machine_of w context) after
    → IsTrue (all_ready w (plain_moves identifier made))
unfolding with_context
own_all_ready zero w identifier context found after own = refl
own_all_ready (suc zero) w identifier context found after own =
    true_and (is_ready w identifier) true
    (own_ready w identifier context found own.1.goes) refl
own_all_ready (suc (suc made)) w identifier context found after own =
    let next = own.0 in
    let moved = own_move w identifier context found next own.1 in
    let left = goes_left next.context own.2.1.goes in
    true_and (is_ready w identifier) _ (own_ready w identifier context found own.1.goes)
    (subst (λ (now : World). IsTrue (all_ready now (plain_moves identifier (suc made))))
    (sym moved)
    (own_all_ready (suc made) (with_machine identifier w next) identifier next.context
    (put_back w identifier context found next left) after own.2))

-- ---- over a memory

-- the desk is the world's after so many moves of one context
pub went_moves : (d : Desk) (steady : IsSteady d) (identifier : ℕ) (member : Member) (new : Lent)
    (course : Course) (has_faulted : Bool) (keeps : Keeps d.heap new.heap)
    (stays : Stays (lent_to d member.context) new) (good : IsGood new)
    (held : IsCourseHeld new.heap course) (w : World) (at : IsWorld d w)
    → item_at d.members identifier ≡ Some member → (made lines : ℕ) (next : Machine)
    → OwnSteps w.program (suc made) (machine_of w (context_of d.heap d.names member)) next
    → Lasts w.store next.store
    → IsLentBy new member.is_detached (status_of (birth_at new.heap) course) lines next
    → has_faulted ≡ not (nat_eq lines 0)
    → IsWorld (desk_after d identifier member new course has_faulted)
    (after_moves w (plain_moves identifier (suc made)))
went_moves d steady identifier member new course has_faulted keeps stays good held w at found made
    lines next own lasts lent faulted =
    subst (IsWorld (desk_after d identifier member new course has_faulted))
    (sym (own_moves made w identifier (context_of d.heap d.names member)
    (context_there d w at identifier member found) next own))
    (went_world d steady identifier member new course has_faulted keeps stays good held w at lines
    next lasts lent faulted)
