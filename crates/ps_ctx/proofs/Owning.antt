-- The turn of one context, among all of them.
use Rattle.std.proofs.Common.{◌≡◌, ℕ, ℤ, Bool, true, List, [], ◌∷◌, Option, Some, None, Ok, Err, refl, sym, ap, subst}
use Rattle.std.proofs.Common.{◌∙◌}
use Rattle.ps_step_outcome.specs.declared.world_operators.WorldOperator.{WorldOperator}
use Rattle.ps_language.specs.Effect.{Around, Scene}
use Rattle.ps_language.specs.Machines.{may_end, leaves_to_world, own_step}
use Rattle.ps_language.specs.Machines as machines
use Rattle.ps_language.specs.Step.{machine_of, with_machine, Stepped, after_own, stepped}
use Rattle.ps_language.specs.World.{Status, Machine, World}
use Rattle.ps_mem.specs.Heap.{birth_at}
use Rattle.ps_ops_operands.specs.declared.failure.NotMade.{NotMade as Reason}
use Rattle.ps_ops_operands.specs.Changes.{KeepsLogsWithin}
use Rattle.ps_ops_control.specs.declared.frames.Cause.{Cause}
use Rattle.ps_ops_control.specs.declared.frames.Frame.{Frame}
use Rattle.ps_ops_state.specs.declared.lent.Attempt.{Attempt}
use Rattle.ps_ops_state.specs.Acts.{Asked, IsSame}
use Rattle.ps_ops_state.specs.Lent.{Lent, IsShown, scene_of, around_of}
use Rattle.ps_step_outcome.specs.declared.turned.Turned.{Turned}
use Rattle.ps_step_outcome.specs.declared.turned.Turned.TheVariants.{Goes, Calls, Breaks, Ends}
use Rattle.ps_step_outcome.specs.Turns.{Turns, IsUnderWay, calling_of, reached_by, turn_needs}
use Rattle.ps_step_interpreter.specs.Interprets.{status_in, asks_in, own_turn}
use Rattle.ps_language.proofs.LeftTurns.{IsLeft, left_by, leaves_whatever}
use Rattle.ps_step_interpreter.proofs.Reached.{IsMade}
use Rattle.ps_ctx_table.specs.declared.members.Member.{Member}
use Rattle.ps_ctx_table.specs.Seats.{item_at, with_item}
use Rattle.ps_ctx_table.specs.Worlds.{status_of, context_of}
use Rattle.ps_ctx_table.specs.Desks.{Desk, lent_to, returned, IsWorld, IsSteady, HasFrame, AreFramed, machine_reached}
use Rattle.ps_ctx_table.specs.Desks.{member_left, course_after, turned_member, desk_turned, desk_unmade}
use Rattle.ps_ctx_table.proofs.Going.{with_item_members, left_members}
use Rattle.ps_ctx_table.proofs.Places.{item_at-with_item, with_item-same, with_item-twice}
use Rattle.ps_ctx_table.proofs.Stepping.{context_there, own_step_is, turned_steps}
use Rattle.ps_ctx_table.proofs.Turning.{member_at, turned_steady, turned_machine, turned_reaches, turned_world}
use Rattle.ps_ctx_table.proofs.Turning.{unmade_steady, unmade_world}
use Rattle.ps_ctx.proofs.Calling.{none_left}
use Rattle.ps_ctx.specs.declared.notes.Note.TheVariants.{Nothing}
use Rattle.ps_ctx.specs.Calls.{AreFramedBut, IsSameDesk}
use Rattle.ps_ctx.specs.Finishes.{calling_after}
use Rattle.ps_ctx.specs.Held.{held, IsCalling, AreFramedBy, IsSteadyHeld, course_in}
use Rattle.ps_ctx.specs.Steps.{StepsTo}

-- ---- how far it is

pub status_same : (births : ℕ → ℕ) (unwinding : Option Cause)
    → status_of births (course_in unwinding) ≡ status_in unwinding
status_same births None = refl
status_same births (Some cause) = refl

pub may_in : (unwinding : Option Cause) → may_end (status_in unwinding) ≡ true
may_in None = refl
may_in (Some cause) = refl

frame_after : (turned : Turned) (frames : List Frame) → IsUnderWay turned frames → IsMade turned
    → HasFrame (course_after turned frames) frames
frame_after Goes [] under_way made = tt
frame_after Goes (frame ∷ frames) under_way made = tt
frame_after (Calls operator) frames under_way made = absurd made
frame_after (Breaks cause) [] under_way made = under_way
frame_after (Breaks cause) (frame ∷ frames) under_way made = tt
frame_after (Ends told) frames under_way made = tt

-- all but one have frames, whatever stands in its place
pub framed_but : (members : List (Option Member)) (identifier : ℕ) (item : Option Member)
    → AreFramed members → AreFramedBut identifier (with_item members identifier item)
framed_but members identifier item framed =
    subst AreFramed (sym (with_item-twice members identifier item None))
    (with_item_members (λ one. HasFrame one.course one.context.frames) members identifier None
    framed tt)

-- and all have, where that has one
pub framed_with : (members : List (Option Member)) (identifier : ℕ) (member : Member)
    → AreFramed members → HasFrame member.course member.context.frames
    → AreFramed (with_item members identifier (member_left member))
framed_with members identifier member framed one =
    with_item_members (λ other. HasFrame other.course other.context.frames) members identifier
    (member_left member) framed
    (left_members (λ other. HasFrame other.course other.context.frames) member one)

-- where nothing that was lent has changed but what was granted, so it is with the desk
pub same_desk : (d : Desk) (identifier : ℕ) (member : Member) (new : Lent)
    → item_at d.members identifier ≡ Some member → IsSame (lent_to d member.context) new
    → IsSameDesk d (desk_unmade d identifier member new)
same_desk d identifier member new found same =
    ap (λ (l : Lent). desk_unmade d identifier member l) same
    ∙ ap (λ (members : List (Option Member)). record d
    { grants = new.grants; members = members; room = new.room; scratch = new.scratch })
    (with_item-same d.members identifier member found)

-- ---- the turn of one of them

module _ (asks : Status → Around → Scene → Asked) (unwinding : Option Cause) (d : Desk)
    (steady : IsSteady d) (framed : AreFramed d.members) (identifier : ℕ) (member : Member)
    (found : item_at d.members identifier ≡ Some member)
    (is : member.course ≡ course_in unwinding) (attempt : Attempt) (new : Lent) where
  abbrev old : Lent
  old = lent_to d member.context

  status_is : status_of (birth_at d.heap) member.course ≡ status_in unwinding
  status_is =
      ap (status_of (birth_at d.heap)) is ∙ status_same (birth_at d.heap) unwinding

  may : may_end (status_of (birth_at d.heap) member.course) ≡ true
  may = ap may_end status_is ∙ may_in unwinding

  turn_is : (w : World) → own_turn unwinding old w.store
      ≡ machines.turn_as (around_of old) (status_of (birth_at d.heap) member.course)
      (scene_of old w.store).frames (scene_of old w.store)
  turn_is w =
      ap (λ status. machines.turn_as (around_of old) status (scene_of old w.store).frames
      (scene_of old w.store)) (sym status_is)

  module _ (turned : Turned)
      (made : Turns (asks_in asks unwinding) (own_turn unwinding) attempt (Ok turned) old new) where
    abbrev pub after_desk : Desk
    after_desk = desk_turned d identifier member new turned

    abbrev pub after_member : Member
    after_member = turned_member turned (record member { context = returned new })

    steps_is : (w : World) (at : IsWorld d w) (shown : Option (ℤ × ℤ))
        → stepped w identifier attempt.refused shown
        ≡ after_own identifier attempt.refused shown w (reached_by turned
        (turned_machine d steady identifier member found (asks_in asks unwinding)
        (own_turn unwinding) attempt new turned made w at))
    steps_is w at shown =
        turned_steps d w at identifier member found steady (asks_in asks unwinding)
        (own_turn unwinding) attempt new turned made shown may (turn_is w)

    settled_by : (turned : Turned) → calling_after turned identifier ≡ None → (w : World)
        (shown : Option (ℤ × ℤ)) (desk : Desk) (next : Machine)
        → stepped w identifier attempt.refused shown
        ≡ after_own identifier attempt.refused shown w (reached_by turned next)
        → IsWorld desk (with_machine identifier w (machine_reached (reached_by turned next)))
        → StepsTo (Ok Nothing) (stepped w identifier attempt.refused shown) w (held desk None)
    settled_by Goes none w shown desk next same at = (
      subst (λ (s : Stepped). IsWorld desk s.world) (sym same) at,
      refl,
      ap (λ (s : Stepped). s.note) (sym same),
    )
    settled_by (Calls operator) none w shown desk next same at = absurd (cc)
    settled_by (Breaks cause) none w shown desk next same at = (
      subst (λ (s : Stepped). IsWorld desk s.world) (sym same) at,
      refl,
      ap (λ (s : Stepped). s.note) (sym same),
    )
    settled_by (Ends told) none w shown desk next same at = (
      subst (λ (s : Stepped). IsWorld desk s.world) (sym same) at,
      refl,
      ap (λ (s : Stepped). s.note) (sym same),
    )

    -- it has settled
    pub own_made : calling_after turned identifier ≡ None → (w : World) → IsWorld d w
        → (shown : Option (ℤ × ℤ))
        → StepsTo (Ok Nothing) (stepped w identifier attempt.refused shown) w (held after_desk None)
    own_made none w at shown =
        settled_by turned none w shown after_desk
        (turned_machine d steady identifier member found (asks_in asks unwinding)
        (own_turn unwinding) attempt new turned made w at) (steps_is w at shown)
        (turned_world d steady identifier member found (asks_in asks unwinding)
        (own_turn unwinding) attempt new turned made w at)

  -- an operator is left to the world
  module _ (operator : WorldOperator)
      (made : Turns (asks_in asks unwinding) (own_turn unwinding) attempt (Ok (Calls operator)) old
      new) where
    module _ (w : World) (at : IsWorld d w) where
      abbrev left : Machine
      left = turned_machine d steady identifier member found (asks_in asks unwinding)
          (own_turn unwinding) attempt new (Calls operator) made w at

      abbrev machine : Machine
      machine = machine_of w (context_of d.heap d.names member)

      is_left : IsLeft machine (own_turn unwinding old w.store) (calling_of operator) left
      is_left = left_by attempt.refused machine (own_turn unwinding old w.store)
          (calling_of operator) left (turned_reaches d steady identifier member found
          (asks_in asks unwinding) (own_turn unwinding) attempt new (Calls operator) made w at)

      pub calls_logs : KeepsLogsWithin 0 old.grants new.grants attempt.slot
      calls_logs =
          subst (λ (n : ℕ). KeepsLogsWithin n old.grants new.grants attempt.slot)
          (ap (λ turn. (turn_needs attempt.refused (asks_in asks unwinding old w.store)
          (birth_at old.heap old.error_dictionary) (scene_of old w.store) turn).records)
          is_left.asks)
          (made.meets w.store (member_at (λ one. IsShown (lent_to d one.context) w.store)
          d.members identifier member at.members found)).logs

      leaves : (refused : Bool)
          → own_step w.program refused machine ≡ leaves_to_world (calling_of operator) left
      leaves refused =
          own_step_is d w at identifier member found refused
          ∙ (ap (machines.after_turn refused machine) (sym (turn_is w))
          ∙ leaves_whatever refused machine (own_turn unwinding old w.store)
          (calling_of operator) left is_left)

      pub own_calls : IsCalling (record { caller = identifier; operator = operator })
          (after_desk (Calls operator) made) w
      own_calls = record {
        context = context_of d.heap d.names member;
        found = context_there d w at identifier member found;
        goes_on = may;
        left = left;
        runs = refl;
        leaves = leaves;
        world = turned_world d steady identifier member found (asks_in asks unwinding)
            (own_turn unwinding) attempt new (Calls operator) made w at;
      }

  -- it is not made
  module _ (reason : Reason)
      (unmade : Turns (asks_in asks unwinding) (own_turn unwinding) attempt (Err reason) old new)
    where
      pub own_unmade : (w : World) → IsWorld d w → IsWorld (desk_unmade d identifier member new) w
      own_unmade w at =
          unmade_world d steady identifier member found (asks_in asks unwinding)
          (own_turn unwinding) attempt new reason unmade w at

      pub unmade_is_steady : IsSteady (desk_unmade d identifier member new)
      unmade_is_steady =
          unmade_steady d steady identifier member found (asks_in asks unwinding)
          (own_turn unwinding) attempt new reason unmade

  -- once it has settled
  pub own_framed : (turned : Turned)
      (made : Turns (asks_in asks unwinding) (own_turn unwinding) attempt (Ok turned) old new)
      → AreFramedBy (calling_after turned identifier) (after_desk turned made)
  own_framed Goes made =
      framed_with d.members identifier (after_member Goes made) framed
      (frame_after Goes new.frames made.under_way tt)
  own_framed (Calls operator) made = (
    framed_but d.members identifier (member_left (after_member (Calls operator) made)) framed,
    record {
      member = after_member (Calls operator) made;
      found = item_at-with_item d.members identifier member
          (member_left (after_member (Calls operator) made)) found
          ∙ none_left member.is_detached (after_member (Calls operator) made);
      runs = refl;
    },
  )
  own_framed (Breaks cause) made =
      framed_with d.members identifier (after_member (Breaks cause) made) framed
      (frame_after (Breaks cause) new.frames made.under_way tt)
  own_framed (Ends told) made =
      framed_with d.members identifier (after_member (Ends told) made) framed
      (frame_after (Ends told) new.frames made.under_way tt)

  pub own_steady : (turned : Turned)
      (made : Turns (asks_in asks unwinding) (own_turn unwinding) attempt (Ok turned) old new)
      → IsSteadyHeld (held (after_desk turned made) (calling_after turned identifier))
  own_steady turned made = record {
    steady = turned_steady d steady identifier member found (asks_in asks unwinding)
        (own_turn unwinding) attempt new turned made;
    framed = own_framed turned made;
  }
