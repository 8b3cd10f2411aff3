-- A caller goes no further: it waits, or is to try again.
use Rattle.std.proofs.Common.{◌≡◌, ℕ, ℤ, false, Option, Some, None, Ok, sym, ap, subst, ◌∙◌}
use Rattle.std.specs.Option.{option_map_or}
use Rattle.std.specs.Prelude.{◌&&◌, if◌then◌else◌}
use Rattle.ps_step_outcome.specs.declared.world_operators.WorldOperator.{WorldOperator}
use Rattle.ps_language.specs.Contexts.{left_of, context_at}
use Rattle.ps_language.specs.Machines.{with_status}
use Rattle.ps_language.specs.Step.{with_machine, lifted, machine_of, called}
use Rattle.ps_language.specs.World.{Context, Machine, World}
use Rattle.ps_mem.specs.Heap.{birth_at}
use Rattle.ps_mem.specs.Keeps.{Keeps}
use Rattle.ps_ops_operands.specs.Changes.{KeepsLogsWithin, most_records}
use Rattle.ps_ops_state.specs.declared.lent.Attempt.{Attempt}
use Rattle.ps_ops_state.specs.Acts.{Stays}
use Rattle.ps_ops_state.specs.Lent.{Lent, IsGood}
use Rattle.ps_step_outcome.specs.Turns.{calling_of}
use Rattle.ps_ctx_table.specs.declared.members.Course.{Course}
use Rattle.ps_ctx_table.specs.declared.members.Course.TheVariants.{Running}
use Rattle.ps_ctx_table.specs.declared.members.Member.{Member}
use Rattle.ps_ctx_table.specs.Seats.{item_at, with_item}
use Rattle.ps_ctx_table.specs.Worlds.{status_of, context_of}
use Rattle.ps_ctx_table.specs.Desks.{Desk, lent_to, returned, desk_unmade, has_finished, member_left, HasFrame}
use Rattle.ps_ctx_table.specs.Desks.{AreFramed, IsCourseHeld, IsGoodMember, IsWorld, IsSteady}
use Rattle.ps_ctx_table.proofs.Changing.{changed_desk, changed_steady}
use Rattle.ps_ctx_table.proofs.Going.{with_item_members}
use Rattle.ps_ctx_table.proofs.Lifting.{course_world}
use Rattle.ps_ctx_table.proofs.Owning.{put_back, put_twice}
use Rattle.ps_ctx_table.proofs.Places.{with_item-twice, item_at-with_item}
use Rattle.ps_ctx_table.proofs.Stepping.{context_there}
use Rattle.ps_ctx_table.proofs.Turning.{member_at}
use Rattle.ps_ctx.specs.declared.notes.Note.TheVariants.{TurnEnds}
use Rattle.ps_ctx.specs.Calls.{AreFramedBut, CallsTo, Calls}
use Rattle.ps_ctx.proofs.Again.{in_course, desk_with}
use Rattle.ps_ctx.proofs.Calling.{none_left}
use Rattle.ps_ctx_operators.proofs.Parts.{part_steady, part_framed}

-- ---- in the definitions

-- what is done by a context that was put back is done before it is
pub lifted_put : (w : World) (identifier : ℕ) (context : Context)
    → context_at w identifier ≡ Some context → (next : Machine)
    → left_of next.context ≡ Some next.context → (done : Machine → Machine)
    → lifted identifier done (with_machine identifier w next)
    ≡ with_machine identifier w (done next)
lifted_put w identifier context found next left done =
    ap (λ (there : Option Context). option_map_or (λ one. with_machine identifier
    (with_machine identifier w next) (done (machine_of (with_machine identifier w next) one))) there
    (with_machine identifier w next)) (put_back w identifier context found next left)
    ∙ put_twice w identifier context found next (done next)

-- ---- over a memory: how far it is

module _ (d : Desk) (steady : IsSteady d) (caller : ℕ) (member : Member)
    (found : item_at d.members caller ≡ Some member) (course : Course)
    (unfinished : has_finished course ≡ false) where
  abbrev pub stopped_desk : Desk
  stopped_desk = desk_with d caller (in_course course member)

  stopped_left : member_left (in_course course member) ≡ Some (in_course course member)
  stopped_left =
      ap (λ b. if member.is_detached && b then None else Some (in_course course member)) unfinished
      ∙ none_left member.is_detached (in_course course member)

  stopped_is : changed_desk d caller (in_course course member) ≡ stopped_desk
  stopped_is = ap (λ item. record d { members = with_item d.members caller item }) stopped_left

  pub stopped_steady : IsCourseHeld d.heap course → IsSteady stopped_desk
  stopped_steady held =
      let good = member_at (IsGoodMember d) d.members caller member steady.members found in
      subst IsSteady stopped_is
      (changed_steady d caller (in_course course member) steady
      (record { good = good.good; course = held }))

  pub stopped_world : (w : World) → IsWorld d w
      → IsWorld stopped_desk (lifted caller (with_status (status_of (birth_at d.heap) course)) w)
  stopped_world w at =
      subst (λ (one : Desk). IsWorld one
      (lifted caller (with_status (status_of (birth_at d.heap) course)) w)) stopped_is
      (course_world d w at caller member found course)

  pub stopped_framed : HasFrame course member.context.frames → AreFramedBut caller d.members
      → AreFramed stopped_desk.members
  stopped_framed one framed =
      subst AreFramed (with_item-twice d.members caller None (Some (in_course course member)))
      (with_item_members (λ each. HasFrame each.course each.context.frames)
      (with_item d.members caller None) caller (Some (in_course course member)) framed one)

-- ---- once its part was done

module _ (caller : ℕ) (d : Desk) (steady : IsSteady d) (member : Member)
    (found : item_at d.members caller ≡ Some member) (runs : member.course ≡ Running) (new : Lent)
    (keeps : Keeps d.heap new.heap) (stays : Stays (lent_to d member.context) new)
    (good : IsGood new) (course : Course) (unfinished : has_finished course ≡ false) where
  abbrev here : Context
  here = context_of d.heap d.names member

  abbrev part : Desk
  part = desk_unmade d caller member new

  abbrev after : Member
  after = record member { context = returned new }

  abbrev pub stops_desk : Desk
  stops_desk = desk_unmade d caller (in_course course member) new

  stops_is : desk_with part caller (in_course course after) ≡ stops_desk
  stops_is =
      ap (λ members. record part { members = members })
      (with_item-twice d.members caller (Some after) (Some (in_course course after)))

  there : item_at part.members caller ≡ Some after
  there = item_at-with_item d.members caller member (Some after) found

  now_steady : IsSteady part
  now_steady = part_steady d caller member found runs new steady keeps stays good

  -- the world where it is as far
  pub stops_world : (w : World) → IsWorld part w → IsWorld stops_desk
      (lifted caller (with_status (status_of (birth_at new.heap) course)) w)
  stops_world w at =
      subst (λ (one : Desk). IsWorld one
      (lifted caller (with_status (status_of (birth_at new.heap) course)) w)) stops_is
      (stopped_world part now_steady caller after there course unfinished w at)

  here_is : (w : World) (context : Context) → IsWorld d w → context_at w caller ≡ Some context
      → here ≡ context
  here_is w context at named =
      let same : Some here ≡ Some context =
      sym (context_there d w at caller member found) ∙ named in cc

  -- the call that comes to it
  pub stops : (operator : WorldOperator) (attempt : Attempt) (shown : Option (ℤ × ℤ))
      → IsCourseHeld new.heap course → HasFrame course new.frames
      → KeepsLogsWithin most_records d.grants new.grants attempt.slot
      → ((w : World) → IsWorld d w → CallsTo (Ok TurnEnds)
      (called (calling_of operator) caller attempt.refused shown w here) w stops_desk)
      → Calls operator caller attempt shown (Ok TurnEnds) d stops_desk
  stops operator attempt shown held framed logs to = record {
    meets = λ w context at named.
        subst (λ (one : Context). CallsTo (Ok TurnEnds)
        (called (calling_of operator) caller attempt.refused shown w one) w stops_desk)
        (here_is w context at named) (to w at);
    steady = subst IsSteady stops_is
        (stopped_steady part now_steady caller after there course unfinished held);
    keeps = keeps;
    program = stays.program;
    most = stays.most;
    framed = λ others.
        subst (λ (one : Desk). AreFramed one.members) stops_is
        (stopped_framed part now_steady caller after there course unfinished framed
        (part_framed d caller member found runs new others));
    unmade = tt;
    same = λ w at. tt;
    held_up = λ reason bad. absurd (cc);
    logs = logs;
    no_status = λ w context at there. tt;
    leaves = λ is. absurd (cc);
  }
