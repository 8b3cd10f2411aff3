-- The world after a turn of one context.
use Rattle.std.proofs.Common.{◌≡◌, ℕ, zero, suc, ◌+◌, Bool, true, false, List, [], ◌∷◌, Option, Some, None, Ok, Err}
use Rattle.std.proofs.Common.{refl, sym, ap, subst, ◌∙◌, arith}
use Rattle.std.proofs.lemmas.Bool.{ne_eqb}
use Rattle.std.specs.Prelude.{◌||◌, not, nat_eq, option_and_then, slice_get}
use Rattle.ps_language.specs.Machines.{with_status, with_scene, after_turn}
use Rattle.ps_language.specs.Step.{machine_of, with_machine}
use Rattle.ps_language.specs.StepValues.{Turn}
use Rattle.ps_language.specs.Value.{Store}
use Rattle.ps_language.specs.World.{Machine, World}
use Rattle.ps_mem.specs.Heap.{Heap, Grants, birth_at}
use Rattle.ps_mem.specs.Keeps.{Keeps}
use Rattle.ps_mem.proofs.KeepsLemmas.{birth_at-kept}
use Rattle.ps_ops_operands.specs.declared.failure.NotMade.{NotMade as Reason}
use Rattle.ps_ops_control.specs.declared.frames.Frame.{Frame}
use Rattle.ps_ops_state.specs.declared.lent.Context.{Context}
use Rattle.ps_ops_state.specs.declared.lent.Scratch.{Scratch}
use Rattle.ps_ops_state.specs.declared.lent.Attempt.{Attempt}
use Rattle.ps_ops_state.specs.Acts.{Asked, Lasts, IsSame, Stays}
use Rattle.ps_ops_state.specs.Lent.{Lent, scene_of, IsShown, IsGood}
use Rattle.ps_step_outcome.specs.declared.turned.Turned.{Turned}
use Rattle.ps_step_outcome.specs.declared.turned.Turned.TheVariants.{Goes, Calls, Breaks, Ends}
use Rattle.ps_step_outcome.specs.Turns.{IsTurned, IsUnderWay, lines_after, reached_by, Turns}
use Rattle.ps_step_outcome.specs.Turns as turns
use Rattle.ps_ctx_table.specs.declared.members.Course.{Course}
use Rattle.ps_ctx_table.specs.declared.members.Member.{Member}
use Rattle.ps_ctx_table.specs.Seats.{item_at}
use Rattle.ps_ctx_table.specs.Worlds.{status_of, context_of}
use Rattle.ps_ctx_table.specs.Desks.{Desk, lent_to, returned, desk_of, desk_after, desk_turned, desk_unmade, AllMembers}
use Rattle.ps_ctx_table.specs.Desks.{HasFrame, AreFramed, IsOwn, IsWorld, IsLentBy, IsCourseHeld, IsGoodMember, IsSteady}
use Rattle.ps_ctx_table.specs.Desks.{GoesOn, machine_reached, member_left, course_after, tells, turned_member}
use Rattle.ps_ctx_table.proofs.Going.{with_item_members, goes_steady, goes_world, left_members}
use Rattle.ps_ctx_table.proofs.Places.{with_item-same}
use Rattle.ps_ctx_table.proofs.Settling.{status_lent, settled_is}
use Rattle.ps_ctx_table.proofs.Staying.{stays_member}

-- ---- a context of the table

at_place : (P : Member → Type 0) (members : List (Option Member)) (place : ℕ) (member : Member)
    → AllMembers P members
    → option_and_then (λ item. item) (slice_get members place) ≡ Some member → P member
at_place P [] place member all found = cc
at_place P (None ∷ members) zero member all found = cc
at_place P (Some one ∷ members) zero member all found =
    let same : one ≡ member = cc in subst P same all.0
at_place P (item ∷ members) (suc place) member all found =
    at_place P members place member all.1 found

pub member_at : (P : Member → Type 0) (members : List (Option Member)) (identifier : ℕ)
    (member : Member) → AllMembers P members → item_at members identifier ≡ Some member
    → P member
member_at P members zero member all found = cc
member_at P members (suc place) member all found = at_place P members place member all found

-- ---- what is left of what was lent

pub goes_by : (d : Desk) (context : Context) (new : Lent) (members : List (Option Member))
    (has_faulted : Bool) → Keeps d.heap new.heap → Stays (lent_to d context) new → IsGood new
    → GoesOn d (desk_of new members has_faulted)
goes_by d context new members has_faulted keeps stays good = record {
  keeps = keeps;
  formed = stays.formed;
  names = stays.names;
  program = stays.program;
  most = stays.most;
  sound = good.sound;
  are = good.names;
  first = good.first;
  empty = good.empty;
}

course_held : (h : Heap) (turned : Turned) (frames : List Frame)
    → IsCourseHeld h (course_after turned frames)
course_held h Goes [] = tt
course_held h Goes (frame ∷ frames) = tt
course_held h (Calls operator) frames = tt
course_held h (Breaks cause) frames = tt
course_held h (Ends told) frames = tt

or_false : (b : Bool) → b || false ≡ b
or_false true = refl
or_false false = refl

or_true : (b : Bool) → b || true ≡ true
or_true true = refl
or_true false = refl

told_one : (lines : ℕ) → true ≡ not (nat_eq (lines + 1) 0)
told_one lines = sym (ap not (ne_eqb (lines + 1) 0 (λ e. omega (arith, e))))

faulted_after : (turned : Turned) (has_faulted : Bool) (lines : ℕ)
    → has_faulted ≡ not (nat_eq lines 0)
    → has_faulted || tells turned ≡ not (nat_eq (lines_after turned lines) 0)
faulted_after Goes has_faulted lines is = or_false has_faulted ∙ is
faulted_after (Calls operator) has_faulted lines is = or_false has_faulted ∙ is
faulted_after (Breaks cause) has_faulted lines is = or_false has_faulted ∙ is
faulted_after (Ends true) has_faulted lines is = or_true has_faulted ∙ told_one lines
faulted_after (Ends false) has_faulted lines is = or_false has_faulted ∙ is

shown_over : (d : Desk) (grants : Grants) (room : ℕ) (scratch : Scratch) (s : Store)
    (members : List (Option Member))
    → AllMembers (λ one. IsShown (lent_to d one.context) s) members
    → AllMembers (λ one. IsShown (lent_to (record d
    { grants = grants; room = room; scratch = scratch }) one.context) s) members
shown_over d grants room scratch s [] shown = tt
shown_over d grants room scratch s (None ∷ members) shown =
    (tt, shown_over d grants room scratch s members shown.1)
shown_over d grants room scratch s (Some member ∷ members) shown = (
  record {
    shows = shown.0.shows;
    operands = shown.0.operands;
    dictionaries = shown.0.dictionaries;
    frames = shown.0.frames;
  },
  shown_over d grants room scratch s members shown.1,
)

-- what was granted, and how much room there is, is nothing in the world
pub regranted : (d : Desk) (w : World) (grants : Grants) (room : ℕ) (scratch : Scratch)
    → IsWorld d w
    → IsWorld (record d { grants = grants; room = room; scratch = scratch }) w
regranted d w grants room scratch at = record {
  shows = at.shows;
  program = at.program;
  names = at.names;
  printed = at.printed;
  faulted = at.faulted;
  contexts = at.contexts;
  members = shown_over d grants room scratch w.store d.members at.members;
}

-- nothing has changed but these
pub same_world : (d : Desk) (w : World) (identifier : ℕ) (member : Member) (new : Lent)
    → item_at d.members identifier ≡ Some member → IsWorld d w
    → IsSame (lent_to d member.context) new
    → IsWorld (desk_unmade d identifier member new) w
same_world d w identifier member new found at same =
    subst (λ (l : Lent). IsWorld (desk_unmade d identifier member l) w) (sym same)
    (subst (λ members. IsWorld (record d
    { grants = new.grants; members = members; room = new.room; scratch = new.scratch }) w)
    (sym (with_item-same d.members identifier member found))
    (regranted d w new.grants new.room new.scratch at))

-- ---- one of them went on

module _ (d : Desk) (steady : IsSteady d) (identifier : ℕ) (member : Member) (new : Lent) where
  -- over what is left of what was lent, however far it is, or nothing of it
  module _ (course : Course) (has_faulted : Bool) (keeps : Keeps d.heap new.heap)
      (stays : Stays (lent_to d member.context) new) (good : IsGood new)
      (held : IsCourseHeld new.heap course) where
    abbrev gone_on : Member
    gone_on = record member { context = returned new; course = course }

    abbrev went_desk : Desk
    went_desk = desk_after d identifier member new course has_faulted

    went_on : GoesOn d went_desk
    went_on = goes_by d member.context new _ _ keeps stays good

    pub went_steady : IsSteady (desk_after d identifier member new course has_faulted)
    went_steady =
        goes_steady d went_desk went_on steady identifier (member_left gone_on) refl
        (left_members (IsGoodMember went_desk) gone_on
        (record { good = good; course = held }))

    -- where it is that of a machine, the desk is the world's where this is put back
    pub went_world : (w : World) → IsWorld d w → (lines : ℕ) (next : Machine)
        → Lasts w.store next.store
        → IsLentBy new member.is_detached (status_of (birth_at new.heap) course) lines next
        → has_faulted ≡ not (nat_eq lines 0)
        → IsWorld (desk_after d identifier member new course has_faulted)
        (with_machine identifier w next)
    went_world w at lines next lasts lent faulted =
        goes_world d went_desk went_on steady identifier gone_on refl w at lines next lasts lent
        faulted

-- where it went on as a turn does, and settles
pub went_settled : (d : Desk) (steady : IsSteady d) (identifier : ℕ) (member : Member) (new : Lent)
    (turned : Turned) (has_faulted : Bool) (keeps : Keeps d.heap new.heap)
    (stays : Stays (lent_to d member.context) new) (good : IsGood new) (w : World)
    (at : IsWorld d w)
    (lines : ℕ) (next : Machine) → Lasts w.store next.store
    → IsLentBy new member.is_detached (turns.status_of turned) lines next
    → IsUnderWay turned new.frames → has_faulted ≡ not (nat_eq lines 0)
    → IsWorld
    (desk_after d identifier member new (course_after turned new.frames) has_faulted)
    (with_machine identifier w (machine_reached (reached_by turned next)))
went_settled d steady identifier member new turned has_faulted keeps stays good w at lines next
    lasts lent under_way faulted =
    let course = course_after turned new.frames in
    let status = status_of (birth_at new.heap) course in
    subst (λ (m : Machine). IsWorld (desk_after d identifier member new course has_faulted)
    (with_machine identifier w m))
    (sym (settled_is new member.is_detached lines next turned lent under_way))
    (went_world d steady identifier member new course has_faulted keeps stays good
    (course_held new.heap turned new.frames) w at lines (with_status status next) lasts
    (status_lent new member.is_detached lines next (turns.status_of turned) status lent) faulted)

-- what runs or is unwinding has a frame, unless an operator is left to the world
pub frame_after : (turned : Turned) (frames : List Frame) → IsUnderWay turned frames
    → IsOwn turned → HasFrame (course_after turned frames) frames
frame_after Goes [] under_way own = tt
frame_after Goes (frame ∷ frames) under_way own = tt
frame_after (Calls operator) frames under_way own = absurd own
frame_after (Breaks cause) [] under_way own = under_way
frame_after (Breaks cause) (frame ∷ frames) under_way own = tt
frame_after (Ends told) frames under_way own = tt

-- ---- a turn of one of them

module _ (d : Desk) (steady : IsSteady d) (identifier : ℕ) (member : Member)
    (found : item_at d.members identifier ≡ Some member) (asks : Lent → Store → Asked)
    (turn : Lent → Store → Turn) (attempt : Attempt) (new : Lent) where
  good_there : IsGoodMember d member
  good_there = member_at (IsGoodMember d) d.members identifier member steady.members found

  -- ---- that was made

  module _ (turned : Turned)
      (made : Turns asks turn attempt (Ok turned) (lent_to d member.context) new) where
    held : IsCourseHeld new.heap (course_after turned new.frames)
    held = course_held new.heap turned new.frames

    pub turned_steady : IsSteady (desk_turned d identifier member new turned)
    turned_steady =
        went_steady d steady identifier member new (course_after turned new.frames)
        (d.has_faulted || tells turned) made.keeps made.stays made.good held

    pub turned_framed : AreFramed d.members → IsOwn turned
        → AreFramed (desk_turned d identifier member new turned).members
    turned_framed framed own =
        with_item_members (λ one. HasFrame one.course one.context.frames) d.members identifier _
        framed (left_members (λ one. HasFrame one.course one.context.frames)
        (turned_member turned (record member { context = returned new }))
        (frame_after turned new.frames made.under_way own))

    module _ (w : World) (at : IsWorld d w) where
      pub is_turned : IsTurned attempt.refused (turn (lent_to d member.context) w.store) turned
          w.store (lent_to d member.context) new
      is_turned = (made.meets w.store (member_at (λ one. IsShown (lent_to d one.context) w.store)
          d.members identifier member at.members found)).did

      abbrev machine : Machine
      machine = machine_of w (context_of d.heap d.names member)

      -- the machine that it comes to, before it settles
      abbrev pub turned_machine : Machine
      turned_machine =
          record (with_scene (scene_of new is_turned.after) (turns.status_of turned) machine)
          { printed = new.printed; error_lines = lines_after turned w.error_lines }

      pub turned_reaches : after_turn attempt.refused machine
          (turn (lent_to d member.context) w.store)
          ≡ reached_by turned turned_machine
      turned_reaches = is_turned.is machine at.printed refl

      next_lent : IsLentBy new member.is_detached (turns.status_of turned)
          (lines_after turned w.error_lines) turned_machine
      next_lent = record {
        shown = is_turned.shown;
        scene = refl;
        error_dictionary =
            sym (birth_at-kept d.heap new.heap made.keeps member.context.error_dictionary
            good_there.good.error_stands.stands.object good_there.good.error_stands.stands.at)
            ∙ ap (birth_at new.heap) (sym made.stays.error_dictionary);
        detached = refl;
        is_so = refl;
        printed = refl;
        error_lines = refl;
      }

      pub turned_world : IsWorld (desk_turned d identifier member new turned)
          (with_machine identifier w (machine_reached (reached_by turned turned_machine)))
      turned_world =
          went_settled d steady identifier member new turned (d.has_faulted || tells turned)
          made.keeps made.stays made.good w at (lines_after turned w.error_lines) turned_machine
          is_turned.lasts next_lent made.under_way
          (faulted_after turned d.has_faulted w.error_lines at.faulted)

  -- ---- that was not made: nothing has changed

  module _ (reason : Reason) (unmade : Turns asks turn attempt (Err reason)
      (lent_to d member.context) new) where
    pub unmade_steady : IsSteady (desk_unmade d identifier member new)
    unmade_steady =
        let goes = goes_by d member.context new _ _ unmade.keeps unmade.stays unmade.good in
        goes_steady d (desk_unmade d identifier member new) goes steady identifier
        (Some (record member { context = returned new })) refl (record {
          good = unmade.good;
          course =
              (stays_member d (desk_unmade d identifier member new) goes member good_there).course;
        })

    pub unmade_world : (w : World) → IsWorld d w → IsWorld (desk_unmade d identifier member new) w
    unmade_world w at =
        same_world d w identifier member new found at (unmade.meets w.store
        (member_at (λ one. IsShown (lent_to d one.context) w.store) d.members identifier member
        at.members found)).did.1
