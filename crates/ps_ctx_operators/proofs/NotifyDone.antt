-- A condition is notified by an operator of its caller.
use Rattle.std.proofs.Common.{◌≡◌, ℕ, zero, suc, ℤ, Bool, true, false, List, [], ◌∷◌, Option, Some, None, Ok, Err, refl}
use Rattle.std.proofs.Common.{sym, ap, subst, ◌∙◌}
use Rattle.std.specs.Prelude.{◌==◌, option_map, option_and_then, slice_get, slice_set, if◌then◌else◌}
use Rattle.ps_language.specs.declared.kinds.Kind.TheVariants.{Condition as ConditionKind}
use Rattle.ps_language.specs.declared.errors.ErrorName.TheVariants.{TypeCheck}
use Rattle.ps_step_outcome.specs.declared.world_operators.WorldOperator.TheVariants.{Notify}
use Rattle.ps_language.specs.Acts.{operands_effect}
use Rattle.ps_language.specs.Contexts.{doing}
use Rattle.ps_language.specs.Effect.{Scene, Call, Deed, makes}
use Rattle.ps_language.specs.Locks.{with_notified}
use Rattle.ps_language.specs.Outcome.{Outcome, leaves, given}
use Rattle.ps_language.specs.Owners.{as_condition}
use Rattle.ps_language.specs.Value.{Value, Store}
use Rattle.ps_language.specs.World.{World}
use Rattle.ps_mem.specs.Heap.{birth_at}
use Rattle.ps_mem.specs.References.{StandsAs}
use Rattle.ps_mem.proofs.KeepsLemmas.{birth_at-kept}
use Rattle.ps_ops_control.specs.declared.frames.Frame.{Frame}
use Rattle.ps_ops_state.specs.declared.breaks.Break.{Break}
use Rattle.ps_ops_state.specs.declared.lent.Attempt.{Attempt}
use Rattle.ps_ops_state.specs.Acts.{Acts, nothing_asked, effect_in}
use Rattle.ps_ops_state.specs.Lent.{Lent, scene_of}
use Rattle.ps_ctx_table.specs.declared.members.Course.{Course}
use Rattle.ps_ctx_table.specs.declared.members.Course.TheVariants.{Running, Unwinding, Again, Waiting, Retaking}
use Rattle.ps_ctx_table.specs.declared.members.Course.TheVariants.{Finished}
use Rattle.ps_ctx_table.specs.declared.members.Member.{Member}
use Rattle.ps_ctx_table.specs.Seats.{item_at, with_item}
use Rattle.ps_ctx_table.specs.Worlds.{context_of}
use Rattle.ps_ctx_table.specs.Desks.{Desk, lent_to, desk_unmade, notified_course, notified_member, notified_members}
use Rattle.ps_ctx_table.specs.Desks.{HasFrame, AreFramed, IsSteady}
use Rattle.ps_ctx_table.proofs.Changing.{notified_desk, notified_steady, notified_world}
use Rattle.ps_ctx.specs.declared.notes.Note.TheVariants.{Nothing}
use Rattle.ps_ctx.specs.Calls.{RunsAt, AreFramedBut, call_by}
use Rattle.ps_ctx_operators.specs.Rows.{notify_part, notify_caller, notified_condition}
use Rattle.ps_ctx_operators.specs.Deeds.{with_scene_of}
use Rattle.ps_ctx_operators.proofs.DeedLaws.{notify_deed}
use Rattle.ps_ctx_operators.specs.Done.{IsLeftAs, DoesBy}
use Rattle.ps_ctx_operators.proofs.Parts.{IsPlain, IsWithStore, nothing_few, plain_by, part_steady, part_runs, part_framed}
use Rattle.ps_ctx_operators.proofs.Arms.{acted, broke_off}

-- ---- all that wait

either_framed : (b : Bool) (lock awaited : ℕ) (frames : List Frame)
    → HasFrame (if b then Retaking lock else Waiting lock awaited) frames
either_framed true lock awaited frames = tt
either_framed false lock awaited frames = tt

notified_framed : (condition : ℕ) (course : Course) (frames : List Frame)
    → HasFrame course frames → HasFrame (notified_course condition course) frames
notified_framed condition Running frames framed = framed
notified_framed condition (Unwinding cause) frames framed = framed
notified_framed condition Again frames framed = framed
notified_framed condition (Waiting lock awaited) frames framed =
    either_framed (awaited == condition) lock awaited frames
notified_framed condition (Retaking lock) frames framed = framed
notified_framed condition Finished frames framed = framed

all_framed : (condition : ℕ) (members : List (Option Member)) → AreFramed members
    → AreFramed (notified_members condition members)
all_framed condition [] framed = tt
all_framed condition (None ∷ members) framed = (tt, all_framed condition members framed.1)
all_framed condition (Some member ∷ members) framed = (
  notified_framed condition member.course member.context.frames framed.0,
  all_framed condition members framed.1,
)

without_place : (condition : ℕ) (members : List (Option Member)) (place : ℕ)
    → notified_members condition (slice_set members place None)
    ≡ slice_set (notified_members condition members) place None
without_place condition [] place = refl
without_place condition (item ∷ members) zero = refl
without_place condition (item ∷ members) (suc place) =
    ap (λ rest. option_map (notified_member condition) item ∷ rest)
    (without_place condition members place)

without_one : (condition : ℕ) (members : List (Option Member)) (identifier : ℕ)
    → notified_members condition (with_item members identifier None)
    ≡ with_item (notified_members condition members) identifier None
without_one condition members zero = refl
without_one condition members (suc place) = without_place condition members place

there_place : (condition : ℕ) (members : List (Option Member)) (place : ℕ) (member : Member)
    → option_and_then (λ one. one) (slice_get members place) ≡ Some member
    → option_and_then (λ one. one) (slice_get (notified_members condition members) place)
    ≡ Some (notified_member condition member)
there_place condition [] place member found = cc
there_place condition (None ∷ members) zero member found = cc
there_place condition (Some one ∷ members) zero member found =
    ap (option_map (notified_member condition)) found
there_place condition (item ∷ members) (suc place) member found =
    there_place condition members place member found

there_one : (condition : ℕ) (members : List (Option Member)) (identifier : ℕ) (member : Member)
    → item_at members identifier ≡ Some member
    → item_at (notified_members condition members) identifier
    ≡ Some (notified_member condition member)
there_one condition members zero member found = cc
there_one condition members (suc place) member found =
    there_place condition members place member found

others_run : (condition caller : ℕ) (members : List (Option Member)) → RunsAt caller members
    → RunsAt caller (notified_members condition members)
others_run condition caller members at = record {
  member = notified_member condition at.member;
  found = there_one condition members caller at.member at.found;
  runs = ap (notified_course condition) at.runs;
}

others_framed : (condition caller : ℕ) (members : List (Option Member))
    → AreFramedBut caller members → AreFramedBut caller (notified_members condition members)
others_framed condition caller members framed =
    subst AreFramed (without_one condition members caller)
    (all_framed condition (with_item members caller None) framed)

-- ---- notify

module _ (caller : ℕ) (attempt : Attempt) (shown : Option (ℤ × ℤ)) (d : Desk) (steady : IsSteady d)
    (member : Member) (found : item_at d.members caller ≡ Some member)
    (runs : member.course ≡ Running) (new : Lent) where
  abbrev held : List Value
  held = (context_of d.heap d.names member).operands

  abbrev notify_next : Option (ℤ × ℤ) → World → Scene → Outcome Deed
  notify_next any w scene =
      given (notified_condition held) TypeCheck λ condition.
      doing (with_notified condition
      (with_scene_of (call_by caller any w (context_of d.heap d.names member)) scene))

  given_stores : (before scene : Scene) (call : Call) (condition : Option ℕ) (rest : List Value)
      → operands_effect before (given condition TypeCheck λ c. leaves rest) ≡ makes scene []
      → IsWithStore scene (given condition TypeCheck λ c.
      doing (with_notified c (with_scene_of call scene)))
  given_stores before scene call None rest is = absurd (cc)
  given_stores before scene call (Some c) rest is = refl

  notify_stores : (before scene : Scene) (call : Call) (operands : List Value)
      → operands_effect before (notify_part operands) ≡ makes scene []
      → IsWithStore scene (given (notified_condition operands) TypeCheck λ c.
      doing (with_notified c (with_scene_of call scene)))
  notify_stores before scene call [] is = absurd (cc)
  notify_stores before scene call (x ∷ rest) is =
      given_stores before scene call (as_condition x) rest is

  notify_plain : (l : Lent) (store : Store)
      → IsPlain (scene_of l store) (effect_in notify_caller l store)
  notify_plain l store =
      plain_by (scene_of l store) (λ (operands : List Value). record (scene_of l store)
      { operands = operands }) (λ operands. refl) (notify_part (scene_of l store).operands)

  module _ (condition : ℕ) (stood : StandsAs d.heap ConditionKind condition 1)
      (stands : StandsAs new.heap ConditionKind condition 1)
      (told : notified_condition held ≡ Some (birth_at d.heap condition))
      (acts : Acts nothing_asked notify_caller attempt (Ok tt) (lent_to d member.context) new) where
    abbrev pub part : Desk
    part = desk_unmade d caller member new

    pub now_steady : IsSteady part
    now_steady = part_steady d caller member found runs new steady acts.keeps acts.stays acts.good

    told_now : notified_condition held ≡ Some (birth_at new.heap condition)
    told_now =
        told ∙ ap (λ (birth : ℕ). Some birth) (sym (birth_at-kept d.heap new.heap acts.keeps
        condition stood.object stood.at))

    pub notified_done : DoesBy Notify caller attempt shown (Ok Nothing) d
        (notified_desk part now_steady condition stands)
    notified_done =
        acted Notify caller attempt shown d steady member found runs nothing_asked nothing_few
        notify_caller notify_plain notify_next (λ any. Unit {0})
        (λ any w scene says is. notify_stores (scene_of (lent_to d member.context) w.store) scene
        (call_by caller any w (context_of d.heap d.names member)) held is)
        (λ any w says at. notify_deed (call_by caller any w (context_of d.heap d.names member))
        held) new tt Nothing (λ is. absurd (cc)) acts (notified_members condition part.members)
        (notified_steady part now_steady condition stands)
        (others_run condition caller part.members (part_runs d caller member found runs new))
        (λ framed. others_framed condition caller part.members
        (part_framed d caller member found runs new framed))
        (λ w scene at is world. subst (λ (told : Option ℕ). IsLeftAs Nothing
        (given told TypeCheck λ c. doing (with_notified c
        (with_scene_of (call_by caller shown w (context_of d.heap d.names member)) scene)))
        (notified_desk part now_steady condition stands)) (sym told_now) (
          notified_world part now_steady condition stands (with_scene_of
              (call_by caller shown w (context_of d.heap d.names member)) scene) world,
          refl,
        ))

  pub unnotified : (why : Break)
      → Acts nothing_asked notify_caller attempt (Err why) (lent_to d member.context) new
      → DoesBy Notify caller attempt shown (Err why) d (desk_unmade d caller member new)
  unnotified why acts =
      broke_off Notify caller attempt shown d steady member found runs nothing_asked nothing_few
      notify_caller notify_plain notify_next (λ any. Unit {0})
      (λ any w scene says is. notify_stores (scene_of (lent_to d member.context) w.store) scene
      (call_by caller any w (context_of d.heap d.names member)) held is)
      (λ any w says at. notify_deed (call_by caller any w (context_of d.heap d.names member))
      held) new (λ any. tt) why (λ is. absurd (cc)) acts
