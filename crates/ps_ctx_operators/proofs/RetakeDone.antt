-- A lock is taken again, or is not.
use Rattle.std.proofs.Common.{◌≡◌, ℕ, zero, suc, ◌≤◌, arith, List, [], ◌∷◌, Option, Some, Ok, Err, refl, sym, ap, subst}
use Rattle.std.proofs.Common.{◌∙◌}
use Rattle.ps_language.specs.declared.kinds.Kind.TheVariants.{Lock as LockKind}
use Rattle.ps_language.specs.Machines.{settled}
use Rattle.ps_language.specs.Owners.{with_owner}
use Rattle.ps_language.specs.Step.{machine_of, with_machine, retaken}
use Rattle.ps_language.specs.Value.{Store}
use Rattle.ps_language.specs.World.{running, retaking, Context, Machine, World}
use Rattle.ps_mem.specs.Heap.{Heap, Grants, AfterStore, birth_at}
use Rattle.ps_mem.specs.Keeps.{Keeps}
use Rattle.ps_mem.specs.References.{StandsAs}
use Rattle.ps_mem.specs.Shows.{IsSound, Shows}
use Rattle.ps_mem.proofs.KeepsLemmas.{AreValues-kept, AreWithin-kept, values_of-kept, known_values, birth_at-kept}
use Rattle.ps_ops_operands.specs.declared.failure.NotMade.{NotMade as Reason}
use Rattle.ps_ops_operands.specs.Changes.{KeepsLogsWithin, values_in}
use Rattle.ps_ops_control.specs.declared.frames.Frame.{Frame}
use Rattle.ps_ops_state.specs.declared.lent.Attempt.{Attempt}
use Rattle.ps_ops_state.specs.Acts.{IsLeft, Stays}
use Rattle.ps_ops_state.specs.Lent.{Lent, scene_of, IsShown, IsGood}
use Rattle.ps_ops_state.proofs.Lifts.{changed_good, changed_left}
use Rattle.ps_ops_state.proofs.Meeting.{keeps-same, stays_as, at_least-same}
use Rattle.ps_step_outcome.specs.declared.turned.Turned.TheVariants.{Goes}
use Rattle.ps_step_outcome.specs.Turns.{IsUnlogged}
use Rattle.ps_ctx_table.specs.declared.members.Course.TheVariants.{Retaking}
use Rattle.ps_ctx_table.specs.declared.members.Member.{Member}
use Rattle.ps_ctx_table.specs.Seats.{item_at}
use Rattle.ps_ctx_table.specs.Worlds.{status_of, context_of}
use Rattle.ps_ctx_table.specs.Desks.{Desk, lent_to, desk_after, course_after, IsCourseHeld, IsGoodMember, IsLentBy}
use Rattle.ps_ctx_table.specs.Desks.{IsWorld, IsSteady, GoesOn, turned_member}
use Rattle.ps_ctx_table.proofs.Staying.{members_good}
use Rattle.ps_ctx_table.proofs.Stepping.{context_there}
use Rattle.ps_ctx_table.proofs.Turning.{member_at, frame_after, goes_by, went_steady, went_settled, regranted}
use Rattle.ps_ctx.specs.Calls.{Retakes}
use Rattle.ps_ctx.proofs.Owning.{framed_with}
use Rattle.ps_ctx_operators.specs.Singles.{owner_by}
use Rattle.ps_ctx_operators.proofs.Locking.{lock_shown}
use Rattle.ps_ctx_operators.proofs.Owning.{lasts_owned}

held_after : (h : Heap) (frames : List Frame) → IsCourseHeld h (course_after Goes frames)
held_after h [] = tt
held_after h (frame ∷ frames) = tt

owner_some : (n : ℕ) → 1 ≤ n → owner_by n ≡ Some n
owner_some zero some = absurd (omega (arith, some))
owner_some (suc n) some = refl

-- an identifier of what is there
pub identifier_some : (members : List (Option Member)) (identifier : ℕ) (member : Member)
    → item_at members identifier ≡ Some member → 1 ≤ identifier
identifier_some members zero member found = absurd (cc)
identifier_some members (suc place) member found = omega arith

-- one store
pub logs_stored : (old new : Grants) (slot : ℕ) → AfterStore old new slot
    → KeepsLogsWithin 1 old new slot
logs_stored old new slot store = record {
  cycle_open = store.cycle_open;
  closed = store.closed;
  others = store.others;
  used = (let e = store.used in let f = store.one in omega (arith, e, f));
  kept = store.kept;
  put = store.one;
  put_no_other = store.put_no_other;
}

-- which lock it is, by its status
lock_is : (births : ℕ → ℕ) (address lock : ℕ) (here context : Context)
    → here.status ≡ status_of births (Retaking address) → here ≡ context
    → context.status ≡ retaking lock → births address ≡ lock
lock_is births address lock here context is same to =
    let both : retaking (births address) ≡ retaking lock =
    sym is ∙ (ap (λ (one : Context). one.status) same ∙ to) in
    cc

module _ (caller : ℕ) (attempt : Attempt) (d : Desk) (steady : IsSteady d) (member : Member)
    (found : item_at d.members caller ≡ Some member) (lock : ℕ)
    (waits : member.course ≡ Retaking lock) where
  abbrev here : Context
  here = context_of d.heap d.names member

  abbrev l : Lent
  l = lent_to d member.context

  good_there : IsGoodMember d member
  good_there = member_at (IsGoodMember d) d.members caller member steady.members found

  pub stands : StandsAs d.heap LockKind lock 1
  stands = subst (IsCourseHeld d.heap) waits good_there.course

  -- ---- it is taken

  module _ (some : 1 ≤ caller) (new : Heap) (left : Grants) (sound : IsSound new)
      (keeps : Keeps d.heap new)
      (shows : (names : List (List ℕ)) (s : Store) → Shows d.heap names s
      → Shows new names (with_owner s (birth_at d.heap lock) (owner_by caller)))
      (logs : KeepsLogsWithin 1 d.grants left attempt.slot) where
    abbrev taken : Lent
    taken = record l { heap = new; grants = left }

    taken_good : IsGood taken
    taken_good =
        changed_good l good_there.good new left member.context.operands keeps (record {
          sound = sound;
          values = AreValues-kept d.heap new keeps member.context.operands
              good_there.good.operands;
        })

    taken_stays : Stays l taken
    taken_stays = stays_as l taken refl refl refl refl (omega arith) (at_least-same _)

    abbrev pub taken_desk : Desk
    taken_desk =
        desk_after d caller member taken (course_after Goes member.context.frames) d.has_faulted

    module _ (w : World) (at : IsWorld d w) where
      abbrev owned : Store
      owned = with_owner w.store (birth_at d.heap lock) (Some caller)

      abbrev next : Machine
      next = retaken caller (birth_at d.heap lock) (machine_of w here)

      shown_here : IsShown l w.store
      shown_here =
          member_at (λ one. IsShown (lent_to d one.context) w.store) d.members caller member
          at.members found

      -- nothing but the store has changed
      taken_left : IsLeft w.store taken (record (scene_of l w.store) { store = owned })
      taken_left =
          let there = lock_shown d.heap lock stands d.names w.store at.shows in
          let lasts = lasts_owned w.store (birth_at d.heap lock) there.0 there.1 (Some caller) in
          let known = known_values d.heap member.context.operands good_there.good.operands in
          changed_left l good_there.good new left member.context.operands keeps w.store owned lasts
          shown_here
          (subst (λ (o : Option ℕ). Shows new d.names (with_owner w.store (birth_at d.heap lock) o))
          (owner_some caller some) (shows d.names w.store at.shows))
          (AreWithin-kept d.heap new keeps d.names w.store owned lasts member.context.operands known
          shown_here.operands) (values_in d.heap d.names member.context.operands)
          (values_of-kept d.heap new keeps d.names member.context.operands known)

      next_lent : IsLentBy taken member.is_detached running w.error_lines next
      next_lent = record {
        shown = taken_left.shown;
        scene = taken_left.is
            ∙ (λ i. record (scene_of l w.store) { store = owned; names = sym at.names i });
        error_dictionary =
            sym (birth_at-kept d.heap new keeps member.context.error_dictionary
            good_there.good.error_stands.stands.object good_there.good.error_stands.stands.at);
        detached = refl;
        is_so = refl;
        printed = at.printed;
        error_lines = refl;
      }

      taken_world : IsWorld taken_desk (with_machine caller w (settled next))
      taken_world =
          went_settled d steady caller member taken Goes d.has_faulted keeps taken_stays taken_good
          w at w.error_lines next taken_left.lasts next_lent tt at.faulted

    pub retakes : Retakes caller attempt (Ok tt) d taken_desk
    retakes = record {
      meets = λ w context named at there to.
          let same : Some here ≡ Some context =
          sym (context_there d w at caller member found) ∙ there in
          let it : here ≡ context = cc in
          subst (λ (n : ℕ). IsWorld taken_desk
          (with_machine caller w (settled (retaken caller n (machine_of w context)))))
          (lock_is (birth_at d.heap) lock named here context
          (ap (status_of (birth_at d.heap)) waits) it to)
          (subst (λ (one : Context). IsWorld taken_desk
          (with_machine caller w (settled (retaken caller (birth_at d.heap lock)
          (machine_of w one))))) it (taken_world w at));
      steady = went_steady d steady caller member taken
          (course_after Goes member.context.frames) d.has_faulted keeps taken_stays taken_good
          (held_after new member.context.frames);
      keeps = keeps;
      program = refl;
      most = refl;
      framed = λ framed. framed_with d.members caller (turned_member Goes member) framed
          (frame_after Goes member.context.frames tt tt);
      unmade = tt;
      held_up = λ reason bad. absurd (cc);
      logs = logs;
    }

  -- ---- it is not

  module _ (left : Grants) (kept : left ≡ record d.grants { records = left.records })
      (logs : KeepsLogsWithin 0 d.grants left attempt.slot) (reason : Reason)
      (why : IsUnlogged 1 attempt.slot d.grants left reason) where
    abbrev asked : Lent
    asked = record l { grants = left }

    abbrev pub untaken_desk : Desk
    untaken_desk = record d { grants = left }

    goes : GoesOn d untaken_desk
    goes =
        goes_by d member.context asked d.members d.has_faulted (keeps-same d.heap)
        (stays_as l asked refl refl refl refl (omega arith) (at_least-same _))
        (changed_good l good_there.good d.heap left member.context.operands (keeps-same d.heap)
        (record { sound = steady.sound; values = good_there.good.operands }))

    pub untaken : Retakes caller attempt (Err reason) d untaken_desk
    untaken = record {
      meets = λ w context named at there to. regranted d w left d.room d.scratch at;
      steady = record {
        sound = steady.sound;
        names = steady.names;
        first = steady.first;
        empty = steady.empty;
        members = members_good d untaken_desk goes d.members steady.members;
      };
      keeps = keeps-same d.heap;
      program = refl;
      most = refl;
      framed = λ framed. framed;
      unmade = refl;
      held_up = λ other is.
          let same : reason ≡ other = cc in
          subst (IsUnlogged 1 attempt.slot d.grants left) same why;
      logs = logs;
    }
