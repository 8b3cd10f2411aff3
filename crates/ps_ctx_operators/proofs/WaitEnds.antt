-- A call whose caller must wait comes to its end.
use Rattle.std.proofs.Common.{◌≡◌, ℕ, ℤ, Option, Some, None, Ok, sym, ap, subst, refl}
use Rattle.ps_step_outcome.specs.declared.world_operators.WorldOperator.{WorldOperator}
use Rattle.ps_language.specs.Effect.{Deed, waits as waits_on}
use Rattle.ps_language.specs.Outcome.{Outcome, leaves}
use Rattle.ps_language.specs.Step.{after_deed}
use Rattle.ps_ops_state.specs.declared.lent.Attempt.{Attempt}
use Rattle.ps_step_outcome.specs.Turns.{calling_of}
use Rattle.ps_ctx_table.specs.declared.members.Course.TheVariants.{Again}
use Rattle.ps_ctx_table.specs.declared.members.Member.{Member}
use Rattle.ps_ctx_table.specs.Seats.{item_at, with_item}
use Rattle.ps_ctx_table.specs.Desks.{Desk, HasFrame, AreFramed, IsGoodMember, IsSteady}
use Rattle.ps_ctx_table.proofs.Changing.{changed_desk, changed_steady}
use Rattle.ps_ctx_table.proofs.Going.{with_item_members}
use Rattle.ps_ctx_table.proofs.Lifting.{course_world}
use Rattle.ps_ctx_table.proofs.Places.{with_item-twice}
use Rattle.ps_ctx_table.proofs.Turning.{member_at}
use Rattle.ps_ctx.specs.declared.notes.Note.TheVariants.{TurnEnds}
use Rattle.ps_ctx.specs.Calls.{AreFramedBut, CallsTo, Calls}
use Rattle.ps_ctx.proofs.Calling.{none_left}
use Rattle.ps_ctx_operators.specs.Waits.{WaitsBy}

module _ (operator : WorldOperator) (caller : ℕ) (attempt : Attempt) (shown : Option (ℤ × ℤ))
    (old d : Desk) (member : Member) (found : item_at d.members caller ≡ Some member)
    (waits : WaitsBy operator caller attempt shown old d) where
  abbrev again : Member
  again = record member { course = Again }

  abbrev again_desk : Desk
  again_desk = record d { members = with_item d.members caller (Some again) }

  changed_is : changed_desk d caller again ≡ again_desk
  changed_is =
      ap (λ (item : Option Member). record d { members = with_item d.members caller item })
      (none_left member.is_detached again)

  again_framed : AreFramedBut caller d.members → AreFramed again_desk.members
  again_framed framed =
      subst AreFramed (with_item-twice d.members caller None (Some again))
      (with_item_members (λ one. HasFrame one.course one.context.frames)
      (with_item d.members caller None) caller (Some again) framed tt)

  again_steady : IsSteady again_desk
  again_steady =
      let good = member_at (IsGoodMember d) d.members caller member waits.steady.members found in
      subst IsSteady changed_is
      (changed_steady d caller again waits.steady (record { good = good.good; course = tt }))

  pub waited : Calls operator caller attempt shown (Ok TurnEnds) old again_desk
  waited = record {
    meets = λ w context at there.
        let to = waits.meets w context at there in
        subst (λ (outcome : Outcome Deed). CallsTo (Ok TurnEnds)
        (after_deed (calling_of operator) caller w outcome) w again_desk) (sym to.0)
        (subst (λ (one : Desk). CallsTo (Ok TurnEnds)
        (after_deed (calling_of operator) caller w (leaves waits_on)) w one) changed_is
        (course_world d w to.1 caller member found Again, refl));
    steady = again_steady;
    keeps = waits.keeps;
    program = waits.program;
    most = waits.most;
    framed = λ framed. again_framed (waits.framed framed);
    unmade = tt;
    same = λ w at. tt;
    held_up = λ reason bad. absurd (cc);
    logs = waits.logs;
    no_status = λ w context at there. tt;
    leaves = λ is. absurd (cc);
  }
