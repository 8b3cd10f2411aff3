-- A context is detached by an operator of its caller.
use Rattle.std.proofs.Common.{◌≡◌, ℕ, ℤ, true, List, Option, Some, None, Ok, Err, inl, inr, refl, sym, ap, subst, ◌∙◌}
use Rattle.std.proofs.lemmas.Bool.Decides.{eqb_tells}
use Rattle.std.specs.Option.{option_map_or}
use Rattle.std.specs.Prelude.{◌&&◌, IsSome, OnSome, if◌then◌else◌}
use Rattle.ps_language.specs.declared.errors.ErrorName.{ErrorName}
use Rattle.ps_step_outcome.specs.declared.world_operators.WorldOperator.TheVariants.{Detach}
use Rattle.ps_language.specs.Contexts.{context_at, detach_row, doing, with_context, with_detached}
use Rattle.ps_language.specs.Effect.{Scene, Deed}
use Rattle.ps_language.specs.Outcome.{Outcome, leaves, fails}
use Rattle.ps_language.specs.Value.{Value, Store}
use Rattle.ps_language.specs.World.{Context, World}
use Rattle.ps_ops_state.specs.declared.breaks.Break.{Break}
use Rattle.ps_ops_state.specs.declared.breaks.Break.TheVariants.{Raises}
use Rattle.ps_ops_state.specs.declared.lent.Attempt.{Attempt}
use Rattle.ps_ops_state.specs.Acts.{Acts, nothing_asked, effect_in}
use Rattle.ps_ops_state.specs.Lent.{Lent, scene_of, IsShown}
use Rattle.ps_ctx_table.specs.declared.members.Course.{Course}
use Rattle.ps_ctx_table.specs.declared.members.Course.TheVariants.{Running}
use Rattle.ps_ctx_table.specs.declared.members.Member.{Member}
use Rattle.ps_ctx_table.specs.Seats.{item_at, with_item}
use Rattle.ps_ctx_table.specs.Worlds.{context_of}
use Rattle.ps_ctx_table.specs.Desks.{Desk, lent_to, desk_unmade, has_finished, member_left, HasFrame, AreFramed}
use Rattle.ps_ctx_table.specs.Desks.{IsGoodMember, IsWorld, IsSteady}
use Rattle.ps_ctx_table.proofs.Changing.{changed_desk, changed_steady, changed_world}
use Rattle.ps_ctx_table.proofs.Going.{left_members}
use Rattle.ps_ctx_table.proofs.Places.{item_at-apart, item_at-with_item, with_item-twice}
use Rattle.ps_ctx_table.proofs.Stepping.{context_there}
use Rattle.ps_ctx_table.proofs.Turning.{member_at}
use Rattle.ps_ctx.specs.declared.notes.Note.TheVariants.{Nothing}
use Rattle.ps_ctx.specs.Calls.{RunsAt, AreFramedBut, call_by}
use Rattle.ps_ctx_operators.specs.Rows.{detach_part, detach_caller}
use Rattle.ps_ctx_operators.specs.Deeds.{with_scene_of}
use Rattle.ps_ctx_operators.specs.Done.{DoesBy}
use Rattle.ps_ctx_operators.proofs.Ending.{runs_by}
use Rattle.ps_ctx_operators.proofs.Parts.{IsPlain, IsWithStore, nothing_few, plain_by, part_steady, part_runs, part_framed}
use Rattle.ps_ctx_operators.proofs.Arms.{acted, broke_off}
use Rattle.ps_ctx_operators.specs.Detached.{detached, detached_members}
use Rattle.ps_ctx_operators.specs.Named.{Names}
use Rattle.ps_ctx_operators.proofs.NamedOperand.{detach_named, names_here}
use Rattle.ps_ctx_operators.proofs.Unchanged.{here_is, raised_there}
use Rattle.ps_ctx_operators.proofs.Others.{runs_still, framed_there, framed_still}

-- ---- the table

-- where there is such a context
pub detached_there : (members : List (Option Member)) (identifier : ℕ) (other : Member)
    → item_at members identifier ≡ Some other
    → detached_members identifier members
    ≡ with_item members identifier (member_left (detached other))
detached_there members identifier other found =
    ap (λ (item : Option Member). option_map_or (λ one. with_item members identifier
    (member_left (detached one))) item members) found

-- it is taken out where it is finished
pub detached_gone : (members after : List (Option Member)) (identifier : ℕ) (other : Member)
    (removed : Option Member) → item_at members identifier ≡ Some other
    → has_finished other.course ≡ true
    → removed ≡ item_at (with_item members identifier (Some (detached other))) identifier
    → OnSome removed (after ≡ with_item (with_item members identifier (Some (detached other)))
    identifier None)
    → after ≡ detached_members identifier members
detached_gone members after identifier other removed found finished taken done =
    let gone : after ≡ with_item (with_item members identifier (Some (detached other))) identifier
    None = subst (λ (r : Option Member). OnSome r (after ≡ with_item (with_item members identifier
    (Some (detached other))) identifier None))
    (taken ∙ item_at-with_item members identifier other (Some (detached other)) found) done in
    let left : member_left (detached other) ≡ None =
    ap (λ b. if true && b then None else Some (detached other)) finished in
    gone
    ∙ (with_item-twice members identifier (Some (detached other)) None
    ∙ (ap (with_item members identifier) (sym left)
    ∙ sym (detached_there members identifier other found)))

-- there is still one where the caller's context has changed
pub some_still : (members : List (Option Member)) (caller identifier : ℕ) (member now : Member)
    → item_at members caller ≡ Some member → IsSome (item_at members identifier)
    → IsSome (item_at (with_item members caller (Some now)) identifier)
some_still members caller identifier member now found some = elim (eqb_tells caller identifier) [
  | inl is ↦ subst IsSome (sym (ap (item_at (with_item members caller (Some now))) (sym is.1)
      ∙ item_at-with_item members caller member (Some now) found)) refl
  | inr is ↦ subst IsSome (sym (item_at-apart members caller identifier (Some now) is.1)) some
]

-- what holds of it then
pub detached_in : (P : List (Option Member) → Type 0) (members : List (Option Member))
    (identifier : ℕ) → IsSome (item_at members identifier)
    → ((other : Member) → item_at members identifier ≡ Some other
    → P (with_item members identifier (member_left (detached other))))
    → P (detached_members identifier members)
detached_in P members identifier some so = by (item_at members identifier) refl some
  where
    by : (item : Option Member) → item_at members identifier ≡ item → IsSome item
        → P (detached_members identifier members)
    by None found some = absurd (cc)
    by (Some other) found some =
        subst P (sym (detached_there members identifier other found)) (so other found)

module _ (members : List (Option Member)) (caller identifier : ℕ) (other : Member)
    (found : item_at members identifier ≡ Some other) (at : RunsAt caller members) where
  abbrev left : Option Member
  left = member_left (detached other)

  here : identifier ≡ caller → item_at members caller ≡ Some other
  here same = subst (λ n. item_at members n ≡ Some other) same found

  -- the caller itself goes on
  left_here : identifier ≡ caller → left ≡ Some (detached other)
  left_here same =
      ap (λ (course : Course). if true && has_finished course then None else Some (detached other))
      (runs_by members caller other (here same) at)

  pub detached_runs : RunsAt caller (with_item members identifier left)
  detached_runs = elim (eqb_tells identifier caller) [
    | inl is ↦ record {
      member = detached other;
      found = (λ i. item_at (with_item members (is.1 i) (left_here is.1 i)) caller)
          ∙ item_at-with_item members caller other (Some (detached other)) (here is.1);
      runs = runs_by members caller other (here is.1) at;
    }
    | inr is ↦ runs_still members caller identifier is.1 left at
  ]

  pub detached_framed : AreFramedBut caller members
      → AreFramedBut caller (with_item members identifier left)
  detached_framed framed = elim (eqb_tells identifier caller) [
    | inl is ↦ subst AreFramed (sym (ap (λ n. with_item (with_item members n left) caller None) is.1
        ∙ with_item-twice members caller left None)) framed
    | inr is ↦ framed_still members caller identifier is.1 left framed
        (left_members (λ one. HasFrame one.course one.context.frames) (detached other)
        (framed_there members caller identifier is.1 other found framed))
  ]

-- ---- the world

module _ (d : Desk) (identifier : ℕ) (other : Member)
    (found : item_at d.members identifier ≡ Some other) where
  pub detached_steady : IsSteady d → IsSteady (changed_desk d identifier (detached other))
  detached_steady steady =
      let good = member_at (IsGoodMember d) d.members identifier other steady.members found in
      changed_steady d identifier (detached other) steady
      (record { good = good.good; course = good.course })

  pub detached_world : (w : World) → IsWorld d w
      → IsWorld (changed_desk d identifier (detached other)) (with_detached identifier w)
  detached_world w at =
      subst (IsWorld (changed_desk d identifier (detached other)))
      (sym (ap (λ (there : Option Context). option_map_or (λ context.
      with_context identifier (record context { is_detached = true }) w) there w)
      (context_there d w at identifier other found)))
      (changed_world d identifier (detached other) w at
      (member_at (λ one. IsShown (lent_to d one.context) w.store) d.members identifier other
      at.members found))

-- ---- detach

module _ (caller : ℕ) (attempt : Attempt) (shown : Option (ℤ × ℤ)) (d : Desk) (steady : IsSteady d)
    (member : Member) (found : item_at d.members caller ≡ Some member)
    (runs : member.course ≡ Running) (new : Lent) (identifier : ℕ)
    (named : Names caller (Ok identifier) d.members) where
  abbrev here_now : Context
  here_now = context_of d.heap d.names member

  abbrev detach_next : Option (ℤ × ℤ) → World → Scene → Outcome Deed
  detach_next any w scene =
      doing (with_detached identifier (with_scene_of (call_by caller any w here_now) scene))

  stores_by : (w : World) (there : Option Context)
      → (option_map_or (λ context. with_context identifier (record context { is_detached = true })
      w) there w).store ≡ w.store
  unfolding with_context
  stores_by w None = refl
  stores_by w (Some context) = refl

  detach_stores : (any : Option (ℤ × ℤ)) (w : World) (scene : Scene)
      → IsWithStore scene (detach_next any w scene)
  detach_stores any w scene =
      let after = with_scene_of (call_by caller any w here_now) scene in
      stores_by after (context_at after identifier)

  detach_plain : (l : Lent) (store : Store)
      → IsPlain (scene_of l store) (effect_in detach_caller l store)
  detach_plain l store =
      plain_by (scene_of l store) (λ (operands : List Value). record (scene_of l store)
      { operands = operands }) (λ operands. refl) (detach_part (scene_of l store).operands)

  abbrev part : Desk
  part = desk_unmade d caller member new

  pub detached_done : Acts nothing_asked detach_caller attempt (Ok tt) (lent_to d member.context) new
      → IsSome (item_at part.members identifier)
      → DoesBy Detach caller attempt shown (Ok Nothing) d
      (record part { members = detached_members identifier part.members })
  detached_done acts some =
      let now_steady =
      part_steady d caller member found runs new steady acts.keeps acts.stays acts.good in
      let now_runs = part_runs d caller member found runs new in
      detached_in (λ members. DoesBy Detach caller attempt shown (Ok Nothing) d
      (record part { members = members })) part.members identifier some λ other there.
      acted Detach caller attempt shown d steady member found runs nothing_asked nothing_few
      detach_caller detach_plain detach_next (λ any. Unit {0})
      (λ any w scene says is. detach_stores any w scene)
      (λ any w says at. detach_named (call_by caller any w here_now)
      (leaves identifier) (names_here caller (Ok identifier) d.members member found named d.heap
      d.names w at.contexts)) new tt Nothing (λ is. absurd (cc)) acts
      (with_item part.members identifier (member_left (detached other)))
      (detached_steady part identifier other there now_steady)
      (detached_runs part.members caller identifier other there now_runs)
      (λ framed. detached_framed part.members caller identifier other there now_runs
      (part_framed d caller member found runs new framed))
      (λ w scene at is world. (
        detached_world part identifier other there
            (with_scene_of (call_by caller shown w here_now) scene) world,
        refl,
      ))

  pub undetached : (why : Break)
      → Acts nothing_asked detach_caller attempt (Err why) (lent_to d member.context) new
      → DoesBy Detach caller attempt shown (Err why) d part
  undetached why acts =
      broke_off Detach caller attempt shown d steady member found runs nothing_asked nothing_few
      detach_caller detach_plain detach_next (λ any. Unit {0})
      (λ any w scene says is. detach_stores any w scene)
      (λ any w says at. detach_named (call_by caller any w here_now)
      (leaves identifier) (names_here caller (Ok identifier) d.members member found named d.heap
      d.names w at.contexts)) new (λ any. tt) why (λ is. absurd (cc)) acts

-- ---- nothing is named

pub unnamed_done : (caller : ℕ) (attempt : Attempt) (shown : Option (ℤ × ℤ)) (d : Desk) → IsSteady d
    → RunsAt caller d.members → (error : ErrorName) → Names caller (Err error) d.members
    → DoesBy Detach caller attempt shown (Err (Raises error)) d d
unnamed_done caller attempt shown d steady runs error named =
    raised_there Detach caller attempt shown d error steady runs λ w context at there any.
    subst (λ (one : Context). detach_row one.operands (call_by caller any w one) ≡ fails error)
    (here_is d w at caller named.member named.found context there)
    (detach_named (call_by caller any w (context_of d.heap d.names named.member)) (fails error)
    (named.names d.heap d.names w at.contexts))
