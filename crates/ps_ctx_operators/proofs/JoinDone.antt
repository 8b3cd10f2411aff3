-- A finished context ends, and its operands go over to the caller of an operator.
use Rattle.std.proofs.Common.{◌≡◌, ℕ, ◌-◌, ◌≤◌, arith, ℤ, Bool, true, false, List, [], ◌∷◌, ◌++◌, drop, length, Option}
use Rattle.std.proofs.Common.{Some, None, Ok, Err, inl, inr, refl, sym, ap, subst, ◌∙◌}
use Rattle.std.proofs.lemmas.Bool.{ne_eqb}
use Rattle.std.proofs.lemmas.Bool.Decides.{nat_tests}
use Rattle.std.specs.Prelude.{Result, not, nat_le}
use Rattle.ps_language.specs.declared.errors.ErrorName.{ErrorName}
use Rattle.ps_language.specs.declared.errors.ErrorName.TheVariants.{StackOverflow, VmError}
use Rattle.ps_step_outcome.specs.declared.world_operators.WorldOperator.TheVariants.{Join}
use Rattle.ps_language.specs.Acts.{operands_effect}
use Rattle.ps_language.specs.Contexts.{context_at, doing, join_row, without_context}
use Rattle.ps_language.specs.Effect.{Scene, Deed, waits, Effect, makes}
use Rattle.ps_language.specs.Limits.{operand_limit}
use Rattle.ps_language.specs.Objects.{made_between}
use Rattle.ps_language.specs.Outcome.{Outcome, leaves, fails, given_that}
use Rattle.ps_language.specs.Readers.{literal}
use Rattle.ps_language.specs.Step.{deed_given_room}
use Rattle.ps_language.specs.Value.{Value, Store, mark_value}
use Rattle.ps_language.specs.World.{Context, World}
use Rattle.ps_language.proofs.AskedLemmas.{made-same}
use Rattle.ps_word.specs.declared.words.Word.{Word}
use Rattle.ps_mem.specs.Shows.{AreWithin}
use Rattle.ps_ops_operands.specs.declared.failure.NotMade.{NotMade as Reason}
use Rattle.ps_ops_operands.specs.declared.failure.NotMade.TheVariants.{LogFull, LogClosed, NeedSpace, Memory}
use Rattle.ps_ops_operands.specs.Changes.{values_in}
use Rattle.ps_ops_state.specs.declared.breaks.Break.{Break}
use Rattle.ps_ops_state.specs.declared.breaks.Break.TheVariants.{Unwinds, Raises, NotMade}
use Rattle.ps_ops_state.specs.declared.lent.Attempt.{Attempt}
use Rattle.ps_ops_state.specs.Acts.{ActsAs, IsReason, nothing_asked, needs_as, needs_between, lacks, effect_in}
use Rattle.ps_ops_state.specs.Lent.{Lent, scene_of, IsShown, IsGood}
use Rattle.ps_ops_state.proofs.Meeting.{keeps-same, lacks_for_same, logs-same}
use Rattle.ps_ctx_table.specs.declared.members.Course.TheVariants.{Running}
use Rattle.ps_ctx_table.specs.declared.members.Member.{Member}
use Rattle.ps_ctx_table.specs.Seats.{item_at, with_item}
use Rattle.ps_ctx_table.specs.Worlds.{context_of}
use Rattle.ps_ctx_table.specs.Desks.{Desk, desk_of, lent_to, returned, desk_unmade, IsGoodMember, IsWorld, IsSteady}
use Rattle.ps_ctx_table.proofs.Changing.{gone_desk, gone_steady, gone_world}
use Rattle.ps_ctx_table.proofs.Places.{item_at-apart, one_there}
use Rattle.ps_ctx_table.proofs.Turning.{member_at}
use Rattle.ps_ctx.specs.declared.notes.Note.{Note}
use Rattle.ps_ctx.specs.declared.notes.Note.TheVariants.{Nothing}
use Rattle.ps_ctx.specs.Calls.{RunsAt, AreFramedBut, call_by}
use Rattle.ps_ctx_operators.specs.Deeds.{with_scene_of, after_part}
use Rattle.ps_ctx_operators.specs.Tells.{ActsWhere}
use Rattle.ps_ctx_operators.specs.Rows.{join_part, join_caller}
use Rattle.ps_ctx_operators.specs.Done.{IsLeftAs, outcome_of, DoesBy}
use Rattle.ps_ctx_operators.proofs.Ending.{runs_by}
use Rattle.ps_ctx_operators.proofs.Parts.{IsPlain, nothing_few, plain_by, part_is, part_steady, part_runs, part_framed}
use Rattle.ps_ctx_operators.proofs.Parts.{made_by}
use Rattle.ps_ctx_operators.specs.Joined.{HandsOver, JoinsTo}
use Rattle.ps_ctx_operators.specs.Waits.{WaitsBy}
use Rattle.ps_ctx_operators.proofs.JoinFound.{counted, join_there, join_part_is, reads_here}
use Rattle.ps_ctx_operators.proofs.Others.{with_item-apart, runs_still, framed_still}
use Rattle.ps_ctx_operators.proofs.Unchanged.{here_is, raised_there}

-- ---- what makes nothing is made

no_reason : (before scene : Scene) (slot : ℕ) (old new : Lent) (reason : Reason)
    → scene.store ≡ before.store → scene.names ≡ before.names
    → IsReason (needs_between (nothing_asked before) before scene []) slot old new reason → ⊥
no_reason before scene slot old new LogFull store names is =
    let bad = is.1 in omega (arith, bad)
no_reason before scene slot old new LogClosed store names is =
    let bad = is.0 in omega (arith, bad)
no_reason before scene slot old new (NeedSpace words) store names is =
    let none = ap (made_between before.store) store ∙ made-same before.store in
    omega (arith, is.0, is.1, none)
no_reason before scene slot old new Memory store names is = elim is [
  | inl bytes ↦ omega (arith, bytes)
  | inr more ↦ elim more [
    | inl formed ↦
        let none = ap (λ (those : List (List ℕ)). length those - length before.names) names in
        omega (arith, formed, none)
    | inr rest ↦ elim rest [
      | inl words ↦
          let none = ap (made_between before.store) store ∙ made-same before.store in
          omega (arith, words.0, none)
      | inr lists ↦ elim lists [
        | inl text ↦ omega (arith, text)
        | inr others ↦ elim others [
          | inl sought ↦ omega (arith, sought)
          | inr words ↦ omega (arith, words)
        ]
      ]
    ]
  ]
]

never_made : (before scene : Scene) (slot : ℕ) (old new : Lent) (why : Break)
    → scene.store ≡ before.store → scene.names ≡ before.names
    → ActsAs (needs_between (nothing_asked before) before scene []) slot before (Err why)
    (makes scene []) false old new → ⊥
never_made before scene slot old new (Raises error) store names did = did
never_made before scene slot old new (Unwinds cause) store names did = did
never_made before scene slot old new (NotMade reason) store names did =
    no_reason before scene slot old new reason store names did.0

-- ---- join

module _ (caller identifier : ℕ) (attempt : Attempt) (shown : Option (ℤ × ℤ)) (d : Desk)
    (steady : IsSteady d) (member : Member) (found : item_at d.members caller ≡ Some member)
    (runs : member.course ≡ Running) (hands : HandsOver caller identifier d.members)
    (new : Lent) where
  abbrev here : Context
  here = context_of d.heap d.names member

  abbrev words : List Word
  words = hands.other.context.operands

  abbrev taken : List Value
  taken = values_in d.heap d.names words

  abbrev l : Lent
  l = lent_to d member.context

  abbrev part : Desk
  part = desk_unmade d caller member new

  abbrev join_next : World → Scene → Outcome Deed
  join_next w scene =
      doing (without_context identifier (with_scene_of (call_by caller shown w here) scene))

  join_plain : (store : Store) → IsPlain (scene_of l store) (effect_in (join_caller taken) l store)
  join_plain store =
      plain_by (scene_of l store) (λ (operands : List Value). record (scene_of l store)
      { operands = operands }) (λ operands. refl) (join_part taken (scene_of l store).operands)

  module _ (result : Result Unit Break)
      (acts : ActsWhere (λ store. AreWithin d.heap d.names store words) nothing_asked
      (join_caller taken) attempt result l new) where
    now_steady : IsSteady part
    now_steady = part_steady d caller member found runs new steady acts.keeps acts.stays acts.good

    abbrev left : Desk
    left = gone_desk part identifier

    left_runs : RunsAt caller left.members
    left_runs =
        runs_still part.members caller identifier hands.apart None
        (part_runs d caller member found runs new)

    left_framed : AreFramedBut caller d.members → AreFramedBut caller left.members
    left_framed framed =
        framed_still part.members caller identifier hands.apart None
        (part_framed d caller member found runs new framed) tt

    -- ---- of a world

    module _ (w : World) (at : IsWorld d w) where
      abbrev before : Scene
      before = scene_of l w.store

      abbrev effect : Effect
      effect = effect_in (join_caller taken) l w.store

      did : ActsAs (needs_as (nothing_asked before) before effect
          (lacks attempt.refused before effect)) attempt.slot before result effect
          (lacks attempt.refused before effect) l new
      did = (acts.meets w.store
          (member_at (λ one. IsShown (lent_to d one.context) w.store) d.members caller member
          at.members found)
          (member_at (λ one. IsShown (lent_to d one.context) w.store) d.members identifier
          hands.other at.members hands.there).operands).did

      -- the row of the caller's part, and what is done once that is left
      outcome_by : outcome_of Join caller attempt.refused w here shown
          ≡ deed_given_room attempt.refused w (after_part effect (join_next w))
      outcome_by =
          ap (deed_given_room attempt.refused w)
          (join_there d.heap d.names caller identifier d.members hands.named member found w shown
          at.contexts hands.other hands.there false true
          (ne_eqb identifier caller hands.apart) hands.finished
          ∙ ap (λ e. after_part e (join_next w)) (sym (part_is d caller member found runs new
          steady acts.keeps acts.stays acts.good w at shown (join_caller taken))))

      -- all of them have room
      makes_all : effect ≡ makes (record before
          { operands = taken ++ literal mark_value ∷ drop 1 here.operands }) []
      makes_all =
          ap (operands_effect before)
          (join_part_is taken here.operands identifier (reads_here d.heap d.names caller identifier
          d.members hands.named member found w shown at.contexts)
          ∙ ap (λ b. given_that b StackOverflow
          (leaves (taken ++ literal mark_value ∷ drop 1 here.operands)))
          (ap (λ n. nat_le n operand_limit) (counted d.heap d.names caller identifier d.members
          hands.named member found w shown at.contexts hands.other hands.there)
          ∙ within _ (hands.fits member found)))
        where
          within : (n : ℕ) → n ≤ operand_limit → nat_le n operand_limit ≡ true
          within n few = grind (arith, nat_tests)

  -- ---- it acts

  module _ (acts : ActsWhere (λ store. AreWithin d.heap d.names store words) nothing_asked
      (join_caller taken) attempt (Ok tt) l new) where
    joined_world : (w : World) → IsWorld d w
        → IsLeftAs Nothing (outcome_of Join caller attempt.refused w here shown)
        (left (Ok tt) acts)
    joined_world w at =
        let b = before (Ok tt) acts w at in
        let e = effect (Ok tt) acts w at in
        let made = made_by d caller member found runs new steady acts.keeps acts.stays acts.good w
        at shown attempt (nothing_asked b) (nothing_few b) e (lacks attempt.refused b e) refl
        (join_plain w.store) (did (Ok tt) acts w at) in
        subst (λ (o : Outcome Deed). IsLeftAs Nothing o (left (Ok tt) acts))
        (sym (outcome_by (Ok tt) acts w at
        ∙ (ap (λ e. deed_given_room attempt.refused w (after_part e (join_next w))) made.is
        ∙ ap (λ b. given_that (not b) VmError (join_next w made.scene)) made.enough))) (
          gone_world part identifier
              (with_scene_of (call_by caller shown w here) made.scene) made.world,
          refl,
        )

    pub joined_done : DoesBy Join caller attempt shown (Ok Nothing) d (left (Ok tt) acts)
    joined_done = record {
      meets = λ w context at there.
          subst (λ (one : Context). IsLeftAs Nothing
          (outcome_of Join caller attempt.refused w one shown) (left (Ok tt) acts))
          (here_is d w at caller member found context there) (joined_world w at);
      steady = gone_steady part identifier (now_steady (Ok tt) acts);
      runs = left_runs (Ok tt) acts;
      keeps = acts.keeps;
      program = acts.stays.program;
      most = acts.stays.most;
      framed = left_framed (Ok tt) acts;
      same = λ w at. tt;
      held_up = λ reason bad. absurd (cc);
      logs = acts.logs;
      made = λ is. absurd (cc);
      leaves = λ is. absurd (cc);
    }

  -- ---- there is no world where it doesn't

  module _ (why : Break)
      (acts : ActsWhere (λ store. AreWithin d.heap d.names store words) nothing_asked
      (join_caller taken) attempt (Err why) l new) where
    never : (w : World) → IsWorld d w → ⊥
    never w at =
        let b = before (Err why) acts w at in
        let scene : Scene = record b
        { operands = taken ++ literal mark_value ∷ drop 1 here.operands } in
        never_made b scene attempt.slot l new why refl refl
        (subst (λ (lacking : Bool). ActsAs (needs_as (nothing_asked b) b (makes scene []) lacking)
        attempt.slot b (Err why) (makes scene []) lacking l new)
        (lacks_for_same attempt.refused w.store)
        (subst (λ (e : Effect). ActsAs (needs_as (nothing_asked b) b e (lacks attempt.refused b e))
        attempt.slot b (Err why) e (lacks attempt.refused b e) l new)
        (makes_all (Err why) acts w at) (did (Err why) acts w at)))

    pub unjoined_done : DoesBy Join caller attempt shown (Err why) d (left (Err why) acts)
    unjoined_done = record {
      meets = λ w context at there. absurd (never w at);
      steady = gone_steady part identifier (now_steady (Err why) acts);
      runs = left_runs (Err why) acts;
      keeps = acts.keeps;
      program = acts.stays.program;
      most = acts.stays.most;
      framed = left_framed (Err why) acts;
      same = λ w at. absurd (never w at);
      held_up = λ reason is w context at there. absurd (never w at);
      logs = acts.logs;
      made = λ is. absurd (cc);
      leaves = λ is. absurd (cc);
    }

-- ---- where the other is taken out first

module _ (caller identifier : ℕ) (d : Desk) (steady : IsSteady d)
    (hands : HandsOver caller identifier d.members) (after : List (Option Member))
    (gone : after ≡ with_item d.members identifier None) (member : Member)
    (value : Some member ≡ item_at after caller) where
  found_before : item_at d.members caller ≡ Some member
  found_before =
      sym (item_at-apart d.members identifier caller None hands.apart)
      ∙ (ap (λ (list : List (Option Member)). item_at list caller) (sym gone) ∙ sym value)

  pub good_before : IsGood (lent_to d member.context)
  good_before =
      (member_at (IsGoodMember d) d.members caller member steady.members found_before).good

  module _ (attempt : Attempt) (shown : Option (ℤ × ℤ)) (at : RunsAt caller d.members)
      (other : Member) (there : Some other ≡ item_at d.members identifier) (new : Lent) where
    other_is : other ≡ hands.other
    other_is = one_there d.members identifier other hands.other (sym there) hands.there

    abbrev now : Option Member
    now = Some (record member { context = returned new })

    members_are : with_item (with_item d.members caller now) identifier None
        ≡ with_item after caller now
    members_are =
        sym (with_item-apart d.members identifier caller None now hands.apart)
        ∙ ap (λ (list : List (Option Member)). with_item list caller now) (sym gone)

    abbrev Joins : Result Unit Break → Member → Type 0
    Joins result one =
        ActsWhere (λ store. AreWithin d.heap d.names store one.context.operands) nothing_asked
        (join_caller (values_in d.heap d.names one.context.operands)) attempt result
        (lent_to d member.context) new

    abbrev Does : Result Note Break → List (Option Member) → Type 0
    Does result members =
        DoesBy Join caller attempt shown result d (desk_of new members d.has_faulted)

    pub joined_so : Joins (Ok tt) other → Does (Ok Nothing) (with_item after caller now)
    joined_so acts =
        subst (Does (Ok Nothing)) members_are
        (joined_done caller identifier attempt shown d steady member found_before
        (runs_by d.members caller member found_before at) hands new
        (subst (Joins (Ok tt)) other_is acts))

    pub unjoined_so : (why : Break) → Joins (Err why) other
        → Does (Err why) (with_item after caller now)
    unjoined_so why acts =
        subst (Does (Err why)) members_are
        (unjoined_done caller identifier attempt shown d steady member found_before
        (runs_by d.members caller member found_before at) hands new why
        (subst (Joins (Err why)) other_is acts))

-- ---- nothing is done

module _ (caller : ℕ) (attempt : Attempt) (shown : Option (ℤ × ℤ)) (d : Desk) (steady : IsSteady d)
    (at : RunsAt caller d.members) where
  joins_here : (outcome : Outcome Deed) → JoinsTo caller outcome d.members → (w : World)
      (context : Context) → IsWorld d w → context_at w caller ≡ Some context
      → (any : Option (ℤ × ℤ)) → join_row context.operands (call_by caller any w context) ≡ outcome
  joins_here outcome joins w context world there any =
      subst (λ (one : Context). join_row one.operands (call_by caller any w one) ≡ outcome)
      (here_is d w world caller at.member at.found context there)
      (joins d.heap d.names at.member w any at.found world.contexts)

  pub unfinished_so : JoinsTo caller (leaves waits) d.members
      → WaitsBy Join caller attempt shown d d
  unfinished_so joins = record {
    meets = λ w context world there. (
      ap (deed_given_room attempt.refused w)
          (joins_here (leaves waits) joins w context world there shown),
      world,
    );
    steady = steady;
    runs = at;
    keeps = keeps-same d.heap;
    program = refl;
    most = refl;
    framed = λ framed. framed;
    logs = logs-same 5 d.grants attempt.slot;
  }

  pub misfound_so : (error : ErrorName) → JoinsTo caller (fails error) d.members
      → DoesBy Join caller attempt shown (Err (Raises error)) d d
  misfound_so error joins =
      raised_there Join caller attempt shown d error steady at (joins_here (fails error) joins)
