-- The caller's part of an operator, in the world of all.
use Rattle.std.proofs.Common.{◌≡◌, ℕ, ◌≤◌, ◌-◌, arith, ℤ, Bool, true, false, List, [], ◌∷◌, ◌++◌, length, Option, Some}
use Rattle.std.proofs.Common.{None, Ok, Err, refl, sym, ap, subst, ◌∙◌}
use Rattle.std.proofs.lemmas.List.{length-drop}
use Rattle.std.specs.Prelude.{Result, not, nat_lt, ◌&&◌, ◌||◌}
use Rattle.ps_language.specs.declared.errors.ErrorName.{ErrorName}
use Rattle.ps_language.specs.declared.errors.ErrorName.TheVariants.{VmError}
use Rattle.ps_language.specs.Acts.{effect_of}
use Rattle.ps_language.specs.Effect.{Scene, Call, Deed, does, waits, Effect, makes, unwinds, raises, calls, quiet}
use Rattle.ps_language.specs.Effect.{effect_by}
use Rattle.ps_language.specs.Machines.{with_scene}
use Rattle.ps_language.specs.Objects.{made_between, lacks_room}
use Rattle.ps_language.specs.Outcome.{Outcome, leaves, fails, given_that}
use Rattle.ps_language.specs.Rows.{Row}
use Rattle.ps_language.specs.Step.{machine_of, deed_given_room}
use Rattle.ps_language.specs.Value.{Store}
use Rattle.ps_language.specs.World.{Context, Machine, World}
use Rattle.ps_mem.specs.Heap.{birth_at}
use Rattle.ps_mem.specs.Keeps.{Keeps}
use Rattle.ps_mem.proofs.KeepsLemmas.{birth_at-kept}
use Rattle.ps_ops_operands.specs.declared.failure.NotMade.{NotMade as Reason}
use Rattle.ps_ops_operands.specs.Changes.{most_records}
use Rattle.ps_ops_state.specs.declared.breaks.Break.{Break}
use Rattle.ps_ops_state.specs.declared.breaks.Break.TheVariants.{Unwinds, Raises, NotMade}
use Rattle.ps_ops_state.specs.declared.lent.Attempt.{Attempt}
use Rattle.ps_ops_state.specs.Acts.{Asked, Needs, no_rooms, nothing_asked, names_formed, needs_between, needs_of_refused}
use Rattle.ps_ops_state.specs.Acts.{needs_as, lacks, IsReason, IsLeft, IsSame, Stays, ActsAs, effect_in}
use Rattle.ps_ops_state.specs.Lent.{Lent, scene_of, IsGood}
use Rattle.ps_ctx_table.specs.declared.members.Course.TheVariants.{Running}
use Rattle.ps_ctx_table.specs.declared.members.Member.{Member}
use Rattle.ps_ctx_table.specs.Seats.{item_at, with_item}
use Rattle.ps_ctx_table.specs.Worlds.{status_of, context_of}
use Rattle.ps_ctx_table.specs.Desks.{Desk, lent_to, returned, desk_of, desk_after, desk_unmade, AreFramed, IsWorld}
use Rattle.ps_ctx_table.specs.Desks.{IsLentBy, IsGoodMember, IsSteady}
use Rattle.ps_ctx_table.proofs.Places.{with_item-twice, item_at-with_item}
use Rattle.ps_ctx_table.proofs.Turning.{member_at, went_steady, went_world, same_world}
use Rattle.ps_ctx.specs.Calls.{RunsAt, AreFramedBut, IsSameDesk, IsHeldUpAs, call_by}
use Rattle.ps_ctx.specs.Growth.{Growth, growth_for}
use Rattle.ps_step_interpreter.specs.Needs.{wants_rooms, wants}
use Rattle.ps_ctx.proofs.Asked.{IsAsked}
use Rattle.ps_ctx.proofs.Calling.{none_left}
use Rattle.ps_ctx.proofs.Starving.{held_more, words_part, held_by}
use Rattle.ps_ctx_operators.specs.Deeds.{part_at, with_scene_of, after_part}

-- ---- effects that print nothing and form no name

abbrev pub IsPlain : (before : Scene) → Effect → Type 0
IsPlain before (makes scene output) = (output ≡ []) × (scene.names ≡ before.names)
IsPlain before (raises error) = Unit {0}
IsPlain before (unwinds cause scene) = ⊥
IsPlain before (calls deed) = ⊥

pub plain_by : {A : Type 0} (before : Scene) (left : A → Scene)
    → ((a : A) → (left a).names ≡ before.names) → (outcome : Outcome A)
    → IsPlain before (effect_by (λ a. quiet (left a)) outcome)
plain_by before left same (leaves a) = (refl, same a)
plain_by before left same (fails error) = tt

-- so few records, and nothing that is read
abbrev pub IsFew : Asked → Type 0
IsFew asked = (asked.scratch ≡ no_rooms) × (asked.records ≤ most_records)

pub nothing_few : (scene : Scene) → IsFew (nothing_asked scene)
nothing_few scene = (refl, omega arith)

pub or_false : (b : Bool) → b || false ≡ b
or_false true = refl
or_false false = refl

and_false : (b : Bool) → b && false ≡ false
and_false true = refl
and_false false = refl

-- what prints nothing, forms no name and reads nothing may want a growth for its words alone
words_alone : (needs : Needs) → needs.bytes ≡ 0 → needs.names ≡ 0 → needs.scratch ≡ no_rooms
    → wants false needs ≡ false
words_alone needs bytes names scratch =
    (λ i. nat_lt 0 (bytes i) || (nat_lt 0 (names i)
    || ((nat_lt 0 needs.words && false) || wants_rooms (scratch i))))
    ∙ (or_false _ ∙ and_false (nat_lt 0 needs.words))

-- ---- desks where nothing has changed

pub same_then : (one other last : Desk) → IsSameDesk one other → IsSameDesk other last
    → IsSameDesk one last
same_then one other last first second =
    second ∙ ap (λ (d : Desk). record d
    { grants = last.grants; room = last.room; scratch = last.scratch }) first

-- what is left has the store of the scene
abbrev pub IsWithStore : Scene → Outcome Deed → Type 0
IsWithStore scene (leaves (does note world)) = world.store ≡ scene.store
IsWithStore scene (leaves waits) = ⊥
IsWithStore scene (fails error) = ⊥

-- ---- the desk once the part was done, or not

module _ (d : Desk) (caller : ℕ) (member : Member)
    (found : item_at d.members caller ≡ Some member) (runs : member.course ≡ Running)
    (new : Lent) where
  abbrev pub part_desk : Desk
  part_desk = desk_unmade d caller member new

  goes_on : desk_after d caller member new Running d.has_faulted ≡ part_desk
  goes_on =
      ap (λ item. desk_of new (with_item d.members caller item) d.has_faulted)
      (none_left member.is_detached (record member { context = returned new; course = Running })
      ∙ (λ i. Some (record member { context = returned new; course = sym runs i })))

  pub part_runs : RunsAt caller part_desk.members
  part_runs = record {
    member = record member { context = returned new };
    found = item_at-with_item d.members caller member
        (Some (record member { context = returned new })) found;
    runs = runs;
  }

  pub part_framed : AreFramedBut caller d.members → AreFramedBut caller part_desk.members
  part_framed =
      subst AreFramed (sym (with_item-twice d.members caller
      (Some (record member { context = returned new })) None))

  module _ (steady : IsSteady d) (keeps : Keeps d.heap new.heap)
      (stays : Stays (lent_to d member.context) new) (good : IsGood new) where
    pub part_steady : IsSteady part_desk
    part_steady =
        subst IsSteady goes_on
        (went_steady d steady caller member new Running d.has_faulted keeps stays good tt)

    good_there : IsGoodMember d member
    good_there = member_at (IsGoodMember d) d.members caller member steady.members found

    -- ---- of a world

    module _ (w : World) (at : IsWorld d w) (shown : Option (ℤ × ℤ)) where
      abbrev context : Context
      context = context_of d.heap d.names member

      abbrev call : Call
      call = call_by caller shown w context

      abbrev l : Lent
      l = lent_to d member.context

      abbrev before : Scene
      before = scene_of l w.store

      abbrev next_of : Scene → Machine
      next_of scene = with_scene scene context.status (machine_of w context)

      pub part_is : (row : Row) → effect_in row l w.store ≡ part_at call row
      part_is row = λ i. effect_of row
          (record { program = sym at.program i; error_dictionary = context.error_dictionary })
          (record before { names = sym at.names i })

      lent_by : (scene : Scene) → IsLeft w.store new scene → new.printed ≡ d.printed
          → IsLentBy new member.is_detached (status_of (birth_at new.heap) Running)
          w.error_lines (next_of scene)
      lent_by scene left printed = record {
        shown = left.shown;
        scene = left.is;
        error_dictionary =
            sym (birth_at-kept d.heap new.heap keeps member.context.error_dictionary
            good_there.good.error_stands.stands.object good_there.good.error_stands.stands.at)
            ∙ ap (birth_at new.heap) (sym stays.error_dictionary);
        detached = refl;
        is_so = ap (status_of (birth_at d.heap)) runs;
        printed = at.printed ∙ sym printed;
        error_lines = refl;
      }

      -- it is the world where the caller has what is left
      pub made_world : (scene : Scene) → IsLeft w.store new scene → new.printed ≡ d.printed
          → IsWorld part_desk (with_scene_of call scene)
      made_world scene left printed =
          subst (λ (one : Desk). IsWorld one (with_scene_of call scene)) goes_on
          (went_world d steady caller member new Running d.has_faulted keeps stays good tt w at
          w.error_lines (next_of scene) left.lasts (lent_by scene left printed) at.faulted)

      -- it is the same world
      pub kept_world : IsSame l new → IsWorld part_desk w
      kept_world same = same_world d w caller member new found at same

      -- ---- by the effect

      module _ (attempt : Attempt) (asked : Asked) (few : IsFew asked) where
        abbrev Did : Result Unit Break → Effect → Bool → Type 0
        Did result effect lacking =
            ActsAs (needs_as asked before effect lacking) attempt.slot before result effect lacking l
            new

        pub record IsMade (effect : Effect) : Type 0 where
          pub scene : Scene
          pub is : effect ≡ makes scene []
          pub enough : lacks_room attempt.refused w.store scene.store ≡ false
          pub world : IsWorld part_desk (with_scene_of call scene)

        no_more : (bytes output : List ℕ) → output ≡ [] → bytes ++ output ≡ bytes
        no_more bytes output none = ap (λ more. bytes ++ more) none ∙ append_nil bytes
          where
            append_nil : (bytes : List ℕ) → bytes ++ [] ≡ bytes
            append_nil [] = refl
            append_nil (byte ∷ bytes) = ap (λ rest. byte ∷ rest) (append_nil bytes)

        pub made_by : (effect : Effect) (lacking : Bool)
            → lacks attempt.refused before effect ≡ lacking → IsPlain before effect
            → Did (Ok tt) effect lacking → IsMade effect
        made_by (makes scene output) false is plain did = record {
          scene = scene;
          is = ap (makes scene) plain.0;
          enough = is;
          world = made_world scene did.0 (did.1 ∙ no_more d.printed output plain.0);
        }
        made_by (makes scene output) true is plain did = absurd did
        made_by (raises error) lacking is plain did = absurd did
        made_by (unwinds cause scene) lacking is plain did = absurd did
        made_by (calls deed) lacking is plain did = absurd did

        given_room_fails : (scene : Scene) (outcome : Outcome Deed)
            → IsWithStore scene outcome → lacks_room attempt.refused w.store scene.store ≡ true
            → deed_given_room attempt.refused w outcome ≡ fails VmError
        given_room_fails scene (leaves (does note world)) same lacks_it =
            ap (λ (store : Store). given_that (not (lacks_room attempt.refused w.store store)) VmError
            (leaves (does note world))) same
            ∙ ap (λ b. given_that (not b) VmError (leaves (does note world))) lacks_it
        given_room_fails scene (leaves waits) same lacks_it = absurd same
        given_room_fails scene (fails error) same lacks_it = absurd same

        pub raised_by : (error : ErrorName) (effect : Effect) (lacking : Bool)
            → lacks attempt.refused before effect ≡ lacking → IsPlain before effect
            → (next : Scene → Outcome Deed)
            → ((scene : Scene) → effect ≡ makes scene [] → IsWithStore scene (next scene))
            → Did (Err (Raises error)) effect lacking
            → (deed_given_room attempt.refused w (after_part effect next) ≡ fails error)
            × IsSame l new
        raised_by error (makes scene output) true is plain next stores did = (
          given_room_fails scene (next scene) (stores scene (ap (makes scene) plain.0)) is
              ∙ ap (λ e. fails e) (sym did.0),
          did.1.is ∙ (λ i. record l {
            grants = new.grants;
            room = new.room;
            names = plain.1 i;
            scratch = new.scratch;
          }),
        )
        raised_by error (makes scene output) false is plain next stores did = absurd did
        raised_by error (raises raised) lacking is plain next stores did =
            (ap (λ e. fails e) (sym did.0), did.1)
        raised_by error (unwinds cause scene) lacking is plain next stores did = absurd did
        raised_by error (calls deed) lacking is plain next stores did = absurd did

        pub unmade_by : (reason : Reason) (effect : Effect) (lacking : Bool)
            → IsPlain before effect → Did (Err (NotMade reason)) effect lacking → IsSame l new
        unmade_by reason (makes scene output) lacking plain did = did.1
        unmade_by reason (raises raised) lacking plain did = absurd did
        unmade_by reason (unwinds cause scene) lacking plain did = absurd did
        unmade_by reason (calls deed) lacking plain did = absurd did

        no_names : (scene : Scene) → scene.names ≡ before.names → names_formed before scene ≡ 0
        no_names scene same =
            let none : length l.names - length l.names ≡ 0 = omega arith in
            ap (λ (names : List (List ℕ)). length names - length l.names) same ∙ none

        -- what makes objects may want a growth
        pub held_up_by : (reason : Reason) (effect : Effect) (lacking : Bool)
            → lacks attempt.refused before effect ≡ lacking → IsPlain before effect
            → Did (Err (NotMade reason)) effect lacking → new.grants.closed ≡ d.grants.closed
            → (wanted : Growth) → ((scene : Scene) → effect ≡ makes scene []
            → lacks_room attempt.refused w.store scene.store ≡ false
            → 1 ≤ made_between w.store scene.store → IsAsked wanted w.store scene.store)
            → IsHeldUpAs wanted attempt.slot new.heap new.grants reason
        held_up_by reason (makes scene output) false is plain did closed wanted so =
            let needs : Needs = needs_between asked before scene output in
            held_more (growth_for needs) wanted
            (words_part needs wanted
            (words_alone needs (ap length plain.0) (no_names scene plain.1) few.0)
            (λ some. (so scene (ap (makes scene) plain.0) is some).words)
            (λ some. (so scene (ap (makes scene) plain.0) is some).births
            ∙ length-drop (length w.store) scene.store)) attempt.slot new.heap new.grants reason
            (held_by needs attempt.slot l new reason few.1 did.1 closed did.0)
        held_up_by reason (makes scene output) true is plain did closed wanted so =
            let needs : Needs = needs_of_refused asked.scratch 0 in
            held_more (growth_for needs) wanted
            (words_part needs wanted (words_alone needs refl refl few.0)
            (λ some. absurd (omega (arith, some))) (λ some. absurd (omega (arith, some))))
            attempt.slot new.heap new.grants reason
            (held_by needs attempt.slot l new reason (omega arith) did.1 closed
            (subst (λ n. IsReason (needs_of_refused asked.scratch n) attempt.slot l new reason)
            (no_names scene plain.1) did.0))
        held_up_by reason (raises raised) lacking is plain did closed wanted so = absurd did
        held_up_by reason (unwinds cause scene) lacking is plain did closed wanted so = absurd did
        held_up_by reason (calls deed) lacking is plain did closed wanted so = absurd did

        pub unwinds_not : (cause : _) (effect : Effect) (lacking : Bool) → IsPlain before effect
            → Did (Err (Unwinds cause)) effect lacking → ⊥
        unwinds_not cause (makes scene output) true plain did = did
        unwinds_not cause (makes scene output) false plain did = did
        unwinds_not cause (raises raised) lacking plain did = did
        unwinds_not cause (unwinds for scene) lacking plain did = plain
        unwinds_not cause (calls deed) lacking plain did = did
