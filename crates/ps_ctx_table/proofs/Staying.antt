-- Contexts stay what they are where a memory, the names and the store go on.
use Rattle.std.proofs.Common.{◌≡◌, ℕ, Bool, List, [], ◌∷◌, length, Option, Some, None, refl, sym, ap, subst, ◌∙◌}
use Rattle.ps_language.specs.Effect.{Scene}
use Rattle.ps_language.specs.Value.{Store}
use Rattle.ps_language.specs.World as world
use Rattle.ps_mem.specs.Heap.{birth_at}
use Rattle.ps_mem.specs.Shows.{Shows}
use Rattle.ps_mem.proofs.KeepsLemmas.{birth_at-kept, stands-kept, AreValues-kept, AreWithin-kept, values_of-kept}
use Rattle.ps_mem.proofs.KeepsLemmas.{known_values}
use Rattle.ps_ops_operands.specs.Changes.{values_in}
use Rattle.ps_ops_control.specs.Frames.{AreFrames}
use Rattle.ps_ops_state.specs.declared.lent.Context.{Context}
use Rattle.ps_ops_state.specs.Lent.{Lent, scene_of, IsShown, IsGood}
use Rattle.ps_ops_state.specs.Acts.{Lasts, IsLeft, over}
use Rattle.ps_ops_state.proofs.Lifts.{changed_good, changed_left}
use Rattle.ps_ops_state.proofs.Forming.{formed_good, formed_left}
use Rattle.ps_ctx_table.specs.declared.members.Course.{Course}
use Rattle.ps_ctx_table.specs.declared.members.Course.TheVariants.{Running, Unwinding, Again, Waiting, Retaking}
use Rattle.ps_ctx_table.specs.declared.members.Course.TheVariants.{Finished}
use Rattle.ps_ctx_table.specs.declared.members.Member.{Member}
use Rattle.ps_ctx_table.specs.Worlds.{status_of, context_of, contexts_in}
use Rattle.ps_ctx_table.specs.Desks.{Desk, lent_to, AllMembers, IsCourseHeld, IsGoodMember, GoesOn}

module _ (old new : Desk) (goes : GoesOn old new) where
  -- ---- how far it is

  stays_held : (course : Course) → IsCourseHeld old.heap course → IsCourseHeld new.heap course
  stays_held Running stands = tt
  stays_held (Unwinding cause) stands = tt
  stays_held Again stands = tt
  stays_held (Waiting lock condition) stands = (
    stands-kept old.heap new.heap goes.keeps _ lock 1 stands.0,
    stands-kept old.heap new.heap goes.keeps _ condition 1 stands.1,
  )
  stays_held (Retaking lock) stands = stands-kept old.heap new.heap goes.keeps _ lock 1 stands
  stays_held Finished stands = tt

  status-same : (course : Course) → IsCourseHeld old.heap course
      → status_of (birth_at new.heap) course ≡ status_of (birth_at old.heap) course
  status-same Running stands = refl
  status-same (Unwinding cause) stands = refl
  status-same Again stands = refl
  status-same (Waiting lock condition) stands =
      λ i. world.waiting
      (birth_at-kept old.heap new.heap goes.keeps lock stands.0.object stands.0.at i)
      (birth_at-kept old.heap new.heap goes.keeps condition stands.1.object stands.1.at i)
  status-same (Retaking lock) stands =
      ap world.retaking
      (birth_at-kept old.heap new.heap goes.keeps lock stands.object stands.at)
  status-same Finished stands = refl

  -- ---- what it holds

  module _ (context : Context) (good : IsGood (lent_to old context)) where
    -- under the names that are met now
    abbrev named : Lent
    named = record (lent_to old context) { names = new.names }

    named_good : IsGood named
    named_good =
        formed_good (lent_to old context) goes.formed new.names goes.names good goes.are

    pub stays_good : IsGood (lent_to new context)
    stays_good =
        let changed = changed_good named named_good new.heap new.grants context.operands goes.keeps
        (record {
          sound = goes.sound;
          values = AreValues-kept old.heap new.heap goes.keeps context.operands good.operands;
        }) in
        record {
          sound = changed.sound;
          operands = changed.operands;
          dictionaries = changed.dictionaries;
          frames = subst (λ (program : List ℕ). AreFrames new.heap (length program) context.frames)
              (sym goes.program) changed.frames;
          error_stands = changed.error_stands;
          names = changed.names;
          first = changed.first;
          empty = goes.empty;
        }

    -- ---- what it is over a store

    module _ (s t : Store) (lasts : Lasts s t) (shows : Shows new.heap new.names t)
        (shown : IsShown (lent_to old context) s) where
      named_left : IsLeft s named (record (scene_of (lent_to old context) s) { names = new.names })
      named_left = formed_left (lent_to old context) goes.formed new.names goes.names s shown

      abbrev moved : Lent
      moved = over named new.heap new.grants context.operands

      moved_left : IsLeft s moved (record (scene_of named s)
          { operands = values_in old.heap new.names context.operands; store = t })
      moved_left =
          let known = known_values old.heap context.operands good.operands in
          changed_left named named_good new.heap new.grants context.operands goes.keeps s t lasts
          named_left.shown shows
          (AreWithin-kept old.heap new.heap goes.keeps new.names s t lasts context.operands known
          named_left.shown.operands)
          (values_in old.heap new.names context.operands)
          (values_of-kept old.heap new.heap goes.keeps new.names context.operands known)

      pub stays_shown : IsShown (lent_to new context) t
      stays_shown = record {
        shows = shows;
        operands = moved_left.shown.operands;
        dictionaries = moved_left.shown.dictionaries;
        frames = moved_left.shown.frames;
      }

      same_by : {A : Type 0} (part : Scene → A) → part (scene_of moved t)
          ≡ part (record (scene_of named s)
          { operands = values_in old.heap new.names context.operands; store = t })
      same_by part = ap part moved_left.is

      named_by : {A : Type 0} (part : Scene → A) → part (scene_of named s)
          ≡ part (record (scene_of (lent_to old context) s) { names = new.names })
      named_by part = ap part named_left.is

      stays_context : (course : Course) (is_detached : Bool) → IsCourseHeld old.heap course
          → context_of new.heap new.names
          (record { context = context; course = course; is_detached = is_detached })
          ≡ context_of old.heap old.names
          (record { context = context; course = course; is_detached = is_detached })
      stays_context course is_detached stands = λ i. record {
        operands =
            (same_by (λ (scene : Scene). scene.operands)
            ∙ named_by (λ (scene : Scene). scene.operands)) i;
        dictionaries =
            (same_by (λ (scene : Scene). scene.dictionaries)
            ∙ named_by (λ (scene : Scene). scene.dictionaries)) i;
        frames =
            (same_by (λ (scene : Scene). scene.frames)
            ∙ named_by (λ (scene : Scene). scene.frames)) i;
        error_dictionary =
            birth_at-kept old.heap new.heap goes.keeps context.error_dictionary
            good.error_stands.stands.object good.error_stands.stands.at i;
        is_detached = is_detached;
        status = status-same course stands i;
      }

  -- ---- a context

  pub stays_member : (member : Member) → IsGoodMember old member → IsGoodMember new member
  stays_member member good = record {
    good = stays_good member.context good.good;
    course = stays_held member.course good.course;
  }

  module _ (s t : Store) (lasts : Lasts s t) (shows : Shows new.heap new.names t) where
    pub context-same : (member : Member) → IsGoodMember old member
        → IsShown (lent_to old member.context) s
        → context_of new.heap new.names member ≡ context_of old.heap old.names member
    context-same member good shown =
        stays_context member.context good.good s t lasts shows shown member.course
        member.is_detached
        good.course

    -- ---- all of them

    pub contexts-same : (members : List (Option Member)) → AllMembers (IsGoodMember old) members
        → AllMembers (λ member. IsShown (lent_to old member.context) s) members
        → contexts_in new.heap new.names members ≡ contexts_in old.heap old.names members
    unfolding contexts_in
    contexts-same [] good shown = refl
    contexts-same (None ∷ members) good shown =
        ap (λ rest. None ∷ rest) (contexts-same members good.1 shown.1)
    contexts-same (Some member ∷ members) good shown =
        λ i. Some (context-same member good.0 shown.0 i)
        ∷ contexts-same members good.1 shown.1 i

    pub members_shown : (members : List (Option Member)) → AllMembers (IsGoodMember old) members
        → AllMembers (λ member. IsShown (lent_to old member.context) s) members
        → AllMembers (λ member. IsShown (lent_to new member.context) t) members
    members_shown [] good shown = tt
    members_shown (None ∷ members) good shown =
        (tt, members_shown members good.1 shown.1)
    members_shown (Some member ∷ members) good shown = (
      stays_shown member.context good.0.good s t lasts shows shown.0,
      members_shown members good.1 shown.1,
    )

  pub members_good : (members : List (Option Member)) → AllMembers (IsGoodMember old) members
      → AllMembers (IsGoodMember new) members
  members_good [] good = tt
  members_good (None ∷ members) good = (tt, members_good members good.1)
  members_good (Some member ∷ members) good =
      (stays_member member good.0, members_good members good.1)
