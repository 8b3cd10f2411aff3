-- An operator acts: by an error, by a reason, or by what it leaves.
use Rattle.std.proofs.Common.{◌≡◌, ℕ, zero, suc, ◌≤◌, List, ◌++◌, arith, Bool, true, false, inl, inr, Result, Ok, Err}
use Rattle.std.proofs.Common.{refl, sym, subst}
use Rattle.std.specs.Prelude.{OnErr}
use Rattle.ps_language.specs.declared.errors.ErrorName.{ErrorName}
use Rattle.ps_language.specs.Value.{Store}
use Rattle.ps_language.specs.Effect.{Scene, makes, raises}
use Rattle.ps_language.specs.Objects.{lacks_room}
use Rattle.ps_language.specs.Rows.{Row}
use Rattle.ps_mem.specs.Heap.{Grants}
use Rattle.ps_mem.specs.Keeps.{Keeps}
use Rattle.ps_ops_operands.specs.declared.failure.NotMade.{NotMade as Reason}
use Rattle.ps_ops_operands.specs.declared.failure.NotMade.TheVariants.{Memory}
use Rattle.ps_ops_operands.specs.Changes.{KeepsLogsWithin, most_records, spent}
use Rattle.ps_ops_state.specs.declared.breaks.Break.{Break}
use Rattle.ps_ops_state.specs.declared.breaks.Break.TheVariants.{Raises, NotMade}
use Rattle.ps_ops_state.specs.declared.lent.Attempt.{Attempt}
use Rattle.ps_ops_state.specs.declared.lent.Scratch.{Scratch}
use Rattle.ps_ops_state.specs.Lent.{Lent, Rooms, rooms_of, IsEmpty, scene_of, IsShown, IsGood}
use Rattle.ps_ops_state.specs.Acts.{Asked, IsAtLeast, names_formed, needs_as, needs_between, needs_of_refused, IsReason}
use Rattle.ps_ops_state.specs.Acts.{Lasts, Stays, Meets, effect_in, Acts}
use Rattle.ps_ops_state.proofs.Meeting.{keeps-same, logs-same, stays_as, at_least-same, made_meets, unmade_meets}
use Rattle.ps_ops_state.proofs.Meeting.{wanting_meets, raised_meets, meets_by}

module _ (row : Row) (attempt : Attempt) (asks : Scene → Asked) (l : Lent) where
  -- the row makes what is left, for which there is room
  pub record Made (new : Lent) (store : Store) : Type 0 where
    pub after : Store
    pub output : List ℕ
    pub is : effect_in row l store ≡ makes (scene_of new after) output
    pub enough : lacks_room attempt.refused store after ≡ false
    pub shown : IsShown new after
    pub lasts : Lasts store after
    pub printed : new.printed ≡ l.printed ++ output
    pub logs : KeepsLogsWithin (asks (scene_of l store)).records l.grants new.grants attempt.slot

  -- the row would make something, and there is a reason why not
  pub record Wants (reason : Reason) (new : Lent) (store : Store) : Type 0 where
    pub scene : Scene
    pub output : List ℕ
    pub is : effect_in row l store ≡ makes scene output
    pub enough : lacks_room attempt.refused store scene.store ≡ false
    pub why : IsReason (needs_between (asks (scene_of l store)) (scene_of l store) scene output)
        attempt.slot l new reason

  -- the row would form a name
  pub record FormsName (store : Store) : Type 0 where
    pub scene : Scene
    pub output : List ℕ
    pub is : effect_in row l store ≡ makes scene output
    pub formed : 1 ≤ names_formed (scene_of l store) scene

  name_reason : (scratch : Rooms) (count : ℕ) (new : Lent) → 1 ≤ count
      → IsReason (needs_of_refused scratch count) attempt.slot l new Memory
  name_reason scratch zero new some = absurd (omega (arith, some))
  name_reason scratch (suc count) new some = inr (inl (omega arith))

  -- its memory may be refused whether there is room for the rest or not
  named_as : (scene : Scene) (output : List ℕ) (store : Store) (new : Lent) (lacking : Bool)
      → 1 ≤ names_formed (scene_of l store) scene
      → IsReason (needs_as (asks (scene_of l store)) (scene_of l store) (makes scene output)
      lacking) attempt.slot l new Memory
  named_as scene output store new true some =
      name_reason (asks (scene_of l store)).scratch (names_formed (scene_of l store) scene) new
      some
  named_as scene output store new false some = inr (inl some)

  module _ (good : IsGood l) where
    -- ---- nothing has changed but what was granted, and the room of the output and of the lists
    module _ (grants : Grants) (room : ℕ) (scratch : Scratch) where
      abbrev but : Lent
      but = record l { grants = grants; room = room; scratch = scratch }

      module _ (more : l.room ≤ room) (least : IsAtLeast (rooms_of l.scratch) (rooms_of scratch))
          (empty : IsEmpty scratch) (logs : KeepsLogsWithin 0 l.grants grants attempt.slot) where
        same_acts : (result : Result Unit Break) → OnErr result (l.frames ≡ l.frames)
            → spent result most_records ≡ 0
            → ((store : Store) → IsShown l store
            → Meets asks (effect_in row l store) attempt result (scene_of l store) l but)
            → Acts asks row attempt result l but
        same_acts result framed none meets = record {
          meets = meets;
          good = record {
            sound = good.sound;
            operands = good.operands;
            dictionaries = good.dictionaries;
            frames = good.frames;
            error_stands = good.error_stands;
            names = good.names;
            first = good.first;
            empty = empty;
          };
          keeps = keeps-same l.heap;
          stays = stays_as l _ refl refl refl refl (omega (arith, more)) least;
          logs = subst (λ (n : ℕ). KeepsLogsWithin n l.grants grants attempt.slot) (sym none) logs;
          framed = framed;
        }

        pub raising_acts : (error : ErrorName)
            → ((store : Store) → IsShown l store → effect_in row l store ≡ raises error)
            → Acts asks row attempt (Err (Raises error)) l but
        raising_acts error is = same_acts (Err (Raises error)) refl refl λ store shown.
            meets_by asks attempt (scene_of l store) l but (Err (Raises error)) _ _ (is store shown)
            (raised_meets asks attempt (scene_of l store) l but error refl logs)

        pub wanting_acts : (reason : Reason)
            → ((store : Store) → IsShown l store → Wants reason but store)
            → Acts asks row attempt (Err (NotMade reason)) l but
        wanting_acts reason wants = same_acts (Err (NotMade reason)) refl refl λ store shown.
            let w = wants store shown in
            meets_by asks attempt (scene_of l store) l but (Err (NotMade reason)) _ _ w.is
            (wanting_meets asks attempt (scene_of l store) l but w.scene w.output w.enough reason
            w.why refl logs)

        pub naming_acts : ((store : Store) → IsShown l store → FormsName store)
            → Acts asks row attempt (Err (NotMade Memory)) l but
        naming_acts names = same_acts (Err (NotMade Memory)) refl refl λ store shown.
            let n = names store shown in
            meets_by asks attempt (scene_of l store) l but (Err (NotMade Memory)) _ _ n.is
            (unmade_meets asks attempt (scene_of l store) l but n.scene n.output Memory
            (named_as n.scene n.output store but
            (lacks_room attempt.refused store n.scene.store) n.formed) refl logs)

    pub raised_acts : (error : ErrorName)
        → ((store : Store) → IsShown l store → effect_in row l store ≡ raises error)
        → Acts asks row attempt (Err (Raises error)) l l
    raised_acts = raising_acts l.grants l.room l.scratch (omega arith) (at_least-same _) good.empty
        (logs-same 0 l.grants attempt.slot)

    pub left_acts : (new : Lent) → IsGood new → Keeps l.heap new.heap → Stays l new
        → KeepsLogsWithin most_records l.grants new.grants attempt.slot
        → ((store : Store) → IsShown l store → Made new store)
        → Acts asks row attempt (Ok tt) l new
    left_acts new well keeps stays logs made = record {
      meets = λ store shown.
          let m = made store shown in
          meets_by asks attempt (scene_of l store) l new (Ok tt) _ _ m.is
          (made_meets asks attempt (scene_of l store) l new (scene_of new m.after) m.output
          m.enough
          (record { is = refl; shown = m.shown; lasts = m.lasts }) m.printed m.logs);
      good = well;
      keeps = keeps;
      stays = stays;
      logs = logs;
      framed = tt;
    }
