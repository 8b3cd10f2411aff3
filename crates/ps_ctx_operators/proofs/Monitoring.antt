-- What `monitor` comes to: the frames and the owner that it leaves, or that its caller waits.
use Rattle.std.proofs.Common.{◌≡◌, ℕ, zero, suc, ◌+◌, ◌<◌, ◌≤◌, ◌==◌, ◌∙◌, ◌++◌, arith, Bool, true, false, List, []}
use Rattle.std.proofs.Common.{◌∷◌, drop, length, map, Option, Some, None, Ok, refl, sym, ap, subst, append-nil}
use Rattle.std.specs.Prelude.{unwrap_or, if◌then◌else◌}
use Rattle.std.specs.List.{AllByRecursion}
use Rattle.std.proofs.lemmas.List.{map-append}
use Rattle.std.proofs.lemmas.Bool.Decides.{nat_tests}
use Rattle.ps_language.specs.declared.errors.ErrorName.{ErrorName}
use Rattle.ps_language.specs.declared.errors.ErrorName.TheVariants.{ExecStackOverflow, InvalidContext}
use Rattle.ps_language.specs.declared.kinds.Kind.TheVariants.{Lock as LockKind}
use Rattle.ps_language.specs.Value.{Store}
use Rattle.ps_language.specs.World as world
use Rattle.ps_language.specs.Effect.{Scene, makes, raises, quiet, effect_by}
use Rattle.ps_language.specs.Outcome.{Outcome, leaves, fails}
use Rattle.ps_language.specs.Access.{is_executable}
use Rattle.ps_language.specs.Control.{as_procedure}
use Rattle.ps_language.specs.Owners.{with_owner, is_owner, is_free}
use Rattle.ps_language.specs.Locks.{monitor_frames}
use Rattle.ps_stacks.specs.Tops.{first_two_of}
use Rattle.ps_word.specs.declared.words.Word.{Word}
use Rattle.ps_word.specs.declared.values.Part.{Part}
use Rattle.ps_mem.specs.Heap.{Heap, Grants, birth_at}
use Rattle.ps_mem.specs.Keeps.{Keeps}
use Rattle.ps_mem.specs.References.{StandsAs}
use Rattle.ps_mem.specs.Meaning.{value_of, part_of}
use Rattle.ps_mem.specs.Shows.{IsSound, IsValue, IsWithin, Shows}
use Rattle.ps_mem.proofs.KeepsLemmas.{AreValues-kept, AreWithin-kept, stands-kept, known_values}
use Rattle.ps_ops_operands.specs.declared.failure.NotMade.{NotMade as Reason}
use Rattle.ps_ops_operands.specs.Changes.{values_in, KeepsLogsWithin, most_records}
use Rattle.ps_ops_operands.proofs.Held.{rest_held, all_append}
use Rattle.ps_ops_operands.proofs.Operands.{first_two_split}
use Rattle.ps_ops_control.specs.declared.frames.Frame.TheVariants.{Procedure, Monitor}
use Rattle.ps_ops_control.specs.Frames.{frame_of, frames_in, IsHeld, IsFrame, IsFrameWithin}
use Rattle.ps_ops_control.proofs.Rooms.{fits, full}
use Rattle.ps_ops_state.specs.declared.lent.Attempt.{Attempt}
use Rattle.ps_ops_state.specs.Lent.{Lent, scene_of, IsShown, IsGood}
use Rattle.ps_ops_state.specs.Acts.{effect_in, Acts}
use Rattle.ps_ops_state.proofs.Acting.{Made, Wants, left_acts}
use Rattle.ps_ops_state.proofs.Kept.{frames-within}
use Rattle.ps_ops_state.proofs.Lifts.{changed_good}
use Rattle.ps_ops_state.proofs.Meeting.{keeps-same, lasts-same, logs-same, logs_more, stays_as, at_least-same, lacks_nothing}
use Rattle.ps_ops_state.proofs.Meeting.{lacks_for_same}
use Rattle.ps_step_outcome.specs.Turns.{IsUnlogged}
use Rattle.ps_step_outcome.proofs.Unlogged.{unlogged_reason}
use Rattle.ps_ctx_operators.specs.Monitors.{monitored, monitored_count}
use Rattle.ps_ctx_operators.specs.Rows.{monitor_part, monitor_caller, monitor_asked, records_left}
use Rattle.ps_ctx_operators.specs.Singles.{owner_by}
use Rattle.ps_ctx_operators.proofs.Locking.{lock_shown}
use Rattle.ps_ctx_operators.proofs.Owning.{lasts_owned, made_owned}
use Rattle.ps_ctx_operators.proofs.WaitLemmas.{IsLock, HasOwner}

-- ---- the frames of a procedure under a lock

module _ (births : ℕ → ℕ) (names : List (List ℕ)) (lock : ℕ) (body : Part) where
  meant_as : (empty : Bool) → map (frame_of births names)
      (if empty then Monitor lock ∷ [] else Procedure body ∷ Monitor lock ∷ [])
      ≡ (if empty then world.monitor_frame (births lock) ∷ [] else
      world.procedure_frame (part_of births body) ∷ world.monitor_frame (births lock) ∷ [])
  meant_as true = refl
  meant_as false = refl

  counted_as : (empty : Bool) → length (if empty then world.monitor_frame (births lock) ∷ [] else
      world.procedure_frame (part_of births body) ∷ world.monitor_frame (births lock) ∷ [])
      ≡ (if empty then 1 else 2)
  counted_as true = refl
  counted_as false = refl

  frames_meant : map (frame_of births names) (monitored lock body)
      ≡ monitor_frames (births lock) (part_of births body)
  frames_meant = meant_as (body.length == 0)

  frames_counted : length (monitor_frames (births lock) (part_of births body))
      ≡ monitored_count body
  frames_counted = counted_as (body.length == 0)

  within_as : (store : Store) (empty : Bool) → AllByRecursion (IsFrameWithin births names store)
      (if empty then Monitor lock ∷ [] else Procedure body ∷ Monitor lock ∷ [])
  within_as store true = (tt, tt)
  within_as store false = (tt, (tt, tt))

module _ (h : Heap) (size lock : ℕ) (body : Part) (held : IsHeld h body)
    (known : StandsAs h LockKind lock 1) where
  held_as : (empty : Bool) → (empty ≡ false → 1 ≤ body.length) → AllByRecursion (IsFrame h size)
      (if empty then Monitor lock ∷ [] else Procedure body ∷ Monitor lock ∷ [])
  held_as true some = (known, tt)
  held_as false some = ((held, some refl), (known, tt))

  monitored_held : AllByRecursion (IsFrame h size) (monitored lock body)
  monitored_held = held_as (body.length == 0) (λ filled. grind (arith, nat_tests))

owner_some : (n : ℕ) → 1 ≤ n → owner_by n ≡ Some n
owner_some zero some = absurd (omega (arith, some))
owner_some (suc n) some = refl

-- ---- the caller's part

module _ (l : Lent) (caller : ℕ) where
  abbrev part : Store → Outcome (Option Scene)
  part store = monitor_part caller (scene_of l store).operands (scene_of l store)

  -- by the part the row raises its error
  pub part_raises : (error : ErrorName) → ((store : Store) → IsShown l store
      → part store ≡ fails error) → (store : Store) → IsShown l store
      → effect_in (monitor_caller caller) l store ≡ raises error
  part_raises error is store shown =
      ap (effect_by λ (left : Option Scene). quiet (unwrap_or left (scene_of l store)))
      (is store shown)

module _ (l : Lent) (p w : Word) (two : Some (p, w) ≡ first_two_of l.operands) (caller : ℕ) where
  module _ (body : Part) (procedure : (births : ℕ → ℕ) (names : List (List ℕ))
      → as_procedure (value_of births names p) ≡ Some (part_of births body)) (lock : ℕ)
      (is_lock : IsLock w lock) (executable : is_executable body.access ≡ true) (number : ℕ)
      (owned : HasOwner l.heap lock number) where
    pub monitor_own : is_owner caller (owner_by number) ≡ true → (store : Store)
        → IsShown l store → part l caller store ≡ fails InvalidContext
    monitor_own own store shown =
        rw (
          first_two_split l.operands p w two,
          procedure (birth_at l.heap) l.names,
          is_lock (birth_at l.heap) l.names,
          executable,
          owned l.names store shown.shows,
          own,
        ) refl

    module _ (other : is_owner caller (owner_by number) ≡ false) where
      pub monitor_waits : is_free (owner_by number) ≡ false → (store : Store)
          → IsShown l store → part l caller store ≡ leaves None
      monitor_waits taken store shown =
          rw (
            first_two_split l.operands p w two,
            procedure (birth_at l.heap) l.names,
            is_lock (birth_at l.heap) l.names,
            executable,
            owned l.names store shown.shows,
            other,
            taken,
          ) refl

      module _ (free : is_free (owner_by number) ≡ true) where
        pub monitor_full : 250 < length l.frames + monitored_count body → (store : Store)
            → IsShown l store → part l caller store ≡ fails ExecStackOverflow
        monitor_full many store shown =
            rw (
              first_two_split l.operands p w two,
              procedure (birth_at l.heap) l.names,
              is_lock (birth_at l.heap) l.names,
              executable,
              owned l.names store shown.shows,
              other,
              free,
              frames_counted (birth_at l.heap) l.names lock body,
              full (frame_of (birth_at l.heap) l.names) l.frames (monitored_count body) many,
            ) refl

        module _ (few : length l.frames + monitored_count body ≤ 250) where
          abbrev entered : Store → Scene
          entered store = record (scene_of l store) {
            operands = values_in l.heap l.names (drop 2 l.operands);
            frames = frames_in l.heap l.names (monitored lock body ++ l.frames);
            store = with_owner store (birth_at l.heap lock) (Some caller);
          }

          pub monitor_enters : (store : Store) → IsShown l store
              → part l caller store ≡ leaves (Some (entered store))
          monitor_enters store shown =
              rw (
                first_two_split l.operands p w two,
                procedure (birth_at l.heap) l.names,
                is_lock (birth_at l.heap) l.names,
                executable,
                owned l.names store shown.shows,
                other,
                free,
                frames_counted (birth_at l.heap) l.names lock body,
                fits (frame_of (birth_at l.heap) l.names) l.frames (monitored_count body) few,
                map-append (frame_of (birth_at l.heap) l.names) (monitored lock body) l.frames,
                frames_meant (birth_at l.heap) l.names lock body,
              ) refl

-- ---- what is done

module _ (l : Lent) (good : IsGood l) (attempt : Attempt) (caller : ℕ) where
  -- by what the part leaves
  effect_left : (store : Store) (left : Option Scene) → part l caller store ≡ leaves left
      → effect_in (monitor_caller caller) l store
      ≡ makes (unwrap_or left (scene_of l store)) []
  effect_left store left is =
      ap (effect_by λ (o : Option Scene). quiet (unwrap_or o (scene_of l store))) is

  -- the caller waits
  pub waits_acts : ((store : Store) → IsShown l store → part l caller store ≡ leaves None)
      → Acts (monitor_asked caller) (monitor_caller caller) attempt (Ok tt) l l
  waits_acts is =
      left_acts (monitor_caller caller) attempt (monitor_asked caller) l good l good
      (keeps-same l.heap) (stays_as l l refl refl refl refl (omega arith) (at_least-same _))
      (logs-same most_records l.grants attempt.slot) λ store shown. record {
        after = store;
        output = [];
        is = effect_left store None (is store shown);
        enough = lacks_for_same attempt.refused store;
        shown = shown;
        lasts = lasts-same store;
        printed = sym (append-nil l.printed);
        logs = logs-same _ l.grants attempt.slot;
      }

  module _ (lock : ℕ) (known : StandsAs l.heap LockKind lock 1) (body : Part)
      (is : (store : Store) → IsShown l store → part l caller store
      ≡ leaves (Some (record (scene_of l store) {
        operands = values_in l.heap l.names (drop 2 l.operands);
        frames = frames_in l.heap l.names (monitored lock body ++ l.frames);
        store = with_owner store (birth_at l.heap lock) (Some caller);
      }))) where
    abbrev owned : Store → Store
    owned store = with_owner store (birth_at l.heap lock) (Some caller)

    one_asked : (store : Store) → IsShown l store
        → (monitor_asked caller (scene_of l store)).records ≡ 1
    one_asked store shown = ap records_left (is store shown)

    -- a record can't be put
    pub enter_wants : (grants : Grants) (reason : Reason)
        → IsUnlogged 1 attempt.slot l.grants grants reason → (store : Store) → IsShown l store
        → Wants (monitor_caller caller) attempt (monitor_asked caller) l reason
        (record l { grants = grants }) store
    enter_wants grants reason why store shown =
        let there = lock_shown l.heap lock known l.names store shown.shows in
        let one = one_asked store shown in
        record {
          scene = _;
          output = [];
          is = effect_left store (Some _) (is store shown);
          enough = lacks_nothing attempt.refused store (owned store)
              (made_owned store (birth_at l.heap lock) there.0 there.1 (Some caller));
          why = unlogged_reason attempt.slot 1 (omega arith) l (record l { grants = grants })
              reason why _ (omega (arith, one));
        }

    -- the procedure is entered
    module _ (new : Heap) (left : Grants) (keeps : Keeps l.heap new) (sound : IsSound new)
        (births : birth_at new ≡ birth_at l.heap) (some : 1 ≤ caller)
        (shows : (names : List (List ℕ)) (s : Store) → Shows l.heap names s
        → Shows new names (with_owner s (birth_at l.heap lock) (owner_by caller)))
        (logs : KeepsLogsWithin 1 l.grants left attempt.slot) (held : IsHeld l.heap body) where
      abbrev entered_lent : Lent
      entered_lent = record l {
        heap = new;
        grants = left;
        operands = drop 2 l.operands;
        frames = monitored lock body ++ l.frames;
      }

      entered_good : IsGood entered_lent
      entered_good =
          let taken = rest_held (IsValue l.heap) l.operands good.operands 2 in
          let well = changed_good l good new left (drop 2 l.operands) keeps (record {
            sound = sound;
            values = AreValues-kept l.heap new keeps (drop 2 l.operands) taken;
          }) in
          record {
            sound = well.sound;
            operands = well.operands;
            dictionaries = well.dictionaries;
            frames = all_append (IsFrame new (length l.program)) (monitored lock body) l.frames
                (monitored_held new (length l.program) lock body (record {
                  stands = stands-kept l.heap new keeps _ body.address _ held.stands;
                  end = held.end;
                }) (stands-kept l.heap new keeps _ lock _ known)) well.frames;
            error_stands = well.error_stands;
            names = well.names;
            first = well.first;
            empty = well.empty;
          }

      -- as it stands for, by the birth numbers
      abbrev scene_by : (ℕ → ℕ) → Store → Scene
      scene_by b store = record {
        operands = map (value_of b l.names) (drop 2 l.operands);
        dictionaries = map (value_of b l.names) l.dictionaries;
        frames = map (frame_of b l.names) (monitored lock body ++ l.frames);
        store = owned store;
        names = l.names;
      }

      entered_made : (store : Store) → IsShown l store
          → Made (monitor_caller caller) attempt (monitor_asked caller) l entered_lent store
      entered_made store shown =
          let there = lock_shown l.heap lock known l.names store shown.shows in
          let b = birth_at l.heap lock in
          let lasts = lasts_owned store b there.0 there.1 (Some caller) in
          let one = one_asked store shown in
          let words = known_values l.heap (drop 2 l.operands)
          (rest_held (IsValue l.heap) l.operands good.operands 2) in
          record {
            after = owned store;
            output = [];
            is = effect_left store (Some _) (is store shown)
                ∙ ap (λ (c : ℕ → ℕ). makes (scene_by c store) []) (sym births);
            enough = lacks_nothing attempt.refused store (owned store)
                (made_owned store b there.0 there.1 (Some caller));
            shown = record {
              shows = subst (λ (o : Option ℕ). Shows new l.names (with_owner store b o))
                  (owner_some caller some) (shows l.names store shown.shows);
              operands = AreWithin-kept l.heap new keeps l.names store (owned store) lasts
                  (drop 2 l.operands) words
                  (rest_held (IsWithin (birth_at l.heap) l.names store) l.operands
                  shown.operands 2);
              dictionaries = AreWithin-kept l.heap new keeps l.names store (owned store) lasts
                  l.dictionaries (known_values l.heap l.dictionaries good.dictionaries)
                  shown.dictionaries;
              frames = all_append (IsFrameWithin (birth_at new) l.names (owned store))
                  (monitored lock body) l.frames
                  (within_as (birth_at new) l.names lock body (owned store) (body.length == 0))
                  (frames-within l.heap new keeps (length l.program) l.names store (owned store)
                  lasts l.frames good.frames shown.frames);
            };
            lasts = lasts;
            printed = sym (append-nil l.printed);
            logs = subst (λ (n : ℕ). KeepsLogsWithin n l.grants left attempt.slot) (sym one) logs;
          }

      pub enters_acts : Acts (monitor_asked caller) (monitor_caller caller) attempt (Ok tt) l
          entered_lent
      enters_acts =
          left_acts (monitor_caller caller) attempt (monitor_asked caller) l good entered_lent
          entered_good keeps
          (stays_as l entered_lent refl refl refl refl (omega arith) (at_least-same _))
          (logs_more 1 most_records l.grants left attempt.slot (omega arith) logs) entered_made
