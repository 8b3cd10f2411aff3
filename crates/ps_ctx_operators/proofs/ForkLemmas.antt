-- What `fork` leaves to its caller, and the context that it makes.
use Rattle.std.proofs.Common.{◌≡◌, ℕ, zero, suc, ◌+◌, ◌-◌, ◌<◌, ◌≤◌, ◌==◌, ◌^◌, ◌++◌, arith, Bool, true, false, List}
use Rattle.std.proofs.Common.{[], ◌∷◌, take, drop, length, map, Option, Some, None, Ok, Err, inl, add-one, refl, sym}
use Rattle.std.proofs.Common.{ap, subst, ◌∙◌, append-nil}
use Rattle.std.specs.Prelude.{option_map, if◌then◌else◌}
use Rattle.std.specs.List.{AllByRecursion}
use Rattle.std.proofs.lemmas.List.{length-append, drop-map}
use Rattle.std.proofs.lemmas.Bool.Decides.{nat_tests}
use Rattle.ps_language.specs.declared.errors.ErrorName.TheVariants.{InvalidAccess, LimitCheck, VmError}
use Rattle.ps_language.specs.declared.kinds.Kind.TheVariants.{Dictionary as DictionaryKind}
use Rattle.ps_language.specs.Value.{Part as PartValue, What, mark_value, Value, Store}
use Rattle.ps_language.specs.World as world
use Rattle.ps_language.specs.Effect.{Scene, makes, raises}
use Rattle.ps_language.specs.Access.{is_executable}
use Rattle.ps_language.specs.Control.{as_procedure}
use Rattle.ps_language.specs.Objects.{lacks_room, made_between}
use Rattle.ps_language.specs.Readers.{natural, array_in, mark_in, is_mark}
use Rattle.ps_language.specs.RowsStack.{split_at_mark}
use Rattle.ps_language.specs.StepErrors.{new_error_dictionary}
use Rattle.ps_language.proofs.AskedLemmas.{made-new}
use Rattle.ps_stacks.specs.Tops.{first_of}
use Rattle.ps_word.specs.declared.words.Word.{Word}
use Rattle.ps_word.specs.declared.values.Part.{Part}
use Rattle.ps_mem.specs.Heap.{Heap, Grants, AfterNew, birth_at}
use Rattle.ps_mem.specs.Keeps.{Keeps}
use Rattle.ps_mem.specs.References.{StandsAs}
use Rattle.ps_mem.specs.Meaning.{value_of, part_of}
use Rattle.ps_mem.specs.Shows.{IsSound, IsValue, AreValues, IsWithin, Shows}
use Rattle.ps_mem.proofs.KeepsLemmas.{AreValues-kept, AreWithin-kept, values_of-kept, known_values}
use Rattle.ps_mem.proofs.Lists.{all_take}
use Rattle.ps_mem.proofs.NewShows.{longer}
use Rattle.ps_ops_operands.specs.Marks.{IsMarkAt}
use Rattle.ps_ops_operands.specs.Plain.{IsPlain}
use Rattle.ps_ops_operands.specs.declared.failure.NotMade.{NotMade as Reason}
use Rattle.ps_ops_operands.specs.Changes.{values_in, IsRoomReason, KeepsLogsWithin, most_records}
use Rattle.ps_ops_operands.proofs.Held.{rest_held}
use Rattle.ps_ops_operands.proofs.Operands.{first_split, map-take}
use Rattle.ps_ops_operands.proofs.Ready.{plain_value, plain_within}
use Rattle.ps_ops_control.specs.declared.frames.Frame.TheVariants.{Procedure}
use Rattle.ps_ops_control.specs.Frames.{frame_of, IsHeld, AreFrames, IsFrameWithin}
use Rattle.ps_ops_state.specs.declared.breaks.Break.TheVariants.{Raises}
use Rattle.ps_ops_state.specs.declared.lent.Attempt.{Attempt}
use Rattle.ps_ops_state.specs.Lent.{Lent, scene_of, IsShown, IsGood}
use Rattle.ps_ops_state.specs.Acts.{nothing_asked, effect_in, Acts}
use Rattle.ps_ops_state.proofs.Reasons.{room_reason}
use Rattle.ps_ops_state.proofs.Acting.{Made, Wants, left_acts}
use Rattle.ps_ops_state.proofs.Forming.{refused_acts}
use Rattle.ps_ops_state.proofs.Kept.{frames-good, frames-same}
use Rattle.ps_ops_state.proofs.Lifts.{changed_good, changed_left}
use Rattle.ps_ops_state.proofs.Meeting.{logs_then, logs_more, stays_as, at_least-same}
use Rattle.ps_ctx_operators.specs.Deeds.{forked}
use Rattle.ps_ctx_operators.specs.Forks.{IsMaking, procedure_frames, status_by, context_in, IsForked}
use Rattle.ps_ctx_operators.specs.Rows.{fork_caller}

-- ---- a procedure is no mark

no_mark_in : (what : What) (executable : Bool) (part : PartValue)
    → (if executable then array_in what else None) ≡ Some part → mark_in what ≡ false
no_mark_in mark_value true part is = cc
no_mark_in mark_value false part is = cc
no_mark_in what executable part is = refl

no_mark : (v : Value) (part : PartValue) → as_procedure v ≡ Some part → is_mark v ≡ false
unfolding as_procedure is_mark
no_mark v part is = no_mark_in v.what v.executable part is

-- what stands above the mark, without the procedure
module _ (x : Value) (rest : List Value) where
  abbrev IsBelow : ℕ → Type 0
  IsBelow depth = (1 ≤ depth) × (split_at_mark rest
      ≡ Some (take (depth - 1) rest, drop (depth + 1) (x ∷ rest)))

  both : (parts other : List Value × List Value) → Some (x ∷ parts.0, parts.1) ≡ Some other
      → (x ∷ parts.0, parts.1) ≡ other
  both parts other is = cc

  below_as : (depth : ℕ) (found : Option (List Value × List Value))
      → option_map {U = List Value × List Value}
      (λ (parts : List Value × List Value). (x ∷ parts.0, parts.1)) found
      ≡ Some (take depth (x ∷ rest), drop (depth + 1) (x ∷ rest))
      → (1 ≤ depth) × (found ≡ Some (take (depth - 1) rest, drop (depth + 1) (x ∷ rest)))
  below_as depth None is = absurd (cc)
  below_as zero (Some parts) is =
      let front : x ∷ parts.0 ≡ [] = ap (λ (p : List Value × List Value). p.0) (both parts _ is) in
      absurd (cc)
  below_as (suc d) (Some parts) is =
      let pair = both parts (take (suc d) (x ∷ rest), drop (suc d + 1) (x ∷ rest)) is in
      let front : x ∷ parts.0 ≡ x ∷ take d rest =
      ap (λ (p : List Value × List Value). p.0) pair in
      let above : parts.0 ≡ take d rest = cc in
      let less : suc d - 1 ≡ d = omega arith in
      (omega arith, rw (less, above, ap (λ (p : List Value × List Value). p.1) pair) refl)

  below_mark : (depth : ℕ) → is_mark x ≡ false → split_at_mark (x ∷ rest)
      ≡ Some (take depth (x ∷ rest), drop (depth + 1) (x ∷ rest)) → IsBelow depth
  below_mark depth plain is = below_as depth (split_at_mark rest) (rw plain at is)

-- what stays of operands below the procedure
pub below_first : (operands : List Word) (depth : ℕ)
    → drop depth (drop 1 operands) ≡ drop (depth + 1) operands
below_first [] zero = refl
below_first [] (suc depth) = rw add-one refl
below_first (x ∷ operands) depth = rw add-one refl

-- ---- records

pub granted_logs : (old new : Grants) (slot : ℕ)
    → new ≡ record old { words = new.words; births = new.births } → KeepsLogsWithin 0 old new slot
granted_logs old new slot same =
    let records : new.records slot ≡ old.records slot = ap (λ (g : Grants). g.records slot) same in
    let put : new.put slot ≡ old.put slot = ap (λ (g : Grants). g.put slot) same in
    record {
      cycle_open = ap (λ (g : Grants). g.cycle_open) same;
      closed = ap (λ (g : Grants). g.closed) same;
      others = λ s other. ap (λ (g : Grants). g.records s) same;
      used = omega (arith, records);
      kept = omega (arith, put);
      put = omega (arith, put);
      put_no_other = λ s other. ap (λ (g : Grants). g.put s) same;
    }

new_logs : (old new : Grants) (address words births slot : ℕ)
    → AfterNew old new address words births → KeepsLogsWithin 0 old new slot
new_logs old new address words births slot after =
    let records : new.records slot ≡ old.records slot =
    ap (λ (f : ℕ → ℕ). f slot) after.records in
    let put : new.put slot ≡ old.put slot = ap (λ (f : ℕ → ℕ). f slot) after.put in
    record {
      cycle_open = after.cycle_open;
      closed = after.closed;
      others = λ s other. ap (λ (f : ℕ → ℕ). f s) after.records;
      used = omega (arith, records);
      kept = omega (arith, put);
      put = omega (arith, put);
      put_no_other = λ s other. ap (λ (f : ℕ → ℕ). f s) after.put;
    }

-- ---- a $error more

abbrev after_fork : Store → Store
after_fork store = store ++ new_error_dictionary ∷ []

made_words : (store : Store) → made_between store (after_fork store) ≡ 32
made_words store = made-new store new_error_dictionary

made_births : (store : Store) → length (after_fork store) - length store ≡ 1
made_births store = omega (arith, length-append store (new_error_dictionary ∷ []))

lacking_room : (refused : Bool) (store : Store) → refused ≡ true
    → lacks_room refused store (after_fork store) ≡ true
lacking_room refused store is = rw (is, made_words store) refl

having_room : (refused : Bool) (store : Store) → refused ≡ false
    → lacks_room refused store (after_fork store) ≡ false
having_room refused store is = rw is refl

-- ---- the frames of a new context

held_by : (h : Heap) (size : ℕ) (body : Part) → IsHeld h body → (empty : Bool)
    → (empty ≡ false → 1 ≤ body.length)
    → AreFrames h size (if empty then [] else Procedure body ∷ [])
held_by h size body held true some = tt
held_by h size body held false some = ((held, some refl), tt)

held_as : (h : Heap) (size : ℕ) (body : Part) → IsHeld h body
    → AreFrames h size (procedure_frames body)
held_as h size body held =
    held_by h size body held (body.length == 0) (λ filled. grind (arith, nat_tests))

within_as : (births : ℕ → ℕ) (names : List (List ℕ)) (store : Store) (body : Part) (empty : Bool)
    → AllByRecursion (IsFrameWithin births names store)
    (if empty then [] else Procedure body ∷ [])
within_as births names store body true = tt
within_as births names store body false = (tt, tt)

frames_as : (births : ℕ → ℕ) (names : List (List ℕ)) (body : Part) (empty : Bool)
    → (if empty then [] else world.procedure_frame (part_of births body) ∷ [])
    ≡ map (frame_of births names) (if empty then [] else Procedure body ∷ [])
frames_as births names body true = refl
frames_as births names body false = refl

status_as : (body : Part) (empty : Bool) → (if empty then world.finished else world.running)
    ≡ status_by (if empty then [] else Procedure body ∷ [])
status_as body true = refl
status_as body false = refl

-- ---- the caller

module _ (l : Lent) (top : Word) (one : Some top ≡ first_of l.operands) (body : Part)
    (procedure : (births : ℕ → ℕ) (names : List (List ℕ))
    → as_procedure (value_of births names top) ≡ Some (part_of births body)) (depth : ℕ)
    (mark : IsMarkAt l.operands depth) where
  -- what goes over
  abbrev above : List Word
  above = take (depth - 1) (drop 1 l.operands)

  -- what stays
  abbrev below : List Word
  below = drop (depth + 1) l.operands

  split : (births : ℕ → ℕ) (names : List (List ℕ)) → (1 ≤ depth)
      × (split_at_mark (map (value_of births names) (drop 1 l.operands))
      ≡ Some (map (value_of births names) above, map (value_of births names) below))
  split births names =
      let f = value_of births names in
      let ops : l.operands ≡ top ∷ drop 1 l.operands = first_split l.operands top one in
      let is = below_mark (f top) (map f (drop 1 l.operands)) depth
      (no_mark (f top) (part_of births body) (procedure births names))
      (subst (λ (ws : List Word). split_at_mark (map f ws)
      ≡ Some (take depth (map f ws), drop (depth + 1) (map f ws))) ops
      (mark.splits births names)) in (
        is.0,
        is.1 ∙ λ i. Some (
          sym (map-take f (depth - 1) (drop 1 l.operands)) i,
          (ap (λ (ws : List Word). drop (depth + 1) (map f ws)) (sym ops)
              ∙ drop-map f (depth + 1) l.operands) i,
        ),
      )

  pub fork_deep : 1 ≤ depth
  fork_deep = (split (birth_at l.heap) l.names).0

  module _ (seat : Option ℕ) where
    pub fork_hidden : is_executable body.access ≡ false → (store : Store) → IsShown l store
        → effect_in (fork_caller seat) l store ≡ raises InvalidAccess
    fork_hidden hidden store shown =
        rw (
          first_split l.operands top one,
          procedure (birth_at l.heap) l.names,
          (split (birth_at l.heap) l.names).1,
          hidden,
        ) refl

    module _ (executable : is_executable body.access ≡ true) where
      pub fork_seatless : seat ≡ None → (store : Store) → IsShown l store
          → effect_in (fork_caller seat) l store ≡ raises LimitCheck
      fork_seatless none store shown =
          rw (
            first_split l.operands top one,
            procedure (birth_at l.heap) l.names,
            (split (birth_at l.heap) l.names).1,
            executable,
            none,
          ) refl

      module _ (identifier : ℕ) (seated : seat ≡ Some identifier) where
        abbrev left_scene : Store → Scene
        left_scene store = record (scene_of l store) {
          operands = natural identifier ∷ values_in l.heap l.names below;
          store = after_fork store;
        }

        fork_is : (store : Store) → effect_in (fork_caller seat) l store
            ≡ makes (left_scene store) []
        fork_is store =
            rw (
              ap (values_in l.heap l.names) (first_split l.operands top one),
              procedure (birth_at l.heap) l.names,
              (split (birth_at l.heap) l.names).1,
              executable,
              seated,
            ) refl

        pub fork_making : (store : Store) → IsShown l store
            → IsMaking (effect_in (fork_caller seat) l store)
        fork_making store shown = rw (fork_is store) tt

        module _ (good : IsGood l) (attempt : Attempt) where
          pub fork_refused : attempt.refused ≡ true
              → Acts nothing_asked (fork_caller seat) attempt (Err (Raises VmError)) l l
          fork_refused refused =
              refused_acts l [] l.names (sym (append-nil l.names)) (fork_caller seat) attempt l.grants
              nothing_asked good (granted_logs l.grants l.grants attempt.slot refl) (inl refl)
              λ store shown. record {
                scene = left_scene store;
                output = [];
                is = fork_is store;
                names_are = refl;
                lacking = lacking_room attempt.refused store refused;
              }

          module _ (unrefused : attempt.refused ≡ false) where
            pub fork_wants : (grants : Grants) (reason : Reason) → IsRoomReason reason l.heap 32 1
                → (store : Store) → IsShown l store
                → Wants (fork_caller seat) attempt nothing_asked l reason
                (record l { grants = grants }) store
            fork_wants grants reason why store shown = record {
              scene = left_scene store;
              output = [];
              is = fork_is store;
              enough = having_room attempt.refused store unrefused;
              why = room_reason _ attempt.slot l (record l { grants = grants }) 32 1 (made_words store)
                  (made_births store) (omega arith) reason why;
            }

            -- a $error stands, and its identifier is pushed
            module _ (new : Heap) (mid left : Grants) (address : ℕ) (keeps : Keeps l.heap new)
                (sound : IsSound new)
                (asked : mid ≡ record l.grants { words = mid.words; births = mid.births })
                (after : AfterNew mid left address 32 1)
                (shows : (s : Store) → Shows l.heap l.names s → Shows new l.names (after_fork s))
                (w : Word) (plain : IsPlain w) (means : (births : ℕ → ℕ) (names : List (List ℕ))
                → value_of births names w ≡ natural identifier) where
              abbrev left_lent : Lent
              left_lent = record l { heap = new; grants = left; operands = w ∷ below }

              stay_held : AreValues l.heap below
              stay_held = rest_held (IsValue l.heap) l.operands good.operands (depth + 1)

              logs : KeepsLogsWithin 0 l.grants left attempt.slot
              logs = logs_then 0 0 0 l.grants mid left attempt.slot (omega arith)
                  (granted_logs l.grants mid attempt.slot asked)
                  (new_logs mid left address 32 1 attempt.slot after)

              fork_made : (store : Store) → IsShown l store
                  → Made (fork_caller seat) attempt nothing_asked l left_lent store
              fork_made store shown =
                  let known = known_values l.heap below stay_held in
                  let lasts = longer store (new_error_dictionary ∷ []) in
                  let is = changed_left l good new left (w ∷ below) keeps store (after_fork store)
                  lasts shown (shows store shown.shows) (
                    plain_within (birth_at new) l.names (after_fork store) w plain,
                    AreWithin-kept l.heap new keeps l.names store (after_fork store) lasts below
                        known (rest_held (IsWithin (birth_at l.heap) l.names store) l.operands
                        shown.operands (depth + 1)),
                  )
                  (natural identifier ∷ values_in l.heap l.names below)
                  (λ i. means (birth_at new) l.names i
                  ∷ values_of-kept l.heap new keeps l.names below known i) in
                  record {
                    after = after_fork store;
                    output = [];
                    is = fork_is store ∙ ap (λ (scene : Scene). makes scene []) (sym is.is);
                    enough = having_room attempt.refused store unrefused;
                    shown = record {
                      shows = is.shown.shows;
                      operands = is.shown.operands;
                      dictionaries = is.shown.dictionaries;
                      frames = is.shown.frames;
                    };
                    lasts = lasts;
                    printed = sym (append-nil l.printed);
                    logs = logs;
                  }

              pub fork_acts : Acts nothing_asked (fork_caller seat) attempt (Ok tt) l left_lent
              fork_acts =
                  left_acts (fork_caller seat) attempt nothing_asked l good left_lent
                  (changed_good l good new left (w ∷ below) keeps (record {
                    sound = sound;
                    values = (
                      plain_value new w plain,
                      AreValues-kept l.heap new keeps below stay_held,
                    );
                  })) keeps (stays_as l left_lent refl refl refl refl (omega arith) (at_least-same _))
                  (logs_more 0 most_records l.grants left attempt.slot (omega arith) logs) fork_made

  -- ---- the new context

  module _ (good : IsGood l) (new : Heap) (left : Grants) (address : ℕ) (keeps : Keeps l.heap new)
      (sound : IsSound new)
      (shows : (s : Store) → Shows l.heap l.names s → Shows new l.names (after_fork s))
      (known : StandsAs new DictionaryKind address 4) (low : address < 2 ^ 24)
      (born : birth_at new address ≡ l.heap.next) (held : IsHeld l.heap body) where
    abbrev begun : Lent
    begun = record l {
      heap = new;
      grants = left;
      operands = above;
      frames = procedure_frames body;
      error_dictionary = address;
    }

    above_held : AreValues l.heap above
    above_held = all_take (IsValue l.heap) (depth - 1) (drop 1 l.operands)
        (rest_held (IsValue l.heap) l.operands good.operands 1)

    frames_held : AreFrames l.heap (length l.program) (procedure_frames body)
    frames_held = held_as l.heap (length l.program) body held

    begun_good : IsGood begun
    begun_good = record {
      sound = sound;
      operands = AreValues-kept l.heap new keeps above above_held;
      dictionaries = AreValues-kept l.heap new keeps l.dictionaries good.dictionaries;
      frames = frames-good l.heap new keeps (length l.program) (procedure_frames body) frames_held;
      error_stands = record { stands = known; below = low };
      names = good.names;
      first = good.first;
      empty = good.empty;
    }

    begun_shown : (store : Store) → IsShown l store → IsShown begun (after_fork store)
    begun_shown store shown =
        let lasts = longer store (new_error_dictionary ∷ []) in
        record {
          shows = shows store shown.shows;
          operands = AreWithin-kept l.heap new keeps l.names store (after_fork store) lasts above
              (known_values l.heap above above_held)
              (all_take (IsWithin (birth_at l.heap) l.names store) (depth - 1) (drop 1 l.operands)
              (rest_held (IsWithin (birth_at l.heap) l.names store) l.operands shown.operands 1));
          dictionaries = AreWithin-kept l.heap new keeps l.names store (after_fork store) lasts
              l.dictionaries (known_values l.heap l.dictionaries good.dictionaries)
              shown.dictionaries;
          frames = within_as (birth_at new) l.names (after_fork store) body (body.length == 0);
        }

    begun_is : (store : Store) → IsShown l store → (parent : world.Context)
        → parent.dictionaries ≡ (scene_of l store).dictionaries
        → forked parent (scene_of l store).operands (length store)
        ≡ Some (context_in begun (after_fork store))
    begun_is store shown parent same =
        rw (
          first_split l.operands top one,
          procedure (birth_at l.heap) l.names,
          (split (birth_at l.heap) l.names).1,
        )
        (λ i. Some (record {
          operands = sym (values_of-kept l.heap new keeps l.names above
              (known_values l.heap above above_held)) i;
          dictionaries = (same ∙ sym (values_of-kept l.heap new keeps l.names l.dictionaries
              (known_values l.heap l.dictionaries good.dictionaries))) i;
          frames = (frames_as (birth_at l.heap) l.names body (body.length == 0)
              ∙ sym (frames-same l.heap new keeps (length l.program) l.names
              (procedure_frames body) frames_held)) i;
          error_dictionary = (sym shown.shows.next ∙ sym born) i;
          is_detached = false;
          status = status_as body (body.length == 0) i;
        }))

    pub fork_begins : IsForked l begun
    fork_begins = record { good = begun_good; shown = begun_shown; is = begun_is }
