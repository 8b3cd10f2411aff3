-- Contexts whose roots are led to the replicas.
use Rattle.std.proofs.Common.{◌≡◌, ℕ, zero, suc, ◌<◌, ◌^◌, Bool, List, [], ◌∷◌, ◌++◌, length, map, Option, Some, None}
use Rattle.std.proofs.Common.{option_map, refl, sym, ap, ap₂, ◌∙◌, subst, arith}
use Rattle.std.specs.Prelude.{flat_map}
use Rattle.std.proofs.lemmas.List.{map-set}
use Rattle.std.proofs.lemmas.Option.{slice_get-map}
use Rattle.std.specs.Prelude.{slice_get, option_and_then}
use Rattle.ps_language.specs.Value.{Store}
use Rattle.ps_language.specs.World as world
use Rattle.ps_language.specs.declared.kinds.Kind.TheVariants as kinds
use Rattle.ps_word.specs.declared.values.Content.TheVariants.{Dictionary, Lock, Condition}
use Rattle.ps_word.specs.Format.{address_in}
use Rattle.ps_mem.specs.Heap.{Heap, Grants, birth_at}
use Rattle.ps_mem.specs.References.{StandsAs}
use Rattle.ps_mem.specs.Shows.{IsValue, AreValues}
use Rattle.ps_mem.specs.Stands.{IsAddressed}
use Rattle.ps_core_laws.specs.Moves.{Forwarding, IsMovedTo, HasReplica, HaveReplicas, moved_word}
use Rattle.ps_core_laws.proofs.Words.{AreValues-moved, AreWithin-moved, values_of-moved}
use Rattle.ps_core_laws.proofs.Objects.{sound-moved, shown_all-moved}
use Rattle.ps_ops_control.specs.declared.frames.Frame.{Frame}
use Rattle.ps_ops_state.specs.declared.lent.Context.{Context}
use Rattle.ps_ops_state.specs.Lent.{IsErrorDictionary, IsShown, IsGood}
use Rattle.ps_ctx_table.specs.declared.members.Course.{Course}
use Rattle.ps_ctx_table.specs.declared.members.Course.TheVariants.{Running, Unwinding, Again, Waiting, Retaking}
use Rattle.ps_ctx_table.specs.declared.members.Course.TheVariants.{Finished}
use Rattle.ps_ctx_table.specs.declared.members.Member.{Member}
use Rattle.ps_ctx_table.specs.Seats.{item_at, with_item}
use Rattle.ps_ctx_table.specs.Worlds.{status_of, context_of, contexts_in}
use Rattle.ps_ctx_table.specs.Desks.{Desk, lent_to, AllMembers, IsCourseHeld, IsGoodMember, HasFrame, AreFramed}
use Rattle.ps_ctx.specs.Calls.{RunsAt, AreFramedBut}
use Rattle.ps_gc_roots.specs.Formats.{IsCourseInFormat, AreInFormat}
use Rattle.ps_gc_roots.specs.Roots.{literal, roots_of_frame, roots_of_course, roots_of_context, roots_of_member, roots_in}
use Rattle.ps_gc_roots.specs.Renamed.{Renaming, renamed_address, renamed_frame, renamed_course, renamed_context}
use Rattle.ps_gc_roots.specs.Renamed.{renamed_member, renamed_members, moved_desk}
use Rattle.ps_gc_roots.proofs.Literals.{value-literal, address-stands, address-led, birth-led, known-led}
use Rattle.ps_gc_roots.proofs.Framing.{both, fore, rear, frames-values, frames-format, frames-led, frames-same}
use Rattle.ps_gc_roots.proofs.Framing.{frames-within, lock-led, lock-same}

-- ---- the roots are values

module _ (d : Desk) (addressed : IsAddressed d.heap) where
  lock-value : (lock : ℕ) → StandsAs d.heap kinds.Lock lock 1 → IsValue d.heap (literal (Lock lock))
  lock-value lock stands = value-literal d.heap (Lock lock)
      (address-stands d.heap addressed kinds.Lock lock 1 stands) refl stands

  course-values : (course : Course) → IsCourseHeld d.heap course
      → AreValues d.heap (roots_of_course course)
  course-values Running held = tt
  course-values (Unwinding cause) held = tt
  course-values Again held = tt
  course-values (Waiting lock condition) held = (
    lock-value lock held.0,
    (
      value-literal d.heap (Condition condition)
          (address-stands d.heap addressed kinds.Condition condition 1 held.1) refl held.1,
      tt,
    ),
  )
  course-values (Retaking lock) held = (lock-value lock held, tt)
  course-values Finished held = tt

  context-values : (context : Context) → IsGood (lent_to d context)
      → AreValues d.heap (roots_of_context context)
  context-values context good =
      both (IsValue d.heap) context.operands _ good.operands
      (both (IsValue d.heap) context.dictionaries _ good.dictionaries
      (both (IsValue d.heap) (flat_map roots_of_frame context.frames) _
      (frames-values d.heap addressed (length d.program) context.frames good.frames) (
        value-literal d.heap (Dictionary context.error_dictionary) good.error_stands.below refl
            good.error_stands.stands,
        tt,
      )))

  pub members-values : (members : List (Option Member)) → AllMembers (IsGoodMember d) members
      → AreValues d.heap (roots_in members)
  members-values [] good = tt
  members-values (None ∷ members) good = members-values members good.1
  members-values (Some member ∷ members) good =
      both (IsValue d.heap) (roots_of_member member) (roots_in members)
      (both (IsValue d.heap) (roots_of_context member.context) (roots_of_course member.course)
      (context-values member.context good.0.good) (course-values member.course good.0.course))
      (members-values members good.1)

  -- ---- what they are packed from is in the format

  course-format : (course : Course) → IsCourseHeld d.heap course → IsCourseInFormat course
  course-format Running held = tt
  course-format (Unwinding cause) held = tt
  course-format Again held = tt
  course-format (Waiting lock condition) held = (
    address-stands d.heap addressed kinds.Lock lock 1 held.0,
    address-stands d.heap addressed kinds.Condition condition 1 held.1,
  )
  course-format (Retaking lock) held = address-stands d.heap addressed kinds.Lock lock 1 held
  course-format Finished held = tt

  pub members-format : (members : List (Option Member)) → AllMembers (IsGoodMember d) members
      → AreInFormat members
  members-format [] good = tt
  members-format (None ∷ members) good = (good.0, members-format members good.1)
  members-format (Some member ∷ members) good = (
    record {
      frames = frames-format d.heap addressed (length d.program) member.context.frames
          good.0.good.frames;
      error_dictionary = good.0.good.error_stands.below;
      course = course-format member.course good.0.course;
    },
    members-format members good.1,
  )

-- ---- frames are there still

framed-renamed : (rename : Renaming) (course : Course) (frames : List Frame)
    → HasFrame course frames
    → HasFrame (renamed_course rename course) (map (renamed_frame rename) frames)
framed-renamed rename Running [] framed = framed
framed-renamed rename Running (frame ∷ frames) framed = tt
framed-renamed rename (Unwinding cause) [] framed = framed
framed-renamed rename (Unwinding cause) (frame ∷ frames) framed = tt
framed-renamed rename Again frames framed = tt
framed-renamed rename (Waiting lock condition) frames framed = tt
framed-renamed rename (Retaking lock) frames framed = tt
framed-renamed rename Finished frames framed = tt

module _ (rename : Renaming) where
  pub all_framed-renamed : (members : List (Option Member)) → AreFramed members
      → AreFramed (renamed_members rename members)
  all_framed-renamed [] framed = tt
  all_framed-renamed (None ∷ members) framed = (framed.0, all_framed-renamed members framed.1)
  all_framed-renamed (Some member ∷ members) framed = (
    framed-renamed rename member.course member.context.frames framed.0,
    all_framed-renamed members framed.1,
  )

  without-renamed : (members : List (Option Member)) (identifier : ℕ)
      → renamed_members rename (with_item members identifier None)
      ≡ with_item (renamed_members rename members) identifier None
  without-renamed members zero = refl
  without-renamed members (suc place) =
      map-set (option_map (renamed_member rename)) members place None

  pub framed_but-renamed : (members : List (Option Member)) (identifier : ℕ)
      → AreFramedBut identifier members → AreFramedBut identifier (renamed_members rename members)
  framed_but-renamed members identifier framed =
      subst AreFramed (without-renamed members identifier)
      (all_framed-renamed (with_item members identifier None) framed)

  flat : (found : Option (Option Member))
      → option_and_then (λ item. item) (option_map (option_map (renamed_member rename)) found)
      ≡ option_map (renamed_member rename) (option_and_then (λ item. item) found)
  flat None = refl
  flat (Some None) = refl
  flat (Some (Some member)) = refl

  pub item_at-renamed : (members : List (Option Member)) (identifier : ℕ)
      → item_at (renamed_members rename members) identifier
      ≡ option_map (renamed_member rename) (item_at members identifier)
  item_at-renamed members zero = refl
  item_at-renamed members (suc place) =
      ap (option_and_then (λ item. item))
      (slice_get-map (option_map (renamed_member rename)) members place)
      ∙ flat (slice_get members place)

  pub runs-renamed : (members : List (Option Member)) (identifier : ℕ) → RunsAt identifier members
      → RunsAt identifier (renamed_members rename members)
  runs-renamed members identifier runs = record {
    member = renamed_member rename runs.member;
    found =
        item_at-renamed members identifier ∙ ap (option_map (renamed_member rename)) runs.found;
    runs = ap (renamed_course rename) runs.runs;
  }

-- ---- once they were moved

address-below : (w : ℕ) → address_in w < 2 ^ 24
address-below w = omega arith

module _ (d : Desk) (now : Heap) (grants : Grants) (forward : Forwarding)
    (moves : IsMovedTo d.heap now forward) (addressed : IsAddressed d.heap) where
  abbrev after : Desk
  after = moved_desk d now grants forward

  -- ---- how far it is

  condition-led : (condition : ℕ) → StandsAs d.heap kinds.Condition condition 1
      → HasReplica forward (literal (Condition condition))
      → StandsAs now kinds.Condition
      (renamed_address (moved_word forward) (Condition condition)) 1
  condition-led condition stands have =
      let form = address-stands d.heap addressed kinds.Condition condition 1 stands in
      subst (λ b. StandsAs now kinds.Condition b 1)
      (sym (address-led d.heap now forward moves (Condition condition) condition form refl have))
      (known-led d.heap now forward moves (Condition condition) condition form refl have refl
      stands)

  condition-same : (condition : ℕ) → StandsAs d.heap kinds.Condition condition 1
      → HasReplica forward (literal (Condition condition))
      → birth_at now (renamed_address (moved_word forward) (Condition condition))
      ≡ birth_at d.heap condition
  condition-same condition stands have =
      birth-led d.heap now forward moves (Condition condition) condition
      (address-stands d.heap addressed kinds.Condition condition 1 stands) refl have

  course-led : (course : Course) → IsCourseHeld d.heap course
      → HaveReplicas forward (roots_of_course course)
      → IsCourseHeld now (renamed_course (moved_word forward) course)
  course-led Running held have = tt
  course-led (Unwinding cause) held have = tt
  course-led Again held have = tt
  course-led (Waiting lock condition) held have = (
    lock-led d.heap now forward moves addressed lock held.0 have.0,
    condition-led condition held.1 have.1.0,
  )
  course-led (Retaking lock) held have =
      lock-led d.heap now forward moves addressed lock held have.0
  course-led Finished held have = tt

  status-led : (course : Course) → IsCourseHeld d.heap course
      → HaveReplicas forward (roots_of_course course)
      → status_of (birth_at now) (renamed_course (moved_word forward) course)
      ≡ status_of (birth_at d.heap) course
  status-led Running held have = refl
  status-led (Unwinding cause) held have = refl
  status-led Again held have = refl
  status-led (Waiting lock condition) held have =
      ap₂ world.waiting (lock-same d.heap now forward moves addressed lock held.0 have.0)
      (condition-same condition held.1 have.1.0)
  status-led (Retaking lock) held have =
      ap world.retaking (lock-same d.heap now forward moves addressed lock held have.0)
  status-led Finished held have = refl

  -- ---- what it holds

  module _ (context : Context) (good : IsGood (lent_to d context))
      (have : HaveReplicas forward (roots_of_context context)) where
    operands-have : HaveReplicas forward context.operands
    operands-have = fore (HasReplica forward) context.operands _ have

    behind : HaveReplicas forward (context.dictionaries
        ++ (flat_map roots_of_frame context.frames
        ++ literal (Dictionary context.error_dictionary) ∷ []))
    behind = rear (HasReplica forward) context.operands _ have

    dictionaries-have : HaveReplicas forward context.dictionaries
    dictionaries-have = fore (HasReplica forward) context.dictionaries _ behind

    last : HaveReplicas forward (flat_map roots_of_frame context.frames
        ++ literal (Dictionary context.error_dictionary) ∷ [])
    last = rear (HasReplica forward) context.dictionaries _ behind

    frames-have : HaveReplicas forward (flat_map roots_of_frame context.frames)
    frames-have = fore (HasReplica forward) (flat_map roots_of_frame context.frames) _ last

    error-has : HasReplica forward (literal (Dictionary context.error_dictionary))
    error-has = (rear (HasReplica forward) (flat_map roots_of_frame context.frames) _ last).0

    error-led : IsErrorDictionary now
        (renamed_address (moved_word forward) (Dictionary context.error_dictionary))
    error-led =
        let content = Dictionary context.error_dictionary in
        let form = good.error_stands.below in
        record {
          stands = subst (λ b. StandsAs now kinds.Dictionary b 4)
              (sym (address-led d.heap now forward moves content context.error_dictionary form refl
              error-has))
              (known-led d.heap now forward moves content context.error_dictionary form refl
              error-has refl good.error_stands.stands);
          below = address-below (moved_word forward (literal content)).0;
        }

    good-led : IsGood (lent_to after (renamed_context (moved_word forward) context))
    good-led = record {
      sound = sound-moved d.heap now forward moves good.sound;
      operands = AreValues-moved d.heap now forward moves context.operands operands-have
          good.operands;
      dictionaries = AreValues-moved d.heap now forward moves context.dictionaries
          dictionaries-have good.dictionaries;
      frames = frames-led d.heap now forward moves addressed (length d.program) context.frames
          good.frames frames-have;
      error_stands = error-led;
      names = good.names;
      first = good.first;
      empty = good.empty;
    }

    shown-led : (store : Store) → IsShown (lent_to d context) store
        → IsShown (lent_to after (renamed_context (moved_word forward) context)) store
    shown-led store shown = record {
      shows = shown_all-moved d.heap now forward moves d.names store shown.shows;
      operands = AreWithin-moved d.heap now forward moves d.names store context.operands
          operands-have shown.operands;
      dictionaries = AreWithin-moved d.heap now forward moves d.names store context.dictionaries
          dictionaries-have shown.dictionaries;
      frames = frames-within d.heap now forward moves addressed (length d.program) d.names store
          context.frames good.frames frames-have shown.frames;
    }

    context-same : (course : Course) (is_detached : Bool) → IsCourseHeld d.heap course
        → HaveReplicas forward (roots_of_course course)
        → context_of now d.names (renamed_member (moved_word forward)
        (record { context = context; course = course; is_detached = is_detached }))
        ≡ context_of d.heap d.names
        (record { context = context; course = course; is_detached = is_detached })
    context-same course is_detached held course-have = λ i. record {
      operands = values_of-moved d.heap now forward moves d.names context.operands
          operands-have i;
      dictionaries = values_of-moved d.heap now forward moves d.names context.dictionaries
          dictionaries-have i;
      frames = frames-same d.heap now forward moves addressed (length d.program) d.names
          context.frames good.frames frames-have i;
      error_dictionary =
          birth-led d.heap now forward moves (Dictionary context.error_dictionary)
          context.error_dictionary good.error_stands.below refl error-has i;
      is_detached = is_detached;
      status = status-led course held course-have i;
    }

  -- ---- all of them

  of_context : (member : Member) → HaveReplicas forward (roots_of_member member)
      → HaveReplicas forward (roots_of_context member.context)
  of_context member have = fore (HasReplica forward) (roots_of_context member.context) _ have

  of_course : (member : Member) → HaveReplicas forward (roots_of_member member)
      → HaveReplicas forward (roots_of_course member.course)
  of_course member have = rear (HasReplica forward) (roots_of_context member.context) _ have

  first-have : (member : Member) (members : List (Option Member))
      → HaveReplicas forward (roots_in (Some member ∷ members))
      → HaveReplicas forward (roots_of_member member)
  first-have member members have = fore (HasReplica forward) (roots_of_member member) _ have

  rest-have : (member : Member) (members : List (Option Member))
      → HaveReplicas forward (roots_in (Some member ∷ members))
      → HaveReplicas forward (roots_in members)
  rest-have member members have = rear (HasReplica forward) (roots_of_member member) _ have

  pub members-led : (members : List (Option Member)) → AllMembers (IsGoodMember d) members
      → HaveReplicas forward (roots_in members)
      → AllMembers (IsGoodMember after) (renamed_members (moved_word forward) members)
  members-led [] good have = tt
  members-led (None ∷ members) good have = (good.0, members-led members good.1 have)
  members-led (Some member ∷ members) good have =
      let here = first-have member members have in (
        record {
          good = good-led member.context good.0.good (of_context member here);
          course = course-led member.course good.0.course (of_course member here);
        },
        members-led members good.1 (rest-have member members have),
      )

  pub members-shown : (store : Store) (members : List (Option Member))
      → AllMembers (IsGoodMember d) members → HaveReplicas forward (roots_in members)
      → AllMembers (λ member. IsShown (lent_to d member.context) store) members
      → AllMembers (λ member. IsShown (lent_to after member.context) store)
      (renamed_members (moved_word forward) members)
  members-shown store [] good have shown = tt
  members-shown store (None ∷ members) good have shown =
      (shown.0, members-shown store members good.1 have shown.1)
  members-shown store (Some member ∷ members) good have shown = (
    shown-led member.context good.0.good (of_context member (first-have member members have))
        store shown.0,
    members-shown store members good.1 (rest-have member members have) shown.1,
  )

  pub contexts-same : (members : List (Option Member)) → AllMembers (IsGoodMember d) members
      → HaveReplicas forward (roots_in members)
      → contexts_in now d.names (renamed_members (moved_word forward) members)
      ≡ contexts_in d.heap d.names members
  unfolding contexts_in
  contexts-same [] good have = refl
  contexts-same (None ∷ members) good have =
      ap (λ rest. None ∷ rest) (contexts-same members good.1 have)
  contexts-same (Some member ∷ members) good have =
      let here = first-have member members have in
      let same = context-same member.context good.0.good (of_context member here) member.course
      member.is_detached good.0.course (of_course member here) in
      λ i. Some (same i) ∷ contexts-same members good.1 (rest-have member members have) i
