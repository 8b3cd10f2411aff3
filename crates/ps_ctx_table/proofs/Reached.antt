-- What is reachable in a world stands in the memory that shows it, and has at most its words.
use Rattle.std.proofs.Common.{◌≡◌, ℕ, ◌-◌, ◌≤◌, List, [], ◌∷◌, ◌++◌, length, drop, Option, Some, None, option_map, refl}
use Rattle.std.proofs.Common.{sym, ap, ◌∙◌, subst}
use Rattle.std.specs.List.{AllByRecursion, Contains}
use Rattle.std.proofs.lemmas.List.Elements.{All-contains, All-from_recursion}
use Rattle.ps_language.specs.declared.kinds.Kind.TheVariants as kinds
use Rattle.ps_language.specs.Contexts.{context_at}
use Rattle.ps_language.specs.Live.{references_of, references_of_source, references_of_frame, references_of_frames}
use Rattle.ps_language.specs.Live.{references_of_status, references_of_context, references_of_contexts, references_at}
use Rattle.ps_language.specs.Live.{roots, IsReachable, is_root, is_named, Live}
use Rattle.ps_language.specs.World.{Context, World}
use Rattle.ps_language.specs.Worlds.{systemdict, userdict, system_value, user_value}
use Rattle.ps_mem.specs.Heap.{birth_at, standing_words}
use Rattle.ps_mem.specs.Meaning.{value_of}
use Rattle.ps_mem.specs.References.{StandsAs}
use Rattle.ps_mem.specs.Shows.{IsValue}
use Rattle.ps_mem.specs.Stands.{IsAddressed, IsStanding}
use Rattle.ps_mem.proofs.Lists.{drop-map, all_append, all_drop}
use Rattle.ps_mem.proofs.ReachedWords.{reached-words}
use Rattle.ps_mem.proofs.StandsLemmas.{birth-stands, value-stands, values-stand, references-stand}
use Rattle.ps_ops_operands.specs.Changes.{values_in}
use Rattle.ps_ops_control.specs.declared.frames.Source.{Source}
use Rattle.ps_ops_control.specs.declared.frames.Source.TheVariants.{Program, Text as TextOf}
use Rattle.ps_ops_control.specs.declared.frames.Frame.{Frame}
use Rattle.ps_ops_control.specs.declared.frames.Frame.TheVariants.{Text, Procedure, Pending, Repeat, Loop, For, Forall}
use Rattle.ps_ops_control.specs.declared.frames.Frame.TheVariants.{Stopped, Monitor, Bind}
use Rattle.ps_ops_control.specs.Frames.{source_of, frame_of, frames_in, IsSourceAt, IsFrame, AreFrames}
use Rattle.ps_ctx_table.specs.declared.members.Course.{Course}
use Rattle.ps_ctx_table.specs.declared.members.Course.TheVariants.{Running, Unwinding, Again, Waiting, Retaking}
use Rattle.ps_ctx_table.specs.declared.members.Course.TheVariants.{Finished}
use Rattle.ps_ctx_table.specs.declared.members.Member.{Member}
use Rattle.ps_ctx_table.specs.Seats.{item_at}
use Rattle.ps_ctx_table.specs.Worlds.{status_of, context_of, contexts_in}
use Rattle.ps_ctx_table.specs.Desks.{Desk, AllMembers, IsWorld, IsCourseHeld, IsGoodMember, IsSteady}
use Rattle.ps_ctx_table.proofs.Holding.{contexts_in-found}
use Rattle.ps_ctx_table.proofs.Turning.{member_at}

module _ (d : Desk) where
  abbrev AllStand : List ℕ → Type 0
  AllStand births = AllByRecursion (IsStanding d.heap) births

  -- ---- what contexts refer to

  array-stands : {a n : ℕ} → StandsAs d.heap kinds.Array a n
      → AllStand (birth_at d.heap a ∷ [])
  array-stands stands = (birth-stands d.heap stands (λ e. cc), tt)

  lock-stands : {lock : ℕ} → StandsAs d.heap kinds.Lock lock 1
      → AllStand (birth_at d.heap lock ∷ [])
  lock-stands stands = (birth-stands d.heap stands (λ e. cc), tt)

  source-stands : (size : ℕ) (source : Source) (at : ℕ) → IsSourceAt d.heap size source at
      → AllStand (references_of_source (source_of (birth_at d.heap) source))
  source-stands size Program at good = tt
  source-stands size (TextOf part) at good =
      (birth-stands d.heap good.0.stands (λ e. cc), tt)

  frame-stands : (size : ℕ) (frame : Frame) → IsFrame d.heap size frame
      → AllStand (references_of_frame (frame_of (birth_at d.heap) d.names frame))
  frame-stands size (Text source at) good = source-stands size source at good
  frame-stands size (Procedure rest) good = array-stands good.0.stands
  frame-stands size (Pending word) good = value-stands d.heap d.names word good
  frame-stands size (Repeat count body) good = array-stands good.stands
  frame-stands size (Loop body) good = array-stands good.stands
  frame-stands size (For control increment limit body) good = array-stands good.0.stands
  frame-stands size (Forall over at body) good = all_append (IsStanding d.heap) _ _
      (value-stands d.heap d.names over good.0) (array-stands good.1.stands)
  frame-stands size Stopped good = tt
  frame-stands size (Monitor lock) good = lock-stands good
  frame-stands size (Bind over at depth) good = array-stands good.0.stands

  frames-stand : (size : ℕ) (frames : List Frame) → AreFrames d.heap size frames
      → AllStand (references_of_frames (frames_in d.heap d.names frames))
  frames-stand size [] good = tt
  frames-stand size (frame ∷ frames) good =
      all_append (IsStanding d.heap)
      (references_of_frame (frame_of (birth_at d.heap) d.names frame)) _
      (frame-stands size frame good.0) (frames-stand size frames good.1)

  course-stands : (course : Course) → IsCourseHeld d.heap course
      → AllStand (references_of_status (status_of (birth_at d.heap) course))
  course-stands Running held = tt
  course-stands (Unwinding cause) held = tt
  course-stands Again held = tt
  course-stands (Waiting lock condition) held = (
    birth-stands d.heap held.0 (λ e. cc),
    (birth-stands d.heap held.1 (λ e. cc), tt),
  )
  course-stands (Retaking lock) held = lock-stands held
  course-stands Finished held = tt

  member-stands : (member : Member) → IsGoodMember d member
      → AllStand (references_of_context (context_of d.heap d.names member))
  member-stands member good =
      let context = member.context in
      let operands = references_of (values_in d.heap d.names context.operands) in
      let dictionaries = references_of (values_in d.heap d.names context.dictionaries) in
      let frames = references_of_frames (frames_in d.heap d.names context.frames) in
      all_append (IsStanding d.heap) (operands ++ dictionaries ++ frames) _
      (all_append (IsStanding d.heap) (operands ++ dictionaries) frames
      (all_append (IsStanding d.heap) operands dictionaries
      (values-stand d.heap d.names context.operands good.good.operands)
      (values-stand d.heap d.names context.dictionaries good.good.dictionaries))
      (frames-stand (length d.program) context.frames good.good.frames)) (
        birth-stands d.heap good.good.error_stands.stands (λ e. cc),
        course-stands member.course good.course,
      )

  members-stand : (members : List (Option Member)) → AllMembers (IsGoodMember d) members
      → AllStand (references_of_contexts (contexts_in d.heap d.names members))
  unfolding contexts_in
  members-stand [] good = tt
  members-stand (None ∷ members) good = members-stand members good.1
  members-stand (Some member ∷ members) good =
      all_append (IsStanding d.heap)
      (references_of_context (context_of d.heap d.names member)) _
      (member-stands member good.0) (members-stand members good.1)

  -- ---- what is reachable

  module _ (w : World) (at : IsWorld d w) (steady : IsSteady d) (identifier : ℕ)
      (context : Context) (found : context_at w identifier ≡ Some context)
      (lowest : drop (length context.dictionaries - 2) context.dictionaries
      ≡ user_value ∷ system_value ∷ []) where
    -- the dictionaries of a context that is good
    lowest-stand : (member : Member) → IsGoodMember d member
        → context_of d.heap d.names member ≡ context → AllStand (userdict ∷ systemdict ∷ [])
    lowest-stand member good same =
        let words = member.context.dictionaries in
        let n = length context.dictionaries - 2 in
        subst (λ values. AllStand (references_of values))
        (sym (drop-map (value_of (birth_at d.heap) d.names) n words)
        ∙ (ap (λ (c : Context). drop n c.dictionaries) same ∙ lowest))
        (values-stand d.heap d.names (drop n words)
        (all_drop (IsValue d.heap) n words good.good.dictionaries))

    member-found : (item : Option Member) → item_at d.members identifier ≡ item
        → option_map (context_of d.heap d.names) item ≡ Some context
        → AllStand (userdict ∷ systemdict ∷ [])
    member-found None there is = cc
    member-found (Some member) there is =
        let same : context_of d.heap d.names member ≡ context = cc in
        lowest-stand member
        (member_at (IsGoodMember d) d.members identifier member steady.members there) same

    first-stand : AllStand (userdict ∷ systemdict ∷ [])
    first-stand = member-found (item_at d.members identifier) refl
        (sym (contexts_in-found d.heap d.names d.members w identifier at.contexts) ∙ found)

    roots-stand : AllStand (roots w)
    unfolding roots
    roots-stand = (
      first-stand.1.0,
      (
        first-stand.0,
        subst (λ contexts. AllStand (references_of_contexts contexts)) (sym at.contexts)
            (members-stand d.members steady.members),
      ),
    )

    among : (births : List ℕ) (birth : ℕ) → AllStand births → Contains births birth
        → IsStanding d.heap birth
    among births birth all contains =
        All-contains (IsStanding d.heap) births birth
        (All-from_recursion (IsStanding d.heap) births all) contains

    -- it stands
    pub reachable-stands : (birth : ℕ) → IsReachable w birth → IsStanding d.heap birth
    reachable-stands birth (is_root contains) = among (roots w) birth roots-stand contains
    reachable-stands birth (is_named {from = from} reachable contains) =
        among (references_at w.store from) birth
        (references-stand d.heap d.names steady.sound w.store at.shows from
        (reachable-stands from reachable)) contains

    -- what lives needs no more words than stand
    pub live-stands : IsAddressed d.heap → (words : ℕ) → Live w words
        → words ≤ standing_words d.heap
    live-stands addressed words live =
        subst (λ n. n ≤ standing_words d.heap) (sym live.total)
        (reached-words d.heap d.names addressed w.store at.shows live.reached
        (λ birth reached. reachable-stands birth ((live.exact birth).0 reached)))
