-- What the roots of contexts reach in their memory lives in the world that is shown.
use Rattle.std.proofs.Common.{◌≡◌, ◌≢◌, ℕ, true, false, List, [], ◌∷◌, ◌++◌, length, Option, Some, None, slice_get}
use Rattle.std.proofs.Common.{refl, sym, ap, ◌∙◌, subst, is_some, inl, inr}
use Rattle.std.specs.Prelude.{flat_map}
use Rattle.std.specs.List.{AllByRecursion, Contains}
use Rattle.std.proofs.lemmas.List.Elements.{All-contains, All-from_recursion, recursion_from_All, All-contains_itself}
use Rattle.std.proofs.lemmas.List.Elements.{All-weaker}
use Rattle.ps_language.specs.declared.kinds.Kind.{Kind}
use Rattle.ps_language.specs.declared.kinds.Kind.TheVariants as kinds
use Rattle.ps_language.specs.Live.{references_in, references_of, references_of_source, references_of_frame}
use Rattle.ps_language.specs.Live.{references_of_frames, references_of_status, references_of_context}
use Rattle.ps_language.specs.Live.{references_of_contexts, references_of_object, references_of_option, references_at}
use Rattle.ps_language.specs.Live.{roots, IsReachable, is_root, is_named}
use Rattle.ps_language.specs.Value.{Dictionary as DictionaryValue, Object, dictionary_object}
use Rattle.ps_language.specs.World.{World}
use Rattle.ps_word.specs.declared.words.Word.{Word}
use Rattle.ps_word.specs.declared.values.Content.{Content}
use Rattle.ps_word.specs.declared.values.Content.TheVariants.{Array, Text, Dictionary, Lock, Condition}
use Rattle.ps_word.specs.declared.values.Part.{Part}
use Rattle.ps_word.specs.declared.values.Value.{Value}
use Rattle.ps_word.specs.Format.{IsContent, address_in, content_in, is_body}
use Rattle.ps_word.specs.Readers.{address_of, is_reference}
use Rattle.ps_word.proofs.Places.{address_of-at}
use Rattle.ps_mem.specs.Heap.{Standing, birth_of, object_at, birth_at}
use Rattle.ps_mem.specs.Meaning.{what_of, value_of}
use Rattle.ps_mem.specs.References.{StandsAs, IsKnownContent}
use Rattle.ps_mem.specs.Shows.{AreFields, ShowsDictionary, IsOwner, IsValue, IsShown, shown_array, shown_text}
use Rattle.ps_mem.specs.Shows.{shown_dictionary, shown_lock, shown_condition}
use Rattle.ps_mem.specs.Stands.{IsAddressed}
use Rattle.ps_mem.proofs.ShowsLemmas.{array_values, body_values}
use Rattle.ps_ops_operands.specs.Changes.{values_in}
use Rattle.ps_ops_control.specs.declared.frames.Source.{Source}
use Rattle.ps_ops_control.specs.declared.frames.Source.TheVariants.{Program, Text as TextOf}
use Rattle.ps_ops_control.specs.declared.frames.Frame.{Frame}
use Rattle.ps_ops_control.specs.declared.frames.Frame.TheVariants as frames
use Rattle.ps_ops_control.specs.Frames.{source_of, frame_of, frames_in, IsHeld, IsSourceAt, IsFrame, AreFrames}
use Rattle.ps_ctx_table.specs.declared.members.Course.{Course}
use Rattle.ps_ctx_table.specs.declared.members.Course.TheVariants.{Running, Unwinding, Again, Waiting, Retaking}
use Rattle.ps_ctx_table.specs.declared.members.Course.TheVariants.{Finished}
use Rattle.ps_ctx_table.specs.declared.members.Member.{Member}
use Rattle.ps_ctx_table.specs.Worlds.{status_of, context_of, contexts_in}
use Rattle.ps_ctx_table.specs.Desks.{Desk, AllMembers, IsWorld, IsCourseHeld, IsGoodMember, IsSteady}
use Rattle.ps_gc_roots.specs.Roots.{literal, roots_of_source, roots_of_frame, roots_of_course, roots_of_context}
use Rattle.ps_gc_roots.specs.Roots.{roots_of_member, roots_in}
use Rattle.ps_gc_roots.proofs.Literals.{content-literal, value-literal, address-stands}
use Rattle.ps_gc_roots.proofs.Framing.{both, fore, rear, array-form, text-form}
use Rattle.ps_core_laws.specs.Reached.{IsReached, by_root, by_field}
use Rattle.ps_gc_roots.proofs.Named.{Names, AllName, natural-names, NamesWhole, kind_cases, value-names, values-name}
use Rattle.ps_gc_roots.proofs.Named.{body-names}

module _ (d : Desk) (addressed : IsAddressed d.heap) (Q : ℕ → Type 0) where
  abbrev Whole : ℕ → Type 0
  Whole = NamesWhole d.heap d.names Q

  abbrev AllQ : List ℕ → Type 0
  AllQ births = AllByRecursion Q births

  -- ---- the roots of contexts

  literal-names : (c : Content) → IsContent c → is_body c ≡ false → IsKnownContent d.heap c
      → AllQ (references_in (what_of (birth_at d.heap) d.names c)) → AllName Whole (literal c ∷ [])
  unfolding value_of
  literal-names c form visible known all = (
    value-names d.heap d.names Q (literal c) (value-literal d.heap c form visible known)
        (subst (λ x. AllQ (references_in (what_of (birth_at d.heap) d.names x)))
        (sym (content-literal c form)) all),
    tt,
  )

  array-names : (part : Part) → IsHeld d.heap part → AllQ (birth_at d.heap part.address ∷ [])
      → AllName Whole (literal (Array part) ∷ [])
  array-names part held all = literal-names (Array part) (array-form d.heap addressed part held)
      refl held.stands all

  lock-names : (lock : ℕ) → StandsAs d.heap kinds.Lock lock 1 → AllQ (birth_at d.heap lock ∷ [])
      → AllName Whole (literal (Lock lock) ∷ [])
  lock-names lock stands all = literal-names (Lock lock)
      (address-stands d.heap addressed kinds.Lock lock 1 stands) refl stands all

  source-names : (size : ℕ) (source : Source) (at : ℕ) → IsSourceAt d.heap size source at
      → AllQ (references_of_source (source_of (birth_at d.heap) source))
      → AllName Whole (roots_of_source source)
  source-names size Program at good all = tt
  source-names size (TextOf part) at good all = literal-names (Text part)
      (text-form d.heap addressed part good.0) refl good.0.stands all

  word-names : (w : Word) → IsValue d.heap w
      → AllQ (references_in (value_of (birth_at d.heap) d.names w).what)
      → AllName Whole (w ∷ [])
  word-names w value all = (value-names d.heap d.names Q w value all, tt)

  frame-names : (size : ℕ) (frame : Frame) → IsFrame d.heap size frame
      → AllQ (references_of_frame (frame_of (birth_at d.heap) d.names frame))
      → AllName Whole (roots_of_frame frame)
  frame-names size (frames.Text source at) good all = source-names size source at good all
  frame-names size (frames.Procedure rest) good all = array-names rest good.0 all
  frame-names size (frames.Pending word) good all = word-names word good all
  frame-names size (frames.Repeat count body) good all = array-names body good all
  frame-names size (frames.Loop body) good all = array-names body good all
  frame-names size (frames.For control increment limit body) good all =
      array-names body good.0 all
  frame-names size (frames.Forall over at body) good all =
      let first = references_in (value_of (birth_at d.heap) d.names over).what in
      let second = birth_at d.heap body.address ∷ [] in (
        (word-names over good.0 (fore Q first second all)).0,
        array-names body good.1 (rear Q first second all),
      )
  frame-names size frames.Stopped good all = tt
  frame-names size (frames.Monitor lock) good all = lock-names lock good all
  frame-names size (frames.Bind over at depth) good all = array-names over good.0 all

  frames-name : (size : ℕ) (list : List Frame) → AreFrames d.heap size list
      → AllQ (references_of_frames (frames_in d.heap d.names list))
      → AllName Whole (flat_map roots_of_frame list)
  frames-name size [] good all = tt
  frames-name size (frame ∷ list) good all =
      let first = references_of_frame (frame_of (birth_at d.heap) d.names frame) in
      let others = references_of_frames (frames_in d.heap d.names list) in
      both (Names Whole) (roots_of_frame frame) (flat_map roots_of_frame list)
      (frame-names size frame good.0 (fore Q first others all))
      (frames-name size list good.1 (rear Q first others all))

  course-names : (course : Course) → IsCourseHeld d.heap course
      → AllQ (references_of_status (status_of (birth_at d.heap) course))
      → AllName Whole (roots_of_course course)
  course-names Running held all = tt
  course-names (Unwinding cause) held all = tt
  course-names Again held all = tt
  course-names (Waiting lock condition) held all = (
    (lock-names lock held.0 (all.0, tt)).0,
    literal-names (Condition condition)
        (address-stands d.heap addressed kinds.Condition condition 1 held.1) refl held.1 all.1,
  )
  course-names (Retaking lock) held all = lock-names lock held all
  course-names Finished held all = tt

  member-names : (member : Member) → IsGoodMember d member
      → AllQ (references_of_context (context_of d.heap d.names member))
      → AllName Whole (roots_of_member member)
  member-names member good all =
      let context = member.context in
      let operands = references_of (values_in d.heap d.names context.operands) in
      let dictionaries = references_of (values_in d.heap d.names context.dictionaries) in
      let list = references_of_frames (frames_in d.heap d.names context.frames) in
      let status = references_of_status (status_of (birth_at d.heap) member.course) in
      let behind = birth_at d.heap context.error_dictionary ∷ status in
      let stacks = fore Q (operands ++ dictionaries ++ list) behind all in
      let end = rear Q (operands ++ dictionaries ++ list) behind all in
      let two = fore Q (operands ++ dictionaries) list stacks in
      both (Names Whole) (roots_of_context context) (roots_of_course member.course)
      (both (Names Whole) context.operands _
      (values-name d.heap d.names Q context.operands good.good.operands
      (fore Q operands dictionaries two))
      (both (Names Whole) context.dictionaries _
      (values-name d.heap d.names Q context.dictionaries good.good.dictionaries
      (rear Q operands dictionaries two))
      (both (Names Whole) (flat_map roots_of_frame context.frames) _
      (frames-name (length d.program) context.frames good.good.frames
      (rear Q (operands ++ dictionaries) list stacks))
      (literal-names (Dictionary context.error_dictionary) good.good.error_stands.below refl
      good.good.error_stands.stands (end.0, tt)))))
      (course-names member.course good.course end.1)

  pub members-name : (members : List (Option Member)) → AllMembers (IsGoodMember d) members
      → AllQ (references_of_contexts (contexts_in d.heap d.names members))
      → AllName Whole (roots_in members)
  unfolding contexts_in
  members-name [] good all = tt
  members-name (None ∷ members) good all = members-name members good.1 all
  members-name (Some member ∷ members) good all =
      let first = references_of_context (context_of d.heap d.names member) in
      let others = references_of_contexts (contexts_in d.heap d.names members) in
      both (Names Whole) (roots_of_member member) (roots_in members)
      (member-names member good.0 (fore Q first others all))
      (members-name members good.1 (rear Q first others all))

-- ---- what the roots reach

module _ (d : Desk) (w : World) (at : IsWorld d w) (steady : IsSteady d)
    (addressed : IsAddressed d.heap) where
  -- the body of a dictionary that stands
  pub record IsOwned (a birth : ℕ) : Type 0 where
    pub owner : ℕ
    pub fields : List Word
    pub dictionary : DictionaryValue
    pub stands : object_at d.heap owner ≡ Some
        (record { kind = kinds.Dictionary; birth = birth; fields = fields })
    pub there : slice_get w.store birth ≡ Some (dictionary_object dictionary)
    pub shows : ShowsDictionary d.heap d.names birth fields dictionary
    pub body : shows.shape.body ≡ a

  -- what stands there is reachable, and where it is a body it is owned
  pub record IsAlive (a : ℕ) : Type 0 where
    pub born : (o : Standing) → object_at d.heap a ≡ Some o → IsReachable w o.birth
    pub owned : (o : Standing) → object_at d.heap a ≡ Some o → o.kind ≡ kinds.Body
        → IsOwned a o.birth

  abbrev Living : ℕ → Type 0
  Living = NamesWhole d.heap d.names (IsReachable w)

  whole-alive : (a : ℕ) → Living a → IsAlive a
  unfolding birth_at
  whole-alive a living = record {
    born = λ o there. subst (IsReachable w) (ap birth_of there) living.born;
    owned = λ o there body. absurd (living.whole o there body);
  }

  all-alive : (words : List Word) → AllName Living words → AllName IsAlive words
  all-alive [] all = tt
  all-alive (x ∷ words) all = (
    (λ reference. whole-alive (address_in x.0) (all.0 reference)),
    all-alive words all.1,
  )

  -- what a reachable object refers to is reachable
  all-reachable : (birth : ℕ) → IsReachable w birth
      → AllByRecursion (IsReachable w) (references_at w.store birth)
  all-reachable birth reach = recursion_from_All (IsReachable w) (references_at w.store birth)
      (All-weaker (Contains (references_at w.store birth)) (IsReachable w)
      (λ other contains. is_named reach contains) (references_at w.store birth)
      (All-contains_itself (references_at w.store birth)))

  object-reachable : (birth : ℕ) (object : Object) → slice_get w.store birth ≡ Some object
      → IsReachable w birth → AllByRecursion (IsReachable w) (references_of_object object)
  object-reachable birth object there reach =
      subst (λ found. AllByRecursion (IsReachable w) (references_of_option found)) there
      (all-reachable birth reach)

  body-alive : (birth : ℕ) (fields : List Word) (dictionary : DictionaryValue) (a : ℕ)
      → object_at d.heap a ≡ Some
      (record { kind = kinds.Dictionary; birth = birth; fields = fields })
      → slice_get w.store birth ≡ Some (dictionary_object dictionary)
      → (s : ShowsDictionary d.heap d.names birth fields dictionary) → IsReachable w birth
      → IsAlive s.shape.body
  body-alive birth fields dictionary a stands there s reach =
      let same : (o : Standing) → object_at d.heap s.shape.body ≡ Some o
      → birth ≡ o.birth = λ o found.
      let one : Some (record { kind = kinds.Body; birth = birth; fields = s.shape.body_fields })
      ≡ Some o = sym s.shape.stands ∙ found in
      let equal : record { kind = kinds.Body; birth = birth; fields = s.shape.body_fields } ≡ o =
      cc in
      ap (λ (x : Standing). x.birth) equal in
      record {
        born = λ o found. subst (IsReachable w) (same o found) reach;
        owned = λ o found body. subst (IsOwned s.shape.body) (same o found) (record {
          owner = a;
          fields = fields;
          dictionary = dictionary;
          stands = stands;
          there = there;
          shows = s;
          body = refl;
        });
      }

  -- the words of a dictionary name its body alone
  dictionary-names : (birth : ℕ) (fields : List Word) (dictionary : DictionaryValue) (a : ℕ)
      → object_at d.heap a ≡ Some
      (record { kind = kinds.Dictionary; birth = birth; fields = fields })
      → slice_get w.store birth ≡ Some (dictionary_object dictionary)
      → ShowsDictionary d.heap d.names birth fields dictionary → IsReachable w birth
      → AllName IsAlive fields
  dictionary-names birth fields dictionary a stands there s reach =
      let shape = s.shape in
      subst (AllName IsAlive) (sym shape.are) (
        natural-names IsAlive shape.count_word shape.count shape.count_is,
        (
          natural-names IsAlive shape.capacity_word shape.capacity shape.capacity_is,
          (
            natural-names IsAlive shape.access_word shape.access shape.access_is,
            (
              (λ reference.
                  let holds : address_of (content_in shape.body_word.0) ≡ Some shape.body =
                  ap (λ (v : Value). address_of v.content) shape.body_is in
                  let one : Some (address_in shape.body_word.0) ≡ Some shape.body =
                  address_of-at shape.body_word.0 (ap is_some holds) ∙ holds in
                  let same : address_in shape.body_word.0 ≡ shape.body = cc in
                  subst IsAlive (sym same) (body-alive birth fields dictionary a stands there s reach)),
              tt,
            ),
          ),
        ),
      )

  owner-names : (owner : Option ℕ) (x : Word) → IsOwner x owner → Names IsAlive x
  owner-names None x is = natural-names IsAlive x 0 is
  owner-names (Some identifier) x is = natural-names IsAlive x identifier is.1

  -- what the words of an object name is alive where the object is
  module _ (a : ℕ) (alive : IsAlive a) where
    fields-named : {kind : Kind} {birth : ℕ} {fields : List Word} {object : Object}
        → object_at d.heap a ≡ Some (record { kind = kind; birth = birth; fields = fields })
        → kind ≢ kinds.Text → slice_get w.store birth ≡ Some object
        → AreFields d.heap kind birth fields → IsShown d.heap d.names kind birth fields object
        → IsReachable w birth → AllName IsAlive fields
    fields-named stands text there are (shown_array {birth = birth} {fields = fields} e) reach =
        all-alive fields (values-name d.heap d.names (IsReachable w) fields
        (array_values d.heap birth fields are)
        (subst (λ values. AllByRecursion (IsReachable w) (references_of values)) e
        (object-reachable birth _ there reach)))
    fields-named stands text there are (shown_text bytes words) reach =
        absurd (text refl)
    fields-named stands text there are (shown_dictionary {birth = birth} {fields = fields} {d = dictionary} s) reach =
        dictionary-names birth fields dictionary a stands there s reach
    fields-named stands text there are (shown_lock {word = word} {owner = owner} o) reach =
        (owner-names owner word o, tt)
    fields-named stands text there are shown_condition reach =
        ((λ reference. let clash : true ≡ false = sym reference in absurd (cc)), tt)

  -- ---- all that is reached

  owned-named : (a : ℕ) (o : Standing) → object_at d.heap a ≡ Some o → IsOwned a o.birth
      → IsReachable w o.birth → AllName IsAlive o.fields
  owned-named a o stands owned reach =
      let s = owned.shows in
      let one : Some (record { kind = kinds.Body; birth = o.birth; fields = s.shape.body_fields })
      ≡ Some o = sym s.shape.stands ∙ (ap (object_at d.heap) owned.body ∙ stands) in
      let equal : record { kind = kinds.Body; birth = o.birth; fields = s.shape.body_fields } ≡ o =
      cc in
      subst (AllName IsAlive) (ap (λ (x : Standing). x.fields) equal)
      (all-alive s.shape.body_fields
      (body-names d.heap d.names (IsReachable w) o.birth owned.fields owned.dictionary s
      (body_values d.heap o.birth s.shape.body_fields
      (steady.sound.fields s.shape.body _ s.shape.stands))
      (object-reachable o.birth (dictionary_object owned.dictionary) owned.there reach)))

  object-named : (a : ℕ) (o : Standing) → object_at d.heap a ≡ Some o → IsAlive a
      → o.kind ≢ kinds.Text → AllName IsAlive o.fields
  object-named a o stands alive text = elim (kind_cases o.kind) [
    | inl body ↦ owned-named a o stands (alive.owned o stands body) (alive.born o stands)
    | inr whole ↦
        let shown = at.shows.objects a o stands whole in
        fields-named a alive {kind = o.kind} {birth = o.birth} {fields = o.fields}
        {object = shown.object} stands text shown.there
        (steady.sound.fields a o stands) shown.shown (alive.born o stands)
  ]

  contexts-reachable : AllByRecursion (IsReachable w)
      (references_of_contexts (contexts_in d.heap d.names d.members))
  unfolding roots
  contexts-reachable =
      let all = recursion_from_All (IsReachable w) (roots w)
      (All-weaker (Contains (roots w)) (IsReachable w) (λ birth contains. is_root contains)
      (roots w) (All-contains_itself (roots w))) in
      subst (λ contexts. AllByRecursion (IsReachable w) (references_of_contexts contexts))
      at.contexts all.1.1

  roots-named : AllName IsAlive (roots_in d.members)
  roots-named = all-alive (roots_in d.members)
      (members-name d addressed (IsReachable w) d.members steady.members contexts-reachable)

  named-alive : (words : List Word) → AllName IsAlive words → (x : Word) → Contains words x
      → is_reference x.0 ≡ true → IsAlive (address_in x.0)
  named-alive words all x contains reference =
      All-contains (Names IsAlive) words x (All-from_recursion (Names IsAlive) words all) contains
      reference

  pub reached-alive : (a : ℕ) → IsReached d.heap (roots_in d.members) a → IsAlive a
  reached-alive a (by_root x contains reference) =
      named-alive (roots_in d.members) roots-named x contains reference
  reached-alive a (by_field from o x reach stands text contains reference) =
      named-alive o.fields (object-named from o stands (reached-alive from reach) text) x contains
      reference
