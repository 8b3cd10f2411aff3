-- The roots of contexts that are written back name what the renamed roots name.
use Rattle.std.proofs.Common.{◌≡◌, ℕ, zero, suc, ◌<◌, ◌^◌, true, List, [], ◌∷◌, ◌++◌, map, Option, Some, None, is_some}
use Rattle.std.proofs.Common.{refl, ap, ◌∙◌, subst, arith}
use Rattle.std.specs.Prelude.{flat_map}
use Rattle.std.specs.List.{AllByRecursion, Contains}
use Rattle.ps_word.specs.declared.words.Word.{Word}
use Rattle.ps_word.specs.declared.values.Part.{Part}
use Rattle.ps_word.specs.declared.values.Content.{Content}
use Rattle.ps_word.specs.declared.values.Content.TheVariants.{Array, Text, Dictionary, Lock, Condition}
use Rattle.ps_word.specs.Format.{IsPart, IsContent, address_in, content_in}
use Rattle.ps_word.specs.Readers.{address_of, is_reference}
use Rattle.ps_word.proofs.Places.{is_reference-at, address_of-at}
use Rattle.ps_mem.specs.Heap.{Heap}
use Rattle.ps_ops_control.specs.declared.frames.Source.{Source}
use Rattle.ps_ops_control.specs.declared.frames.Source.TheVariants.{Program, Text as TextOf}
use Rattle.ps_ops_control.specs.declared.frames.Frame.{Frame}
use Rattle.ps_ops_control.specs.declared.frames.Frame.TheVariants as frames
use Rattle.ps_ops_state.specs.declared.lent.Context.{Context}
use Rattle.ps_ctx_table.specs.declared.members.Course.{Course}
use Rattle.ps_ctx_table.specs.declared.members.Course.TheVariants.{Running, Unwinding, Again, Waiting, Retaking}
use Rattle.ps_ctx_table.specs.declared.members.Course.TheVariants.{Finished}
use Rattle.ps_ctx_table.specs.declared.members.Member.{Member}
use Rattle.ps_ctx_table.specs.Desks.{AllMembers}
use Rattle.ps_gc_roots.specs.Formats.{IsSourceInFormat, IsFrameInFormat, IsMemberInFormat}
use Rattle.ps_gc_roots.specs.Roots.{literal, roots_of_source, roots_of_frame, roots_of_course, roots_of_context}
use Rattle.ps_gc_roots.specs.Roots.{roots_of_member, roots_in}
use Rattle.ps_gc_roots.specs.Renamed.{Renaming, renamed_address, renamed_array, renamed_text, renamed_source}
use Rattle.ps_gc_roots.specs.Renamed.{renamed_frame, renamed_course, renamed_context, renamed_member, renamed_members}
use Rattle.ps_gc_roots.proofs.Literals.{content-literal}
use Rattle.ps_core_laws.specs.Reached.{IsReached, by_root, by_field, AreReached}

-- the second names what the first names, if that names anything
abbrev Alike : (x y : Word) → Type 0
Alike x y = is_reference x.0 ≡ true
    → (is_reference y.0 ≡ true) × (address_in y.0 ≡ address_in x.0)

module _ (rename : Renaming) where
  -- one by one, the first renamed
  abbrev AllAlike : (xs ys : List Word) → Type 0
  AllAlike [] [] = Unit {0}
  AllAlike [] (y ∷ ys) = ⊥
  AllAlike (x ∷ xs) [] = ⊥
  AllAlike (x ∷ xs) (y ∷ ys) = Alike (rename x) y × AllAlike xs ys

  two : (xs ys us vs : List Word) → AllAlike xs ys → AllAlike us vs → AllAlike (xs ++ us) (ys ++ vs)
  two [] [] us vs p q = q
  two [] (y ∷ ys) us vs p q = absurd p
  two (x ∷ xs) [] us vs p q = absurd p
  two (x ∷ xs) (y ∷ ys) us vs p q = (p.0, two xs ys us vs p.1 q)

  itself : (x : Word) → Alike (rename x) (rename x)
  itself x is = (is, refl)

  words-alike : (xs : List Word) → AllAlike xs (map rename xs)
  words-alike [] = tt
  words-alike (x ∷ xs) = (itself x, words-alike xs)

  low : (w : ℕ) → address_in w < 2 ^ 24
  low w = omega arith

  -- the literal word of a content with the renamed address
  literal-alike : (x : Word) (c : Content) → IsContent c → address_of c ≡ Some (address_in x.0)
      → Alike x (literal c)
  literal-alike x c form at is =
      let holds = content-literal c form in
      let some : is_some (address_of (content_in (literal c).0)) ≡ true =
      ap (λ y. is_some (address_of y)) holds ∙ ap is_some at in
      let one : Some (address_in (literal c).0) ≡ Some (address_in x.0) =
      address_of-at (literal c).0 some ∙ (ap address_of holds ∙ at) in
      (is_reference-at (literal c).0 ∙ some, cc)

  array-alike : (part : Part) → IsPart part
      → AllAlike (literal (Array part) ∷ []) (literal (Array (renamed_array rename part)) ∷ [])
  array-alike part form = (
    literal-alike (rename (literal (Array part))) (Array (renamed_array rename part)) (record {
      address = low (rename (literal (Array part))).0;
      within = form.within;
    }) refl,
    tt,
  )

  lock-alike : (lock : ℕ)
      → AllAlike (literal (Lock lock) ∷ []) (literal (Lock (renamed_address rename (Lock lock))) ∷ [])
  lock-alike lock = (
    literal-alike (rename (literal (Lock lock))) (Lock (renamed_address rename (Lock lock)))
        (low (rename (literal (Lock lock))).0) refl,
    tt,
  )

  source-alike : (source : Source) → IsSourceInFormat source
      → AllAlike (roots_of_source source) (roots_of_source (renamed_source rename source))
  source-alike Program form = tt
  source-alike (TextOf part) form = (
    literal-alike (rename (literal (Text part))) (Text (renamed_text rename part)) (record {
      address = low (rename (literal (Text part))).0;
      within = form.within;
    }) refl,
    tt,
  )

  frame-alike : (frame : Frame) → IsFrameInFormat frame
      → AllAlike (roots_of_frame frame) (roots_of_frame (renamed_frame rename frame))
  frame-alike (frames.Text source at) form = source-alike source form
  frame-alike (frames.Procedure rest) form = array-alike rest form
  frame-alike (frames.Pending word) form = (itself word, tt)
  frame-alike (frames.Repeat count body) form = array-alike body form
  frame-alike (frames.Loop body) form = array-alike body form
  frame-alike (frames.For control increment limit body) form = array-alike body form
  frame-alike (frames.Forall over at body) form = (itself over, array-alike body form)
  frame-alike frames.Stopped form = tt
  frame-alike (frames.Monitor lock) form = lock-alike lock
  frame-alike (frames.Bind over at depth) form = array-alike over form

  frames-alike : (list : List Frame) → AllByRecursion IsFrameInFormat list
      → AllAlike (flat_map roots_of_frame list)
      (flat_map roots_of_frame (map (renamed_frame rename) list))
  frames-alike [] form = tt
  frames-alike (frame ∷ list) form =
      two (roots_of_frame frame) (roots_of_frame (renamed_frame rename frame))
      (flat_map roots_of_frame list) (flat_map roots_of_frame (map (renamed_frame rename) list))
      (frame-alike frame form.0) (frames-alike list form.1)

  course-alike : (course : Course)
      → AllAlike (roots_of_course course) (roots_of_course (renamed_course rename course))
  course-alike Running = tt
  course-alike (Unwinding cause) = tt
  course-alike Again = tt
  course-alike (Waiting lock condition) = (
    (lock-alike lock).0,
    (
      literal-alike (rename (literal (Condition condition)))
          (Condition (renamed_address rename (Condition condition)))
          (low (rename (literal (Condition condition))).0) refl,
      tt,
    ),
  )
  course-alike (Retaking lock) = lock-alike lock
  course-alike Finished = tt

  context-alike : (context : Context) → AllByRecursion IsFrameInFormat context.frames
      → AllAlike (roots_of_context context) (roots_of_context (renamed_context rename context))
  context-alike context form =
      two context.operands (map rename context.operands) _ _ (words-alike context.operands)
      (two context.dictionaries (map rename context.dictionaries) _ _
      (words-alike context.dictionaries)
      (two (flat_map roots_of_frame context.frames)
      (flat_map roots_of_frame (map (renamed_frame rename) context.frames)) _ _
      (frames-alike context.frames form) (
        literal-alike (rename (literal (Dictionary context.error_dictionary)))
            (Dictionary (renamed_address rename (Dictionary context.error_dictionary)))
            (low (rename (literal (Dictionary context.error_dictionary))).0) refl,
        tt,
      )))

  members-alike : (members : List (Option Member)) → AllMembers IsMemberInFormat members
      → AllAlike (roots_in members) (roots_in (renamed_members rename members))
  members-alike [] form = tt
  members-alike (None ∷ members) form = members-alike members form.1
  members-alike (Some member ∷ members) form =
      two (roots_of_member member) (roots_of_member (renamed_member rename member))
      (roots_in members) (roots_in (renamed_members rename members))
      (two (roots_of_context member.context)
      (roots_of_context (renamed_context rename member.context)) (roots_of_course member.course)
      (roots_of_course (renamed_course rename member.course))
      (context-alike member.context form.0.frames) (course-alike member.course))
      (members-alike members form.1)

  -- ---- what is reached

  record Match (ys : List Word) (x : Word) : Type 0 where
    word : Word
    there : Contains ys word
    alike : Alike x word

  match : (xs ys : List Word) → AllAlike xs ys → (x : Word) → Contains (map rename xs) x
      → Match ys x
  match [] ys all x c = absurd (let within = c.1 in omega (arith, within))
  match (w ∷ ws) [] all x c = absurd all
  match (w ∷ ws) (y ∷ ys) all x (zero, within, is) = record {
    word = y;
    there = (0, omega arith, refl);
    alike = subst (λ z. Alike z y) is all.0;
  }
  match (w ∷ ws) (y ∷ ys) all x (suc k, within, is) =
      let m = match ws ys all.1 x (k, omega (arith, within), is) in
      let inside = m.there.1 in
      record {
        word = m.word;
        there = (suc m.there.0, omega (arith, inside), m.there.2);
        alike = m.alike;
      }

  reached-back : (h : Heap) (xs ys : List Word) → AllAlike xs ys → (a : ℕ)
      → IsReached h (map rename xs) a → IsReached h ys a
  reached-back h xs ys all a (by_root x contains is) =
      let m = match xs ys all x contains in
      let same = m.alike is in
      subst (IsReached h ys) same.1 (by_root m.word m.there same.0)
  reached-back h xs ys all a (by_field from o w reach stands kind contains is) =
      by_field from o w (reached-back h xs ys all from reach) stands kind contains is

  pub are-back : (now : Heap) (members : List (Option Member))
      → AllMembers IsMemberInFormat members → AreReached now (map rename (roots_in members))
      → AreReached now (roots_in (renamed_members rename members))
  are-back now members form all a stands =
      reached-back now (roots_in members) (roots_in (renamed_members rename members))
      (members-alike members form) a (all a stands)
