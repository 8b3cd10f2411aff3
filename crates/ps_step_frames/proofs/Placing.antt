-- What a turn of forall pushes, by the object that it goes over.
use Rattle.std.proofs.Common.{◌≡◌, ℕ, ◌+◌, ◌<◌, ◌≤◌, ◌^◌, arith, true, false, List, length, Some, None, refl, sym, ap, subst, ◌∙◌}
use Rattle.std.specs.Prelude.{nat_lt, pos, slice_get}
use Rattle.std.proofs.lemmas.Bool.Decides.{nat_tests}
use Rattle.std.proofs.lemmas.Option.{slice_get_past}
use Rattle.ps_language.specs.declared.kinds.Kind.TheVariants.{Dictionary as DictionaryKind, Text as TextKind}
use Rattle.ps_language.specs.Value.{Store}
use Rattle.ps_language.specs.Access.{elements, bytes, dictionary_at}
use Rattle.ps_language.specs.Readers.{integer}
use Rattle.ps_language.specs.StepFrames.{forall_operands}
use Rattle.ps_word.specs.declared.values.Content.{Content}
use Rattle.ps_word.specs.declared.values.Content.TheVariants.{Null, Integer, Boolean, Mark, Name, Operator, Array, Text, Dictionary, Lock, Condition, Body}
use Rattle.ps_word.specs.declared.values.Part.{Part}
use Rattle.ps_word.specs.declared.words.Word.{Word}
use Rattle.ps_word.specs.Format.{content_in}
use Rattle.ps_mem.specs.Heap.{Heap, birth_at}
use Rattle.ps_mem.specs.Meaning.{value_of, what_of}
use Rattle.ps_mem.specs.References.{StandsAs, words_for, IsKnown, IsKnownContent}
use Rattle.ps_mem.specs.Shows.{IsValue, IsSound, IsWithin, IsWithinContent, Shows, pair_of}
use Rattle.ps_ops_operands.specs.Plain.{IsPlain}
use Rattle.ps_ops_operands.proofs.Ready.{plain_value, plain_within}
use Rattle.ps_ops_control.specs.declared.turns.TurnOperands.TheVariants.{One, Pair}
use Rattle.ps_ops_control.specs.Turns.{IsPushed}
use Rattle.ps_dict.proofs.Shapes.{small-count, count-shown}

what_is : (births : ℕ → ℕ) (names : List (List ℕ)) (word : Word) (content : Content)
    → content_in word.0 ≡ content → (value_of births names word).what ≡ what_of births names content
unfolding value_of
what_is births names word content is = ap (what_of births names) is

pub known_dictionary : (h : Heap) (word : Word) (address : ℕ) → IsValue h word
    → content_in word.0 ≡ Dictionary address → StandsAs h DictionaryKind address 4
unfolding IsKnown
known_dictionary h word address held is = subst (IsKnownContent h) is held.known

pub known_text : (h : Heap) (word : Word) (part : Part) → IsValue h word
    → content_in word.0 ≡ Text part
    → StandsAs h TextKind part.address (words_for (part.offset + part.length))
unfolding IsKnown
known_text h word part held is = subst (IsKnownContent h) is held.known

module _ (h : Heap) (over : Word) (at : ℕ) where
  -- ---- arrays

  module _ (part : Part) (array : content_in over.0 ≡ Array part) where
    pub past_elements : part.length ≤ at → IsPushed h over at None
    past_elements past = record {
      values = λ names s shows inside.
          let less : nat_lt at part.length ≡ false = grind (arith, nat_tests, past) in
          rw (what_is (birth_at h) names over (Array part) array, less) refl;
      held = tt;
      within = λ names s shows inside. tt;
    }

    pub element_pushed : at < part.length → (word : Word) → IsValue h word
        → ((names : List (List ℕ)) (s : Store) → Shows h names s
        → IsWithin (birth_at h) names s word)
        → ((names : List (List ℕ)) (s : Store) → Shows h names s
        → slice_get (elements s (birth_at h part.address)) (part.offset + at)
        ≡ Some (value_of (birth_at h) names word))
        → IsPushed h over at (Some (One word))
    element_pushed few word held within reads = record {
      values = λ names s shows inside.
          let less : nat_lt at part.length ≡ true = grind (arith, nat_tests, few) in
          rw (what_is (birth_at h) names over (Array part) array, less, reads names s shows) refl;
      held = (held, tt);
      within = λ names s shows inside. (within names s shows, tt);
    }

  -- ---- strings

  module _ (part : Part) (text : content_in over.0 ≡ Text part) where
    pub past_bytes : part.length ≤ at → IsPushed h over at None
    past_bytes past = record {
      values = λ names s shows inside.
          let less : nat_lt at part.length ≡ false = grind (arith, nat_tests, past) in
          rw (what_is (birth_at h) names over (Text part) text, less) refl;
      held = tt;
      within = λ names s shows inside. tt;
    }

    text_inside : (names : List (List ℕ)) (s : Store) → IsWithin (birth_at h) names s over
        → part.offset + part.length ≤ length (bytes s (birth_at h part.address))
    unfolding IsWithin
    text_inside names s inside = subst (IsWithinContent (birth_at h) names s) text inside

    pub byte_pushed : at < part.length → (byte : ℕ) (word : Word) → IsPlain word
        → ((births : ℕ → ℕ) (names : List (List ℕ))
        → value_of births names word ≡ integer (pos byte))
        → ((names : List (List ℕ)) (s : Store) → Shows h names s
        → part.offset + part.length ≤ length (bytes s (birth_at h part.address))
        → slice_get (bytes s (birth_at h part.address)) (part.offset + at) ≡ Some byte)
        → IsPushed h over at (Some (One word))
    byte_pushed few byte word plain means reads = record {
      values = λ names s shows inside.
          let less : nat_lt at part.length ≡ true = grind (arith, nat_tests, few) in
          rw (
            what_is (birth_at h) names over (Text part) text,
            less,
            reads names s shows (text_inside names s inside),
            means (birth_at h) names,
          ) refl;
      held = (plain_value h word plain, tt);
      within = λ names s shows inside. (plain_within (birth_at h) names s word plain, tt);
    }

  -- ---- dictionaries

  module _ (address : ℕ) (dictionary : content_in over.0 ≡ Dictionary address) where
    pub no_pair : ((names : List (List ℕ)) (s : Store) → Shows h names s
        → None ≡ slice_get (dictionary_at s (birth_at h address)).pairs at)
        → IsPushed h over at None
    no_pair reads = record {
      values = λ names s shows inside.
          rw (
            what_is (birth_at h) names over (Dictionary address) dictionary,
            sym (reads names s shows),
          ) refl;
      held = tt;
      within = λ names s shows inside. tt;
    }

    -- no dictionary has so many
    pub far_pair : IsSound h → IsValue h over → 2 ^ 32 ≤ at → IsPushed h over at None
    far_pair sound held far =
        let known = known_dictionary h over address held dictionary in
        no_pair λ names s shows.
        let small = small-count h address known sound in
        let count = count-shown h address known sound names s shows in
        sym (slice_get_past (dictionary_at s (birth_at h address)).pairs at
        (omega (arith, small, count, far)))

    pub pair_pushed : (key value : Word) → IsValue h key × IsValue h value
        → ((names : List (List ℕ)) (s : Store) → Shows h names s
        → IsWithin (birth_at h) names s key × IsWithin (birth_at h) names s value)
        → ((names : List (List ℕ)) (s : Store) → Shows h names s
        → Some (pair_of (birth_at h) names (key, value))
        ≡ slice_get (dictionary_at s (birth_at h address)).pairs at)
        → IsPushed h over at (Some (Pair key value))
    pair_pushed key value held within reads = record {
      values = λ names s shows inside.
          rw (
            what_is (birth_at h) names over (Dictionary address) dictionary,
            sym (reads names s shows),
          ) refl;
      held = (held.1, (held.0, tt));
      within = λ names s shows inside.
          let both = within names s shows in (both.1, (both.0, tt));
    }

  -- ---- all else

  module _ (content : Content) (is : content ≡ content_in over.0)
      (array : (part : Part) → content ≡ Array part → ⊥)
      (text : (part : Part) → content ≡ Text part → ⊥)
      (dictionary : (address : ℕ) → content ≡ Dictionary address → ⊥) where
    nothing_there : (births : ℕ → ℕ) (names : List (List ℕ)) (s : Store) (c : Content)
        → c ≡ content → None ≡ forall_operands s (what_of births names c) at
    nothing_there births names s (Array part) same = absurd (array part (sym same))
    nothing_there births names s (Text part) same = absurd (text part (sym same))
    nothing_there births names s (Dictionary address) same = absurd (dictionary address (sym same))
    nothing_there births names s Null same = refl
    nothing_there births names s (Integer _) same = refl
    nothing_there births names s (Boolean _) same = refl
    nothing_there births names s Mark same = refl
    nothing_there births names s (Name _) same = refl
    nothing_there births names s (Operator _) same = refl
    nothing_there births names s (Lock _) same = refl
    nothing_there births names s (Condition _) same = refl
    nothing_there births names s (Body _) same = refl

    pub nothing_pushed : IsPushed h over at None
    nothing_pushed = record {
      values = λ names s shows inside.
          nothing_there (birth_at h) names s content refl
          ∙ sym (ap (λ w. forall_operands s w at)
          (what_is (birth_at h) names over content (sym is)));
      held = tt;
      within = λ names s shows inside. tt;
    }
