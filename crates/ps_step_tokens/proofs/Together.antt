-- A procedure made element by element.
use Rattle.std.proofs.Common.{◌≡◌, ◌∙◌, sym, ap, subst, refl, ℕ, List, [], ◌∷◌, ◌++◌, length, append_assoc, true}
use Rattle.std.proofs.lemmas.List.{append-nil, map-append, length-map}
use Rattle.ps_language.specs.Readers.{executable, whole}
use Rattle.ps_language.specs.StepTokens.{Made, with_values, procedure_made, elements_made}
use Rattle.ps_language.specs.StepValues.{LookedUp}
use Rattle.ps_language.specs.Token.{Token, Tokens, number_token, literal_name_token, executable_name_token}
use Rattle.ps_language.specs.Token.{immediate_name_token, string_token, procedure_token, no_tokens, more_tokens}
use Rattle.ps_language.specs.Value.{Object, Value, Store, array_value, array_object}
use Rattle.ps_word.specs.declared.words.Word.{Word}
use Rattle.ps_word.specs.declared.values.Part.{Part}
use Rattle.ps_mem.specs.Heap.{Heap, birth_at}
use Rattle.ps_mem.specs.Keeps.{Keeps, Extends}
use Rattle.ps_mem.specs.Meaning.{value_of, part_of}
use Rattle.ps_mem.specs.Shows.{IsValue, AreValues, IsSound, IsWithin, AreWithin, Shows}
use Rattle.ps_mem.proofs.KeepsLemmas.{Keeps-Extends, Extends-same, Extends-then, AreValues-kept, AreWithin-kept}
use Rattle.ps_mem.proofs.KeepsLemmas.{values_of-kept, known_values}
use Rattle.ps_mem.proofs.NewShows.{longer}
use Rattle.ps_ops_operands.specs.Changes.{values_in}
use Rattle.ps_ops_operands.proofs.Held.{all_append}
use Rattle.ps_ops_operands.proofs.Making.{whole_part, part_of-whole}
use Rattle.ps_ops_state.specs.Acts.{Lasts}
use Rattle.ps_step_tokens.specs.Made.{IsMade, one_made, whole_made}
use Rattle.ps_step_tokens.specs.Missing.{look_by}
use Rattle.ps_step_tokens.proofs.Adds.{elements_add}
use Rattle.ps_step_tokens.proofs.LookingOn.{look_more, look_kept}

with_two : (xs ys : List Value) (made : Made)
    → with_values xs (with_values ys made) ≡ with_values (xs ++ ys) made
with_two xs ys made =
    ap (λ (vs : List Value). record made { values = vs }) (sym (append_assoc xs ys made.values))

-- the first element and then the others
made_more : (look : List ℕ → LookedUp) (token : Token) (rest : Tokens) (s : Store)
    → elements_made look (more_tokens token rest) s ≡ with_values (one_made token look s).values
    (elements_made look rest (one_made token look s).store)
made_more look (number_token number) rest s = refl
made_more look (literal_name_token text) rest s = refl
made_more look (executable_name_token text) rest s = refl
made_more look (immediate_name_token text) rest s = refl
made_more look (string_token bytes) rest s = refl
made_more look (procedure_token inner) rest s = refl

module _ (names : List (List ℕ)) (dictionaries : List Word) where
  -- the store that is shown so far, and what is still to be made
  pub record IsPart (all rest : Tokens) (old h : Heap) (done : List Word) (s : Store) : Type 0 where
    pub store : Store
    pub more : List Object
    pub is : store ≡ s ++ more
    pub shows : Shows h names store
    pub within : AreWithin h names store done
    pub are : elements_made (look_by old names dictionaries s) all s
        ≡ with_values (values_in h names done)
        (elements_made (look_by old names dictionaries s) rest store)

  -- these words are the elements in front of the rest
  pub record AreMade (all rest : Tokens) (old h : Heap) (done : List Word) : Type 0 where
    pub sound : IsSound h
    pub extends : Extends old h
    pub held : AreValues h done
    pub part : (s : Store) → Shows old names s → AreWithin old names s dictionaries
        → IsPart all rest old h done s

  -- no element yet
  pub none_made : (all : Tokens) (h : Heap) → IsSound h → AreMade all all h h []
  none_made all h sound = record {
    sound = sound;
    extends = Extends-same h;
    held = tt;
    part = λ s shows inside. record {
      store = s;
      more = [];
      is = sym (append-nil s);
      shows = shows;
      within = tt;
      are = refl;
    };
  }

  module _ (all rest : Tokens) (old h next : Heap) (done : List Word) (token : Token)
      (word : Word) (sound : IsSound old) (kept : AreValues old dictionaries)
      (before : AreMade all (more_tokens token rest) old h done)
      (one : IsMade (one_made token) names dictionaries h next word) where
    since : Keeps old h
    since = Keeps-Extends old h before.extends

    keeps : Keeps h next
    keeps = Keeps-Extends h next one.extends

    module _ (s : Store) (shows : Shows old names s) (inside : AreWithin old names s dictionaries)
      where
        abbrev look : List ℕ → LookedUp
        look = look_by old names dictionaries s

        abbrev p : IsPart all (more_tokens token rest) old h done s
        p = before.part s shows inside

        abbrev m : Made
        m = one_made token look p.store

        look_is : look_by h names dictionaries p.store ≡ look
        look_is =
            look_kept old h since names dictionaries kept p.store
            ∙ (ap (look_by old names dictionaries) p.is
            ∙ look_more old names sound s p.more shows dictionaries kept)

        inside_now : AreWithin h names p.store dictionaries
        inside_now =
            AreWithin-kept old h since names s p.store
            (subst (Lasts s) (sym p.is) (longer s p.more)) dictionaries
            (known_values old dictionaries kept) inside

        values_are : values_in next names (done ++ word ∷ [])
            ≡ values_in h names done ++ value_of (birth_at next) names word ∷ []
        values_are =
            map-append (value_of (birth_at next) names) done (word ∷ [])
            ∙ ap (λ (vs : List Value). vs ++ value_of (birth_at next) names word ∷ [])
            (values_of-kept h next keeps names done (known_values h done before.held))

        next_part : IsPart all rest old next (done ++ word ∷ []) s
        next_part =
            let adds = elements_add look (more_tokens token no_tokens) p.store in
            let after : Made = elements_made look rest m.store in
            let front : List Value = values_in h names done in
            let value : m.values ≡ value_of (birth_at next) names word ∷ [] =
            subst (λ (l : List ℕ → LookedUp). (one_made token l p.store).values
            ≡ value_of (birth_at next) names word ∷ []) look_is
            (one.value p.store p.shows inside_now) in
            let within : IsWithin (birth_at next) names m.store word =
            subst (λ (l : List ℕ → LookedUp).
            IsWithin (birth_at next) names (one_made token l p.store).store word) look_is
            (one.within p.store p.shows inside_now) in
            let lasts : Lasts p.store m.store =
            subst (Lasts p.store) (sym adds.store_is) (longer p.store adds.added) in
            record {
              store = m.store;
              more = p.more ++ adds.added;
              is = adds.store_is ∙ (ap (λ (t : Store). t ++ adds.added) p.is
                  ∙ append_assoc s p.more adds.added);
              shows = subst (λ (l : List ℕ → LookedUp).
                  Shows next names (one_made token l p.store).store) look_is
                  (one.shows p.store p.shows inside_now);
              within = all_append (IsWithin (birth_at next) names m.store) done (word ∷ [])
                  (AreWithin-kept h next keeps names p.store m.store lasts done
                  (known_values h done before.held) p.within) (within, tt);
              are = p.are
                  ∙ (ap (with_values front) (made_more look token rest p.store)
                  ∙ (with_two front m.values after
                  ∙ (ap (λ (vs : List Value). with_values (front ++ vs) after) value
                  ∙ ap (λ (vs : List Value). with_values vs after) (sym values_are))));
            }

    -- an element more
    pub more_made : AreMade all rest old next (done ++ word ∷ [])
    more_made = record {
      sound = one.sound;
      extends = Extends-then old h next before.extends one.extends;
      held = all_append (IsValue next) done (word ∷ [])
          (AreValues-kept h next keeps done before.held) (one.held, tt);
      part = next_part;
    }

  -- all elements are made, and the array of them
  module _ (all : Tokens) (old h now : Heap) (done : List Word)
      (before : AreMade all no_tokens old h done) (part : Part)
      (part_is : part ≡ whole_part part.address (length done))
      (birth : birth_at now part.address ≡ h.next)
      (shown : (s : Store) → Shows h names s → AreWithin h names s done
      → Shows now names (s ++ array_object (values_in h names done) ∷ []))
      (word : Word)
      (value : (births : ℕ → ℕ) (names : List (List ℕ)) → value_of births names word
      ≡ record { what = array_value (part_of births part); executable = true }) where
    abbrev values : List Value
    values = values_in h names done

    all_made : (s : Store) (p : IsPart all no_tokens old h done s)
        → elements_made (look_by old names dictionaries s) all s
        ≡ record { values = values; store = p.store }
    all_made s p =
        p.are ∙ ap (λ (vs : List Value). record { values = vs; store = p.store })
        (append-nil values)

    reference : (store : Store) → Shows h names store
        → executable (array_value (whole (length store) (length values)))
        ≡ value_of (birth_at now) names word
    reference store shows =
        sym (value (birth_at now) names
        ∙ (ap (λ (p : _). executable (array_value p))
        (part_of-whole (birth_at now) part (length done) (length store) part_is
        (birth ∙ shows.next))
        ∙ ap (λ (n : ℕ). executable (array_value (whole (length store) n)))
        (sym (length-map done (value_of (birth_at h) names)))))

    pub procedure_is_made : IsSound now → Extends h now → IsValue now word
        → ((store : Store) → IsWithin (birth_at now) names store word)
        → IsMade (whole_made all) names dictionaries old now word
    procedure_is_made sound extends held within = record {
      sound = sound;
      extends = Extends-then old h now before.extends extends;
      held = held;
      within = λ s shows inside. within _;
      shows = λ s shows inside.
          let p = before.part s shows inside in
          subst (Shows now names)
          (sym (ap (λ (m : Made). (procedure_made m).store) (all_made s p)))
          (shown p.store p.shows p.within);
      value = λ s shows inside.
          let p = before.part s shows inside in
          ap (λ (m : Made). (procedure_made m).values) (all_made s p)
          ∙ ap (λ (v : Value). v ∷ []) (reference p.store p.shows);
    }
