-- Pairs that are appended, store by store: their positions, their words, and their number.
use Rattle.std.proofs.Common.{◌≡◌, ◌≢◌, ℕ, ◌+◌, ◌*◌, ◌/◌, ◌≤◌, ◌++◌, List, [], ◌∷◌, ◌∙◌, ap, sym, subst, arith, length, map}
use Rattle.ps_language.specs.declared.kinds.Kind.TheVariants.{Dictionary as DictionaryKind}
use Rattle.ps_language.specs.Value.{Store}
use Rattle.ps_language.specs.Access.{dictionary_at, with_dictionary}
use Rattle.ps_word.specs.declared.words.Word.{Word}
use Rattle.ps_mem.specs.Heap.{Heap, birth_at, object_at, fields_at, stored}
use Rattle.ps_mem.specs.Index.{pairs_of_words, index_words}
use Rattle.ps_mem.specs.Keeps.{Keeps}
use Rattle.ps_mem.specs.References.{StandsAs, NamesStanding}
use Rattle.ps_mem.specs.Shows.{IsNatural, IsValue, AreValues, IsSound, AreWithin, Shows, pair_of}
use Rattle.ps_dict.specs.Places.{count_at, capacity_at, body_at, pairs_at}
use Rattle.ps_dict.proofs.Several.{after_positions, after_words, after_number, words-place, words-known, number-place, several-keeps, several-sound, several-births, several-others, several-shows}

-- the number of the pairs and their body were read; w: the number that is stored
module _ (h : Heap) (a : ℕ) (known : StandsAs h DictionaryKind a 4) (sound : IsSound h)
    (ws : List Word) (even : 2 * (length ws / 2) ≡ length ws)
    (room : count_at h a + length ws / 2 ≤ capacity_at h a) (held : AreValues h ws)
    (counted : Heap) (counted_is : counted ≡ h) (n : ℕ) (count : n ≡ count_at h a)
    (read : Heap) (read_is : read ≡ counted) (b : ℕ) (body : b ≡ body_at counted a)
    (w : Word) (number : IsNatural w (n + length ws / 2)) (w_held : (k : Heap) → IsValue k w)
    (indexed : Heap) (positions : indexed ≡ stored read (body_at read a) (2 * capacity_at read a)
    (index_words (birth_at read) (capacity_at read a) (pairs_at read a ++ pairs_of_words ws)))
  where
    is_body : b ≡ body_at h a
    is_body = body ∙ ap (λ (k : Heap). body_at k a) counted_is

    total : IsNatural w (count_at h a + length ws / 2)
    total = subst (λ m. IsNatural w (m + length ws / 2)) count number

    abbrev first : Heap
    first = after_positions h a known sound ws even room held w total (w_held h)

    abbrev second : Heap
    second = after_words h a known sound ws even room held w total (w_held h)

    abbrev third : Heap
    third = after_number h a known sound ws even room held w total (w_held h)

    first_is : indexed ≡ first
    first_is = positions ∙ ap (λ (k : Heap). stored k (body_at k a) (2 * capacity_at k a)
        (index_words (birth_at k) (capacity_at k a) (pairs_at k a ++ pairs_of_words ws)))
        (read_is ∙ counted_is)

    pub appended-words_stand : NamesStanding indexed b ws
    appended-words_stand = subst (λ (k : Heap). NamesStanding k b ws) (sym first_is) (record {
      known = λ o at text.
          words-known h a known sound ws even room held w total (w_held h);
    })

    pub appended-words_fit : 2 * n + length ws ≤ length (fields_at indexed b)
    appended-words_fit =
        let fits = words-place h a known sound ws even room held w total (w_held h) in
        let same : length (fields_at indexed b) ≡ length (fields_at first (body_at h a)) =
        ap (λ (k : Heap). length (fields_at k b)) first_is
        ∙ ap (λ x. length (fields_at first x)) is_body in
        omega (arith, count, fits, same)

    module _ (worded : Heap) (words : worded ≡ stored indexed b (2 * n) ws) where
      second_is : worded ≡ second
      second_is = words
          ∙ (ap (λ (k : Heap). stored k b (2 * n) ws) first_is
          ∙ (ap (λ x. stored first x (2 * n) ws) is_body
          ∙ ap (λ m. stored first (body_at h a) (2 * m) ws) count))

      pub appended-number_fits : 1 ≤ length (fields_at worded a)
      appended-number_fits = subst (λ (k : Heap). 1 ≤ length (fields_at k a)) (sym second_is)
          (number-place h a known sound ws even room held w total (w_held h))

      module _ (numbered : Heap) (put : numbered ≡ stored worded a 0 (w ∷ [])) where
        third_is : numbered ≡ third
        third_is = put ∙ ap (λ (k : Heap). stored k a 0 (w ∷ [])) second_is

        pub appended-sound : IsSound numbered
        appended-sound = subst IsSound (sym third_is)
            (several-sound h a known sound ws even room held w total (w_held h))

        pub appended-keeps : Keeps h numbered
        appended-keeps = subst (Keeps h) (sym third_is)
            (several-keeps h a known sound ws even room held w total (w_held h))

        pub appended-births : birth_at numbered ≡ birth_at h
        appended-births = ap birth_at third_is
            ∙ several-births h a known sound ws even room held w total (w_held h)

        pub appended-others : (c : ℕ) → a ≢ c → body_at h a ≢ c
            → object_at numbered c ≡ object_at h c
        appended-others c apart apart_body = ap (λ (k : Heap). object_at k c) third_is
            ∙ several-others h a known sound ws even room held w total (w_held h) c apart apart_body

        pub appended-shows : (names : List (List ℕ)) (s : Store) → Shows h names s
            → AreWithin h names s ws → let d = dictionary_at s (birth_at h a) in
            Shows numbered names (with_dictionary s (birth_at h a)
            (record d { pairs = d.pairs ++ map (pair_of (birth_at h) names) (pairs_of_words ws) }))
        appended-shows names s shows within =
            let d = dictionary_at s (birth_at h a) in
            subst (λ (k : Heap). Shows k names (with_dictionary s (birth_at h a)
            (record d { pairs = d.pairs ++ map (pair_of (birth_at h) names) (pairs_of_words ws) })))
            (sym third_is)
            (several-shows h a known sound ws even room held w total (w_held h) names s shows within)
