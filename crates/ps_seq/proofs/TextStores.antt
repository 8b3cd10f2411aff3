-- Bytes put into a string of a memory.
use Rattle.std.proofs.Common.{◌≡◌, ℕ, suc, ◌+◌, ◌-◌, ◌*◌, ◌/◌, ◌%◌, ◌<◌, ◌≤◌, List, [], ◌∷◌, ◌++◌, length, take, drop, get_or, Some, sym, ap, arith, ◌∙◌, subst, length-drop}
use Rattle.std.specs.Prelude.{slice_get, slice_set, slice_range}
use Rattle.std.specs.Int.{w64, to_le_bytes}
use Rattle.std.proofs.lemmas.List.{get_or-take, get_or-drop, length-take-le, drop-drop}
use Rattle.ps_language.specs.declared.kinds.Kind.TheVariants.{Text as TextKind}
use Rattle.ps_language.specs.Value.{Store, string_object}
use Rattle.ps_language.specs.Access.{bytes, splice, with_bytes}
use Rattle.ps_word.specs.declared.words.Word.{Word}
use Rattle.ps_mem.specs.Heap.{Heap, birth_at, fields_at, stored}
use Rattle.ps_mem.specs.Keeps.{Keeps}
use Rattle.ps_mem.specs.Objects.{word_of}
use Rattle.ps_mem.specs.References.{StandsAs, NamesStanding, words_for}
use Rattle.ps_mem.specs.Strings.{AreBytes, number_of_bytes, words_from, words_of}
use Rattle.ps_mem.specs.Shows.{IsSound, Shows}
use Rattle.ps_mem.proofs.Lists.{all_splice, length-splice, splice-nil}
use Rattle.ps_mem.proofs.KeepsLemmas.{Keeps-stored}
use Rattle.ps_mem.proofs.StoreLemmas.{IsSound-stored_text}
use Rattle.ps_mem.proofs.StoreShows.{Shows-stored_text}
use Rattle.ps_seq.proofs.ArrayLemmas.{set_same}
use Rattle.ps_seq.proofs.TextLemmas.{TextAt, fields-text, birth-text, text_reaches, text_at, loaded_bytes}
use Rattle.ps_seq.proofs.SpliceLemmas.{length-words_from, words_from-add, words_from-more, words_of-splice, changed_word}

pub bytes_fit : (bs : List ℕ) → ((i : ℕ) → get_or bs i 0 < 256) → AreBytes bs
bytes_fit [] fit = tt
bytes_fit (b ∷ bs) fit = (fit 0, bytes_fit bs (λ i. fit (suc i)))

-- the words of a string refer to nothing
pub text_names : (h : Heap) (a n : ℕ) (items : List Word) → StandsAs h TextKind a n
    → NamesStanding h a items
text_names h a n items known = record {
  known = λ o at no.
      let one : Some known.object ≡ Some o = sym known.at ∙ at in
      let same : known.object ≡ o = cc in
      absurd (no (sym (ap (λ x. x.kind) same) ∙ known.kind_is));
}

-- ---- a store

module _ (h : Heap) (a n : ℕ) (known : StandsAs h TextKind a n) (sound : IsSound h)
    (first count : ℕ) (items : List Word) (long : length items ≡ count)
    (fits : first + count ≤ n) where
  inside : first + length items ≤ length known.object.fields
  inside = let reach = known.fits in omega (arith, fits, reach, long)

  pub text_store_sound : IsSound (stored h a first items)
  text_store_sound = IsSound-stored_text h a first items known.object known.at inside sound
      known.kind_is

  pub text_store_keeps : Keeps h (stored h a first items)
  text_store_keeps = Keeps-stored h a first items known.object known.at inside

  module _ (names : List (List ℕ)) (s : Store) (shows : Shows h names s) (at : ℕ) (bs : List ℕ)
      (are : AreBytes bs) (within : at + length bs ≤ length (bytes s (birth_at h a)))
      (low : 8 * first ≤ at) (high : at + length bs ≤ 8 * (first + count)) (words : items
      ≡ words_from count (drop (8 * first) (splice (bytes s (birth_at h a)) at bs))) where
    abbrev text : List ℕ
    text = bytes s (birth_at h a)

    abbrev here : TextAt h a s
    here = text_at h a n known names s shows

    in_words : first + count ≤ words_for (length text)
    in_words =
        let reach = text_reaches h a n known in
        let size : length (fields_at h a) ≡ words_for (length text) = ap length here.words
        ∙ length-words_from (words_for (length text)) text in
        omega (arith, reach, size, fits)

    fields_now : splice known.object.fields first items ≡ words_of (splice text at bs)
    fields_now =
        ap (λ ws. splice ws first items) (sym (fields-text h a n known) ∙ here.words)
        ∙ (ap (splice (words_of text) first) words ∙ words_of-splice text at bs first count within
        low high in_words)

    pub text_store_shows : Shows (stored h a first items) names (with_bytes s (birth_at h a)
        (splice text at bs))
    text_store_shows =
        let birth = birth-text h a n known in
        subst (λ b. Shows (stored h a first items) names (with_bytes s b (splice text at bs)))
        (sym birth)
        (Shows-stored_text h a first items known.object known.at inside sound names s shows
        known.kind_is text (splice text at bs)
        (ap (slice_get s) (sym birth) ∙ here.there) (length-splice text at bs within) (all_splice
        (λ b. b < 256) text at bs here.are are) fields_now)

-- ---- a word that is read, and its bytes changed

module _ (h : Heap) (a : ℕ) (s : Store) (text : TextAt h a s) (k : ℕ) (w : Word) (read : slice_get
    (fields_at h a) k ≡ Some w) (at : ℕ) (bs : List ℕ) (within : at + length bs ≤ length (bytes s
    (birth_at h a)))
    (start stop : ℕ) (from_at : at ≤ start) (from_word : 8 * k ≤ start) (some : start < stop)
    (to_end : stop ≤ at + length bs) (to_word : stop ≤ 8 * k + 8)
    (before : (i : ℕ) → 8 * k + i < start → 8 * k + i < at) (behind : (i : ℕ) → i < 8
    → stop ≤ 8 * k + i → at + length bs ≤ 8 * k + i) where
  abbrev chunk : List ℕ
  chunk = slice_range bs (start - at) (stop - at)

  length_chunk : length chunk ≡ stop - start
  length_chunk =
      let taken = length-take-le ((stop - at) - (start - at)) (drop (start - at) bs) (omega
      (arith, from_at, to_end, length-drop (start - at) bs)) in
      omega (arith, taken, from_at, some)

  pub loaded_changed : number_of_bytes (splice (to_le_bytes w64 w.0) (start - 8 * k) chunk)
      ≡ number_of_bytes (take 8 (drop (8 * k) (splice (bytes s (birth_at h a)) at bs)))
  loaded_changed =
      let t = bytes s (birth_at h a) in
      let r = start - 8 * k in
      ap (λ ns. number_of_bytes (splice ns r chunk)) (loaded_bytes h a s text k w read (omega
      (arith, from_word, some, to_end, within)))
      ∙ changed_word t at bs k r chunk within (omega (
        arith,
        length_chunk,
        from_word,
        some,
        to_word,
      ))
      (λ j below.
      let e : (start - at) + j ≡ (8 * k + (r + j)) - at = omega (arith, from_at, from_word) in (
        omega (arith, from_at, from_word),
        get_or-take ((stop - at) - (start - at)) (drop (start - at) bs) j 0 (omega
            (arith, below, length_chunk, from_at, some)) ∙ (get_or-drop (start - at) bs j 0 ∙ ap
            (λ m. get_or bs m 0) e),
      ))
      (λ i early. before i (omega (arith, early, from_word)))
      (λ i low past. behind i low (omega (arith, past, length_chunk, from_word, some)))
      (omega (arith, length_chunk, from_word, some, to_end))

-- ---- nothing put

pub nothing_put : (h : Heap) (a n : ℕ) (known : StandsAs h TextKind a n) (names : List (List ℕ))
    (s : Store) → Shows h names s → (place : ℕ) →
    with_bytes s (birth_at h a) (splice (bytes s (birth_at h a)) place []) ≡ s
unfolding with_bytes
nothing_put h a n known names s shows place =
    let here = text_at h a n known names s shows in
    let b = birth_at h a in
    ap (λ t. slice_set s b (string_object t)) (splice-nil (bytes s b) place) ∙ set_same s b
    (string_object (bytes s b)) here.there

-- ---- one byte

pub one_word : (w : Word) (bs : List ℕ) → w.0 ≡ number_of_bytes (take 8 bs) → w ∷ []
    ≡ words_from 1 bs
unfolding words_from
one_word w bs e = ap (λ n. word_of n ∷ []) e

pub loaded_one : (h : Heap) (a : ℕ) (s : Store) (text : TextAt h a s) (w : Word) (at : ℕ)
    (read : slice_get (fields_at h a) (at / 8) ≡ Some w) (byte : ℕ) → at < length (bytes s
    (birth_at h a)) →
    number_of_bytes (splice (to_le_bytes w64 w.0) (at % 8) (byte ∷ [])) ≡ number_of_bytes (take 8
    (drop (8 * (at / 8)) (splice (bytes s (birth_at h a)) at (byte ∷ []))))
loaded_one h a s text w at read byte below =
    let none : at - at ≡ 0 = omega arith in
    let one : (at + 1) - at ≡ 1 = omega arith in
    let rest : at - 8 * (at / 8) ≡ at % 8 = omega arith in
    (λ i. number_of_bytes (splice (to_le_bytes w64 w.0) (sym rest i) (slice_range (byte ∷ [])
    (sym none i) (sym one i))))
    ∙ loaded_changed h a s text (at / 8) w read at (byte ∷ []) (omega (arith, below)) at (at + 1)
    (omega arith) (omega arith) (omega arith) (omega arith) (omega arith)
    (λ i early. early) (λ i low past. past)

-- ---- a run of words, one word more

pub next_word : (new : List ℕ) (ws : List Word) (w : Word) (first k : ℕ) → first ≤ k → ws
    ≡ words_from (k - first) (drop (8 * first) new) → w.0 ≡ number_of_bytes (take 8 (drop
    (8 * k) new)) →
    ws ++ w ∷ [] ≡ words_from ((k + 1) - first) (drop (8 * first) new)
next_word new ws w first k behind so_far value =
    let there : 8 * first + 8 * (k - first) ≡ 8 * k = omega (arith, behind) in
    let count : (k - first) + 1 ≡ (k + 1) - first = omega (arith, behind) in
    let dropped : drop (8 * (k - first)) (drop (8 * first) new) ≡ drop (8 * k) new = drop-drop (8 *
    (k - first)) (8 * first) new ∙ ap (λ m. drop m new) there in
    (λ i. so_far i ++ word_of (value i) ∷ [])
    ∙ (ap (λ ds. words_from (k - first) (drop (8 * first) new) ++ word_of (number_of_bytes
    (take 8 ds)) ∷ []) (sym dropped)
    ∙ (words_from-more (k - first) (drop (8 * first) new) ∙ ap (λ n. words_from n (drop
    (8 * first) new)) count))

-- ---- a run of words, so many words more

pub next_words : (new : List ℕ) (ws more : List Word) (first k n : ℕ) → first ≤ k → ws
    ≡ words_from (k - first) (drop (8 * first) new) → more ≡ words_from n (drop (8 * k) new)
    → ws ++ more ≡ words_from ((k + n) - first) (drop (8 * first) new)
next_words new ws more first k n behind so_far next =
    let there : 8 * first + 8 * (k - first) ≡ 8 * k = omega (arith, behind) in
    let count : (k - first) + n ≡ (k + n) - first = omega (arith, behind) in
    let dropped : drop (8 * (k - first)) (drop (8 * first) new) ≡ drop (8 * k) new = drop-drop (8 *
    (k - first)) (8 * first) new ∙ ap (λ m. drop m new) there in
    (λ i. so_far i ++ next i)
    ∙ (ap (λ ds. words_from (k - first) (drop (8 * first) new) ++ words_from n ds) (sym dropped)
    ∙ (sym (words_from-add (k - first) n (drop (8 * first) new)) ∙ ap (λ m. words_from m (drop
    (8 * first) new)) count))
