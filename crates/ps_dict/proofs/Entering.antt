-- Entries put into a dictionary one after another: values of keys that are there, then new pairs.
use Rattle.std.proofs.Common.{◌≡◌, ◌≢◌, ℕ, zero, suc, ◌+◌, ◌*◌, ◌/◌, ◌<◌, ◌≤◌, true, false, List, [], ◌∷◌, ◌++◌, length, map, Option, Some, None, refl, sym, ap, ◌∙◌, arith, subst, append_assoc, length-append}
use Rattle.std.specs.Prelude.{nat_lt, is_some, option_map, if◌then◌else◌}
use Rattle.std.specs.List.{AllByRecursion, AllPairs}
use Rattle.std.proofs.lemmas.List.{length-map, map-append, append-nil}
use Rattle.std.proofs.lemmas.Bool.Decides.{nat_tests}
use Rattle.ps_language.specs.declared.kinds.Kind.TheVariants.{Dictionary as DictionaryKind}
use Rattle.ps_language.specs.Value.{Value, Dictionary as DictionaryValue, dictionary_object, Store}
use Rattle.ps_language.specs.Access.{bytes, dictionary_at, with_dictionary}
use Rattle.ps_language.specs.Equality.{same_key}
use Rattle.ps_language.specs.Dictionaries.{find, put_pair}
use Rattle.ps_language.specs.StepErrors.{with_entry}
use Rattle.std.specs.Prelude.{slice_get, slice_set}
use Rattle.ps_word.specs.declared.words.Word.{Word}
use Rattle.ps_mem.specs.Heap.{Heap, object_at, birth_at}
use Rattle.ps_mem.specs.Keeps.{Keeps}
use Rattle.ps_mem.specs.References.{StandsAs}
use Rattle.ps_mem.specs.Meaning.{value_of}
use Rattle.ps_mem.specs.Shows.{IsValue, IsSound, IsWithin, words_of_pairs, pair_of, Shows}
use Rattle.ps_mem.proofs.HeapLemmas.{birth_at-stored}
use Rattle.ps_mem.proofs.KeepsLemmas.{Keeps-Extends, Extends-same, Keeps-then, IsValue-kept, IsWithin-kept, stands-kept}
use Rattle.ps_dict.specs.Keys.{same_words}
use Rattle.ps_dict.specs.Places.{count_at, capacity_at, body_at, pairs_at, place_of, first_place}
use Rattle.ps_dict.specs.Puts.{with_value}
use Rattle.ps_dict.specs.Entries.{with_entries, with_value_at, waiting_with}
use Rattle.ps_dict.proofs.KeyLemmas.{same_keys}
use Rattle.ps_dict.proofs.Pairs.{words-append, slice_get_there, find_at, find_none, length-words_of_pairs}
use Rattle.ps_dict.proofs.Shapes.{there, count-shown, capacity-shown}
use Rattle.ps_dict.proofs.Reading.{position-shown, position-below}
use Rattle.ps_dict.proofs.Changing.{with_twice, dictionary_at-with, with-lengths}
use Rattle.ps_dict.proofs.WordRuns.{put-present, put-absent}
use Rattle.ps_dict.proofs.Revaluing.{after_value, replaced-keeps, replaced-sound, replaced-shows, replaced-others, value-count_at, value-capacity_at, value-body_at, value-pairs_at}

-- ---- the place of a key among more pairs

first-there : (xs ys : List (Value × Value)) (key : Value) (i : ℕ) → first_place xs key ≡ Some i
    → first_place (xs ++ ys) key ≡ Some i
unfolding first_place
first-there [] ys key i at = cc
first-there (pair ∷ xs) ys key i at =
    elim (same_key pair.0 key) as
    (λ b. same_key pair.0 key ≡ b → first_place ((pair ∷ xs) ++ ys) key ≡ Some i) [
      | true ↦ λ e. let here : Some 0 ≡ Some i = rw e at at in rw e here
      | false ↦ λ e.
          let next : option_map suc (first_place xs key) ≡ Some i = rw e at at in
          elim (first_place xs key) as
          (λ o. first_place xs key ≡ o → option_map suc o ≡ Some i
          → first_place ((pair ∷ xs) ++ ys) key ≡ Some i) [
            | None ↦ λ is h. cc
            | Some j ↦ λ is h. rw e (ap (option_map suc) (first-there xs ys key j is) ∙ h)
          ] refl next
    ] refl

none_before : (o : Option ℕ) → option_map suc o ≡ None → o ≡ None
none_before None h = refl
none_before (Some n) h = cc

first-apart : (xs ys : List (Value × Value)) (key : Value) → first_place xs key ≡ None
    → AllByRecursion (λ (pair : Value × Value). same_key pair.0 key ≡ false) ys
    → first_place (xs ++ ys) key ≡ None
unfolding first_place
first-apart [] [] key at apart = refl
first-apart [] (pair ∷ ys) key at apart = rw apart.0
    (ap (option_map suc) (first-apart [] ys key refl apart.1))
first-apart (pair ∷ xs) ys key at apart =
    elim (same_key pair.0 key) as
    (λ b. same_key pair.0 key ≡ b → first_place ((pair ∷ xs) ++ ys) key ≡ None) [
      | true ↦ λ e. let clash : Some 0 ≡ None = rw e at at in cc
      | false ↦ λ e.
          let next : option_map suc (first_place xs key) ≡ None = rw e at at in
          rw e (ap (option_map suc)
          (first-apart xs ys key (none_before (first_place xs key) next) apart))
    ] refl

first-below : (xs : List (Value × Value)) (key : Value) (i : ℕ) → first_place xs key ≡ Some i
    → i < length xs
unfolding first_place
first-below [] key i at = cc
first-below (pair ∷ xs) key i at =
    elim (same_key pair.0 key) as (λ b. same_key pair.0 key ≡ b → i < suc (length xs)) [
      | true ↦ λ e. let here : Some 0 ≡ Some i = rw e at at in let is : 0 ≡ i = cc in
          omega (arith, is)
      | false ↦ λ e.
          let next : option_map suc (first_place xs key) ≡ Some i = rw e at at in
          elim (first_place xs key) as
          (λ o. first_place xs key ≡ o → option_map suc o ≡ Some i → i < suc (length xs)) [
            | None ↦ λ is h. cc
            | Some j ↦ λ is h. let below = first-below xs key j is in let one : suc j ≡ i = cc in
                omega (arith, below, one)
          ] refl next
    ] refl

is_found : (xs : List (Value × Value)) (key : Value) (i : ℕ) → first_place xs key ≡ Some i
    → is_some (find xs key) ≡ true
is_found xs key i at =
    let (pair, here) = slice_get_there xs i (first-below xs key i at) in
    ap is_some (find_at xs key i pair at here)

with_value-front : {K V : Type 0} (xs ys : List (K × V)) (i : ℕ) (v : V) → i < length xs
    → with_value (xs ++ ys) i v ≡ with_value xs i v ++ ys
unfolding with_value
with_value-front [] ys i v below = absurd (omega (arith, below))
with_value-front (pair ∷ xs) ys zero v below = refl
with_value-front (pair ∷ xs) ys (suc i) v below =
    ap (λ zs. pair ∷ zs) (with_value-front xs ys i v (omega (arith, below)))

pub place-with_value : (pairs : List (Word × Word)) (i : ℕ) (v key : Word)
    → place_of (with_value pairs i v) key ≡ place_of pairs key
unfolding place_of with_value
place-with_value [] i v key = refl
place-with_value (pair ∷ pairs) zero v key = refl
place-with_value (pair ∷ pairs) (suc i) v key = rw (place-with_value pairs i v key) refl

-- ---- one entry, by values

-- the pairs with the value of an entry at the place of its key
abbrev pub with_present : {K V : Type 0} → Option ℕ → List (K × V) → V → List (K × V)
with_present (Some i) pairs v = with_value pairs i v
with_present None pairs v = pairs

-- the pairs that wait, with that of an absent key where so many have room
abbrev pub with_waiting : {A : Type 0} → Option ℕ → (room : ℕ) → A → List A → List A
with_waiting (Some i) room entry waiting = waiting
with_waiting None room entry waiting =
    if nat_lt (length waiting) room then waiting ++ entry ∷ [] else waiting

map-waiting : {A B : Type 0} (f : A → B) (p : Option ℕ) (room : ℕ) (entry : A) (waiting : List A)
    → map f (with_waiting p room entry waiting) ≡ with_waiting p room (f entry) (map f waiting)
map-waiting f (Some i) room entry waiting = refl
map-waiting f None room entry waiting =
    rw (length-map waiting f)
    (elim (nat_lt (length waiting) room) as
    (λ b. map f (if b then waiting ++ entry ∷ [] else waiting) ≡
    (if b then map f waiting ++ f entry ∷ [] else map f waiting)) [
      | true ↦ map-append f waiting (entry ∷ [])
      | false ↦ refl
    ])

pub waiting-all : {A : Type 0} (P : A → Type 0) (p : Option ℕ) (room : ℕ) (entry : A)
    (waiting : List A) → P entry → AllByRecursion P waiting
    → AllByRecursion P (with_waiting p room entry waiting)
waiting-all P (Some i) room entry waiting e all = all
waiting-all P None room entry waiting e all =
    elim (nat_lt (length waiting) room) as
    (λ b. AllByRecursion P (if b then waiting ++ entry ∷ [] else waiting)) [
      | true ↦ appended waiting all
      | false ↦ all
    ]
  where
    appended : (xs : List _) → AllByRecursion P xs → AllByRecursion P (xs ++ entry ∷ [])
    appended [] all = (e, tt)
    appended (x ∷ xs) all = (all.0, appended xs all.1)

value-entered : (d : DictionaryValue) (waiting : List (Value × Value)) (key value : Value)
    (p : Option ℕ) (room : ℕ) → first_place d.pairs key ≡ p
    → AllByRecursion (λ (pair : Value × Value). same_key pair.0 key ≡ false) waiting
    → length d.pairs + room ≡ d.capacity
    → with_entry key value (record d { pairs = d.pairs ++ waiting }) ≡
    record d { pairs = with_present p d.pairs value ++ with_waiting p room (key, value) waiting }
unfolding with_entry
value-entered d waiting key value (Some i) room at apart full =
    let here = first-there d.pairs waiting key i at in
    rw (is_found (d.pairs ++ waiting) key i here)
    (ap (λ ps. record d { pairs = ps })
    (put-present (d.pairs ++ waiting) key value i here
    ∙ with_value-front d.pairs waiting i value (first-below d.pairs key i at)))
value-entered d waiting key value None room at apart full =
    let none = first-apart d.pairs waiting key at apart in
    let missing : is_some (find (d.pairs ++ waiting) key) ≡ false =
    ap is_some (find_none (d.pairs ++ waiting) key none) in
    let long = length-append d.pairs waiting in
    let test : nat_lt (length (d.pairs ++ waiting)) d.capacity ≡ nat_lt (length waiting) room =
    grind (arith, nat_tests, long, full) in
    rw (missing, test)
    (elim (nat_lt (length waiting) room) as
    (λ b. (if b then record d { pairs = put_pair (d.pairs ++ waiting) (key, value) } else record d
    { pairs = d.pairs ++ waiting }) ≡ record d
    { pairs = d.pairs ++ (if b then waiting ++ (key, value) ∷ [] else waiting) }) [
      | true ↦ ap (λ ps. record d { pairs = ps })
          (put-absent (d.pairs ++ waiting) key value none
          ∙ append_assoc d.pairs waiting ((key, value) ∷ []))
      | false ↦ refl
    ])

pub with_entries-more : (entries : List (Value × Value)) (entry : Value × Value)
    (d : DictionaryValue) → with_entries (entries ++ entry ∷ []) d ≡ with_entry entry.0 entry.1
    (with_entries entries d)
with_entries-more [] entry d = refl
with_entries-more (first ∷ entries) entry d =
    with_entries-more entries entry (with_entry first.0 first.1 d)

-- ---- the words that wait

pub waiting-words : (p : Option ℕ) (room : ℕ) (entry : Word × Word) (waiting : List (Word × Word))
    → waiting_with p room entry (words_of_pairs waiting) ≡ words_of_pairs
    (with_waiting p room entry waiting)
waiting-words (Some i) room entry waiting = refl
waiting-words None room entry waiting =
    let long = length-words_of_pairs waiting in
    let half : length (words_of_pairs waiting) / 2 ≡ length waiting = omega (arith, long) in
    rw half
    (elim (nat_lt (length waiting) room) as
    (λ b. (if b then words_of_pairs waiting ++ entry.0 ∷ entry.1 ∷ [] else words_of_pairs waiting)
    ≡ words_of_pairs (if b then waiting ++ entry ∷ [] else waiting)) [
      | true ↦ sym (words-append waiting (entry ∷ []))
      | false ↦ refl
    ])

-- ---- what an entry leaves of a memory

-- the dictionary stands with other values of its keys
pub record Entered (h g : Heap) (a : ℕ) : Type 0 where
  pub sound : IsSound g
  pub known : StandsAs g DictionaryKind a 4
  pub keeps : Keeps h g
  pub births : birth_at g ≡ birth_at h
  pub count : count_at g a ≡ count_at h a
  pub capacity : capacity_at g a ≡ capacity_at h a
  pub body : body_at g a ≡ body_at h a
  pub places : (key : Word) → place_of (pairs_at g a) key ≡ place_of (pairs_at h a) key
  pub others : (c : ℕ) → a ≢ c → body_at h a ≢ c → object_at g c ≡ object_at h c

pub entered-none : (h : Heap) (a : ℕ) → StandsAs h DictionaryKind a 4 → IsSound h → Entered h h a
entered-none h a known sound = record {
  sound = sound;
  known = known;
  keeps = Keeps-Extends h h (Extends-same h);
  births = refl;
  count = refl;
  capacity = refl;
  body = refl;
  places = λ key. refl;
  others = λ c ne ne'. refl;
}

pub entered-then : (f g h : Heap) (a : ℕ) → Entered f g a → Entered g h a → Entered f h a
entered-then f g h a first second = record {
  sound = second.sound;
  known = second.known;
  keeps = Keeps-then f g h first.keeps second.keeps;
  births = second.births ∙ first.births;
  count = second.count ∙ first.count;
  capacity = second.capacity ∙ first.capacity;
  body = second.body ∙ first.body;
  places = λ key. second.places key ∙ first.places key;
  others = λ c ne ne'. second.others c ne (λ e. ne' (sym first.body ∙ e)) ∙ first.others c ne ne';
}

pub entered-value : (h : Heap) (a : ℕ) (known : StandsAs h DictionaryKind a 4) (sound : IsSound h)
    (p : Option ℕ) (v : Word) → ((i : ℕ) → p ≡ Some i → i < count_at h a) → IsValue h v
    → Entered h (with_value_at h a p v) a
entered-value h a known sound None v below held = entered-none h a known sound
entered-value h a known sound (Some i) v below held =
    let under = below i refl in
    let keeps = replaced-keeps h a known sound i under v held in
    record {
      sound = replaced-sound h a known sound i under v held;
      known = stands-kept h (after_value h a known sound i under v held) keeps DictionaryKind a 4
          known;
      keeps = keeps;
      births = birth_at-stored h (body_at h a) (2 * i + 1) (v ∷ []);
      count = value-count_at h a known sound i under v held;
      capacity = value-capacity_at h a known sound i under v held;
      body = value-body_at h a known sound i under v held;
      places = λ key. ap (λ ps. place_of ps key) (value-pairs_at h a known sound i under v held)
          ∙ place-with_value (pairs_at h a) i v key;
      others = replaced-others h a known sound i under v held;
    }

-- ---- what it shows

pub with-same : (s : Store) (b : ℕ) (d : DictionaryValue) → slice_get s b ≡ Some (dictionary_object d)
    → with_dictionary s b d ≡ s
unfolding with_dictionary
with-same s b d at = same s b at
  where
    same : (s : Store) (b : ℕ) → slice_get s b ≡ Some (dictionary_object d)
        → slice_set s b (dictionary_object d) ≡ s
    same [] b at = refl
    same (x ∷ s) zero at = let is : x ≡ dictionary_object d = cc in ap (λ y. y ∷ s) (sym is)
    same (x ∷ s) (suc b) at = ap (λ t. x ∷ t) (same s b at)

-- the dictionary as it was
pub same-shown : (h : Heap) (a : ℕ) → StandsAs h DictionaryKind a 4 → IsSound h
    → (names : List (List ℕ)) (s : Store) → Shows h names s
    → Shows h names (with_dictionary s (birth_at h a) (dictionary_at s (birth_at h a)))
same-shown h a known sound names s shows = subst (Shows h names)
    (sym (with-same s (birth_at h a) (dictionary_at s (birth_at h a))
    (there h a known sound names s shows))) shows

module _ (h : Heap) (a : ℕ) (known : StandsAs h DictionaryKind a 4) (sound : IsSound h)
    (names : List (List ℕ)) (s : Store) (shows : Shows h names s)
    (distinct : AllPairs (λ first later. first ≢ later) names) where
  -- after these entries, the pairs that wait aside
  pub record EntriesShown (g : Heap) (entries waiting : List (Word × Word)) : Type 0 where
    pub d : DictionaryValue
    pub shown : Shows g names (with_dictionary s (birth_at h a) d)
    pub is : with_entries (map (pair_of (birth_at h) names) entries)
        (dictionary_at s (birth_at h a)) ≡ record d
        { pairs = d.pairs ++ map (pair_of (birth_at h) names) waiting }

  pub entries-none : EntriesShown h [] []
  entries-none = record {
    d = dictionary_at s (birth_at h a);
    shown = same-shown h a known sound names s shows;
    is = ap (λ ps. record (dictionary_at s (birth_at h a)) { pairs = ps })
        (sym (append-nil (dictionary_at s (birth_at h a)).pairs));
  }

  module _ (g : Heap) (entered : Entered h g a) (entries waiting : List (Word × Word))
      (so_far : EntriesShown g entries waiting) where
    abbrev t : Store
    t = with_dictionary s (birth_at h a) so_far.d

    lengths : (birth : ℕ) → length (bytes s birth) ≤ length (bytes t birth)
    lengths = with-lengths s (birth_at h a) (dictionary_at s (birth_at h a)) so_far.d
        (there h a known sound names s shows)

    births-at : birth_at g a ≡ birth_at h a
    births-at i = entered.births i a

    pub dictionary-now : dictionary_at t (birth_at g a) ≡ so_far.d
    dictionary-now = ap (dictionary_at t) births-at
        ∙ dictionary_at-with s (birth_at h a) (dictionary_object (dictionary_at s (birth_at h a)))
        so_far.d (there h a known sound names s shows)

    pub within-now : (w : Word) → IsValue h w → IsWithin (birth_at h) names s w
        → IsWithin (birth_at g) names t w
    within-now w held within = IsWithin-kept h g entered.keeps names s t lengths w held.known within

    -- a dictionary in the place of the one that stands
    pub with-now : (new : DictionaryValue) → with_dictionary t (birth_at g a) new ≡ with_dictionary
        s (birth_at h a) new
    with-now new = ap (λ b. with_dictionary t b new) births-at
        ∙ with_twice s (birth_at h a) so_far.d new

    module _ (entry : Word × Word) (key_held : IsValue h entry.0) (value_held : IsValue h entry.1)
        (key_within : IsWithin (birth_at h) names s entry.0)
        (value_within : IsWithin (birth_at h) names s entry.1)
        (waiting_held : AllByRecursion (λ (pair : Word × Word). IsValue h pair.0) waiting)
        (waiting_within : AllByRecursion (λ (pair : Word × Word).
        IsWithin (birth_at h) names s pair.0) waiting)
        (apart : AllByRecursion (λ (pair : Word × Word). same_words pair.0 entry.0 ≡ false) waiting)
        (p : Option ℕ) (at : place_of (pairs_at g a) entry.0 ≡ p) (room : ℕ)
        (full : count_at h a + room ≡ capacity_at h a) where
      abbrev key : Value
      key = value_of (birth_at h) names entry.0

      abbrev value : Value
      value = value_of (birth_at h) names entry.1

      first-now : first_place so_far.d.pairs key ≡ p
      first-now =
          sym (ap (λ (d : DictionaryValue). first_place d.pairs (value_of (birth_at g) names
          entry.0))
          dictionary-now
          ∙ ap (λ (births : ℕ → ℕ). first_place so_far.d.pairs (value_of births names entry.0))
          entered.births)
          ∙ (position-shown g a entered.known entered.sound names t so_far.shown entry.0
          (IsValue-kept h g entered.keeps entry.0 key_held) distinct
          (within-now entry.0 key_held key_within) ∙ at)

      full-now : length so_far.d.pairs + room ≡ so_far.d.capacity
      full-now =
          let count : count_at g a ≡ length so_far.d.pairs =
          count-shown g a entered.known entered.sound names t so_far.shown
          ∙ ap (λ (d : DictionaryValue). length d.pairs) dictionary-now in
          let capacity : capacity_at g a ≡ so_far.d.capacity =
          capacity-shown g a entered.known entered.sound names t so_far.shown
          ∙ ap (λ (d : DictionaryValue). d.capacity) dictionary-now in
          let same = entered.count in
          let also = entered.capacity in
          omega (arith, count, capacity, same, also, full)

      apart-values : (ws : List (Word × Word))
          → AllByRecursion (λ (pair : Word × Word). IsValue h pair.0) ws
          → AllByRecursion (λ (pair : Word × Word). IsWithin (birth_at h) names s pair.0) ws
          → AllByRecursion (λ (pair : Word × Word). same_words pair.0 entry.0 ≡ false) ws
          → AllByRecursion (λ (pair : Value × Value). same_key pair.0 key ≡ false)
          (map (pair_of (birth_at h) names) ws)
      apart-values [] held within other = tt
      apart-values (pair ∷ ws) held within other = (
        same_keys names distinct h sound s pair.0 entry.0 held.0 key_held within.0 key_within
            ∙ other.0,
        apart-values ws held.1 within.1 other.1,
      )

      shown-at : (o : Option ℕ) → ((i : ℕ) → o ≡ Some i → i < count_at g a)
          → Shows (with_value_at g a o entry.1) names
          (with_dictionary s (birth_at h a)
          (record so_far.d { pairs = with_present o so_far.d.pairs value }))
      shown-at None below = so_far.shown
      shown-at (Some i) below =
          subst (Shows (with_value_at g a (Some i) entry.1) names)
          (ap (λ (d : DictionaryValue). with_dictionary t (birth_at g a)
          (record d { pairs = with_value d.pairs i (value_of (birth_at g) names entry.1) }))
          dictionary-now
          ∙ (ap (λ (births : ℕ → ℕ). with_dictionary t (birth_at g a)
          (record so_far.d { pairs = with_value so_far.d.pairs i (value_of births names entry.1) }))
          entered.births
          ∙ with-now (record so_far.d { pairs = with_value so_far.d.pairs i value })))
          (replaced-shows g a entered.known entered.sound i (below i refl) entry.1
          (IsValue-kept h g entered.keeps entry.1 value_held) names t so_far.shown
          (within-now entry.1 value_held value_within))

      pub entries-more : EntriesShown (with_value_at g a p entry.1) (entries ++ entry ∷ [])
          (with_waiting p room entry waiting)
      entries-more = record {
        d = record so_far.d { pairs = with_present p so_far.d.pairs value };
        shown = shown-at p
            (λ i e. position-below g a entered.known entered.sound entry.0 i (at ∙ e));
        is = ap (λ es. with_entries es (dictionary_at s (birth_at h a)))
            (map-append (pair_of (birth_at h) names) entries (entry ∷ []))
            ∙ (with_entries-more (map (pair_of (birth_at h) names) entries) (key, value)
            (dictionary_at s (birth_at h a))
            ∙ (ap (with_entry key value) so_far.is
            ∙ (value-entered so_far.d (map (pair_of (birth_at h) names) waiting) key value p room
            first-now (apart-values waiting waiting_held waiting_within apart) full-now
            ∙ ap (λ ps. record so_far.d
            { pairs = with_present p so_far.d.pairs value ++ ps })
            (sym (map-waiting (pair_of (birth_at h) names) p room entry waiting)))));
      }
