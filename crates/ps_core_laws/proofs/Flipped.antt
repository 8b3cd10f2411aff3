-- What a flip does to a body and to its index.
use Rattle.std.proofs.Common.{◌≡◌, ℕ, zero, suc, ◌+◌, ◌*◌, ◌^◌, ◌<◌, ◌≤◌, true, false, List, [], ◌∷◌, ◌++◌, length, map}
use Rattle.std.proofs.Common.{take, drop, replicate, Option, Some, None, refl, sym, ap, ◌∙◌, arith, subst, is_some}
use Rattle.std.proofs.Common.{rules}
use Rattle.std.specs.Prelude.{slice_index, MatchOption, nat_eq, not, pos, FitsSigned, if◌then◌else◌}
use Rattle.std.specs.Int.{w32}
use Rattle.std.proofs.lemmas.Bool.Decides.{nat_tests}
use Rattle.std.specs.List.{AllByRecursion}
use Rattle.std.specs.Option.{option_map}
use Rattle.std.proofs.lemmas.List.{take-map, length-map, length-take}
use Rattle.ps_language.specs.declared.kinds.Kind.TheVariants.{Text as TextKind, Body as BodyKind}
use Rattle.ps_word.specs.declared.words.Word.{Word}
use Rattle.ps_word.specs.declared.values.Content.{Content}
use Rattle.ps_word.specs.declared.values.Content.TheVariants.{Null, Integer, Boolean, Mark, Name, Operator, Array, Text}
use Rattle.ps_word.specs.declared.values.Content.TheVariants.{Dictionary, Lock, Condition, Body}
use Rattle.ps_word.specs.declared.values.Value.{Value}
use Rattle.ps_word.specs.Format.{IsWord, address_in, content_in, packed}
use Rattle.ps_word.specs.Headers.{birth_in, kind_in}
use Rattle.ps_word.specs.Readers.{address_of, with_address, is_reference, readdressed}
use Rattle.ps_word.proofs.Changes.{value_in-readdressed, IsWord-readdressed}
use Rattle.ps_word.proofs.Packing.{value_in-packed}
use Rattle.ps_word.proofs.Places.{is_reference-at, address_of-at}
use Rattle.ps_mem.specs.Heap.{Heap, IsKind, birth_of, birth_at, fields_of, fields_at}
use Rattle.ps_mem.specs.Heap as memory
use Rattle.ps_mem.specs.Index.{hash_of_content, hash_of, filled, placed, placed_all, index_of, pairs_of_words}
use Rattle.ps_mem.specs.Index.{index_word, hashes_of, index_words, has_free}
use Rattle.ps_mem.specs.Objects.{kind_of_number, word_of}
use Rattle.ps_mem.proofs.Lists.{all_append, all_take, all_drop, drop-map}
use Rattle.ps_core_machine.specs.declared.events.Event.TheVariants.{CycleStore}
use Rattle.ps_core_machine.specs.declared.events.Object.{Object}
use Rattle.ps_core_machine.specs.declared.events.Pair.{Pair}
use Rattle.ps_core_machine.specs.Objects.{object_at, pair_of, renamed_value, renamed, redirected, holds_values}
use Rattle.ps_core_machine.specs.Steps.{State, happens}
use Rattle.ps_core_laws.specs.Kept.{Kept}
use Rattle.ps_core_laws.specs.Laws.{PairsHold, IsPair, IsMoved, Flips}
use Rattle.ps_core_laws.specs.Reach.{Carries}
use Rattle.ps_core_laws.proofs.Bases.{spaces_wide}
use Rattle.ps_core_laws.specs.MemoryFlips.{first_pairs, IsIndexed, KeepsIndexes}
use Rattle.ps_core_laws.specs.Memory.{standing, heap_of}

-- ---- lists

-- a list whose elements are those of another, changed
pub mapped : (f : ℕ → ℕ) (xs ys : List ℕ) → length xs ≡ length ys
    → ((i : ℕ) → i < length ys → slice_index xs i ≡ f (slice_index ys i)) → xs ≡ map f ys
mapped f [] [] long at = refl
mapped f [] (y ∷ ys) long at = absurd (omega (arith, long))
mapped f (x ∷ xs) [] long at = absurd (omega (arith, long))
mapped f (x ∷ xs) (y ∷ ys) long at =
    let first : x ≡ f y = at 0 (omega arith) in
    let rest : xs ≡ map f ys = mapped f xs ys (omega (arith, long))
    (λ i below. at (suc i) (omega (arith, below))) in
    λ j. first j ∷ rest j

-- what holds at each place holds of all
pub all_places : (P : Word → Type 0) (xs : List ℕ)
    → ((i : ℕ) → i < length xs → P (word_of (slice_index xs i))) → AllByRecursion P (map word_of xs)
all_places P [] at = tt
all_places P (x ∷ xs) at =
    (at 0 (omega arith), all_places P xs (λ i below. at (suc i) (omega (arith, below))))

words-map : (r : ℕ → ℕ) (xs : List ℕ)
    → map word_of (map r xs) ≡ map (λ (w : Word). word_of (r w.0)) (map word_of xs)
words-map r [] = refl
words-map r (x ∷ xs) = ap (λ ws. word_of (r x) ∷ ws) (words-map r xs)

-- ---- the words of pairs

module _ (g : Word → Word) where
  abbrev pub both : Word × Word → Word × Word
  both pair = (g pair.0, g pair.1)

  pub pairs-map : (ws : List Word) → pairs_of_words (map g ws) ≡ map both (pairs_of_words ws)
  unfolding pairs_of_words
  pairs-map [] = refl
  pairs-map (k ∷ []) = refl
  pairs-map (k ∷ v ∷ ws) = ap (λ ps. (g k, g v) ∷ ps) (pairs-map ws)

  -- positions that are words unchanged
  pub index-map : (xs : List (Option ℕ)) → AllByRecursion (λ o. g (index_word o) ≡ index_word o) xs
      → map g (map index_word xs) ≡ map index_word xs
  index-map [] all = refl
  index-map (x ∷ xs) all = λ j. all.0 j ∷ index-map xs all.1 j

pub first-words : (P : Word → Type 0) (ws : List Word) → AllByRecursion P ws
    → AllByRecursion (λ (pair : Word × Word). P pair.0) (pairs_of_words ws)
unfolding pairs_of_words
first-words P [] all = tt
first-words P (k ∷ []) all = tt
first-words P (k ∷ v ∷ ws) all = (all.0, first-words P ws all.1.1)

-- ---- the positions of an index

module _ (P : Option ℕ → Type 0) where
  all-filled : (q : ℕ) (xs : List (Option ℕ)) → P (Some q) → AllByRecursion P xs
      → AllByRecursion P (filled q xs)
  all-filled q [] new all = tt
  all-filled q (None ∷ xs) new all = (new, all.1)
  all-filled q (Some p ∷ xs) new all = (all.0, all-filled q xs new all.1)

  all-placed : (q start : ℕ) (xs : List (Option ℕ)) → P (Some q) → AllByRecursion P xs
      → AllByRecursion P (placed q start xs)
  unfolding placed
  all-placed q start xs new all = elim (has_free (drop start xs)) as
      (λ b. AllByRecursion P (if b then take start xs ++ filled q (drop start xs)
      else filled q (take start xs) ++ drop start xs)) [
        | true ↦ all_append P (take start xs) (filled q (drop start xs)) (all_take P start xs all)
            (all-filled q (drop start xs) new (all_drop P start xs all))
        | false ↦ all_append P (filled q (take start xs)) (drop start xs)
            (all-filled q (take start xs) new (all_take P start xs all)) (all_drop P start xs all)
      ]

  all-free : (n : ℕ) → P None → AllByRecursion P (replicate n None)
  all-free zero none = tt
  all-free (suc n) none = (none, all-free n none)

  all-placed_all : (n q : ℕ) (hashes : List ℕ) (xs : List (Option ℕ))
      → ((p : ℕ) → p < n → P (Some p)) → q + length hashes ≤ n → AllByRecursion P xs
      → AllByRecursion P (placed_all q hashes xs)
  all-placed_all n q [] xs below fits all = all
  all-placed_all n q (hash ∷ hashes) xs below fits all =
      all-placed_all n (suc q) hashes (placed q _ xs) below (omega (arith, fits))
      (all-placed q _ xs (below q (omega (arith, fits))) all)

  pub all-index : (n capacity : ℕ) (hashes : List ℕ) → length hashes ≤ n
      → ((p : ℕ) → p < n → P (Some p)) → P None → AllByRecursion P (index_of capacity hashes)
  unfolding index_of
  all-index n capacity hashes fits below none =
      all-placed_all n 0 hashes (replicate capacity None) below (omega (arith, fits))
      (all-free capacity none)

-- ---- hash numbers

-- of what names nothing
plain-hash : (births births' : ℕ → ℕ) (c : Content) → is_some (address_of c) ≡ false
    → hash_of_content births' c ≡ hash_of_content births c
plain-hash births births' Null none = refl
plain-hash births births' (Integer i) none = refl
plain-hash births births' (Boolean b) none = refl
plain-hash births births' Mark none = refl
plain-hash births births' (Name n) none = refl
plain-hash births births' (Operator o) none = refl
plain-hash births births' (Array p) none = cc
plain-hash births births' (Text p) none = cc
plain-hash births births' (Dictionary a) none = cc
plain-hash births births' (Lock a) none = cc
plain-hash births births' (Condition a) none = cc
plain-hash births births' (Body a) none = cc

-- of a reference that is led to another address, where what stands has the same birth
moved-hash : (births births' : ℕ → ℕ) (c : Content) (a b : ℕ) → Some a ≡ address_of c
    → births' b ≡ births a → hash_of_content births' (with_address c b) ≡ hash_of_content births c
moved-hash births births' Null a b is same = cc
moved-hash births births' (Integer i) a b is same = cc
moved-hash births births' (Boolean x) a b is same = cc
moved-hash births births' Mark a b is same = cc
moved-hash births births' (Name n) a b is same = cc
moved-hash births births' (Operator o) a b is same = cc
moved-hash births births' (Array p) a b is same =
    let at : a ≡ p.address = cc in
    ap (λ n. n + p.offset + p.length) (same ∙ ap births at)
moved-hash births births' (Text p) a b is same = let at : a ≡ p.address = cc in same ∙ ap births at
moved-hash births births' (Dictionary d) a b is same = let at : a ≡ d = cc in same ∙ ap births at
moved-hash births births' (Lock d) a b is same = let at : a ≡ d = cc in same ∙ ap births at
moved-hash births births' (Condition d) a b is same = let at : a ≡ d = cc in same ∙ ap births at
moved-hash births births' (Body d) a b is same = let at : a ≡ d = cc in same ∙ ap births at

pub hash-plain : (births births' : ℕ → ℕ) (w : ℕ) → is_reference w ≡ false
    → hash_of births' (word_of w) ≡ hash_of births (word_of w)
unfolding hash_of
hash-plain births births' w plain =
    plain-hash births births' (content_in w) (sym (is_reference-at w) ∙ plain)

pub hash-moved : (births births' : ℕ → ℕ) (w b : ℕ) → IsWord w → b < 2 ^ 24
    → is_reference w ≡ true → births' b ≡ births (address_in w)
    → hash_of births' (word_of (readdressed w b)) ≡ hash_of births (word_of w)
unfolding hash_of
hash-moved births births' w b word low reference same =
    ap (λ (v : Value). hash_of_content births' v.content) (value_in-readdressed w word b low reference)
    ∙ moved-hash births births' (content_in w) (address_in w) b
    (address_of-at w (sym (is_reference-at w) ∙ reference)) same

-- a position is no reference
pub position-plain : (q : ℕ) → q < 2 ^ 31 → is_reference (index_word (Some q)).0 ≡ false
position-plain q small =
    let v : Value = record { content = Integer (pos q); executable = false } in
    let fits : FitsSigned w32 (pos q) = search rules in
    is_reference-at (packed v)
    ∙ ap (λ (x : Value). is_some (address_of x.content))
    (value_in-packed v (record { content = fits; literal_body = refl }))

-- ---- a flip

no-string : (n : ℕ) → kind_of_number n ≡ BodyKind → nat_eq n 7 ≡ false
no-string n is = elim (nat_eq n 7) as (λ b. nat_eq n 7 ≡ b → b ≡ false) [
  | true ↦ λ e.
      let seven : n ≡ 7 = grind (arith, nat_tests) in
      let clash : TextKind ≡ BodyKind = sym (ap kind_of_number seven) ∙ is in cc
  | false ↦ λ e. refl
] refl

-- replicas lie in the table
pub replicas_low : (s : State) → Kept s → (a : ℕ) (p : Pair) → pair_of s.gc.pairs a ≡ Some p
    → p.replica < 2 ^ 24
replicas_low s kept a p paired =
    let inside = (kept.collector.lie a p paired).high in
    let wide = (spaces_wide s.gc.space s.gc.cycle).1 in
    let small = kept.collector.size.1 in
    omega (arith, inside, wide, small)

module _ (s : State) (roots : List ℕ) (hold : PairsHold s) (carries : Carries s roots)
    (flips : Flips s roots)
    (low : (a : ℕ) (p : Pair) → pair_of s.gc.pairs a ≡ Some p → p.replica < 2 ^ 24) where
  abbrev before : Heap
  before = heap_of s.vm

  abbrev after : Heap
  after = heap_of (happens s (CycleStore roots)).vm

  original : (a : ℕ) (p : Pair) → pair_of s.gc.pairs a ≡ Some p
      → (o : Object) × (object_at s.vm.objects a ≡ Some o)
  original a p paired = elim (object_at s.vm.objects a) as
      (λ x. object_at s.vm.objects a ≡ x → MatchOption x ⊥ (IsPair s a p)
      → (o : Object) × (object_at s.vm.objects a ≡ Some o)) [
        | None ↦ λ e none. absurd none
        | Some o ↦ λ e is. (o, e)
      ] refl (hold.1 a p paired)

  moved : (a : ℕ) (o : Object) (p : Pair) → object_at s.vm.objects a ≡ Some o
      → pair_of s.gc.pairs a ≡ Some p → (m : Object)
      × (object_at (happens s (CycleStore roots)).vm.objects p.replica ≡ Some m)
      × IsMoved s o p m
  moved a o p at paired =
      elim (object_at (happens s (CycleStore roots)).vm.objects p.replica) as
      (λ x. object_at (happens s (CycleStore roots)).vm.objects p.replica ≡ x
      → MatchOption x ⊥ (IsMoved s o p) → (m : Object)
      × (object_at (happens s (CycleStore roots)).vm.objects p.replica ≡ Some m)
      × IsMoved s o p m) [
        | None ↦ λ e none. absurd none
        | Some m ↦ λ e is. (m, e, is)
      ] refl (flips.moved a o p at paired)

  births-move : (a : ℕ) (p : Pair) → pair_of s.gc.pairs a ≡ Some p
      → birth_at after p.replica ≡ birth_at before a
  unfolding birth_at memory.object_at
  births-move a p paired =
      let found = original a p paired in
      let now = moved a found.0 p found.1 paired in
      ap (λ x. birth_of (option_map standing x)) now.1
      ∙ (ap birth_in now.2.header
      ∙ sym (ap (λ x. birth_of (option_map standing x)) found.1))

  module _ (a : ℕ) (o : Object) (p : Pair) (at : object_at s.vm.objects a ≡ Some o)
      (paired : pair_of s.gc.pairs a ≡ Some p) (is_body : kind_of_number (kind_in o.header) ≡ BodyKind)
    where
      abbrev rename : Word → Word
      rename w = word_of (renamed s.gc.pairs o.header w.0)

      values : holds_values o.header ≡ true
      values = ap not (no-string (kind_in o.header) is_body)

      fields-before : fields_at before a ≡ map word_of o.fields
      unfolding fields_at memory.object_at
      fields-before = ap (λ x. fields_of (option_map standing x)) at

      fields-after : fields_at after p.replica ≡ map rename (fields_at before a)
      unfolding fields_at memory.object_at
      fields-after =
          let now = moved a o p at paired in
          ap (λ x. fields_of (option_map standing x)) now.1
          ∙ (ap (map word_of) (mapped (renamed s.gc.pairs o.header) now.0.fields o.fields
          now.2.count now.2.fields)
          ∙ (words-map (renamed s.gc.pairs o.header) o.fields
          ∙ ap (map rename) (sym fields-before)))

      renames : (w : ℕ) → renamed s.gc.pairs o.header w ≡ renamed_value s.gc.pairs w
      renames w = rw values refl

      stays : (w : Word) → is_reference w.0 ≡ false → rename w ≡ w
      stays w plain = ap word_of (renames w.0 ∙ (rw plain refl))

      -- a word of the format stays one, and has the same hash number
      abbrev Same : Word → Type 0
      Same w = IsWord w.0
          → (hash_of (birth_at after) (rename w) ≡ hash_of (birth_at before) w) × IsWord (rename w).0

      same-plain : (w : ℕ) → is_reference w ≡ false → Same (word_of w)
      same-plain w plain word =
          let same : rename (word_of w) ≡ word_of w = stays (word_of w) plain in (
            ap (hash_of (birth_at after)) same
                ∙ hash-plain (birth_at before) (birth_at after) w plain,
            subst (λ (x : Word). IsWord x.0) (sym same) word,
          )

      same-moved : (w : ℕ) (q : Pair) → is_reference w ≡ true
          → pair_of s.gc.pairs (address_in w) ≡ Some q → Same (word_of w)
      same-moved w q reference found word =
          let there : renamed_value s.gc.pairs w ≡ readdressed w q.replica =
          rw reference (ap (λ (x : Option Pair). redirected x w) found) in
          let same : rename (word_of w) ≡ word_of (readdressed w q.replica) =
          ap word_of (renames w ∙ there) in (
            ap (hash_of (birth_at after)) same
                ∙ hash-moved (birth_at before) (birth_at after) w q.replica word
                (low (address_in w) q found) reference (births-move (address_in w) q found),
            subst (λ (x : Word). IsWord x.0) (sym same)
                (IsWord-readdressed w word q.replica (low (address_in w) q found) reference),
          )

      same-field : (i : ℕ) → i < length o.fields → Same (word_of (slice_index o.fields i))
      same-field i within =
          let w = slice_index o.fields i in
          elim (is_reference w) as (λ b. is_reference w ≡ b → Same (word_of w)) [
            | false ↦ λ e. same-plain w e
            | true ↦ λ e. elim (pair_of s.gc.pairs (address_in w)) as
                (λ x. pair_of s.gc.pairs (address_in w) ≡ x → Same (word_of w)) [
                  | None ↦ λ none. absurd (carries a i o p at paired
                      (record { within = within; value = values; reference = e }) none)
                  | Some q ↦ λ found. same-moved w q e found
                ] refl
          ] refl

      same-fields : AllByRecursion Same (fields_at before a)
      same-fields = subst (AllByRecursion Same) (sym fields-before)
          (all_places Same o.fields same-field)

      keys-same : (ps : List (Word × Word))
          → AllByRecursion (λ (pair : Word × Word). IsWord pair.0.0) ps
          → AllByRecursion (λ (pair : Word × Word). Same pair.0) ps
          → (hashes_of (birth_at after) (map (both rename) ps) ≡ hashes_of (birth_at before) ps)
          × AllByRecursion (λ (pair : Word × Word). IsWord pair.0.0) (map (both rename) ps)
      keys-same [] words same = (refl, tt)
      keys-same (pair ∷ ps) words same =
          let first = same.0 words.0 in
          let rest = keys-same ps words.1 same.1 in
          (λ j. first.0 j ∷ rest.0 j, (first.1, rest.1))

      module _ (capacity count : ℕ) (indexed : IsIndexed before a capacity count) where
        abbrev old : List (Word × Word)
        old = first_pairs before a count

        new-pairs : first_pairs after p.replica count ≡ map (both rename) old
        new-pairs =
            ap (λ ws. take count (pairs_of_words ws)) fields-after
            ∙ (ap (take count) (pairs-map rename (fields_at before a))
            ∙ take-map (both rename) count (pairs_of_words (fields_at before a)))

        keys : (hashes_of (birth_at after) (map (both rename) old) ≡ hashes_of (birth_at before) old)
            × AllByRecursion (λ (pair : Word × Word). IsWord pair.0.0) (map (both rename) old)
        keys = keys-same old indexed.keys
            (all_take (λ (pair : Word × Word). Same pair.0) count
            (pairs_of_words (fields_at before a))
            (first-words Same (fields_at before a) same-fields))

        abbrev Stays : Option ℕ → Type 0
        Stays o = rename (index_word o) ≡ index_word o

        index-stays : map rename (index_words (birth_at before) capacity old) ≡ index_words
            (birth_at before) capacity old
        unfolding index_words
        index-stays =
            let few = indexed.few in
            let long = length-map old (λ (pair : Word × Word). hash_of (birth_at before) pair.0) in
            let some = length-take count (pairs_of_words (fields_at before a)) in
            index-map rename (index_of capacity (hashes_of (birth_at before) old))
            (all-index Stays count capacity (hashes_of (birth_at before) old)
            (omega (arith, long, some))
            (λ q below. stays (index_word (Some q)) (position-plain q (omega (arith, below, few))))
            (stays (index_word None) refl))

        index-same : index_words (birth_at after) capacity (map (both rename) old) ≡ index_words
            (birth_at before) capacity old
        unfolding index_words
        index-same = ap (λ hs. map index_word (index_of capacity hs)) keys.0

        pub moved-indexed : IsIndexed after p.replica capacity count
        moved-indexed = record {
          few = indexed.few;
          keys = subst (AllByRecursion (λ (pair : Word × Word). IsWord pair.0.0)) (sym new-pairs)
              keys.1;
          index = ap (drop (2 * capacity)) fields-after
              ∙ (drop-map rename (2 * capacity) (fields_at before a)
              ∙ (ap (map rename) indexed.index
              ∙ (index-stays
              ∙ (sym index-same
              ∙ ap (index_words (birth_at after) capacity) (sym new-pairs)))));
        }

  pub keeps-indexes : KeepsIndexes s roots
  unfolding memory.object_at
  keeps-indexes a capacity count p paired is_body indexed =
      let found = original a p paired in
      let kind : kind_of_number (kind_in found.0.header) ≡ BodyKind =
      subst (λ x. IsKind BodyKind (option_map standing x)) found.1 is_body in
      moved-indexed a found.0 p found.1 paired kind capacity count indexed
