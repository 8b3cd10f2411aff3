-- What words name, by the birth numbers that their values refer to.
use Rattle.std.proofs.Common.{◌≡◌, ◌≢◌, ℕ, ◌+◌, ◌-◌, ◌*◌, true, false, List, [], ◌∷◌, ◌++◌, length, map, take, drop}
use Rattle.std.proofs.Common.{replicate, Some, Option, is_some, refl, sym, ap, ◌∙◌, subst, inl, inr, ◌⊎◌, arith}
use Rattle.std.specs.Prelude.{zero, suc}
use Rattle.std.specs.List.{AllByRecursion}
use Rattle.std.proofs.lemmas.List.{length-map, length-take, length-replicate}
use Rattle.std.proofs.Math.Seq.{drop-append-add, drop-append_seam}
use Rattle.ps_language.specs.declared.kinds.Kind.{Kind}
use Rattle.ps_language.specs.declared.kinds.Kind.TheVariants as kinds
use Rattle.ps_language.specs.Live.{references_in, references_of, references_of_pairs}
use Rattle.ps_language.specs.Value.{Dictionary as DictionaryValue}
use Rattle.ps_word.specs.declared.words.Word.{Word}
use Rattle.ps_word.specs.declared.values.Content.{Content}
use Rattle.ps_word.specs.declared.values.Content.TheVariants.{Array, Text, Dictionary, Lock, Condition, Body}
use Rattle.ps_word.specs.declared.values.Value.{Value}
use Rattle.ps_word.specs.Format.{address_in, content_in, is_body}
use Rattle.ps_word.specs.Readers.{address_of, is_reference}
use Rattle.ps_word.proofs.Places.{is_reference-at, address_of-at}
use Rattle.ps_mem.specs.Heap.{Heap, Standing, object_at, birth_at, zero_word}
use Rattle.ps_mem.specs.Index.{pairs_of_words, hash_of, hashes_of, index_of, index_word, index_words}
use Rattle.ps_mem.specs.Meaning.{what_of, value_of}
use Rattle.ps_mem.specs.References.{StandsAs, IsKnown, IsKnownContent}
use Rattle.ps_mem.specs.Shows.{IsValue, AreValues, IsNatural, words_of_pairs, pair_of, ShowsDictionary}
use Rattle.ps_core_laws.proofs.Flipped.{all-index, position-plain}
use Rattle.ps_gc_roots.proofs.Framing.{both, fore, rear}

-- the word names something of which this holds, if it names anything
abbrev pub Names : (ℕ → Type 0) → Word → Type 0
Names P w = is_reference w.0 ≡ true → P (address_in w.0)

abbrev pub AllName : (ℕ → Type 0) → List Word → Type 0
AllName P words = AllByRecursion (Names P) words

pub kind_cases : (kind : Kind) → (kind ≡ kinds.Body) ⊎ (kind ≢ kinds.Body)
kind_cases kinds.Body = inl refl
kind_cases _ = inr (λ e. cc)

-- a natural number names nothing
pub natural-names : (P : ℕ → Type 0) (w : Word) (n : ℕ) → IsNatural w n → Names P w
natural-names P w n is reference =
    let plain : is_reference w.0 ≡ false =
    is_reference-at w.0 ∙ ap (λ (v : Value). is_some (address_of v.content)) is in
    let clash : true ≡ false = sym reference ∙ plain in
    absurd (cc)

zeros-name : (P : ℕ → Type 0) (n : ℕ) → AllName P (replicate n zero_word)
zeros-name P zero = tt
zeros-name P (suc n) =
    ((λ reference. let clash : true ≡ false = sym reference in absurd (cc)), zeros-name P n)

module _ (h : Heap) (names : List (List ℕ)) (Q : ℕ → Type 0) where
  -- an object stands at the address, not a body, of whose birth number this holds
  pub record NamesWhole (a : ℕ) : Type 0 where
    pub born : Q (birth_at h a)
    pub whole : (o : Standing) → object_at h a ≡ Some o → o.kind ≢ kinds.Body

  standing-whole : {kind : Kind} {a n : ℕ} → StandsAs h kind a n → kind ≢ kinds.Body
      → (o : Standing) → object_at h a ≡ Some o → o.kind ≢ kinds.Body
  standing-whole s whole o at is =
      let one : Some o ≡ Some s.object = sym at ∙ s.at in
      let same : o ≡ s.object = cc in
      whole (sym s.kind_is ∙ (sym (ap (λ (x : Standing). x.kind) same) ∙ is))

  led : {kind : Kind} {a n : ℕ} → StandsAs h kind a n → kind ≢ kinds.Body → Q (birth_at h a)
      → (b : ℕ) → a ≡ b → NamesWhole b
  led s whole q b same =
      subst NamesWhole same (record { born = q; whole = standing-whole s whole })

  content-names : (c : Content) → IsKnownContent h c → is_body c ≡ false
      → AllByRecursion Q (references_in (what_of (birth_at h) names c)) → (b : ℕ)
      → address_of c ≡ Some b → NamesWhole b
  content-names (Array p) known visible all b is =
      let e : p.address ≡ b = cc in led known (λ k. cc) all.0 b e
  content-names (Text p) known visible all b is =
      let e : p.address ≡ b = cc in led known (λ k. cc) all.0 b e
  content-names (Dictionary a) known visible all b is =
      let e : a ≡ b = cc in led known (λ k. cc) all.0 b e
  content-names (Lock a) known visible all b is =
      let e : a ≡ b = cc in led known (λ k. cc) all.0 b e
  content-names (Condition a) known visible all b is =
      let e : a ≡ b = cc in led known (λ k. cc) all.0 b e
  content-names (Body a) known visible all b is = absurd (cc)
  content-names _ known visible all b is = absurd (cc)

  pub value-names : (w : Word) → IsValue h w
      → AllByRecursion Q (references_in (value_of (birth_at h) names w).what) → Names NamesWhole w
  unfolding value_of IsKnown
  value-names w value all reference =
      content-names (content_in w.0) value.known value.visible all (address_in w.0)
      (sym (address_of-at w.0 (sym (is_reference-at w.0) ∙ reference)))

  pub values-name : (words : List Word) → AreValues h words
      → AllByRecursion Q (references_of (map (value_of (birth_at h) names) words))
      → AllName NamesWhole words
  values-name [] values all = tt
  values-name (w ∷ words) values all =
      let first = references_in (value_of (birth_at h) names w).what in
      let others = references_of (map (value_of (birth_at h) names) words) in (
        value-names w values.0 (fore Q first others all),
        values-name words values.1 (rear Q first others all),
      )

  pairs-name : (pairs : List (Word × Word)) (rest : List Word)
      → AreValues h (words_of_pairs pairs ++ rest)
      → AllByRecursion Q (references_of_pairs (map (pair_of (birth_at h) names) pairs))
      → AllName NamesWhole (words_of_pairs pairs)
  pairs-name [] rest values all = tt
  pairs-name (pair ∷ pairs) rest values all =
      let key = references_in (value_of (birth_at h) names pair.0).what in
      let value = references_in (value_of (birth_at h) names pair.1).what in
      let others = references_of_pairs (map (pair_of (birth_at h) names) pairs) in
      let two = fore Q (key ++ value) others all in (
        value-names pair.0 values.0 (fore Q key value two),
        (
          value-names pair.1 values.1.0 (rear Q key value two),
          pairs-name pairs rest values.1.1 (rear Q (key ++ value) others all),
        ),
      )

  -- ---- the body of a dictionary

  index-names : (P : ℕ → Type 0) (xs : List (Option ℕ))
      → AllByRecursion (λ o. is_reference (index_word o).0 ≡ false) xs
      → AllName P (map index_word xs)
  index-names P [] all = tt
  index-names P (x ∷ xs) all = (
    (λ reference. let clash : true ≡ false = sym reference ∙ all.0 in absurd (cc)),
    index-names P xs all.1,
  )

  length-pairs : (pairs : List (Word × Word)) → length (words_of_pairs pairs) ≡ 2 * length pairs
  length-pairs [] = refl
  length-pairs (pair ∷ pairs) = let rest = length-pairs pairs in omega (arith, rest)

  pub body-names : (birth : ℕ) (fields : List Word) (d : DictionaryValue)
      → (s : ShowsDictionary h names birth fields d) → AreValues h s.shape.body_fields
      → AllByRecursion Q (references_of_pairs d.pairs) → AllName NamesWhole s.shape.body_fields
  unfolding index_words
  body-names birth fields d s values all =
      let shape = s.shape in
      let old = take shape.count (pairs_of_words shape.body_fields) in
      let gap : ℕ = 2 * (d.capacity - length d.pairs) in
      let zeros : List Word = replicate gap zero_word in
      let few = shape.few in let within = shape.within in
      let count = s.count in let capacity = s.capacity in
      let hashed = length-map old (λ (pair : Word × Word). hash_of (birth_at h) pair.0) in
      let some = length-take shape.count (pairs_of_words shape.body_fields) in
      let listed : length d.pairs ≡ length s.pairs =
      ap length s.are ∙ length-map s.pairs (pair_of (birth_at h) names) in
      let long = length-pairs s.pairs in
      let whole : 2 * shape.capacity ≡ length (words_of_pairs s.pairs) + gap =
      omega (arith, long, listed, count, capacity, within) in
      let behind : drop (2 * shape.capacity) shape.body_fields ≡ s.index =
      ap (drop (2 * shape.capacity)) s.holds
      ∙ (ap (λ n. drop n (words_of_pairs s.pairs ++ (zeros ++ s.index))) whole
      ∙ (drop-append-add (words_of_pairs s.pairs) (zeros ++ s.index) gap
      ∙ (ap (λ n. drop n (zeros ++ s.index)) (sym (length-replicate gap zero_word))
      ∙ drop-append_seam zeros s.index))) in
      let index : AllName NamesWhole s.index =
      subst (AllName NamesWhole) (sym shape.indexed ∙ behind)
      (index-names NamesWhole (index_of shape.capacity (hashes_of (birth_at h) old))
      (all-index (λ o. is_reference (index_word o).0 ≡ false) shape.count shape.capacity
      (hashes_of (birth_at h) old) (omega (arith, hashed, some))
      (λ q below. position-plain q (omega (arith, below, few, within))) refl)) in
      let pairs = pairs-name s.pairs (zeros ++ s.index)
      (subst (AreValues h) s.holds values)
      (subst (λ ps. AllByRecursion Q (references_of_pairs ps)) s.are all) in
      subst (AllName NamesWhole) (sym s.holds)
      (both (Names NamesWhole) (words_of_pairs s.pairs) (zeros ++ s.index) pairs
      (both (Names NamesWhole) zeros s.index (zeros-name NamesWhole gap) index))
