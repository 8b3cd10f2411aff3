-- What moving makes of a word: what it says, what it names and what it stands for.
use Rattle.std.proofs.Common.{◌≡◌, ◌≢◌, ℕ, ◌+◌, ◌*◌, ◌/◌, ◌%◌, ◌^◌, ◌<◌, ◌≤◌, ◌&&◌, true, false, List, [], ◌∷◌, length}
use Rattle.std.proofs.Common.{map, Some, None, Option, refl, sym, ap, ◌∙◌, subst, arith, is_some, nat_eq}
use Rattle.std.specs.Prelude.{nat_le, unwrap_or, if◌then◌else◌}
use Rattle.std.proofs.lemmas.List.{length-map}
use Rattle.ps_language.specs.declared.kinds.Kind.{Kind}
use Rattle.ps_language.specs.declared.kinds.Kind.TheVariants as kinds
use Rattle.ps_language.specs.Value.{Store, array_value, string_value, dictionary_value, lock_value, condition_value}
use Rattle.ps_language.specs.Access.{bytes}
use Rattle.ps_word.specs.declared.words.Word.{Word}
use Rattle.ps_word.specs.declared.values.Content.{Content}
use Rattle.ps_word.specs.declared.values.Content.TheVariants.{Null, Array, Text, Dictionary, Lock, Condition, Body}
use Rattle.ps_word.specs.Format.{IsWord, address_in, access_of, part_in, content_of, content_in, executable_in, is_body}
use Rattle.ps_word.specs.Readers.{address_of, is_reference, readdressed}
use Rattle.ps_word.proofs.Changes.{address_in-readdressed, type-readdressed, IsWord-readdressed}
use Rattle.ps_word.proofs.Places.{by_type, content_of-past, is_reference-at, address_of-at}
use Rattle.ps_mem.specs.Heap.{Heap, Standing, birth_of, birth_at}
use Rattle.ps_mem.specs.Index.{hash_of_content, hash_of}
use Rattle.ps_mem.specs.Meaning.{what_of, value_of}
use Rattle.ps_mem.specs.References.{StandsAs, IsKnown, IsKnownContent}
use Rattle.ps_mem.specs.Shows.{IsValue, AreValues, IsWithinContent, IsWithin, AreWithin}
use Rattle.ps_core_laws.specs.Moves.{Forwarding, led, moved_word, moved_words, moved_fields, moved_object, HasReplica}
use Rattle.ps_core_laws.specs.Moves.{HaveReplicas, IsReplica, IsMovedTo, KeepsWords}

-- ---- another address

-- a content with another address, if it has one
abbrev pub placed : (ℕ → ℕ) → Content → Content
placed place (Array p) = Array (record p { address = place p.address })
placed place (Text p) = Text (record p { address = place p.address })
placed place (Dictionary a) = Dictionary (place a)
placed place (Lock a) = Lock (place a)
placed place (Condition a) = Condition (place a)
placed place (Body a) = Body (place a)
placed place c = c

module _ (place : ℕ → ℕ) (w b : ℕ) (low : b < 2 ^ 24) (at : place (address_in w) ≡ b) where
  address : address_in (readdressed w b) ≡ place (address_in w)
  address = address_in-readdressed w b low ∙ sym at

  offset : (readdressed w b / 2 ^ 16) % 2 ^ 16 ≡ (w / 2 ^ 16) % 2 ^ 16
  unfolding readdressed
  offset = omega arith

  count : readdressed w b % 2 ^ 16 ≡ w % 2 ^ 16
  unfolding readdressed
  count = omega arith

  access : (readdressed w b / 2 ^ 57) % 4 ≡ (w / 2 ^ 57) % 4
  unfolding readdressed
  access = omega arith

  part : part_in (readdressed w b) ≡ record (part_in w) { address = place (address_in w) }
  part i = record {
    address = address i;
    offset = offset i;
    length = count i;
    access = access_of (access i);
  }

  of_type : (t : ℕ) → (nat_le 6 t && nat_le t 11) ≡ true
      → content_of t (readdressed w b) ≡ placed place (content_of t w)
  of_type = by_type (λ t. (nat_le 6 t && nat_le t 11) ≡ true
      → content_of t (readdressed w b) ≡ placed place (content_of t w))
      (λ h. cc) (λ h. cc) (λ h. cc) (λ h. cc) (λ h. cc) (λ h. cc)
      (λ h. ap Array part) (λ h. ap Text part) (λ h. ap Dictionary address) (λ h. ap Lock address)
      (λ h. ap Condition address) (λ h. ap Body address)
      (λ t past h. content_of-past t (readdressed w b) past
      ∙ sym (ap (placed place) (content_of-past t w past)))

  content-led : is_reference w ≡ true → content_in (readdressed w b) ≡ placed place (content_in w)
  unfolding content_in
  content-led is = ap (λ t. content_of t (readdressed w b)) (type-readdressed w b low)
      ∙ of_type (w / 2 ^ 60) is

  executable-led : executable_in (readdressed w b) ≡ executable_in w
  unfolding executable_in readdressed
  executable-led =
      let same : (((w / 2 ^ 56) * 2 ^ 56 + b * 2 ^ 32 + w % 2 ^ 32) / 2 ^ 59) % 2
      ≡ (w / 2 ^ 59) % 2 = omega arith in
      ap (λ n. nat_eq n 1) same

-- what has no address
placed-plain : (place : ℕ → ℕ) (c : Content) → is_some (address_of c) ≡ false → placed place c ≡ c
placed-plain place (Array p) none = cc
placed-plain place (Text p) none = cc
placed-plain place (Dictionary a) none = cc
placed-plain place (Lock a) none = cc
placed-plain place (Condition a) none = cc
placed-plain place (Body a) none = cc
placed-plain place _ none = refl

is_body-placed : (place : ℕ → ℕ) (c : Content) → is_body (placed place c) ≡ is_body c
is_body-placed place Null = refl
is_body-placed place _ = refl

-- ---- words that stay

pub word-stays : (forward : Forwarding) (w : Word) → is_reference w.0 ≡ false
    → moved_word forward w ≡ w
word-stays forward w plain = rw plain refl

-- ---- lists

pub length-moved_fields : (forward : Forwarding) (kind : Kind) (fields : List Word)
    → length (moved_fields forward kind fields) ≡ length fields
length-moved_fields forward kinds.Text fields = refl
length-moved_fields forward _ fields = length-map fields (moved_word forward)

pub moved_fields-words : (forward : Forwarding) (kind : Kind) (fields : List Word)
    → kind ≢ kinds.Text → moved_fields forward kind fields ≡ moved_words forward fields
moved_fields-words forward kinds.Text fields text = absurd (text refl)
moved_fields-words forward _ fields text = refl

some_is : (x : Option ℕ) (d : ℕ) → x ≢ None → x ≡ Some (unwrap_or x d)
some_is None d some = absurd (some refl)
some_is (Some b) d some = refl

-- ---- a memory that is moved

module _ (h now : Heap) (forward : Forwarding) (moves : IsMovedTo h now forward) where
  -- where the replica is
  abbrev pub place : ℕ → ℕ
  place a = unwrap_or (forward a) a

  found : (a : ℕ) → forward a ≢ None → forward a ≡ Some (place a)
  found a some = some_is (forward a) a some

  pub replica : (a : ℕ) → forward a ≢ None → IsReplica h now forward a (place a)
  replica a some = moves.replicas a (place a) (found a some)

  pub birth_at-moved : (a : ℕ) → forward a ≢ None → birth_at now (place a) ≡ birth_at h a
  unfolding birth_at
  birth_at-moved a some =
      let r = replica a some in ap birth_of r.stands ∙ sym (ap birth_of r.stood)

  stands-moved : (kind : Kind) (a n : ℕ) → forward a ≢ None → StandsAs h kind a n
      → StandsAs now kind (place a) n
  stands-moved kind a n some s =
      let r = replica a some in
      let one : Some r.object ≡ Some s.object = sym r.stood ∙ s.at in
      let same : r.object ≡ s.object = cc in
      let fits = s.fits in
      let count : length r.object.fields ≡ length s.object.fields =
      ap (λ (o : Standing). length o.fields) same in
      let long = length-moved_fields forward r.object.kind r.object.fields in
      record {
        object = moved_object forward r.object;
        at = r.stands;
        kind_is = ap (λ (o : Standing). o.kind) same ∙ s.kind_is;
        fits = omega (arith, fits, count, long);
      }

  -- ---- contents

  -- what it names has a replica
  abbrev Complete : Content → Type 0
  Complete c = (a : ℕ) → address_of c ≡ Some a → forward a ≢ None

  what : (names : List (List ℕ)) (c : Content) → Complete c
      → what_of (birth_at now) names (placed place c) ≡ what_of (birth_at h) names c
  what names (Array p) k =
      ap (λ b. array_value (record
      { birth = b; offset = p.offset; count = p.length; access = p.access }))
      (birth_at-moved p.address (k p.address refl))
  what names (Text p) k =
      ap (λ b. string_value (record
      { birth = b; offset = p.offset; count = p.length; access = p.access }))
      (birth_at-moved p.address (k p.address refl))
  what names (Dictionary a) k = ap dictionary_value (birth_at-moved a (k a refl))
  what names (Lock a) k = ap lock_value (birth_at-moved a (k a refl))
  what names (Condition a) k = ap condition_value (birth_at-moved a (k a refl))
  what names _ k = refl

  hash : (c : Content) → Complete c
      → hash_of_content (birth_at now) (placed place c) ≡ hash_of_content (birth_at h) c
  hash (Array p) k =
      ap (λ b. b + p.offset + p.length) (birth_at-moved p.address (k p.address refl))
  hash (Text p) k = birth_at-moved p.address (k p.address refl)
  hash (Dictionary a) k = birth_at-moved a (k a refl)
  hash (Lock a) k = birth_at-moved a (k a refl)
  hash (Condition a) k = birth_at-moved a (k a refl)
  hash (Body a) k = birth_at-moved a (k a refl)
  hash _ k = refl

  known : (c : Content) → Complete c → IsKnownContent h c → IsKnownContent now (placed place c)
  known (Array p) k s = stands-moved _ p.address _ (k p.address refl) s
  known (Text p) k s = stands-moved _ p.address _ (k p.address refl) s
  known (Dictionary a) k s = stands-moved _ a _ (k a refl) s
  known (Lock a) k s = stands-moved _ a _ (k a refl) s
  known (Condition a) k s = stands-moved _ a _ (k a refl) s
  known (Body a) k s = stands-moved _ a _ (k a refl) s
  known _ k s = s

  within : (names : List (List ℕ)) (store : Store) (c : Content) → Complete c
      → IsWithinContent (birth_at h) names store c
      → IsWithinContent (birth_at now) names store (placed place c)
  within names store (Text p) k s =
      subst (λ b. p.offset + p.length ≤ length (bytes store b))
      (sym (birth_at-moved p.address (k p.address refl))) s
  within names store _ k s = s

  -- ---- words

  pub complete : (w : Word) → HasReplica forward w → Complete (content_in w.0)
  complete w have a is =
      let some : is_some (address_of (content_in w.0)) ≡ true = ap is_some is in
      let at : Some (address_in w.0) ≡ Some a = address_of-at w.0 some ∙ is in
      let same : address_in w.0 ≡ a = cc in
      subst (λ b. forward b ≢ None) same (have (is_reference-at w.0 ∙ some))

  -- a word stays or is led to the replica
  moved-cases : (P : ℕ → Type 0) (w : Word) → HasReplica forward w
      → (is_reference w.0 ≡ false → P w.0)
      → (is_reference w.0 ≡ true → place (address_in w.0) < 2 ^ 24
      → P (readdressed w.0 (place (address_in w.0)))) → P (moved_word forward w).0
  moved-cases P w have stays led_there = elim (is_reference w.0) as
      (λ b. is_reference w.0 ≡ b
      → P (if b then led w.0 (forward (address_in w.0)) else w.0)) [
        | false ↦ λ e. stays e
        | true ↦ λ e. subst (λ x. P (led w.0 x)) (sym (found (address_in w.0) (have e)))
            (led_there e (replica (address_in w.0) (have e)).to)
      ] refl

  pub content-moved : (w : Word) → HasReplica forward w
      → content_in (moved_word forward w).0 ≡ placed place (content_in w.0)
  content-moved w have = moved-cases (λ n. content_in n ≡ placed place (content_in w.0)) w have
      (λ e. sym (placed-plain place (content_in w.0) (sym (is_reference-at w.0) ∙ e)))
      (λ e low. content-led place w.0 (place (address_in w.0)) low refl e)

  pub executable-moved : (w : Word) → HasReplica forward w
      → executable_in (moved_word forward w).0 ≡ executable_in w.0
  executable-moved w have = moved-cases (λ n. executable_in n ≡ executable_in w.0) w have
      (λ e. refl)
      (λ e low. executable-led place w.0 (place (address_in w.0)) low refl)

  word-moved : (w : Word) → HasReplica forward w → IsWord w.0 → IsWord (moved_word forward w).0
  word-moved w have word = moved-cases IsWord w have (λ e. word)
      (λ e low. IsWord-readdressed w.0 word (place (address_in w.0)) low e)

  pub value-moved : (names : List (List ℕ)) (w : Word) → HasReplica forward w
      → value_of (birth_at now) names (moved_word forward w) ≡ value_of (birth_at h) names w
  unfolding value_of
  value-moved names w have =
      let same = ap (what_of (birth_at now) names) (content-moved w have)
      ∙ what names (content_in w.0) (complete w have) in
      λ i. record { what = same i; executable = executable-moved w have i }

  pub hash-moved : (w : Word) → HasReplica forward w
      → hash_of (birth_at now) (moved_word forward w) ≡ hash_of (birth_at h) w
  unfolding hash_of
  hash-moved w have = ap (hash_of_content (birth_at now)) (content-moved w have)
      ∙ hash (content_in w.0) (complete w have)

  known-moved : (w : Word) → HasReplica forward w → IsKnown h w → IsKnown now (moved_word forward w)
  unfolding IsKnown
  known-moved w have is = subst (IsKnownContent now) (sym (content-moved w have))
      (known (content_in w.0) (complete w have) is)

  pub IsValue-moved : (w : Word) → HasReplica forward w → IsValue h w
      → IsValue now (moved_word forward w)
  IsValue-moved w have v = record {
    word = word-moved w have v.word;
    known = known-moved w have v.known;
    visible = ap is_body (content-moved w have)
        ∙ (is_body-placed place (content_in w.0) ∙ v.visible);
  }

  pub IsWithin-moved : (names : List (List ℕ)) (store : Store) (w : Word) → HasReplica forward w
      → IsWithin (birth_at h) names store w
      → IsWithin (birth_at now) names store (moved_word forward w)
  unfolding IsWithin
  IsWithin-moved names store w have is =
      subst (IsWithinContent (birth_at now) names store) (sym (content-moved w have))
      (within names store (content_in w.0) (complete w have) is)

  -- ---- lists of words

  pub values_of-moved : (names : List (List ℕ)) (ws : List Word) → HaveReplicas forward ws
      → map (value_of (birth_at now) names) (moved_words forward ws)
      ≡ map (value_of (birth_at h) names) ws
  values_of-moved names [] have = refl
  values_of-moved names (w ∷ ws) have =
      λ i. value-moved names w have.0 i ∷ values_of-moved names ws have.1 i

  pub AreValues-moved : (ws : List Word) → HaveReplicas forward ws → AreValues h ws
      → AreValues now (moved_words forward ws)
  AreValues-moved [] have are = tt
  AreValues-moved (w ∷ ws) have are =
      (IsValue-moved w have.0 are.0, AreValues-moved ws have.1 are.1)

  pub AreWithin-moved : (names : List (List ℕ)) (store : Store) (ws : List Word)
      → HaveReplicas forward ws → AreWithin h names store ws
      → AreWithin now names store (moved_words forward ws)
  AreWithin-moved names store [] have are = tt
  AreWithin-moved names store (w ∷ ws) have are =
      (IsWithin-moved names store w have.0 are.0, AreWithin-moved names store ws have.1 are.1)

  pub words-moved : KeepsWords h now forward
  words-moved ws have = record {
    values = AreValues-moved ws have;
    meaning = λ names. values_of-moved names ws have;
    within = λ names store. AreWithin-moved names store ws have;
  }
