-- The words of natural numbers, and a dictionary with one of its fields changed.
use Rattle.std.proofs.Common.{◌≡◌, ℕ, ◌*◌, ◌-◌, List, [], ◌∷◌, ◌++◌, replicate, refl, sym, ap, ◌∙◌, arith, subst}
use Rattle.std.specs.Prelude.{pos}
use Rattle.ps_language.specs.declared.access.Access.{Access}
use Rattle.ps_language.specs.declared.kinds.Kind.TheVariants.{Dictionary as DictionaryKind}
use Rattle.ps_language.specs.Value.{Store}
use Rattle.ps_language.specs.Access.{splice, dictionary_at, with_dictionary}
use Rattle.ps_word.specs.declared.words.Word.{Word}
use Rattle.ps_word.specs.declared.values.Value.{Value as WordValue}
use Rattle.ps_word.specs.Format.{content_in, IsWord, access_number}
use Rattle.ps_mem.specs.Heap.{Heap, birth_at, fields_at, stored, zero_word}
use Rattle.ps_mem.specs.Keeps.{Keeps}
use Rattle.ps_mem.specs.References.{StandsAs}
use Rattle.ps_mem.specs.Shows.{IsNatural, IsValue, DictionaryFields, IsSound, IsWithin, words_of_pairs, Shows}
use Rattle.ps_mem.proofs.ValueLemmas.{IsPlain, plain_integer, IsValue-plain, IsWithin-plain}
use Rattle.ps_dict.specs.Places.{count_at, capacity_at, pairs_at}
use Rattle.ps_dict.proofs.Shapes.{shape, count-is, capacity-is, body_fields-is, shown, count-shown, capacity-shown, pairs-shown, holds-shown}
use Rattle.ps_dict.proofs.Changing.{fields-sound, fields-keeps, fields-shows}

natural_plain : (w : Word) (n : ℕ) → IsNatural w n → IsPlain (content_in w.0)
natural_plain w n is = subst IsPlain (sym (ap (λ (v : WordValue). v.content) is))
    (plain_integer (pos n))

pub natural-value : (w : Word) (n : ℕ) → IsNatural w n → IsWord w.0 → (h : Heap) → IsValue h w
natural-value w n is word h = IsValue-plain w (natural_plain w n is) h word

pub natural-within : (w : Word) (n : ℕ) → IsNatural w n
    → (births : ℕ → ℕ) (names : List (List ℕ)) (s : Store) → IsWithin births names s w
natural-within w n is births names s = IsWithin-plain w (natural_plain w n is) births names s

module _ (h : Heap) (a : ℕ) (known : StandsAs h DictionaryKind a 4) (sound : IsSound h) (w : Word)
    (n : ℕ) (is : IsNatural w n) where
  pub access_fields : splice (fields_at h a) 2 (w ∷ []) ≡ (shape h a known sound).count_word
      ∷ (shape h a known sound).capacity_word ∷ w ∷ (shape h a known sound).body_word ∷ []
  unfolding splice
  access_fields = ap (λ ws. splice ws 2 (w ∷ [])) (shape h a known sound).are

  pub count_fields : splice (fields_at h a) 0 (w ∷ []) ≡ w ∷ (shape h a known sound).capacity_word
      ∷ (shape h a known sound).access_word ∷ (shape h a known sound).body_word ∷ []
  unfolding splice
  count_fields = ap (λ ws. splice ws 0 (w ∷ [])) (shape h a known sound).are

  -- another access
  abbrev pub access-shape : DictionaryFields h (birth_at h a) (splice (fields_at h a) 2 (w ∷ []))
  access-shape = record {
    count_word = (shape h a known sound).count_word;
    capacity_word = (shape h a known sound).capacity_word;
    access_word = w;
    body_word = (shape h a known sound).body_word;
    are = access_fields;
    count = (shape h a known sound).count;
    capacity = (shape h a known sound).capacity;
    access = n;
    body = (shape h a known sound).body;
    body_fields = (shape h a known sound).body_fields;
    count_is = (shape h a known sound).count_is;
    capacity_is = (shape h a known sound).capacity_is;
    access_is = is;
    body_is = (shape h a known sound).body_is;
    stands = (shape h a known sound).stands;
    within = (shape h a known sound).within;
    room = (shape h a known sound).room;
    few = (shape h a known sound).few;
    indexed = (shape h a known sound).indexed;
  }

-- ---- another access

module _ (h : Heap) (a : ℕ) (known : StandsAs h DictionaryKind a 4) (sound : IsSound h) (w : Word)
    (access : Access) (is : IsNatural w (access_number access)) (held : IsValue h w) where
  pub access-stored_sound : IsSound (stored h a 2 (w ∷ []))
  access-stored_sound = fields-sound h a known sound 2 (w ∷ []) (omega arith)
      (access-shape h a known sound w (access_number access) is)

  pub access-stored_keeps : Keeps h (stored h a 2 (w ∷ []))
  access-stored_keeps = fields-keeps h a known sound 2 (w ∷ []) (omega arith)
      (access-shape h a known sound w (access_number access) is)

  pub access-stored_shows : (names : List (List ℕ)) (s : Store) → Shows h names s
      → Shows (stored h a 2 (w ∷ [])) names
      (with_dictionary s (birth_at h a)
      (record (dictionary_at s (birth_at h a)) { access = access }))
  access-stored_shows names s shows =
      fields-shows h a known sound 2 (w ∷ []) (omega arith)
      (access-shape h a known sound w (access_number access) is) names s shows (held.known, tt)
      (natural-within w (access_number access) is (birth_at h) names s, tt)
      (record (dictionary_at s (birth_at h a)) { access = access }) (pairs_at h a)
      (shown h a known sound names s shows).index
      (sym (count-is h a known sound) ∙ count-shown h a known sound names s shows)
      (sym (capacity-is h a known sound) ∙ capacity-shown h a known sound names s shows)
      refl (pairs-shown h a known sound names s shows)
      (sym (body_fields-is h a known sound) ∙ (holds-shown h a known sound names s shows
      ∙ ap (λ n. words_of_pairs (pairs_at h a)
      ++ (replicate (2 * n) zero_word ++ (shown h a known sound names s shows).index)) left))
    where
      left : capacity_at h a - count_at h a ≡ (shape h a known sound).capacity -
          (shape h a known sound).count
      left = let k = capacity-is h a known sound in let n = count-is h a known sound in
          omega (arith, k, n)
