-- Strings of a memory as lists of bytes.
use Rattle.std.proofs.Common.{◌≡◌, ℕ, zero, suc, ◌+◌, ◌-◌, ◌*◌, ◌/◌, ◌%◌, ◌<◌, ◌≤◌, List, [], ◌∷◌, ◌++◌, length, take, drop, get_or, Some, refl, sym, ap, arith, ◌∙◌, subst}
use Rattle.std.specs.Prelude.{slice_get, slice_range}
use Rattle.std.specs.Int.{w64, to_le_bytes}
use Rattle.std.proofs.lemmas.List.{get_or-drop, drop-drop, length-drop, append_assoc}
use Rattle.std.proofs.Math.Seq.{take-add}
use Rattle.ps_language.specs.declared.kinds.Kind.TheVariants.{Text as TextKind}
use Rattle.ps_language.specs.Value.{Store, string_object}
use Rattle.ps_language.specs.Access.{bytes, bytes_in}
use Rattle.ps_word.specs.declared.words.Word.{Word}
use Rattle.ps_mem.specs.Heap.{Heap, birth_of, birth_at, fields_at, fields_of}
use Rattle.ps_mem.specs.References.{StandsAs}
use Rattle.ps_mem.specs.Strings.{AreBytes, words_of}
use Rattle.ps_mem.specs.Shows.{Shows}
use Rattle.ps_mem.proofs.StoreShows.{text-shown}
use Rattle.ps_mem.proofs.NewLemmas.{slice_get-index}
use Rattle.ps_seq.proofs.ByteLemmas.{padded, get_or-padded, run-padded, bytes_of_word}

-- what a store has for a string that stands
pub record TextAt (h : Heap) (a : ℕ) (s : Store) : Type 0 where
  pub there : slice_get s (birth_at h a) ≡ Some (string_object (bytes s (birth_at h a)))
  pub are : AreBytes (bytes s (birth_at h a))
  pub words : fields_at h a ≡ words_of (bytes s (birth_at h a))

module _ (h : Heap) (a n : ℕ) (known : StandsAs h TextKind a n) where
  pub fields-text : fields_at h a ≡ known.object.fields
  unfolding fields_at
  fields-text = ap fields_of known.at

  pub birth-text : birth_at h a ≡ known.object.birth
  unfolding birth_at
  birth-text = ap birth_of known.at

  pub text_reaches : n ≤ length (fields_at h a)
  text_reaches = subst (λ (ws : List Word). n ≤ length ws) (sym fields-text) known.fits

  pub text_at : (names : List (List ℕ)) (s : Store) → Shows h names s → TextAt h a s
  unfolding bytes
  text_at names s shows =
      let (text, there, are, words) = text-shown h names s shows a known.object known.at
      known.kind_is in
      let found : slice_get s (birth_at h a) ≡ Some (string_object text) = ap
      (slice_get s) birth-text ∙ there in
      let is : bytes s (birth_at h a) ≡ text = ap bytes_in found in
      record {
        there = found ∙ ap (λ t. Some (string_object t)) (sym is);
        are = subst AreBytes (sym is) are;
        words = fields-text ∙ (words ∙ ap words_of (sym is));
      }

-- fewer words stand
pub stands_shorter : (h : Heap) (a n m : ℕ) → m ≤ n → StandsAs h TextKind a n
    → StandsAs h TextKind a m
stands_shorter h a n m less known =
    let fits = known.fits in record {
      object = known.object;
      at = known.at;
      kind_is = known.kind_is;
      fits = omega (arith, fits, less);
    }

-- ---- bytes of a word that was read

module _ (h : Heap) (a : ℕ) (s : Store) (text : TextAt h a s) (k : ℕ) (w : Word) (read : slice_get
    (fields_at h a) k ≡ Some w) where
  pub loaded_bytes : 8 * k < length (bytes s (birth_at h a)) → to_le_bytes w64 w.0 ≡ padded 8 (drop
      (8 * k) (bytes s (birth_at h a)))
  loaded_bytes below =
      bytes_of_word (bytes s (birth_at h a)) k w text.are (sym (ap
      (λ ws. slice_get ws k) text.words) ∙ read) (omega (arith, below))

  -- one byte
  pub loaded_byte : (at : ℕ) → k ≡ at / 8 → at < length (bytes s (birth_at h a)) → slice_get
      (bytes s (birth_at h a)) at ≡ Some (get_or (to_le_bytes w64 w.0) (at % 8) 0)
  loaded_byte at place below =
      let t = bytes s (birth_at h a) in
      let start : 8 * k < length t = omega (arith, place, below) in
      let low : at % 8 < 8 = omega arith in
      let split : 8 * k + at % 8 ≡ at = omega (arith, place) in
      let value : get_or (to_le_bytes w64 w.0) (at % 8) 0 ≡ get_or t at 0 =
      ap (λ ns. get_or ns (at % 8) 0) (loaded_bytes start)
      ∙ (get_or-padded 8 (drop (8 * k) t) (at % 8) low
      ∙ (get_or-drop (8 * k) t (at % 8) 0 ∙ ap (λ m. get_or t m 0) split)) in
      slice_get-index t at below ∙ ap Some (sym value)

  -- a run of bytes
  pub loaded_run : (r n : ℕ) → r + n ≤ 8 → 0 < n → 8 * k + (r + n) ≤ length (bytes s (birth_at h a))
      → take n (drop r (to_le_bytes w64 w.0)) ≡ take n (drop (8 * k + r) (bytes s (birth_at h a)))
  loaded_run r n fits some within =
      let t = bytes s (birth_at h a) in
      let start : 8 * k < length t = omega (arith, within, some) in
      let long : r + n ≤ length (drop (8 * k) t) = omega (arith, within, length-drop (8 * k) t) in
      ap (λ ns. take n (drop r ns)) (loaded_bytes start)
      ∙ (run-padded 8 r n (drop (8 * k) t) fits long
      ∙ ap (take n) (drop-drop r (8 * k) t))

  -- a run of bytes, appended to those before it
  pub loaded_more : (xs out : List ℕ) (from place count : ℕ) → k ≡ place / 8 → from ≤ place
      → 0 < count → place % 8 + count ≤ 8 → place + count ≤ length (bytes s (birth_at h a)) →
      out ≡ xs ++ slice_range (bytes s (birth_at h a)) from place → out ++ slice_range
      (to_le_bytes w64 w.0) (place % 8) (place % 8 + count) ≡ xs ++ slice_range (bytes s
      (birth_at h a)) from (place + count)
  loaded_more xs out from place count is behind some fits within so_far =
      let t = bytes s (birth_at h a) in
      let low : place % 8 < 8 = omega arith in
      let split : 8 * k + place % 8 ≡ place = omega (arith, is) in
      let long : (place % 8 + count) - place % 8 ≡ count = omega arith in
      let more : (place + count) - from ≡ (place - from) + count = omega (arith, behind) in
      let there : from + (place - from) ≡ place = omega (arith, behind) in
      let run : slice_range (to_le_bytes w64 w.0) (place % 8) (place % 8 + count) ≡ take count
      (drop place t) =
      ap (λ n. take n (drop (place % 8) (to_le_bytes w64 w.0))) long ∙ (loaded_run
      (place % 8) count fits some (omega (arith, split, within)) ∙ ap (λ m. take count
      (drop m t)) split) in
      let joined : slice_range t from (place + count) ≡ slice_range t from place ++ take count
      (drop place t) =
      ap (λ n. take n (drop from t)) more
      ∙ (take-add (place - from) count (drop from t) ∙ ap (λ ds. slice_range t from place ++ take
      count ds) (drop-drop (place - from) from t ∙ ap (λ m. drop m t) there)) in
      ap (λ os. os ++ slice_range (to_le_bytes w64 w.0) (place % 8) (place % 8 + count)) so_far
      ∙ (ap (λ r. (xs ++ slice_range t from place) ++ r) run
      ∙ (append_assoc xs (slice_range t from place) (take count (drop place t)) ∙ ap (λ r. xs ++ r)
      (sym joined)))

-- ---- runs

-- a run and the one behind it
pub runs_joined : (t : List ℕ) (from place next : ℕ) → from ≤ place → place ≤ next
    → slice_range t from place ++ slice_range t place next ≡ slice_range t from next
runs_joined t from place next low high =
    let more : next - from ≡ (place - from) + (next - place) = omega (arith, low, high) in
    let there : from + (place - from) ≡ place = omega (arith, low) in
    sym (ap (λ n. take n (drop from t)) more
    ∙ (take-add (place - from) (next - place) (drop from t)
    ∙ ap (λ ds. slice_range t from place ++ take (next - place) ds)
    (drop-drop (place - from) from t ∙ ap (λ m. drop m t) there)))

-- a run within the first bytes
pub run-take : (n : ℕ) (ys : List ℕ) (i c : ℕ) → i + c ≤ n
    → take c (drop i (take n ys)) ≡ take c (drop i ys)
run-take n ys zero zero fits = refl
run-take zero ys zero (suc c) fits = absurd (omega arith)
run-take (suc n) [] zero (suc c) fits = refl
run-take (suc n) (y ∷ ys) zero (suc c) fits =
    ap (λ zs. y ∷ zs) (run-take n ys zero c (omega arith))
run-take zero ys (suc i) c fits = absurd (omega arith)
run-take (suc n) [] (suc i) c fits = refl
run-take (suc n) (y ∷ ys) (suc i) c fits = run-take n ys i c (omega arith)
