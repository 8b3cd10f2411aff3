-- A copy word by word: what is to be read next stands as it stood.
use Rattle.std.proofs.Common.{◌≡◌, ◌≢◌, ℕ, zero, suc, ◌+◌, ◌-◌, ◌<◌, ◌≤◌, List, [], ◌∷◌, ◌++◌, length, take, drop, refl}
use Rattle.std.proofs.Common.{sym, ap, ◌∙◌, subst, arith, length-take, length-drop}
use Rattle.std.specs.Prelude.{slice_get, slice_range}
use native.Mathlib.Decide.{ℕ_discrete}
use Rattle.ps_language.specs.Access.{splice}
use Rattle.ps_word.specs.declared.words.Word.{Word}
use Rattle.ps_mem.specs.Heap.{Heap, fields_of, fields_at, stored}
use Rattle.ps_mem.specs.Heap as memory
use Rattle.ps_mem.proofs.HeapLemmas.{object_at-stored_other, object_at-stored_same, standing_at}
use Rattle.ps_mem.proofs.Lists.{splice-suc, splice-zero}
use Rattle.ps_core_machine.specs.declared.events.Vm.{Vm}
use Rattle.ps_core_laws.specs.Memory.{heap_of}
use Rattle.ps_core_laws.specs.Stores.{numbers, fields_stored, fields_stored_down}
use Rattle.ps_core_laws.specs.MemoryLaws.{CanStore, words_copied, word_at, CanCopy, Copies}
use Rattle.ps_core_laws.proofs.Facts.{VmFacts}
use Rattle.ps_core_laws.proofs.Falling.{falls, may_fall}
use Rattle.ps_core_laws.proofs.Logged.{Target, target, heap_stored, length_numbers}
use Rattle.ps_core_laws.proofs.Written.{names_stand}

-- ---- elements beside a splice, and of a range

get-splice_before : {A : Type 0} (old : List A) (place : ℕ) (items : List A) (j : ℕ) → j < place
    → place ≤ length old → slice_get (splice old place items) j ≡ slice_get old j
get-splice_before old zero items j lt fits = absurd (omega arith)
get-splice_before [] (suc place) items j lt fits = absurd (omega arith)
get-splice_before (y ∷ old) (suc place) items zero lt fits =
    ap (λ xs. slice_get xs 0) (splice-suc y old place items)
get-splice_before (y ∷ old) (suc place) items (suc j) lt fits =
    ap (λ xs. slice_get xs (suc j)) (splice-suc y old place items)
    ∙ get-splice_before old place items j (omega arith) (omega arith)

get-front : {A : Type 0} (old items : List A) (j : ℕ) → length items ≤ j
    → length items ≤ length old → slice_get (items ++ drop (length items) old) j ≡ slice_get old j
get-front old [] j le fits = refl
get-front old (x ∷ items) zero le fits = absurd (omega arith)
get-front [] (x ∷ items) (suc j) le fits = absurd (omega arith)
get-front (y ∷ old) (x ∷ items) (suc j) le fits =
    get-front old items j (omega arith) (omega arith)

get-splice_behind : {A : Type 0} (old : List A) (place : ℕ) (items : List A) (j : ℕ)
    → place + length items ≤ j → place + length items ≤ length old
    → slice_get (splice old place items) j ≡ slice_get old j
get-splice_behind old zero items j le fits =
    ap (λ xs. slice_get xs j) (splice-zero old items)
    ∙ get-front old items j (omega arith) (omega arith)
get-splice_behind [] (suc place) items j le fits = absurd (omega arith)
get-splice_behind (y ∷ old) (suc place) items zero le fits = absurd (omega arith)
get-splice_behind (y ∷ old) (suc place) items (suc j) le fits =
    ap (λ xs. slice_get xs (suc j)) (splice-suc y old place items)
    ∙ get-splice_behind old place items j (omega arith) (omega arith)

get-take : {A : Type 0} (n : ℕ) (xs : List A) (k : ℕ) → k < n
    → slice_get (take n xs) k ≡ slice_get xs k
get-take zero xs k lt = absurd (omega arith)
get-take (suc n) [] k lt = refl
get-take (suc n) (x ∷ xs) zero lt = refl
get-take (suc n) (x ∷ xs) (suc k) lt = get-take n xs k (omega arith)

get-drop : {A : Type 0} (n : ℕ) (xs : List A) (k : ℕ)
    → slice_get (drop n xs) k ≡ slice_get xs (n + k)
get-drop zero xs k = let e : 0 + k ≡ k = omega arith in rw e refl
get-drop (suc n) [] k = refl
get-drop (suc n) (x ∷ xs) k =
    let e : suc n + k ≡ suc (n + k) = omega arith in rw e (get-drop n xs k)

get-range : {A : Type 0} (xs : List A) (place count k : ℕ) → k < count
    → slice_get (slice_range xs place (place + count)) k ≡ slice_get xs (place + k)
get-range xs place count k lt =
    get-take (place + count - place) (drop place xs) k (omega arith) ∙ get-drop place xs k

length-range : {A : Type 0} (xs : List A) (place count : ℕ) → place + count ≤ length xs
    → length (slice_range xs place (place + count)) ≡ count
length-range xs place count le =
    omega (arith, length-take (place + count - place) (drop place xs), length-drop place xs)

-- ---- the source's words beside a store

-- beside words that are stored stands what stood
module _ (h : Heap) (a i : ℕ) (items : List Word) (fits : i + length items ≤ length (fields_at h a))
    (source j : ℕ) (some : j < length (fields_at h source)) where
  beside_other : a ≢ source → slice_get (fields_at (stored h a i items) source) j
      ≡ slice_get (fields_at h source) j
  unfolding fields_at
  beside_other ne =
      ap (λ o. slice_get (fields_of o) j) (object_at-stored_other h a i items source ne)

  beside_same : a ≡ source → (slice_get (splice (fields_at h a) i items) j
      ≡ slice_get (fields_at h a) j) → slice_get (fields_at (stored h a i items) source) j
      ≡ slice_get (fields_at h source) j
  unfolding fields_at
  beside_same is e =
      let s = standing_at h a j (subst (λ b. j < length (fields_at h b)) (sym is) some) in
      let now : fields_of (memory.object_at (stored h a i items) a) ≡ splice s.0.fields i items =
      ap fields_of (object_at-stored_same h a i items s.0 s.1) in
      subst (λ b. slice_get (fields_of (memory.object_at (stored h a i items) b)) j
      ≡ slice_get (fields_of (memory.object_at h b)) j) is
      (ap (λ ws. slice_get ws j) now
      ∙ (sym (ap (λ ws. slice_get (splice ws i items) j) s.2) ∙ e))

  beside : (source ≡ a → (slice_get (splice (fields_at h a) i items) j
      ≡ slice_get (fields_at h a) j)) → slice_get (fields_at (stored h a i items) source) j
      ≡ slice_get (fields_at h source) j
  beside same = elim (ℕ_discrete a source)
      [ yes is ↦ beside_same is (same (sym is)) | no ne ↦ beside_other ne ]

-- ---- the copy

module _ (v : Vm) (facts : VmFacts v) (source place target_at i count : ℕ)
    (c : CanCopy v source place target_at i count) where
  abbrev items : List Word
  items = words_copied v source place count

  count_is : length items ≡ count
  count_is = length-range (fields_at (heap_of v) source) place count c.source_within

  can : CanStore v target_at i items
  can =
      let n = count_is in let s = c.some in let w = c.target_within in
      record {
        some = omega arith;
        within = omega arith;
        known = c.known;
        settled = c.settled;
      }

  of_target : Target v target_at i (length (numbers items))
  of_target = target v target_at i items facts can.some can.within

  -- the memory after some of the stores, those of these words from a place on
  after_some : (j : ℕ) (some : List Word) → j + length some ≤ i + count
      → heap_of (fields_stored v target_at j (numbers some)) ≡ stored (heap_of v) target_at j some
  after_some j some le =
      let t = of_target in let n = count_is in let m = length_numbers items in
      let q = length_numbers some in let fits = t.fits in
      heap_stored v target_at j some t.object t.at (omega arith)

  word_is : (k : ℕ) → k < count
      → slice_get (fields_at (heap_of v) source) (place + k) ≡ slice_get items k
  word_is k lt = sym (get-range (fields_at (heap_of v) source) place count k lt)

  rises : (source ≡ target_at → i ≤ place) → (k : ℕ) → k < count
      → word_at (fields_stored v target_at i (numbers (take k items))) source (place + k)
      ≡ slice_get items k
  rises order k lt =
      let first = take k items in
      let n = count_is in let s = c.source_within in let w = c.target_within in
      let long = length-take k items in
      ap (λ h. slice_get (fields_at h source) (place + k)) (after_some i first (omega arith))
      ∙ (beside (heap_of v) target_at i first (omega arith) source (place + k) (omega arith)
      (λ same. let le = order same in
      get-splice_behind (fields_at (heap_of v) target_at) i first (place + k) (omega arith)
      (omega arith)) ∙ word_is k lt)

  falls_so : (source ≡ target_at → place ≤ i) → (k : ℕ) → k < count
      → word_at (fields_stored_down v target_at (i + (k + 1)) (numbers (drop (k + 1) items)))
      source (place + k) ≡ slice_get items k
  falls_so order k lt =
      let last = drop (k + 1) items in
      let n = count_is in let s = c.source_within in let w = c.target_within in
      let long = length-drop (k + 1) items in
      ap (λ u. word_at u source (place + k))
      (falls v target_at (i + (k + 1)) (numbers last) c.settled)
      ∙ (ap (λ h. slice_get (fields_at h source) (place + k))
      (after_some (i + (k + 1)) last (omega arith))
      ∙ (beside (heap_of v) target_at (i + (k + 1)) last (omega arith) source (place + k)
      (omega arith) (λ same. let le = order same in
      get-splice_before (fields_at (heap_of v) target_at) (i + (k + 1)) last (place + k)
      (omega arith) (omega arith)) ∙ word_is k lt))

pub copies : (v : Vm) → VmFacts v → Copies v
copies v facts source place target_at i count c =
    let t = of_target v facts source place target_at i count c in
    let ws = words_copied v source place count in
    record {
      can = can v facts source place target_at i count c;
      count_is = count_is v facts source place target_at i count c;
      down = may_fall v target_at i (numbers ws) t.object t.at t.fits
          (names_stand v target_at t.object ws t.at c.known) c.settled;
      same = falls v target_at i (numbers ws) c.settled;
      rising = rises v facts source place target_at i count c;
      falling = falls_so v facts source place target_at i count c;
    }
