-- One word of a copy: its load and its store, in rising and in falling order.
use Rattle.std.proofs.Common.{◌≡◌, ℕ, zero, suc, ◌+◌, ◌-◌, ◌<◌, ◌≤◌, List, [], ◌∷◌, length, take, drop, Some, refl, sym}
use Rattle.std.proofs.Common.{ap, ◌∙◌, subst, arith}
use Rattle.std.specs.Prelude.{slice_get}
use Rattle.std.specs.Option.{option_map}
use Rattle.std.proofs.lemmas.Option.{slice_get_within, slice_get-map}
use Rattle.ps_word.specs.declared.words.Word.{Word}
use Rattle.ps_mem.specs.Heap.{fields_at}
use Rattle.ps_core_machine.specs.declared.events.Event.TheVariants.{FieldStore}
use Rattle.ps_core_machine.specs.declared.events.Vm.{Vm}
use Rattle.ps_core_machine.specs.Conditions.{VmMay}
use Rattle.ps_core_machine.specs.Steps.{field_stored, table_size}
use Rattle.ps_core_laws.proofs.Lists.{get_some}
use Rattle.ps_core_laws.specs.Memory.{heap_of}
use Rattle.ps_core_laws.specs.Shown.{VmRuns, VmFinds}
use Rattle.ps_core_laws.specs.Stores.{number_of, numbers, fields_stored, MayStoreFields, fields_stored_down}
use Rattle.ps_core_laws.specs.Stores.{MayStoreFieldsDown}
use Rattle.ps_core_laws.specs.MemoryLaws.{StaysAfterLoad, words_copied, word_at, CanCopy, CopiesWords}
use Rattle.ps_core_laws.proofs.Copied.{copies}
use Rattle.ps_core_laws.proofs.Loads.{field_loads}
use Rattle.ps_core_laws.proofs.Stored.{stores}
use Rattle.ps_table.proofs.Facts.{words, vm_facts}

-- ---- the words that are stored, one of them

may_at : (v : Vm) (a i : ℕ) (ws : List ℕ) (k w : ℕ) → MayStoreFields v a i ws
    → slice_get ws k ≡ Some w → VmMay (fields_stored v a i (take k ws)) (FieldStore a (i + k) w)
may_at v a i [] k w may e = absurd (let lt = slice_get_within [] k w e in omega arith)
may_at v a i (x ∷ ws) zero w may e =
    subst (λ (y : ℕ × ℕ). VmMay v (FieldStore a y.0 y.1))
    (λ j. ((let z : i ≡ i + 0 = omega arith in z) j, (let z : x ≡ w = cc in z) j)) may.0
may_at v a i (x ∷ ws) (suc k) w may e =
    subst (λ (y : ℕ). VmMay (fields_stored (field_stored v a i x) a (i + 1) (take k ws))
    (FieldStore a y w)) (let z : i + 1 + k ≡ i + suc k = omega arith in z)
    (may_at (field_stored v a i x) a (i + 1) ws k w may.1 e)

stored_at : (v : Vm) (a i : ℕ) (ws : List ℕ) (k w : ℕ) → slice_get ws k ≡ Some w
    → field_stored (fields_stored v a i (take k ws)) a (i + k) w
    ≡ fields_stored v a i (take (suc k) ws)
stored_at v a i [] k w e = absurd (let lt = slice_get_within [] k w e in omega arith)
stored_at v a i (x ∷ ws) zero w e =
    (λ j. field_stored v a ((let z : i + 0 ≡ i = omega arith in z) j)
    ((let z : w ≡ x = cc in z) j))
stored_at v a i (x ∷ ws) (suc k) w e =
    ap (λ (y : ℕ). field_stored (fields_stored (field_stored v a i x) a (i + 1) (take k ws)) a y w)
    (let z : i + suc k ≡ i + 1 + k = omega arith in z)
    ∙ stored_at (field_stored v a i x) a (i + 1) ws k w e

may_down_at : (v : Vm) (a i : ℕ) (ws : List ℕ) (k w : ℕ) → MayStoreFieldsDown v a i ws
    → slice_get ws k ≡ Some w
    → VmMay (fields_stored_down v a (i + (k + 1)) (drop (suc k) ws)) (FieldStore a (i + k) w)
may_down_at v a i [] k w may e = absurd (let lt = slice_get_within [] k w e in omega arith)
may_down_at v a i (x ∷ ws) zero w may e =
    subst (λ (y : ℕ × ℕ). VmMay (fields_stored_down v a (i + 1) ws) (FieldStore a y.0 y.1))
    (λ j. ((let z : i ≡ i + 0 = omega arith in z) j, (let z : x ≡ w = cc in z) j)) may.1
may_down_at v a i (x ∷ ws) (suc k) w may e =
    subst (λ (y : ℕ × ℕ). VmMay (fields_stored_down v a y.0 (drop (suc k) ws))
    (FieldStore a y.1 w))
    (λ j. (
      (let z : i + 1 + (k + 1) ≡ i + (suc k + 1) = omega arith in z) j,
      (let z : i + 1 + k ≡ i + suc k = omega arith in z) j,
    ))
    (may_down_at v a (i + 1) ws k w may.0 e)

down_at : (v : Vm) (a i : ℕ) (ws : List ℕ) (k w : ℕ) → slice_get ws k ≡ Some w
    → field_stored (fields_stored_down v a (i + (k + 1)) (drop (suc k) ws)) a (i + k) w
    ≡ fields_stored_down v a (i + k) (drop k ws)
down_at v a i [] k w e = absurd (let lt = slice_get_within [] k w e in omega arith)
down_at v a i (x ∷ ws) zero w e =
    (λ j. field_stored (fields_stored_down v a ((let z : i + 1 ≡ i + 0 + 1 = omega arith in z) j)
    ws) a (i + 0) ((let z : w ≡ x = cc in z) j))
down_at v a i (x ∷ ws) (suc k) w e =
    (λ j. field_stored (fields_stored_down v a
    ((let z : i + (suc k + 1) ≡ i + 1 + (k + 1) = omega arith in z) j) (drop (suc k) ws)) a
    ((let z : i + suc k ≡ i + 1 + k = omega arith in z) j) w)
    ∙ (down_at v a (i + 1) ws k w e
    ∙ ap (λ (y : ℕ). fields_stored_down v a y (drop k ws))
    (let z : i + 1 + k ≡ i + suc k = omega arith in z))

one_more : (k : ℕ) → suc k ≡ k + 1
one_more k = omega arith

numbers_take : (k : ℕ) (items : List Word) → numbers (take k items) ≡ take k (numbers items)
numbers_take zero items = refl
numbers_take (suc k) [] = refl
numbers_take (suc k) (x ∷ items) = ap (λ (l : List ℕ). x.0 ∷ l) (numbers_take k items)

numbers_drop : (k : ℕ) (items : List Word) → numbers (drop k items) ≡ drop k (numbers items)
numbers_drop zero items = refl
numbers_drop (suc k) [] = refl
numbers_drop (suc k) (x ∷ items) = numbers_drop k items

pub take_all : (k : ℕ) (items : List Word) → length items ≡ k → take k items ≡ items
take_all zero [] e = refl
take_all zero (x ∷ items) e = absurd (omega arith)
take_all (suc k) [] e = refl
take_all (suc k) (x ∷ items) e = ap (λ (l : List Word). x ∷ l) (take_all k items (omega arith))

pub drop_all : (k : ℕ) (items : List Word) → length items ≡ k → drop k items ≡ []
drop_all zero [] e = refl
drop_all zero (x ∷ items) e = absurd (omega arith)
drop_all (suc k) [] e = refl
drop_all (suc k) (x ∷ items) e = drop_all k items (omega arith)

-- ---- one word

-- a load from a field, which leaves the part, and the store of the word found
pub record CopiesOne (cur : Vm) (s p t i : ℕ) (next : Vm) : Type 0 where
  pub inside : s + 2 + p < table_size cur.space
  pub stays : StaysAfterLoad cur (s + 2 + p)
  pub may : (n : ℕ) → VmFinds cur (s + 2 + p) n → VmMay cur (FieldStore t i n)
  pub next_is : (n : ℕ) → VmFinds cur (s + 2 + p) n → field_stored cur t i n ≡ next

-- the word that is read is the one that stood
reads : (cur : Vm) (s p k : ℕ) (items : List Word) (next : Vm) (t i : ℕ) → ∥ VmRuns cur ∥₁
    → k < length items → word_at cur s p ≡ slice_get items k
    → ((n : ℕ) → slice_get (numbers items) k ≡ Some n
    → VmMay cur (FieldStore t i n) × (field_stored cur t i n ≡ next))
    → CopiesOne cur s p t i next
reads cur s p k items next t i runs lt same then =
    let w = get_some items k lt in
    let here : slice_get (fields_at (heap_of cur) s) p ≡ Some w.0 = same ∙ w.1 in
    let f = field_loads words cur (vm_facts cur runs) s p
    (slice_get_within (fields_at (heap_of cur) s) p w.0 here) in
    let found : (n : ℕ) → VmFinds cur (s + 2 + p) n → slice_get (numbers items) k ≡ Some n =
    (λ n finds. slice_get-map number_of items k
    ∙ ap (option_map number_of) (sym same ∙ f.word n finds)) in
    record {
      inside = f.place;
      stays = f.stays;
      may = λ n finds. (then n (found n finds)).0;
      next_is = λ n finds. (then n (found n finds)).1;
    }

module _ (v : Vm) (runs : ∥ VmRuns v ∥₁) (s p t i count : ℕ) (can : CanCopy v s p t i count) where
  abbrev items : List Word
  items = words_copied v s p count

  abbrev pub rising : ℕ → Vm
  rising k = fields_stored v t i (numbers (take k items))

  abbrev pub falling : ℕ → Vm
  falling k = fields_stored_down v t (i + k) (numbers (drop k items))

  so : CopiesWords v s p t i count items
  so = copies v (vm_facts v runs) s p t i count can

  may_all : MayStoreFields v t i (numbers items)
  may_all = (stores v (vm_facts v runs) t i items so.can).may

  pub rises : (s ≡ t → i ≤ p) → (cur : Vm) (k : ℕ) → k < count → ∥ VmRuns cur ∥₁
      → cur ≡ rising k → CopiesOne cur s (p + k) t (i + k) (rising (k + 1))
  rises order cur k lt at is = let n = so.count_is in
      reads cur s (p + k) k items (rising (k + 1)) t (i + k) at (omega arith)
      (ap (λ (x : Vm). word_at x s (p + k)) is ∙ so.rising order k lt)
      (λ n e.
      let here : cur ≡ fields_stored v t i (take k (numbers items)) =
      is ∙ ap (fields_stored v t i) (numbers_take k items) in (
        subst (λ (x : Vm). VmMay x (FieldStore t (i + k) n)) (sym here)
            (may_at v t i (numbers items) k n may_all e),
        ap (λ (x : Vm). field_stored x t (i + k) n) here
            ∙ (stored_at v t i (numbers items) k n e
            ∙ (ap (λ (x : ℕ). fields_stored v t i (take x (numbers items))) (one_more k)
            ∙ sym (ap (fields_stored v t i) (numbers_take (k + 1) items)))),
      ))

  pub falls : (s ≡ t → p ≤ i) → (cur : Vm) (k : ℕ) → k < count → ∥ VmRuns cur ∥₁
      → cur ≡ falling (k + 1) → CopiesOne cur s (p + k) t (i + k) (falling k)
  falls order cur k lt at is = let n = so.count_is in
      reads cur s (p + k) k items (falling k) t (i + k) at (omega arith)
      (ap (λ (x : Vm). word_at x s (p + k)) is ∙ so.falling order k lt)
      (λ n e.
      let here : cur ≡ fields_stored_down v t (i + (k + 1)) (drop (suc k) (numbers items)) =
      is ∙ (ap (fields_stored_down v t (i + (k + 1))) (numbers_drop (k + 1) items)
      ∙ ap (λ (x : ℕ). fields_stored_down v t (i + (k + 1)) (drop x (numbers items)))
      (sym (one_more k))) in (
        subst (λ (x : Vm). VmMay x (FieldStore t (i + k) n)) (sym here)
            (may_down_at v t i (numbers items) k n so.down e),
        ap (λ (x : Vm). field_stored x t (i + k) n) here
            ∙ (down_at v t i (numbers items) k n e
            ∙ sym (ap (fields_stored_down v t (i + k)) (numbers_drop k items))),
      ))

  -- the same from the number of words that are left
  pub falls_from : (s ≡ t → p ≤ i) → (cur : Vm) (left : ℕ) → 0 < left → left ≤ count
      → ∥ VmRuns cur ∥₁ → cur ≡ falling left
      → CopiesOne cur s (p + (left - 1)) t (i + (left - 1)) (falling (left - 1))
  falls_from order cur left some le at is = falls order cur (left - 1) (omega arith) at
      (is ∙ ap (λ (x : ℕ). falling x) (let z : left ≡ left - 1 + 1 = omega arith in z))

  pub rising_all : rising count ≡ fields_stored v t i (numbers items)
  rising_all = ap (λ (l : List Word). fields_stored v t i (numbers l))
      (take_all count items so.count_is)

  pub falling_none : falling count ≡ v
  falling_none = ap (λ (l : List Word). fields_stored_down v t (i + count) (numbers l))
      (drop_all count items so.count_is)

  pub falling_all : falling 0 ≡ fields_stored v t i (numbers items)
  falling_all = ap (λ (y : ℕ). fields_stored_down v t y (numbers items))
      (let z : i + 0 ≡ i = omega arith in z) ∙ so.same
