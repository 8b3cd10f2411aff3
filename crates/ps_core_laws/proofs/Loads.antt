-- Loads of words: what stands in the memory, while the part stays.
use Rattle.std.proofs.Common.{◌≡◌, ℕ, ◌+◌, ◌-◌, ◌<◌, ◌≤◌, Bool, false, ◌&&◌, length, map, Some, Option, refl, sym, ap}
use Rattle.std.proofs.Common.{◌∙◌, inl, inr, subst, arith}
use Rattle.std.specs.Prelude.{slice_get, slice_set, nat_le, nat_lt, IfSome, if◌then◌else◌}
use Rattle.std.specs.Option.{option_map}
use Rattle.ps_word.specs.Headers.{kind_in, fields_in, birth_in}
use Rattle.ps_mem.specs.Heap.{Standing}
use Rattle.ps_mem.specs.Objects.{kind_of_number, word_of}
use Rattle.ps_core_machine.specs.declared.events.Vm.{Vm}
use Rattle.ps_core_laws.specs.Laws.{WordsFollow}
use Rattle.ps_core_laws.specs.Runs.{Always}
use Rattle.ps_core_laws.proofs.HeapTests.{bool_cases, le_is, lt_is}
use Rattle.ps_core_laws.specs.Memory.{standing}
use Rattle.ps_core_laws.specs.MemoryLaws.{StaysAfterLoad, LoadsControl, LoadsFields, LoadsHeaders, header_of, header_told}
use Rattle.ps_core_laws.proofs.Facts.{VmFacts, field_found, header_found}
use Rattle.ps_core_laws.proofs.Room.{and_not_right}
use Rattle.ps_core_laws.proofs.Standing.{in_heap, object_of, field_of, fields_of_object, at_word, length_words}

-- what is no head
pub stays : (v : Vm) (place : ℕ) → (nat_le 2 place && nat_lt place 34) ≡ false → StaysAfterLoad v place
stays v place no_head g word =
    ap (λ (b : Bool). record v {
      heads = if b then slice_set v.heads
          (place - 2) word else v.heads;
    })
    no_head

pub behind_heads : (place : ℕ) → 34 ≤ place → (nat_le 2 place && nat_lt place 34) ≡ false
behind_heads place le =
    and_not_right (nat_le 2 place) (nat_lt place 34) (elim (bool_cases (nat_lt place 34))
    [ inl t ↦ (let x = lt_is place 34 t in absurd (omega arith)) | inr f ↦ f ])

before_heads : (place : ℕ) → place < 2 → (nat_le 2 place && nat_lt place 34) ≡ false
before_heads place lt = elim (bool_cases (nat_le 2 place))
    [ inl t ↦ (let x = le_is 2 place t in absurd (omega arith)) | inr f ↦ rw f refl ]

pub control_loads : (v : Vm) → LoadsControl v
control_loads v place lt = stays v place (before_heads place lt)

module _ (words : Always WordsFollow) (v : Vm) (k : VmFacts v) where
  pub field_loads : LoadsFields v
  field_loads a i lt =
      let f = field_of v a i lt in
      let o = f.0 in
      let w = k.within a o f.1 in
      let lo = w.0 in let hi = w.1 in let below = f.2 in
      let base = k.base_low in let top = k.end_high in let wide = k.base_high in
      record {
        place = omega arith;
        word = λ n finds. ap (λ (ws : _). slice_get ws i) (fields_of_object v a o f.1)
            ∙ (at_word o.fields i f.2
            ∙ ap (λ (m : ℕ). Some (word_of m)) (field_found words v a i n o finds f.1 f.2));
        stays = stays v (a + 2 + i) (behind_heads (a + 2 + i) (omega arith));
      }

  pub header_loads : LoadsHeaders v
  header_loads a some =
      let f = object_of v a some in
      let o = f.0 in
      let w = k.within a o f.1 in
      let lo = w.0 in let hi = w.1 in
      let base = k.base_low in let top = k.end_high in let wide = k.base_high in
      record {
        place = omega arith;
        word = λ n finds.
            let n_is : o.header ≡ n = header_found words v a n o finds f.1 in
            let count : fields_in n ≡ length (map word_of o.fields) = ap fields_in (sym n_is)
            ∙ (sym (k.sized a o f.1) ∙ sym (length_words o.fields)) in
            let whole : header_of n ≡ header_told (standing o) =
            (λ i. record {
              kind = kind_of_number (kind_in (sym n_is i));
              fields = count i;
              birth = birth_in (sym n_is i);
            }) in
            subst (λ (x : Option Standing). IfSome x (λ o. header_of n ≡ header_told o))
            (sym (in_heap v a ∙ ap (option_map standing) f.1)) whole;
        stays = stays v a (behind_heads a (omega arith));
      }
