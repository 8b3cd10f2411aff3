-- A new object.
use Rattle.std.proofs.Common.{◌≡◌, ◌≢◌, ◌^◌, ℕ, zero, suc, ◌+◌, ◌-◌, ◌<◌, ◌≤◌, false, nat_eq, List, ◌∷◌, map, replicate}
use Rattle.std.proofs.Common.{Some, None, Option, refl, sym, ap, ◌∙◌, arith}
use Rattle.std.specs.Prelude.{◌==◌}
use Rattle.std.specs.Option.{option_map}
use native.Mathlib.Decide.{ℕ_discrete}
use Rattle.ps_language.specs.declared.kinds.Kind.{Kind}
use Rattle.ps_language.specs.declared.kinds.Kind.TheVariants.{Array, Text, Dictionary, Lock, Condition, Body}
use Rattle.ps_word.specs.declared.words.Word.{Word}
use Rattle.ps_word.specs.Headers.{kind_in, fields_in, kind_number}
use Rattle.ps_mem.specs.Heap.{Standing, AfterNew, made, zero_word}
use Rattle.ps_mem.specs.Heap as memory
use Rattle.ps_mem.specs.Objects.{kind_of_number, word_of}
use Rattle.ps_mem.proofs.HeapLemmas.{same_heap, object_at-made_same, object_at-made_other, next-made}
use Rattle.ps_core_machine.specs.declared.events.Object.{Object}
use Rattle.ps_core_machine.specs.declared.events.Vm.{Vm}
use Rattle.ps_core_machine.specs.Objects.{among, object_at}
use Rattle.ps_core_machine.specs.Steps.{space_base, table_size, new_object, next_birth_after}
use Rattle.ps_core_laws.proofs.HeapTests.{number_not, eq_true, same_number, or_right}
use Rattle.ps_core_laws.specs.Memory.{heap_of, grants_of, standing}
use Rattle.ps_core_laws.specs.MemoryLaws.{IsNew}
use Rattle.ps_core_laws.specs.Stores.{part_made}
use Rattle.ps_core_laws.proofs.Facts.{VmFacts}
use Rattle.ps_core_laws.proofs.Standing.{in_heap}

kind_back : (kind : Kind) → kind_of_number (kind_number kind) ≡ kind
kind_back Array = refl
kind_back Text = refl
kind_back Dictionary = refl
kind_back Lock = refl
kind_back Condition = refl
kind_back Body = refl

pub kind_range : (kind : Kind) → (6 ≤ kind_number kind) × (kind_number kind ≤ 11)
kind_range Array = (omega arith, omega arith)
kind_range Text = (omega arith, omega arith)
kind_range Dictionary = (omega arith, omega arith)
kind_range Lock = (omega arith, omega arith)
kind_range Condition = (omega arith, omega arith)
kind_range Body = (omega arith, omega arith)

pub not_body : (kind : Kind) → kind ≢ Body → (kind_number kind == 11) ≡ false
not_body Array ne = refl
not_body Text ne = refl
not_body Dictionary ne = refl
not_body Lock ne = refl
not_body Condition ne = refl
not_body Body ne = absurd (ne refl)

pub zeros : (n : ℕ) → map word_of (replicate n 0) ≡ replicate n zero_word
zeros zero = refl
zeros (suc n) = ap (λ (l : List Word). zero_word ∷ l) (zeros n)

-- nothing stands at the end of what is in use
none_at : (v : Vm) → VmFacts v → object_at v.objects v.end ≡ None
none_at v r = go (object_at v.objects v.end) refl
  where
    go : (x : Option Object) → object_at v.objects v.end ≡ x → object_at v.objects v.end ≡ None
    go None e = e
    go (Some o) e = let hi = (r.within v.end o e).1 in absurd (omega arith)

pub free_end : (v : Vm) → VmFacts v → memory.object_at (heap_of v) v.end ≡ None
free_end v r = in_heap v v.end ∙ ap (option_map standing) (none_at v r)

-- what is granted lies in the table
pub place_end : (v : Vm) (fields : ℕ) → VmFacts v → 2 + fields ≤ (grants_of v).words
    → v.end + 2 + fields ≤ table_size v.space
place_end v fields k fits = let wide = k.base_high in omega arith

pub low_end : (v : Vm) → VmFacts v → v.end < 2 ^ 24
low_end v k = let hi = k.end_high in let wide = k.base_high in let n =
    k.size.1 in omega arith

next_is : (v : Vm) (header : ℕ) (kind : Kind) (fields : ℕ) → IsNew v header kind fields
    → next_birth_after v.next_birth header ≡ v.next_birth + 1
next_is v header kind fields n = let t : (kind_in header == 11) ≡ false =
    ap (λ (k : ℕ). k == 11) n.kind_is ∙ not_body kind n.no_body in rw t refl

used_made : (v : Vm) (header : ℕ) (kind : Kind) (fields : ℕ) → VmFacts v
    → IsNew v header kind fields
    → (v.end + 2 + fields_in header) - space_base v.space v.cycle ≡
    (made (heap_of v) v.end kind fields).used
unfolding made
used_made v header kind fields r n = let lo = r.low_end in let f = n.fields_is in
    omega arith

space_made : (v : Vm) (kind : Kind) (fields : ℕ)
    → (heap_of v).space ≡ (made (heap_of v) v.end kind fields).space
unfolding made
space_made v kind fields = refl

pub heap_made : (v : Vm) (header : ℕ) (kind : Kind) (fields : ℕ) → VmFacts v
    → IsNew v header kind fields → heap_of (part_made v header) ≡ made (heap_of v) v.end kind fields
heap_made v header kind fields r n =
    let new : Object = new_object v.end header in
    let stands : standing new ≡ record
    { kind = kind; birth = v.next_birth; fields = replicate fields zero_word } =
    (λ k. record {
      kind = (ap kind_of_number n.kind_is ∙ kind_back kind) k;
      birth =
          n.birth_is k;
      fields = (zeros (fields_in header)
          ∙ ap (λ (m : ℕ). replicate m zero_word) n.fields_is) k;
    }) in
    same_heap (heap_of (part_made v header)) (made (heap_of v) v.end kind fields)
    (λ b. in_heap (part_made v header) b
    ∙ elim (ℕ_discrete v.end b) as
    (λ _. option_map standing (object_at (new ∷ v.objects) b) ≡ memory.object_at
    (made (heap_of v) v.end kind fields) b) [
      | yes is ↦ let t = eq_true b v.end (sym is) in
          rw t (ap (λ (s : Standing). Some s) stands
          ∙ (sym (object_at-made_same (heap_of v) v.end kind fields)
          ∙ ap (memory.object_at (made (heap_of v) v.end kind fields)) is))
      | no ne ↦ let f = number_not b v.end (λ e. ne (sym e)) in
          rw f (sym (in_heap v b) ∙ sym (object_at-made_other (heap_of v) v.end kind fields b ne))
    ])
    (next_is v header kind fields n ∙ sym (next-made (heap_of v) v.end kind fields))
    (used_made v header kind fields r n)
    (space_made v kind fields)

pub after_new : (v : Vm) (header : ℕ) (kind : Kind) (fields : ℕ) → IsNew v header kind fields
    → AfterNew (grants_of v) (grants_of (part_made v header)) v.end (2 + fields) 1
after_new v header kind fields n =
    let next = next_is v header kind fields n in
    let f = n.fields_is in
    record {
      fresh = let t = same_number v.end in rw t refl;
      still_fresh = λ a t. or_right (nat_eq a v.end) (among v.fresh a) t;
      words = omega arith;
      births = omega arith;
      cycle_open = refl;
      records = refl;
      put = refl;
      closed = refl;
    }
