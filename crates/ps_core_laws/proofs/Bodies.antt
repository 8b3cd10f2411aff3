-- A new body, with the birth number of a dictionary that stands.
use Rattle.std.proofs.Common.{◌≡◌, ℕ, ◌+◌, ◌-◌, ◌&&◌, Bool, true, nat_eq, List, [], ◌∷◌, replicate, Some, None, Option}
use Rattle.std.proofs.Common.{refl, sym, ap, ◌∙◌, inl, inr, subst, arith}
use Rattle.std.specs.Option.{option_map}
use Rattle.std.specs.List.{list_any}
use native.Mathlib.Decide.{ℕ_discrete}
use Rattle.ps_language.specs.declared.kinds.Kind.TheVariants.{Dictionary, Body}
use Rattle.ps_word.specs.Headers.{kind_in, fields_in, birth_in}
use Rattle.ps_mem.specs.Heap.{Standing, AfterNew, IsKind, birth_of, birth_at, made_body, zero_word}
use Rattle.ps_mem.specs.Heap as memory
use Rattle.ps_mem.specs.Objects.{kind_of_number}
use Rattle.ps_mem.proofs.HeapLemmas.{same_heap, object_at-made_body_same, object_at-made_body_other, next-made_body}
use Rattle.ps_core_machine.specs.declared.events.Object.{Object}
use Rattle.ps_core_machine.specs.declared.events.Vm.{Vm}
use Rattle.ps_core_machine.specs.Objects.{among, object_at}
use Rattle.ps_core_machine.specs.Steps.{space_base, new_object, next_birth_after}
use Rattle.ps_core_machine.specs.Conditions.{dictionary_stands}
use Rattle.ps_core_laws.proofs.HeapTests.{bool_cases, number_not, eq_true, same_number, or_right, at_number}
use Rattle.ps_core_laws.specs.Memory.{heap_of, grants_of, standing}
use Rattle.ps_core_laws.specs.MemoryLaws.{MayMake, CanMakeBody, MakesBodies}
use Rattle.ps_core_laws.specs.Stores.{part_made}
use Rattle.ps_core_laws.proofs.Facts.{VmFacts}
use Rattle.ps_core_laws.proofs.Made.{zeros, place_end, free_end, low_end}
use Rattle.ps_core_laws.proofs.Standing.{in_heap}

-- the number of a dictionary's kind is 8
kind_dictionary : (n : ℕ) → kind_of_number n ≡ Dictionary → nat_eq n 8 ≡ true
kind_dictionary n e = elim (bool_cases (nat_eq n 6)) [
  | inl t ↦ let e' = rw t at e in absurd (cc)
  | inr f6 ↦ let e6 = rw f6 at e in elim (bool_cases (nat_eq n 7)) [
    | inl t ↦ let e' = rw t at e6 in absurd (cc)
    | inr f7 ↦ let e7 = rw f7 at e6 in elim (bool_cases (nat_eq n 8)) [
      | inl t ↦ t
      | inr f8 ↦ let e8 = rw f8 at e7 in elim (bool_cases (nat_eq n 9)) [
        | inl t ↦ let e' = rw t at e8 in absurd (cc)
        | inr f9 ↦ let e9 = rw f9 at e8 in elim (bool_cases (nat_eq n 10)) [
          | inl t ↦ let e' = rw t at e9 in absurd (cc)
          | inr f10 ↦ let e' = rw f10 at e9 in absurd (cc)
        ]
      ]
    ]
  ]
]

-- what is found at an address is in the list
found_any : (test : Object → Bool) (os : List Object) (a : ℕ) (o : Object) → object_at os a ≡ Some o
    → test o ≡ true → list_any test os ≡ true
found_any test [] a o e t = absurd (cc)
found_any test (p ∷ os) a o e t = elim (at_number p.address a) [
  | inl is ↦ let e' = rw (eq_true a p.address is) at e in let same : p ≡ o = cc in
      let here : test p ≡ true = ap test same ∙ t in rw here refl
  | inr ne ↦ let e' = rw ne at e in
      or_right (test p) (list_any test os) (found_any test os a o e' t)
]

-- the dictionary, as an object of the part
dictionary_of : (v : Vm) (d : ℕ) (x : Option Object) → object_at v.objects d ≡ x
    → IsKind Dictionary (option_map standing x)
    → dictionary_stands v.objects (birth_of (option_map standing x)) ≡ true
dictionary_of v d None e is = absurd is
dictionary_of v d (Some o) e is =
    let kind : nat_eq (kind_in o.header) 8 ≡ true = kind_dictionary (kind_in o.header) is in
    let birth : nat_eq (birth_in o.header) (birth_in o.header) ≡ true =
    same_number (birth_in o.header) in
    found_any (λ p. nat_eq (kind_in p.header) 8 && nat_eq (birth_in p.header) (birth_in o.header))
    v.objects d o e (rw (kind, birth) refl)

birth_is : (v : Vm) (d : ℕ)
    → birth_at (heap_of v) d ≡ birth_of (option_map standing (object_at v.objects d))
unfolding birth_at
birth_is v d = ap birth_of (in_heap v d)

module _ (v : Vm) (header d fields : ℕ) (c : CanMakeBody v header d fields) where
  is_body : nat_eq (kind_in header) 11 ≡ true
  is_body = ap (λ (n : ℕ). nat_eq n 11) c.kind_is

  may_make : MayMake v header fields
  may_make =
      let g = c.granted in let few = c.few in let f = c.fields_is in let k = c.kind_is in
      let body = is_body in
      let there : dictionary_stands v.objects
      (birth_of (option_map standing (object_at v.objects d))) ≡ true =
      dictionary_of v d (object_at v.objects d) refl
      (subst (IsKind Dictionary) (in_heap v d) c.stands) in
      let birth : birth_of (option_map standing (object_at v.objects d)) ≡ birth_in header =
      sym (c.birth_is ∙ birth_is v d) in
      record {
        clears = λ m le. omega arith;
        stands = record {
          kind = (omega arith, omega arith);
          fields = omega arith;
          cleared = omega arith;
          birth = rw body (subst (λ (n : ℕ). dictionary_stands v.objects n ≡ true) birth there);
        };
        made = λ g. refl;
      }

  next_is : next_birth_after v.next_birth header ≡ v.next_birth
  next_is = let t = is_body in rw t refl

  used_made : VmFacts v
      → (v.end + 2 + fields_in header) - space_base v.space v.cycle ≡
      (made_body (heap_of v) v.end (birth_at (heap_of v) d) fields).used
  unfolding made_body
  used_made r = let lo = r.low_end in let f = c.fields_is in omega arith

  space_made : (heap_of v).space ≡
      (made_body (heap_of v) v.end (birth_at (heap_of v) d) fields).space
  unfolding made_body
  space_made = refl

  heap_made : VmFacts v
      → heap_of (part_made v header) ≡ made_body (heap_of v) v.end (birth_at (heap_of v) d) fields
  heap_made r =
      let new : Object = new_object v.end header in
      let birth : ℕ = birth_at (heap_of v) d in
      let stands : standing new ≡ record
      { kind = Body; birth = birth; fields = replicate fields zero_word } =
      (λ k. record {
        kind = (ap kind_of_number c.kind_is) k;
        birth = c.birth_is k;
        fields =
            (zeros (fields_in header) ∙ ap (λ (m : ℕ). replicate m zero_word) c.fields_is) k;
      }) in
      same_heap (heap_of (part_made v header)) (made_body (heap_of v) v.end birth fields)
      (λ b. in_heap (part_made v header) b
      ∙ elim (ℕ_discrete v.end b) as
      (λ _. option_map standing (object_at (new ∷ v.objects) b) ≡ memory.object_at
      (made_body (heap_of v) v.end birth fields) b) [
        | yes is ↦ let t = eq_true b v.end (sym is) in
            rw t (ap (λ (s : Standing). Some s) stands
            ∙ (sym (object_at-made_body_same (heap_of v) v.end birth fields)
            ∙ ap (memory.object_at (made_body (heap_of v) v.end birth fields)) is))
        | no ne ↦ let f = number_not b v.end (λ e. ne (sym e)) in
            rw f (sym (in_heap v b) ∙
            sym (object_at-made_body_other (heap_of v) v.end birth fields b ne))
      ])
      (next_is ∙ sym (next-made_body (heap_of v) v.end birth fields))
      (used_made r)
      space_made

  after_new : AfterNew (grants_of v) (grants_of (part_made v header)) v.end (2 + fields) 0
  after_new =
      let next = next_is in
      let f = c.fields_is in
      record {
        fresh = let t = same_number v.end in rw t refl;
        still_fresh = λ a t. or_right (nat_eq a v.end) (among v.fresh a) t;
        words = omega arith;
        births = omega arith;
        cycle_open = refl;
        records = refl;
        put = refl;
        closed = refl;
      }

pub makes_bodies : (v : Vm) → VmFacts v → MakesBodies v
makes_bodies v r header d fields c = record {
  may = may_make v header d fields c;
  place = place_end v fields r c.granted;
  free = free_end v r;
  low = low_end v r;
  heap = heap_made v header d fields c r;
  grants = after_new v header d fields c;
}
