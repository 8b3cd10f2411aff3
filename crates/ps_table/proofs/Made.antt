-- A new object: what the events of its making leave of a view.
use Rattle.std.proofs.Common.{◌≡◌, ◌≢◌, ◌+◌, ◌<◌, ◌≤◌, ◌^◌, ℕ, suc, Bool, false, true, nat_eq, List, [], ◌∷◌, ◌++◌}
use Rattle.std.proofs.Common.{length, Some, None, Option, refl, sym, ap, ◌∙◌, arith, rules, append_assoc, append-nil}
use Rattle.std.proofs.Common.{length-append}
use Rattle.std.specs.Prelude.{IsSome, IfSome, if◌then◌else◌}
use Rattle.ps_language.specs.declared.kinds.Kind.{Kind}
use Rattle.ps_language.specs.declared.kinds.Kind.TheVariants.{Body, Dictionary}
use Rattle.ps_word.specs.Headers.{kind_in, fields_in, birth_in, kind_number, header_packed, IsHeader}
use Rattle.ps_word.proofs.HeaderPlaces.{kind_in-packed, fields_in-packed, birth_in-packed}
use Rattle.ps_mem.specs.Heap.{Heap, Standing, IsKind, birth_of, birth_at}
use Rattle.ps_mem.specs.Heap as memory
use Rattle.ps_core_machine.specs.declared.events.Event.{Event}
use Rattle.ps_core_machine.specs.declared.events.Event.TheVariants.{VmLoad, ClearLoad}
use Rattle.ps_core_machine.specs.declared.events.Vm.{Vm}
use Rattle.ps_core_machine.specs.declared.events.Gc.{Gc}
use Rattle.ps_core_machine.specs.Steps.{next_birth_after, vm_after}
use Rattle.ps_core_laws.proofs.HeapTests.{number_not}
use Rattle.ps_core_laws.specs.MemoryLaws.{MakesObject, MakesBody, header_of, header_told}
use Rattle.ps_core_laws.specs.Memory.{heap_of, grants_of}
use Rattle.ps_core_laws.specs.Shown.{VmRuns, VmFinds}
use Rattle.ps_core_laws.proofs.Bodies.{makes_bodies}
use Rattle.ps_core_laws.proofs.Loads.{header_loads, behind_heads, stays}
use Rattle.ps_core_laws.proofs.Made.{not_body}
use Rattle.ps_core_laws.proofs.Stored.{makes}
use Rattle.ps_table.specs.declared.plays.View.{View}
use Rattle.ps_table.specs.Events.{did_all, word_cleared, words_cleared}
use Rattle.ps_table.specs.Shown.{SeatState, looked}
use Rattle.ps_table.proofs.Facts.{vm_facts, words}
use Rattle.ps_table.proofs.Storing.{did_more}

-- a look at a word that isn't zero is a load of a word that is no head
pub looked_on : (v : Vm) (g : Gc) (place n : ℕ) → 34 ≤ place → n ≢ 0
    → vm_after v g (looked place n) ≡ v
looked_on v g place n le ne =
    ap (λ (b : Bool). vm_after v g (if b then ClearLoad else VmLoad place n)) (number_not n 0 ne)
    ∙ stays v place (behind_heads place le) g n

-- one word more is cleared
cleared_more : (place : ℕ) (ns : List ℕ) (n : ℕ)
    → words_cleared place (ns ++ n ∷ []) ≡ words_cleared place ns
    ++ word_cleared (place + length ns) n
cleared_more place [] n = append-nil (word_cleared place n)
    ∙ ap (λ (k : ℕ). word_cleared k n) (let z : place ≡ place + 0 = omega arith in z)
cleared_more place (x ∷ ns) n =
    ap (λ (es : List Event). word_cleared place x ++ es) (cleared_more (place + 1) ns n
    ∙ ap (λ (k : ℕ). words_cleared (place + 1) ns ++ word_cleared k n)
    (let z : place + 1 + length ns ≡ place + suc (length ns) = omega arith in z))
    ∙ sym (append_assoc (word_cleared place x) (words_cleared (place + 1) ns)
    (word_cleared (place + suc (length ns)) n))

-- so many words of a new object at an address are cleared
pub record Cleared (first m : SeatState) (address making : ℕ) : Type 0 where
  pub found : List ℕ
  pub count : length found ≡ making
  pub did : m ≡ (did_all first.0 (words_cleared (address + 1) found), first.1)

pub clears_one : (first m m' : SeatState) (address making n : ℕ) → Cleared first m address making
    → m' ≡ (did_all m.0 (word_cleared (address + 1 + making) n), m.1)
    → Cleared first m' address (making + 1)
clears_one first m m' address making n k did = record {
  found = k.found ++ n ∷ [];
  count = length-append k.found (n ∷ []) ∙ ap (λ (x : ℕ). x + 1) k.count;
  did = did ∙ (ap (λ (x : SeatState). (did_all x.0 (word_cleared (address + 1 + making) n), x.1))
      k.did ∙ ap (λ (x : View). (x, first.1))
      (sym (did_more first.0 (words_cleared (address + 1) k.found)
      (word_cleared (address + 1 + making) n))
      ∙ ap (did_all first.0)
      (ap (λ (x : ℕ). words_cleared (address + 1) k.found ++ word_cleared (address + 1 + x) n)
      (sym k.count) ∙ sym (cleared_more (address + 1) k.found n))));
}

-- ---- what the header of a new object says

module _ (kind : Kind) (fields birth header : ℕ)
    (is : header ≡ header_packed (record { kind = kind; fields = fields; birth = birth }))
    (fits : IsHeader (record { kind = kind; fields = fields; birth = birth })) where
  pub kind_is : kind_in header ≡ kind_number kind
  kind_is = ap kind_in is ∙ kind_in-packed (record { kind = kind; fields = fields; birth = birth })
      fits

  pub fields_is : fields_in header ≡ fields
  fields_is = ap fields_in is
      ∙ fields_in-packed (record { kind = kind; fields = fields; birth = birth }) fits

  pub birth_is : birth_in header ≡ birth
  birth_is = ap birth_in is
      ∙ birth_in-packed (record { kind = kind; fields = fields; birth = birth }) fits

-- any kind but a body takes a birth number, and a body none
pub next_new : (birth header : ℕ) (kind : Kind) → kind_in header ≡ kind_number kind → kind ≢ Body
    → birth + 1 ≡ next_birth_after birth header
next_new birth header kind is ne =
    let t : nat_eq (kind_in header) 11 ≡ false = ap (λ (n : ℕ). nat_eq n 11) is
    ∙ not_body kind ne in
    rw t refl

pub next_body : (birth header : ℕ) → kind_in header ≡ 11 → birth ≡ next_birth_after birth header
next_body birth header is = let t : nat_eq (kind_in header) 11 ≡ true =
    ap (λ (n : ℕ). nat_eq n 11) is in rw t refl

-- what has a kind stands
pub kind_stands : (kind : Kind) (x : Option Standing) → IsKind kind x → IsSome x
kind_stands kind None h = absurd h
kind_stands kind (Some o) h = search rules

told : (x : Option Standing) (n : ℕ) → IsSome x → IfSome x (λ o. header_of n ≡ header_told o)
    → birth_in n ≡ birth_of x
told None n h e = absurd (cc)
told (Some o) n h e = ap (λ h. h.birth) e

-- the birth number that the first header of a dictionary says
pub birth_found : (h : Heap) (d n : ℕ) → IsKind Dictionary (memory.object_at h d)
    → IfSome (memory.object_at h d) (λ o. header_of n ≡ header_told o) → birth_in n ≡ birth_at h d
unfolding birth_at
birth_found h d n is e = told (memory.object_at h d) n
    (kind_stands Dictionary (memory.object_at h d) is) e

-- ---- what a seat makes, with a header packed by its numbers

pub record NewObject (v : Vm) (header birth : ℕ) (kind : Kind) (fields : ℕ) : Type 0 where
  pub makes : MakesObject v header kind fields
  pub count : fields_in header ≡ fields
  pub next : birth + 1 ≡ next_birth_after v.next_birth header

pub new_object : (v : Vm) (header birth : ℕ) (kind : Kind) (fields : ℕ) → ∥ VmRuns v ∥₁
    → birth ≡ v.next_birth
    → header ≡ header_packed (record { kind = kind; fields = fields; birth = birth })
    → kind ≢ Body → fields < 2 ^ 16 → 2 + fields ≤ (grants_of v).words
    → 1 ≤ (grants_of v).births → NewObject v header birth kind fields
new_object v header birth kind fields runs at is no_body few granted births =
    let fits : IsHeader (record { kind = kind; fields = fields; birth = birth }) =
    record { fields = omega arith; birth = omega arith } in
    let kind_so = kind_is kind fields birth header is fits in
    let count = fields_is kind fields birth header is fits in
    record {
      makes = makes v (vm_facts v runs) header kind fields (record {
        new = record {
          kind_is = kind_so;
          fields_is = count;
          birth_is = birth_is kind fields birth header is fits ∙ at;
          no_body = no_body;
        };
        few = few;
        granted = granted;
      });
      count = count;
      next = ap (λ (n : ℕ). n + 1) at ∙ next_new v.next_birth header kind kind_so no_body;
    }

pub record NewBody (v : Vm) (header dictionary fields : ℕ) : Type 0 where
  pub makes : MakesBody v header dictionary fields
  pub count : fields_in header ≡ fields
  pub next : v.next_birth ≡ next_birth_after v.next_birth header

-- a body, where a word was found that is the dictionary's header
pub new_body : (v : Vm) (header birth dictionary fields found : ℕ) → ∥ VmRuns v ∥₁
    → IsKind Dictionary (memory.object_at (heap_of v) dictionary) → VmFinds v dictionary found
    → birth ≡ birth_in found → birth < 2 ^ 40
    → header ≡ header_packed (record { kind = Body; fields = fields; birth = birth })
    → fields < 2 ^ 16 → 2 + fields ≤ (grants_of v).words → NewBody v header dictionary fields
new_body v header birth dictionary fields found runs stands finds at low is few granted =
    let fits : IsHeader (record { kind = Body; fields = fields; birth = birth }) =
    record { fields = omega arith; birth = low } in
    let load = header_loads words v (vm_facts v runs) dictionary
    (kind_stands Dictionary (memory.object_at (heap_of v) dictionary) stands) in
    let kind_so = kind_is Body fields birth header is fits in
    let count = fields_is Body fields birth header is fits in
    record {
      makes = makes_bodies v (vm_facts v runs) header dictionary fields (record {
        kind_is = kind_so;
        fields_is = count;
        stands = stands;
        birth_is = birth_is Body fields birth header is fits
            ∙ (at ∙ birth_found (heap_of v) dictionary found stands (load.word found finds));
        few = few;
        granted = granted;
      });
      count = count;
      next = next_body v.next_birth header kind_so;
    }
