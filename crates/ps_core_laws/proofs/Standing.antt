-- The objects of the machine as those of a memory.
use Rattle.std.proofs.Common.{◌≡◌, ℕ, zero, suc, ◌<◌, List, [], ◌∷◌, length, map, Some, None, Option, refl, ap, ◌∙◌}
use Rattle.std.proofs.Common.{subst, arith}
use Rattle.std.specs.Prelude.{slice_index, slice_get, IsSome}
use Rattle.std.specs.Option.{option_map}
use Rattle.ps_mem.specs.Heap.{fields_of, fields_at}
use Rattle.ps_mem.specs.Heap as memory
use Rattle.ps_mem.specs.Objects.{word_of}
use Rattle.ps_core_machine.specs.declared.events.Object.{Object}
use Rattle.ps_core_machine.specs.declared.events.Vm.{Vm}
use Rattle.ps_core_machine.specs.Objects.{object_at}
use Rattle.ps_core_laws.specs.Memory.{heap_of, standing}

pub at_word : (xs : List ℕ) (i : ℕ) → i < length xs
    → slice_get (map word_of xs) i ≡ Some (word_of (slice_index xs i))
at_word [] i h = absurd (omega arith)
at_word (x ∷ xs) zero h = refl
at_word (x ∷ xs) (suc i) h = at_word xs i (omega arith)

pub length_words : (xs : List ℕ) → length (map word_of xs) ≡ length xs
length_words [] = refl
length_words (x ∷ xs) = ap suc (length_words xs)

pub in_heap : (v : Vm) (a : ℕ)
    → memory.object_at (heap_of v) a ≡ option_map standing (object_at v.objects a)
unfolding memory.object_at
in_heap v a = refl

some_standing : (x : Option Object) → IsSome (option_map standing x) → (o : Object) × (x ≡ Some o)
some_standing None h = absurd (cc)
some_standing (Some o) h = (o, refl)

-- what stands in the memory is an object
pub object_of : (v : Vm) (a : ℕ) → IsSome (memory.object_at (heap_of v) a) → (o : Object)
    × (object_at v.objects a ≡ Some o)
object_of v a h = some_standing (object_at v.objects a) (subst IsSome (in_heap v a) h)

some_fields : (x : Option Object) (i : ℕ) → i < length (fields_of (option_map standing x))
    → (o : Object) × (x ≡ Some o) × (i < length o.fields)
some_fields None i h = absurd (omega arith)
some_fields (Some o) i h = (o, refl, let n = length_words o.fields in omega arith)

pub fields_in_heap : (v : Vm) (a : ℕ)
    → fields_at (heap_of v) a ≡ fields_of (option_map standing (object_at v.objects a))
unfolding fields_at
fields_in_heap v a = ap fields_of (in_heap v a)

pub field_of : (v : Vm) (a i : ℕ) → i < length (fields_at (heap_of v) a) → (o : Object)
    × (object_at v.objects a ≡ Some o) × (i < length o.fields)
field_of v a i h = some_fields (object_at v.objects a) i
    (subst (λ (ws : _). i < length ws) (fields_in_heap v a) h)

pub fields_of_object : (v : Vm) (a : ℕ) (o : Object) → object_at v.objects a ≡ Some o
    → fields_at (heap_of v) a ≡ map word_of o.fields
fields_of_object v a o e = fields_in_heap v a
    ∙ ap (λ (x : Option Object). fields_of (option_map standing x)) e
