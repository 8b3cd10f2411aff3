-- Stores to one field of an object after another.
use Rattle.std.specs.Prelude.{ℕ, ◌+◌, List, [], ◌∷◌, map, true}
use Rattle.ps_word.specs.declared.words.Word.{Word}
use Rattle.ps_word.specs.Headers.{fields_in}
use Rattle.ps_core_machine.specs.declared.events.Event.TheVariants.{FieldStore}
use Rattle.ps_core_machine.specs.declared.events.Vm.{Vm}
use Rattle.ps_core_machine.specs.Steps.{field_stored, new_object, next_birth_after}
use Rattle.ps_core_machine.specs.Conditions.{VmMay}

abbrev pub number_of : Word → ℕ
number_of w = w.0

abbrev pub numbers : List Word → List ℕ
numbers items = map number_of items

-- what they make of the part
abbrev pub fields_stored : Vm → ℕ → ℕ → List ℕ → Vm
fields_stored v a i [] = v
fields_stored v a i (w ∷ ws) = fields_stored (field_stored v a i w) a (i + 1) ws

-- each is permitted where it comes
abbrev pub MayStoreFields : Vm → ℕ → ℕ → List ℕ → Type 0
MayStoreFields v a i [] = Unit {0}
MayStoreFields v a i (w ∷ ws) =
    VmMay v (FieldStore a i w) × MayStoreFields (field_stored v a i w) a (i + 1) ws

-- the same words, the last one first
abbrev pub fields_stored_down : Vm → ℕ → ℕ → List ℕ → Vm
fields_stored_down v a i [] = v
fields_stored_down v a i (w ∷ ws) = field_stored (fields_stored_down v a (i + 1) ws) a i w

abbrev pub MayStoreFieldsDown : Vm → ℕ → ℕ → List ℕ → Type 0
MayStoreFieldsDown v a i [] = Unit {0}
MayStoreFieldsDown v a i (w ∷ ws) =
    MayStoreFieldsDown v a (i + 1) ws × VmMay (fields_stored_down v a (i + 1) ws) (FieldStore a i w)

-- a new object, where none is being made
abbrev pub part_made : Vm → ℕ → Vm
part_made v header = record v {
  objects = new_object v.end header ∷ v.objects;
  fresh = v.end ∷ v.fresh;
  making = 0;
  end = v.end + 2 + fields_in header;
  next_birth = next_birth_after v.next_birth header;
  stored = true;
}
