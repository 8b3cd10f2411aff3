-- The events that a call of a seat makes, the oldest first.
use Rattle.std.specs.Prelude.{ℕ, ◌+◌, List, [], ◌∷◌, ◌++◌}
use Rattle.std.specs.Prelude.{◌==◌, if◌then◌else◌}
use Rattle.ps_word.specs.Format.{address_in}
use Rattle.ps_record.specs.Format.{head_place}
use Rattle.ps_word.specs.Readers.{is_reference}
use Rattle.ps_core_machine.specs.declared.events.Event.{Event}
use Rattle.ps_core_machine.specs.declared.events.Event.TheVariants.{VmLoad, GcLoad, ClearStore}
use Rattle.ps_core_machine.specs.declared.events.Event.TheVariants.{HeaderStore, FieldStore}
use Rattle.ps_core_machine.specs.declared.events.Gc.{Gc}
use Rattle.ps_core_machine.specs.Objects.{pair_of}
use Rattle.ps_core_machine.specs.Steps.{forwarding, replica_of}
use Rattle.ps_table.specs.declared.plays.View.{View}
use Rattle.ps_table.specs.Shown.{vm_did, gc_did, looked}

-- the view after them
abbrev pub did_all : View → List Event → View
did_all m [] = m
did_all m (e ∷ es) = did_all (vm_did m e) es

-- the stores of words to fields, one after another
abbrev pub field_stores : ℕ → ℕ → List ℕ → List Event
field_stores a i [] = []
field_stores a i (w ∷ ws) = FieldStore a i w ∷ field_stores a (i + 1) ws

-- the next word of an object being made, found at its place, is cleared: by a store where it isn't
-- zero
abbrev pub word_cleared : ℕ → ℕ → List Event
word_cleared place found = looked place found ∷ (if found == 0 then [] else ClearStore ∷ [])

-- so are those that were found from a place on
abbrev pub words_cleared : ℕ → List ℕ → List Event
words_cleared place [] = []
words_cleared place (n ∷ ns) = word_cleared place n ++ words_cleared (place + 1) ns

-- the making of an object at an address: the second header and the fields are cleared, then its
-- first header is stored
abbrev pub object_made : ℕ → List ℕ → ℕ → List Event
object_made address found header = words_cleared (address + 1) found ++ HeaderStore header ∷ []

-- the loads of heads that found these words, from a slot on
abbrev pub head_loads : ℕ → List ℕ → List Event
head_loads slot [] = []
head_loads slot (n ∷ ns) = VmLoad (head_place slot) n ∷ head_loads (slot + 1) ns

-- ---- of the collector's seat

-- the view after them
abbrev pub gc_did_all : View → List Event → View
gc_did_all m [] = m
gc_did_all m (e ∷ es) = gc_did_all (gc_did m e) es

-- the loads of the second headers of roots that are references and have replicas
abbrev pub root_look : Gc → ℕ → List Event
root_look g w = if is_reference w then GcLoad (address_in w + 1)
    (forwarding (g.cycle + 1) (replica_of (pair_of g.pairs (address_in w)))) ∷ [] else []

abbrev pub root_looks : Gc → List ℕ → List Event
root_looks g [] = []
root_looks g (w ∷ ws) = root_look g w ++ root_looks g ws
