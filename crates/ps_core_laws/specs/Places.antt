-- Where objects and replicas lie in the table, and how much of it they use.
use Rattle.std.specs.Prelude.{◌≡◌, ◌≢◌, ◌⊎◌, ℕ, ◌+◌, ◌^◌, ◌<◌, ◌≤◌, List, [], ◌∷◌, length, Some}
use Rattle.std.specs.Prelude.{None, slice_index}
use Rattle.std.specs.List.{sum_by}
use Rattle.ps_word.specs.Headers.{fields_in, kind_in}
use Rattle.ps_core_machine.specs.declared.events.Object.{Object}
use Rattle.ps_core_machine.specs.declared.events.Pair.{Pair}
use Rattle.ps_core_machine.specs.declared.events.Vm.{Vm}
use Rattle.ps_core_machine.specs.declared.events.Gc.{Gc}
use Rattle.ps_core_machine.specs.Objects.{object_at, pair_of, end_of, end_of_replicas, replicas}
use Rattle.ps_core_machine.specs.Steps.{State, forwarding, space_base, other_base}

-- a first header has one of the six kinds, and so few fields that a record can name each
pub record IsHeaded (header : ℕ) : Type 0 where
  pub low : 6 ≤ kind_in header
  pub high : kind_in header ≤ 11
  pub fields : fields_in header < 2 ^ 16

-- an object lies in the current space, before the end of use, with the fields that its header says
pub record ObjectLies (v : Vm) (a : ℕ) (o : Object) : Type 0 where
  pub low : space_base v.space v.cycle ≤ a
  pub high : a + 2 + length o.fields ≤ v.end
  pub count : length o.fields ≡ fields_in o.header
  pub headed : IsHeaded o.header

abbrev pub ObjectsLie : Vm → Type 0
ObjectsLie v = (a : ℕ) (o : Object) → object_at v.objects a ≡ Some o → ObjectLies v a o

-- no word belongs to two objects
abbrev pub ObjectsApart : List Object → Type 0
ObjectsApart objects = (a b : ℕ) (o p : Object) → object_at objects a ≡ Some o
    → object_at objects b ≡ Some p → a ≢ b
    → (a + 2 + length o.fields ≤ b) ⊎ (b + 2 + length p.fields ≤ a)

-- a replica lies in the other space, with as many fields as its header says
pub record ReplicaLies (g : Gc) (p : Pair) : Type 0 where
  pub low : other_base g.space g.cycle ≤ p.replica
  pub high : end_of p ≤ other_base g.space g.cycle + g.space
  pub count : length p.fields ≡ fields_in p.header
  pub filled : length p.filled ≡ length p.fields

abbrev pub ReplicasLie : Gc → Type 0
ReplicasLie g = (a : ℕ) (p : Pair) → pair_of g.pairs a ≡ Some p → ReplicaLies g p

-- no word belongs to two replicas
abbrev pub ReplicasApart : List Pair → Type 0
ReplicasApart pairs = (a b : ℕ) (p q : Pair) → pair_of pairs a ≡ Some p → pair_of pairs b ≡ Some q
    → a ≢ b → (end_of p ≤ q.replica) ⊎ (end_of q ≤ p.replica)

-- the second header of a replica is the way back to its original, of this cycle
abbrev pub LeadBack : State → Type 0
LeadBack s = (a : ℕ) (p : Pair) → pair_of s.gc.pairs a ≡ Some p
    → slice_index s.words (p.replica + 1) ≡ forwarding s.vm.epoch a

-- ---- how much is used

-- no address is in the list twice
abbrev pub AreDistinct : List Object → Type 0
AreDistinct [] = Unit {0}
AreDistinct (o ∷ os) = (object_at os o.address ≡ None) × AreDistinct os

-- the words of an object: two headers and its fields
abbrev pub size_of : Object → ℕ
size_of o = 2 + length o.fields

-- used is what stands, with no word between the objects
abbrev pub IsTight : Vm → Type 0
IsTight v = v.end ≡ space_base v.space v.cycle + sum_by size_of v.objects

-- the same of the replicas
abbrev pub AreTight : Gc → Type 0
AreTight g = end_of_replicas (other_base g.space g.cycle) g.pairs
    ≡ other_base g.space g.cycle + sum_by size_of (replicas g.pairs)
