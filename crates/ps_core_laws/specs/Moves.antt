-- Memories whose objects were moved, by any collector: what moving does, and what a program can't
-- see of it.
use Rattle.std.specs.Prelude.{ℕ, ◌+◌, ◌≡◌, ◌≢◌, ◌≤◌, true, List, map, Option, Some, None}
use Rattle.std.specs.Prelude.{if◌then◌else◌}
use Rattle.std.specs.List.{AllByRecursion}
use Rattle.ps_language.specs.declared.kinds.Kind.{Kind}
use Rattle.ps_language.specs.declared.kinds.Kind.TheVariants.{Text}
use Rattle.ps_language.specs.Value.{Store}
use Rattle.ps_word.specs.declared.words.Word.{Word}
use Rattle.ps_word.specs.Format.{IsAddress, address_in}
use Rattle.ps_word.specs.Readers.{is_reference, readdressed}
use Rattle.ps_mem.specs.Heap.{Heap, Space, Standing, object_at, birth_at, standing_words}
use Rattle.ps_mem.specs.Keeps.{StandsStill}
use Rattle.ps_mem.specs.Meaning.{value_of}
use Rattle.ps_mem.specs.Objects.{word_of}
use Rattle.ps_mem.specs.Shows.{AreValues, AreWithin, IsSound, Shows}

-- ---- what moving does

-- where the replica of what stands at an address is, if it has one
abbrev pub Forwarding : Type 0
Forwarding = ℕ → Option ℕ

-- a reference led to another address, if there is one
abbrev pub led : ℕ → Option ℕ → ℕ
led w None = w
led w (Some address) = readdressed w address

-- a reference to what has a replica becomes one to the replica; every other word stays
abbrev pub moved_word : Forwarding → Word → Word
moved_word forward w =
    word_of (if is_reference w.0 then led w.0 (forward (address_in w.0)) else w.0)

abbrev pub moved_words : Forwarding → List Word → List Word
moved_words forward words = map (moved_word forward) words

-- the fields of an object of this kind: those of a string stay
abbrev pub moved_fields : Forwarding → Kind → List Word → List Word
moved_fields forward Text fields = fields
moved_fields forward _ fields = moved_words forward fields

-- an object keeps its kind and its birth number
abbrev pub moved_object : Forwarding → Standing → Standing
moved_object forward o = record o { fields = moved_fields forward o.kind o.fields }

-- what a word refers to, if it refers to anything, has a replica
abbrev pub HasReplica : Forwarding → Word → Type 0
HasReplica forward w = is_reference w.0 ≡ true → forward (address_in w.0) ≢ None

abbrev pub HaveReplicas : Forwarding → List Word → Type 0
HaveReplicas forward words = AllByRecursion (HasReplica forward) words

-- an object that stood stands now at another address, moved; what it refers to has a replica too
pub record IsReplica (h now : Heap) (forward : Forwarding) (a b : ℕ) : Type 0 where
  pub object : Standing
  pub stood : object_at h a ≡ Some object
  pub stands : object_at now b ≡ Some (moved_object forward object)
  pub from : IsAddress a
  pub to : IsAddress b
  pub complete : object.kind ≢ Text → HaveReplicas forward object.fields

-- the space after one more move of what stands in it
abbrev pub moved_space : Space → Space
moved_space space = record space { flips = space.flips + 1 }

-- just the replicas stand now; births go on from the same number, the space was moved once, and
-- what is used is what stands
pub record IsMovedTo (h now : Heap) (forward : Forwarding) : Type 0 where
  pub next : now.next ≡ h.next
  pub space : now.space ≡ moved_space h.space
  pub used : now.used ≡ standing_words now
  pub replicas : (a b : ℕ) → forward a ≡ Some b → IsReplica h now forward a b
  pub only : (b : ℕ) (o : Standing) → object_at now b ≡ Some o → (a : ℕ) × (forward a ≡ Some b)

-- ---- what a program can't see of it

-- a law of every move
abbrev pub OfMoves : (Heap → Heap → Forwarding → Type 0) → Type 0
OfMoves P = (h now : Heap) (forward : Forwarding) → IsMovedTo h now forward → P h now forward

-- where its replica is, an object stands of the same kind, birth number and number of fields
abbrev pub KeepsObjects : Heap → Heap → Forwarding → Type 0
KeepsObjects h now forward = (a b : ℕ) (o : Standing) → forward a ≡ Some b → object_at h a ≡ Some o
    → StandsStill now b o

-- no more words stand than did
abbrev pub KeepsRoom : Heap → Heap → Forwarding → Type 0
KeepsRoom h now forward = standing_words now ≤ standing_words h

-- words afterwards are what others were before: values where those were, the same values under any
-- names, and within what is met where those were
pub record SameWords (h now : Heap) (before after : List Word) : Type 0 where
  pub values : AreValues h before → AreValues now after
  pub meaning : (names : List (List ℕ))
      → map (value_of (birth_at now) names) after ≡ map (value_of (birth_at h) names) before
  pub within : (names : List (List ℕ)) (store : Store) → AreWithin h names store before
      → AreWithin now names store after

-- so are the words, moved, that refer to nothing or to what has a replica
abbrev pub KeepsWords : Heap → Heap → Forwarding → Type 0
KeepsWords h now forward = (words : List Word) → HaveReplicas forward words
    → SameWords h now words (moved_words forward words)

-- a sound memory stays sound
abbrev pub KeepsSound : Heap → Heap → Forwarding → Type 0
KeepsSound h now forward = IsSound h → IsSound now

-- a memory shows each store that it showed
abbrev pub KeepsShown : Heap → Heap → Forwarding → Type 0
KeepsShown h now forward = (names : List (List ℕ)) (store : Store) → Shows h names store
    → Shows now names store
