-- What a memory holds: the objects that stand, the next birth number, and the room that they lie
-- in; and what it has granted.
use Rattle.std.specs.Prelude.{ℕ, zero, suc, length, Bool, ◌≡◌, ◌≢◌, ◌≤◌, List, [], ◌+◌, ◌^◌, ◌==◌, ◌&&◌, ◌||◌, not, replicate, nat_le, Option, Some, None, IsTrue, if◌then◌else◌}
use Rattle.ps_language.specs.declared.kinds.Kind.{Kind}
use Rattle.ps_language.specs.declared.kinds.Kind.TheVariants.{Body}
use Rattle.ps_language.specs.Access.{splice}
use Rattle.ps_word.specs.declared.words.Word.{Word}
use Rattle.ps_word.specs.Headers.{birth_limit}
use Rattle.ps_record.specs.Format.{log_limit}

-- ---- what stands

-- an object that stands; a body has its dictionary's birth number
pub record Standing : Type 0 where
  pub kind : Kind
  pub birth : ℕ
  pub fields : List Word

-- the words that there are, whether more can be had, and how often what stands was moved
pub record Space : Type 0 where
  pub size : ℕ
  pub grows : Bool
  pub flips : ℕ

-- at: the object that stands at an address; used: the words of all that stands, two for each object
-- and its fields
pub record Heap : Type 0 where
  pub at : ℕ → Option Standing
  pub next : ℕ
  pub used : ℕ
  pub space : Space

unfoldable pub object_at : Heap → ℕ → Option Standing
object_at h address = h.at address

abbrev pub birth_of : Option Standing → ℕ
birth_of (Some o) = o.birth
birth_of None = 0

abbrev pub fields_of : Option Standing → List Word
fields_of (Some o) = o.fields
fields_of None = []

abbrev pub IsKind : Kind → Option Standing → Type 0
IsKind kind (Some o) = o.kind ≡ kind
IsKind kind None = ⊥

-- the birth number of what stands at an address, and its fields
unfoldable pub birth_at : Heap → ℕ → ℕ
birth_at h address = birth_of (object_at h address)

unfoldable pub fields_at : Heap → ℕ → List Word
fields_at h address = fields_of (object_at h address)

-- nothing stands, and no birth number is given out
unfoldable pub empty_heap : Space → Heap
empty_heap space = record { at = λ address. None; next = 0; used = 0; space = space }

-- ---- how many words stand

-- an object's words: two headers and its fields
abbrev pub size_of : Option Standing → ℕ
size_of (Some o) = 2 + length o.fields
size_of None = 0

-- of the objects at the first addresses, so many of them
unfoldable pub words_below : (ℕ → Option Standing) → ℕ → ℕ
words_below at zero = 0
words_below at (suc n) = words_below at n + size_of (at n)

-- of all that stand: addresses are below 2^24
unfoldable pub standing_words : Heap → ℕ
standing_words h = words_below h.at (2 ^ 24)

-- ---- what changes

abbrev pub with_fields : Option Standing → List Word → Option Standing
with_fields (Some o) fields = Some (record o { fields = fields })
with_fields None fields = None

-- other words in the fields of an object, from a place on; no other object changes
unfoldable pub stored : Heap → ℕ → ℕ → List Word → Heap
stored h address place items =
    record h {
      at = λ b. if address == b then with_fields (h.at b)
          (splice (fields_of (h.at b)) place items) else h.at b;
    }

-- an object more
abbrev pub with_object : Heap → ℕ → Standing → (ℕ → Option Standing)
with_object h address o = λ b. if address == b then Some o else h.at b

-- the null object, as every new field holds it
abbrev pub zero_word : Word
zero_word = record { 0 = 0 }

-- a new object of zero words takes the next birth number
unfoldable pub made : Heap → ℕ → Kind → ℕ → Heap
made h address kind count = record h {
  at = with_object h address
      (record { kind = kind; birth = h.next; fields = replicate count zero_word });
  next = h.next + 1;
  used = h.used + (2 + count);
}

-- a new body of zero words has the birth number of its dictionary, and takes none
unfoldable pub made_body : Heap → ℕ → ℕ → ℕ → Heap
made_body h address birth count = record h {
  at = with_object h address
      (record { kind = Body; birth = birth; fields = replicate count zero_word });
  used = h.used + (2 + count);
}

-- ---- room

-- so many words fit the space beside what stands, and so many birth numbers are left
unfoldable pub has_room : Heap → ℕ → ℕ → Bool
has_room h words births =
    h.space.grows || (nat_le (h.used + words) h.space.size && nat_le (h.next + births) birth_limit)

-- ---- what a memory has granted

-- fresh: the objects that may still be filled; words, births: what new objects may take;
-- cycle_open: whether stores are logged; records: how many a slot may put; put: how many it has
-- put; closed: the slots whose logs are closed
pub record Grants : Type 0 where
  pub fresh : ℕ → Bool
  pub words : ℕ
  pub births : ℕ
  pub cycle_open : Bool
  pub records : ℕ → ℕ
  pub put : ℕ → ℕ
  pub closed : ℕ → Bool

-- outside a cycle no record is put, and any number may be asked for: so many are granted
abbrev pub unlogged_records : ℕ
unlogged_records = 2 ^ 64

-- the records of an open log that were put and those that may be, together
abbrev pub IsLogBounded : Grants → (slot : ℕ) → Type 0
IsLogBounded grants slot =
    IsTrue grants.cycle_open → 1 ≤ grants.records slot
    → grants.put slot + grants.records slot ≤ log_limit

-- no record was put, none was granted or lost, and no cycle or log was opened or closed
pub record SameLogs (old new : Grants) : Type 0 where
  pub cycle_open : new.cycle_open ≡ old.cycle_open
  pub records : new.records ≡ old.records
  pub put : new.put ≡ old.put
  pub closed : new.closed ≡ old.closed

-- a new object uses up what was granted for it; what was fresh is so still
pub record AfterNew (old new : Grants) (address size numbers : ℕ) : Type 0 where
  pub fresh : IsTrue (new.fresh address)
  pub still_fresh : (a : ℕ) → IsTrue (old.fresh a) → IsTrue (new.fresh a)
  pub words : old.words ≤ new.words + size
  pub births : old.births ≤ new.births + numbers
  pub cycle_open : new.cycle_open ≡ old.cycle_open
  pub records : new.records ≡ old.records
  pub put : new.put ≡ old.put
  pub closed : new.closed ≡ old.closed

-- the records that a store to an object puts: one in an open cycle, unless the object may still be
-- filled
abbrev pub records_put : Grants → ℕ → ℕ
records_put grants address = if grants.cycle_open && not (grants.fresh address) then 1 else 0

-- a store leaves no object of which it is known that it may be filled; it puts at most one record,
-- into the log of its slot, and uses up what it puts
pub record AfterStore (old new : Grants) (slot : ℕ) : Type 0 where
  pub words : new.words ≡ old.words
  pub births : new.births ≡ old.births
  pub cycle_open : new.cycle_open ≡ old.cycle_open
  pub closed : new.closed ≡ old.closed
  pub used : new.put slot + new.records slot ≡ old.put slot + old.records slot
  pub others : (s : ℕ) → s ≢ slot → new.records s ≡ old.records s
  pub kept : old.put slot ≤ new.put slot
  pub one : new.put slot ≤ old.put slot + 1
  pub put_no_other : (s : ℕ) → s ≢ slot → new.put s ≡ old.put s
