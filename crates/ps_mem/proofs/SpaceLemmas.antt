-- What stands doesn't depend on the space; the room of a space that grows.
use Rattle.std.proofs.Common.{◌≡◌, ℕ, ◌+◌, ◌<◌, ◌≤◌, true, List, length, refl, ap, Option, Some, None}
use Rattle.std.specs.Prelude.{IsSome, IfSome}
use Rattle.ps_language.specs.declared.kinds.Kind.{Kind}
use Rattle.ps_language.specs.declared.kinds.Kind.TheVariants.{Dictionary}
use Rattle.ps_word.specs.declared.headers.Header.{Header}
use Rattle.ps_mem.specs.Heap.{Heap, Space, Standing, object_at, fields_at, birth_of, birth_at, has_room, IsKind}
use Rattle.ps_mem.specs.Objects.{heap_in}
use Rattle.std.specs.Prelude.{nat_le}
use Rattle.std.proofs.Common.{◌-◌, ◌^◌, arith}
use Rattle.std.proofs.lemmas.Bool.Decides.{nat_tests}
use Rattle.ps_mem.specs.Bounded.{bounded_space}
use Rattle.ps_mem.specs.Plain.{plain_space}

module _ (words : List ℕ) (used next : ℕ) (s : Space) (a : ℕ) where
  pub below_any : (p : ℕ) → p < length (fields_at (heap_in words used next s) a) → (t : Space)
      → p < length (fields_at (heap_in words used next t) a)
  unfolding fields_at object_at heap_in
  below_any p h t = h

  pub reaches_any : (n : ℕ) → n ≤ length (fields_at (heap_in words used next s) a) → (t : Space)
      → n ≤ length (fields_at (heap_in words used next t) a)
  unfolding fields_at object_at heap_in
  reaches_any n h t = h

  pub stands_any : IsSome (object_at (heap_in words used next s) a) → (t : Space)
      → IsSome (object_at (heap_in words used next t) a)
  unfolding object_at heap_in
  stands_any h t = h

pub has_room-plain : (words : List ℕ) (used next n b : ℕ) → has_room (heap_in words used next plain_space) n b ≡ true
unfolding has_room heap_in
has_room-plain words used next n b = refl

pub used-plain : (words : List ℕ) (used next : ℕ) (s : Space) → (heap_in words used next s).used ≡ used
unfolding heap_in
used-plain words used next s = refl

pub space-plain : (words : List ℕ) (used next : ℕ) (s : Space) → (heap_in words used next s).space ≡ s
unfolding heap_in
space-plain words used next s = refl

-- a dictionary stands, and its birth number is that of its header
kind_stands : (kind : Kind) (found : Option Standing) → IsKind kind found → IsSome found
kind_stands kind None h = absurd h
kind_stands kind (Some o) h = refl

module _ (words : List ℕ) (used next : ℕ) (s : Space) (a : ℕ)
    (stands : IsKind Dictionary (object_at (heap_in words used next s) a)) where
  pub dictionary_stands : (t : Space) → IsSome (object_at (heap_in words used next t) a)
  dictionary_stands = stands_any words used next s a
      (kind_stands Dictionary (object_at (heap_in words used next s) a) stands)

header_birth : (found : Option Standing) (kind : Kind) (h : Header) → IsKind kind found
    → IfSome found (λ o. h ≡ record { kind = o.kind; fields = length o.fields; birth = o.birth })
    → h.birth ≡ birth_of found
header_birth None kind h k e = absurd k
header_birth (Some o) kind h k e = ap (λ (x : Header). x.birth) e

pub birth-header : (g : Heap) (a : ℕ) (h : Header) → IsKind Dictionary (object_at g a)
    → IfSome (object_at g a) (λ o. h ≡ record { kind = o.kind; fields = length o.fields; birth = o.birth })
    → h.birth ≡ birth_at g a
unfolding birth_at
birth-header g a h k e = header_birth (object_at g a) Dictionary h k e

-- ---- a bounded space

module _ (words : List ℕ) (used next size n b : ℕ) where
  abbrev bounded : Heap
  bounded = heap_in words used next (bounded_space size)

  pub has_room-words : used ≤ size → next ≤ 2 ^ 40 → n ≤ size - used
      → nat_le b (1099511627776 - next) ≡ has_room bounded n b
  unfolding has_room heap_in
  has_room-words within small fits = grind (arith, nat_tests, within, small, fits)

  pub has_room-no_words : used ≤ size → size - used < n → nat_le n (size - used) ≡ has_room bounded n b
  unfolding has_room heap_in
  has_room-no_words within short = grind (arith, nat_tests, within, short)

  pub left : has_room bounded n b ≡ true → (used + n ≤ size) × (next + b ≤ 2 ^ 40)
  unfolding has_room heap_in
  left room = (grind (arith, nat_tests, room), grind (arith, nat_tests, room))

  pub room_for : used + n ≤ size → next + b ≤ 2 ^ 40 → has_room bounded n b ≡ true
  unfolding has_room heap_in
  room_for words births = grind (arith, nat_tests, words, births)

  pub not_past_bound : used + n ≤ size → bounded.space.size < bounded.used + n → ⊥
  unfolding heap_in
  not_past_bound within past = absurd (omega (arith, within, past))
