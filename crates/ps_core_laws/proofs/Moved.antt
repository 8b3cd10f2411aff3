-- The flip of the machine moves the memory of the mutator's part to the replicas.
use Rattle.std.proofs.Common.{◌≡◌, ◌≢◌, ℕ, ◌^◌, ◌<◌, ◌≤◌, true, false, not, nat_eq, List, [], ◌∷◌, length, map, Some}
use Rattle.std.proofs.Common.{None, Option, refl, sym, ap, ◌∙◌, subst, arith, is_some}
use Rattle.std.specs.Prelude.{slice_index, if◌then◌else◌}
use Rattle.std.specs.Option.{option_map}
use Rattle.std.proofs.lemmas.List.{map-id}
use Rattle.ps_language.specs.declared.kinds.Kind.TheVariants.{Text as TextKind}
use Rattle.ps_word.specs.Format.{address_in}
use Rattle.ps_word.specs.Headers.{birth_in, kind_in}
use Rattle.ps_word.specs.Readers.{is_reference}
use Rattle.ps_word.proofs.Places.{by_type}
use Rattle.ps_mem.specs.Heap.{Standing}
use Rattle.ps_mem.specs.Heap as memory
use Rattle.ps_mem.specs.Objects.{kind_of_number, word_of}
use Rattle.ps_core_machine.specs.declared.events.Event.TheVariants.{CycleStore}
use Rattle.ps_core_machine.specs.declared.events.Object.{Object}
use Rattle.ps_core_machine.specs.declared.events.Pair.{Pair}
use Rattle.ps_core_machine.specs.Objects.{object_at, pair_of, pair_to, renamed_value, renamed, redirected, holds_values}
use Rattle.ps_core_machine.specs.Objects.{value_has_replica, values_have_replicas, as_object}
use Rattle.ps_core_machine.specs.Steps.{State}
use Rattle.ps_core_laws.specs.Kept.{Kept, VmKnows}
use Rattle.ps_core_laws.specs.Laws.{PairsHold, IsPair, IsMoved, Flips}
use Rattle.ps_core_laws.specs.Reach.{Carries}
use Rattle.ps_core_laws.specs.Runs.{run, Always, Whenever}
use Rattle.ps_core_laws.proofs.Bases.{some_match, spaces_wide}
use Rattle.ps_core_laws.proofs.HeapTests.{and_parts, number_is}
use Rattle.ps_core_laws.proofs.Lookups.{pair_of-to, pair_to-replica, object_at-replicas}
use Rattle.ps_core_laws.specs.Memory.{standing, heap_of}
use Rattle.ps_core_laws.proofs.Counted.{counted}
use Rattle.ps_core_laws.proofs.Flipped.{mapped, all_places, replicas_low}
use Rattle.ps_core_laws.specs.Moves.{IsMovedTo, led, moved_word, moved_words, moved_fields, moved_object, HasReplica}
use Rattle.ps_core_laws.specs.Moves.{HaveReplicas, IsReplica}
use Rattle.ps_core_laws.specs.Flips.{flipped, replica_at, as_words, AtFlip}

-- ---- renaming

redirected-led : (w : ℕ) (x : Option Pair)
    → redirected x w ≡ led w (option_map (λ (p : Pair). p.replica) x)
redirected-led w None = refl
redirected-led w (Some p) = refl

-- the machine renames a word as moving does
renamed-moved : (pairs : List Pair) (w : ℕ)
    → word_of (renamed_value pairs w) ≡ moved_word (replica_at pairs) (word_of w)
renamed-moved pairs w =
    ap (λ n. word_of (if is_reference w then n else w))
    (redirected-led w (pair_of pairs (address_in w)))

pub renamed-words : (pairs : List Pair) (ws : List ℕ)
    → as_words (map (renamed_value pairs) ws) ≡ moved_words (replica_at pairs) (as_words ws)
renamed-words pairs [] = refl
renamed-words pairs (w ∷ ws) = λ i. renamed-moved pairs w i ∷ renamed-words pairs ws i

none_before : (x : Option Pair) → option_map (λ (p : Pair). p.replica) x ≡ None → x ≡ None
none_before None none = refl
none_before (Some p) none = cc

has-replica : (pairs : List Pair) (w : ℕ) → value_has_replica pairs w ≡ true
    → HasReplica (replica_at pairs) (word_of w)
has-replica pairs w has reference none =
    let some : is_some (pair_of pairs (address_in w)) ≡ true = rw reference at has in
    let lacks : is_some (pair_of pairs (address_in w)) ≡ false =
    ap is_some (none_before (pair_of pairs (address_in w)) none) in
    let clash : true ≡ false = sym some ∙ lacks in
    cc

pub have-replicas : (pairs : List Pair) (ws : List ℕ) → values_have_replicas pairs ws ≡ true
    → HaveReplicas (replica_at pairs) (as_words ws)
have-replicas pairs [] have = tt
have-replicas pairs (w ∷ ws) have =
    let parts = and_parts (value_has_replica pairs w) (values_have_replicas pairs ws) have in
    (has-replica pairs w parts.0, have-replicas pairs ws parts.1)

-- ---- the fields of a kind

module _ (pairs : List Pair) (xs : List ℕ) where
  -- by the number of the kind
  abbrev Renamed : ℕ → Type 0
  Renamed n = n ≤ 11
      → map word_of (map (λ w. if not (nat_eq n 7) then renamed_value pairs w else w) xs)
      ≡ moved_fields (replica_at pairs) (kind_of_number n) (map word_of xs)

  renamed-of_kind : (n : ℕ) → Renamed n
  renamed-of_kind = by_type Renamed
      (λ le. renamed-words pairs xs) (λ le. renamed-words pairs xs) (λ le. renamed-words pairs xs)
      (λ le. renamed-words pairs xs) (λ le. renamed-words pairs xs) (λ le. renamed-words pairs xs)
      (λ le. renamed-words pairs xs) (λ le. ap (map word_of) (map-id xs))
      (λ le. renamed-words pairs xs) (λ le. renamed-words pairs xs) (λ le. renamed-words pairs xs)
      (λ le. renamed-words pairs xs) (λ n past le. absurd (omega (arith, past, le)))

-- what is no string holds values
no-string : (n : ℕ) → kind_of_number n ≢ TextKind → not (nat_eq n 7) ≡ true
no-string n other = elim (nat_eq n 7) as (λ b. nat_eq n 7 ≡ b → not b ≡ true) [
  | true ↦ λ e. absurd (other (ap kind_of_number (number_is n 7 e)))
  | false ↦ λ e. refl
] refl

some_pair : (x : Option Pair) (b : ℕ) → option_map (λ (p : Pair). p.replica) x ≡ Some b
    → (p : Pair) × (x ≡ Some p) × (p.replica ≡ b)
some_pair None b e = absurd (cc)
some_pair (Some p) b e = (p, refl, cc)

some_object : (x : Option Object) (o : Standing) → option_map standing x ≡ Some o
    → (m : Object) × (x ≡ Some m)
some_object None o e = absurd (cc)
some_object (Some m) o e = (m, refl)

some_as : (x : Option Pair) (m : Object) → option_map as_object x ≡ Some m
    → (p : Pair) × (x ≡ Some p)
some_as None m e = absurd (cc)
some_as (Some p) m e = (p, refl)

-- objects lie in the table
originals_low : (s : State) → Kept s → (a : ℕ) (o : Object) → object_at s.vm.objects a ≡ Some o
    → a < 2 ^ 24
originals_low s kept a o at =
    let inside = (kept.mutator.lie a o at).high in
    let whole = kept.mutator.whole in
    let wide = (spaces_wide s.vm.space s.vm.cycle).0 in
    let small = kept.mutator.size.1 in
    omega (arith, inside, whole, wide, small)

-- ---- the flip

module _ (s : State) (roots : List ℕ) (kept : Kept s) (kept' : VmKnows (flipped s roots))
    (hold : PairsHold s) (carries : Carries s roots) (flips : Flips s roots) where
  original : (a : ℕ) (p : Pair) → pair_of s.gc.pairs a ≡ Some p
      → (o : Object) × (object_at s.vm.objects a ≡ Some o) × IsPair s a p o
  original a p paired = some_match (IsPair s a p) (object_at s.vm.objects a) (hold.1 a p paired)

  module _ (a : ℕ) (p : Pair) (paired : pair_of s.gc.pairs a ≡ Some p) (o : Object)
      (at : object_at s.vm.objects a ≡ Some o) where
    abbrev forward : ℕ → Option ℕ
    forward = replica_at s.gc.pairs

    moved : (m : Object) × (object_at (flipped s roots).objects p.replica ≡ Some m)
        × IsMoved s o p m
    moved = some_match (IsMoved s o p) (object_at (flipped s roots).objects p.replica)
        (flips.moved a o p at paired)

    fields-moved : map word_of moved.0.fields
        ≡ moved_fields forward (kind_of_number (kind_in o.header)) (map word_of o.fields)
    fields-moved = ap (map word_of) (mapped (renamed s.gc.pairs o.header) moved.0.fields o.fields
        moved.2.count moved.2.fields)
        ∙ renamed-of_kind s.gc.pairs o.fields (kind_in o.header)
        (kept.mutator.lie a o at).headed.high

    standing-moved : standing moved.0 ≡ moved_object forward (standing o)
    standing-moved = λ i. record {
      kind = kind_of_number (kind_in (moved.2.header i));
      birth = birth_in (moved.2.header i);
      fields = fields-moved i;
    }

    field-has : holds_values o.header ≡ true → (i : ℕ) → i < length o.fields
        → HasReplica forward (word_of (slice_index o.fields i))
    field-has values i within reference none =
        carries a i o p at paired
        (record { within = within; value = values; reference = reference })
        (none_before (pair_of s.gc.pairs (address_in (slice_index o.fields i))) none)

    is-replica : IsReplica (heap_of s.vm) (heap_of (flipped s roots)) forward a p.replica
    unfolding memory.object_at
    is-replica = record {
      object = standing o;
      stood = ap (option_map standing) at;
      stands = ap (option_map standing) moved.1 ∙ ap (λ (x : Standing). Some x) standing-moved;
      from = originals_low s kept a o at;
      to = replicas_low s kept a p paired;
      complete = λ other. all_places (HasReplica forward) o.fields
          (field-has (no-string (kind_in o.header) other));
    }

  -- what stands now is a replica
  only : (b : ℕ) (o : Standing) → memory.object_at (heap_of (flipped s roots)) b ≡ Some o
      → (a : ℕ) × (replica_at s.gc.pairs a ≡ Some b)
  unfolding memory.object_at
  only b o at =
      let m = some_object (object_at (flipped s roots).objects b) o at in
      let p = some_as (pair_to s.gc.pairs b) m.0 (sym (object_at-replicas s.gc.pairs b)
      ∙ (ap (λ os. object_at os b) (sym flips.objects) ∙ m.1)) in (
        p.0.original,
        ap (option_map (λ (q : Pair). q.replica)) (pair_of-to s.gc.pairs b p.0 hold.0 p.1)
            ∙ ap (λ n. Some n) (pair_to-replica s.gc.pairs b p.0 p.1),
      )

  pub moves-memory : AtFlip IsMovedTo s roots
  moves-memory = record {
    next = refl;
    space = refl;
    used = counted (flipped s roots) kept';
    replicas = λ a b there.
        let p = some_pair (pair_of s.gc.pairs a) b there in
        let o = original a p.0 p.1 in
        subst (IsReplica (heap_of s.vm) (heap_of (flipped s roots)) (replica_at s.gc.pairs) a) p.2
        (is-replica a p.0 p.1 o.0 o.1);
    only = only;
  }

-- so it is whenever a flip comes
pub always-moves : Always Kept → Always PairsHold → Whenever CycleStore Carries
    → Whenever CycleStore Flips → Whenever CycleStore (AtFlip IsMovedTo)
always-moves kept pairs carries flips space size events h roots p =
    moves-memory (run space events) roots (kept space size events h)
    (kept space size (CycleStore roots ∷ events) (h, p)).mutator (pairs space size events h)
    (carries space size events h roots p) (flips space size events h roots p)
