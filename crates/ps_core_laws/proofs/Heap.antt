-- Objects and replicas by functions of addresses and fields, as a machine of its own: what the
-- agreement of replicas rests on, with no word of the table in it.
use Rattle.std.proofs.Common.{◌≡◌, ◌≢◌, ◌⊎◌, ℕ, ◌<◌, Bool, true, false, nat_eq, ◌&&◌, ◌||◌, not, List, [], ◌∷◌, ◌++◌}
use Rattle.std.proofs.Common.{Option, Some, None}
use Rattle.std.specs.Prelude.{if◌then◌else◌}
use Rattle.ps_record.specs.declared.Record.{Record}
use Rattle.ps_core_machine.specs.declared.events.Half.{Half}
use Rattle.ps_core_machine.specs.Objects.{names, named_in, is_left, with_load, is_loaded}

-- a value that is no reference, or an address and what else the word says
pub data Word : Type 0 where
  Plain : (n : ℕ) → Word
  Ref : (a x : ℕ) → Word

pub data Act : Type 0 where
  Make : (a n : ℕ) → Act
  Store : (a i : ℕ) (w : Word) → Act
  Log : (slot : ℕ) (r : Record) → Act
  Open : Act
  Hand : (roots : List Word) → Act
  Take : (slot : ℕ) → Act
  Copy : (a i : ℕ) → Act
  Fill : (scans : Bool) → Act
  Join : (a c : ℕ) → Act
  Head : Act
  Flip : (roots : List Word) → Act

pub record Load : Type 0 where
  pub a : ℕ
  pub i : ℕ
  pub w : Word

pub record Heap : Type 0 where
  pub opened : Bool
  pub stands : ℕ → Bool
  pub size : ℕ → ℕ
  pub field : ℕ → ℕ → Word
  pub fresh : ℕ → Bool
  pub unlogged : ℕ → ℕ → Bool
  pub ahead : ℕ → List Record  -- logged and not taken, but for the one being taken
  pub taking : Option Half
  pub replica : ℕ → Option ℕ
  pub origin : ℕ → Option ℕ
  pub copy : ℕ → ℕ → Word  -- the fields of a replica, by its original
  pub filled : ℕ → ℕ → Bool
  pub copying : Option Load
  pub known : ℕ → Bool

abbrev pub nowhere : ℕ → Bool
nowhere a = false

abbrev pub nowhere2 : ℕ → ℕ → Bool
nowhere2 a i = false

abbrev pub empty : Heap
empty = record {
  opened = false;
  stands = nowhere;
  size = λ a. 0;
  field = λ a i. Plain 0;
  fresh = nowhere;
  unlogged = nowhere2;
  ahead = λ s. [];
  taking = None;
  replica = λ a. None;
  origin = λ c. None;
  copy = λ a i. Plain 0;
  filled = nowhere2;
  copying = None;
  known = nowhere;
}

abbrev pub put : {X : Type 0} → (ℕ → X) → ℕ → X → ℕ → X
put f a x b = if nat_eq b a then x else f b

abbrev pub put2 : {X : Type 0} → (ℕ → ℕ → X) → ℕ → ℕ → X → ℕ → ℕ → X
put2 f a i x b j = if nat_eq b a && nat_eq j i then x else f b j

abbrev pub named_by : Word → ℕ → Bool
named_by (Plain n) b = false
named_by (Ref a x) b = nat_eq b a

abbrev pub named_among : List Word → ℕ → Bool
named_among [] b = false
named_among (w ∷ ws) b = named_by w b || named_among ws b

abbrev pub redirected : Option ℕ → ℕ → ℕ → Word
redirected None a x = Ref a x
redirected (Some c) a x = Ref c x

abbrev pub renamed : (ℕ → Option ℕ) → Word → Word
renamed replica (Plain n) = Plain n
renamed replica (Ref a x) = redirected (replica a) a x

abbrev pub IsCovered : (ℕ → Option ℕ) → Word → Type 0
IsCovered replica (Plain n) = Unit {0}
IsCovered replica (Ref a x) = (c : ℕ) × (replica a ≡ Some c)

abbrev pub Stands : (ℕ → Bool) → Word → Type 0
Stands stands (Plain n) = Unit {0}
Stands stands (Ref a x) = stands a ≡ true

abbrev pub AllStand : (ℕ → Bool) → List Word → Type 0
AllStand stands [] = Unit {0}
AllStand stands (w ∷ ws) = Stands stands w × AllStand stands ws

abbrev pub rest : List Record → List Record
rest [] = []
rest (r ∷ rs) = rs

abbrev pub first_half : ℕ → List Record → Option Half
first_half s [] = None
first_half s (r ∷ rs) = Some record { slot = s; what = r; loaded = 0 }

abbrev pub filled_copy : (ℕ → Option ℕ) → (ℕ → ℕ → Word) → Option Load → ℕ → ℕ → Word
filled_copy replica f None = f
filled_copy replica f (Some k) = put2 f k.a k.i (renamed replica k.w)

abbrev pub filled_with : Bool → (ℕ → ℕ → Bool) → Option Load → ℕ → ℕ → Bool
filled_with scans f None = f
filled_with true f (Some k) = put2 f k.a k.i true
filled_with false f (Some k) = f

abbrev pub is_there : Option ℕ → Bool
is_there None = false
is_there (Some a) = true

abbrev pub or_zero : Option ℕ → ℕ
or_zero None = 0
or_zero (Some a) = a

abbrev pub acted : Heap → Act → Heap
acted s (Make a n) =
    record s {
      stands = put s.stands a true;
      size = put s.size a n;
      field = λ b i. if nat_eq b a then Plain 0 else s.field b i;
      fresh = put s.fresh a true;
    }
acted s (Store a i w) = record s {
  field = put2 s.field a i w;
  fresh = if s.fresh a then s.fresh else nowhere;
  unlogged = if not (s.fresh a) && s.opened then put2 s.unlogged a i true else s.unlogged;
}
acted s (Log slot r) =
    record s {
      fresh = nowhere;
      unlogged = λ b j. s.unlogged b j && not (names r b j);
      ahead = put s.ahead slot (s.ahead slot ++ r ∷ []);
    }
acted s Open = record s { opened = true; fresh = nowhere }
acted s (Hand roots) = record s { fresh = nowhere; known = λ b. (s.opened && named_among roots b) || s.known b }
acted s (Take slot) =
    record s { ahead = put s.ahead slot (rest (s.ahead slot)); taking = first_half slot (s.ahead slot) }
acted s (Copy a i) =
    record s {
      taking = with_load s.taking a i;
      copying = Some record { a = a; i = i; w = s.field a i };
      known = λ b. named_by (s.field a i) b || s.known b;
    }
acted s (Fill scans) =
    record s {
      copy = filled_copy s.replica s.copy s.copying;
      filled = filled_with scans s.filled s.copying;
      copying = None;
    }
acted s (Join a c) =
    record s {
      replica = put s.replica a (Some c);
      origin = put s.origin c (Some a);
      copy = λ b i. if nat_eq b a then Plain 0 else s.copy b i;
    }
acted s Head = record s { taking = None }
acted s (Flip roots) = record s {
  opened = false;
  stands = λ c. is_there (s.origin c);
  size = λ c. s.size (or_zero (s.origin c));
  field = λ c i. s.copy (or_zero (s.origin c)) i;
  fresh = nowhere;
  replica = λ a. None;
  origin = λ c. None;
  copy = λ a i. Plain 0;
  filled = nowhere2;
  known = nowhere;
}

abbrev pub IsDue : Heap → ℕ → ℕ → Type 0
IsDue s a i = (s.unlogged a i ≡ true)
    ⊎ ((is_left s.taking a i ≡ true) ⊎ ((slot : ℕ) × (named_in (s.ahead slot) a i ≡ true)))

abbrev pub IsCopying : Option Load → ℕ → ℕ → Type 0
IsCopying None a i = ⊥
IsCopying (Some k) a i = (k.a ≡ a) × (k.i ≡ i)

abbrev pub IsDone : Heap → Option Half → Type 0
IsDone s None = ⊥
IsDone s (Some h) = (is_loaded h.what h.loaded ≡ true) ⊎ ((a i : ℕ) → names h.what a i ≡ true → s.replica a ≡ None)

abbrev pub CanFill : Heap → Option Load → Type 0
CanFill s None = ⊥
CanFill s (Some k) = IsCovered s.replica k.w

pub record CanFlip (s : Heap) : Type 0 where
  pub opened : s.opened ≡ true
  pub idle : s.taking ≡ None
  pub stored : s.copying ≡ None
  pub drained : (slot : ℕ) → s.ahead slot ≡ []
  pub logged : (a i : ℕ) → s.unlogged a i ≡ false
  pub filled : (a c i : ℕ) → s.replica a ≡ Some c → i < s.size a → s.filled a i ≡ true

abbrev pub May : Heap → Act → Type 0
May s (Make a n) = s.stands a ≡ false
May s (Store a i w) = (s.stands a ≡ true) × (i < s.size a) × Stands s.stands w
May s (Log slot r) = s.opened ≡ true
May s Open = s.opened ≡ false
May s (Hand roots) = AllStand s.stands roots
May s (Take slot) = (s.taking ≡ None) × (s.ahead slot ≢ [])
May s (Copy a i) = (s.copying ≡ None) × (s.replica a ≢ None) × (i < s.size a)
May s (Fill scans) = CanFill s s.copying
May s (Join a c) = (s.opened ≡ true) × (s.replica a ≡ None) × (s.origin c ≡ None) × (s.known a ≡ true)
May s Head = IsDone s s.taking
May s (Flip roots) = CanFlip s
