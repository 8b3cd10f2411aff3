-- The replica at the scan's place, what its headers tell, and the place after it.
use Rattle.std.proofs.Common.{◌≡◌, ◌≢◌, ◌^◌, ℕ, zero, suc, ◌+◌, ◌-◌, ◌<◌, ◌≤◌, Bool, true, false, nat_eq, nat_lt, List}
use Rattle.std.proofs.Common.{[], ◌∷◌, ◌++◌, length, Some, None, Option, refl, sym, ap, ◌∙◌, inl, inr, subst, arith}
use Rattle.std.proofs.Common.{is_some, replicate}
use Rattle.std.specs.Prelude.{slice_index_or}
use Rattle.std.proofs.Math.Logic.{∥∥₁_elim}
use Rattle.std.proofs.Props.{props}
use native.Mathlib.Decide.{ℕ_discrete}
use Rattle.ps_word.specs.Headers.{fields_in}
use Rattle.ps_core_machine.specs.declared.events.Event.TheVariants.{GcLoad}
use Rattle.ps_core_machine.specs.declared.events.Pair.{Pair}
use Rattle.ps_core_machine.specs.declared.events.Vm.{Vm}
use Rattle.ps_core_machine.specs.declared.events.Gc.{Gc}
use Rattle.ps_core_machine.specs.Objects.{among, pair_of, pair_to, end_of, all_true, all_filled}
use Rattle.ps_core_machine.specs.Steps.{State, table_size, other_base, gc_after, forwarding}
use Rattle.ps_core_laws.specs.Laws.{AreSingle}
use Rattle.ps_core_laws.specs.Runs.{run}
use Rattle.ps_core_laws.proofs.HeapTests.{bool_cases, and_both, at_number, number_not, same_number, lt_true, lt_is}
use Rattle.ps_core_laws.proofs.HeapTests.{lt_not}
use Rattle.ps_core_laws.proofs.Lookups.{pair_of-to, pair_to-replica, all_filled_at}
use Rattle.ps_table.specs.Shown.{GcRuns, GcFinds}
use Rattle.ps_table.proofs.Flipping.{look_stays}
use Rattle.ps_table.proofs.Originals.{Lawful, lawful, original, object_inside, replica_inside, replica_header}
use Rattle.ps_table.proofs.Originals.{replica_back, other_unknown, epoch_is}
use Rattle.ps_gc.specs.declared.to_space.ToSpace.{ToSpace}
use Rattle.ps_gc.specs.Keeps.{marks, Copies, IsAtField}
use Rattle.ps_gc.proofs.Replicating.{ends_before}
use Rattle.ps_gc.proofs.Copying.{at_the_place}

-- ---- the headers of a replica

pub record ReplicaWords (g : Gc) (a : ℕ) (p : Pair) : Type 0 where
  pub low : 8256 ≤ p.replica
  pub inside : end_of p ≤ table_size g.space
  pub small : a < 2 ^ 24
  pub cycle : g.cycle + 1 < 2 ^ 32
  pub size : g.space ≤ 1048576
  pub first : among g.known p.replica ≡ false
  pub second : among g.known (p.replica + 1) ≡ false

words_in : (s : State) → Lawful s → (a : ℕ) (p : Pair) → pair_of s.gc.pairs a ≡ Some p
    → ReplicaWords s.gc a p
words_in s k a p at =
    let inside = replica_inside s k a p at in
    let lie = k.kept.collector.lie a p at in
    let lo = lie.low in let hi = lie.high in
    let o = original s k a p at in
    let there = (object_inside s k a o.0 o.1).1 in
    let size = k.kept.collector.size.1 in
    let small = k.kept.mutator.cycles.small in
    let epoch = epoch_is s k a p at in
    record {
      low = inside.0;
      inside = inside.1;
      small = omega arith;
      cycle = omega arith;
      size = size;
      first = other_unknown s k p.replica (omega arith) (omega arith);
      second = other_unknown s k (p.replica + 1) (omega arith) (omega arith);
    }

pub replica_words : (g : Gc) → ∥ GcRuns g ∥₁ → (a : ℕ) (p : Pair) → pair_of g.pairs a ≡ Some p
    → ReplicaWords g a p
replica_words g t a p at = ∥∥₁_elim t (hlevel props) (λ r.
    subst (λ (x : Gc). pair_of x.pairs a ≡ Some p → ReplicaWords x a p) r.is
    (words_in (run g.space r.events) (lawful g.space r.size r.events r.is_run) a p) at)

pub first_stays : (g : Gc) (a : ℕ) (p : Pair) → ReplicaWords g a p → (v : Vm) (n : ℕ)
    → gc_after g v (GcLoad p.replica n) ≡ g
first_stays g a p w v n = let lo = w.low in look_stays g v p.replica n (omega arith) w.first

pub second_stays : (g : Gc) (a : ℕ) (p : Pair) → ReplicaWords g a p → (v : Vm) (n : ℕ)
    → gc_after g v (GcLoad (p.replica + 1) n) ≡ g
second_stays g a p w v n = let lo = w.low in
    look_stays g v (p.replica + 1) n (omega arith) w.second

pub header_found : (g : Gc) (a n : ℕ) (p : Pair) → pair_of g.pairs a ≡ Some p
    → GcFinds g p.replica n → n ≡ p.header
header_found g a n p at f =
    let s : State = run g.space f.events in
    let k = lawful g.space f.size f.events f.is_run in
    sym f.found ∙ replica_header s k a p (ap (λ (x : Gc). pair_of x.pairs a) f.is ∙ at)

pub back_found : (g : Gc) (a n : ℕ) (p : Pair) → pair_of g.pairs a ≡ Some p
    → GcFinds g (p.replica + 1) n → n ≡ forwarding (g.cycle + 1) a
back_found g a n p at f =
    let s : State = run g.space f.events in
    let k = lawful g.space f.size f.events f.is_run in
    sym f.found ∙ (replica_back s k a p (ap (λ (x : Gc). pair_of x.pairs a) f.is ∙ at)
    ∙ ap (λ (x : Gc). forwarding (x.cycle + 1) a) f.is)

-- ---- the replica at a place

pub record ReplicaAt (g : Gc) (place : ℕ) : Type 0 where
  pub original : ℕ
  pub pair : Pair
  pub at : pair_of g.pairs original ≡ Some pair
  pub here : pair.replica ≡ place

at_single : (g : Gc) (place : ℕ) → AreSingle g.pairs → is_some (pair_to g.pairs place) ≡ true
    → ReplicaAt g place
at_single g place single some = go (pair_to g.pairs place) refl some
  where
    go : (x : Option Pair) → pair_to g.pairs place ≡ x → is_some x ≡ true → ReplicaAt g place
    go None e bad = absurd (let b : false ≡ true = bad in cc)
    go (Some p) e found = record {
      original = p.original;
      pair = p;
      at = pair_of-to g.pairs place p single e;
      here = pair_to-replica g.pairs place p e;
    }

pub replica_at : (g : Gc) (place n : ℕ) → GcFinds g place n
    → is_some (pair_to g.pairs place) ≡ true → ReplicaAt g place
replica_at g place n f some = at_single g place
    (subst (λ (x : Gc). AreSingle x.pairs) f.is
    (lawful g.space f.size f.events f.is_run).pairs.0) some

pub place_inside : (g : Gc) → ∥ GcRuns g ∥₁ → (place : ℕ)
    → is_some (pair_to g.pairs place) ≡ true → place + 2 ≤ table_size g.space
place_inside g t place some = ∥∥₁_elim t (hlevel props) (λ r.
    let k = lawful g.space r.size r.events r.is_run in
    let single = subst (λ (x : Gc). AreSingle x.pairs) r.is k.pairs.0 in
    let p = at_single g place single some in
    let w = replica_words g t p.original p.pair p.at in
    let top = w.inside in
    let here = p.here in
    omega arith)

-- ---- the place after a replica whose fields are filled

-- other replicas lie before it or behind it
beside_in : (s : State) → Lawful s → (a b : ℕ) (p q : Pair) → pair_of s.gc.pairs a ≡ Some p
    → pair_of s.gc.pairs b ≡ Some q → p.replica < q.replica → end_of p ≤ q.replica
beside_in s k a b p q e f lt = elim (ℕ_discrete a b) [
  | yes is ↦
      (let same : Some p ≡ Some q = sym e ∙ (ap (pair_of s.gc.pairs) is ∙ f) in
      let one : p ≡ q = cc in
      let place = ap (λ (z : Pair). z.replica) one in
      absurd (omega arith))
  | no ne ↦ elim (k.kept.collector.apart a b p q e f ne) as (λ _. end_of p ≤ q.replica) [
    | inl le ↦ le
    | inr le ↦ absurd (omega arith)
  ]
]

beside : (g : Gc) → ∥ GcRuns g ∥₁ → (a b : ℕ) (p q : Pair) → pair_of g.pairs a ≡ Some p
    → pair_of g.pairs b ≡ Some q → p.replica < q.replica → end_of p ≤ q.replica
beside g t a b p q e f lt = ∥∥₁_elim t (hlevel props) (λ r.
    subst (λ (x : Gc). pair_of x.pairs a ≡ Some p → pair_of x.pairs b ≡ Some q
    → end_of p ≤ q.replica) r.is
    (λ x y. beside_in (run g.space r.events) (lawful g.space r.size r.events r.is_run) a b p q x y
    lt) e f)

-- a replica has as many fields as its header says
pub fields_told : (g : Gc) → ∥ GcRuns g ∥₁ → (a : ℕ) (p : Pair) → pair_of g.pairs a ≡ Some p
    → fields_in p.header ≡ length p.fields
fields_told g t a p at = ∥∥₁_elim t (hlevel props) (λ r.
    subst (λ (x : Gc). pair_of x.pairs a ≡ Some p → fields_in p.header ≡ length p.fields) r.is
    (λ e. sym ((lawful g.space r.size r.events r.is_run).kept.collector.lie a p e).count) at)

before_place : (at field : ℕ) (p : Pair) → p.replica < at
    → marks at field p ≡ replicate (length p.fields) true
before_place at field p lt = rw (lt_true p.replica at lt) refl

behind_place : (at field : ℕ) (p : Pair) → at < p.replica
    → marks at field p ≡ replicate (length p.fields) false
behind_place at field p lt =
    let f : nat_lt p.replica at ≡ false = elim (bool_cases (nat_lt p.replica at)) [
      | inl t ↦ (let x = lt_is p.replica at t in absurd (omega arith))
      | inr f ↦ f
    ] in
    let g : nat_eq p.replica at ≡ false = number_not p.replica at (λ e. omega arith) in
    rw (f, g) refl

module _ (g : Gc) (runs : ∥ GcRuns g ∥₁) (t u : ToSpace) (k : Copies g t) (count : ℕ)
    (counts : (a : ℕ) (p : Pair) → pair_of g.pairs a ≡ Some p → p.replica ≡ t.at
    → length p.fields ≡ count) (full : t.field ≡ count) (ahead : t.at ≢ t.end)
    (space : u.space ≡ t.space) (cycle : u.cycle ≡ t.cycle) (end : u.end ≡ t.end)
    (place : u.at ≡ t.at + 2 + count) (none : u.field ≡ 0) where
  module _ (r : ReplicaAt g t.at) where
    long : end_of r.pair ≡ u.at
    long =
        let n = counts r.original r.pair r.at r.here in
        let h = r.here in
        omega arith

    marks_moved : (b : ℕ) (q : Pair) → pair_of g.pairs b ≡ Some q
        → marks t.at t.field q ≡ marks u.at u.field q
    marks_moved b q e =
        let far = long in
        let h = r.here in
        elim (ℕ_discrete q.replica t.at) [
          | yes is ↦
              (let n = counts b q e is in
              at_the_place t.at t.field q is
              ∙ (ap (λ (z : ℕ). replicate z true ++ replicate (length q.fields - z) false)
              (let d : t.field ≡ length q.fields = omega arith in d)
              ∙ (ap (λ (z : ℕ). replicate (length q.fields) true ++ replicate z false)
              (let d : length q.fields - length q.fields ≡ 0 = omega arith in d)
              ∙ (Rattle.std.proofs.lemmas.List.append-nil (replicate (length q.fields) true)
              ∙ sym (before_place u.at u.field q (omega arith))))))
          | no ne ↦ elim (bool_cases (nat_lt q.replica t.at)) [
            | inl t' ↦
                (let lt = lt_is q.replica t.at t' in
                before_place t.at t.field q lt
                ∙ sym (before_place u.at u.field q (omega arith)))
            | inr f ↦
                (let ge = lt_not q.replica t.at f in
                let le = beside g runs r.original b r.pair q r.at e (omega arith) in
                behind_place t.at t.field q (omega arith)
                ∙ sym (elim (ℕ_discrete q.replica u.at) [
                  | yes is ↦
                      (at_the_place u.at u.field q is
                      ∙ (ap (λ (z : ℕ). replicate z true ++ replicate (length q.fields - z) false)
                      none
                      ∙ ap (λ (z : ℕ). replicate z false)
                      (let d : length q.fields - 0 ≡ length q.fields = omega arith in d)))
                  | no off ↦ behind_place u.at u.field q (omega arith)
                ]))
          ]
        ]

    moved : Copies g u
    moved = record {
      space_is = space ∙ k.space_is;
      cycle_is = cycle ∙ k.cycle_is;
      end_is = end ∙ k.end_is;
      behind = λ b q e ne. k.behind b q e (λ x. ne (x ∙ sym end));
      at_is = λ ne.
          let some = k.behind r.original r.pair r.at (λ x. ne (sym long ∙ (x ∙ sym end))) in
          ap (λ (z : ℕ). is_some (pair_to g.pairs z)) (sym long) ∙ some;
      at_end = λ e. none;
      within = λ b q e here. omega arith;
      marked = λ b q e. k.marked b q e ∙ marks_moved b q e;
    }

  pub moved_on : Copies g u
  moved_on = ∥∥₁_elim runs (hlevel props) (λ x.
      let single = subst (λ (y : Gc). AreSingle y.pairs) x.is
      (lawful g.space x.size x.events x.is_run).pairs.0 in
      moved (at_single g t.at single (k.at_is ahead)))

-- a place that is no end lies before it
pub at_before : (g : Gc) → ∥ GcRuns g ∥₁ → (t : ToSpace) → Copies g t → t.at ≢ t.end
    → t.at + 2 ≤ t.end
at_before g runs t k ne = ∥∥₁_elim runs (hlevel props) (λ x.
    let single = subst (λ (y : Gc). AreSingle y.pairs) x.is
    (lawful g.space x.size x.events x.is_run).pairs.0 in
    let r = at_single g t.at single (k.at_is ne) in
    let le = ends_before g.pairs (other_base g.space g.cycle) r.original r.pair r.at in
    let h = r.here in
    let e = k.end_is in
    omega arith)

-- ---- whether a field is left

all_true_many : (n : ℕ) → all_true (replicate n true) ≡ true
all_true_many zero = refl
all_true_many (suc n) = all_true_many n

all_by_pairs : (ps : List Pair) → AreSingle ps
    → ((a : ℕ) (p : Pair) → pair_of ps a ≡ Some p → all_true p.filled ≡ true)
    → all_filled ps ≡ true
all_by_pairs [] single each = refl
all_by_pairs (p ∷ ps) single each =
    let here = each p.original p (rw (same_number p.original) refl) in
    let rest = all_by_pairs ps single.2 (λ a q e. each a q (elim (at_number p.original a) [
      | inl is ↦
          (let none = single.0 in
          let bad : Some q ≡ None = sym e ∙ (ap (pair_of ps) is ∙ none) in cc)
      | inr ne ↦ rw ne e
    ])) in
    and_both (all_true p.filled) (all_filled ps) here rest

pub all_at_end : (g : Gc) → ∥ GcRuns g ∥₁ → (t : ToSpace) → Copies g t → t.at ≡ t.end
    → all_filled g.pairs ≡ true
all_at_end g runs t k is = ∥∥₁_elim runs (hlevel props) (λ x.
    let single = subst (λ (y : Gc). AreSingle y.pairs) x.is
    (lawful g.space x.size x.events x.is_run).pairs.0 in
    all_by_pairs g.pairs single (λ a p e.
    let le = ends_before g.pairs (other_base g.space g.cycle) a p e in
    let end = k.end_is in
    ap all_true (k.marked a p e ∙ before_place t.at t.field p (omega arith))
    ∙ all_true_many (length p.fields)))

-- the field at the place isn't filled
pub field_unfilled : (g : Gc) (t : ToSpace) → Copies g t → (a : ℕ) (p : Pair)
    → pair_of g.pairs a ≡ Some p → p.replica ≡ t.at → t.field < length p.fields
    → slice_index_or p.filled t.field false ≡ false
field_unfilled g t k a p e here lt =
    let n : ℕ = length p.fields - t.field in
    ap (λ (l : List Bool). slice_index_or l t.field false)
    (k.marked a p e ∙ at_the_place t.at t.field p here)
    ∙ (Rattle.std.proofs.lemmas.List.get_or-append_right (replicate t.field true)
    (replicate n false) t.field t.field false
    (Rattle.std.proofs.lemmas.List.length-replicate t.field true) (omega arith)
    ∙ Rattle.std.proofs.lemmas.List.get_or-replicate n (t.field - t.field) false false
    (omega arith))

pub not_all : (g : Gc) → ∥ GcRuns g ∥₁ → (t : ToSpace) → Copies g t → IsAtField g t
    → t.at ≢ t.end → all_filled g.pairs ≡ false
not_all g runs t k fields ne = ∥∥₁_elim runs (hlevel props) (λ x.
    let single = subst (λ (y : Gc). AreSingle y.pairs) x.is
    (lawful g.space x.size x.events x.is_run).pairs.0 in
    let r = at_single g t.at single (k.at_is ne) in
    let lt = fields r.original r.pair r.at r.here in
    let un = field_unfilled g t k r.original r.pair r.at r.here lt in
    elim (bool_cases (all_filled g.pairs)) [
      | inr f ↦ f
      | inl all ↦
          (let long : length r.pair.filled ≡ length r.pair.fields =
          (subst (λ (y : Gc). (a : ℕ) (p : Pair) → pair_of y.pairs a ≡ Some p
          → length p.filled ≡ length p.fields) x.is
          (λ a p e. ((lawful g.space x.size x.events x.is_run).kept.collector.lie a p e).filled))
          r.original r.pair r.at in
          let full = all_filled_at g.pairs r.original t.field r.pair r.at all (omega arith) in
          absurd (let b : true ≡ false = sym full ∙ un in cc))
    ])

-- the replica at the place ends in the table, and before the end
pub record Passes (g : Gc) (t : ToSpace) (count : ℕ) : Type 0 where
  pub before : t.at + 2 + count ≤ t.end
  pub inside : t.at + 2 + count ≤ table_size g.space
  pub size : g.space ≤ 1048576

pub passes : (g : Gc) → ∥ GcRuns g ∥₁ → (t : ToSpace) → Copies g t → (count : ℕ)
    → ((a : ℕ) (p : Pair) → pair_of g.pairs a ≡ Some p → p.replica ≡ t.at
    → length p.fields ≡ count) → t.at ≢ t.end → Passes g t count
passes g runs t k count counts ne = ∥∥₁_elim runs (hlevel props) (λ x.
    let single = subst (λ (y : Gc). AreSingle y.pairs) x.is
    (lawful g.space x.size x.events x.is_run).pairs.0 in
    let r = at_single g t.at single (k.at_is ne) in
    let n = counts r.original r.pair r.at r.here in
    let w = replica_words g runs r.original r.pair r.at in
    let le = ends_before g.pairs (other_base g.space g.cycle) r.original r.pair r.at in
    let h = r.here in
    let e = k.end_is in
    let top = w.inside in
    record { before = omega arith; inside = omega arith; size = w.size })
