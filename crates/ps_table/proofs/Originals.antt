-- What a run tells of originals and replicas, and of the words that stand there.
use Rattle.std.proofs.Common.{◌≡◌, ℕ, ◌+◌, ◌<◌, ◌≤◌, true, false, List, length, Some, None, Option, refl, sym, ap, ◌∙◌}
use Rattle.std.proofs.Common.{inl, inr, subst, arith}
use Rattle.std.specs.Prelude.{slice_index}
use Rattle.ps_word.specs.Headers.{cycle_in}
use Rattle.ps_core_machine.specs.declared.events.Event.{Event}
use Rattle.ps_core_machine.specs.declared.events.Object.{Object}
use Rattle.ps_core_machine.specs.declared.events.Pair.{Pair}
use Rattle.ps_core_machine.specs.declared.events.Gc.{Gc}
use Rattle.ps_core_machine.specs.Objects.{among, object_at, pair_of, end_of}
use Rattle.ps_core_machine.specs.Steps.{State, table_size, other_base, forwarding}
use Rattle.ps_core_laws.specs.Kept.{Kept}
use Rattle.ps_core_laws.specs.Laws.{PairsHold, IsPair, SecondsLead, IsForwarded, WordsFollow, TakenBegins}
use Rattle.ps_core_laws.specs.Runs.{run, IsRun, IsSpace}
use Rattle.ps_core_laws.proofs.Bases.{spaces_wide, spaces_far, bases, some_match}
use Rattle.ps_core_laws.proofs.HeapTests.{bool_cases, number_is}
use Rattle.ps_core_laws.proofs.Kept.{good}
use Rattle.ps_core_laws.proofs.KeptFacts.{kept}
use Rattle.ps_core_laws.proofs.LawFacts.{pairs_hold}
use Rattle.ps_core_laws.proofs.Seconds.{seconds}
use Rattle.ps_table.proofs.Facts.{words, taken}

-- the clauses of the law that the seat rests on, of one state
pub record Lawful (s : State) : Type 0 where
  pub kept : Kept s
  pub pairs : PairsHold s
  pub words : WordsFollow s
  pub seconds : SecondsLead s
  pub taken : TakenBegins s

pub lawful : (space : ℕ) → IsSpace space → (events : List Event) → IsRun space events
    → Lawful (run space events)
lawful space size events h = record {
  kept = kept space size events h;
  pairs = pairs_hold space size (run space events) (good space size events h);
  words = words space size events h;
  seconds = (seconds space size events h).second;
  taken = taken space size events h;
}

-- what the word behind the first header of an object tells: the way to the replica, where there is
-- one, else a word of no open cycle
pub record SecondTells (g : Gc) (a n : ℕ) : Type 0 where
  pub none : pair_of g.pairs a ≡ None → cycle_in n ≤ g.cycle
  pub some : (p : Pair) → pair_of g.pairs a ≡ Some p → n ≡ forwarding (g.cycle + 1) p.replica

module _ (s : State) (k : Lawful s) where
  pub original : (a : ℕ) (p : Pair) → pair_of s.gc.pairs a ≡ Some p → (o : Object)
      × (object_at s.vm.objects a ≡ Some o) × IsPair s a p o
  original a p at = some_match (IsPair s a p) (object_at s.vm.objects a) (k.pairs.1 a p at)

  -- in a cycle the true epoch is the cycle's number
  pub epoch_is : (a : ℕ) (p : Pair) → pair_of s.gc.pairs a ≡ Some p → s.vm.epoch ≡ s.gc.cycle + 1
  epoch_is a p at =
      number_is s.vm.epoch (s.vm.cycle + 1) (original a p at).2.opened
      ∙ ap (λ (n : ℕ). n + 1) (sym k.kept.both.cycle)

  pub known_object : (a : ℕ) → among s.gc.known a ≡ true → (o : Object)
      × (object_at s.vm.objects a ≡ Some o)
  known_object a is = go (object_at s.vm.objects a) refl
    where
      go : (x : Option Object) → object_at s.vm.objects a ≡ x → (o : Object)
          × (object_at s.vm.objects a ≡ Some o)
      go None e = absurd ((k.kept.both.known a is).0 e)
      go (Some o) e = (o, e)

  pub object_inside : (a : ℕ) (o : Object) → object_at s.vm.objects a ≡ Some o
      → (8256 ≤ a) × (a + 2 + length o.fields ≤ table_size s.gc.space)
  object_inside a o at =
      let lie = k.kept.mutator.lie a o at in
      let lo = lie.low in let hi = lie.high in
      let far = (spaces_far s.vm.space s.vm.cycle).0 in
      let wide = (spaces_wide s.vm.space s.vm.cycle).0 in
      let whole = k.kept.mutator.whole in
      let same = k.kept.both.space in
      (omega arith, omega arith)

  pub original_inside : (a : ℕ) (p : Pair) → pair_of s.gc.pairs a ≡ Some p
      → a + 2 + length p.fields ≤ table_size s.gc.space
  original_inside a p at =
      let o = original a p at in
      let inside = (object_inside a o.0 o.1).1 in
      let same = o.2.fields in
      omega arith

  pub replica_inside : (a : ℕ) (p : Pair) → pair_of s.gc.pairs a ≡ Some p
      → (8256 ≤ p.replica) × (end_of p ≤ table_size s.gc.space)
  replica_inside a p at =
      let lie = k.kept.collector.lie a p at in
      let lo = lie.low in let hi = lie.high in
      let far = (spaces_far s.gc.space s.gc.cycle).1 in
      let wide = (spaces_wide s.gc.space s.gc.cycle).1 in
      (omega arith, omega arith)

  -- no second header is the first of what is known
  pub second_unknown : (a : ℕ) (o : Object) → object_at s.vm.objects a ≡ Some o
      → among s.gc.known (a + 1) ≡ false
  second_unknown a o at = elim (bool_cases (among s.gc.known (a + 1))) [
    | inl t ↦
        let f = known_object (a + 1) t in
        elim (k.kept.mutator.apart a (a + 1) o f.0 at f.1 (λ e. omega arith)) as
        (λ _. among s.gc.known (a + 1) ≡ false)
        [ inl e ↦ absurd (omega arith) | inr e ↦ absurd (omega arith) ]
    | inr f ↦ f
  ]

  -- nor is a word of the other space
  pub other_unknown : (place : ℕ) → other_base s.gc.space s.gc.cycle ≤ place
      → place < other_base s.gc.space s.gc.cycle + s.gc.space → among s.gc.known place ≡ false
  other_unknown place lo hi = elim (bool_cases (among s.gc.known place)) [
    | inl t ↦
        let w = k.kept.collector.known place t in
        let low = w.0 in let high = w.1 in
        elim (bases s.gc.space s.gc.cycle) as (λ _. among s.gc.known place ≡ false) [
          | inl b ↦ (let x = b.0 in let y = b.1 in absurd (omega arith))
          | inr b ↦ (let x = b.0 in let y = b.1 in absurd (omega arith))
        ]
    | inr f ↦ f
  ]

  pub second_tells : (a n : ℕ) (o : Object) → object_at s.vm.objects a ≡ Some o
      → slice_index s.words (a + 1) ≡ n → SecondTells s.gc a n
  second_tells a n o at found =
      let leads = k.seconds a o at in
      let cycle = k.kept.both.cycle in
      let forwards : (x : Option Pair) → pair_of s.gc.pairs a ≡ x
      → IsForwarded s.words a s.vm.cycle s.vm.epoch x = λ x e. subst
      (IsForwarded s.words a s.vm.cycle s.vm.epoch) e leads in
      record {
        none = λ e.
            let h : cycle_in n ≤ s.vm.cycle = subst (λ (w : ℕ). cycle_in w ≤ s.vm.cycle) found
            (forwards None e) in
            subst (λ (w : ℕ). cycle_in n ≤ w) (sym cycle) h;
        some = λ p e. sym found ∙ (forwards (Some p) e
            ∙ ap (λ (w : ℕ). forwarding w p.replica) (epoch_is a p e));
      }

  -- ---- the two headers of a replica

  pub replica_header : (a : ℕ) (p : Pair) → pair_of s.gc.pairs a ≡ Some p
      → slice_index s.words p.replica ≡ p.header
  replica_header a p at = (k.words.replicas_are a p at).header

  pub replica_back : (a : ℕ) (p : Pair) → pair_of s.gc.pairs a ≡ Some p
      → slice_index s.words (p.replica + 1) ≡ forwarding (s.gc.cycle + 1) a
  replica_back a p at =
      k.kept.both.back a p at ∙ ap (λ (w : ℕ). forwarding w a) (epoch_is a p at)
