use Rattle.std.proofs.Common.{arith, ℕ, ◌++◌, [], get_or, take, refl, sym, ap, ◌∙◌}
use Rattle.std.proofs.lemmas.List.{take_all}
use Rattle.ps_word.specs.declared.words.Word.{Word}
use Rattle.ps_core_machine.specs.Objects.{values_have_replicas}
use Rattle.ps_core_laws.specs.Stores.{number_of, numbers}
use Rattle.ps_table.proofs.Flipping.{gc_all-append}
use Rattle.ps_gc.specs.Events.{word_replicated}
use Rattle.ps_table.specs.Events.{gc_did_all}
use Rattle.ps_gc.proofs.Replicating.{adds_same}
use Rattle.ps_gc.proofs.Roots.{adds_on, opened_on, known_on, have_on, have_more, next_known}
use Rattle.ps_gc.proofs.collector.Collector.add_roots.Goals as goal

pub loop-root-init : goal.loop-root-init
loop-root-init g c = record {
  known = c.requires.known;
  stand = refl;
  adds = adds_same c.args.self.now.gc.seat.me.0.gc;
  did = ([], refl);
  same = refl;
}

pub replicate-requires : goal.replicate-requires
replicate-requires g c =
    let g = c.args.self.now.gc.seat.me.0.gc in
    let h = c.loop-root.self.gc.seat.me.0.gc in
    let i = c.loop-root.invariant in
    let none : Word = record { 0 = 0 } in
    let next = next_known g c.args.roots.now c.loop-root.root-index none c.loop-root-test.true
    i.known in
    record {
      «open» = opened_on g h i.adds c.requires.open;
      known = known_on g h i.adds _ next.0;
    }

pub loop-root-preserved : goal.loop-root-preserved
loop-root-preserved g c =
    let m = c.args.self.now.gc.seat.me.0 in
    let g = m.gc in
    let h = c.loop-root.self.gc.seat.me.0.gc in
    let k = c.replicate.new.self.gc.seat.me.0.gc in
    let i = c.loop-root.invariant in
    let none : Word = record { 0 = 0 } in
    let next = next_known g c.args.roots.now c.loop-root.root-index none c.loop-root-test.true
    i.known in
    let more = c.replicate.ensures in
    let x : ℕ = number_of (get_or c.args.roots.now c.loop-root.root-index none) in
    let events = word_replicated h x more.did.0 more.did.1 in
    record {
      known = next.1;
      stand = have_more k.pairs c.args.roots.now c.loop-root.root-index none
          c.loop-root-test.true (have_on h k more.adds
          (numbers (take c.loop-root.root-index c.args.roots.now)) i.stand) more.stands;
      adds = adds_on g h k i.adds more.adds;
      did = (
        i.did.0 ++ events,
        more.did.2 ∙ (ap (λ x. gc_did_all x events) i.did.1
            ∙ sym (gc_all-append m i.did.0 events)),
      );
      same = more.same ∙ i.same;
    }

pub returns-clause-stand : goal.returns-clause-stand
returns-clause-stand g c =
    let past = c.loop-root-test.false in
    let h = c.loop-root.self.gc.seat.me.0.gc in
    ap (λ l. values_have_replicas h.pairs (numbers l))
    (sym (take_all c.loop-root.root-index c.args.roots.now (omega arith)))
    ∙ c.loop-root.invariant.stand
