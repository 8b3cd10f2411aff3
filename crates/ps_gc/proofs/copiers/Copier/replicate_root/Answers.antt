use Rattle.std.proofs.Common.{◌≡◌, ◌+◌, ◌++◌, ◌∷◌, [], true, sym, ap, ◌∙◌}
use Rattle.std.specs.Prelude.{◌==◌}
use Rattle.std.specs.Option.{option_to_list}
use Rattle.ps_gc.specs.Known.{are_known}
use Rattle.ps_gc.proofs.Sides.{known_is, known_same, known_split}
use Rattle.ps_gc.proofs.copiers.Copier.replicate_root.Goals as goal

pub replicate-requires-clause-known : goal.replicate-requires-clause-known
replicate-requires-clause-known g c =
    let s = c.args.self.now in
    let part = s.collector.gc.seat.me.0.gc in
    let popped : s.pending.items ≡ c.pop.new.self.items ++ c.in-Some.root ∷ [] =
    c.pop.ensures.items ∙ ap (λ r. c.pop.new.self.items ++ option_to_list r) c.in-Some.is in
    let all : are_known part (c.pop.new.self.items ++ c.in-Some.root ∷ []) ≡ true =
    ap (are_known part) (sym popped) ∙ s.known c.requires.«open» in
    known_is part c.in-Some.root (known_split part c.pop.new.self.items c.in-Some.root all).1

pub invariant_of-self-in-Some : goal.invariant_of-self-in-Some
invariant_of-self-in-Some g c =
    let s = c.args.self.now in
    let part = s.collector.gc.seat.me.0.gc in
    let new = c.replicate.new.self in
    let adds = c.replicate.ensures.adds in
    let popped : s.pending.items ≡ c.pop.new.self.items ++ c.in-Some.root ∷ [] =
    c.pop.ensures.items ∙ ap (λ r. c.pop.new.self.items ++ option_to_list r) c.in-Some.is in
    let all : are_known part (c.pop.new.self.items ++ c.in-Some.root ∷ []) ≡ true =
    ap (are_known part) (sym popped) ∙ s.known c.requires.«open» in
    record {
      named = new.gc.seated ∙ (c.replicate.ensures.same ∙ (sym s.collector.gc.seated ∙ s.named));
      knows = (λ i. adds.epoch i == adds.cycle i + 1) ∙ s.knows;
      known = λ _. known_same part new.gc.seat.me.0.gc c.pop.new.self.items adds.known
          (known_split part c.pop.new.self.items c.in-Some.root all).0;
    }

pub returns-in-Some-clause-copied : goal.returns-in-Some-clause-copied
returns-in-Some-clause-copied g c = λ _.
    let popped : c.args.self.now.pending.items ≡ c.pop.new.self.items ++ c.in-Some.root ∷ [] =
    c.pop.ensures.items ∙ ap (λ r. c.pop.new.self.items ++ option_to_list r) c.in-Some.is in
    (c.in-Some.root, popped, c.replicate.ensures.stands)
