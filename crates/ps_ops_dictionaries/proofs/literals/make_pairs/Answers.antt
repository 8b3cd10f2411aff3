-- The words of what stands above the mark are put together, and a dictionary is made of them.
use Rattle.std.proofs.Common.{arith}
use Rattle.ps_mem.specs.Shows.{IsValue}
use Rattle.ps_mem.proofs.KeepsLemmas.{Keeps-Extends}
use Rattle.ps_ops_operands.proofs.Held.{rest_held}
use Rattle.ps_ops_operands.proofs.Making.{made_ready}
use Rattle.ps_ops_operands.proofs.Tops.{top_values}
use Rattle.ps_ops_dictionaries.proofs.Pairing.{paired_left}
use Rattle.ps_ops_dictionaries.proofs.literals.make_pairs.Goals as goal

pub gather_pairs-requires-clause-held : goal.gather_pairs-requires-clause-held
gather_pairs-requires-clause-held g c = rw c.granted.ensures.heap
    (top_values (g.M.Memory.heap c.args.memory.now) c.args.operands.now c.args.depth _
    c.requires.ready.values c.topmost.ensures)

pub returns-clause-ready : goal.returns-clause-ready
returns-clause-ready g c =
    let h = g.M.Memory.heap c.args.memory.now in
    let now = g.M.Memory.heap c.make_dictionary-address.new.memory in
    let old = c.args.operands.now in
    let extends = rw (c.gather_pairs.ensures.heap, c.granted.ensures.heap)
    at c.make_dictionary-address.ensures.extends in
    made_ready h now old _ _ (Keeps-Extends h now extends)
    (rest_held (IsValue h) old c.requires.ready.values _) c.dictionary_word.result
    c.replace.ensures c.make_dictionary-address.ensures.sound
    (c.dictionary_word.ensures.held now c.make_dictionary-address.ensures.known)

pub returns-clause-left : goal.returns-clause-left
returns-clause-left g c = λ s pairs shows.
    let h = g.M.Memory.heap c.args.memory.now in
    let now = g.M.Memory.heap c.make_dictionary-address.new.memory in
    let names = c.args.names.now in
    let extends = rw (c.gather_pairs.ensures.heap, c.granted.ensures.heap)
    at c.make_dictionary-address.ensures.extends in
    let born = rw (c.gather_pairs.ensures.heap, c.granted.ensures.heap)
    at c.make_dictionary-address.ensures.birth in
    let shown = rw (
      c.as_slice.ensures.value,
      c.gather_pairs.ensures.heap,
      c.granted.ensures.heap,
    )
    at c.make_dictionary-address.ensures.shows in
    let inside = rw c.granted.ensures.heap at c.gather_pairs.ensures.within in
    let gathered = rw c.granted.ensures.heap at c.gather_pairs.ensures.pairs in
    paired_left h now (Keeps-Extends h now extends) names c.args.operands.now c.args.depth
    c.requires.ready.values c.dictionary_word.result _ c.replace.ensures
    c.make_dictionary-address.result born
    (λ births ns. c.dictionary_word.ensures.value births ns)
    (λ births ns store. c.dictionary_word.ensures.within births ns store)
    c.topmost.result.now c.gather_pairs.new.words.items c.topmost.ensures
    (omega (arith, c.requires.within)) c.requires.even c.gather_pairs.ensures.count s
    (λ above. inside s shows above) (λ above met. gathered s shows above met)
    (λ words. shown names s shows c.requires.names.different words) pairs shows
