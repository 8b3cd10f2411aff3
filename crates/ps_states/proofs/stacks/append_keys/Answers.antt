use Rattle.std.proofs.Common.{◌≡◌, ℕ, List, Some, ◌++◌, length, min, take, arith, ap, ◌∙◌, append_assoc}
use Rattle.std.specs.List.{flat_map}
use Rattle.std.proofs.lemmas.List.{take_min}
use Rattle.std.proofs.lemmas.Result.{on_ok_weaker}
use Rattle.ps_language.specs.Access.{dictionary_at}
use Rattle.ps_mem.specs.Heap.{birth_at}
use Rattle.ps_mem.specs.Shows.{pair_of}
use Rattle.ps_views.specs.Lines.{label_text}
use Rattle.ps_states.specs.States.{key_text, keys_end}
use Rattle.ps_states.proofs.Lines.{one_more, not_gone}
use Rattle.ps_states.proofs.stacks.append_keys.Goals as goal

pub pair-requires-clause-sound : goal.pair-requires-clause-sound
pair-requires-clause-sound g c = rw c.loop-place.invariant.heap c.requires.sound

pub pair-requires-clause-known : goal.pair-requires-clause-known
pair-requires-clause-known g c = rw c.loop-place.invariant.heap c.requires.known

pub loop-place-preserved : goal.loop-place-preserved
loop-place-preserved g c =
    let h = g.M.Memory.heap c.args.runtime.now.memory in
    let births = birth_at h in
    let names = c.args.runtime.now.shared.names in
    let text = c.in_ok-text.ensures.text in
    let told = rw (c.pair.ensures.heap, c.loop-place.invariant.heap, c.loop-place.invariant.shared) at text in
    let held = c.in-Some.ensures.within in
    let within = rw c.loop-place.invariant.heap at held in
    let there = c.in-Some.ensures.value in
    let value = rw c.loop-place.invariant.heap at there in
    record {
      heap = c.full_text_of.ensures.heap ∙ c.pair.ensures.heap ∙ c.loop-place.invariant.heap;
      grants = c.full_text_of.ensures.grants ∙ c.pair.ensures.grants ∙ c.loop-place.invariant.grants;
      shared = c.full_text_of.ensures.shared ∙ c.loop-place.invariant.shared;
      keys = λ s shows.
          one_more (key_text s) (dictionary_at s (births c.args.address)).pairs c.loop-place.place
          (pair_of births names (c.in-Some.key, c.in-Some._value)) c.args.to.now.items c.loop-place.to.items
          c.append_label.new.to.items (value names s shows) (c.loop-place.invariant.keys s shows)
          (c.in_ok-append_label.ensures.appended
          ∙ ap (λ (t : List ℕ). c.loop-place.to.items ++ label_text (Some t))
          (c.as_slice.ensures.value ∙ told s shows (within names s shows).0));
    }

pub returns-in_default-clause-keys : goal.returns-in_default-clause-keys
returns-in_default-clause-keys g c = λ s shows.
    let births = birth_at (g.M.Memory.heap c.args.runtime.now.memory) in
    let names = c.args.runtime.now.shared.names in
    let there = c.in_default.ensures.value in
    let none = rw c.loop-place.invariant.heap at there in
    absurd (not_gone (dictionary_at s (births c.args.address)).pairs c.loop-place.place
    (omega (arith, c.loop-place-test.true, c.min-place-end.ensures, c.length-count.ensures.value names s shows))
    (none names s shows))

pub returns-clause-keys : goal.returns-clause-keys
returns-clause-keys g c = λ s shows.
    let births = birth_at (g.M.Memory.heap c.args.runtime.now.memory) in
    let names = c.args.runtime.now.shared.names in
    let pairs = (dictionary_at s (births c.args.address)).pairs in
    let count : c.length-count.result ≡ length pairs = c.length-count.ensures.value names s shows in
    let place : c.loop-place.place ≡ min 6 (length pairs) =
    omega (arith, count, c.loop-place-test.false, c.loop-place.auto.place-end, c.min-place-end.ensures) in
    let six : take c.loop-place.place pairs ≡ take 6 pairs = ap (λ n. take n pairs) place ∙ take_min 6 pairs in
    let lines : c.loop-place.to.items ≡ c.args.to.now.items ++ flat_map (key_text s) (take 6 pairs) =
    c.loop-place.invariant.keys s shows ∙ ap (λ told. c.args.to.now.items ++ flat_map (key_text s) told) six in
    on_ok_weaker c.append_end.result
    (λ ended. ended ∙ ap (λ n. c.loop-place.to.items ++ keys_end n) count
    ∙ ap (λ front. front ++ keys_end (length pairs)) lines
    ∙ append_assoc c.args.to.now.items (flat_map (key_text s) (take 6 pairs)) (keys_end (length pairs)))
    c.append_end.ensures
