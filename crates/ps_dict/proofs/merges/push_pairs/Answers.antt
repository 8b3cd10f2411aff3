use Rattle.std.proofs.Common.{rules, ◌≡◌, ◌*◌, ◌<◌, ◌++◌, ◌∙◌, [], ◌∷◌, Some, ap, sym, arith, subst, length, take}
use Rattle.std.specs.Prelude.{slice_get}
use Rattle.ps_mem.specs.Heap.{Heap, fields_at}
use Rattle.ps_dict.specs.Places.{count_at, body_at}
use Rattle.ps_dict.proofs.Fresh.{take-next}
use Rattle.ps_dict.proofs.Shapes.{pair-words}
use Rattle.ps_dict.proofs.Shapes.{count-fits, body-room}
use Rattle.ps_dict.proofs.merges.push_pairs.Goals as goal

pub load-word-requires : goal.load-word-requires
load-word-requires g c =
    let h = g.M.Memory.heap c.args.memory.now in
    let a = c.args.address in
    let is_body : c.body-body.result ≡ body_at h a = c.body-body.ensures.words
    ∙ ap (λ (k : Heap). body_at k a) c.length-count.ensures.heap in
    let is_count : c.length-count.result ≡ count_at h a = c.length-count.ensures.words in
    let room = body-room h a c.requires.known c.requires.sound in
    let fits = count-fits h a c.requires.known c.requires.sound in
    record {
      place = subst (λ (k : Heap). c.loop-place.place < length (fields_at k c.body-body.result))
          (sym c.loop-place.invariant.heap)
          (subst (λ b. c.loop-place.place < length (fields_at h b)) (sym is_body)
          (omega (arith, is_count, room, fits)));
    }

pub loop-place-preserved : goal.loop-place-preserved
loop-place-preserved g c =
    let h = g.M.Memory.heap c.args.memory.now in
    let a = c.args.address in
    let is_body : c.body-body.result ≡ body_at h a = c.body-body.ensures.words
    ∙ ap (λ (k : Heap). body_at k a) c.length-count.ensures.heap in
    let read : slice_get (fields_at h (body_at h a)) c.loop-place.place ≡ Some c.load-word.result =
    ap (λ b. slice_get (fields_at h b) c.loop-place.place) (sym is_body)
    ∙ (ap (λ (k : Heap). slice_get (fields_at k c.body-body.result) c.loop-place.place)
    (sym c.loop-place.invariant.heap) ∙ c.load-word.ensures.answer) in
    record {
      heap = search rules;
      grants = search rules;
      words = c.in_ok-push.ensures.items
          ∙ (ap (λ ws. ws ++ c.load-word.result ∷ []) c.loop-place.invariant.words
          ∙ sym (take-next (fields_at h (body_at h a)) c.loop-place.place c.load-word.result
          read));
      count = search rules;
      room = search rules;
    }

pub returns-clause-words : goal.returns-clause-words
returns-clause-words g c =
    let h = g.M.Memory.heap c.args.memory.now in
    let a = c.args.address in
    let is_count : c.length-count.result ≡ count_at h a = c.length-count.ensures.words in
    let all : c.loop-place.place ≡ 2 * count_at h a = omega (arith, is_count) in
    c.loop-place.invariant.words
    ∙ (ap (λ n. take n (fields_at h (body_at h a))) all
    ∙ pair-words h a c.requires.known c.requires.sound)
