use Rattle.std.proofs.Common.{◌≡◌, ◌+◌, ◌-◌, ◌*◌, ◌++◌, length, take, drop, arith, rules, sym, ap, ◌∙◌}
use Rattle.std.proofs.lemmas.List.{append_assoc, append-nil, length-take-le}
use Rattle.ps_mem.specs.Strings.{words_from}
use Rattle.ps_seq.proofs.SpliceLemmas.{words_from-add, words_from-taken}
use Rattle.ps_seq.proofs.strings.push_words.Goals as goal

pub loop-done-init : goal.loop-done-init
unfolding words_from
loop-done-init c = record {
  upto = search rules;
  count = search rules;
  room = search rules;
  kept = search rules;
  value = c.reserve.ensures.items ∙ sym (append-nil c.args.words.now.items);
}

pub loop-done-preserved : goal.loop-done-preserved
loop-done-preserved c = record {
  upto = search rules;
  count = search rules;
  room = search rules;
  kept = search rules;
  value =
      let text = c.args.text.now in
      let old = c.args.words.now.items in
      let done = c.loop-done.done in
      let more = c.min-more.result in
      let taken : length (take more c.loop-done.run) ≡ more = length-take-le more c.loop-done.run
      (omega (arith, c.min-more.ensures, c.min-more.array_long)) in
      let bytes : 8 * (done + more) - 8 * done ≡ 8 * more = omega arith in
      let next = drop (8 * done) text in
      let new : c.fill_words.new.words ≡ words_from more next = c.fill_words.ensures
      ∙ ((λ i. words_from (taken i) (take (bytes i) next)) ∙ words_from-taken more next) in
      c.in_ok-extend_from_slice.ensures.items
      ∙ ((λ i. c.loop-done.invariant.value i ++ new i)
      ∙ (append_assoc old (words_from done text) (words_from more next)
      ∙ ap (λ ws. old ++ ws) (sym (words_from-add done more text))));
}
