use Rattle.std.proofs.Common.{◌≡◌, ◌+◌, ◌-◌, ◌*◌, ◌∷◌, [], ◌++◌, length, take, drop, arith, rules, sym, ap, ◌∙◌}
use Rattle.std.proofs.lemmas.List.{take_more_set, take_all}
use Rattle.ps_mem.specs.Objects.{word_of}
use Rattle.ps_mem.specs.Strings.{number_of_bytes, words_from}
use Rattle.ps_seq.proofs.SpliceLemmas.{words_from-more}
use Rattle.ps_seq.proofs.strings.fill_words.Goals as goal

pub loop-index-init : goal.loop-index-init
unfolding words_from
loop-index-init c = search rules

pub loop-index-preserved : goal.loop-index-preserved
loop-index-preserved c = record {
  size = search rules;
  value =
      let text = c.args.text.now in
      let i = c.loop-index.index in
      let size = c.loop-index.invariant.size in
      let below = c.loop-index-test.true in
      let eight : (8 * i + 8) - 8 * i ≡ 8 = omega arith in
      let value : c.whole_word.result.0 ≡ number_of_bytes (take 8 (drop (8 * i) text)) =
      c.whole_word.ensures ∙ ap (λ n. number_of_bytes (take n (drop (8 * i) text))) eight in
      take_more_set c.loop-index.words i c.whole_word.result (omega (arith, size, below))
      ∙ ((λ k. c.loop-index.invariant.value k ++ word_of (value k) ∷ [])
      ∙ words_from-more i text);
}

pub returns : goal.returns
returns c =
    let size = c.loop-index.invariant.size in
    let upto = c.loop-index.auto.index-end in
    let all : c.loop-index.index ≡ length c.args.words.now = omega
    (arith, upto, c.loop-index-test.false) in
    sym (take_all c.loop-index.index c.loop-index.words (omega (arith, all, size)))
    ∙ (c.loop-index.invariant.value ∙ ap (λ n. words_from n c.args.text.now) all)
