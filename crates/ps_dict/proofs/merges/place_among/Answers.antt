use Rattle.std.proofs.Common.{◌≡◌, ◌*◌, ◌+◌, ◌∙◌, suc, ap, sym, refl, arith, take, get_or}
use Rattle.std.proofs.lemmas.List.{take_all}
use Rattle.ps_mem.specs.Heap.{zero_word}
use Rattle.ps_mem.specs.Index.{pairs_of_words}
use Rattle.ps_dict.specs.Keys.{IsKey}
use Rattle.ps_dict.specs.Places.{place_of}
use Rattle.ps_dict.proofs.Pairs.{place_found, place_not_yet}
use Rattle.ps_dict.proofs.Fresh.{all-there, length-in_twos, pair-in_twos}
use Rattle.ps_dict.proofs.merges.place_among.Goals as goal

pub loop-place-init : goal.loop-place-init
unfolding place_of
loop-place-init c = refl

pub is_same_key-requires-clause-left : goal.is_same_key-requires-clause-left
is_same_key-requires-clause-left c =
    (all-there IsKey c.args.words.now (2 * c.loop-place.place) zero_word c.requires.words
    (omega arith)).word

pub is_same_key-requires-clause-visible : goal.is_same_key-requires-clause-visible
is_same_key-requires-clause-visible c =
    (all-there IsKey c.args.words.now (2 * c.loop-place.place) zero_word c.requires.words
    (omega arith)).visible

pub returns-then-is_same_key : goal.returns-then-is_same_key
returns-then-is_same_key c =
    let ws = c.args.words.now in
    let i = c.loop-place.place in
    sym (place_found c.args.key (pairs_of_words ws) i (get_or ws (2 * i) zero_word)
    (get_or ws (2 * i + 1) zero_word) c.loop-place.invariant
    (pair-in_twos ws i zero_word (omega arith))
    (sym c.is_same_key.ensures ∙ c.if-is_same_key.true))

pub loop-place-preserved : goal.loop-place-preserved
loop-place-preserved c =
    let ws = c.args.words.now in
    let i = c.loop-place.place in
    let next : i + 1 ≡ suc i = omega arith in
    ap (λ n. place_of (take n (pairs_of_words ws)) c.args.key) next
    ∙ place_not_yet c.args.key (pairs_of_words ws) i (get_or ws (2 * i) zero_word)
    (get_or ws (2 * i + 1) zero_word) c.loop-place.invariant
    (pair-in_twos ws i zero_word (omega arith))
    (sym c.is_same_key.ensures ∙ c.if-is_same_key.false)

pub returns : goal.returns
returns c =
    let twos = length-in_twos c.args.words.now in
    sym (sym (ap (λ ps. place_of ps c.args.key)
    (take_all c.loop-place.place (pairs_of_words c.args.words.now) (omega (arith, twos))))
    ∙ c.loop-place.invariant)
