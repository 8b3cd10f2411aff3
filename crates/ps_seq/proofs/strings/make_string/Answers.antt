use Rattle.std.proofs.Common.{ℕ, List, ◌≡◌, ◌+◌, ◌*◌, ◌<◌, ◌≤◌, [], ◌∷◌, length, drop, take, arith, sym, ap, ◌∙◌, refl, subst}
use Rattle.std.specs.Prelude.{slice_range}
use Rattle.std.specs.Int.{w64, to_le_bytes}
use Rattle.ps_language.specs.declared.kinds.Kind.TheVariants.{Text}
use Rattle.ps_language.specs.Access.{splice}
use Rattle.ps_word.specs.declared.words.Word.{Word}
use Rattle.ps_mem.specs.Heap.{Heap, made, stored, zero_word}
use Rattle.ps_mem.specs.Objects.{word_of}
use Rattle.ps_mem.specs.References.{StandsAs}
use Rattle.ps_mem.specs.Strings.{number_of_bytes, words_of}
use Rattle.ps_mem.proofs.HeapLemmas.{stored-nil}
use Rattle.ps_seq.proofs.MadeLemmas.{still_stands, filled_place, filled_next, new_object_filled, next_filled, stands_filled, birth_filled}
use Rattle.ps_seq.proofs.TextStores.{bytes_fit, text_names}
use Rattle.ps_seq.proofs.TextNews.{IsSound-new_text, Shows-new_text, filled_word, word_or, length-words_of}
use Rattle.ps_seq.proofs.strings.make_string.Given.{Over}
use Rattle.ps_seq.proofs.strings.make_string.Goals.{At-loop-index}
use Rattle.ps_seq.proofs.strings.make_string.Goals as goal

pub loop-index-init : goal.loop-index-init
loop-index-init g c = record {
  upto = omega arith;
  heap = sym (stored-nil
      (g.M.Memory.heap c.alloc-address.new.self) c.alloc-address.result 0);
  grants = refl;
}

-- ---- before a turn: so many words are filled

module _ (g : Over) (c : At-loop-index g) where
  abbrev h : Heap
  h = g.M.Memory.heap c.args.memory.now

  abbrev a : ℕ
  a = c.alloc-address.result

  abbrev ws : List Word
  ws = words_of c.args.bytes.now

  abbrev now : Heap
  now = g.M.Memory.heap c.loop-index.memory

  abbrev i : ℕ
  i = c.loop-index.index

  made_is : g.M.Memory.heap c.alloc-address.new.self ≡ made h a Text (length ws)
  made_is = c.alloc-address.ensures.heap
      ∙ ap (made h a Text)
      (c.words_of_string-words.ensures ∙ sym (length-words_of c.args.bytes.now))

  filled : now ≡ stored (made h a Text (length ws)) a 0 (take i ws)
  filled = c.loop-index.invariant.heap ∙ ap (λ (k : Heap). stored k a 0 (take i ws)) made_is

  long : c.words_of_string-words.result ≡ length ws
  long = c.words_of_string-words.ensures ∙ sym (length-words_of c.args.bytes.now)

pub fill-requires-clause-known : goal.fill-requires-clause-known
fill-requires-clause-known g c =
    let d = (goal.at.fill-requires-clause-known g c).At-loop-index in
    text_names (now g d) (a g d) 0 (c.with_bytes.result ∷ [])
    (still_stands (h g d) (a g d) c.alloc-address.ensures.free Text (ws g d) (now g d) (i g d)
    (filled g d))

pub fill-requires-clause-place : goal.fill-requires-clause-place
fill-requires-clause-place g c =
    let d = (goal.at.fill-requires-clause-place g c).At-loop-index in
    let test = c.loop-index-test.true in
    filled_place (h g d) (a g d) c.alloc-address.ensures.free Text (ws g d) (now g d) (i g d)
    (filled g d) (omega (arith, test, long g d))

pub loop-index-preserved : goal.loop-index-preserved
loop-index-preserved g c =
    let d = (goal.at.loop-index-preserved g c).At-loop-index in
    let bytes = c.args.bytes.now in
    let test = c.loop-index-test.true in
    let below : i g d < length (ws g d) = omega (arith, test, long g d) in
    let words = length-words_of bytes in
    let stop = c.min-end.result in
    let least = c.min-end.ensures in
    let turned : i g d * 8 ≡ 8 * i g d = omega arith in
    let value : c.with_bytes.result.0 ≡ number_of_bytes (take 8 (drop (8 * i g d) bytes)) =
    c.with_bytes.ensures
    ∙ (ap (λ n. number_of_bytes (splice (to_le_bytes w64 0) 0 (slice_range bytes n stop))) turned
    ∙ filled_word bytes (i g d) stop (omega (arith, least, below, words)) (omega (arith, least))
    (omega (arith, least)) (λ k low past. omega (arith, least, low, past))) in
    record {
      upto = omega (arith, test);
      heap = c.fill.ensures.heap
          ∙ ((λ k. stored (now g d) (a g d) (i g d) (word_of (value k) ∷ []))
          ∙ (ap (λ w. stored (now g d) (a g d) (i g d) (w ∷ []))
          (sym (word_or bytes (i g d) zero_word (omega (arith, below, words))))
          ∙ (filled_next (h g d) (a g d) c.alloc-address.ensures.free Text (ws g d) (now g d)
          (i g d) (filled g d) below zero_word
          ∙ ap (λ (k : Heap). stored k (a g d) 0 (take (i g d + 1) (ws g d)))
          (sym (made_is g d)))));
      grants = c.fill.ensures.grants ∙ c.loop-index.invariant.grants;
    }

-- ---- behind the last

pub returns-clause-known : goal.returns-clause-known
returns-clause-known g c =
    let d = (goal.at.returns-clause-known g c).At-loop-index in
    let test = c.loop-index-test.false in
    subst (StandsAs (now g d) Text (a g d)) (length-words_of c.args.bytes.now)
    (stands_filled (h g d) (a g d) c.alloc-address.ensures.free Text (ws g d) (now g d) (i g d)
    (filled g d) (omega (arith, test, long g d)))

pub returns-clause-sound : goal.returns-clause-sound
returns-clause-sound g c =
    let d = (goal.at.returns-clause-sound g c).At-loop-index in
    let test = c.loop-index-test.false in
    let all : length (ws g d) ≤ i g d = omega (arith, test, long g d) in
    IsSound-new_text (h g d) (now g d) (a g d) (ws g d)
    (new_object_filled (h g d) (a g d) c.alloc-address.ensures.free Text (ws g d) (now g d)
    (i g d) (filled g d) all) c.requires.sound
    (next_filled (h g d) (a g d) c.alloc-address.ensures.free Text (ws g d) (now g d) (i g d)
    (filled g d) all)

pub returns-clause-extends : goal.returns-clause-extends
returns-clause-extends g c =
    let d = (goal.at.returns-clause-extends g c).At-loop-index in
    let test = c.loop-index-test.false in
    let new = new_object_filled (h g d) (a g d) c.alloc-address.ensures.free Text (ws g d)
    (now g d) (i g d) (filled g d) (omega (arith, test, long g d)) in
    new.extends

pub returns-clause-birth : goal.returns-clause-birth
returns-clause-birth g c =
    let d = (goal.at.returns-clause-birth g c).At-loop-index in
    let test = c.loop-index-test.false in
    birth_filled (h g d) (a g d) c.alloc-address.ensures.free Text (ws g d) (now g d) (i g d)
    (filled g d) (omega (arith, test, long g d))

pub returns-clause-shows : goal.returns-clause-shows
returns-clause-shows g c = λ names s shows.
    let d = (goal.at.returns-clause-shows g c).At-loop-index in
    let test = c.loop-index-test.false in
    let all : length (ws g d) ≤ i g d = omega (arith, test, long g d) in
    Shows-new_text (h g d) (now g d) (a g d) (ws g d)
    (new_object_filled (h g d) (a g d) c.alloc-address.ensures.free Text (ws g d) (now g d)
    (i g d) (filled g d) all) c.requires.sound
    (next_filled (h g d) (a g d) c.alloc-address.ensures.free Text (ws g d) (now g d) (i g d)
    (filled g d) all) names s c.args.bytes.now shows
    (bytes_fit c.args.bytes.now (λ k. let fits = c.type_inv.bytes k in omega (arith, fits))) refl
