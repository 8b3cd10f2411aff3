use Rattle.std.proofs.Common.{◌≡◌, ◌≢◌, ◌+◌, ◌-◌, ◌<◌, ◌^◌, ◌∙◌, ℕ, false, List, Some, None, ap, sym, refl, arith, subst, nat_lt, Option, length, map, take, get_or}
use Rattle.std.proofs.lemmas.Option.{slice_get-get_or}
use Rattle.ps_word.specs.declared.words.Word.{Word}
use Rattle.ps_word.specs.Format.{content_in}
use Rattle.ps_word.specs.Readers.{as_integer}
use Rattle.ps_dict.specs.Probes.{turned}
use Rattle.std.specs.Prelude.{ℤ, slice_get, slice_set, if◌then◌else◌}
use Rattle.ps_mem.specs.Index.{has_free, index_word, placed}
use Rattle.ps_dict.proofs.Freeing.{free-end_in, free-here_in, free-on_in}
use Rattle.ps_dict.proofs.index.free_from.Goals as goal

pub loop-behind-init : goal.loop-behind-init
loop-behind-init c = λ spots words count small. refl

some-not : (o : Option ℤ) (z : ℤ) → o ≡ Some z → o ≢ None
some-not o z e = λ is. cc

-- by the word at a place
module _ (ws : List Word) (n s k p : ℕ) (start : s < n) (below : k < n) (long : length ws ≡ n)
    (is : p ≡ (if nat_lt (s + k) n then s + k else s + k - n)) (within : p < n) where
  word_there : (d : Word) → slice_get ws (if nat_lt (s + k) n then s + k else s + k - n) ≡ Some
      (get_or ws p d)
  word_there d = ap (slice_get ws) (sym is) ∙ slice_get-get_or ws p d (omega (arith, within, long))

  module _ (spots : List (Option ℕ)) (words : ws ≡ map index_word spots) (count : length spots ≡ n)
      (small : (place q : ℕ) → slice_get spots place ≡ Some (Some q) → q < 2 ^ 31)
      (none : has_free (take k (turned s spots)) ≡ false) where
    goes_on : (d : Word) {number : Option ℤ} {z : ℤ}
        → number ≡ as_integer (content_in (get_or ws p d).0) → number ≡ Some z
        → has_free (take (k + 1) (turned s spots)) ≡ false
    goes_on d {number} {z} reads is_some =
        free-on_in ws n spots words count small s start k below (get_or ws p d) (word_there d)
        (λ free. some-not number z is_some (reads ∙ free)) none

    stops : (d : Word) {number : Option ℤ} → number ≡ as_integer (content_in (get_or ws p d).0)
        → number ≡ None → (position : ℕ)
        → placed position s spots ≡ slice_set spots p (Some position)
    stops d reads is_none position =
        subst (λ q. placed position s spots ≡ slice_set spots q (Some position)) (sym is)
        (free-here_in ws n spots words count small s start k below (get_or ws p d) (word_there d)
        (sym reads ∙ is_none) none position)

pub loop-behind-preserved : goal.loop-behind-preserved
loop-behind-preserved c = λ spots words count small.
    goes_on c.args.places.now c.args.capacity c.args.start c.loop-behind.behind
    c.place_behind-place.result c.requires.start (omega arith) c.requires.all
    c.place_behind-place.ensures.answer c.place_behind-place.ensures.below
    spots words count small (c.loop-behind.invariant spots words count small) _ c.as_integer.ensures
    c.in-Some.is

pub returns-in-None-clause-placed : goal.returns-in-None-clause-placed
returns-in-None-clause-placed c = λ spots words count small has.
    stops c.args.places.now c.args.capacity c.args.start c.loop-behind.behind
    c.place_behind-place.result c.requires.start (omega arith) c.requires.all
    c.place_behind-place.ensures.answer c.place_behind-place.ensures.below
    spots words count small (c.loop-behind.invariant spots words count small) _ c.as_integer.ensures
    c.in-None.is

pub returns-clause-placed : goal.returns-clause-placed
returns-clause-placed c = λ spots words count small has position.
    absurd (free-end_in c.args.places.now c.args.capacity spots words count small c.args.start
    c.requires.start c.loop-behind.behind (omega arith)
    (c.loop-behind.invariant spots words count small) has)
