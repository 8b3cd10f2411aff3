use Rattle.std.proofs.Common.{ℕ, ◌≡◌, ◌+◌, ◌*◌, ◌/◌, ◌<◌, ◌∙◌, ap, sym, arith, subst, length, vec_capacity}
use Rattle.std.specs.Prelude.{◌↔◌, None}
use Rattle.std.proofs.lemmas.Result.{IfOk-weaker, MatchResult-from_err, on_err_weaker}
use Rattle.ps_language.specs.Access.{dictionary_at}
use Rattle.ps_language.specs.Dictionaries.{grown_capacity, holding, put_pairs}
use Rattle.ps_mem.specs.Heap.{Heap, birth_at}
use Rattle.ps_mem.specs.Index.{pairs_of_words}
use Rattle.ps_mem.specs.Shows.{AreValues, words_of_pairs}
use Rattle.ps_dict.specs.declared.copies.MergePlan.TheVariants.{Full}
use Rattle.ps_dict.specs.Merges.{merged, merged_at, body_plan, merge_plan_at, merge_planned, merge_words_at, merge_room, planned_words}
use Rattle.ps_dict.specs.Places.{count_at, capacity_at, pairs_at}
use Rattle.ps_dict.proofs.Copying.{both-values, both-most, planned-none, planned-some, planned-shown, planned-full, room-both, room-body}
use Rattle.ps_dict.proofs.Errors.{words-back}
use Rattle.ps_dict.proofs.Pairs.{length-words_of_pairs}
use Rattle.ps_dict.proofs.Probing.{few-places}
use Rattle.ps_dict.proofs.copies.plan_merge.Given.{Over}
use Rattle.ps_dict.proofs.copies.plan_merge.Goals.{In_ok-merge_words}
use Rattle.ps_dict.proofs.copies.plan_merge.Goals as goal

pub returns-then-length-eq0-clause-plan : goal.returns-then-length-eq0-clause-plan
returns-then-length-eq0-clause-plan g c =
    sym (planned-none (g.M.Memory.heap c.args.memory.now) c.requires.sound c.args.merge.to
    c.args.merge.from c.requires.target c.requires.source
    (sym c.length.ensures.words ∙ c.if-length-eq0.true))

pub returns-then-length-eq0-clause-words : goal.returns-then-length-eq0-clause-words
unfolding merge_words_at
returns-then-length-eq0-clause-words g c =
    c.requires.empty

pub returns-then-length-eq0-clause-value : goal.returns-then-length-eq0-clause-value
returns-then-length-eq0-clause-value g c = λ names s shows distinct.
    returns-then-length-eq0-clause-plan g c
    ∙ planned-shown (g.M.Memory.heap c.args.memory.now) c.requires.sound c.args.merge.to
    c.args.merge.from c.requires.target c.requires.source names s shows distinct

pub returns-then-length-eq0-clause-full : goal.returns-then-length-eq0-clause-full
returns-then-length-eq0-clause-full g c = λ names s shows distinct.
    let h = g.M.Memory.heap c.args.memory.now in
    let to = dictionary_at s (birth_at h c.args.merge.to) in
    let from = dictionary_at s (birth_at h c.args.merge.from) in
    subst (λ plan. (plan ≡ Full) ↔ (holding to (put_pairs to.pairs from.pairs) ≡ None))
    (sym (returns-then-length-eq0-clause-value g c names s shows distinct))
    (planned-full h c.requires.sound c.args.merge.to c.args.merge.from c.requires.target
    c.requires.source names s shows)

pub returns-in_err-merge_words-clause-short : goal.returns-in_err-merge_words-clause-short
returns-in_err-merge_words-clause-short g c =
    let h = g.M.Memory.heap c.args.memory.now in
    let to = c.args.merge.to in
    let from = c.args.merge.from in
    let before : g.M.Memory.heap c.capacity-capacity.new.memory ≡ h =
    c.capacity-capacity.ensures.heap ∙ c.length.ensures.heap in
    let most = room-both h c.requires.sound to from c.requires.target c.requires.source in
    let full = c.in_err-merge_words.ensures.full in
    let less : vec_capacity c.args.scratch.now < merge_room h to from =
    omega (
      arith,
      most,
      subst (λ (k : Heap).
          vec_capacity c.args.scratch.now < 2 * (count_at k to + count_at k from)) before full,
    ) in
    MatchResult-from_err c.from_residual.result _ _ c.from_residual.ensures.0 (λ y. less)

pub plan_body-requires-clause-limit : goal.plan_body-requires-clause-limit
plan_body-requires-clause-limit g c =
    let h = g.M.Memory.heap c.args.memory.now in
    let capacity = c.capacity-capacity.ensures.words
    ∙ ap (λ (k : Heap). capacity_at k c.args.merge.to) c.length.ensures.heap in
    let few = few-places h c.args.merge.to c.requires.target c.requires.sound in
    omega (arith, capacity, few)

-- ---- the words of the pairs of both

module _ (g : Over) (c : In_ok-merge_words g) where
  abbrev h : Heap
  h = g.M.Memory.heap c.args.memory.now

  abbrev to : ℕ
  to = c.args.merge.to

  abbrev from : ℕ
  from = c.args.merge.from

  before : g.M.Memory.heap c.capacity-capacity.new.memory ≡ h
  before = c.capacity-capacity.ensures.heap ∙ c.length.ensures.heap

  capacity : c.capacity-capacity.result ≡ capacity_at h to
  capacity = c.capacity-capacity.ensures.words
      ∙ ap (λ (k : Heap). capacity_at k to) c.length.ensures.heap

  items : c.merge_words.new.scratch.items ≡ words_of_pairs (merged_at h to from)
  items = c.in_ok-merge_words.ensures.words
      ∙ ap (λ (k : Heap). words_of_pairs (merged (pairs_at k to) (pairs_at k from))) before

  long : length c.merge_words.new.scratch.items ≡ 2 * length (merged_at h to from)
  long = ap length items ∙ length-words_of_pairs (merged_at h to from)

  half : length c.merge_words.new.scratch.items / 2 ≡ length (merged_at h to from)
  half = omega (arith, long)

  planned : body_plan (length c.merge_words.new.scratch.items / 2) c.capacity-capacity.result
      ≡ merge_plan_at h to from
  planned =
      let count = c.length.ensures.words in
      let some = c.if-length-eq0.false in
      ap (λ n. body_plan n c.capacity-capacity.result) half
      ∙ (ap (body_plan (length (merged_at h to from))) capacity
      ∙ sym (planned-some h c.requires.sound to from c.requires.target c.requires.source
      (omega (arith, count, some))))

pub plan_body-requires-clause-few : goal.plan_body-requires-clause-few
plan_body-requires-clause-few g c =
    let d = (goal.at.plan_body-requires-clause-few g c).In_ok-merge_words in
    let most = both-most (h g d) c.requires.sound (to g d) (from g d) c.requires.target
    c.requires.source in
    omega (arith, long g d, most)

pub plan_body-requires-clause-even : goal.plan_body-requires-clause-even
plan_body-requires-clause-even g c =
    let d = (goal.at.plan_body-requires-clause-even g c).In_ok-merge_words in
    omega (arith, long g d, half g d)

pub plan_body-requires-clause-held : goal.plan_body-requires-clause-held
plan_body-requires-clause-held g c =
    let d = (goal.at.plan_body-requires-clause-held g c).In_ok-merge_words in
    subst (λ (k : Heap). AreValues k c.merge_words.new.scratch.items)
    (sym (c.in_ok-merge_words.ensures.heap ∙ before g d))
    (subst (AreValues (h g d)) (sym (items g d))
    (both-values (h g d) c.requires.sound (to g d) (from g d) c.requires.target
    c.requires.source))

-- ---- their plan

pub returns-clause-plan : goal.returns-clause-plan
returns-clause-plan g c =
    let d = (goal.at.returns-clause-plan g c).In_ok-merge_words in
    IfOk-weaker c.plan_body.result
    (λ plan. plan ≡ body_plan (length c.merge_words.new.scratch.items / 2)
    c.capacity-capacity.result)
    (λ plan. plan ≡ merge_plan_at (h g d) (to g d) (from g d)) (λ plan e. e ∙ planned g d)
    c.plan_body.ensures.plan

pub returns-clause-words : goal.returns-clause-words
unfolding merge_words_at
returns-clause-words g c =
    let d = (goal.at.returns-clause-words g c).In_ok-merge_words in
    let pairs : pairs_of_words c.merge_words.new.scratch.items
    ≡ merged_at (h g d) (to g d) (from g d) =
    ap pairs_of_words (items g d) ∙ words-back (merged_at (h g d) (to g d) (from g d)) in
    IfOk-weaker c.plan_body.result
    (λ plan. c.plan_body.new.scratch.items ≡ planned_words plan
    (birth_at (g.M.Memory.heap c.merge_words.new.memory)) c.capacity-capacity.result
    (pairs_of_words c.merge_words.new.scratch.items))
    (λ plan. c.plan_body.new.scratch.items ≡ merge_words_at (h g d) (to g d) (from g d) plan)
    (λ plan e. e ∙ (ap (λ (k : Heap). planned_words plan (birth_at k)
    c.capacity-capacity.result (pairs_of_words c.merge_words.new.scratch.items))
    (c.in_ok-merge_words.ensures.heap ∙ before g d)
    ∙ (ap (λ n. planned_words plan (birth_at (h g d)) n
    (pairs_of_words c.merge_words.new.scratch.items)) (capacity g d)
    ∙ ap (planned_words plan (birth_at (h g d)) (capacity_at (h g d) (to g d))) pairs)))
    c.plan_body.ensures.words

pub returns-clause-value : goal.returns-clause-value
returns-clause-value g c = λ names s shows distinct.
    let h = g.M.Memory.heap c.args.memory.now in
    IfOk-weaker c.plan_body.result
    (λ plan. plan ≡ merge_plan_at h c.args.merge.to c.args.merge.from)
    (λ plan. plan ≡ merge_planned (dictionary_at s (birth_at h c.args.merge.to))
    (dictionary_at s (birth_at h c.args.merge.from)))
    (λ plan e. e
    ∙ planned-shown h c.requires.sound c.args.merge.to c.args.merge.from c.requires.target
    c.requires.source names s shows distinct)
    (returns-clause-plan g c)

pub returns-clause-full : goal.returns-clause-full
returns-clause-full g c = λ names s shows distinct.
    let h = g.M.Memory.heap c.args.memory.now in
    let to = dictionary_at s (birth_at h c.args.merge.to) in
    let from = dictionary_at s (birth_at h c.args.merge.from) in
    IfOk-weaker c.plan_body.result (λ plan. plan ≡ merge_planned to from)
    (λ plan. (plan ≡ Full) ↔ (holding to (put_pairs to.pairs from.pairs) ≡ None))
    (λ plan e. subst (λ p. (p ≡ Full) ↔ (holding to (put_pairs to.pairs from.pairs) ≡ None))
    (sym e)
    (planned-full h c.requires.sound c.args.merge.to c.args.merge.from c.requires.target
    c.requires.source names s shows))
    (returns-clause-value g c names s shows distinct)

pub returns-clause-short : goal.returns-clause-short
returns-clause-short g c =
    let d = (goal.at.returns-clause-short g c).In_ok-merge_words in
    let most = room-body (h g d) c.requires.sound (to g d) (from g d) c.requires.target
    c.requires.source in
    let kept = c.in_ok-merge_words.ensures.room in
    on_err_weaker c.plan_body.result
    (λ full. let less : vec_capacity c.merge_words.new.scratch < 3 * grown_capacity
    (capacity_at (h g d) (to g d)) (length (merged_at (h g d) (to g d) (from g d))) =
    subst (λ n. vec_capacity c.merge_words.new.scratch < 3 * grown_capacity
    (capacity_at (h g d) (to g d)) n) (half g d)
    (subst (λ n. vec_capacity c.merge_words.new.scratch < 3 * grown_capacity n
    (length c.merge_words.new.scratch.items / 2)) (capacity g d) full) in
    omega (arith, less, most, kept)) c.plan_body.ensures.full
