use Rattle.std.proofs.Common.{List, ◌≡◌, ◌≤◌, ◌+◌, ◌*◌, ◌/◌, ◌++◌, ◌∙◌, ap, sym, arith, subst, length, map, take, ℕ}
use Rattle.ps_language.specs.StepErrors.{with_error}
use Rattle.ps_language.specs.Access.{dictionary_at, with_dictionary}
use Rattle.ps_word.specs.declared.words.Word.{Word}
use Rattle.ps_mem.specs.Heap.{Heap, birth_at}
use Rattle.ps_mem.specs.Index.{pairs_of_words}
use Rattle.ps_mem.specs.Shows.{AreValues, AreWithin, words_of_pairs, pair_of, Shows}
use Rattle.ps_mem.proofs.KeepsLemmas.{Keeps-then, AreValues-kept}
use Rattle.ps_dict.specs.Puts.{AfterChange}
use Rattle.ps_dict.specs.Entries.{added_by, added_records, one_where_there, present_in, with_entries}
use Rattle.ps_dict.proofs.Entering.{Entered}
use Rattle.ps_dict.proofs.Granted.{then-used}
use Rattle.ps_dict.proofs.Errors.{first-below, second-below, second-held, third-below, third-held, first-entered, second-entered, third-entered, waiting3, words-are, words-held, words-count, words-even, words-room, error-shown}
use Rattle.ps_dict.proofs.entries.put_error.Given.{Over}
use Rattle.ps_dict.proofs.entries.put_error.Goals.{After-put_entry, After-put_entry-2, After-put_entry-3}
use Rattle.ps_dict.proofs.entries.put_error.Goals as goal

pub put_entry-requires-clause-place : goal.put_entry-requires-clause-place
put_entry-requires-clause-place g c =
    first-below (g.M.Memory.heap c.args.memory.now) c.args.address c.requires.known
    c.requires.sound c.args.entries c.args.plan c.requires.plan c.requires.held

-- ---- the values that are there, one entry after another

one-entered : (g : Over) (c : After-put_entry g) → Entered (g.M.Memory.heap c.args.memory.now)
    (g.M.Memory.heap c.put_entry.new.memory) c.args.address
one-entered g c =
    first-entered (g.M.Memory.heap c.args.memory.now) c.args.address c.requires.known
    c.requires.sound c.args.entries c.args.plan c.requires.plan c.requires.held
    (g.M.Memory.heap c.put_entry.new.memory) c.put_entry.ensures.heap

pub put_entry-requires-2-clause-sound : goal.put_entry-requires-2-clause-sound
put_entry-requires-2-clause-sound g c =
    (one-entered g (goal.at.put_entry-requires-2-clause-sound g c).After-put_entry).sound

pub put_entry-requires-2-clause-known : goal.put_entry-requires-2-clause-known
put_entry-requires-2-clause-known g c =
    (one-entered g (goal.at.put_entry-requires-2-clause-known g c).After-put_entry).known

pub put_entry-requires-2-clause-place : goal.put_entry-requires-2-clause-place
put_entry-requires-2-clause-place g c =
    second-below (g.M.Memory.heap c.args.memory.now) c.args.address c.requires.known
    c.requires.sound c.args.entries c.args.plan c.requires.plan c.requires.held
    (g.M.Memory.heap c.put_entry.new.memory) c.put_entry.ensures.heap

pub put_entry-requires-2-clause-held : goal.put_entry-requires-2-clause-held
put_entry-requires-2-clause-held g c =
    second-held (g.M.Memory.heap c.args.memory.now) c.args.address c.requires.known
    c.requires.sound c.args.entries c.args.plan c.requires.plan c.requires.held
    (g.M.Memory.heap c.put_entry.new.memory) c.put_entry.ensures.heap

two-entered : (g : Over) (c : After-put_entry-2 g) → Entered (g.M.Memory.heap c.args.memory.now)
    (g.M.Memory.heap c.put_entry-2.new.memory) c.args.address
two-entered g c =
    second-entered (g.M.Memory.heap c.args.memory.now) c.args.address c.requires.known
    c.requires.sound c.args.entries c.args.plan c.requires.plan c.requires.held
    (g.M.Memory.heap c.put_entry.new.memory) c.put_entry.ensures.heap
    (g.M.Memory.heap c.put_entry-2.new.memory) c.put_entry-2.ensures.heap

pub put_entry-requires-3-clause-sound : goal.put_entry-requires-3-clause-sound
put_entry-requires-3-clause-sound g c =
    (two-entered g (goal.at.put_entry-requires-3-clause-sound g c).After-put_entry-2).sound

pub put_entry-requires-3-clause-known : goal.put_entry-requires-3-clause-known
put_entry-requires-3-clause-known g c =
    (two-entered g (goal.at.put_entry-requires-3-clause-known g c).After-put_entry-2).known

pub put_entry-requires-3-clause-place : goal.put_entry-requires-3-clause-place
put_entry-requires-3-clause-place g c =
    third-below (g.M.Memory.heap c.args.memory.now) c.args.address c.requires.known
    c.requires.sound c.args.entries c.args.plan c.requires.plan c.requires.held
    (g.M.Memory.heap c.put_entry.new.memory) c.put_entry.ensures.heap
    (g.M.Memory.heap c.put_entry-2.new.memory) c.put_entry-2.ensures.heap

pub put_entry-requires-3-clause-held : goal.put_entry-requires-3-clause-held
put_entry-requires-3-clause-held g c =
    third-held (g.M.Memory.heap c.args.memory.now) c.args.address c.requires.known
    c.requires.sound c.args.entries c.args.plan c.requires.plan c.requires.held
    (g.M.Memory.heap c.put_entry.new.memory) c.put_entry.ensures.heap
    (g.M.Memory.heap c.put_entry-2.new.memory) c.put_entry-2.ensures.heap

-- ---- the pairs that wait

module _ (g : Over) (c : After-put_entry-3 g) where
  abbrev h : Heap
  h = g.M.Memory.heap c.args.memory.now

  abbrev a : ℕ
  a = c.args.address

  abbrev now : Heap
  now = g.M.Memory.heap c.put_entry-3.new.memory

  abbrev waiting : List (Word × Word)
  waiting = waiting3 h a c.requires.known c.requires.sound c.args.entries c.args.plan
      c.requires.plan c.requires.held

  abbrev noted : List Word
  noted = take c.put_entry-3.new.waiting.count c.put_entry-3.new.waiting.words

  three-entered : Entered h now a
  three-entered = third-entered h a c.requires.known c.requires.sound c.args.entries c.args.plan
      c.requires.plan c.requires.held
      (g.M.Memory.heap c.put_entry.new.memory) c.put_entry.ensures.heap
      (g.M.Memory.heap c.put_entry-2.new.memory) c.put_entry-2.ensures.heap
      now c.put_entry-3.ensures.heap

  words : noted ≡ words_of_pairs waiting
  words = words-are h a c.requires.known c.requires.sound c.args.entries c.args.plan
      c.requires.plan c.requires.held
      (take c.none-waiting.result.count c.none-waiting.result.words)
      (ap (λ n. take n c.none-waiting.result.words) c.none-waiting.ensures.none)
      (take c.put_entry.new.waiting.count c.put_entry.new.waiting.words)
      (take c.put_entry-2.new.waiting.count c.put_entry-2.new.waiting.words)
      noted c.put_entry.ensures.words c.put_entry-2.ensures.words c.put_entry-3.ensures.words

  count : length noted / 2 ≡ added_by c.args.plan
  count = ap (λ ws. length ws / 2) words ∙ words-count h a c.requires.known c.requires.sound
      c.args.entries c.args.plan c.requires.plan c.requires.held

pub append_waiting-requires-clause-granted : goal.append_waiting-requires-clause-granted
append_waiting-requires-clause-granted g c =
    let all = c.requires.granted in
    let used1 = c.put_entry.ensures.grants.used in
    let used2 = c.put_entry-2.ensures.grants.used in
    let used3 = c.put_entry-3.ensures.grants.used in
    subst (λ n. added_records n ≤ (g.M.Memory.grants c.put_entry-3.new.memory).records c.args.slot)
    (sym (count g (goal.at.append_waiting-requires-clause-granted g c).After-put_entry-3))
    (omega (arith, all, used1, used2, used3))

pub append_waiting-requires-clause-even : goal.append_waiting-requires-clause-even
append_waiting-requires-clause-even g c =
    let d = (goal.at.append_waiting-requires-clause-even g c).After-put_entry-3 in
    subst (λ (ws : List Word). 2 * (length ws / 2) ≡ length ws) (sym (words g d))
    (words-even (h g d) (a g d) c.requires.known c.requires.sound c.args.entries c.args.plan
    c.requires.plan c.requires.held)

pub append_waiting-requires-clause-sound : goal.append_waiting-requires-clause-sound
append_waiting-requires-clause-sound g c =
    (three-entered g (goal.at.append_waiting-requires-clause-sound g c).After-put_entry-3).sound

pub append_waiting-requires-clause-known : goal.append_waiting-requires-clause-known
append_waiting-requires-clause-known g c =
    (three-entered g (goal.at.append_waiting-requires-clause-known g c).After-put_entry-3).known

pub append_waiting-requires-clause-room : goal.append_waiting-requires-clause-room
append_waiting-requires-clause-room g c =
    let d = (goal.at.append_waiting-requires-clause-room g c).After-put_entry-3 in
    let room = words-room (h g d) (a g d) c.requires.known c.requires.sound c.args.entries
    c.args.plan c.requires.plan c.requires.held in
    let long = ap (λ ws. length ws / 2) (words g d) in
    let same = (three-entered g d).count in
    let also = (three-entered g d).capacity in
    omega (arith, room, long, same, also)

pub append_waiting-requires-clause-held : goal.append_waiting-requires-clause-held
append_waiting-requires-clause-held g c =
    let d = (goal.at.append_waiting-requires-clause-held g c).After-put_entry-3 in
    subst (AreValues (now g d)) (sym (words g d))
    (AreValues-kept (h g d) (now g d) (three-entered g d).keeps (words_of_pairs (waiting g d))
    (words-held (h g d) (a g d) c.requires.known c.requires.sound c.args.entries c.args.plan
    c.requires.plan c.requires.held))

-- ---- behind them

pub returns-clause-keeps : goal.returns-clause-keeps
returns-clause-keeps g c =
    let d = (goal.at.returns-clause-keeps g c).After-put_entry-3 in
    Keeps-then (h g d) (now g d) (g.M.Memory.heap c.append_waiting.new.memory)
    (three-entered g d).keeps c.append_waiting.ensures.keeps

pub returns-clause-births : goal.returns-clause-births
returns-clause-births g c = c.append_waiting.ensures.births
    ∙ (three-entered g (goal.at.returns-clause-births g c).After-put_entry-3).births

pub returns-clause-others : goal.returns-clause-others
returns-clause-others g c = λ other apart apart'.
    let entered = three-entered g (goal.at.returns-clause-others g c).After-put_entry-3 in
    c.append_waiting.ensures.others other apart (λ e. apart' (sym entered.body ∙ e))
    ∙ entered.others other apart apart'

pub returns-clause-grants : goal.returns-clause-grants
returns-clause-grants g c =
    let plan = c.args.plan in
    then-used _ _ _ c.args.slot (present_in plan) (added_records (added_by plan)) 0 0
    (then-used _ _ _ c.args.slot
    (one_where_there plan.newerror + one_where_there plan.errorname)
    (one_where_there plan.command) 0 0
    (then-used _ _ _ c.args.slot (one_where_there plan.newerror)
    (one_where_there plan.errorname) 0 0 c.put_entry.ensures.grants c.put_entry-2.ensures.grants)
    c.put_entry-3.ensures.grants)
    (subst (λ n. AfterChange (g.M.Memory.grants c.put_entry-3.new.memory)
    (g.M.Memory.grants c.append_waiting.new.memory) c.args.slot (added_records n) 0)
    (count g (goal.at.returns-clause-grants g c).After-put_entry-3)
    c.append_waiting.ensures.grants)

pub returns-clause-shows : goal.returns-clause-shows
returns-clause-shows g c = λ names s shows distinct within.
    let d = (goal.at.returns-clause-shows g c).After-put_entry-3 in
    let was = error-shown (h g d) (a g d) c.requires.known c.requires.sound c.args.entries
    c.args.plan c.requires.plan c.requires.held
    (g.M.Memory.heap c.put_entry.new.memory) c.put_entry.ensures.heap
    (g.M.Memory.heap c.put_entry-2.new.memory) c.put_entry-2.ensures.heap
    (now g d) c.put_entry-3.ensures.heap c.requires.apart names s shows distinct within in
    let old = dictionary_at was.before (birth_at (now g d) (a g d)) in
    subst (Shows (g.M.Memory.heap c.append_waiting.new.memory) names)
    (ap (λ ws. with_dictionary was.before (birth_at (now g d) (a g d)) (record old {
      pairs = old.pairs ++ map (pair_of (birth_at (now g d)) names) (pairs_of_words ws);
    })) (words g d)
    ∙ was.after)
    (c.append_waiting.ensures.shows names was.before was.shown
    (subst (AreWithin (now g d) names was.before) (sym (words g d)) was.within))

pub returns-clause-error : goal.returns-clause-error
unfolding with_error
returns-clause-error g c = λ names s shows distinct within error command is.
    let h = g.M.Memory.heap c.args.memory.now in
    let b = birth_at h c.args.address in
    subst (λ es. Shows (g.M.Memory.heap c.append_waiting.new.memory) names
    (with_dictionary s b (with_entries es (dictionary_at s b)))) is
    (returns-clause-shows g c names s shows distinct within)
