use Rattle.std.proofs.Common.{◌≡◌, ◌+◌, ◌-◌, ◌*◌, ◌<◌, ◌++◌, List, ℕ, take, length, true, codes, Some, sym, ap, ◌∙◌}
use Rattle.std.proofs.Common.{subst, arith, rules}
use Rattle.std.specs.Prelude.{OnOk, OnErr, vec_capacity, slice_get}
use Rattle.ps_language.specs.Access.{is_readable, elements, part_elements}
use Rattle.ps_language.specs.Value.{Store}
use Rattle.ps_word.specs.declared.values.Content.TheVariants.{Array}
use Rattle.ps_word.specs.Format.{content_in, executable_in, IsContent}
use Rattle.ps_mem.specs.Heap.{Heap, birth_at}
use Rattle.ps_mem.specs.Meaning.{what_of, value_of, part_of}
use Rattle.ps_mem.specs.Shows.{IsWithin, Shows}
use Rattle.ps_text.specs.Shown.{simple_text, text_to}
use Rattle.ps_text.proofs.Cuts.{err_given, goes_further, cut_three, full_three, full_first, full_next}
use Rattle.ps_text.proofs.Rests.{part_next, elements_step, element_full, separator_full}
use Rattle.ps_text.proofs.Shown.{known_content, within_content, simple_is, deepest_is, unreadable_is, array_is}
use Rattle.ps_text.proofs.Shown.{opening_of, closing_of, elements_text}
use Rattle.ps_text.proofs.full.+values.Goals as goal
use Rattle.ps_text.proofs.full.+values.Goals.{append_value-then-depth-eq0-via-then-depth-eq0}
use Rattle.ps_text.proofs.full.+values.Goals.{append_value-then-depth-eq0-via-else-depth-eq0+then-not-is_readable}

-- ---- elements

pub append_elements-loop-index-preserved : goal.append_elements-loop-index-preserved
append_elements-loop-index-preserved g t c =
    let p = c.args.part in
    let i = c.loop-index.index in
    let word = c.element-word.result in
    let names = c.args.printer.now.names.now in
    let b = birth_at (g.M.Memory.heap c.args.memory.now) in
    let now = c.loop-index.output.items in
    let mid = c.append_separator.new.output.items in
    let new = c.append_value.new.output.items in
    let Reads : Heap → Type 0 = λ h. (names : List (List ℕ)) (s : Store) → Shows h names s
    → slice_get (elements s (birth_at h p.address)) (p.offset + i) ≡ Some (value_of (birth_at h) names word) in
    let Within : Heap → Type 0 = λ h. (names : List (List ℕ)) (s : Store) → Shows h names s
    → IsWithin (birth_at h) names s word in
    let Writes : Heap → Type 0 = λ h. (s : Store) → Shows h names s → IsWithin (birth_at h) names s word
    → new ≡ take c.args.printer.now.end (mid ++ text_to c.args.depth s (value_of (birth_at h) names word)) in
    let same = c.element-word.ensures.heap ∙ c.loop-index.invariant.heap in
    let reads = subst Reads c.loop-index.invariant.heap c.element-word.ensures.value in
    let within = subst Within c.loop-index.invariant.heap c.element-word.ensures.within in
    let writes = subst Writes same c.in_ok-append_value.ensures.ok in
    let grown = c.loop-index.invariant.capacity in
    let further = c.append_separator.ensures.capacity in
    let again = c.append_value.ensures.capacity in
    record {
      heap = c.append_value.ensures.heap ∙ same;
      grants = c.append_value.ensures.grants ∙ (c.element-word.ensures.grants ∙ c.loop-index.invariant.grants);
      goes_on =
          goes_further _ _ _ _ (goes_further _ _ _ _ c.loop-index.invariant.goes_on c.append_separator.ensures.goes_on)
          c.append_value.ensures.goes_on;
      capacity = omega (arith, grown, further, again);
      rest = λ s shows.
          elements_step (text_to c.args.depth s) c.args.printer.now.end _ now i (part_elements s (part_of b p))
          (value_of b names word)
          (part_next (elements s (b p.address)) p.offset p.length i (value_of b names word) c.loop-index-test.true
          (reads names s shows))
          (c.loop-index.invariant.rest s shows) mid c.in_ok-append_separator.ensures.ok new
          (writes s shows (within names s shows));
    }

pub
    append_elements-returns-in_err-append_separator-clause-full :
    goal.append_elements-returns-in_err-append_separator-clause-full
append_elements-returns-in_err-append_separator-clause-full g t c = λ s shows.
    let p = c.args.part in
    let i = c.loop-index.index in
    let word = c.element-word.result in
    let names = c.args.printer.now.names.now in
    let b = birth_at (g.M.Memory.heap c.args.memory.now) in
    let Reads : Heap → Type 0 = λ h. (names : List (List ℕ)) (s : Store) → Shows h names s
    → slice_get (elements s (birth_at h p.address)) (p.offset + i) ≡ Some (value_of (birth_at h) names word) in
    let reads = subst Reads c.loop-index.invariant.heap c.element-word.ensures.value in
    let grown = c.loop-index.invariant.capacity in
    let full = c.in_err-append_separator.ensures.full in
    err_given _ c.from_residual.result
    (separator_full (text_to c.args.depth s) c.args.printer.now.end _ c.loop-index.output.items i (part_elements s (part_of b p))
    (value_of b names word)
    (part_next (elements s (b p.address)) p.offset p.length i (value_of b names word) c.loop-index-test.true
    (reads names s shows))
    (c.loop-index.invariant.rest s shows) _ (omega (arith, grown, full)))

pub
    append_elements-returns-in_err-append_value-clause-full :
    goal.append_elements-returns-in_err-append_value-clause-full
append_elements-returns-in_err-append_value-clause-full g t c = λ s shows.
    let p = c.args.part in
    let i = c.loop-index.index in
    let word = c.element-word.result in
    let names = c.args.printer.now.names.now in
    let b = birth_at (g.M.Memory.heap c.args.memory.now) in
    let mid = c.append_separator.new.output.items in
    let room = vec_capacity c.append_separator.new.output in
    let Reads : Heap → Type 0 = λ h. (names : List (List ℕ)) (s : Store) → Shows h names s
    → slice_get (elements s (birth_at h p.address)) (p.offset + i) ≡ Some (value_of (birth_at h) names word) in
    let Within : Heap → Type 0 = λ h. (names : List (List ℕ)) (s : Store) → Shows h names s
    → IsWithin (birth_at h) names s word in
    let Lacks : Heap → Type 0 = λ h. (s : Store) → Shows h names s → IsWithin (birth_at h) names s word
    → room < length (take c.args.printer.now.end (mid ++ text_to c.args.depth s (value_of (birth_at h) names word))) in
    let reads = subst Reads c.loop-index.invariant.heap c.element-word.ensures.value in
    let within = subst Within c.loop-index.invariant.heap c.element-word.ensures.within in
    let lacks = subst Lacks (c.element-word.ensures.heap
    ∙ c.loop-index.invariant.heap) c.in_err-append_value.ensures.full in
    let grown = c.loop-index.invariant.capacity in
    let further = c.append_separator.ensures.capacity in
    let full = lacks s shows (within names s shows) in
    err_given _ c.from_residual-in_err-append_value.result
    (element_full (text_to c.args.depth s) c.args.printer.now.end _ c.loop-index.output.items i (part_elements s (part_of b p))
    (value_of b names word)
    (part_next (elements s (b p.address)) p.offset p.length i (value_of b names word) c.loop-index-test.true
    (reads names s shows))
    (c.loop-index.invariant.rest s shows) mid c.in_ok-append_separator.ensures.ok _
    (omega (arith, grown, further, full)))

-- ---- a value that isn't gone into

pub append_value-append_simple-requires : goal.append_value-append_simple-requires
append_value-append_simple-requires g t c = record {
  sound = c.requires.sound;
  known = known_content c.args.word c.content-content.result c.content-content.ensures _ c.requires.held.known;
  format = subst IsContent (sym c.content-content.ensures) c.requires.held.word.value.content;
  short = c.requires.short;
}

pub append_value-returns-in_default-clause-ok : goal.append_value-returns-in_default-clause-ok
append_value-returns-in_default-clause-ok g t c = λ s shows within.
    let b = birth_at (g.M.Memory.heap c.args.memory.now) in
    let names = c.args.printer.now.names.now in
    let w = c.args.word in
    let content = c.content-content.result in
    let text = simple_is b names s w content c.content-content.ensures c.args.depth
    (λ part. c.in_default.not-Array part)
    ∙ ap (λ e. simple_text s e (what_of b names content)) (sym c.is_executable-executable.ensures) in
    subst (λ (xs : List ℕ). OnOk c.append_simple.result (c.append_simple.new.output.items
    ≡ take c.args.printer.now.end (c.args.output.now.items ++ xs))) (sym text)
    (c.append_simple.ensures.ok s shows (within_content w content c.content-content.ensures b names s within))

pub append_value-returns-in_default-clause-full : goal.append_value-returns-in_default-clause-full
append_value-returns-in_default-clause-full g t c = λ s shows within.
    let b = birth_at (g.M.Memory.heap c.args.memory.now) in
    let names = c.args.printer.now.names.now in
    let w = c.args.word in
    let content = c.content-content.result in
    let text = simple_is b names s w content c.content-content.ensures c.args.depth
    (λ part. c.in_default.not-Array part)
    ∙ ap (λ e. simple_text s e (what_of b names content)) (sym c.is_executable-executable.ensures) in
    subst (λ (xs : List ℕ). OnErr c.append_simple.result (vec_capacity c.args.output.now
    < length (take c.args.printer.now.end (c.args.output.now.items ++ xs)))) (sym text)
    (c.append_simple.ensures.full s shows (within_content w content c.content-content.ensures b names s within))

pub append_value-returns-then-depth-eq0-clause-ok : goal.append_value-returns-then-depth-eq0-clause-ok
append_value-returns-then-depth-eq0-clause-ok g t c = λ s shows within.
    let b = birth_at (g.M.Memory.heap c.args.memory.now) in
    let names = c.args.printer.now.names.now in
    let w = c.args.word in
    let part = c.in-Array.part in
    let is : Array part ≡ content_in w.0 = sym c.in-Array.is ∙ c.content-content.ensures in
    let text : text_to c.args.depth s (value_of b names w) ≡ codes "-array-" = elim c.then-depth-eq0.branch [
      | append_value-then-depth-eq0-via-then-depth-eq0 v ↦ ap
          (λ n. text_to n s (value_of b names w)) v.if-depth-eq0.true ∙ deepest_is b names s w part is
      | append_value-then-depth-eq0-via-else-depth-eq0+then-not-is_readable v ↦ unreadable_is b names s w part is
          c.args.depth (sym v.is_readable.ensures ∙ v.if-not-is_readable.true)
    ] in
    subst (λ (xs : List ℕ). OnOk c.append_cut.result (c.append_cut.new.output.items
    ≡ take c.args.printer.now.end (c.args.output.now.items ++ xs))) (sym text) c.append_cut.ensures.ok

pub append_value-returns-then-depth-eq0-clause-full : goal.append_value-returns-then-depth-eq0-clause-full
append_value-returns-then-depth-eq0-clause-full g t c = λ s shows within.
    let b = birth_at (g.M.Memory.heap c.args.memory.now) in
    let names = c.args.printer.now.names.now in
    let w = c.args.word in
    let part = c.in-Array.part in
    let is : Array part ≡ content_in w.0 = sym c.in-Array.is ∙ c.content-content.ensures in
    let text : text_to c.args.depth s (value_of b names w) ≡ codes "-array-" = elim c.then-depth-eq0.branch [
      | append_value-then-depth-eq0-via-then-depth-eq0 v ↦ ap
          (λ n. text_to n s (value_of b names w)) v.if-depth-eq0.true ∙ deepest_is b names s w part is
      | append_value-then-depth-eq0-via-else-depth-eq0+then-not-is_readable v ↦ unreadable_is b names s w part is
          c.args.depth (sym v.is_readable.ensures ∙ v.if-not-is_readable.true)
    ] in
    subst (λ (xs : List ℕ). OnErr c.append_cut.result (vec_capacity c.args.output.now
    < length (take c.args.printer.now.end (c.args.output.now.items ++ xs)))) (sym text) c.append_cut.ensures.full

-- ---- an array that is gone into

pub append_value-append_elements-requires : goal.append_value-append_elements-requires
append_value-append_elements-requires g t c κs within =
    let is : Array c.in-Array.part ≡ content_in c.args.word.0 = sym c.in-Array.is ∙ c.content-content.ensures in
    let less : 2 * (c.args.depth - 1) + 1 < t = omega (arith, c.decreases, c.if-depth-eq0.false) in (
      less,
      (
        search rules,
        (
          c.requires.sound,
          (known_content c.args.word _ is _ c.requires.held.known, c.in_ok-append_cut.ensures.goes_on.short),
        ),
      ),
    )

pub append_value-returns-in_err-append_cut-clause-full : goal.append_value-returns-in_err-append_cut-clause-full
append_value-returns-in_err-append_cut-clause-full g t c = λ s shows within.
    let b = birth_at (g.M.Memory.heap c.args.memory.now) in
    let names = c.args.printer.now.names.now in
    let w = c.args.word in
    let part = c.in-Array.part in
    let end = c.args.printer.now.end in
    let old = c.args.output.now.items in
    let is : Array part ≡ content_in w.0 = sym c.in-Array.is ∙ c.content-content.ensures in
    let readable : is_readable part.access ≡ true = sym c.is_readable.ensures ∙ c.if-not-is_readable.false in
    let deep : 0 < c.args.depth = omega (arith, c.if-depth-eq0.false) in
    let text = array_is b names s w part is c.args.depth deep readable in
    let opening = opening_of (executable_in w.0) in
    let inner = elements_text b names s w part is (c.args.depth - 1) in
    let closing = closing_of (executable_in w.0) in
    let begins = c.opening.ensures ∙ ap opening_of c.is_executable-executable.ensures in
    let room = vec_capacity c.args.output.now in
    let lacks = subst (λ (xs : List ℕ). room < length (take end (old ++ xs))) begins c.in_err-append_cut.ensures.full in
    subst (λ (xs : List ℕ). OnErr c.from_residual.result (room < length (take end (old ++ xs)))) (sym text)
    (err_given _ c.from_residual.result (full_first end old (opening ++ inner) closing room
    (full_first end old opening inner room lacks)))

pub
    append_value-returns-in_err-append_elements-clause-full :
    goal.append_value-returns-in_err-append_elements-clause-full
append_value-returns-in_err-append_elements-clause-full g t c = λ s shows within.
    let b = birth_at (g.M.Memory.heap c.args.memory.now) in
    let names = c.args.printer.now.names.now in
    let w = c.args.word in
    let part = c.in-Array.part in
    let end = c.args.printer.now.end in
    let old = c.args.output.now.items in
    let is : Array part ≡ content_in w.0 = sym c.in-Array.is ∙ c.content-content.ensures in
    let readable : is_readable part.access ≡ true = sym c.is_readable.ensures ∙ c.if-not-is_readable.false in
    let deep : 0 < c.args.depth = omega (arith, c.if-depth-eq0.false) in
    let text = array_is b names s w part is c.args.depth deep readable in
    let opening = opening_of (executable_in w.0) in
    let inner = elements_text b names s w part is (c.args.depth - 1) in
    let closing = closing_of (executable_in w.0) in
    let begins = c.opening.ensures ∙ ap opening_of c.is_executable-executable.ensures in
    let opened = c.in_ok-append_cut.ensures.ok ∙ ap (λ xs. take end (old ++ xs)) begins in
    let room = vec_capacity c.args.output.now in
    let lacks = full_next end old opening inner _ room _ opened c.append_cut-2.ensures.capacity
    (c.in_err-append_elements.ensures.full s shows) in
    subst (λ (xs : List ℕ). OnErr c.from_residual-in_err-append_elements.result (room < length (take end (old ++ xs))))
    (sym text)
    (err_given _ c.from_residual-in_err-append_elements.result
    (full_first end old (opening ++ inner) closing room lacks))

pub append_value-returns-clause-ok : goal.append_value-returns-clause-ok
append_value-returns-clause-ok g t c = λ s shows within.
    let b = birth_at (g.M.Memory.heap c.args.memory.now) in
    let names = c.args.printer.now.names.now in
    let w = c.args.word in
    let part = c.in-Array.part in
    let end = c.args.printer.now.end in
    let old = c.args.output.now.items in
    let is : Array part ≡ content_in w.0 = sym c.in-Array.is ∙ c.content-content.ensures in
    let readable : is_readable part.access ≡ true = sym c.is_readable.ensures ∙ c.if-not-is_readable.false in
    let deep : 0 < c.args.depth = omega (arith, c.if-depth-eq0.false) in
    let text = array_is b names s w part is c.args.depth deep readable in
    let opening = opening_of (executable_in w.0) in
    let inner = elements_text b names s w part is (c.args.depth - 1) in
    let closing = closing_of (executable_in w.0) in
    let begins = c.opening.ensures ∙ ap opening_of c.is_executable-executable.ensures in
    let opened = c.in_ok-append_cut.ensures.ok ∙ ap (λ xs. take end (old ++ xs)) begins in
    let ends = c.closing.ensures ∙ ap closing_of c.is_executable-executable.ensures in
    let later = c.append_elements.new.output.items in
    let written = c.in_ok-append_elements.ensures.ok s shows in
    let new = c.append_cut-3.new.output.items in
    let closed = subst (λ (xs : List ℕ). OnOk c.append_cut-3.result (new ≡ take end (later ++ xs))) ends
    c.append_cut-3.ensures.ok in
    subst (λ (xs : List ℕ). OnOk c.append_cut-3.result (new ≡ take end (old ++ xs))) (sym text)
    (cut_three end old opening inner _ opened later written c.append_cut-3.result closing new closed)

pub append_value-returns-clause-full : goal.append_value-returns-clause-full
append_value-returns-clause-full g t c = λ s shows within.
    let b = birth_at (g.M.Memory.heap c.args.memory.now) in
    let names = c.args.printer.now.names.now in
    let w = c.args.word in
    let part = c.in-Array.part in
    let end = c.args.printer.now.end in
    let old = c.args.output.now.items in
    let is : Array part ≡ content_in w.0 = sym c.in-Array.is ∙ c.content-content.ensures in
    let readable : is_readable part.access ≡ true = sym c.is_readable.ensures ∙ c.if-not-is_readable.false in
    let deep : 0 < c.args.depth = omega (arith, c.if-depth-eq0.false) in
    let text = array_is b names s w part is c.args.depth deep readable in
    let opening = opening_of (executable_in w.0) in
    let inner = elements_text b names s w part is (c.args.depth - 1) in
    let closing = closing_of (executable_in w.0) in
    let begins = c.opening.ensures ∙ ap opening_of c.is_executable-executable.ensures in
    let opened = c.in_ok-append_cut.ensures.ok ∙ ap (λ xs. take end (old ++ xs)) begins in
    let ends = c.closing.ensures ∙ ap closing_of c.is_executable-executable.ensures in
    let later = c.append_elements.new.output.items in
    let written = c.in_ok-append_elements.ensures.ok s shows in
    let room = vec_capacity c.args.output.now in
    let room_later = vec_capacity c.append_elements.new.output in
    let grown = c.append_cut-2.ensures.capacity in
    let again = c.append_elements.ensures.capacity in
    let lacks = subst (λ (xs : List ℕ). OnErr c.append_cut-3.result (room_later < length (take end (later ++ xs)))) ends
    c.append_cut-3.ensures.full in
    subst (λ (xs : List ℕ). OnErr c.append_cut-3.result (room < length (take end (old ++ xs)))) (sym text)
    (full_three end old opening inner _ opened later written c.append_cut-3.result closing room room_later
    (omega (arith, grown, again)) lacks)
