use Rattle.std.proofs.Common.{◌≡◌, ◌<◌, ◌≤◌, ◌∙◌, ℕ, Bool, List, [], ◌∷◌, ◌++◌, length, take, sym, ap, subst, arith, append_assoc}
use Rattle.std.specs.Prelude.{reverse, min, nat_lt, codes, if◌then◌else◌}
use Rattle.std.specs.List.{flat_map, AllByRecursion}
use Rattle.std.proofs.lemmas.Bool.{le-ltb, lt-ltb}
use Rattle.std.proofs.lemmas.List.{append-nil, length-map}
use Rattle.std.proofs.lemmas.Result.{on_ok_weaker}
use Rattle.std.specs.Vec.{vec_items}
use Rattle.ps_mem.proofs.Lists.{all_take}
use Rattle.ps_mem.specs.Heap.{birth_at}
use Rattle.ps_mem.specs.Meaning.{value_of}
use Rattle.ps_mem.specs.Shows.{IsValue, IsWithin}
use Rattle.ps_word.specs.declared.words.Word.{Word}
use Rattle.ps_ops_operands.proofs.Held.{all_reverse}
use Rattle.ps_ops_operands.specs.Changes.{values_in}
use Rattle.ps_states.specs.Steps.{operand_shown}
use Rattle.ps_states.proofs.Beside.{topmost_told}
use Rattle.ps_states.proofs.operands.append_topmost.Goals as goal
use Rattle.ps_states.proofs.operands.append_topmost.Goals.{then-count-gt-OPERANDS_TOLD+in_ok-extend_from_slice, else-count-gt-OPERANDS_TOLD}

-- what holds of all operands holds of the topmost ones
topmost_all : (P : Word → Type 0) (words : List Word) (m : ℕ) (told : List Word)
    → told ≡ reverse (take m words) → AllByRecursion P words → AllByRecursion P told
topmost_all P words m told is all = subst (λ (ws : List Word). AllByRecursion P ws) (sym is)
    (all_reverse P (take m words) (all_take P m words all))

pub append_shown-requires-clause-held : goal.append_shown-requires-clause-held
append_shown-requires-clause-held g c =
    let h = g.M.Memory.heap c.args.runtime.now.memory in
    (topmost_all (IsValue h) c.args.operands.now c.min.result _
    (sym c.in-Some.ensures.cases.0 ∙ c.topmost.ensures) c.requires.held).0

pub append_others-requires-clause-held : goal.append_others-requires-clause-held
append_others-requires-clause-held g c =
    let h = g.M.Memory.heap c.args.runtime.now.memory in
    rw c.append_shown.ensures.heap (topmost_all (IsValue h) c.args.operands.now c.min.result _
    (sym c.in-Some.ensures.cases.0 ∙ c.topmost.ensures) c.requires.held).1

pub returns-clause-texts : goal.returns-clause-texts
returns-clause-texts g c = λ s shows within.
    let h = g.M.Memory.heap c.args.runtime.now.memory in
    let names = c.args.runtime.now.shared.names in
    let births = birth_at h in
    let words = c.args.operands.now in
    let old = c.args.to.now.items in
    let first = c.in-Some.first.now in
    let others = c.in-Some.others.now in
    let is = sym c.in-Some.ensures.cases.0 ∙ c.topmost.ensures in
    let each = topmost_all (IsWithin births names s) words c.min.result _ is within in
    let values = values_in h names words in
    let many : length values ≡ length words = simp length-map in
    let dots : List ℕ = if nat_lt 4 (length values) then codes ".. " else [] in
    let begun : c.if-count-gt-OPERANDS_TOLD.to.items ≡ old ++ dots =
    elim c.if-count-gt-OPERANDS_TOLD.branch [
      | then-count-gt-OPERANDS_TOLD+in_ok-extend_from_slice b ↦
          let more : 4 < length values =
          omega (arith, many, c.len-count.ensures.count, b.if-count-gt-OPERANDS_TOLD.true) in
          ap vec_items b.to-is ∙ b.in_ok-extend_from_slice.ensures.items
          ∙ ap (λ (t : Bool). old ++ (if t then codes ".. " else [])) (sym (lt-ltb 4 (length values) more))
      | else-count-gt-OPERANDS_TOLD b ↦
          let few : length values ≤ 4 =
          omega (arith, many, c.len-count.ensures.count, b.if-count-gt-OPERANDS_TOLD.false) in
          ap vec_items b.to-is ∙ sym (append-nil old)
          ∙ ap (λ (t : Bool). old ++ (if t then codes ".. " else [])) (sym (le-ltb 4 (length values) few))
    ] in
    let count : c.min.result ≡ min (length words) 4 =
    c.min.ensures ∙ ap (λ n. min n 4) c.len-count.ensures.count in
    let told = topmost_told s (value_of births names) words first others c.min.result count (sym is) in
    let shown = c.in_ok-append_shown.ensures.text s shows each.0 in
    let rest = c.append_others.ensures.texts in
    let texts = rw (c.append_shown.ensures.heap, c.append_shown.ensures.shared) at rest in
    let tail = flat_map (λ value. 32 ∷ operand_shown s value) (values_in h names others) in
    let head = operand_shown s (value_of births names first) in
    on_ok_weaker c.append_others.result
    (λ so. so ∙ ap (λ t. t ++ tail) (shown ∙ ap (λ t. t ++ head) begun)
    ∙ append_assoc (old ++ dots) head tail ∙ append_assoc old dots (head ++ tail)
    ∙ ap (λ t. old ++ (dots ++ t)) (sym told))
    (texts s shows each.1)
