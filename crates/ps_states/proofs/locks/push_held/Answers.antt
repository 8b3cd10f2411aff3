use Rattle.std.proofs.Common.{◌≡◌, ◌<◌, ℕ, Bool, false, List, [], ◌∷◌, ◌++◌, sym, ap, ◌∙◌, arith, inl, inr}
use Rattle.std.specs.Prelude.{if◌then◌else◌}
use Rattle.std.proofs.lemmas.List.{append-nil}
use Rattle.ps_language.specs.Owners.{is_owner, owner_of}
use Rattle.ps_mem.specs.Heap.{birth_at}
use Rattle.ps_ops_control.specs.declared.frames.Frame.{Frame}
use Rattle.ps_ops_control.specs.Frames.{frame_of}
use Rattle.ps_states.specs.States.{held_lock}
use Rattle.ps_ctx_operators.specs.Singles.{owner_by}
use Rattle.ps_states.proofs.Calling.{owner_other, owner_same}
use Rattle.ps_states.proofs.locks.push_held.Goals as goal

pub returns-then-has-eq0-clause-lock : goal.returns-then-has-eq0-clause-lock
returns-then-has-eq0-clause-lock g c = λ names s shows.
    let births = birth_at (g.M.Memory.heap c.args.memory.now) in
    let lock : List ℕ = births c.in-Monitor.lock ∷ [] in
    let old = c.args.locks.now.items in
    let shown = c.owner-has.ensures.value names s shows in
    let other : is_owner c.args.identifier (owner_of s (births c.in-Monitor.lock)) ≡ false =
    elim c.then-has-eq0.either [
      | inl none ↦ ap (is_owner c.args.identifier) (shown ∙ ap owner_by none)
      | inr both ↦ ap (is_owner c.args.identifier) shown
          ∙ owner_other c.owner-has.result c.args.identifier both.1
    ] in
    sym (append-nil old) ∙ ap (λ line. old ++ line)
    (sym (ap (λ (b : Bool). if b then lock else []) other)
    ∙ ap (λ (frame : Frame). held_lock s c.args.identifier (frame_of births names frame))
    (sym c.in-Monitor.is))

pub returns-clause-lock : goal.returns-clause-lock
returns-clause-lock g c = λ names s shows.
    let births = birth_at (g.M.Memory.heap c.args.memory.now) in
    let lock : List ℕ = births c.in-Monitor.lock ∷ [] in
    let told = c.birth_of.ensures.birth in
    let birth = rw c.owner-has.ensures.heap at told in
    let some : 0 < c.args.identifier = omega (arith, c.if-has-eq0.false, c.if-has-identifier.false) in
    let line : lock ≡ held_lock s c.args.identifier (frame_of births names c.args.frame) =
    ap (λ (b : Bool). if b then lock else [])
    (sym (ap (is_owner c.args.identifier) (c.owner-has.ensures.value names s shows)
    ∙ owner_same c.owner-has.result c.args.identifier c.if-has-identifier.false some))
    ∙ ap (λ (frame : Frame). held_lock s c.args.identifier (frame_of births names frame)) (sym c.in-Monitor.is) in
    c.in_ok-push.ensures.items ∙ ap (λ one. c.args.locks.now.items ++ one ∷ []) birth
    ∙ ap (λ line. c.args.locks.now.items ++ line) line
