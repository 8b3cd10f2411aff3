use Rattle.std.proofs.Common.{◌≡◌, [], ◌++◌, ap, ◌∙◌, Vec, Global, ℕ}
use Rattle.ps_states.proofs.Words.{name_plain, no_name}
use Rattle.ps_states.proofs.stacks.name_text.Goals as goal
use Rattle.ps_states.proofs.stacks.name_text.Goals.{in-Some+in_ok-extend_from_slice, in_default}

pub returns : goal.returns
returns c = λ births s is.
    elim c.match-as_name.branch [
      | in-Some+in_ok-extend_from_slice w ↦
          let empty : c.new-text.result.items ≡ [] = c.new-text.ensures.items in
          ap (λ (text : Vec ℕ Global). text.items) w.text-is
          ∙ w.in_ok-extend_from_slice.ensures.items
          ∙ ap (λ front. front ++ w.text.result.now) empty
          ∙ w.text.ensures.bytes
          ∙ name_plain births c.args.names.now s c.args.name w.in-Some.number w.in-Some.ensures
      | in_default w ↦ absurd (no_name births c.args.names.now c.args.name w.in_default.ensures is)
    ]
