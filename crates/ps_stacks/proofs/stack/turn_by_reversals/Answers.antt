use Rattle.std.proofs.Common.{◌≡◌, ◌-◌, drop, take, length, refl, ap, sym, ◌∙◌}
use Rattle.std.specs.Prelude.{reverse}
use Rattle.std.proofs.lemmas.List.{reverse-reverse}
use Rattle.ps_stacks.proofs.Reversed.{reverse-take, reverse-drop}
use Rattle.ps_stacks.proofs.stack.turn_by_reversals.Goals as goal

pub returns : goal.returns
returns g c =
    let xs = c.args.group.now in
    let places = c.args.places in
    let kept = length xs - places in
    let moved : c.reverse-2.new.self ≡ drop kept xs =
    c.reverse-2.ensures.after
    ∙ (ap reverse (c.split_at_mut-moved.ensures.front
    ∙ (ap (take places) c.reverse.ensures.after
    ∙ sym (reverse-drop xs places c.requires.within)))
    ∙ reverse-reverse (drop kept xs)) in
    let others : c.reverse-3.new.self ≡ take kept xs =
    c.reverse-3.ensures.after
    ∙ (ap reverse (c.split_at_mut-moved.ensures.back
    ∙ (ap (drop places) c.reverse.ensures.after
    ∙ sym (reverse-take xs places c.requires.within)))
    ∙ reverse-reverse (take kept xs)) in
    rw (moved, others) refl
