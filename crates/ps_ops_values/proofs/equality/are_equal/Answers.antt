-- By what the two are.
use Rattle.std.proofs.Common.{◌∙◌, sym, ap}
use Rattle.ps_language.specs.Outcome.{leaves}
use Rattle.ps_mem.specs.Heap.{birth_at}
use Rattle.ps_ops_values.proofs.Equating.{readable_both, equal_turned, text_stands, text_inside, plain_equal}
use Rattle.ps_ops_values.proofs.Equating.{strings_equal}
use Rattle.ps_ops_values.proofs.equality.are_equal.Goals as goal

pub compare_bytes-requires-clause-left : goal.compare_bytes-requires-clause-left
compare_bytes-requires-clause-left g c =
    text_stands _ _ (c.in_ok-first.ensures.text ∙ c.in-Some-Some.is-0) _ c.requires.left

pub compare_bytes-requires-clause-right : goal.compare_bytes-requires-clause-right
compare_bytes-requires-clause-right g c =
    text_stands _ _ (c.in_ok-second.ensures.text ∙ c.in-Some-Some.is-1) _ c.requires.right

pub returns-in-None-None-clause-found : goal.returns-in-None-None-clause-found
returns-in-None-None-clause-found g c = record {
  agrees = λ s shows distinct within inside.
      readable_both s _ _ (c.in_ok-first.ensures.readable _ _)
      (c.in_ok-second.ensures.readable _ _)
      ∙ ap leaves (plain_equal _ _ s _ _ c.requires.sound distinct c.requires.left c.requires.right
      within inside (c.in_ok-first.ensures.text ∙ c.in-None-None.is-0)
      (c.in_ok-second.ensures.text ∙ c.in-None-None.is-1) ∙ sym c.is_same_key.ensures);
}

pub returns-in-Some-None-clause-found : goal.returns-in-Some-None-clause-found
returns-in-Some-None-clause-found g c = record {
  agrees = λ s shows distinct within inside.
      readable_both s _ _ (c.in_ok-first.ensures.readable _ _)
      (c.in_ok-second.ensures.readable _ _)
      ∙ ap leaves (equal_turned s _ _
      ∙ sym (c.is_its_name-in-Some-None.ensures.value s shows inside within));
}

pub returns-in-Some-Some-clause-found : goal.returns-in-Some-Some-clause-found
returns-in-Some-Some-clause-found g c = record {
  agrees = λ s shows distinct within inside.
      let heap = g.M.Memory.heap c.args.memory.now in
      let first = c.in_ok-first.ensures.text ∙ c.in-Some-Some.is-0 in
      let second = c.in_ok-second.ensures.text ∙ c.in-Some-Some.is-1 in
      readable_both s _ _ (c.in_ok-first.ensures.readable _ _)
      (c.in_ok-second.ensures.readable _ _)
      ∙ ap leaves (strings_equal heap c.args.names.now s _ _ _ _ first second
      c.compare_bytes.result (c.compare_bytes.ensures.order c.args.names.now s shows
      (text_inside _ _ first (birth_at heap) c.args.names.now s within)
      (text_inside _ _ second (birth_at heap) c.args.names.now s inside)) c.eq.result
      c.eq.ensures);
}
