use Rattle.std.proofs.Common.{sym, subst, ap, ◌∙◌}
use Rattle.ps_language.specs.declared.kinds.Kind.TheVariants.{Dictionary as DictionaryKind}
use Rattle.ps_mem.specs.Heap.{Heap}
use Rattle.ps_mem.specs.References.{StandsAs}
use Rattle.ps_mem.proofs.KeepsLemmas.{stands-kept}
use Rattle.ps_mem.proofs.ValueLemmas.{IsValue-integer}
use Rattle.ps_dict.specs.Puts.{plan_at}
use Rattle.ps_test_layers.proofs.rates.put_number.Goals as goal

pub plan_put-plan-requires-clause-held : goal.plan_put-plan-requires-clause-held
plan_put-plan-requires-clause-held g c =
    IsValue-integer (g.M.Memory.heap c.args.memory.now) c.integer-key.result _
    c.integer-key.ensures.value c.integer-key.ensures.word

pub put-requires-clause-plan : goal.put-requires-clause-plan
put-requires-clause-plan g c =
    c.plan_put-plan.ensures.words
    ∙ ap (λ (k : Heap). plan_at k c.args.address c.integer-key.result)
    (sym (c.permit.ensures.heap ∙ (c.need.ensures.heap ∙ c.plan_put-plan.ensures.heap)))

pub put-requires-clause-key : goal.put-requires-clause-key
put-requires-clause-key g c =
    IsValue-integer (g.M.Memory.heap c.permit.new.self) c.integer-key.result _
    c.integer-key.ensures.value c.integer-key.ensures.word

pub put-requires-clause-value : goal.put-requires-clause-value
put-requires-clause-value g c =
    IsValue-integer (g.M.Memory.heap c.permit.new.self) c.integer-key.result _
    c.integer-key.ensures.value c.integer-key.ensures.word

pub returns-else-ne-clause-known : goal.returns-else-ne-clause-known
returns-else-ne-clause-known g c =
    stands-kept (g.M.Memory.heap c.permit.new.self) (g.M.Memory.heap c.put.new.memory)
    c.put.ensures.keeps DictionaryKind c.args.address 4
    (subst (λ (k : Heap). StandsAs k DictionaryKind c.args.address 4)
    (sym (c.permit.ensures.heap ∙ (c.need.ensures.heap ∙ c.plan_put-plan.ensures.heap)))
    c.requires.known)
