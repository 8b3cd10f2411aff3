use Rattle.std.proofs.Common.{[], ◌∷◌, ◌++◌, ap, ◌∙◌}
use Rattle.ps_gc_roots.proofs.Taking.{literal-is}
use Rattle.ps_gc_roots.proofs.reading.read_content.Goals as goal

pub returns-clause-roots : goal.returns-clause-roots
returns-clause-roots c = c.push_reserved.ensures.items
    ∙ ap (λ w. c.args.roots.now.items ++ w ∷ [])
    (literal-is c.literal.result c.args.content c.literal.ensures.value c.literal.ensures.word)
