use Rattle.ps_gc_roots.specs.Roots.{roots_in}
use Rattle.ps_gc_roots.proofs.Putting.{begin_all}
use Rattle.ps_gc_roots.proofs.writing.write_roots.Goals as goal

pub returns-clause-table : goal.returns-clause-table
returns-clause-table c = λ rename is.
    c.write_members.ensures rename
    (begin_all rename c.args.roots.now (roots_in c.args.contexts.now.table) is)
