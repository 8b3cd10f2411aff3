use Rattle.std.proofs.Common.{ap, ◌∙◌}
use Rattle.std.specs.Prelude.{is_some}
use Rattle.ps_ctx_readers.proofs.Naming.{name_value}
use Rattle.ps_ctx_readers.proofs.names.is_name.Goals as goal

pub returns : goal.returns
returns c = λ births names.
    c.is_some.ensures ∙ (ap is_some c.as_name.ensures ∙ name_value births names c.args.word)
