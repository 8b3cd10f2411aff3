use Rattle.std.proofs.Common.{ap, ◌∙◌, Bool}
use Rattle.ps_word.specs.declared.values.Content.{Content}
use Rattle.ps_word.specs.Format.{content_in}
use Rattle.ps_word.proofs.words.Word.value.Goals as goal

pub returns : goal.returns
returns c =
    ap (λ (x : Content). record { content = x; executable = c.is_executable.result }) c.content.ensures
    ∙ ap (λ (x : Bool). record { content = content_in c.args.self.0; executable = x }) c.is_executable.ensures
