-- The two forms in which values are shown.
use Rattle.std.specs.Prelude.{ℕ, List}
use Rattle.ps_language.specs.Value.{Value, Store}
use Rattle.ps_language.specs.Texts.{plain_text, full_text}
use Rattle.ps_text.specs.declared.lines.Form.{Form}
use Rattle.ps_text.specs.declared.lines.Form.TheVariants.{Plain, Full}

-- the text of a value
abbrev pub text_as : Form → Store → Value → List ℕ
text_as Plain = plain_text
text_as Full = full_text
