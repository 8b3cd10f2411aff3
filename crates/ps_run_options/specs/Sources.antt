-- Where a program is, by the command line.
use Rattle.std.specs.Prelude.{ℕ, List, Option, Some, None}
use Rattle.ps_run_options.specs.declared.options.ProgramSource.{ProgramSource}
use Rattle.ps_run_options.specs.declared.options.ProgramSource.TheVariants.{File, Text}

-- the name of its file
abbrev pub file_of : ProgramSource → Option (List ℕ)
file_of (File name) = Some name.now
file_of (Text text) = None

-- its text
abbrev pub text_of : ProgramSource → Option (List ℕ)
text_of (File name) = None
text_of (Text text) = Some text.now
