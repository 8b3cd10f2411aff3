-- Letters by their bytes.
use Rattle.std.proofs.Common.{◌∙◌, ap}
use Rattle.ps_language.specs.Scan.{escape_of}
use Rattle.ps_scan.proofs.StringForms.{own_escape, escape_n, escape_r, escape_t, escape_b, escape_f}
use Rattle.ps_scan.proofs.strings.letter_byte.Goals as goal

pub returns-then-letter-eq110 : goal.returns-then-letter-eq110
returns-then-letter-eq110 c = ap escape_of c.if-letter-eq110.true ∙ escape_n

pub returns-then-letter-eq114 : goal.returns-then-letter-eq114
returns-then-letter-eq114 c = ap escape_of c.if-letter-eq114.true ∙ escape_r

pub returns-then-letter-eq116 : goal.returns-then-letter-eq116
returns-then-letter-eq116 c = ap escape_of c.if-letter-eq116.true ∙ escape_t

pub returns-then-letter-eq98 : goal.returns-then-letter-eq98
returns-then-letter-eq98 c = ap escape_of c.if-letter-eq98.true ∙ escape_b

pub returns-then-letter-eq102 : goal.returns-then-letter-eq102
returns-then-letter-eq102 c = ap escape_of c.if-letter-eq102.true ∙ escape_f

pub returns-else-letter-eq102 : goal.returns-else-letter-eq102
returns-else-letter-eq102 c =
    own_escape c.args.letter c.requires.octal c.requires.feed c.requires.carriage_return c.if-letter-eq110.false
    c.if-letter-eq114.false c.if-letter-eq116.false c.if-letter-eq98.false c.if-letter-eq102.false
