-- By what was passed over.
use Rattle.std.proofs.Common.{sym}
use Rattle.ps_language.specs.Scan.{scan}
use Rattle.ps_places.proofs.Seeking.{end_passed, end_none}
use Rattle.ps_places.proofs.tokens.token_end.Goals as goal

pub returns-in-Some : goal.returns-in-Some
returns-in-Some c =
    sym (end_passed c.args.at (scan c.args.text.now c.args.at) c.in-Some.token c.in-Some.ensures.answer)

pub returns-in-None : goal.returns-in-None
returns-in-None c = sym (end_none c.args.at (scan c.args.text.now c.args.at) c.in-None.ensures.answer)
