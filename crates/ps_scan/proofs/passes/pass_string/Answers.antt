-- A string is passed over.
use Rattle.std.proofs.Common.{refl, arith}
use Rattle.ps_language.specs.Token.{string_token}
use Rattle.ps_scan.proofs.passes.pass_string.Goals as goal

pub returns-in-Ok : goal.returns-in-Ok
returns-in-Ok c = λ text at start reading behind. rw c.in-Ok.is λ sized. (
  string_token sized.0,
  sized.1,
  refl,
  omega (arith, behind, sized.4),
  sized.5,
)

pub returns-in-Err : goal.returns-in-Err
returns-in-Err c = λ text at start reading behind. rw c.in-Err.is λ stuck. stuck
