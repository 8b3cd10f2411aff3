-- The table has the value of each byte.
use Rattle.std.proofs.Common.{min, arith}
use Rattle.ps_language.specs.Bytes.{digit_of}
use Rattle.ps_scan.proofs.Tables.{byte_value}
use Rattle.ps_scan.proofs.classes.hex_value.Goals as goal

pub returns : goal.returns
returns c = byte_value (λ b. min (digit_of b) 16) c.args.b (omega (arith, c.ranges.b.fits))
