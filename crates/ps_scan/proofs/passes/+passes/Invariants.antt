use Rattle.std.proofs.Common.{◌≡◌, ◌+◌, ◌-◌, ◌*◌, ◌≤◌, List, length}
use Rattle.ps_language.specs.Token.{Token}
use Rattle.ps_scan.proofs.ProcedureForms.{with_all, elements_at}
use Rattle.ps_scan.proofs.passes.+passes.Given as goal

abbrev pub decreases-pass_procedure : goal.decreases-pass_procedure
decreases-pass_procedure l = 2 * l.room + 1

abbrev pub decreases-pass_token : goal.decreases-pass_token
decreases-pass_token l = 2 * l.room

-- so many elements were passed over
abbrev pub invariant-pass_procedure-loop-place : goal.invariant-pass_procedure-loop-place
invariant-pass_procedure-loop-place l = record {
  low : l.at + 1 ≤ l.place;
  high : l.place ≤ length l.bytes;
  few : l.count ≤ l.place;
  front : (front : List Token)
      × (with_all front (elements_at l.room l.bytes l.place) ≡ elements_at l.room l.bytes (l.at + 1))
      × (length front ≡ l.count);
}

abbrev pub decreases-pass_procedure-loop-place : goal.decreases-pass_procedure-loop-place
decreases-pass_procedure-loop-place l = length l.bytes - l.place
