use Rattle.std.proofs.Common.{◌≡◌, ◌+◌, ◌-◌, ◌*◌, ◌≤◌, List, length, map}
use Rattle.ps_language.specs.Token.{Token}
use Rattle.ps_scan.specs.Shown.{token_of}
use Rattle.ps_scan.proofs.ProcedureForms.{with_all, elements_at}
use Rattle.ps_scan.proofs.procedures.+procedures.Given as goal

abbrev pub decreases-procedure_token : goal.decreases-procedure_token
decreases-procedure_token l = 3 * l.room + 2

abbrev pub decreases-token_from : goal.decreases-token_from
decreases-token_from l = 3 * l.room

abbrev pub decreases-outer_token : goal.decreases-outer_token
decreases-outer_token l = 3 * l.room + 1

-- so many elements were read, and those up to the limit are kept
abbrev pub invariant-procedure_token-loop-place : goal.invariant-procedure_token-loop-place
invariant-procedure_token-loop-place l = record {
  low : l.at + 1 ≤ l.place;
  high : l.place ≤ length l.bytes;
  few : l.count ≤ l.place;
  front : (front : List Token)
      × (with_all front (elements_at l.room l.bytes l.place) ≡ elements_at l.room l.bytes (l.at + 1))
      × (length front ≡ l.count) × (l.count ≤ 65535 → front ≡ map (token_of l.bytes) l.elements.items);
}

abbrev pub decreases-procedure_token-loop-place : goal.decreases-procedure_token-loop-place
decreases-procedure_token-loop-place l = length l.bytes - l.place
