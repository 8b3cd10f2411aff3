-- What was scanned is that of the text that is read.
use Rattle.ps_step.proofs.Rereading.{done_then}
use Rattle.ps_step.proofs.texts.take_next.Goals as goal

pub take_scanned-requires-clause-scanned : goal.take_scanned-requires-clause-scanned
take_scanned-requires-clause-scanned g c =
    rw (
      c.scan_source-scanned.ensures.heap,
      c.scan_source-scanned.ensures.grants,
      c.scanned_bytes-text.ensures,
    )
    (λ s shown.
    c.scan_source-scanned.ensures.scanned c.args.runtime.now.shared.names s shown.shows shown.frames.0)

pub take_scanned-requires-clause-token : goal.take_scanned-requires-clause-token
take_scanned-requires-clause-token g c =
    rw (c.scan_source-scanned.ensures.heap, c.scanned_bytes-text.ensures)
    c.scan_source-scanned.ensures.token

pub returns-clause-window : goal.returns-clause-window
returns-clause-window g c =
    done_then c.take_scanned.result c.take_scanned.ensures.heap λ same.
    rw (same, c.scan_source-scanned.ensures.heap) c.scan_source-scanned.ensures.window
