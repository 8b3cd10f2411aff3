-- By the source.
use Rattle.std.proofs.Common.{◌≤◌, Some, Ok, length, sym, subst, arith}
use Rattle.ps_ops_control.specs.declared.frames.Source.{Source}
use Rattle.ps_ops_control.specs.declared.frames.Source.TheVariants.{Text as TextOf}
use Rattle.ps_ops_control.specs.Frames.{IsSourceAt}
use Rattle.ps_step.specs.Texts.{IsTaken, Scans, bytes_scanned}
use Rattle.ps_step.specs.Windows.{IsWindow}
use Rattle.ps_step.proofs.Rereading.{in_window}
use Rattle.ps_step.proofs.Scanning.{taken, taken_at}
use Rattle.ps_step.proofs.sources.scan_source.Goals as goal

pub returns-in-Program-clause-token : goal.returns-in-Program-clause-token
returns-in-Program-clause-token g c =
    let program = c.args.program.now in
    subst (λ (source : Source). IsTaken
    (IsSourceAt (g.M.Memory.heap c.args.memory.now) (length program) source)
    (bytes_scanned source program c.args.window.now.bytes.items) c.next_token.result) (sym c.in-Program.is)
    (taken program c.args.cursor.at (length program) c.next_token.result (omega arith)
    c.next_token.ensures.answer c.next_token.ensures.place)

pub returns-in-None-clause-scanned : goal.returns-in-None-clause-scanned
returns-in-None-clause-scanned g c =
    let heap = g.M.Memory.heap c.args.memory.now in
    subst (λ (source : Source). Scans heap source c.args.cursor.at c.args.program.now
    c.scan_string.new.window.bytes.items c.scan_string.result) (sym c.in-Text.is)
    c.scan_string.ensures.scanned

pub returns-in-None-clause-token : goal.returns-in-None-clause-token
returns-in-None-clause-token g c =
    let heap = g.M.Memory.heap c.args.memory.now in
    let size = length c.args.program.now in
    let held = subst (λ (source : Source). IsSourceAt heap size source c.args.cursor.at) c.in-Text.is
    c.requires.place in
    subst (λ (source : Source). IsTaken (IsSourceAt heap size source)
    (bytes_scanned source c.args.program.now c.scan_string.new.window.bytes.items) c.scan_string.result)
    (sym c.in-Text.is)
    (taken_at c.scan_string.new.window.bytes.items (λ end. end ≤ c.in-Text.part.length)
    (IsSourceAt heap size (TextOf c.in-Text.part)) c.scan_string.result
    (λ end below. (held.0, below)) c.scan_string.ensures.token)

pub returns-in-Some-clause-scanned : goal.returns-in-Some-clause-scanned
returns-in-Some-clause-scanned g c =
    let heap = g.M.Memory.heap c.args.memory.now in
    let part = c.in-Text.part in
    let window = c.args.window.now in
    let read = subst (λ (source : Source). IsWindow heap source window) c.in-Text.is
    c.requires.window in
    subst (λ (source : Source). Scans heap source c.args.cursor.at c.args.program.now
    window.bytes.items (Ok (Some c.in-Some.token))) (sym c.in-Text.is)
    (in_window heap part c.args.cursor.at c.args.program.now window read c.in-Some.token
    (rw c.in-Some.is at c.scan_read.ensures.scanned))
