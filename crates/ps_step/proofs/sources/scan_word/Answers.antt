-- By the source.
use Rattle.std.proofs.Common.{Some, Ok, length, sym, subst}
use Rattle.std.specs.Prelude.{IfSome}
use Rattle.ps_ops_control.specs.declared.frames.Source.{Source}
use Rattle.ps_ops_control.specs.Frames.{IsSourceAt}
use Rattle.ps_step.specs.Texts.{IsTaken, Scans, bytes_scanned}
use Rattle.ps_step.specs.Windows.{IsWindow}
use Rattle.ps_step.proofs.Rereading.{words_in_window}
use Rattle.ps_step.proofs.Scanning.{word_taken, word_held}
use Rattle.ps_step.proofs.sources.scan_word.Goals as goal

pub returns-in-Program-clause-token : goal.returns-in-Program-clause-token
returns-in-Program-clause-token g c =
    let heap = g.M.Memory.heap c.args.memory.now in
    let program = c.args.program.now in
    subst (λ (source : Source). IfSome c.next_word.result (λ token.
    IsTaken (IsSourceAt heap (length program) source)
    (bytes_scanned source program c.args.window.now.bytes.items) (Ok (Some token))))
    (sym c.in-Program.is)
    (word_taken program c.args.cursor.at c.next_word.result c.next_word.ensures.answer
    c.next_word.ensures.place)

pub returns-in-Text-clause-scanned : goal.returns-in-Text-clause-scanned
returns-in-Text-clause-scanned g c =
    let heap = g.M.Memory.heap c.args.memory.now in
    let program = c.args.program.now in
    let window = c.args.window.now in
    let read = subst (λ (source : Source). IsWindow heap source window) c.in-Text.is
    c.requires.window in
    subst (λ (source : Source). IfSome c.word_read.result (λ token.
    Scans heap source c.args.cursor.at program window.bytes.items (Ok (Some token))))
    (sym c.in-Text.is)
    (words_in_window heap c.in-Text.part c.args.cursor.at program window read
    c.word_read.result c.word_read.ensures.scanned)

pub returns-in-Text-clause-token : goal.returns-in-Text-clause-token
returns-in-Text-clause-token g c =
    let heap = g.M.Memory.heap c.args.memory.now in
    let program = c.args.program.now in
    let list = c.args.window.now.bytes.items in
    let held = subst (λ (source : Source). IsSourceAt heap (length program) source c.args.cursor.at)
    c.in-Text.is c.requires.place in
    subst (λ (source : Source). IfSome c.word_read.result (λ token.
    IsTaken (IsSourceAt heap (length program) source) (bytes_scanned source program list)
    (Ok (Some token)))) (sym c.in-Text.is)
    (word_held heap (length program) c.in-Text.part c.args.cursor.at held list c.word_read.result
    c.word_read.ensures.token)
