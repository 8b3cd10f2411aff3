-- The word is told by its content.
use Rattle.std.proofs.Common.{ap, sym, subst, ◌∙◌}
use Rattle.ps_language.specs.Value.{What}
use Rattle.ps_mem.specs.Heap.{birth_at}
use Rattle.ps_text.proofs.Shown.{known_content, what_is, within_content}
use Rattle.ps_ctx_readers.specs.Values.{IsWritten, bytes_seen, what_seen}
use Rattle.ps_ctx_readers.proofs.Valued.{executable_is}
use Rattle.ps_ctx_readers.proofs.values.tell_value.Goals as goal

pub what_view-requires-clause-known : goal.what_view-requires-clause-known
what_view-requires-clause-known g c =
    known_content c.args.word c.content-content.result c.content-content.ensures _
    c.requires.held.known

pub write_content-whole-requires-clause-known : goal.write_content-whole-requires-clause-known
write_content-whole-requires-clause-known g c =
    rw c.what_view.ensures.heap (known_content c.args.word c.content-content.result
    c.content-content.ensures _ c.requires.held.known)

pub returns-clause-told : goal.returns-clause-told
returns-clause-told g c = λ s shows within.
    let births = birth_at (g.M.Memory.heap c.args.memory.now) in
    let names = c.args.names.now in
    let is = what_is c.args.word c.content-content.result c.content-content.ensures births names in
    let put = c.write_content-whole.ensures.bytes in
    let wrote = rw c.what_view.ensures.heap at put in
    record {
      view = λ i. record {
        what = (c.what_view.ensures.view s shows ∙ ap (what_seen s) (sym is)) i;
        executable = (c.is_executable.ensures ∙ executable_is births names c.args.word) i;
      };
      bytes = subst (λ (what : What). IsWritten (bytes_seen s what) c.args.room.now
          c.write_content-whole.new.room c.write_content-whole.result) (sym is)
          (wrote s shows (within_content c.args.word c.content-content.result
          c.content-content.ensures births names s within));
    }
