use Rattle.std.proofs.Common.{◌≡◌, ◌++◌, Some, [], Err, length, refl, ap, sym, subst, ◌∙◌, rules, append_assoc, append-nil, IfSome}
use Rattle.ps_run_schedules.specs.Texts.{IsBadAt, text_of}
use Rattle.ps_run_schedules.specs.declared.reading.ScheduleFault.{ScheduleFault}
use Rattle.ps_run.specs.declared.files.ReadFault.{ReadFault}
use Rattle.ps_run.specs.declared.files.ReadFault.TheVariants.{Memory}
use Rattle.ps_run.proofs.ReadParts.{all_read, if_known, none_left, of_known, read_more}
use Rattle.ps_run.proofs.reading.read_schedule.Goals as goal

pub returns-in-Err-clause-unread : goal.returns-in-Err-clause-unread
returns-in-Err-clause-unread g c fault is =
    let same : c.in-Err.fault ≡ fault = search rules in
    subst (λ (it : ReadFault). (g.F.FileSet.last_fault c.read_on.new.self ≡ Some it)
    × IfSome (g.F.FileSet.left c.args.files.now) (λ known. it ≡ Memory)) same (
      c.in-Err.ensures.failed,
      if_known (g.F.FileSet.left c.args.files.now) _ (λ known known_is.
          let read = c.loop.invariant.read known known_is in
          of_known (g.F.FileSet.left c.loop.files) _ read.rest read.is_left c.in-Err.ensures.fault),
    )

pub returns-in-Err-clause-read : goal.returns-in-Err-clause-read
returns-in-Err-clause-read g c none = absurd (none c.in-Err.fault refl)

pub returns-in-Err-read_entries-clause-bad : goal.returns-in-Err-read_entries-clause-bad
returns-in-Err-read_entries-clause-bad g c line is =
    let told : c.read_entries.result ≡ Err (ScheduleFault.BadLine line) = search rules in
    let slice : c.as_slice.result.now ≡ c.read_on.new.bytes.items = search rules in
    if_known (g.F.FileSet.left c.args.files.now) _ (λ known known_is.
    let first = text_of c.loop.entries.items in
    let more = read_more known first c.loop.text.items c.read_on.new.bytes.items
    (g.F.FileSet.left c.loop.files) (g.F.FileSet.left c.read_on.new.self)
    (c.loop.invariant.read known known_is) c.in_default.ensures.next in
    let bad = c.read_entries.ensures.bad line told more.rest (λ last.
    let same : length c.read_on.new.bytes.items ≡ length c.loop.text.items = search rules in
    none_left known first c.loop.text.items c.read_on.new.bytes.items
    (g.F.FileSet.left c.loop.files) (g.F.FileSet.left c.read_on.new.self)
    (c.loop.invariant.read known known_is) c.in_default.ensures.next same) in
    let whole : first ++ (c.as_slice.result.now ++ more.rest) ≡ known =
    ap (λ bs. first ++ (bs ++ more.rest)) slice
    ∙ sym (append_assoc first c.read_on.new.bytes.items more.rest) ∙ sym more.is in
    subst (λ bytes. IsBadAt bytes line) whole bad)

pub returns-then-is_last-clause-text : goal.returns-then-is_last-clause-text
returns-then-is_last-clause-text g c =
    let slice : c.as_slice.result.now ≡ c.read_on.new.bytes.items = search rules in
    let none : c.in-Ok.rest.now ≡ [] = search rules in
    let same : length c.read_on.new.bytes.items ≡ length c.loop.text.items = search rules in
    if_known (g.F.FileSet.left c.args.files.now) _ (λ known known_is.
    let first = text_of c.loop.entries.items in
    let all = all_read known first c.loop.text.items c.read_on.new.bytes.items
    (g.F.FileSet.left c.loop.files) (g.F.FileSet.left c.read_on.new.self)
    (c.loop.invariant.read known known_is) c.in_default.ensures.next same in
    sym (all ∙ ap (λ bs. first ++ bs) (sym slice) ∙ c.in-Ok.ensures.text
    ∙ ap (λ bs. text_of c.read_entries.new.entries.items ++ bs) none
    ∙ append-nil (text_of c.read_entries.new.entries.items)))

pub loop-preserved : goal.loop-preserved
loop-preserved g c =
    let slice : c.as_slice.result.now ≡ c.read_on.new.bytes.items = search rules in
    let copied : c.in-Ok-from_slice.copy.items ≡ c.in-Ok.rest.now = search rules in
    record {
      entries = search rules;
      read = λ known known_is.
          let first = text_of c.loop.entries.items in
          let more = read_more known first c.loop.text.items c.read_on.new.bytes.items
          (g.F.FileSet.left c.loop.files) (g.F.FileSet.left c.read_on.new.self)
          (c.loop.invariant.read known known_is) c.in_default.ensures.next in
          record {
            rest = more.rest;
            is =
                more.is
                ∙ ap (λ bs. bs ++ more.rest) (ap (λ bs. first ++ bs) (sym slice)
                ∙ c.in-Ok.ensures.text
                ∙ ap (λ bs. text_of c.read_entries.new.entries.items ++ bs) (sym copied));
            is_left = more.is_left;
          };
      kept = c.read_on.ensures.kept ∙ c.loop.invariant.kept;
      last = search rules;
      writes = c.read_on.ensures.writes ∙ c.loop.invariant.writes;
    }
