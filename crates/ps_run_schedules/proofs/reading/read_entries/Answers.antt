use Rattle.std.proofs.Common.{◌≡◌, ◌++◌, ◌∷◌, [], ◌∙◌, rules, ap, subst, sym}
use Rattle.ps_run_schedules.specs.Texts.{AreEntries, text_of}
use Rattle.ps_run_schedules.proofs.WholeLines.{bad_here}
use Rattle.ps_run_schedules.proofs.Once.{text_more, entries_more}
use Rattle.ps_run_schedules.proofs.reading.read_entries.Goals as goal

pub returns-in_default-clause-bad : goal.returns-in_default-clause-bad
returns-in_default-clause-bad c line is more ends =
    let certain = c.is_certain.ensures.certain (search rules) in
    bad_here (text_of c.args.entries.now.items) c.args.bytes.now c.loop-rest.rest.now more
    c.loop-rest.entries.items line c.args.is_last c.loop-rest.invariant.entries
    c.loop-rest.invariant.is (search rules) certain.0 certain.1 (search rules) ends

pub loop-rest-preserved : goal.loop-rest-preserved
loop-rest-preserved c =
    let items : c.push.new.self.items ≡ c.loop-rest.entries.items ++ c.in-Some.next ∷ [] =
    search rules in
    record {
      entries =
          subst AreEntries (sym items) (entries_more c.loop-rest.entries.items c.in-Some.next
          c.loop-rest.invariant.entries c.in-Some.ensures.entry);
      is =
          c.loop-rest.invariant.is
          ∙ ap (λ rest. text_of c.loop-rest.entries.items ++ rest) c.in-Some.ensures.found
          ∙ text_more c.loop-rest.entries.items c.in-Some.next c.in-Some.behind.now
          ∙ ap (λ entries. text_of entries ++ c.in-Some.behind.now) (sym items);
    }
