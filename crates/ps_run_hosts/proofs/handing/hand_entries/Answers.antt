-- Each entry that is left is the next of all, and stands behind those that were handed.
use Rattle.std.proofs.Common.{◌<◌, ◌∙◌, false, None, ap, sym, arith, length, set}
use Rattle.ps_language.specs.declared.schedules.Entry.{Entry}
use Rattle.ps_run_hosts.specs.Hosts as hosts
use Rattle.ps_run_hosts.specs.declared.numbers.HostEntry.{HostEntry}
use Rattle.ps_run_hosts.proofs.Rooms.{all_stand, next_of, one_more, room_full}
use Rattle.ps_run_hosts.proofs.handing.hand_entries.Goals as goal

-- what is past the end
abbrev none : Entry
none = record { context = 0; steps = 0; refused = false; shown = None }

pub loop-place-preserved : goal.loop-place-preserved
loop-place-preserved c =
    let at = c.loop-place.invariant in
    let next = next_of c.args.entries c.next.new.self c.loop-place.place c.in-Some.entry none
    (sym at.left ∙ c.in-Some.ensures) in
    let fits : c.loop-place.place < length c.args.room.now = c.loop-place-test.true in
    record {
      stand = ap (λ (host : HostEntry). set c.loop-place.room c.loop-place.place host)
          (c.handed_entry.ensures ∙ ap hosts.handed_entry (sym next.is))
          ∙ one_more hosts.handed_entry c.args.entries c.loop-place.room c.args.room.now
          c.loop-place.place none next.less fits at.stand;
      left = sym next.behind;
      within = omega (arith, next.less);
    }

pub returns-in_default : goal.returns-in_default
returns-in_default c =
    let at = c.loop-place.invariant in
    at.stand ∙ all_stand hosts.handed_entry c.args.entries c.args.room.now c.loop-place.place
    at.within (omega (arith, c.loop-place-test.true)) (sym at.left ∙ c.in_default.ensures.0)

pub returns : goal.returns
returns c =
    let at = c.loop-place.invariant in
    at.stand ∙ room_full hosts.handed_entry c.args.entries c.args.room.now c.loop-place.place
    at.within (omega (arith, c.loop-place-test.false, c.loop-place.auto.place-end))
