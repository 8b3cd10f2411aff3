-- What was done comes to its end.
use Rattle.ps_ctx_operators.proofs.notifying.call_notify.Goals as goal

pub returns : goal.returns
returns g c = c.end.ensures c.args.shown _ (c.notify-done.ensures c.args.attempt c.args.shown)

pub end-requires-clause-runs : goal.end-requires-clause-runs
end-requires-clause-runs g c = (c.notify-done.ensures c.args.attempt c.args.shown).runs

pub end-requires-clause-steady : goal.end-requires-clause-steady
end-requires-clause-steady g c = (c.notify-done.ensures c.args.attempt c.args.shown).steady
