use Rattle.event_core.specs.Events.{events_of_frames}
use Rattle.audit_findings.proofs.MatchedLaws.{calls_matched}
use Rattle.audit_findings.proofs.PlacesRise.{events_rise}
use Rattle.audit_findings.proofs.laws.matched_calls.Goals as goal

pub returns-clause-events_rise : goal.returns-clause-events_rise
returns-clause-events_rise c = events_rise

pub returns-clause-calls : goal.returns-clause-calls
returns-clause-calls c = λ parts frames is.
    calls_matched (events_of_frames frames) (events_rise parts frames is)
