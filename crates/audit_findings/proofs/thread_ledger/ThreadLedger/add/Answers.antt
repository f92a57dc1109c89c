use Rattle.std.proofs.Common.{◌≡◌, true, false, [], ◌∷◌, ◌++◌, List, sym, ap, ap₂, subst, ◌∙◌}
use Rattle.std.proofs.lemmas.List.{append-nil}
use Rattle.std.proofs.lemmas.Result.{on_ok_weaker}
use Rattle.std.specs.Option.{is_some}
use Rattle.event_core.specs.Reading.{event_text}
use Rattle.capture_frame.specs.declared.process.Thread.{Thread}
use Rattle.call_stacks.specs.Calls.{event_reads, mark_read}
use Rattle.call_stacks.specs.declared.call_record.CallEvent.{CallEvent}
use Rattle.audit_findings.specs.ThreadLedger.{fed_calls, leaves_mark}
use Rattle.audit_findings.proofs.ThreadFits.{FitThreads, SumsFedCalls, fit_after, fed_after, fed_marked, fed_plain}
use Rattle.audit_findings.proofs.thread_ledger.ThreadLedger.add.Goals as goal

pub add-requires : goal.add-requires
add-requires c =
    let text = event_text c.args.event in
    let events = c.requires.0 in
    let is : leaves_mark text ≡ true
    = ap (λ (e : CallEvent). is_some (mark_read event_reads e)) (sym c.of-call.ensures) ∙ ap is_some (sym c.mark.ensures ∙ c.in-Some.is) in
    let fed : fed_calls (text ∷ []) ≡ (c.of_thread.result, c.of-call.result) ∷ []
    = fed_marked text is ∙ ap₂ (λ (t : Thread) (e : CallEvent). (t, e) ∷ []) (sym c.of_thread.ensures) (sym c.of-call.ensures) in (
      fed_calls events,
      c.requires.1.sums,
      subst (λ (f : List (Thread × CallEvent)). FitThreads (fed_calls events ++ f)) fed (fit_after events (text ∷ []) c.requires.2),
    )

pub returns-in-Some : goal.returns-in-Some
returns-in-Some c =
    let text = event_text c.args.event in
    let is : leaves_mark text ≡ true
    = ap (λ (e : CallEvent). is_some (mark_read event_reads e)) (sym c.of-call.ensures) ∙ ap is_some (sym c.mark.ensures ∙ c.in-Some.is) in
    let fed : fed_calls (text ∷ []) ≡ (c.of_thread.result, c.of-call.result) ∷ []
    = fed_marked text is ∙ ap₂ (λ (t : Thread) (e : CallEvent). (t, e) ∷ []) (sym c.of_thread.ensures) (sym c.of-call.ensures) in
    on_ok_weaker c.add.result
    (λ adds events sums few.
    let with = λ (f : List (Thread × CallEvent)). fed_calls events ++ f in
    record {
      placed = few.0;
      sums = subst (SumsFedCalls c.add.new.self.entries.entries) (ap with (sym fed) ∙ sym (fed_after events (text ∷ [])))
          (adds (fed_calls events) sums.sums
          (subst (λ (f : List (Thread × CallEvent)). FitThreads (with f)) fed (fit_after events (text ∷ []) few)));
    })
    c.add.ensures

pub returns-in-None : goal.returns-in-None
returns-in-None c = λ events sums few.
    let text = event_text c.args.event in
    let is : leaves_mark text ≡ false
    = ap (λ (e : CallEvent). is_some (mark_read event_reads e)) (sym c.of-call.ensures) ∙ ap is_some (sym c.mark.ensures ∙ c.in-None.is) in
    record {
      placed = few.0;
      sums = subst (SumsFedCalls c.args.self.now.threads.entries.entries)
          (sym (append-nil (fed_calls events)) ∙ ap (λ (f : List (Thread × CallEvent)). fed_calls events ++ f) (sym (fed_plain text is))
          ∙ sym (fed_after events (text ∷ [])))
          sums.sums;
    }
