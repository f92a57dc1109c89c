use Rattle.std.proofs.Common.{◌≡◌, List, [], ◌∷◌, ◌++◌, refl, sym, ap, subst, ◌∙◌, append_assoc, rules}
use Rattle.std.proofs.lemmas.List.{append-nil}
use Rattle.call_stacks.specs.declared.call_record.CallEvent.{CallEvent}
use Rattle.call_stacks.specs.declared.calls.Calls.{Calls}
use Rattle.capture_frame.specs.declared.process.Thread.{Thread}
use Rattle.audit_findings.specs.ThreadRows.{AreGatheredRows}
use Rattle.audit_findings.proofs.ThreadTurns.{thread_more}
use Rattle.audit_findings.proofs.thread_rows.ThreadRows.in_turn.Goals as goal

pub loop-thread-init : goal.loop-thread-init
loop-thread-init c =
    let all : c.into_iter-thread-iterator.result ≡ c.args.ledger.threads.entries.entries = search rules in
    let none : AreGatheredRows [] (record { made = c.new.result; served = c.new-2.result; answered = 0; replied = 0; strays = c.new-3.result; sends = c.new-4.result })
    = record {
      founds = [];
      are = tt;
      made_are = c.new.ensures.items;
      served_are = c.new-2.ensures.items;
      answered_is = λ few. refl;
      replied_is = λ few. refl;
      strays_are = c.new-3.ensures.items;
      sends_are = c.new-4.ensures.items;
    } in
    ([], all, none)

pub loop-thread-preserved : goal.loop-thread-preserved
loop-thread-preserved c =
    let so_far = c.loop-thread.invariant in
    let e : Thread × Calls CallEvent = (c.in-Some._thread, c.in-Some.calls) in
    let rest : c.loop-thread._thread-iterator ≡ e ∷ c.next.new.self = search rules in (
      so_far.0 ++ e ∷ [],
      append_assoc so_far.0 (e ∷ []) c.next.new.self ∙ ap (λ (t : List _). so_far.0 ++ t) (sym rest) ∙ so_far.1,
      thread_more so_far.0 e c.in_ok-found.found c.loop-thread.rows c.take_over.new.self c.in_ok-found.ensures c.in_ok-take_over.ensures so_far.2,
    )

pub returns : goal.returns
returns c =
    let so_far = c.loop-thread.invariant in
    let rest : c.loop-thread._thread-iterator ≡ [] = search rules in
    subst (λ (done : List _). AreGatheredRows done c.loop-thread.rows)
    (sym (append-nil so_far.0) ∙ ap (λ (t : List _). so_far.0 ++ t) (sym rest) ∙ so_far.1) so_far.2
