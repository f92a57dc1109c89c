-- What is read of an event for the calls of its thread names that event.
use Rattle.std.proofs.Common.{◌≡◌, eqb, List, Option, Some, None, refl, sym, ap, ◌∙◌}
use Rattle.std.specs.Prelude.{◌&&◌, slice_get}
use Rattle.std.proofs.lemmas.Option.{cond_some}
use Rattle.event_core.specs.Events.{EventRead}
use Rattle.call_stacks.specs.Calls.{Bracketed, is_oneway_mark, is_refused, open_count, opener_by, opener_read, refused_send, stray_read, unmatched_closers}
use Rattle.call_stacks.specs.Matching.{is_closer, is_opener}
use Rattle.call_stacks.specs.Verdicts.{side_of}
use Rattle.call_stacks.specs.declared.findings.RefusedSend.{RefusedSend}
use Rattle.call_stacks.specs.declared.opener.Opener.{Opener}
use Rattle.audit_findings.specs.TextReads.{text_reads}

abbrev pub Reading : Type 0 → Type 0
Reading Y = List (Bracketed EventRead) → Bracketed EventRead → List (Bracketed EventRead) → Option Y

-- the refused send that an event reports
abbrev pub send_read : Reading (RefusedSend EventRead)
send_read before found later = refused_send found

opened_by : (event : EventRead) (answer : Option (Bracketed EventRead)) → (opener_by text_reads event answer).event ≡ event
opened_by event None = refl
opened_by event (Some answer) = refl

-- an opener, a stray and a refused send each name the event that they are read of
pub opener_event : (b l : List (Bracketed EventRead)) (found : Bracketed EventRead) (o : Opener EventRead) → opener_read text_reads b found l ≡ Some o
    → o.event ≡ found.event
opener_event b l found o is =
    let answer = slice_get (unmatched_closers l) 0 in
    ap (λ (o : Opener EventRead). o.event) (sym (cond_some (is_opener (side_of found.bracket)) (opener_by text_reads found.event answer) o is).1)
    ∙ opened_by found.event answer

pub stray_event : (b l : List (Bracketed EventRead)) (found : Bracketed EventRead) (e : EventRead) → stray_read b found l ≡ Some e → e ≡ found.event
stray_event b l found e is = sym (cond_some (is_closer (side_of found.bracket) && eqb (open_count b) 0) found.event e is).1

pub send_event : (b l : List (Bracketed EventRead)) (found : Bracketed EventRead) (s : RefusedSend EventRead) → send_read b found l ≡ Some s
    → s.event ≡ found.event
send_event b l found s is =
    ap (λ (s : RefusedSend EventRead). s.event)
    (sym (cond_some (is_refused found.bracket) (record { event = found.event; oneway = is_oneway_mark found.before }) s is).1)
