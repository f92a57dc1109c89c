-- The findings of the calls of all threads, by matching.
use Rattle.std.proofs.Common.{◌≡◌, Bool, true, false, cond, List, [], ◌∷◌, filter_map, fold, Option, Some, None, inl, inr, refl, sym, ap, subst, ◌∙◌}
use Rattle.std.specs.List.{cons_option}
use Rattle.std.proofs.lemmas.Option.{cond_some}
use Rattle.capture_frame.proofs.ProcessLaws.{same_thread_equiv}
use Rattle.capture_frame.specs.Process.{same_thread}
use Rattle.event_core.specs.Events.{EventRead, thread_of}
use Rattle.event_core.specs.declared.marks.Bracket.{Bracket}
use Rattle.event_core.specs.declared.marks.Bracket.TheVariants.{Refused}
use Rattle.call_stacks.proofs.Found.{bracketed-read, openers-listed, strays-listed}
use Rattle.call_stacks.specs.Calls.{Bracketed, as_bracketed, bracket_read, bracketed_of, bracketed_with, is_oneway_mark, is_refused, mark_after, opener_read, refused_send, stray_read}
use Rattle.call_stacks.specs.declared.findings.RefusedSend.{RefusedSend}
use Rattle.call_stacks.specs.declared.opener.Opener.{Opener}
use Rattle.summary_law.proofs.Members.{In, contained, get_in, in_get, in_list, listed}
use Rattle.summary_law.proofs.ReadingLaws.{read-plain, read-rises}
use Rattle.summary_law.specs.Ranked.{ListsInOrder}
use Rattle.summary_law.specs.Readings.{by_key, read_all, with_key}
use Rattle.audit_findings.specs.Calls.{call_sections, openers, refused_sends}
use Rattle.audit_findings.specs.MatchedCalls.{AreMatchedCalls, IsCallOf, IsRefusedOf, IsStrayOf, bracketed_beside}
use Rattle.audit_findings.specs.Places.{RiseInPlace}
use Rattle.audit_findings.specs.TextReads.{text_reads}
use Rattle.audit_findings.specs.Threads.{events_in_thread, in_threads}
use Rattle.audit_findings.proofs.CallEvents.{Reading, opener_event, send_event, send_read, stray_event}
use Rattle.audit_findings.proofs.Kept.{read_from}
use Rattle.audit_findings.proofs.KeyReadings.{own_read, read_of_own}
use Rattle.audit_findings.proofs.Rising.{rising_kept}

module _ (events : List EventRead) (rise : RiseInPlace events) where
  module _ {Y : Type 0} (read : Reading Y) (event : Y → EventRead)
      (names : (b l : List (Bracketed EventRead)) (found : Bracketed EventRead) (y : Y) → read b found l ≡ Some y → event y ≡ found.event) where
    named : (b : List EventRead) (e : EventRead) (l : List EventRead) (y : Y) → as_bracketed text_reads read b e l ≡ Some y → event y ≡ e
    named b e l y is =
        let mark = fold (mark_after text_reads) None b in
        names (bracketed_of text_reads b) (bracketed_with text_reads (bracket_read text_reads) (mark_after text_reads mark e) l)
        (record { event = e; before = mark; bracket = bracket_read text_reads mark e }) y is

    -- what is read of the bracketed events of the thread of the event that y names
    abbrev beside : Y → List Y
    beside y = read_all read (bracketed_beside events (event y))

    one_read : (y : Y) → beside y ≡ read_all (as_bracketed text_reads read) (events_in_thread (thread_of (event y)) events)
    one_read y = bracketed-read text_reads read [] (events_in_thread (thread_of (event y)) events)

    -- what is read of all threads is, in rising place, what is read of the thread of the event that it names
    pub threads_listed : (Is : Y → Type 0) → ((y : Y) → In y (beside y) → Is y) → ((y : Y) → Is y → In y (beside y))
        → ListsInOrder (λ y. (event y).place) Is (in_threads read events)
    threads_listed Is sound whole =
        listed (λ y. (event y).place) Is (in_threads read events)
        (read-rises (by_key same_thread thread_of (as_bracketed text_reads read)) (λ e. e.place) (λ y. (event y).place)
        (λ b e l y is.
        ap (λ (e : EventRead). e.place) (named (with_key same_thread thread_of (thread_of e) b) e (with_key same_thread thread_of (thread_of e) l) y is)) events rise)
        (λ y there.
        sound y (subst (In y) (sym (one_read y)) (read_of_own same_thread_equiv thread_of (as_bracketed text_reads read) event named events y there)))
        (λ y is.
        own_read same_thread_equiv thread_of (as_bracketed text_reads read) event named events y (subst (In y) (one_read y) (whole y is)))

  -- the places of the events of a thread rise
  own_rise : (e : EventRead) → RiseInPlace (events_in_thread (thread_of e) events)
  own_rise e = rising_kept (λ x. x.place) (λ x. same_thread (thread_of e) (thread_of x)) events rise

  -- ---- openers and strays

  abbrev own_events : EventRead → List EventRead
  own_events e = events_in_thread (thread_of e) events

  openers_matched : ListsInOrder (λ (o : Opener EventRead). o.event.place) (IsCallOf events) (openers events)
  openers_matched =
      threads_listed (opener_read text_reads) (λ o. o.event) opener_event (IsCallOf events)
      (λ o there. ((openers-listed text_reads (own_events o.event) (own_rise o.event)).exact o).0 (contained (beside (opener_read text_reads) (λ o. o.event) opener_event o) o there))
      (λ o is. in_list (beside (opener_read text_reads) (λ o. o.event) opener_event o) o
      (((openers-listed text_reads (own_events o.event) (own_rise o.event)).exact o).1 is))

  strays_matched : ListsInOrder (λ (e : EventRead). e.place) (IsStrayOf events) (in_threads stray_read events)
  strays_matched =
      threads_listed stray_read (λ e. e) stray_event (IsStrayOf events)
      (λ e there. ((strays-listed text_reads (own_events e) (own_rise e)).exact e).0 (contained (beside stray_read (λ e. e) stray_event e) e there))
      (λ e is. in_list (beside stray_read (λ e. e) stray_event e) e (((strays-listed text_reads (own_events e) (own_rise e)).exact e).1 is))

  -- ---- refused sends

  refused_only : (b : Bracket) → is_refused b ≡ true → b ≡ Refused
  refused_only Refused is = refl
  refused_only _ is = let no : ⊥ = cc in absurd no

  sends_read : (found : List (Bracketed EventRead)) → filter_map refused_send found ≡ read_all send_read found
  sends_read found = read-plain refused_send [] found

  send_at : (found : Bracketed EventRead) (s : RefusedSend EventRead) → refused_send found ≡ Some s
      → (found.bracket ≡ Refused) × (s.event ≡ found.event) × (s.oneway ≡ is_oneway_mark found.before)
  send_at found s is = by_test (is_refused found.bracket) refl is
    where
      by_test : (b : Bool) → is_refused found.bracket ≡ b
          → cond b (Some (record { event = found.event; oneway = is_oneway_mark found.before })) None ≡ Some s
          → (found.bracket ≡ Refused) × (s.event ≡ found.event) × (s.oneway ≡ is_oneway_mark found.before)
      by_test true passes is =
          let made : RefusedSend EventRead = record { event = found.event; oneway = is_oneway_mark found.before } in
          let same : s ≡ made = sym (cond_some true made s is).1 in
          (refused_only found.bracket passes, ap (λ (t : RefusedSend EventRead). t.event) same, ap (λ (t : RefusedSend EventRead). t.oneway) same)
      by_test false fails is = let no : ⊥ = cc in absurd no

  send_sound : (s : RefusedSend EventRead) → In s (beside send_read (λ s. s.event) send_event s) → IsRefusedOf events s
  send_sound s there =
      let found = bracketed_beside events s.event in
      let one = read_from refused_send found s (subst (In s) (sym (sends_read found)) there) in
      let at = in_get found one.0 one.1 in
      let tells = send_at one.0 s one.2 in
      record { position = at.0; there = one.0; is_at = at.1; refused = tells.0; event = tells.1; oneway = tells.2 }

  in_read : {X Y : Type 0} (read : X → Option Y) (xs : List X) (x : X) (y : Y) → In x xs → read x ≡ Some y → In y (filter_map read xs)
  in_read read [] x y here is = absurd here
  in_read read (z ∷ xs) x y (inl same) is = rw (ap read (sym same) ∙ is) (inl refl)
  in_read read (z ∷ xs) x y (inr there) is =
      let rest = in_read read xs x y there is in
      elim (read z) as (λ o. In y (cons_option o (filter_map read xs))) [ None ↦ rest | Some w ↦ inr rest ]

  send_whole : (s : RefusedSend EventRead) → IsRefusedOf events s → In s (beside send_read (λ s. s.event) send_event s)
  send_whole s is =
      let found = bracketed_beside events s.event in
      let made : RefusedSend EventRead = record { event = is.there.event; oneway = is_oneway_mark is.there.before } in
      let same : made ≡ s = λ i. record { event = sym is.event i; oneway = sym is.oneway i } in
      let gives : refused_send is.there ≡ Some s = ap (λ (b : Bracket). cond (is_refused b) (Some made) None) is.refused ∙ ap Some same in
      subst (In s) (sends_read found) (in_read refused_send found is.there s (get_in found is.position is.there is.is_at) gives)

  sends_matched : ListsInOrder (λ (s : RefusedSend EventRead). s.event.place) (IsRefusedOf events) (refused_sends events)
  sends_matched = threads_listed send_read (λ s. s.event) send_event (IsRefusedOf events) send_sound send_whole

  pub calls_matched : AreMatchedCalls events (call_sections events)
  calls_matched = record {
    openers = openers events;
    openers_are = openers_matched;
    calls = refl;
    served = refl;
    strays = strays_matched;
    sends = refused_sends events;
    sends_are = sends_matched;
    refused = refl;
  }
