-- The rows of sections have events of the frames, whose records are of the kinds that the section lists.
use Rattle.std.proofs.Common.{◌≡◌, ℕ, Bool, true, false, List, [], filter, Option, Some, None, refl, sym, ap, subst, ◌∙◌}
use Rattle.std.specs.Prelude.{◌&&◌, ◌||◌, All, Contains, IsTrue, map, not, slice_get}
use Rattle.std.specs.List.{fold, filter_map, last_or, list_any}
use Rattle.std.specs.Ordering.{eq_by_cmp, nat_cmp}
use Rattle.std.specs.Option.{option_map, option_map_or}
use Rattle.std.proofs.lemmas.List.Elements.{All-contains_itself, All-filter, All-map, All-weaker}
use Rattle.std.proofs.lemmas.Option.{cond_some}
use Rattle.binder_code.specs.declared.record_kind.Kind.{Kind}
use Rattle.binder_code.specs.declared.record_kind.Kind.TheVariants.{BcTransaction, BcTransactionSg, BrTransaction, BrTransactionSecCtx, BrReply, BcReply, BcReplySg, BcFreeBuffer, BcRequestDeathNotification, BcClearDeathNotification, BcDeadBinderDone, BrDeadBinder, BrClearDeathNotificationDone, BrDeadReply, BrFailedReply, BrFrozenReply}
use Rattle.capture_frame.specs.Envelope.{PlacedFrame}
use Rattle.capture_frame.specs.Process.{same_process, same_thread}
use Rattle.transaction_view.specs.Transaction.{has_transaction_data}
use Rattle.event_core.specs.Brackets.{bracket_of, error_reply}
use Rattle.event_core.specs.Buffers.{buffer_item, buffer_pending, delivery}
use Rattle.event_core.specs.Clears.{clear_item}
use Rattle.event_core.specs.Deaths.{death_item}
use Rattle.event_core.specs.Events.{EventRead, events_of_frames, process_of, thread_of}
use Rattle.event_core.specs.Requests.{request_item}
use Rattle.event_core.specs.declared.marks.Mark.{Mark}
use Rattle.event_core.specs.declared.marks.Mark.TheVariants.{Oneway, SentReply}
use Rattle.event_core.specs.declared.pending.KeyEvent.{KeyEvent}
use Rattle.event_core.specs.declared.pending.PendingChange.{PendingChange}
use Rattle.event_core.specs.declared.pending.PendingChange.TheVariants.{Open, Close}
use Rattle.event_core.specs.declared.request.RequestItem.{RequestItem}
use Rattle.call_stacks.specs.Calls.{Bracketed, as_bracketed, bracket_read, bracketed_of, bracketed_with, mark_after, opener_by, opener_read, stray_read, unmatched_closers, with_verdict}
use Rattle.call_stacks.specs.Matching.{is_opener}
use Rattle.call_stacks.specs.Verdicts.{lacks_reply, side_of}
use Rattle.call_stacks.specs.declared.findings.RefusedSend.{RefusedSend}
use Rattle.call_stacks.specs.declared.opener.Opener.{Opener}
use Rattle.object_view.specs.declared.bad_object.BadObject.{BadObject}
use Rattle.pending_ledger.specs.Pending.{changes_of, closes, is_close, is_unclosed_item, was_open, is_stray_item}
use Rattle.pending_ledger.specs.Requests.{is_standing}
use Rattle.process_ledgers.specs.Items.{buffer_pending_of, clear_item_of, death_item_of, request_item_of}
use Rattle.summary_law.proofs.GatherLaws.{all_in}
use Rattle.summary_law.proofs.Members.{In, contained, in_middle}
use Rattle.summary_law.proofs.ReadingLaws.{chosen-is, read-at}
use Rattle.summary_law.specs.Readings.{by_key, chosen, read_all, with_key}
use Rattle.audit_findings.specs.Buffers.{is_leaked, leaked, stray_frees}
use Rattle.audit_findings.specs.Calls.{openers, refused_sends, stray_closers}
use Rattle.audit_findings.specs.Flags.{flagged, has_unknown_flags}
use Rattle.audit_findings.specs.Objects.{objects_in, bad_objects, bad_of}
use Rattle.audit_findings.specs.Places.{EventTest, either, is_stray_close, is_unclosed, item_is, passing_events, open_and_stray}
use Rattle.audit_findings.specs.Requests.{is_standing_request, standing_requests}
use Rattle.audit_findings.specs.TextReads.{text_reads}
use Rattle.audit_findings.specs.Threads.{in_threads}
use Rattle.audit_findings.specs.declared.objects.BadRow.{BadRow}
use Rattle.audit_findings.proofs.CallEvents.{Reading, opener_event, send_event, send_read, stray_event}
use Rattle.audit_findings.proofs.Kept.{read_from}

-- one of these events, with a record of one of these kinds
abbrev pub IsListed : (Kind → Bool) → List EventRead → EventRead → Type 0
IsListed kinds events e = Contains events e × IsTrue (kinds e.kind)

abbrev any_kind : Kind → Bool
any_kind _ = true

-- what is read of events has them, if each item has the event that it is read of
read_there : {Y : Type 0} (kinds : Kind → Bool) (read : List EventRead → EventRead → List EventRead → Option Y) (owner : Y → EventRead)
    → ((b : List EventRead) (e : EventRead) (l : List EventRead) (y : Y) → read b e l ≡ Some y → (owner y ≡ e) × IsTrue (kinds e.kind)) → (events : List EventRead)
    → All (λ y. IsListed kinds events (owner y)) (read_all read events)
read_there kinds read owner own events =
    all_in (λ y. IsListed kinds events (owner y)) (read_all read events)
    (λ y here.
    let at = read-at read [] events y here in
    let is = own at.0 at.1 at.2 y at.4 in
    subst (IsListed kinds events) (sym is.0) (contained events at.1 (subst (In at.1) (sym at.3) (in_middle at.0 at.1 at.2)), is.1))

-- ---- events that pass a test

listed_there : (kinds : Kind → Bool) (test : EventTest)
    → ((b : List EventRead) (e : EventRead) (l : List EventRead) → test b e l ≡ true → IsTrue (kinds e.kind)) → (events : List EventRead)
    → All (IsListed kinds events) (passing_events test events)
listed_there kinds test each events =
    read_there kinds (by_key same_process process_of (chosen test)) (λ e. e)
    (λ b e l y is.
    let before = with_key same_process process_of (process_of e) b in
    let later = with_key same_process process_of (process_of e) l in
    (chosen-is test before e later y is, each before e later (cond_some (test before e later) e y is).0))
    events

-- if an event passes a test of its item, it has one, which passes
item_passes : {I : Type 0} (read : EventRead → Option I) (test : List I → I → List I → Bool) (b : List EventRead) (e : EventRead) (l : List EventRead)
    → item_is read test b e l ≡ true → (item : I) × (read e ≡ Some item) × (test (filter_map read b) item (filter_map read l) ≡ true)
item_passes {I} read test b e l =
    let of : I → Bool = λ item. test (filter_map read b) item (filter_map read l) in
    elim (read e) as (λ o. (read e ≡ o) → option_map_or of o false ≡ true → (item : I) × (read e ≡ Some item) × (of item ≡ true)) [
      | None ↦ λ is passes. let none : ⊥ = cc in absurd none
      | Some item ↦ λ is passes. (item, is, passes)
    ] refl

-- ---- opens and closes

-- an unclosed event is an open, and a stray close is a close
is_opened : (change : PendingChange) (rest : Bool) → (not (is_close change) && rest) ≡ true → change ≡ Open
is_opened Open rest is = refl
is_opened Close rest is = let none : ⊥ = cc in absurd none

is_closed_by : (change : PendingChange) (rest : Bool) → (is_close change && rest) ≡ true → change ≡ Close
is_closed_by Open rest is = let none : ⊥ = cc in absurd none
is_closed_by Close rest is = refl

unclosed_opens : (read : EventRead → Option (ℕ × KeyEvent)) (b : List EventRead) (e : EventRead) (l : List EventRead) → is_unclosed read b e l ≡ true
    → (item : ℕ × KeyEvent) × (read e ≡ Some item) × (item.1.change ≡ Open)
unclosed_opens read b e l passes =
    let found = item_passes read (is_unclosed_item (eq_by_cmp nat_cmp)) b e l passes in
    let rest = not (list_any (closes (eq_by_cmp nat_cmp) found.0.0) (filter_map read l)) in
    (found.0, found.1, is_opened found.0.1.change rest found.2)

stray_closes : (read : EventRead → Option (ℕ × KeyEvent)) (b : List EventRead) (e : EventRead) (l : List EventRead) → is_stray_close read b e l ≡ true
    → (item : ℕ × KeyEvent) × (read e ≡ Some item) × (item.1.change ≡ Close)
stray_closes read b e l passes =
    let found = item_passes read (is_stray_item (eq_by_cmp nat_cmp)) b e l passes in
    let rest = not (was_open (last_or None (changes_of (eq_by_cmp nat_cmp) found.0.0 (filter_map read b)))) in
    (found.0, found.1, is_closed_by found.0.1.change rest found.2)

-- ---- the kinds of each section

-- whether the kind is that of a free
abbrev pub is_free : Kind → Bool
is_free BcFreeBuffer = true
is_free _ = false

-- whether the kind is that of a request
abbrev pub is_request : Kind → Bool
is_request BcRequestDeathNotification = true
is_request _ = false

-- whether the kind is that of a death or of an acknowledgement
abbrev pub is_of_death : Kind → Bool
is_of_death BrDeadBinder = true
is_of_death BcDeadBinderDone = true
is_of_death _ = false

-- whether the kind is that of a clear or of a confirmation
abbrev pub is_of_clear : Kind → Bool
is_of_clear BcClearDeathNotification = true
is_of_clear BrClearDeathNotificationDone = true
is_of_clear _ = false

-- an open is no close
no_close : (made item : ℕ × KeyEvent) → Some made ≡ Some item → made.1.change ≡ Open → item.1.change ≡ Close → ⊥
no_close made item is opens shut =
    let same : made ≡ item = cc in
    let both : Open ≡ Close = sym opens ∙ ap (λ (i : ℕ × KeyEvent). i.1.change) same ∙ shut in
    cc

delivered : (place : ℕ) (kind : Kind) (payload : List ℕ) (item : ℕ × KeyEvent) → option_map buffer_pending (buffer_item place kind payload) ≡ Some item
    → item.1.change ≡ Open → has_transaction_data kind ≡ true
delivered place BrTransaction payload item is opens = refl
delivered place BrTransactionSecCtx payload item is opens = refl
delivered place BrReply payload item is opens = refl
delivered place BcFreeBuffer payload item is opens = absurd (no_close item _ (sym is) opens refl)
delivered place _ payload item is opens = let none : ⊥ = cc in absurd none

freed : (place : ℕ) (kind : Kind) (payload : List ℕ) (item : ℕ × KeyEvent) → option_map buffer_pending (buffer_item place kind payload) ≡ Some item
    → item.1.change ≡ Close → is_free kind ≡ true
freed place BcFreeBuffer payload item is shut = refl
freed place BrTransaction payload item is shut = absurd (no_close (buffer_pending (delivery place BrTransaction payload)) item is refl shut)
freed place BrTransactionSecCtx payload item is shut =
    absurd (no_close (buffer_pending (delivery place BrTransactionSecCtx payload)) item is refl shut)
freed place BrReply payload item is shut = absurd (no_close (buffer_pending (delivery place BrReply payload)) item is refl shut)
freed place _ payload item is shut = let none : ⊥ = cc in absurd none

of_death : (place : ℕ) (kind : Kind) (payload : List ℕ) (item : ℕ × KeyEvent) → death_item place kind payload ≡ Some item → is_of_death kind ≡ true
of_death place BrDeadBinder payload item is = refl
of_death place BcDeadBinderDone payload item is = refl
of_death place _ payload item is = let none : ⊥ = cc in absurd none

of_clear : (place : ℕ) (kind : Kind) (payload : List ℕ) (item : ℕ × KeyEvent) → clear_item place kind payload ≡ Some item → is_of_clear kind ≡ true
of_clear place BcClearDeathNotification payload item is = refl
of_clear place BrClearDeathNotificationDone payload item is = refl
of_clear place _ payload item is = let none : ⊥ = cc in absurd none

requested : (place : ℕ) (kind : Kind) (payload : List ℕ) (item : RequestItem) (b l : List RequestItem) → request_item place kind payload ≡ Some item
    → is_standing b item l ≡ true → is_request kind ≡ true
requested place BcRequestDeathNotification payload item b l is stands = refl
requested place BcClearDeathNotification payload item b l is stands = let none : ⊥ = cc in absurd none
requested place BrDeadBinder payload item b l is stands = let none : ⊥ = cc in absurd none
requested place _ payload item b l is stands = let none : ⊥ = cc in absurd none

pub leaked_there : (frames : List PlacedFrame) → All (IsListed has_transaction_data (events_of_frames frames)) (leaked (events_of_frames frames))
leaked_there frames =
    listed_there has_transaction_data is_leaked
    (λ b e l passes. let found = unclosed_opens buffer_pending_of b e l passes in delivered e.place e.kind e.payload found.0 found.1 found.2)
    (events_of_frames frames)

pub frees_there : (frames : List PlacedFrame) → All (IsListed is_free (events_of_frames frames)) (stray_frees (events_of_frames frames))
frees_there frames =
    listed_there is_free (is_stray_close buffer_pending_of)
    (λ b e l passes. let found = stray_closes buffer_pending_of b e l passes in freed e.place e.kind e.payload found.0 found.1 found.2)
    (events_of_frames frames)

pub requests_there : (frames : List PlacedFrame) → All (IsListed is_request (events_of_frames frames)) (standing_requests (events_of_frames frames))
requests_there frames =
    listed_there is_request is_standing_request
    (λ b e l passes. let found = item_passes request_item_of is_standing b e l passes in
    requested e.place e.kind e.payload found.0 (filter_map request_item_of b) (filter_map request_item_of l) found.1 found.2)
    (events_of_frames frames)

-- whichever of two tests an event of a section of opens and closes passes, it has an item
both_there : (read : EventRead → Option (ℕ × KeyEvent)) (kinds : Kind → Bool) → ((e : EventRead) (item : ℕ × KeyEvent) → read e ≡ Some item → kinds e.kind ≡ true)
    → (events : List EventRead) → All (IsListed kinds events) (open_and_stray read events).rows
both_there read kinds each events =
    let one = is_unclosed read in
    let other = is_stray_close read in
    listed_there kinds (either one other)
    (λ b e l.
    elim (one b e l) as (λ t. (one b e l ≡ t) → (t || other b e l) ≡ true → kinds e.kind ≡ true) [
      | true ↦ λ is passes. let found = unclosed_opens read b e l is in each e found.0 found.1
      | false ↦ λ is passes. let found = stray_closes read b e l passes in each e found.0 found.1
    ] refl)
    events

pub deaths_there : (frames : List PlacedFrame) → All (IsListed is_of_death (events_of_frames frames)) (open_and_stray death_item_of (events_of_frames frames)).rows
deaths_there frames = both_there death_item_of is_of_death (λ e item is. of_death e.place e.kind e.payload item is) (events_of_frames frames)

pub clears_there : (frames : List PlacedFrame) → All (IsListed is_of_clear (events_of_frames frames)) (open_and_stray clear_item_of (events_of_frames frames)).rows
clears_there frames = both_there clear_item_of is_of_clear (λ e item is. of_clear e.place e.kind e.payload item is) (events_of_frames frames)

-- ---- what is read of each thread

-- an event, bracketed by the mark before it
abbrev bracketed_by : Option Mark → EventRead → Bracketed EventRead
bracketed_by mark e = record { event = e; before = mark; bracket = bracket_read text_reads mark e }

threads_there : {Y : Type 0} (kinds : Kind → Bool) (read : Reading Y) (owner : Y → EventRead)
    → ((b l : List (Bracketed EventRead)) (mark : Option Mark) (e : EventRead) (y : Y) → read b (bracketed_by mark e) l ≡ Some y
    → (owner y ≡ e) × IsTrue (kinds e.kind)) → (events : List EventRead)
    → All (λ y. IsListed kinds events (owner y)) (in_threads read events)
threads_there kinds read owner own events =
    read_there kinds (by_key same_thread thread_of (as_bracketed text_reads read)) owner
    (λ b e l y is.
    let before = with_key same_thread thread_of (thread_of e) b in
    let mark = fold (mark_after text_reads) None before in
    own (bracketed_of text_reads before)
    (bracketed_with text_reads (bracket_read text_reads) (mark_after text_reads mark e) (with_key same_thread thread_of (thread_of e) l)) mark e y is)
    events

pub strays_there : (frames : List PlacedFrame) → All (IsListed (λ _. true) (events_of_frames frames)) (stray_closers (events_of_frames frames))
strays_there frames =
    threads_there any_kind stray_read (λ e. e) (λ b l mark e y is. (stray_event b l (bracketed_by mark e) y is, refl)) (events_of_frames frames)

pub refused_there : (frames : List PlacedFrame)
    → All (IsListed (λ _. true) (events_of_frames frames)) (map (λ (s : RefusedSend EventRead). s.event) (refused_sends (events_of_frames frames)))
refused_there frames =
    let events = events_of_frames frames in
    All-map (IsListed any_kind events) (λ (s : RefusedSend EventRead). s.event) (refused_sends events)
    (threads_there any_kind send_read (λ s. s.event) (λ b l mark e y is. (send_event b l (bracketed_by mark e) y is, refl)) events)

error_opens_none : (mark : Option Mark) → is_opener (side_of (error_reply mark)) ≡ false
error_opens_none (Some Oneway) = refl
error_opens_none (Some SentReply) = refl
error_opens_none _ = refl

opener_kind : (mark : Option Mark) (kind : Kind) (oneway : Bool) → is_opener (side_of (bracket_of mark kind oneway)) ≡ true → has_transaction_data kind ≡ true
opener_kind mark BcTransaction oneway is = refl
opener_kind mark BcTransactionSg oneway is = refl
opener_kind mark BrTransaction oneway is = refl
opener_kind mark BrTransactionSecCtx oneway is = refl
opener_kind mark BrReply oneway is = refl
opener_kind mark BcReply oneway is = refl
opener_kind mark BcReplySg oneway is = refl
opener_kind mark BrDeadReply oneway is = let never = error_opens_none mark in let none : ⊥ = cc in absurd none
opener_kind mark BrFailedReply oneway is = let never = error_opens_none mark in let none : ⊥ = cc in absurd none
opener_kind mark BrFrozenReply oneway is = let never = error_opens_none mark in let none : ⊥ = cc in absurd none
opener_kind mark _ oneway is = let none : ⊥ = cc in absurd none

-- the calls that lack their reply among those that pass a test
pub lacking_there : (test : Opener EventRead → Bool) (frames : List PlacedFrame)
    → All (λ o. IsListed has_transaction_data (events_of_frames frames) o.event) (with_verdict lacks_reply (filter test (openers (events_of_frames frames))))
lacking_there test frames =
    let events = events_of_frames frames in
    let There : Opener EventRead → Type 0 = λ o. IsListed has_transaction_data events o.event in
    let all = threads_there has_transaction_data (opener_read text_reads) (λ o. o.event)
    (λ b l mark e o is.
    let opened = opener_by text_reads e (slice_get (unmatched_closers l) 0) in
    let opens = (cond_some (is_opener (side_of (bracket_read text_reads mark e))) opened o is).0 in
    (opener_event b l (bracketed_by mark e) o is, opener_kind mark e.kind _ opens))
    events in
    All-filter (λ (o : Opener EventRead). lacks_reply o.verdict) There (filter test (openers events)) (All-filter test There (openers events) all)

-- ---- all events

pub flagged_there : (frames : List PlacedFrame) → All (IsListed (λ _. true) (events_of_frames frames)) (flagged (events_of_frames frames))
flagged_there frames =
    let events = events_of_frames frames in
    All-filter has_unknown_flags (IsListed any_kind events) events
    (All-weaker (Contains events) (IsListed any_kind events) (λ e there. (there, refl)) events (All-contains_itself events))

bad_owner : (e : EventRead) (bad : Option BadObject) (b : BadRow EventRead)
    → option_map (λ (x : BadObject). let made : BadRow EventRead = record { owner = e; bad = x } in made) bad ≡ Some b → b.owner ≡ e
bad_owner e None b is = let wrong : None ≡ Some b = is in cc
bad_owner e (Some x) b is = let made : BadRow EventRead = record { owner = e; bad = x } in let same : b ≡ made = cc in ap (λ (y : BadRow EventRead). y.owner) same

-- the owners of bad objects
pub owners_there : (frames : List PlacedFrame) → All (λ b. IsListed (λ _. true) (events_of_frames frames) b.owner) (bad_objects (events_of_frames frames))
owners_there frames =
    let events = events_of_frames frames in
    all_in (λ b. IsListed any_kind events b.owner) (bad_objects events)
    (λ b here.
    let e = read_from bad_of events b here in
    (contained events b.owner (subst (λ (x : EventRead). In x events) (sym (bad_owner e.0 (objects_in e.0).bad b e.2)) e.1), refl))
