-- What is read of the events of each thread, from the ledgers of the threads.
use Rattle.std.proofs.Common.{◌≡◌, ℕ, ◌+◌, ◌<◌, ◌≤◌, Bool, true, false, cond, eqb, not, List, [], ◌∷◌, ◌++◌, length, map, filter, All, Option, Some, None, inl, inr, refl, sym, ap, ap₂, subst, ◌∙◌, ⊎_elim, arith}
use Rattle.std.specs.Prelude.{◌&&◌, count_by, option_and_then, slice_get}
use Rattle.std.specs.Option.{is_some}
use Rattle.std.specs.List.{AllZip, IsDistinct, cons_option, flat_map, fold, sum, sum_by}
use Rattle.std.specs.List.Sorted.{IsNonDecreasingBy, IsPermutation}
use Rattle.std.specs.Map.{keys_of}
use Rattle.std.proofs.lemmas.Bool.{cases_Bool}
use Rattle.std.proofs.lemmas.List.{length-map}
use Rattle.std.proofs.lemmas.List.Concat.{flat_map-cons}
use Rattle.std.proofs.lemmas.List.Elements.{All-head, All-tail, All-weaker}
use Rattle.std.proofs.lemmas.List.Sorted.{sum_by-IsPermutation}
use Rattle.std.proofs.lemmas.List.Folds.{flat_map-map}
use Rattle.std.proofs.lemmas.List.Sums.{count_by-le-length, length-filter, sum-map, sum_by-append, sum_by-cons}
use Rattle.std.proofs.lemmas.Simd.{map-map}
use Rattle.std.proofs.lemmas.Option.{cond_some, option_and_then_some}
use Rattle.capture_frame.proofs.ProcessLaws.{same_thread_equiv}
use Rattle.capture_frame.specs.Process.{same_thread}
use Rattle.capture_frame.specs.declared.process.Thread.{Thread}
use Rattle.event_core.specs.Brackets.{mark_of}
use Rattle.event_core.specs.Events.{EventRead, thread_of}
use Rattle.event_core.specs.declared.marks.Bracket.{Bracket}
use Rattle.event_core.specs.declared.marks.Bracket.TheVariants.{Call, Served, Reply, Sent, Error, Neither}
use Rattle.event_core.specs.declared.marks.Mark.{Mark}
use Rattle.call_stacks.proofs.Found.{bracketed-read}
use Rattle.call_stacks.proofs.MarkLaws.{no_mark}
use Rattle.call_stacks.proofs.Retold.{ReadAlike, retold, told_opener, told_send}
use Rattle.call_stacks.proofs.Sums.{marked}
use Rattle.call_stacks.proofs.Unmarked.{with_unmarked}
use Rattle.call_stacks.specs.Calls.{AreFindings, Bracketed, CallsSum, GivesFindings, as_bracketed, bracket_read, bracketed_with, event_place, event_reads, how_many, is_oneway_mark, is_refused, bracketed_of, mark_after, open_count, opener_by, opener_read, openers_of, refused_of, refused_send, stray_read, strays_in, unmatched_closers, with_verdict}
use Rattle.call_stacks.specs.Matching.{is_closer, is_opener}
use Rattle.call_stacks.specs.Verdicts.{is_answered, is_replied, lacks_reply, side_of, verdict_of}
use Rattle.call_stacks.specs.declared.call_record.CallEvent.{CallEvent}
use Rattle.call_stacks.specs.declared.calls.Calls.{Calls}
use Rattle.call_stacks.specs.declared.findings.CallFindings.{CallFindings}
use Rattle.call_stacks.specs.declared.opener.Opener.{Opener}
use Rattle.call_stacks.specs.declared.verdict.Verdict.{Verdict}
use Rattle.summary_law.proofs.GatherLaws.{HasKeyOrNothing, all_in, gathered_sorted, key_among, read-gathered}
use Rattle.summary_law.proofs.InOrderLaws.{each_sums, entries_distinct, none_else}
use Rattle.summary_law.proofs.Members.{In, map-in}
use Rattle.summary_law.proofs.ReadingLaws.{read-at, read-plain, read-rises}
use Rattle.summary_law.specs.ByKey.{items_of}
use Rattle.summary_law.specs.Fits.{IsPlaced}
use Rattle.summary_law.specs.Readings.{by_key, read_all, read_each, with_key}
use Rattle.audit_findings.specs.Calls.{is_call_bracket, is_made, is_served, openers}
use Rattle.audit_findings.specs.Kept.{call_at_place}
use Rattle.audit_findings.specs.Places.{RiseInPlace}
use Rattle.audit_findings.specs.TextReads.{text_reads}
use Rattle.audit_findings.specs.ThreadLedger.{SumsThreads, fed_call, fed_calls, leaves_mark, text_call}
use Rattle.audit_findings.specs.ThreadRows.{AreGatheredRows, AreSortedRows, IsCountIfSmall, KeepRows, kept_call, kept_send, made_in, makes, send_at_place, sends_in, served_in, strays_of}
use Rattle.audit_findings.specs.Threads.{events_in_thread, in_threads}
use Rattle.audit_findings.specs.declared.thread_rows.ThreadRows.{ThreadRows}
use Rattle.audit_findings.proofs.CallEvents.{Reading, opener_event, send_event, send_read, stray_event}
use Rattle.summary_law.proofs.FilterLaws.{filter-map, filter_swap}
use Rattle.audit_findings.proofs.Kept.{kept_count, kept_in}
use Rattle.capture_frame.proofs.Pairs.{pairs_map}
use Rattle.audit_findings.proofs.Rising.{rising_kept}

abbrev Entry : Type 0
Entry = Thread × Calls CallEvent

abbrev place_of_event : EventRead → ℕ
place_of_event e = e.place

-- ---- readings of bracketed events

-- nothing is read of an event whose bracket is `Neither`
abbrev IsQuiet : {Y : Type 0} → Reading Y → Type 0
IsQuiet read = (b l : List (Bracketed EventRead)) (found : Bracketed EventRead) → found.bracket ≡ Neither → read b found l ≡ None

-- what is read of an event is at the event's place
abbrev KeepsEvent : {Y : Type 0} → Reading Y → (Y → ℕ) → Type 0
KeepsEvent {Y} read rank = (b l : List (Bracketed EventRead)) (found : Bracketed EventRead) (y : Y) → read b found l ≡ Some y → rank y ≡ found.event.place

-- what is read, if it passes a test
abbrev if_passes : {Y : Type 0} → (Y → Bool) → Y → Option Y
if_passes test y = cond (test y) (Some y) None

abbrev kept : {X Y : Type 0} → (Y → Bool) → (List X → X → List X → Option Y) → List X → X → List X → Option Y
kept test read b x l = option_and_then (if_passes test) (read b x l)

read-kept : {X Y : Type 0} (test : Y → Bool) (read : List X → X → List X → Option Y) (before xs : List X)
    → filter test (read_each read before xs) ≡ read_each (kept test read) before xs
read-kept test read before [] = refl
read-kept {X} {Y} test read before (x ∷ later) =
    let next = before ++ x ∷ [] in
    let rest = read-kept test read next later in
    elim (read before x later) as (λ o. filter test (cons_option o (read_each read next later))
    ≡ cons_option (option_and_then (if_passes test) o) (read_each (kept test read) next later)) [
      | None ↦ rest
      | Some y ↦ elim (test y) as (λ b. cond b (y ∷ filter test (read_each read next later)) (filter test (read_each read next later))
          ≡ cons_option (cond b (Some y) None) (read_each (kept test read) next later)) [
            | true ↦ ap (λ (t : List Y). y ∷ t) rest
            | false ↦ rest
          ]
    ]

read-short : {X Y : Type 0} (read : List X → X → List X → Option Y) (before xs : List X) → length (read_each read before xs) ≤ length xs
read-short read before [] = omega arith
read-short read before (x ∷ later) =
    let next = before ++ x ∷ [] in
    let rest = read-short read next later in
    elim (read before x later) as (λ o. length (cons_option o (read_each read next later)) ≤ length (x ∷ later)) [ None ↦ omega arith | Some y ↦ omega arith ]

kept_quiet : {Y : Type 0} (test : Y → Bool) (read : Reading Y) → IsQuiet read → IsQuiet (kept test read)
kept_quiet test read quiet b l found none = ap (option_and_then (if_passes test)) (quiet b l found none)

kept_keeps : {Y : Type 0} (test : Y → Bool) (read : Reading Y) (rank : Y → ℕ) → KeepsEvent read rank → KeepsEvent (kept test read) rank
kept_keeps {Y} test read rank keeps before later found y is =
    option_and_then_some (if_passes test) (read before found later) y is
    (λ z there passes. subst (λ (w : Y). rank w ≡ found.event.place) (cond_some (test z) z y passes).1 (keeps before later found z there))

-- ---- the events of each thread

-- what is fed under a thread are its events that leave a mark
calls_fed : (key : Thread) (events : List EventRead)
    → items_of same_thread key (fed_calls events) ≡ filter (marked event_reads) (map text_call (events_in_thread key events))
calls_fed key [] = refl
calls_fed key (e ∷ events) =
    let rest = calls_fed key events in
    let fed = items_of same_thread key (fed_calls events) in
    let own = filter (marked event_reads) (map text_call (events_in_thread key events)) in
    elim (leaves_mark e) as (λ m. (leaves_mark e ≡ m) → items_of same_thread key (map fed_call (cond m (e ∷ filter leaves_mark events) (filter leaves_mark events)))
    ≡ filter (marked event_reads) (map text_call (cond (same_thread key (thread_of e)) (e ∷ events_in_thread key events) (events_in_thread key events)))) [
      | true ↦ λ is.
          elim (same_thread key (thread_of e)) as (λ b. cons_option (cond b (Some (text_call e)) None) fed
          ≡ filter (marked event_reads) (map text_call (cond b (e ∷ events_in_thread key events) (events_in_thread key events)))) [
            | true ↦ ap (λ (l : List CallEvent). text_call e ∷ l) rest ∙ sym (ap (λ (b : Bool). cond b (text_call e ∷ own) own) is)
            | false ↦ rest
          ]
      | false ↦ λ is.
          elim (same_thread key (thread_of e)) as (λ b. fed ≡ filter (marked event_reads) (map text_call (cond b (e ∷ events_in_thread key events) (events_in_thread key events)))) [
            | true ↦ rest ∙ sym (ap (λ (b : Bool). cond b (text_call e ∷ own) own) is)
            | false ↦ rest
          ]
    ] refl

-- if all events are placed, so are those of a thread, and what is kept of them for its calls
placed_texts : (key : Thread) (events : List EventRead) → IsPlaced place_of_event events → IsPlaced event_place (map text_call (events_in_thread key events))
placed_texts key events placed =
    let own = events_in_thread key events in
    let own_thread = λ (e : EventRead). same_thread key (thread_of e) in
    let short = placed.0 in (
      omega (arith, length-filter own_thread events, count_by-le-length own_thread events, length-map own text_call, short),
      pairs_map (λ (a b : CallEvent). a.place < b.place) text_call own (rising_kept place_of_event own_thread events placed.1),
    )

-- both forms of an event read the same
texts_alike : ReadAlike text_reads event_reads text_call
texts_alike = record { place = λ e. refl; kind = λ e. refl; oneway = λ e. refl }

-- ---- what is found of all threads

unmarked : (e : EventRead) (before : Option Mark) → leaves_mark e ≡ false → bracket_read text_reads before e ≡ Neither
unmarked e before is =
    no_mark before e.kind (text_reads.oneway e)
    (elim (mark_of e.kind (text_reads.oneway e)) as (λ (o : Option Mark). is_some o ≡ false → o ≡ None) [
      | None ↦ λ is. refl
      | Some mark ↦ λ is. let no : ⊥ = cc in absurd no
    ] is)

module _ (entries : List Entry) (events : List EventRead) (sums : SumsThreads entries events) where
  abbrev keys : List Thread
  keys = keys_of entries

  distinct : IsDistinct same_thread keys
  distinct = entries_distinct same_thread_equiv (CallsSum event_reads false) entries (fed_calls events) sums.sums

  module _ {Y : Type 0} (read : Reading Y) (quiet : IsQuiet read) where
    -- each event has an entry for its thread, or nothing is read of it
    among : All (HasKeyOrNothing same_thread_equiv thread_of (as_bracketed text_reads read) keys) events
    among =
        all_in (HasKeyOrNothing same_thread_equiv thread_of (as_bracketed text_reads read) keys) events
        (λ e there.
        ⊎_elim
        (λ (marks : leaves_mark e ≡ true).
        inl (key_among same_thread_equiv keys (fed_calls events)
        (none_else same_thread_equiv (CallsSum event_reads false) entries (fed_calls events) sums.sums) (fed_call e)
        (map-in fed_call (filter leaves_mark events) e (kept_in leaves_mark events e there marks))))
        (λ (plain : leaves_mark e ≡ false).
        inr (λ before later.
        let mark = fold (mark_after text_reads) None before in
        quiet (bracketed_of text_reads before) (bracketed_with text_reads (bracket_read text_reads) (mark_after text_reads mark e) later)
        (record { event = e; before = mark; bracket = bracket_read text_reads mark e }) (unmarked e mark plain)))
        (cases_Bool (leaves_mark e)))

    -- what is read of a thread
    abbrev own_read : Thread → List Y
    own_read key = read_all (as_bracketed text_reads read) (events_in_thread key events)

    gathered : IsPermutation (flat_map own_read keys) (in_threads read events)
    gathered = read-gathered same_thread_equiv thread_of (as_bracketed text_reads read) keys distinct [] events among

    -- rows of what is read of each thread, sorted, are those of what is read of all
    thread_sorted : {R : Type 0} (row : Y → R) (rank : R → ℕ) → KeepsEvent read (λ y. rank (row y)) → RiseInPlace events → (old new : List R)
        → old ≡ flat_map (λ key. map row (own_read key)) keys → IsPermutation old new → IsNonDecreasingBy rank new → new ≡ map row (in_threads read events)
    thread_sorted {R} row rank keeps rise old new are moved sorted =
        gathered_sorted same_thread_equiv thread_of (as_bracketed text_reads read) row rank keys distinct events among
        (read-rises (by_key same_thread thread_of (as_bracketed text_reads read)) place_of_event (λ y. rank (row y))
        (λ b e l y is.
        let before = with_key same_thread thread_of (thread_of e) b in
        let later = with_key same_thread thread_of (thread_of e) l in
        let mark = fold (mark_after text_reads) None before in
        keeps (bracketed_of text_reads before) (bracketed_with text_reads (bracket_read text_reads) (mark_after text_reads mark e) later)
        (record { event = e; before = mark; bracket = bracket_read text_reads mark e }) y is) events rise)
        new (subst (λ (t : List R). IsPermutation t new) are moved) sorted

  -- ---- what the ledgers found

  abbrev Founds : List (CallFindings CallEvent) → Type 0
  Founds founds = AllZip (λ (e : Entry) found. GivesFindings event_reads false e.1 found) entries founds

  abbrev SumsOwn : Entry → Type 0
  SumsOwn e = CallsSum event_reads false e.1 (items_of same_thread e.0 (fed_calls events))

  -- what the ledger of a thread found is found of its events
  found_own : (e : Entry) (found : CallFindings CallEvent) → SumsOwn e → GivesFindings event_reads false e.1 found
      → AreFindings event_reads false (map text_call (events_in_thread e.0 events)) found
  found_own e found own gives =
      let texts = map text_call (events_in_thread e.0 events) in
      gives texts
      (with_unmarked event_reads false e.1 texts (placed_texts e.0 events sums.placed) (subst (CallsSum event_reads false e.1) (calls_fed e.0 events) own))

  abbrev IsFound : Thread → CallFindings CallEvent → Type 0
  IsFound key found = AreFindings event_reads false (map text_call (events_in_thread key events)) found

  each_own : All SumsOwn entries
  each_own =
      All-weaker (λ (e : Entry). (items_of same_thread e.0 (fed_calls events) ≡ [] → ⊥) × SumsOwn e) SumsOwn (λ e both. both.1) entries
      (each_sums same_thread_equiv (CallsSum event_reads false) entries (fed_calls events) sums.sums)

  -- what is made of each thread's findings is made of its events
  all_told : {R : Type 0} (found_as : CallFindings CallEvent → R) (own : Thread → R)
      → ((key : Thread) (found : CallFindings CallEvent) → IsFound key found → found_as found ≡ own key)
      → (some : List Entry) → All SumsOwn some → (founds : List (CallFindings CallEvent))
      → AllZip (λ (e : Entry) found. GivesFindings event_reads false e.1 found) some founds → map found_as founds ≡ map own (keys_of some)
  all_told found_as own tells [] all [] zip = refl
  all_told found_as own tells [] all (f ∷ founds) zip = absurd zip
  all_told found_as own tells (e ∷ some) all [] zip = absurd zip
  all_told {R} found_as own tells (e ∷ some) all (f ∷ founds) zip =
      ap₂ (λ (a : R) (b : List R). a ∷ b) (tells e.0 f (found_own e f (All-head SumsOwn e some all) zip.0))
      (all_told found_as own tells some (All-tail SumsOwn e some all) founds zip.1)

-- ---- the readings of calls

opener_quiet : IsQuiet (opener_read text_reads)
opener_quiet b l found none =
    ap (λ (bracket : Bracket). cond (is_opener (side_of bracket)) (Some (opener_by text_reads found.event (slice_get (unmatched_closers l) 0))) None) none

stray_quiet : IsQuiet stray_read
stray_quiet b l found none =
    ap (λ (bracket : Bracket). cond (is_closer (side_of bracket) && eqb (open_count b) 0) (Some found.event) None) none

send_quiet : IsQuiet send_read
send_quiet b l found none =
    ap (λ (bracket : Bracket). cond (is_refused bracket) (Some (record { event = found.event; oneway = is_oneway_mark found.before })) None) none

opener_keeps : KeepsEvent (opener_read text_reads) (λ o. o.event.place)
opener_keeps b l found o is = ap place_of_event (opener_event b l found o is)

stray_keeps : KeepsEvent stray_read place_of_event
stray_keeps b l found e is = ap place_of_event (stray_event b l found e is)

send_keeps : KeepsEvent send_read (λ s. s.event.place)
send_keeps b l found s is = ap place_of_event (send_event b l found s is)

-- how many there are in all lists together
sum_flat : {K X : Type 0} (test : X → Bool) (lists : K → List X) (keys : List K) → sum_by (λ k. count_by test (lists k)) keys ≡ count_by test (flat_map lists keys)
sum_flat test lists [] = refl
sum_flat {K} {X} test lists (k ∷ keys) =
    let one : X → ℕ = λ x. cond (test x) 1 0 in
    sum_by-cons (λ (k : K). count_by test (lists k)) k keys ∙ ap (λ (n : ℕ). count_by test (lists k) + n) (sum_flat test lists keys)
    ∙ sym (sum_by-append one (lists k) (flat_map lists keys)) ∙ ap (count_by test) (sym (flat_map-cons lists k keys))

-- ---- the lists of a thread

-- the openers of a thread, as they are read of its events
openers_read : (own : List EventRead) → openers_of text_reads own ≡ read_all (as_bracketed text_reads (opener_read text_reads)) own
openers_read own = bracketed-read text_reads (opener_read text_reads) [] own

-- the openers of a thread that lack their reply and pass a test
abbrev lacking : (Opener EventRead → Bool) → Reading (Opener EventRead)
lacking test = kept (λ o. lacks_reply o.verdict) (kept test (opener_read text_reads))

lacking_read : (test : Opener EventRead → Bool) (own : List EventRead)
    → filter test (with_verdict lacks_reply (openers_of text_reads own)) ≡ read_all (as_bracketed text_reads (lacking test)) own
lacking_read test own =
    let read = as_bracketed text_reads (opener_read text_reads) in
    filter_swap test (λ (o : Opener EventRead). lacks_reply o.verdict) (openers_of text_reads own)
    ∙ ap (λ (os : List (Opener EventRead)). with_verdict lacks_reply (filter test os)) (openers_read own)
    ∙ ap (with_verdict lacks_reply) (read-kept test read [] own)
    ∙ read-kept (λ (o : Opener EventRead). lacks_reply o.verdict) (kept test read) [] own

module _ (events : List EventRead) (key : Thread) (found : CallFindings CallEvent)
    (are : AreFindings event_reads false (map text_call (events_in_thread key events)) found) where
  abbrev own_events : List EventRead
  own_events = events_in_thread key events

  -- the kept calls that pass a test, if the test reads the same in both forms
  calls_told : (test : Opener CallEvent → Bool) (like : Opener EventRead → Bool) → ((o : Opener EventRead) → test (told_opener text_call o) ≡ like o)
      → map kept_call (filter test found.openers.items) ≡ map call_at_place (read_all (as_bracketed text_reads (lacking like)) own_events)
  calls_told test like same =
      let told = told_opener text_call in
      let lack = with_verdict lacks_reply (openers_of text_reads own_events) in
      ap (λ (os : List (Opener CallEvent)). map kept_call (filter test os)) (retold text_reads event_reads text_call texts_alike own_events false found are).kept
      ∙ ap (map kept_call) (filter-map told test lack) ∙ map-map kept_call told (filter (λ o. test (told o)) lack)
      ∙ ap (λ (t : Opener EventRead → Bool). map call_at_place (filter t lack)) (λ i o. same o i)
      ∙ ap (map call_at_place) (lacking_read like own_events)

  made_told : made_in found ≡ map call_at_place (read_all (as_bracketed text_reads (lacking is_made)) own_events)
  made_told = calls_told makes is_made (λ o. refl)

  served_told : served_in found ≡ map call_at_place (read_all (as_bracketed text_reads (lacking is_served)) own_events)
  served_told = calls_told (λ o. not (makes o)) is_served (λ o. refl)

  strays_told : strays_of found ≡ map place_of_event (read_all (as_bracketed text_reads stray_read) own_events)
  strays_told =
      ap (map event_place) (retold text_reads event_reads text_call texts_alike own_events false found are).strays
      ∙ map-map event_place text_call (strays_in (bracketed_of text_reads own_events))
      ∙ ap (map place_of_event) (bracketed-read text_reads stray_read [] own_events)

  sends_told : sends_in found ≡ map send_at_place (read_all (as_bracketed text_reads send_read) own_events)
  sends_told =
      let bracketed = bracketed_of text_reads own_events in
      ap (map kept_send) (retold text_reads event_reads text_call texts_alike own_events false found are).refused
      ∙ map-map kept_send (told_send text_call) (refused_of bracketed)
      ∙ ap (map send_at_place) (read-plain refused_send [] bracketed ∙ bracketed-read text_reads send_read [] own_events)

  answered_told : found.answered ≡ how_many is_answered (read_all (as_bracketed text_reads (opener_read text_reads)) own_events)
  answered_told =
      (retold text_reads event_reads text_call texts_alike own_events false found are).answered ∙ ap (how_many is_answered) (openers_read own_events)

  replied_told : found.replied ≡ how_many is_replied (read_all (as_bracketed text_reads (opener_read text_reads)) own_events)
  replied_told =
      (retold text_reads event_reads text_call texts_alike own_events false found are).replied ∙ ap (how_many is_replied) (openers_read own_events)

-- ---- calls that have their reply

-- a verdict of a reply says whether the thread makes the call or serves it
reply_tells : (call answer : Bracket) → (is_answered (verdict_of call answer) ≡ true → call ≡ Call) × (is_replied (verdict_of call answer) ≡ true → call ≡ Served)
reply_tells Call Reply = (λ is. refl, λ is. let no : ⊥ = cc in absurd no)
reply_tells Call Error = (λ is. refl, λ is. let no : ⊥ = cc in absurd no)
reply_tells Call _ = (λ is. refl, λ is. let no : ⊥ = cc in absurd no)
reply_tells Served Sent = (λ is. let no : ⊥ = cc in absurd no, λ is. refl)
reply_tells Served _ = (λ is. let no : ⊥ = cc in absurd no, λ is. refl)
reply_tells _ _ = (λ is. let no : ⊥ = cc in absurd no, λ is. let no : ⊥ = cc in absurd no)

-- what holds of every call that an event opens, whatever answers it, holds of all openers
pub openers_are : (P : Opener EventRead → Type 0) → ((event : EventRead) (answer : Option (Bracketed EventRead)) → P (opener_by text_reads event answer))
    → (events : List EventRead) (o : Opener EventRead) → In o (openers events) → P o
openers_are P each events o there =
    let at = read-at (by_key same_thread thread_of (as_bracketed text_reads (opener_read text_reads))) [] events o there in
    let before = with_key same_thread thread_of (thread_of at.1) at.0 in
    let later = with_key same_thread thread_of (thread_of at.1) at.2 in
    let mark = fold (mark_after text_reads) None before in
    let answer = slice_get (unmatched_closers (bracketed_with text_reads (bracket_read text_reads) (mark_after text_reads mark at.1) later)) 0 in
    subst P (cond_some (is_opener (side_of (bracket_read text_reads mark at.1))) (opener_by text_reads at.1 answer) o at.4).1 (each at.1 answer)

-- there are no more openers than events
pub openers_short : (events : List EventRead) → length (openers events) ≤ length events
openers_short events = read-short (by_key same_thread thread_of (as_bracketed text_reads (opener_read text_reads))) [] events

-- an answered call is made, and one that is replied to is served
abbrev Tells : Opener EventRead → Type 0
Tells o = (is_answered o.verdict ≡ true → is_made o ≡ true) × (is_replied o.verdict ≡ true → is_served o ≡ true)

opener_tells : (event : EventRead) (answer : Option (Bracketed EventRead)) → Tells (opener_by text_reads event answer)
opener_tells event None = (λ is. let no : ⊥ = cc in absurd no, λ is. let no : ⊥ = cc in absurd no)
opener_tells event (Some answer) =
    let call = bracket_read text_reads None event in
    let tells = reply_tells call (bracket_read text_reads None answer.event) in
    (λ is. ap is_call_bracket (tells.0 is), λ is. ap (λ (b : Bracket). not (is_call_bracket b)) (tells.1 is))

all_tell : (events : List EventRead) (o : Opener EventRead) → In o (openers events) → Tells o
all_tell events o there = openers_are Tells opener_tells events o there

-- ---- the rows of all threads

-- if the number is the count over all threads wherever that is small, it is the count over all events, which are few
count_kept : (entries : List Entry) (events : List EventRead) (sums : SumsThreads entries events) (founds : List (CallFindings CallEvent))
    → Founds entries events sums founds → (test : Verdict → Bool) (count : CallFindings CallEvent → ℕ)
    → ((key : Thread) (found : CallFindings CallEvent) → IsFound entries events sums key found
    → count found ≡ how_many test (read_all (as_bracketed text_reads (opener_read text_reads)) (events_in_thread key events)))
    → (of : Opener EventRead → Bool) → ((o : Opener EventRead) → In o (openers events) → test o.verdict ≡ true → of o ≡ true)
    → (number : ℕ) → IsCountIfSmall number (sum_by count founds) → number ≡ how_many test (filter of (openers events))
count_kept entries events sums founds zip test count tells of passes number small =
    let read = opener_read text_reads in
    let own : Thread → List (Opener EventRead) = own_read entries events sums read opener_quiet in
    let told = sym (sum-map count founds)
    ∙ ap sum (all_told entries events sums count (λ key. how_many test (own key)) tells entries (each_own entries events sums) founds zip)
    ∙ sum-map (λ key. how_many test (own key)) (keys_of entries) in
    let all = sum_flat (λ (o : Opener EventRead). test o.verdict) own (keys_of entries) in
    let moved = sum_by-IsPermutation (λ (o : Opener EventRead). cond (test o.verdict) 1 0) (flat_map own (keys_of entries)) (openers events)
    (gathered entries events sums read opener_quiet) in
    let few = count_by-le-length (λ (o : Opener EventRead). test o.verdict) (openers events) in
    let short = openers_short events in
    let most = sums.placed.0 in
    let whole : sum_by count founds ≡ how_many test (openers events) = told ∙ all ∙ sym moved in
    small (omega (arith, few, short, most, whole)) ∙ whole ∙ sym (kept_count (λ (o : Opener EventRead). test o.verdict) of (openers events) passes)

module _ (entries : List Entry) (events : List EventRead) (sums : SumsThreads entries events) (rise : RiseInPlace events) (old new : ThreadRows)
    (gathered_rows : AreGatheredRows entries old) (rows : AreSortedRows old new) where
  -- the rows of a sorted list, from a reading of each thread
  list_kept : {Y R : Type 0} (read : Reading Y) → IsQuiet read → (row : Y → R) (rank : R → ℕ) → KeepsEvent read (λ y. rank (row y))
      → (lists : CallFindings CallEvent → List R)
      → ((key : Thread) (found : CallFindings CallEvent) → IsFound entries events sums key found
      → lists found ≡ map row (read_all (as_bracketed text_reads read) (events_in_thread key events)))
      → (before after : List R) → before ≡ flat_map lists gathered_rows.founds → IsPermutation before after → IsNonDecreasingBy rank after
      → after ≡ map row (in_threads read events)
  list_kept {Y} {R} read quiet row rank keeps lists tells before after are moved sorted =
      let own : Thread → List R = λ key. map row (read_all (as_bracketed text_reads read) (events_in_thread key events)) in
      let one = λ (list : List R). list in
      thread_sorted entries events sums read quiet row rank keeps rise before after
      (are ∙ sym (flat_map-map one lists gathered_rows.founds)
      ∙ ap (flat_map one) (all_told entries events sums lists own tells entries (each_own entries events sums) gathered_rows.founds gathered_rows.are)
      ∙ flat_map-map one own (keys_of entries))
      moved sorted

  lacking_kept : (of : Opener EventRead → Bool) (lists : CallFindings CallEvent → List (Opener ℕ))
      → ((key : Thread) (found : CallFindings CallEvent) → IsFound entries events sums key found
      → lists found ≡ map call_at_place (read_all (as_bracketed text_reads (lacking of)) (events_in_thread key events)))
      → (before after : List (Opener ℕ)) → before ≡ flat_map lists gathered_rows.founds → IsPermutation before after → IsNonDecreasingBy (λ o. o.event) after
      → after ≡ map call_at_place (with_verdict lacks_reply (filter of (openers events)))
  lacking_kept of lists tells before after are moved sorted =
      let read = by_key same_thread thread_of (as_bracketed text_reads (opener_read text_reads)) in
      list_kept (lacking of) (kept_quiet (λ o. lacks_reply o.verdict) (kept of (opener_read text_reads)) (kept_quiet of (opener_read text_reads) opener_quiet))
      call_at_place (λ o. o.event)
      (kept_keeps (λ o. lacks_reply o.verdict) (kept of (opener_read text_reads)) (λ o. o.event.place)
      (kept_keeps of (opener_read text_reads) (λ o. o.event.place) opener_keeps))
      lists tells before after are moved sorted
      ∙ ap (map call_at_place)
      (sym (read-kept (λ (o : Opener EventRead). lacks_reply o.verdict) (kept of read) [] events)
      ∙ ap (with_verdict lacks_reply) (sym (read-kept of read [] events)))

  -- the rows of all threads, sorted, keep what is found of all
  pub rows_kept : KeepRows new events
  rows_kept = record {
    made = lacking_kept is_made made_in (made_told events) old.made.items new.made.items gathered_rows.made_are rows.made rows.made_rise;
    served = lacking_kept is_served served_in (served_told events) old.served.items new.served.items gathered_rows.served_are rows.served rows.served_rise;
    answered = rows.answered
        ∙ count_kept entries events sums gathered_rows.founds gathered_rows.are is_answered (λ found. found.answered) (answered_told events) is_made
        (λ o there. (all_tell events o there).0) old.answered gathered_rows.answered_is;
    replied = rows.replied
        ∙ count_kept entries events sums gathered_rows.founds gathered_rows.are is_replied (λ found. found.replied) (replied_told events) is_served
        (λ o there. (all_tell events o there).1) old.replied gathered_rows.replied_is;
    strays = list_kept stray_read stray_quiet place_of_event (λ n. n) stray_keeps strays_of (strays_told events) old.strays.items new.strays.items
        gathered_rows.strays_are rows.strays rows.strays_rise;
    sends = list_kept send_read send_quiet send_at_place (λ s. s.event) send_keeps sends_in (sends_told events) old.sends.items new.sends.items
        gathered_rows.sends_are rows.sends rows.sends_rise;
  }
