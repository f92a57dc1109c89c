-- The events that a reader gives of a frame, following those of the frames before.
use Rattle.std.proofs.Common.{◌≡◌, ◌<◌, List, [], ◌∷◌, ◌++◌, map, Some, sym, ap, subst, ◌∙◌, append_assoc, arith, filter_map}
use Rattle.std.proofs.lemmas.List.{length-map, map-append}
use Rattle.capture_frame.specs.Envelope.{PlacedFrame}
use Rattle.capture_frame.specs.Process.{same_process}
use Rattle.capture_frame.specs.declared.process.Process.{Process}
use Rattle.event_core.specs.Events.{EventRead, events_of, events_of_frames, process_of}
use Rattle.event_core.specs.Reading.{event_text}
use Rattle.event_core.specs.declared.event.Event.{Event}
use Rattle.summary_law.proofs.ReadLaws.{items_rise}
use Rattle.process_ledgers.specs.Processes.{process_of_placed}
use Rattle.summary_law.specs.InOrder.{SumsInOrder}
use Rattle.summary_law.specs.declared.nothing.Nothing.{Nothing}
use Rattle.std.specs.Prelude.{⊤}
use Rattle.std.proofs.lemmas.Option.{cond_some}
use Rattle.process_ledgers.specs.Concerns.{concerns, concerned}
use Rattle.process_ledgers.specs.ProcessLedgers.{ArePlaced, SumsProcess, event_place}
use Rattle.process_ledgers.specs.declared.process_ledgers.ProcessLedgers.{ProcessLedgers}
use Rattle.summary_law.specs.declared.in_order.InOrder.{InOrder}
use Rattle.summary_law.proofs.ReadLaws.{length-read, rising_read}
use Rattle.summary_law.specs.ByKey.{EachFits, under}
use Rattle.summary_law.specs.Fits.{PlacesRise}
use Rattle.audit_findings.specs.EachProcess.{SumsOrder, order_item}
use Rattle.audit_findings.specs.Ledgers.{AreFewEvents, AreFewGiven}
use Rattle.audit_findings.proofs.FewLaws.{few_halves}
use Rattle.audit_findings.proofs.FrameLaws.{events-append, events_with}
use Rattle.capture_frame.proofs.Pairs.{pairs_unmap}

concerned_there : (event : Event) (found : Process × Event) → concerned event ≡ Some found → found.1.place ≡ event.place
concerned_there event found is =
    let same = (cond_some (concerns event.kind) (process_of (event_text event), event) found is).1 in
    ap (λ (pair : Process × Event). pair.1.place) (sym same)

-- the ledgers of all processes are the sums of these pairs; and pairs that can be summed so
abbrev pub SumsAll : InOrder Process ProcessLedgers Event → List (Process × Event) → Type 0
SumsAll processes fed = SumsInOrder same_process SumsProcess processes.entries.entries fed

abbrev pub FitAll : List (Process × Event) → Type 0
FitAll fed = EachFits same_process ArePlaced fed

-- among few events, those of each process that concern a ledger can be summed
pub each_placed : (events : List Event) → AreFewGiven events → EachFits same_process ArePlaced (filter_map concerned events)
each_placed events few q =
    let fed = filter_map concerned events in
    let fewer = length-read (under same_process q) fed in
    let some = length-read concerned events in
    let long = length-map events event_text in
    let short = few.0.0 in
    let rise : PlacesRise event_place events = pairs_unmap (λ a b. a.place < b.place) event_text events few.0.1 in
    (omega (arith, fewer, some, long, short), items_rise same_process q event_place fed (rising_read concerned (λ e. e.1.place) event_place concerned_there events rise))

-- ---- the events of one frame

-- the reader has given these events of the frame, and those are ahead
abbrev pub AreGiven : PlacedFrame → List Event → List EventRead → Type 0
AreGiven frame given ahead = events_of frame ≡ map event_text given ++ ahead

pub given_next : (frame : PlacedFrame) (given : List Event) (found : Event) (ahead rest : List EventRead) → AreGiven frame given ahead
    → ahead ≡ event_text found ∷ rest → AreGiven frame (given ++ found ∷ []) rest
given_next frame given found ahead rest so_far next =
    so_far ∙ ap (λ (es : List EventRead). map event_text given ++ es) next ∙ sym (append_assoc (map event_text given) (event_text found ∷ []) rest)
    ∙ ap (λ (es : List EventRead). es ++ rest) (sym (map-append event_text given (found ∷ [])))

-- if the events before the frame and those of the frame are few, so are those before it and those given
pub few_given : (before : List Event) (frame : PlacedFrame) (given : List Event) (ahead : List EventRead)
    → AreFewEvents (map event_text before ++ events_of frame) → AreGiven frame given ahead → AreFewGiven (before ++ given)
few_given before frame given ahead few so_far =
    let texts = map event_text before in
    let all = ap (λ (es : List EventRead). texts ++ es) so_far ∙ sym (append_assoc texts (map event_text given) ahead) in
    subst AreFewEvents (sym (map-append event_text before given)) (few_halves (texts ++ map event_text given) ahead (subst AreFewEvents all few)).0

-- the same with the events of the frames before
pub few_with : (before : List Event) (frames : List PlacedFrame) (frame : PlacedFrame) → map event_text before ≡ events_of_frames frames
    → AreFewEvents (events_of_frames (frames ++ frame ∷ [])) → AreFewEvents (map event_text before ++ events_of frame)
few_with before frames frame are few =
    subst AreFewEvents (events_with frames frame ∙ ap (λ (es : List EventRead). es ++ events_of frame) (sym are)) few

-- ---- the processes of frames

-- the order of processes of some frames and of those after them
pub order_both : (entries : List (Process × Nothing)) (first second : List PlacedFrame)
    → SumsInOrder same_process (λ (v : Nothing) (items : List ⊤). ⊤) entries (map order_item first ++ map order_item second)
    → SumsOrder entries (first ++ second)
order_both entries first second sums =
    subst (SumsInOrder same_process (λ (v : Nothing) (items : List ⊤). ⊤) entries) (sym (map-append order_item first second)) sums

-- and with one more frame
pub order_next : (entries : List (Process × Nothing)) (frames : List PlacedFrame) (next : PlacedFrame) (process : Process)
    → process ≡ process_of_placed next
    → SumsInOrder same_process (λ (v : Nothing) (items : List ⊤). ⊤) entries (map order_item frames ++ (process, tt) ∷ [])
    → SumsOrder entries (frames ++ next ∷ [])
order_next entries frames next process is sums =
    order_both entries frames (next ∷ [])
    (subst (λ (p : Process). SumsInOrder same_process (λ (v : Nothing) (items : List ⊤). ⊤) entries (map order_item frames ++ (p, tt) ∷ [])) is sums)

-- the events of some frames followed by those of others are the events of all
pub both_given : (first second : List PlacedFrame) (given others : List Event) → map event_text given ≡ events_of_frames first
    → map event_text others ≡ events_of_frames second → map event_text (given ++ others) ≡ events_of_frames (first ++ second)
both_given first second given others is are =
    map-append event_text given others ∙ (λ j. is j ++ are j) ∙ sym (events-append first second)
