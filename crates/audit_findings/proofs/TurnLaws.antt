-- What is made of each process in turn.
use Rattle.std.proofs.Common.{◌≡◌, List, [], ◌∷◌, ◌++◌, map, refl, sym, ap, ap₂, ◌∙◌, append_assoc}
use Rattle.std.specs.List.{flat_map}
use Rattle.std.specs.Map.{keys_of}
use Rattle.std.proofs.lemmas.Grind.{flat_map-append}
use Rattle.std.proofs.lemmas.List.{append-nil, map-append}
use Rattle.capture_frame.specs.declared.process.Process.{Process}
use Rattle.capture_frame.specs.Envelope.{PlacedFrame}
use Rattle.event_core.specs.Events.{EventRead, events_of_frames}
use Rattle.summary_law.specs.declared.nothing.Nothing.{Nothing}
use Rattle.process_ledgers.specs.EachProcess.{AreLedgersOf}
use Rattle.process_ledgers.specs.Processes.{processes_of}
use Rattle.audit_findings.specs.EachProcess.{SumsEach, ledgers_in}
use Rattle.audit_findings.specs.declared.processes.Processes.{Processes}
use Rattle.audit_findings.specs.InTurn.{in_turn, process_row, rows_in}
use Rattle.audit_findings.specs.declared.in_turn.ProcessRow.{ProcessRow}
use Rattle.std.proofs.lemmas.List.Folds.{flat_map-map}

-- the lists are those of the processes of the entries before the rest
pub record Listing {R : Type 0} (of : List EventRead → Process → List R) (processes : Processes) (rest : List (Process × Nothing)) (lists : List (List R)) :
    Type 0 where
  pub done : List (Process × Nothing)
  pub whole : done ++ rest ≡ processes.order.now.entries.entries
  pub are : (frames : List PlacedFrame) → SumsEach processes frames → lists ≡ map (of (events_of_frames frames)) (keys_of done)

module _ {R : Type 0} (of : List EventRead → Process → List R) (processes : Processes) where
  abbrev entries : List (Process × Nothing)
  entries = processes.order.now.entries.entries

  pub listing_starts : (rest : List (Process × Nothing)) → rest ≡ entries → (lists : List (List R)) → lists ≡ [] → Listing of processes rest lists
  listing_starts rest all lists none = record {
    done = [];
    whole = all;
    are = λ frames sums. none;
  }

  -- the list of the process that an entry names
  abbrev pub OwnList : Process × Nothing → List R → Type 0
  OwnList e own = (events : List EventRead) → AreLedgersOf (ledgers_in processes e.0) events e.0 → own ≡ of events e.0

  pub listing_goes_on : (rest : List (Process × Nothing)) (e : Process × Nothing) (lists : List (List R)) (own : List R) (more : List (List R))
      → Listing of processes (e ∷ rest) lists → OwnList e own → more ≡ lists ++ own ∷ [] → Listing of processes rest more
  listing_goes_on rest e lists own more listing gives pushed =
      let done = listing.done in
      record {
        done = done ++ e ∷ [];
        whole = append_assoc done (e ∷ []) rest ∙ listing.whole;
        are = λ frames sums.
            let events = events_of_frames frames in
            pushed ∙ ap₂ (λ (a b : List (List R)). a ++ b) (listing.are frames sums) (ap (λ (l : List R). l ∷ []) (gives events (sums.each e.0)))
            ∙ sym (map-append (of events) (keys_of done) (e.0 ∷ [])) ∙ ap (map (of events)) (sym (map-append (λ (x : Process × Nothing). x.0) done (e ∷ [])));
      }

  module _ (rest : List (Process × Nothing)) (none : rest ≡ []) (lists : List (List R)) (listing : Listing of processes rest lists) where
    all_done : listing.done ≡ entries
    all_done = sym (append-nil listing.done) ∙ ap (λ (t : List (Process × Nothing)). listing.done ++ t) (sym none) ∙ listing.whole

    -- at the end they are those of all processes
    pub all_listed : (frames : List PlacedFrame) → SumsEach processes frames → lists ≡ map (of (events_of_frames frames)) (processes_of frames)
    all_listed frames sums =
        listing.are frames sums ∙ ap (λ (es : List (Process × Nothing)). map (of (events_of_frames frames)) (keys_of es)) all_done
        ∙ ap (map (of (events_of_frames frames))) sums.order

-- ---- rows, one process after another

-- the rows are those of the processes of the entries before the rest, each with its process
abbrev pub Turning : {R : Type 0} → (List EventRead → Process → List R) → Processes → List (Process × Nothing) → List (ProcessRow R) → Type 0
Turning {R} of processes rest rows =
    (lists : List (List (ProcessRow R))) × Listing (λ events. rows_in (of events)) processes rest lists × (rows ≡ flat_map (λ (own : List (ProcessRow R)). own) lists)

module _ {R : Type 0} (of : List EventRead → Process → List R) (processes : Processes) where
  pub turning_starts : (rest : List (Process × Nothing)) → rest ≡ processes.order.now.entries.entries → (rows : List (ProcessRow R)) → rows ≡ []
      → Turning of processes rest rows
  turning_starts rest all rows none = ([], listing_starts (λ events. rows_in (of events)) processes rest all [] refl, none)

  pub turning_goes_on : (rest : List (Process × Nothing)) (e : Process × Nothing) (rows more : List (ProcessRow R)) (own : List R)
      → Turning of processes (e ∷ rest) rows → OwnList of processes e own → more ≡ rows ++ map (process_row e.0) own → Turning of processes rest more
  turning_goes_on rest e rows more own turning gives pushed =
      let lists = turning.0 in
      let last = map (process_row e.0) own in (
        lists ++ last ∷ [],
        listing_goes_on (λ events. rows_in (of events)) processes rest e lists last (lists ++ last ∷ []) turning.1
            (λ events is. ap (map (process_row e.0)) (gives events is)) refl,
        pushed ∙ ap₂ (λ (a b : List (ProcessRow R)). a ++ b) turning.2 (sym (append-nil last)) ∙ sym (flat_map-append (λ (list : List (ProcessRow R)). list) lists (last ∷ [])),
      )

  pub all_turned : (rest : List (Process × Nothing)) → rest ≡ [] → (rows : List (ProcessRow R)) → Turning of processes rest rows
      → (frames : List PlacedFrame) → SumsEach processes frames → rows ≡ in_turn (of (events_of_frames frames)) (processes_of frames)
  all_turned rest none rows turning frames sums =
      turning.2
      ∙ ap (flat_map (λ (own : List (ProcessRow R)). own)) (all_listed (λ events. rows_in (of events)) processes rest none turning.0 turning.1 frames sums)
      ∙ flat_map-map (λ (own : List (ProcessRow R)). own) (rows_in (of (events_of_frames frames))) (processes_of frames)
