-- The rows of handles of a process: its leaked deliveries, chosen from all events; and lists, one after another.
use Rattle.std.proofs.Common.{◌≡◌, ◌||◌, ◌<◌, ◌+◌, ℕ, suc, Bool, true, false, eqb, List, [], ◌∷◌, ◌++◌, length, map, take, Some, Vec, Global, inl, inr, refl, sym, ap, subst, ◌∙◌, arith, get_or}
use Rattle.std.proofs.Math.Seq.{take-suc}
use Rattle.std.specs.Prelude.{◌==◌, filter, slice_get}
use Rattle.std.specs.List.{flat_map, list_any}
use Rattle.std.specs.Option.{option_map}
use Rattle.std.proofs.lemmas.Bool.{eq-eqb, eqb-true}
use Rattle.std.proofs.lemmas.Grind.{flat_map-append}
use Rattle.std.proofs.lemmas.List.{append-nil, get_or-map, length-map}
use Rattle.capture_frame.specs.Process.{same_process}
use Rattle.capture_frame.specs.declared.process.Process.{Process}
use Rattle.capture_frame.specs.Envelope.{PlacedFrame}
use Rattle.event_core.specs.Events.{EventRead, process_of}
use Rattle.process_ledgers.specs.Processes.{events_in, processes_of}
use Rattle.summary_law.specs.Readings.{chosen}
use Rattle.summary_law.specs.declared.nothing.Nothing.{Nothing}
use Rattle.summary_law.proofs.GatherLaws.{in_any}
use Rattle.summary_law.proofs.Members.{In, Rises, in_middle, rises_from_pairs, same_lists}
use Rattle.summary_law.proofs.ReadingLaws.{chosen-is, read-at, read-rises}
use Rattle.audit_findings.specs.EachProcess.{SumsEach}
use Rattle.audit_findings.specs.declared.processes.Processes.{Processes}
use Rattle.audit_findings.specs.Entries.{AreChosen}
use Rattle.audit_findings.specs.Places.{EventTest, RiseInPlace, passing_in, places_in}
use Rattle.audit_findings.proofs.EventLists.{place_of_event}
use Rattle.audit_findings.proofs.Kept.{in_kept, kept_in, one_there}
use Rattle.audit_findings.proofs.Rising.{rising_kept}
use Rattle.std.proofs.lemmas.Option.{get_or_from_slice_get, slice_get-map, slice_get_within}

-- ---- some of the events, chosen from all by their places

-- whether an event is one of these, by its place
abbrev pub is_among : List EventRead → EventRead → Bool
is_among events e = list_any (λ other. other.place == e.place) events

-- an event that is among some by its place has the place of one of them
pub among_at : (some : List EventRead) (e : EventRead) → is_among some e ≡ true → (other : EventRead) × In other some × (other.place ≡ e.place)
among_at [] e is = let none : ⊥ = cc in absurd none
among_at (other ∷ some) e is =
    elim (eqb other.place e.place) as (λ b. (eqb other.place e.place ≡ b) → (b || is_among some e) ≡ true
    → (x : EventRead) × In x (other ∷ some) × (x.place ≡ e.place)) [
      | true ↦ λ same is. (other, inl refl, eqb-true other.place e.place same)
      | false ↦ λ apart is. let found = among_at some e is in (found.0, inr found.1, found.2)
    ] refl is

module _ (events : List EventRead) (rise : RiseInPlace events) (some : List EventRead) (rises : Rises place_of_event some)
    (there : (e : EventRead) → In e some → In e events) where
  -- choosing by the places of some events gives these events again
  pub chosen_again : filter (is_among some) events ≡ some
  chosen_again =
      same_lists place_of_event (filter (is_among some) events) some
      (rises_from_pairs place_of_event (filter (is_among some) events) (rising_kept place_of_event (is_among some) events rise)) rises
      (λ e here.
      let kept = in_kept (is_among some) events e here in
      let at = among_at some e kept.1 in
      subst (λ (x : EventRead). In x some)
      (one_there place_of_event events (rises_from_pairs place_of_event events rise) at.0 e (there at.0 at.1) kept.0 at.2) at.1)
      (λ e here.
      kept_in (is_among some) events e (there e here)
      (in_any (λ (other : EventRead). eqb other.place e.place) some e here (eq-eqb e.place e.place refl)))

module _ (test : EventTest) (process : Process) (events : List EventRead) (rise : RiseInPlace events) where
  pub listed_there : (e : EventRead) → In e (passing_in test process events) → In e events
  listed_there e here =
      let own = events_in process events in
      let at = read-at (chosen test) [] own e here in
      let is : e ≡ at.1 = chosen-is test at.0 at.1 at.2 e at.4 in
      let among : In at.1 own = subst (In at.1) (sym at.3) (in_middle at.0 at.1 at.2) in
      let kept = in_kept (λ (x : EventRead). same_process process (process_of x)) events at.1 among in
      subst (λ (x : EventRead). In x events) (sym is) kept.0

  own_rises : Rises place_of_event (passing_in test process events)
  own_rises =
      read-rises (chosen test) place_of_event place_of_event (λ b e l y is. ap place_of_event (chosen-is test b e l y is)) (events_in process events)
      (rising_kept place_of_event (λ (x : EventRead). same_process process (process_of x)) events rise)

  -- choosing the listed events of a process from all events gives them again
  pub listed_again : filter (is_among (passing_in test process events)) events ≡ passing_in test process events
  listed_again = chosen_again events rise (passing_in test process events) own_rises listed_there

  -- the listed events of a process, chosen from all events
  pub listed_chosen : AreChosen (is_among (passing_in test process events)) events [] (places_in test events process)
  listed_chosen =
      let some = passing_in test process events in
      ap (map place_of_event) (sym listed_again)
      ∙ sym (append-nil (map place_of_event (filter (is_among some) events)))

-- ---- the entry of a process by its number

-- the entry with this number is that of the process with this number
pub entry_at : (processes : Processes) (frames : List PlacedFrame) (number : ℕ) (e : Process × Nothing)
    → SumsEach processes frames → slice_get processes.order.now.entries.entries number ≡ Some e
    → slice_get (processes_of frames) number ≡ Some e.0
entry_at processes frames number e of is =
    let key = λ (x : Process × Nothing). x.0 in
    ap (λ (ps : List Process). slice_get ps number) (sym of.order) ∙ slice_get-map key processes.order.now.entries.entries number ∙ ap (option_map key) is

-- ---- lists, one after another

abbrev pub items_in : {R : Type 0} → Vec R Global → List R
items_in list = list.items

abbrev pub lists_of : {R : Type 0} → List (Vec R Global) → List (List R)
lists_of lists = map items_in lists

-- there are as many lists as processes, if they are made of each
module _ {R : Type 0} (of : Process → List R) (processes : List Process) (lists : List (Vec R Global)) (same : lists_of lists ≡ map of processes) where
  pub each_long : length lists ≡ length processes
  each_long = sym (length-map lists items_in) ∙ ap length same ∙ length-map processes of

  -- and the list with the number of a process is made of this process
  pub own_at : (number : ℕ) (process : Process) → slice_get processes number ≡ Some process → (d : Vec R Global) → (get_or lists number d).items ≡ of process
  own_at number process there d =
      let within = slice_get_within processes number process there in
      let long = each_long in
      sym (get_or-map items_in lists number d (of process) (omega (arith, within, long)))
      ∙ ap (λ (ls : List (List R)). get_or ls number (of process)) same
      ∙ get_or-map of processes number process (of process) within ∙ ap of (get_or_from_slice_get processes number process process there)

-- the first n of these lists, joined
abbrev pub joined_to : {R : Type 0} → List (Vec R Global) → ℕ → List R
joined_to lists n = flat_map items_in (take n lists)

pub joined_next : {R : Type 0} (lists : List (Vec R Global)) (n : ℕ) (d : Vec R Global) → n < length lists
    → joined_to lists (n + 1) ≡ joined_to lists n ++ (get_or lists n d).items
joined_next lists n d within =
    let one : n + 1 ≡ suc n = omega arith in
    let last = get_or lists n d in
    ap (λ m. joined_to lists m) one ∙ ap (flat_map items_in) (take-suc lists n d within)
    ∙ flat_map-append items_in (take n lists) (last ∷ []) ∙ ap (λ rows. joined_to lists n ++ rows) (append-nil last.items)
