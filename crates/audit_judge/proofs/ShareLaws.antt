-- Frames in pieces, which workers take as jobs: the jobs are as the board asks, and what holds of the jobs holds of the
-- frames.
use Rattle.std.proofs.Common.{◌≡◌, ℕ, zero, suc, ◌<◌, ◌≤◌, List, [], ◌∷◌, ◌++◌, length, map, Option, Some, None, refl, sym, ap, subst, ◌∙◌, length-append, arith}
use Rattle.std.proofs.lemmas.List.{length-map}
use Rattle.std.specs.Prelude.{All, AllPairs, IfSome, slice_get}
use Rattle.std.specs.List.{sum_by}
use Rattle.std.specs.Option.{option_map, option_or}
use Rattle.std.proofs.lemmas.List.Elements.{All-cons, All-head, All-tail, All-nil, All-weaker}
use Rattle.std.proofs.lemmas.List.Sums.{sum_by-append}
use Rattle.capture_frame.specs.declared.fault.Fault.{Fault}
use Rattle.capture_frame.specs.Envelope.{PlacedFrame}
use Rattle.capture_frame.specs.Lookup.{span_of, AreApart, Holds}
use Rattle.transaction_view.specs.Grammar.{first_content_fault}
use Rattle.summary_law.specs.Fits.{all_halves, pairs_halves}
use Rattle.claim_board.specs.declared.job.Job.{Job}
use Rattle.claim_board.specs.Board.{AreJobs, EndsBefore}
use Rattle.claim_board.specs.Orders.{AreFaultless, IsLeastFault}
use Rattle.claim_board.specs.Running.{AreWorkJobs, no_place}
use Rattle.claim_board.specs.Work.{IsStop}
use Rattle.claim_board.specs.declared.run.Stop.{Stop}
use Rattle.claim_board.specs.declared.run.Stop.TheVariants.{Least, Memory as NoMemory}
use Rattle.audit_judge.specs.Jobs.{EndsNear, AreCut, AreJobPieces, first_place, job_of, start_of}
use Rattle.audit_judge.specs.Pieces.{all_frames, ArePieces}
use Rattle.audit_judge.specs.Judged.{IsLeastOf}
use Rattle.capture_frame.proofs.Pairs.{pairs_before, pairs_head}
use Rattle.capture_frame.proofs.ReadOnLaws.{map_none}
use Rattle.audit_judge.proofs.FaultLaws.{first_append, first_by}

-- ---- the pieces of cut frames

cut_parts : (first second : List PlacedFrame) → AreCut (first ++ second) → AreCut first × AreCut second
cut_parts first second cut =
    let parts = sum_by-append span_of first second in
    let few = cut.few in
    let apart = pairs_halves AreApart first second cut.apart in
    let near = all_halves EndsNear first second cut.near in (
      record { few = omega (arith, parts, few); apart = apart.0; near = near.0 },
      record { few = omega (arith, parts, few); apart = apart.1; near = near.1 },
    )

pieces_cut : (pieces : List (List PlacedFrame)) → AreCut (all_frames pieces) → All AreCut pieces
pieces_cut [] cut = All-nil AreCut
pieces_cut (piece ∷ pieces) cut =
    let parts = cut_parts piece (all_frames pieces) cut in
    All-cons AreCut piece pieces parts.0 (pieces_cut pieces parts.1)

abbrev IsSome : List PlacedFrame → Type 0
IsSome piece = 1 ≤ length piece

fewer_pieces : (pieces : List (List PlacedFrame)) → All IsSome pieces → length pieces ≤ length (all_frames pieces)
fewer_pieces [] some = omega arith
fewer_pieces (piece ∷ pieces) some =
    let here = All-head IsSome piece pieces some in
    let others = fewer_pieces pieces (All-tail IsSome piece pieces some) in
    let long = length-append piece (all_frames pieces) in
    omega (arith, here, others, long)

spans_long : (frames : List PlacedFrame) → length frames ≤ sum_by span_of frames
spans_long [] = omega arith
spans_long (f ∷ frames) =
    let others = spans_long frames in
    let whole = sum_by-append span_of (f ∷ []) frames in
    omega (arith, others, whole)

pub job_pieces : (n : ℕ) (frames : List PlacedFrame) (pieces : List (List PlacedFrame)) → ArePieces n frames pieces → AreCut frames → AreJobPieces pieces
job_pieces n frames pieces are cut =
    let some = All-weaker (λ (piece : List PlacedFrame). (1 ≤ length piece) × (length piece ≤ n)) IsSome (λ piece size. size.0) pieces are.sizes in
    let fewer = fewer_pieces pieces some in
    let joined = ap length are.joined in
    let long = spans_long frames in
    let few = cut.few in
    record { few = omega (arith, fewer, joined, long, few); some = some; cut = pieces_cut pieces (subst AreCut (sym are.joined) cut) }

-- ---- the jobs are as the board asks

from_start : (piece : List PlacedFrame) → AllPairs AreApart piece → IfSome (first_place piece) (λ x. start_of piece ≤ x)
from_start [] apart = tt
from_start (f ∷ piece) apart =
    let Here : PlacedFrame → Type 0 = λ g. (x : ℕ) → Holds x g → f.place ≤ x in
    first_by (λ x. f.place ≤ x) (f ∷ piece)
    (All-cons Here f piece (λ x held. held.0)
    (All-weaker (AreApart f) Here (λ g apart x held. let from = held.0 in omega (arith, apart, from)) piece (pairs_head AreApart f piece apart)))

before_next : (piece : List PlacedFrame) (next : PlacedFrame) (others : List PlacedFrame) → AllPairs AreApart (piece ++ next ∷ others)
    → IfSome (first_place piece) (λ x. x < next.place)
before_next piece next others apart =
    first_by (λ x. x < next.place) piece
    (All-weaker (λ (f : PlacedFrame). AreApart f next) (λ (f : PlacedFrame). (x : ℕ) → Holds x f → x < next.place)
    (λ f apart x held. let to = held.1 in omega (arith, apart, to)) piece (pairs_before AreApart piece next others apart))

starts_before : (piece : List PlacedFrame) (next : PlacedFrame) (others : List PlacedFrame) → IsSome piece → AllPairs AreApart (piece ++ next ∷ others)
    → start_of piece < next.place
starts_before [] next others some apart = absurd (omega (arith, some))
starts_before (f ∷ piece) next others some apart =
    let far = All-head (λ (g : PlacedFrame). AreApart g next) f piece (pairs_before AreApart (f ∷ piece) next others apart) in
    omega (arith, far)

-- a job ends before the next one begins
ends : (piece : List PlacedFrame) (pieces : List (List PlacedFrame)) → IsSome piece → All IsSome pieces → AllPairs AreApart (piece ++ all_frames pieces)
    → EndsBefore (job_of piece) (map job_of pieces)
ends piece [] here some apart = tt
ends piece ([] ∷ pieces) here some apart = let wrong = All-head IsSome [] pieces some in absurd (omega (arith, wrong))
ends piece ((next ∷ others) ∷ pieces) here some apart = (
  starts_before piece next (others ++ all_frames pieces) here apart,
  before_next piece next (others ++ all_frames pieces) apart,
)

in_order : (pieces : List (List PlacedFrame)) → All IsSome pieces → AllPairs AreApart (all_frames pieces) → AreJobs (map job_of pieces)
in_order [] some apart = tt
in_order (piece ∷ pieces) some apart =
    let parts = pairs_halves AreApart piece (all_frames pieces) apart in
    let others = All-tail IsSome piece pieces some in (
      from_start piece parts.0,
      ends piece pieces (All-head IsSome piece pieces some) others apart,
      in_order pieces others parts.1,
    )

abbrev IsPlaceable : Job → Type 0
IsPlaceable job = (job.start < no_place) × IfSome job.fault (λ x. x < no_place)

start_near : (piece : List PlacedFrame) → All EndsNear piece → start_of piece < no_place
start_near [] near = omega arith
start_near (f ∷ piece) near = let here = All-head EndsNear f piece near in omega (arith, here)

placeable : (pieces : List (List PlacedFrame)) → All AreCut pieces → All IsPlaceable (map job_of pieces)
placeable [] cut = All-nil IsPlaceable
placeable (piece ∷ pieces) cut =
    let near = (All-head AreCut piece pieces cut).near in
    All-cons IsPlaceable (job_of piece) (map job_of pieces) (
      start_near piece near,
      first_by (λ x. x < no_place) piece
          (All-weaker EndsNear (λ (f : PlacedFrame). (x : ℕ) → Holds x f → x < no_place)
          (λ f near x held. let to = held.1 in omega (arith, near, to)) piece near),
    )
    (placeable pieces (All-tail AreCut piece pieces cut))

pub shared_jobs : (pieces : List (List PlacedFrame)) → AreJobPieces pieces → AllPairs AreApart (all_frames pieces) → AreWorkJobs (map job_of pieces)
shared_jobs pieces can apart =
    let long = length-map pieces job_of in
    let few = can.few in
    record { in_order = in_order pieces can.some apart; places = placeable pieces can.cut; few = omega (arith, long, few) }

-- ---- what comes of them

after_sound : (piece others : List PlacedFrame) → first_content_fault piece ≡ None → first_content_fault (piece ++ others) ≡ first_content_fault others
after_sound piece others none =
    first_append piece others ∙ ap (λ (o : Option Fault). option_or o (first_content_fault others)) none

-- if no job has a fault, no frame has one
pub shared_sound : (pieces : List (List PlacedFrame)) → AreFaultless (map job_of pieces) → first_content_fault (all_frames pieces) ≡ None
shared_sound [] none = refl
shared_sound (piece ∷ pieces) none =
    let NoFault : Job → Type 0 = λ j. j.fault ≡ None in
    after_sound piece (all_frames pieces)
    (map_none (λ (fault : Fault). fault.place) (first_content_fault piece) (All-head NoFault (job_of piece) (map job_of pieces) none))
    ∙ shared_sound pieces (All-tail NoFault (job_of piece) (map job_of pieces) none)

-- the least fault of the jobs is the first fault of the frames

-- a job starts at or below its own fault and each later one
starts_below : (job : Job) (jobs : List Job) → AreJobs (job ∷ jobs) → (i : ℕ) (j : Job) (x : ℕ) → slice_get (job ∷ jobs) i ≡ Some j
    → j.fault ≡ Some x → job.start ≤ x
starts_below job jobs are zero j x there is =
    let same : job ≡ j = cc in
    let at : job.fault ≡ Some x = ap (λ (k : Job). k.fault) same ∙ is in
    subst (λ (o : Option ℕ). IfSome o (λ y. job.start ≤ y)) at are.0
starts_below job [] are (suc i) j x there is = let wrong : None ≡ Some j = there in absurd (cc)
starts_below job (after ∷ jobs) are (suc i) j x there is =
    let later = starts_below after jobs are.2 i j x there is in
    let below = are.1.0 in
    omega (arith, later, below)

-- and its fault is below each later one
ends_below_later : (job : Job) (jobs : List Job) (y : ℕ) → AreJobs (job ∷ jobs) → job.fault ≡ Some y → (i : ℕ) (j : Job) (x : ℕ)
    → slice_get jobs i ≡ Some j → j.fault ≡ Some x → y < x
ends_below_later job [] y are at i j x there is = let wrong : None ≡ Some j = there in absurd (cc)
ends_below_later job (after ∷ jobs) y are at i j x there is =
    let below : y < after.start = subst (λ (o : Option ℕ). IfSome o (λ z. z < after.start)) at are.1.1 in
    let later = starts_below after jobs are.2 i j x there is in
    omega (arith, below, later)

-- no job of the list has a fault below this place
abbrev LeastAt : List Job → ℕ → Type 0
LeastAt jobs x = (i : ℕ) (job : Job) (y : ℕ) → slice_get jobs i ≡ Some job → job.fault ≡ Some y → x ≤ y

least_later : (job : Job) (jobs : List Job) (x i : ℕ) (j : Job) → job.fault ≡ None → slice_get (job ∷ jobs) i ≡ Some j → j.fault ≡ Some x
    → LeastAt (job ∷ jobs) x → IsLeastFault jobs x
least_later job jobs x zero j none there is least =
    let same : job ≡ j = cc in
    let wrong : None ≡ Some x = sym none ∙ ap (λ (k : Job). k.fault) same ∙ is in
    absurd (cc)
least_later job jobs x (suc i) j none there is least = record { found = (i, j, there, is); least = λ k. least (suc k) }

-- if the first job has a fault, this is the least one
least_here : (job : Job) (jobs : List Job) (x y i : ℕ) (j : Job) → AreJobs (job ∷ jobs) → job.fault ≡ Some y → slice_get (job ∷ jobs) i ≡ Some j
    → j.fault ≡ Some x → x ≤ y → y ≡ x
least_here job jobs x y zero j are at there is least =
    let same : job ≡ j = cc in
    let both : Some y ≡ Some x = sym at ∙ ap (λ (k : Job). k.fault) same ∙ is in
    cc
least_here job jobs x y (suc i) j are at there is least = let later = ends_below_later job jobs y are at i j x there is in omega (arith, later, least)

in_front : (piece others : List PlacedFrame) (here : Option Fault) (x : ℕ) → first_content_fault piece ≡ here
    → option_map (λ (fault : Fault). fault.place) here ≡ Some x → first_place (piece ++ others) ≡ Some x
in_front piece others None x here is = let wrong : None ≡ Some x = is in absurd (cc)
in_front piece others (Some fault) x here is =
    ap (option_map (λ (found : Fault). found.place))
    (first_append piece others ∙ ap (λ (o : Option Fault). option_or o (first_content_fault others)) here)
    ∙ is

by_fault : (piece others : List PlacedFrame) (jobs : List Job) (x : ℕ) (fault : Option ℕ) → first_place piece ≡ fault
    → AreJobs (job_of piece ∷ jobs) → IsLeastFault (job_of piece ∷ jobs) x → (IsLeastFault jobs x → first_place others ≡ Some x)
    → first_place (piece ++ others) ≡ Some x
by_fault piece others jobs x None at are least later =
    ap (option_map (λ (found : Fault). found.place))
    (after_sound piece others (map_none (λ (fault : Fault). fault.place) (first_content_fault piece) at))
    ∙ later (least_later (job_of piece) jobs x least.found.0 least.found.1 at least.found.2 least.found.3 least.least)
by_fault piece others jobs x (Some y) at are least later =
    let same = least_here (job_of piece) jobs x y least.found.0 least.found.1 are at least.found.2 least.found.3 (least.least 0 (job_of piece) y refl at) in
    in_front piece others (first_content_fault piece) x refl (at ∙ ap Some same)

least_first : (pieces : List (List PlacedFrame)) (x : ℕ) → AreJobs (map job_of pieces) → IsLeastFault (map job_of pieces) x
    → first_place (all_frames pieces) ≡ Some x
least_first [] x are least = let wrong : None ≡ Some least.found.1 = least.found.2 in absurd (cc)
least_first (piece ∷ pieces) x are least =
    by_fault piece (all_frames pieces) (map job_of pieces) x (first_place piece) refl are least (λ later. least_first pieces x are.2 later)

pub shared_stop : (pieces : List (List PlacedFrame)) → AreWorkJobs (map job_of pieces) → (stop : Stop) → IsStop (map job_of pieces) stop
    → IsLeastOf (all_frames pieces) stop
shared_stop pieces are (Least x) least = least_first pieces x are.in_order least
shared_stop pieces are NoMemory _ = tt
