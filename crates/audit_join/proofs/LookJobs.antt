-- The jobs of processes, and what they give together.
use Rattle.std.proofs.Common.{◌≡◌, ℕ, zero, suc, ◌+◌, ◌^◌, ◌<◌, ◌≤◌, Bool, not, List, [], ◌∷◌, length, map, Option, Some, None, Vec, Global, inl, inr, sym, ap, ◌∙◌, arith}
use Rattle.std.specs.Option.{option_map, unwrap_or}
use Rattle.std.specs.Prelude.{All, IfSome, slice_get}
use Rattle.std.specs.List.{range_with_len}
use Rattle.std.proofs.lemmas.List.{length-map, same_lists}
use Rattle.std.proofs.lemmas.List.Elements.{All-cons, All-nil}
use Rattle.std.proofs.lemmas.List.FromFn.{get_or-map-range_with_len, length-map-range_with_len}
use Rattle.std.proofs.lemmas.List.Sums.{count_by-le-length, length-filter}
use Rattle.std.proofs.lemmas.Option.{slice_get-map, slice_get_cases, unwrap_or-slice_get}
use Rattle.capture_frame.specs.Envelope.{PlacedFrame}
use Rattle.capture_frame.specs.Process.{same_process}
use Rattle.claim_board.specs.Board.{AreJobs}
use Rattle.claim_board.specs.Orders.{IsLeastFault}
use Rattle.claim_board.specs.Results.{AreInOrder}
use Rattle.claim_board.specs.Running.{AreWorkJobs, job_at, no_place}
use Rattle.claim_board.specs.declared.job.Job.{Job}
use Rattle.process_ledgers.specs.Processes.{process_of_placed, processes_of}
use Rattle.summary_law.specs.InOrder.{firsts}
use Rattle.audit_findings.proofs.FrameLaws.{few_frames}
use Rattle.audit_findings.proofs.HandleRows.{lists_of}
use Rattle.audit_findings.specs.Frames.{AreGoodFrames}
use Rattle.audit_join.specs.Processes.{process_job, process_jobs}

-- ---- how many processes there are

few_firsts : {K : Type 0} (eq : K → K → Bool) (keys : List K) → length (firsts eq keys) ≤ length keys
few_firsts eq [] = omega arith
few_firsts {K} eq (k ∷ keys) =
    let test : K → Bool = λ other. not (eq other k) in
    let rest = few_firsts eq keys in
    let long = length-filter test (firsts eq keys) in
    let few = count_by-le-length test (firsts eq keys) in
    omega (arith, rest, long, few)

pub few_processes : (frames : List PlacedFrame) → AreGoodFrames frames → length (processes_of frames) ≤ 2 ^ 32
few_processes frames fits =
    let few = (few_frames frames fits).0 in
    let firsts_few = few_firsts same_process (map process_of_placed frames) in
    let long = length-map frames process_of_placed in
    omega (arith, few, firsts_few, long)

-- ---- processes as jobs

pub jobs_long : (n : ℕ) → length (process_jobs n) ≡ n
jobs_long n = length-map-range_with_len process_job 0 n

pub job_is : (n i : ℕ) → i < n → job_at (process_jobs n) i ≡ process_job i
job_is n i within = get_or-map-range_with_len process_job 0 n i i _ within (omega arith)

pub within_count : (n i : ℕ) → i < length (process_jobs n) → i < n
within_count n i within = let long = jobs_long n in omega (arith, within, long)

in_order : (start n : ℕ) → AreJobs (map process_job (range_with_len start n))
in_order start zero = tt
in_order start (suc zero) = (tt, tt, tt)
in_order start (suc (suc n)) = (tt, (omega arith, tt), in_order (start + 1) (suc n))

abbrev IsPlacedJob : Job → Type 0
IsPlacedJob job = (job.start < no_place) × IfSome job.fault (λ x. x < no_place)

all_placed : (start n : ℕ) → start + n ≤ 2 ^ 32 → All IsPlacedJob (map process_job (range_with_len start n))
all_placed start zero fits = All-nil IsPlacedJob
all_placed start (suc n) fits =
    All-cons IsPlacedJob (process_job start) (map process_job (range_with_len (start + 1) n)) (omega (arith, fits), tt)
    (all_placed (start + 1) n (omega (arith, fits)))

pub process_work : (n : ℕ) → n ≤ 2 ^ 32 → AreWorkJobs (process_jobs n)
process_work n few = record {
  in_order = in_order 0 n;
  places = all_placed 0 n (omega (arith, few));
  few = let long = jobs_long n in omega (arith, few, long);
}

-- ---- no job has a fault

abbrev fault_in : Option Job → Option ℕ
fault_in None = None
fault_in (Some job) = job.fault

no_fault_from : (start n i : ℕ) (job : Job) (x : ℕ) → slice_get (map process_job (range_with_len start n)) i ≡ Some job
    → job.fault ≡ Some x → ⊥
no_fault_from start zero i job x is has = absurd (cc)
no_fault_from start (suc n) zero job x is has = let none : None ≡ Some x = ap fault_in is ∙ has in absurd (cc)
no_fault_from start (suc n) (suc i) job x is has = no_fault_from (start + 1) n i job x is has

pub no_least : (n x : ℕ) → IsLeastFault (process_jobs n) x → ⊥
no_least n x least = let found = least.found in no_fault_from 0 n found.0 found.1 x found.2 found.3

-- ---- what they give

-- lists in the order of jobs, each of which gives the rows with its number, are the rows
pub all_in_order : {R : Type 0} (rows : List (List R)) (lists : List (Vec R Global)) (n : ℕ) → n ≡ length rows
    → AreInOrder (λ i (list : Vec R Global). slice_get rows i ≡ Some list.items) n lists → lists_of lists ≡ rows
all_in_order {R} rows lists n all are =
    let items : Vec R Global → List R = λ list. list.items in
    let long = length-map lists items in
    same_lists (lists_of lists) rows (long ∙ are.count ∙ all)
    (λ k d within.
    elim (slice_get_cases lists k).1 [
      | inl found ↦
          let same = slice_get-map items lists k ∙ ap (option_map items) found.2 ∙ sym (are.each k found.0 found.2) in
          sym (unwrap_or-slice_get (lists_of lists) k d) ∙ ap (λ o. unwrap_or o d) same ∙ unwrap_or-slice_get rows k d
      | inr past ↦ let none = past.0 in absurd (omega (arith, within, long, none))
    ])
