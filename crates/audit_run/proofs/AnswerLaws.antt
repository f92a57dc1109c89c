-- What is read of parts, by what the audit says of them, and so what is to be written and returned.
use Rattle.std.proofs.Common.{◌≡◌, ℕ, List, length, map, Bor, Some, None, Result, Ok, Err, true, refl, sym, ap}
use Rattle.std.specs.Prelude.{is_ok}
use Rattle.std.specs.Result.{result_err, result_map_both}
use Rattle.std.proofs.lemmas.List.{length-map}
use Rattle.capture_frame.specs.declared.fault.Fault.{Fault}
use Rattle.capture_frame.specs.declared.fault.PartFault.{PartFault}
use Rattle.capture_frame.specs.Envelope.{PlacedFrame}
use Rattle.transaction_view.specs.Grammar.{frames_of_parts}
use Rattle.audit_findings.specs.Findings.{findings_of}
use Rattle.report_text.specs.Answers.{answer, first_fault_line}
use Rattle.report_text.specs.Fault.{no_fault_line, part_fault_line}
use Rattle.report_text.specs.Text.{report_text}
use Rattle.audit_run.specs.Run.{written_of}
use Rattle.audit_run.specs.declared.written.Written.TheVariants.{Report, Malformed}

-- ---- what is to be written

abbrev Reading : Type 0
Reading = Result (List PlacedFrame) PartFault

-- the answer to parts of which this is read
abbrev answer_by : List (List ℕ) → Reading → List ℕ
answer_by parts read = elim read [
  | Ok frames ↦ report_text (findings_of frames)
  | Err found ↦ part_fault_line (length parts) found
]

-- the line of `first-fault` on parts of which this is read
abbrev line_by : List (List ℕ) → Reading → List ℕ
line_by parts read = elim read [
  | Ok frames ↦ no_fault_line
  | Err found ↦ part_fault_line (length parts) found
]

pub answer_of : (parts : List (List ℕ)) (read : Reading) → frames_of_parts parts ≡ read → answer parts ≡ answer_by parts read
answer_of parts read is = ap (answer_by parts) is

pub line_of : (parts : List (List ℕ)) (read : Reading) → frames_of_parts parts ≡ read → first_fault_line parts ≡ line_by parts read
line_of parts read is = ap (line_by parts) is

-- the line of a fault is the same for slices and for their bytes, because there are equally many
pub line_of_slices : (slices : List (Bor (List ℕ))) (found : PartFault)
    → part_fault_line (length (map (λ (slice : Bor (List ℕ)). slice.now) slices)) found ≡ part_fault_line (length slices) found
line_of_slices slices found =
    ap (λ (n : ℕ). part_fault_line n found) (length-map slices (λ (slice : Bor (List ℕ)). slice.now))

-- ---- what was read, by what is returned

pub if_ok : {W F : Type 0} (read : Result W F) → is_ok read ≡ true → Report ≡ written_of read
if_ok (Ok frames) ok = refl
if_ok (Err found) ok = absurd (cc)

pub if_report : {W F : Type 0} (read : Result W F) → Report ≡ written_of read → (frames : W) × (read ≡ Ok frames)
if_report (Ok frames) is = (frames, refl)
if_report (Err found) is = absurd (cc)

pub if_malformed : {W F : Type 0} (read : Result W F) (found : F) → Malformed found ≡ written_of read → read ≡ Err found
if_malformed (Ok frames) found is = absurd (cc)
if_malformed (Err other) found is = let same : found ≡ other = cc in ap Err (sym same)

pub if_none : {W F : Type 0} (read : Result W F) → None ≡ result_err read → (frames : W) × (read ≡ Ok frames)
if_none (Ok frames) is = (frames, refl)
if_none (Err found) is = absurd (cc)

pub if_some : {W F : Type 0} (read : Result W F) (found : F) → Some found ≡ result_err read → read ≡ Err found
if_some (Ok frames) found is = absurd (cc)
if_some (Err other) found is = let same : found ≡ other = cc in ap Err (sym same)

-- ---- a single part, as a capture

abbrev alone : {W : Type 0} → Result W PartFault → Result W Fault
alone read = result_map_both (λ frames. frames) (λ found. found.fault) read

pub report_alone : {W : Type 0} (read : Result W PartFault) → Report ≡ written_of read → Report ≡ written_of (alone read)
report_alone {W} read is = sym (ap (λ (r : Result W PartFault). written_of (alone r)) (if_report read is).1)

pub malformed_alone : {W : Type 0} (read : Result W PartFault) (found : PartFault) → Malformed found ≡ written_of read
    → Malformed found.fault ≡ written_of (alone read)
malformed_alone {W} read found is = sym (ap (λ (r : Result W PartFault). written_of (alone r)) (if_malformed read found is))

pub none_alone : {W : Type 0} (read : Result W PartFault) → None ≡ result_err read → None ≡ result_err (alone read)
none_alone {W} read is = sym (ap (λ (r : Result W PartFault). result_err (alone r)) (if_none read is).1)

pub some_alone : {W : Type 0} (read : Result W PartFault) (found : PartFault) → Some found ≡ result_err read
    → Some found.fault ≡ result_err (alone read)
some_alone {W} read found is = sym (ap (λ (r : Result W PartFault). result_err (alone r)) (if_some read found is))
