-- Laws of runs on a capture that was read in stretches.
use Rattle.std.proofs.Common.{◌≡◌, ℕ, ◌+◌, ◌≤◌, List, [], ◌∷◌, ◌++◌, length, map, drop, All, Vec, Global, Option, Some, None, Result, Ok, Err, refl, sym, ap, subst, ◌∙◌, arith}
use Rattle.std.specs.Prelude.{⊤, is_ok, true, IsOk}
use Rattle.std.specs.List.{flat_map}
use Rattle.std.proofs.lemmas.List.{length-map}
use Rattle.std.proofs.lemmas.List.Concat.{flat_map-cons}
use Rattle.std.proofs.lemmas.List.Elements.{All-cons, All-head, All-nil, All-weaker}
use Rattle.std.proofs.lemmas.List.Sums.{sum_by-cons}
use Rattle.capture_frame.specs.declared.version.Version.{Version}
use Rattle.capture_frame.specs.Envelope.{PlacedFrame}
use Rattle.capture_frame.specs.Units.{IsBytes}
use Rattle.capture_frame.specs.declared.fault.PartFault.{PartFault}
use Rattle.capture_frame.specs.Parts.{ParsedParts, header_at, joined_as, joined_frames}
use Rattle.capture_frame.proofs.PartLaws.{parts_joined, taken_of_same}
use Rattle.transaction_view.specs.Grammar.{frames_of_parts, unless, whole_parser, wholes_of}
use Rattle.transaction_view.proofs.WholeLaws.{whole_wide}
use Rattle.report_text.specs.Answers.{answer}
use Rattle.streams.specs.Parts.{bytes_of}
use Rattle.streams.specs.Stretches.{IsPartOf, IsStretchError}
use Rattle.streams.specs.declared.run_error.RunError.{RunError}
use Rattle.streams.specs.declared.run_error.RunError.TheVariants.{Memory, TooLarge, Read, Write, Open}
use Rattle.audit_run.specs.PartRuns.{AreOfOneFile, FilesGive}
use Rattle.audit_run.specs.Question.{reading_status}
use Rattle.audit_run.proofs.AnswerLaws.{answer_of}
use Rattle.streams.proofs.StretchLaws.{few_parts, joined_bytes, joined_from_first, joined_short}

abbrev Part : Type 0
Part = Vec ℕ Global

abbrev items_of : List Part → List (List ℕ)
items_of parts = map (λ part. part.items) parts

bodies_of_items : (parts : List Part) → flat_map (λ part. drop 16 part.items) parts ≡ flat_map (drop 16) (items_of parts)
bodies_of_items [] = refl
bodies_of_items (part ∷ parts) =
    flat_map-cons (λ (p : Part). drop 16 p.items) part parts ∙ ap (λ (t : List ℕ). drop 16 part.items ++ t) (bodies_of_items parts)
    ∙ sym (flat_map-cons (drop 16) part.items (items_of parts))

-- the first part, and then what the others have after their file headers, is the joined capture
pub joined_is : (version : Version) (parts : List Part) (first : Part) (others : List Part) (capture : List ℕ) → parts ≡ first ∷ others
    → capture ≡ first.items ++ flat_map (λ part. drop 16 part.items) others → All (IsPartOf version) (items_of parts) → capture ≡ joined_as version (items_of parts)
joined_is version parts first others capture same is good =
    let own = subst (λ (ps : List Part). All (IsPartOf version) (items_of ps)) same good in
    is ∙ ap (λ (t : List ℕ). first.items ++ t) (bodies_of_items others)
    ∙ sym (joined_from_first version first.items (items_of others) (All-head (IsPartOf version) first.items (items_of others) own))
    ∙ ap (λ (ps : List Part). joined_as version (items_of ps)) (sym same)

-- there are fewer parts than the limit, and their joined capture is within it
pub few_within : (version : Version) (parts : List Part) (limit : ℕ) → All (IsPartOf version) (items_of parts) → 16 + bytes_of (items_of parts) ≤ limit
    → length parts ≤ limit
few_within version parts limit good within =
    omega (arith, few_parts version (items_of parts) good, within, length-map parts (λ (part : Part). part.items))

-- ---- what is read of the joined capture

-- what parts come to, as frames or as a fault
abbrev read_as : ParsedParts → Result (List PlacedFrame) PartFault
read_as read = unless read.fault (joined_frames read.frames)

no_fault : (fault : Option PartFault) (units frames : List PlacedFrame) → unless fault units ≡ Ok frames → fault ≡ None
no_fault None units frames is = refl
no_fault (Some found) units frames is = absurd (cc)

-- the frames of parts that have no fault are those of their joined capture
same_frames : (version : Version) (parts : List (List ℕ)) (frames : List PlacedFrame) → All (IsPartOf version) parts → frames_of_parts parts ≡ Ok frames
    → frames_of_parts (joined_as version parts ∷ []) ≡ Ok frames
same_frames version parts frames good read =
    let same = All-weaker (IsPartOf version) (λ part. header_at part ≡ Ok version) (λ part is. is.0) parts good in
    let fault = no_fault (wholes_of parts).fault (joined_frames (wholes_of parts).frames) frames read in
    ap read_as (parts_joined whole_parser whole_wide version parts (taken_of_same version parts same) fault) ∙ read

frames_if_ok : {W F : Type 0} (read : Result W F) → is_ok read ≡ true → (frames : W) × (read ≡ Ok frames)
frames_if_ok (Ok frames) ok = (frames, refl)
frames_if_ok (Err found) ok = absurd (cc)

-- so are the answer and the status
pub same_answer : (version : Version) (parts : List (List ℕ)) → All (IsPartOf version) parts → IsOk (frames_of_parts parts)
    → (answer (joined_as version parts ∷ []) ≡ answer parts) × (0 ≡ reading_status (frames_of_parts (joined_as version parts ∷ [])))
same_answer version parts good ok =
    let read = frames_if_ok (frames_of_parts parts) ok in
    let same = same_frames version parts read.0 good read.1 in
    (answer_of (joined_as version parts ∷ []) (Ok read.0) same ∙ sym (answer_of parts (Ok read.0) read.1), sym (ap reading_status same))

-- ---- what is given

-- parts that were read as stretches of the one file give their joined capture
pub one_file_given : (had : List (Option (List ℕ))) (parts : List (List ℕ)) → AreOfOneFile had parts
    → (version : Version) × All (IsPartOf version) parts × FilesGive had (Ok (joined_as version parts ∷ []))
one_file_given [] parts read = absurd read
one_file_given (known ∷ []) parts read =
    let whole = joined_as read.version parts in (
      read.version,
      read.same,
      (
        ((read.are, tt), omega (arith, joined_short read.version parts, read.within, sum_by-cons length whole [])),
        All-cons IsBytes whole [] (joined_bytes read.version parts read.some read.same) (All-nil IsBytes),
      ),
    )
one_file_given (known ∷ other ∷ more) parts read = absurd read

-- an error of reading a stretch is one that files may give
pub stretch_gives : (known : List (Option (List ℕ))) (error : RunError) → IsStretchError (λ e. ⊤) error → FilesGive known (Err error)
stretch_gives known Memory fault = tt
stretch_gives known TooLarge fault = absurd fault
stretch_gives known Read fault = tt
stretch_gives known Write fault = absurd fault
stretch_gives known Open fault = tt
