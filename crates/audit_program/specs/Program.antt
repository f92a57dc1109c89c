-- How the program ends on the words of a command line: what was written to standard output and to standard error, and
-- the status (docs/REPORT.md). Of a stream whose bytes no contract can say, for example a terminal, nothing is said.
use Rattle.std.specs.Prelude.{◌≡◌, ℕ, Bool, true, List, map, string_bytes, Option, Result, Ok, Err}
use Rattle.std.specs.IoError.{error_kind}
use Rattle.std.specs.Vec.Iter.{into_iter_items}
use Rattle.std.specs.declared.io.Error.{Error}
use Rattle.std.specs.declared.string.String.{String}
use Rattle.std.specs.declared.vec.IntoIter.{IntoIter}
use Rattle.std.specs.Io.KnownBytes.{Appends, Keeps}
use Rattle.clap.specs.Words.{Text}
use Rattle.streams.specs.declared.run_error.RunError.{RunError}
use Rattle.streams.specs.declared.run_error.RunError.TheVariants.{Memory}
use Rattle.streams.specs.KnownBytes.{AppendsPrefix}
use Rattle.transaction_view.specs.Grammar.{frames_of_parts}
use Rattle.audit_words.specs.Request.{names_of}
use Rattle.audit_words.specs.CommandLine.{Ask, AskForNothing}
use Rattle.audit_run.specs.Question.{answer_to, reading_status}
use Rattle.audit_run.specs.PartRuns.{FilesGive}
use Rattle.audit_run.specs.Run.{RunEnds}
use Rattle.audit_run.specs.Store.{unknown}
use Rattle.audit_words.specs.declared.request.Request.{Request}
use Rattle.streams.specs.declared.failure.Failure.{Failure}
use Rattle.streams.specs.declared.failure.Failure.TheVariants.{Usage, Run}
use Rattle.streams.specs.Failure.{line_of, status_of}
use Rattle.audit_program.specs.Failure.{failure_of_words}

-- A run on the files of a request, in the order in which it names them, ends so (`RunEnds`). `bytes_of` gives the bytes
-- of the file of a name, if it is known which these are.
abbrev pub RunsOnFiles : (Text → Option (List ℕ)) → Request → Option (List ℕ) → Option (List ℕ) → Result ℕ RunError → Type 0
RunsOnFiles bytes_of asked old new result =
    RunEnds (FilesGive (map bytes_of (names_of asked))) (answer_to asked.question)
    (λ parts. reading_status (frames_of_parts parts)) old new result

-- the words ask for something, and a run on the files that they name has written the whole answer, with this status
abbrev pub AnswersWords : (Text → Option (List ℕ)) → List Text → Option (List ℕ) → Option (List ℕ) → ℕ → Type 0
AnswersWords bytes_of words old new status =
    (asked : Request) × Ask words asked × RunsOnFiles bytes_of asked old new (Ok status)

-- What a failure leaves on standard output. With `Usage`, the words ask for nothing, and standard output is unchanged.
-- With `Memory`, the words may be any, and it is unchanged too. With any other error, the words ask for something, and
-- a run on the files that they name has ended with that error: after `Write` standard output has grown by a beginning
-- of an answer, and after the others it is unchanged.
abbrev pub FailureLeaves : (Text → Option (List ℕ)) → List Text → Option (List ℕ) → Option (List ℕ) → Failure → Type 0
FailureLeaves bytes_of words old new Usage = AskForNothing words × Keeps old new
FailureLeaves bytes_of words old new (Run Memory) = Keeps old new
FailureLeaves bytes_of words old new (Run error) =
    (asked : Request) × Ask words asked × RunsOnFiles bytes_of asked old new (Err error)

-- What standard error has of a line: a beginning, which can be nothing or the whole line; and if the writer took it
-- (`taken`), the whole line.
abbrev pub Tells : Bool → Option (List ℕ) → Option (List ℕ) → List ℕ → Type 0
Tells taken old new line = AppendsPrefix old new line × (taken ≡ true → Appends old new line)

-- How the program ends on these words: the bytes of standard output and of standard error before and after, the status,
-- and whether standard error took the line of a failure (`taken`, true if there is none). `bytes_of` gives the bytes of
-- the file of a name, if it is known which these are. With an answer, standard error is unchanged. With a failure, it
-- tells the failure's line (`Tells`). By status:
-- 0: the words ask for the report, and it was written; or for the first fault, and `no malformed record` was written.
-- 2: the words ask for either, and the line that names the first fault was written.
-- 3: `Memory`, whatever the words are.
-- 4: `Open`, `Read`, `TooLarge` or `Write`, and the words ask for something.
-- 64: `Usage`, and the words ask for nothing or clap does not take them.
pub data ProgramEnds (bytes_of : Text → Option (List ℕ)) (words : List Text)
    (out out_after err err_after : Option (List ℕ)) (status : ℕ) (taken : Bool) : Type 0 where
  answered : AnswersWords bytes_of words out out_after status → Keeps err err_after → taken ≡ true
      → ProgramEnds bytes_of words out out_after err err_after status taken
  failed : (failure : Failure) → FailureLeaves bytes_of words out out_after failure
      → Tells taken err err_after (line_of failure) → status ≡ status_of failure
      → ProgramEnds bytes_of words out out_after err err_after status taken

-- How the program ends on these words, if the files are those of the system, and it is not said whether standard error
-- took a failure's line.
abbrev pub HostProgramEnds : List Text → Option (List ℕ) → Option (List ℕ) → Option (List ℕ) → Option (List ℕ) → ℕ
    → Type 0
HostProgramEnds words out out_after err err_after status =
    (taken : Bool) × ProgramEnds unknown words out out_after err err_after status taken

-- How the program ends on the words that the system gave. If it gave an error instead, standard output is unchanged,
-- and standard error and the status are as for the failure of that error (`failure_of_words`).
abbrev pub EndsOn : {A B : Type 0} → Result (IntoIter (String A) B) Error → Option (List ℕ) → Option (List ℕ)
    → Option (List ℕ) → Option (List ℕ) → ℕ → Type 0
EndsOn (Ok words) out out_after err err_after status =
    HostProgramEnds (map string_bytes (into_iter_items words)) out out_after err err_after status
EndsOn (Err error) out out_after err err_after status =
    Keeps out out_after × AppendsPrefix err err_after (line_of (failure_of_words (error_kind error)))
    × (status ≡ status_of (failure_of_words (error_kind error)))
