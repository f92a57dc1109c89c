-- The command line that clap reads, and what its words ask for (docs/REPORT.md). The rows are what clap found: each has
-- the name of an option or argument and its values.
use Rattle.std.specs.Prelude.{◌≡◌, ℕ, ◌≤◌, List, [], ◌∷◌, ◌⊎◌, length, Option, Some, None, true, codes}
use Rattle.std.specs.Str.Parse.{IsNumeral, digits_value, without_leading_plus}
use Rattle.clap.specs.Words.{App, Row, Rule, Text, all_of, fault_of, new_app, new_rule, one_of, subcommand_of, with_rule, with_subcommand}
use Rattle.clap.specs.Lexer.{usize_max}
use Rattle.clap.specs.declared.builder.action.ArgAction.TheVariants.{Set, Append}
use Rattle.clap.specs.declared.builder.value_parser.ValueParser.TheVariants.{Unsigned}
use Rattle.audit_words.specs.Request.{names_of}
use Rattle.audit_words.specs.declared.request.Question.{Question}
use Rattle.audit_words.specs.declared.request.Question.TheVariants.{Report, FirstFault}
use Rattle.audit_words.specs.declared.request.Request.{Request}

-- the option of this name: a number from 1 to `most`, by default the given one
abbrev pub number_rule : Text → ℕ → Text → Rule
number_rule name most default = record (new_rule name) {
  long = Some name;
  action = Some Set;
  parser = Some (Unsigned 1 most);
  defaults = default ∷ [];
}

-- the files: one at least must be given
abbrev pub files_rule : Rule
files_rule = record (new_rule (codes "files")) {
  action = Some Append;
  range = Some (record { start_inclusive = 1; end_inclusive = usize_max });
  required = true;
}

-- the subcommand `report`: 1 to 64 workers, by default 4; pieces of 1 to 65536 frames, by default 256; and the files
abbrev pub report_app : App
report_app = with_rule (with_rule (with_rule (new_app (codes "report"))
    (number_rule (codes "workers") 64 (codes "4"))) (number_rule (codes "piece") 65536 (codes "256"))) files_rule

-- the subcommand `first-fault`: the files alone
abbrev pub first_fault_app : App
first_fault_app = with_rule (new_app (codes "first-fault")) files_rule

-- the command `binder_audit` with its two subcommands
abbrev pub audit_app : App
audit_app = with_subcommand (with_subcommand (new_app (codes "binder_audit")) report_app.top) first_fault_app.top

-- the option of this name has the number n: its text is n in decimal digits, and may begin with a plus
abbrev pub ReadsNumber : Text → List Row → ℕ → Type 0
ReadsNumber name rows n =
    (text : Text) × (one_of name rows ≡ Some text) × IsNumeral 10 (without_leading_plus text) ×
    (n ≡ digits_value 10 (without_leading_plus text))

-- the rows name these files, in this order, and there are at most 256 of them
abbrev pub NamesFiles : List Row → List Text → Type 0
NamesFiles rows files = (all_of (codes "files") rows ≡ Some files) × (length files ≤ 256)

-- the question is for the report, by the numbers that the rows have for the two options
abbrev pub HasNumbers : List Row → Question → Type 0
HasNumbers rows (Report workers piece) =
    ReadsNumber (codes "workers") rows workers.number × ReadsNumber (codes "piece") rows piece.frames
HasNumbers rows FirstFault = ⊥

-- the rows of the subcommand `report` ask for this request
abbrev pub AsksReport : List Row → Request → Type 0
AsksReport rows request = HasNumbers rows request.question × NamesFiles rows (names_of request)

-- the rows of the subcommand `first-fault` ask for this request
abbrev pub AsksFirstFault : List Row → Request → Type 0
AsksFirstFault rows request = (request.question ≡ FirstFault) × NamesFiles rows (names_of request)

-- the subcommand of this name, with these rows, asks for this request; without a subcommand nothing is asked for
abbrev pub AsksFor : Option (Text × List Row) → Request → Type 0
AsksFor None request = ⊥
AsksFor (Some (name, rows)) request =
    ((name ≡ codes "report") × AsksReport rows request) ⊎ ((name ≡ codes "first-fault") × AsksFirstFault rows request)

-- the words ask for this request; the first word is the program's own name
abbrev pub WordsAskFor : List Text → Request → Type 0
WordsAskFor words request = AsksFor (subcommand_of audit_app words) request

-- clap takes the words: it finds no fault in them
abbrev pub AreTaken : List Text → Type 0
AreTaken words = fault_of audit_app words ≡ []

-- clap takes the words, and they ask for this request
abbrev pub Ask : List Text → Request → Type 0
Ask words asked = AreTaken words × WordsAskFor words asked

-- the words ask for nothing, or clap does not take them
abbrev pub AskForNothing : List Text → Type 0
AskForNothing words = (asked : Request) → ¬ Ask words asked
