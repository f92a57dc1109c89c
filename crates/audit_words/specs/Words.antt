-- What the words of a report and of `first-fault` ask for (docs/REPORT.md).
use Rattle.std.specs.Prelude.{◌≡◌, ◌≢◌, ◌↔◌, ℕ, ◌≤◌, List, [], ◌∷◌, ◌++◌, All, length, Some, codes, slice_get}
use Rattle.std.specs.Str.Parse.{IsNumeral, digits_value, without_leading_plus}
use Rattle.clap.specs.Words.{Text}
use Rattle.audit_words.specs.Request.{names_of}
use Rattle.audit_words.specs.declared.request.Question.{Question}
use Rattle.audit_words.specs.declared.request.Question.TheVariants.{Report, FirstFault}
use Rattle.audit_words.specs.declared.request.Request.{Request}
use Rattle.audit_words.specs.CommandLine.{Ask, AskForNothing}

-- the name does not begin with a hyphen (45)
abbrev pub IsPlain : Text → Type 0
IsPlain name = slice_get name 0 ≢ Some 45

-- there are as many names as a command line may have: 1 to 256
abbrev pub AreSome : List Text → Type 0
AreSome names = (1 ≤ length names) × (length names ≤ 256)

-- the text is a number from 1 to `most` in decimal digits, and may begin with a plus
abbrev pub Spells : ℕ → Text → ℕ → Type 0
Spells most text n = IsNumeral 10 (without_leading_plus text) × (n ≡ digits_value 10 (without_leading_plus text))
    × (1 ≤ n) × (n ≤ most)

-- The words are the options of a report by this many workers, who take pieces of this many frames: none of the two
-- options, one, or both in either order. Without them the numbers are 4 and 256.
pub data AreOptions (options : List Text) (workers piece : ℕ) : Type 0 where
  neither : options ≡ [] → workers ≡ 4 → piece ≡ 256 → AreOptions options workers piece
  workers_alone : (text : Text) → Spells 64 text workers → options ≡ codes "--workers" ∷ text ∷ [] → piece ≡ 256
      → AreOptions options workers piece
  piece_alone : (text : Text) → Spells 65536 text piece → options ≡ codes "--piece" ∷ text ∷ [] → workers ≡ 4
      → AreOptions options workers piece
  workers_first : (text other : Text) → Spells 64 text workers → Spells 65536 other piece
      → options ≡ codes "--workers" ∷ text ∷ codes "--piece" ∷ other ∷ [] → AreOptions options workers piece
  piece_first : (text other : Text) → Spells 65536 text piece → Spells 64 other workers
      → options ≡ codes "--piece" ∷ text ∷ codes "--workers" ∷ other ∷ [] → AreOptions options workers piece

-- the question is for the report, by this many workers, who take pieces of this many frames
abbrev pub IsReportBy : ℕ → ℕ → Question → Type 0
IsReportBy workers piece (Report by of) = (by.number ≡ workers) × (of.frames ≡ piece)
IsReportBy workers piece FirstFault = ⊥

-- the words ask for something, and just for an answer to this question about the files of these names, in this order
abbrev pub AskJust : List Text → (Question → Type 0) → List Text → Type 0
AskJust words IsAsked names =
    ((asked : Request) × Ask words asked)
    × ((asked : Request) → Ask words asked ↔ (IsAsked asked.question × (names_of asked ≡ names)))

-- `report`, then options, then 1 to 256 names, ask just for the report on these files by the numbers of the options
abbrev pub ReportAsks : Type 0
ReportAsks = (own : Text) (options names : List Text) (workers piece : ℕ) → AreOptions options workers piece → All IsPlain names
    → AreSome names → AskJust (own ∷ codes "report" ∷ (options ++ names)) (IsReportBy workers piece) names

-- `first-fault`, then 1 to 256 names, ask just for the first fault of these files
abbrev pub FirstFaultAsks : Type 0
FirstFaultAsks = (own : Text) (names : List Text) → All IsPlain names → AreSome names
    → AskJust (own ∷ codes "first-fault" ∷ names) (λ question. question ≡ FirstFault) names

-- with no name, or with more than 256, the words ask for nothing
abbrev pub OthersAskForNothing : Type 0
OthersAskForNothing = (own : Text) (options names : List Text) (workers piece : ℕ) → AreOptions options workers piece
    → All IsPlain names → ¬ AreSome names
    → AskForNothing (own ∷ codes "report" ∷ (options ++ names)) × AskForNothing (own ∷ codes "first-fault" ∷ names)
