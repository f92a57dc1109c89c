-- What the words of a report and of `first-fault` ask for.
use Rattle.std.proofs.Common.{◌≡◌, ◌∙◌, ℕ, ◌<◌, ◌≤◌, ◌^◌, true, false, refl, sym, ap, subst, arith, List, [], ◌∷◌, ◌++◌, map, length, Some, codes, nat_eq, nat_lt, inl, inr, lt-ltb, All, slice_index}
use Rattle.std.specs.List.{list_all}
use Rattle.std.specs.Borrow.{Bor}
use Rattle.std.specs.Char.{digit_value}
use Rattle.std.specs.Str.Parse.{AllDigits, IsNumeral, digits_value, without_leading_plus}
use Rattle.std.proofs.lemmas.Bool.{le-leb, ne_eqb}
use Rattle.std.proofs.lemmas.Bool.Decides.{eqb_tells}
use Rattle.std.proofs.lemmas.List.Elements.{All-head, All-tail}
use Rattle.clap.specs.Lexer.{usize_max}
use Rattle.clap.specs.ValueTests.{is_unsigned_in}
use Rattle.clap.specs.Words.{Row, Text, all_of, fault_of, one_of}
use Rattle.clap.specs.Walk.{rows_after}
use Rattle.clap.specs.declared.error.kind.ErrorKind.{ErrorKind}
use Rattle.audit_words.specs.Request.{names_of}
use Rattle.audit_words.specs.declared.request.Question.{Question}
use Rattle.audit_words.specs.declared.request.Question.TheVariants.{Report, FirstFault}
use Rattle.audit_words.specs.declared.request.Request.{Request}
use Rattle.audit_words.specs.CommandLine.{AsksFor, HasNumbers, NamesFiles, audit_app}
use Rattle.audit_words.specs.CommandLine.{Ask}
use Rattle.audit_words.specs.Words.{AreOptions, FirstFaultAsks, IsPlain, IsReportBy, OthersAskForNothing, ReportAsks, Spells, neither, piece_alone, piece_first, workers_alone, workers_first}
use Rattle.audit_words.proofs.WordWalk.{HaveNumbers, IsName, Stage, first_fault, first_fault_fault, first_fault_rows, first_fault_stage, piece_stage, piece_workers_stage, report, report_fault, report_rows, report_stage, stage_lacks, stage_rows, stage_taken, workers_piece_stage, workers_stage}

-- ---- names and numbers

plain_name : (name : Text) → IsPlain name → IsName name
plain_name [] is = refl
plain_name (x ∷ xs) is =
    let other : nat_eq x 45 ≡ false = ne_eqb x 45 (λ e. is (ap Some e)) in rw other refl

plain_names : (names : List Text) → All IsPlain names → All IsName names
plain_names names are k d inside = plain_name _ (are k d inside)

-- no digit is a hyphen
number_name : (text : Text) → IsNumeral 10 (without_leading_plus text) → IsName text
number_name [] numeral = refl
number_name (x ∷ xs) numeral = elim (eqb_tells x 45) [
  | inl same ↦ let digits = rw same.1 at numeral in absurd (omega (arith, digits.1.0))
  | inr other ↦ rw other.0 refl
]

digits_pass : (ds : List ℕ) → AllDigits 10 ds → list_all (λ d. nat_lt (digit_value d) 10) ds ≡ true
digits_pass [] h = refl
digits_pass (d ∷ ds) h = rw (lt-ltb (digit_value d) 10 h.0) (digits_pass ds h.1)

-- clap takes a number within its bounds
accepted : (most : ℕ) (text : Text) (n : ℕ) → most ≤ 65536 → Spells most text n → is_unsigned_in 1 most text ≡ true
accepted most text n few spells =
    let ds = without_leading_plus text in
    let is = spells.1 in
    let least : 1 ≤ digits_value 10 ds = (let l = spells.2 in omega (arith, is, l)) in
    let within : digits_value 10 ds ≤ most = (let m = spells.3 in omega (arith, is, m)) in
    let fits : digits_value 10 ds < 2 ^ 64 = omega (arith, within, few) in
    rw (
      lt-ltb 0 (length ds) spells.0.0,
      digits_pass ds spells.0.1,
      lt-ltb (digits_value 10 ds) (2 ^ 64) fits,
      le-leb 1 (digits_value 10 ds) least,
      le-leb (digits_value 10 ds) most within,
    ) refl

-- ---- options

-- the texts of the two numbers, and how clap reads the options
record Read (options : List Text) (workers piece : ℕ) : Type 0 where
  workers_text : Text
  piece_text : Text
  stage : Stage report options (HaveNumbers workers_text piece_text)
  workers_spelled : Spells 64 workers_text workers
  piece_spelled : Spells 65536 piece_text piece

four : (n : ℕ) → n ≡ 4 → Spells 64 (codes "4") n
four n is = ((omega arith, (omega arith, tt)), is, omega (arith, is), omega (arith, is))

two_hundred_and_56 : (n : ℕ) → n ≡ 256 → Spells 65536 (codes "256") n
two_hundred_and_56 n is = ((omega arith, (omega arith, (omega arith, (omega arith, tt)))), is, omega (arith, is), omega (arith, is))

module _ (options : List Text) (workers piece : ℕ) where
  read : AreOptions options workers piece → Read options workers piece
  read (neither are is_4 is_256) = record {
    workers_text = codes "4";
    piece_text = codes "256";
    stage = subst (λ o. Stage report o (HaveNumbers (codes "4") (codes "256"))) (sym are) report_stage;
    workers_spelled = four workers is_4;
    piece_spelled = two_hundred_and_56 piece is_256;
  }
  read (workers_alone text spells are is_256) = record {
    workers_text = text;
    piece_text = codes "256";
    stage = subst (λ o. Stage report o (HaveNumbers text (codes "256"))) (sym are)
        (workers_stage text (number_name text spells.0) (accepted 64 text workers (omega arith) spells));
    workers_spelled = spells;
    piece_spelled = two_hundred_and_56 piece is_256;
  }
  read (piece_alone text spells are is_4) = record {
    workers_text = codes "4";
    piece_text = text;
    stage = subst (λ o. Stage report o (HaveNumbers (codes "4") text)) (sym are)
        (piece_stage text (number_name text spells.0) (accepted 65536 text piece (omega arith) spells));
    workers_spelled = four workers is_4;
    piece_spelled = spells;
  }
  read (workers_first text other spells other_spells are) = record {
    workers_text = text;
    piece_text = other;
    stage = subst (λ o. Stage report o (HaveNumbers text other)) (sym are)
        (workers_piece_stage text other (number_name text spells.0) (number_name other other_spells.0)
        (accepted 64 text workers (omega arith) spells) (accepted 65536 other piece (omega arith) other_spells));
    workers_spelled = spells;
    piece_spelled = other_spells;
  }
  read (piece_first text other spells other_spells are) = record {
    workers_text = other;
    piece_text = text;
    stage = subst (λ o. Stage report o (HaveNumbers other text)) (sym are)
        (piece_workers_stage other text (number_name other other_spells.0) (number_name text spells.0)
        (accepted 64 other workers (omega arith) other_spells) (accepted 65536 text piece (omega arith) spells));
    workers_spelled = other_spells;
    piece_spelled = spells;
  }

-- ---- what the rows ask for

not_both : codes "report" ≡ codes "first-fault" → ⊥
not_both e = let first : 114 ≡ 102 = ap (λ t. slice_index t 0) e in absurd (omega (arith, first))

same_number : (rows : List Row) (name text : Text) (most n m : ℕ) → one_of name rows ≡ Some text → Spells most text n
    → (other : Text) → one_of name rows ≡ Some other → m ≡ digits_value 10 (without_leading_plus other) → m ≡ n
same_number rows name text most n m has spells other has_other value =
    let same : other ≡ text = (let both : Some other ≡ Some text = sym has_other ∙ has in cc) in
    value ∙ ap (λ t. digits_value 10 (without_leading_plus t)) same ∙ sym spells.1

module _ (rows : List Row) (workers piece : Text) (w p : ℕ) (have : HaveNumbers workers piece rows) (spells_w : Spells 64 workers w)
    (spells_p : Spells 65536 piece p) where
  by_numbers : (question : Question) → HasNumbers rows question → IsReportBy w p question
  by_numbers (Report by of) has = (
    same_number rows (codes "workers") workers 64 w by.number have.0 spells_w has.0.0 has.0.1 has.0.3,
    same_number rows (codes "piece") piece 65536 p of.frames have.1 spells_p has.1.0 has.1.1 has.1.3,
  )
  by_numbers FirstFault has = absurd has

  has_numbers : (question : Question) → IsReportBy w p question → HasNumbers rows question
  has_numbers (Report by of) is = (
    (workers, have.0, spells_w.0, is.0 ∙ spells_w.1),
    (piece, have.1, spells_p.0, is.1 ∙ spells_p.1),
  )
  has_numbers FirstFault is = absurd is

same_names : (rows : List Row) (names others : List Text) → all_of (codes "files") rows ≡ Some names → all_of (codes "files") rows ≡ Some others
    → others ≡ names
same_names rows names others is is_other = let both : Some others ≡ Some names = sym is_other ∙ is in cc

-- the rows name these files, if they are few enough
named : (rows : List Row) (names others : List Text) → all_of (codes "files") rows ≡ Some names → length names ≤ 256 → others ≡ names
    → NamesFiles rows others
named rows names others is few same = (is ∙ ap Some (sym same), subst (λ (l : List Text). length l ≤ 256) (sym same) few)

module _ (rows : List Row) (names : List Text) (files : all_of (codes "files") rows ≡ Some names) (workers piece : Text) (w p : ℕ)
    (have : HaveNumbers workers piece rows) (spells_w : Spells 64 workers w) (spells_p : Spells 65536 piece p) where
  report_is : (asked : Request) → AsksFor (Some (codes "report", rows)) asked → IsReportBy w p asked.question × (names_of asked ≡ names)
  report_is asked (inl asks) =
      (by_numbers rows workers piece w p have spells_w spells_p asked.question asks.1.0, same_names rows names (names_of asked) files asks.1.1.0)
  report_is asked (inr asks) = absurd (not_both asks.0)

  asks_report : (asked : Request) → length names ≤ 256 → IsReportBy w p asked.question × (names_of asked ≡ names)
      → AsksFor (Some (codes "report", rows)) asked
  asks_report asked few is =
      inl (refl, (has_numbers rows workers piece w p have spells_w spells_p asked.question is.0, named rows names (names_of asked) files few is.1))

module _ (rows : List Row) (names : List Text) (files : all_of (codes "files") rows ≡ Some names) where
  fault_is : (asked : Request) → AsksFor (Some (codes "first-fault", rows)) asked → (asked.question ≡ FirstFault) × (names_of asked ≡ names)
  fault_is asked (inl asks) = absurd (not_both (sym asks.0))
  fault_is asked (inr asks) = (asks.1.0, same_names rows names (names_of asked) files asks.1.1.0)

  asks_fault : (asked : Request) → length names ≤ 256 → (asked.question ≡ FirstFault) × (names_of asked ≡ names)
      → AsksFor (Some (codes "first-fault", rows)) asked
  asks_fault asked few is = inr (refl, (is.0, named rows names (names_of asked) files few is.1))

  -- either way the rows name at most 256 files
  few_named : (name : Text) (asked : Request) → AsksFor (Some (name, rows)) asked → length names ≤ 256
  few_named name asked (inl asks) =
      subst (λ (l : List Text). length l ≤ 256) (same_names rows names (names_of asked) files asks.1.1.0) asks.1.1.1
  few_named name asked (inr asks) =
      subst (λ (l : List Text). length l ≤ 256) (same_names rows names (names_of asked) files asks.1.1.0) asks.1.1.1

-- ---- a request of these names

abbrev name_at : Text → Bor Text
name_at name = record { ref_ptr = (0, 0); now = name }

names_there : (names : List Text) → map (λ (file : Bor Text). file.now) (map name_at names) ≡ names
names_there [] = refl
names_there (name ∷ names) = ap (λ l. name ∷ l) (names_there names)

abbrev request : Question → List Text → Request
request question names = record { question = question; files = record { ref_ptr = (0, 0); now = map name_at names } }

report_by : (w p : ℕ) → 1 ≤ w → w ≤ 64 → 1 ≤ p → p ≤ 65536 → (question : Question) × IsReportBy w p question
report_by w p least_w most_w least_p most_p = (
  Report (record { number = w; at_least_one = least_w; at_most_64 = most_w }) (record { frames = p; at_least_one = least_p; at_most_65536 = most_p }),
  (refl, refl),
)

-- ---- the laws

no_fault : (kind : ErrorKind) → kind ∷ [] ≡ [] → ⊥
no_fault kind e = let long : 1 ≡ 0 = ap length e in absurd (omega (arith, long))

pub report_asks : ReportAsks
report_asks own options [] w p are plain some = (let least = some.0 in absurd (omega (arith, least)))
report_asks own options (name ∷ names) w p are plain some =
    let r = read options w p are in
    let names_are = plain_names (name ∷ names) plain in
    let is = All-head IsName name names names_are in
    let rest = All-tail IsName name names names_are in
    let words = options ++ name ∷ names in
    let found = stage_rows r.stage name names is rest in
    let most : length (name ∷ names) ≤ usize_max = (let m = some.1 in omega (arith, m)) in
    let taken : fault_of audit_app (own ∷ codes "report" ∷ words) ≡ [] = report_fault own words ∙ stage_taken r.stage name names is rest most in
    let rows = rows_after report.rules [] words in
    let by = report_by w p r.workers_spelled.2 r.workers_spelled.3 r.piece_spelled.2 r.piece_spelled.3 in
    let does : (asked : Request) → IsReportBy w p asked.question × (names_of asked ≡ name ∷ names) → Ask (own ∷ codes "report" ∷ words) asked
    = λ asked goes. (
      taken,
      subst (λ o. AsksFor o asked) (sym (report_rows own words))
          (asks_report rows (name ∷ names) found.0 r.workers_text r.piece_text w p found.1 r.workers_spelled r.piece_spelled asked some.1 goes),
    ) in (
      (request by.0 (name ∷ names), does (request by.0 (name ∷ names)) (by.1, names_there (name ∷ names))),
      λ asked. (
        λ asks. report_is rows (name ∷ names) found.0 r.workers_text r.piece_text w p found.1 r.workers_spelled r.piece_spelled asked
            (subst (λ o. AsksFor o asked) (report_rows own words) asks.1),
        does asked,
      ),
    )

pub first_fault_asks : FirstFaultAsks
first_fault_asks own [] plain some = (let least = some.0 in absurd (omega (arith, least)))
first_fault_asks own (name ∷ names) plain some =
    let names_are = plain_names (name ∷ names) plain in
    let is = All-head IsName name names names_are in
    let rest = All-tail IsName name names names_are in
    let found = stage_rows first_fault_stage name names is rest in
    let most : length (name ∷ names) ≤ usize_max = (let m = some.1 in omega (arith, m)) in
    let taken : fault_of audit_app (own ∷ codes "first-fault" ∷ name ∷ names) ≡ []
    = first_fault_fault own (name ∷ names) ∙ stage_taken first_fault_stage name names is rest most in
    let rows = rows_after first_fault.rules [] (name ∷ names) in
    let does : (asked : Request) → (asked.question ≡ FirstFault) × (names_of asked ≡ name ∷ names) → Ask (own ∷ codes "first-fault" ∷ name ∷ names) asked
    = λ asked goes. (
      taken,
      subst (λ o. AsksFor o asked) (sym (first_fault_rows own (name ∷ names))) (asks_fault rows (name ∷ names) found.0 asked some.1 goes),
    ) in (
      (request FirstFault (name ∷ names), does (request FirstFault (name ∷ names)) (refl, names_there (name ∷ names))),
      λ asked. (
        λ asks. fault_is rows (name ∷ names) found.0 asked (subst (λ o. AsksFor o asked) (first_fault_rows own (name ∷ names)) asks.1),
        does asked,
      ),
    )

pub others_ask_for_nothing : OthersAskForNothing
others_ask_for_nothing own options [] w p are plain others =
    let r = read options w p are in (
      λ asked asks. no_fault _ (sym (report_fault own (options ++ []) ∙ stage_lacks r.stage) ∙ asks.0),
      λ asked asks. no_fault _ (sym (first_fault_fault own [] ∙ stage_lacks first_fault_stage) ∙ asks.0),
    )
others_ask_for_nothing own options (name ∷ names) w p are plain others =
    let r = read options w p are in
    let names_are = plain_names (name ∷ names) plain in
    let is = All-head IsName name names names_are in
    let rest = All-tail IsName name names names_are in
    let words = options ++ name ∷ names in
    let least : 1 ≤ length (name ∷ names) = omega arith in (
      λ asked asks. others (
        least,
        few_named (rows_after report.rules [] words) (name ∷ names) (stage_rows r.stage name names is rest).0 (codes "report") asked
            (subst (λ o. AsksFor o asked) (report_rows own words) asks.1),
      ),
      λ asked asks. others (
        least,
        few_named (rows_after first_fault.rules [] (name ∷ names)) (name ∷ names) (stage_rows first_fault_stage name names is rest).0
            (codes "first-fault") asked (subst (λ o. AsksFor o asked) (first_fault_rows own (name ∷ names)) asks.1),
      ),
    )
