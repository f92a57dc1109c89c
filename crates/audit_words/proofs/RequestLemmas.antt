-- Lemmas on what the rows that clap found ask for.
use Rattle.std.proofs.Common.{◌≡◌, ℕ, ◌<◌, ◌≤◌, ◌^◌, List, length, map, Option, Some, None, IfSome, IfNone, codes, arith, ap, refl, sym, ◌∙◌, option_map, ◌⊎◌, inl, inr}
use Rattle.std.proofs.lemmas.List.{length-map}
use Rattle.std.specs.Str.Parse.{ParsesUnsigned, ExplainsUnsignedError, HasUnsignedDigitsIfOk, IsNumeral, digits_value, without_leading_plus}
use Rattle.std.specs.declared.num.ParseIntError.{ParseIntError}
use Rattle.std.specs.declared.result.Result.{Result}
use Rattle.std.specs.Borrow.{Bor}
use Rattle.clap.specs.Words.{ReadsOne, Row, Text, all_of, one_of}
use Rattle.audit_words.specs.CommandLine.{AsksReport, HasNumbers, NamesFiles, ReadsNumber}
use Rattle.audit_words.specs.declared.request.Question.{Question}
use Rattle.audit_words.specs.declared.request.Question.TheVariants.{Report, FirstFault}
use Rattle.audit_words.specs.declared.request.Request.{Request}

pub IfNone-always : {T : Type 0} {P : Type 0} (o : Option T) → P → IfNone o P
IfNone-always None p = p
IfNone-always (Some x) p = tt

-- what `get_one` gives at a `u64`
abbrev pub GivesU64 : Text → Result ℕ ParseIntError → Type 0
GivesU64 bs r = ParsesUnsigned 64 10 bs r × ExplainsUnsignedError 10 bs r × HasUnsignedDigitsIfOk bs r

module _ (name : Text) (rows : List Row) where
  pub number_read : (o : Option Text) (r : Option ℕ) → o ≡ one_of name rows → (o ≡ None → r ≡ None)
      → ((t : Text) → o ≡ Some t → ReadsOne GivesU64 t r) → IfSome r (ReadsNumber name rows)
  number_read o None is_text none value = tt
  number_read None (Some n) is_text none value = let bad : Some n ≡ None = none refl in absurd (cc)
  number_read (Some t) (Some n) is_text none value =
      let given = value t refl in (t, sym is_text, given.0.0.0, given.0.1)

  not_read : (t : Text) (n : ℕ) → ReadsNumber name rows n → Some t ≡ one_of name rows
      → ¬ (IsNumeral 10 (without_leading_plus t) × (digits_value 10 (without_leading_plus t) < 2 ^ 64)) → 2 ^ 64 ≤ n
  not_read t n reads is_text unread =
      let same : Some reads.0 ≡ Some t = sym reads.1 ∙ sym is_text in
      let text_is : reads.0 ≡ t = cc in
      let numeral = rw text_is at reads.2 in
      let value = rw text_is at reads.3 in
      let large : digits_value 10 (without_leading_plus t) < 2 ^ 64 → ⊥ = λ small. unread (numeral, small) in
      omega arith

  pub number_large : (o : Option Text) (r : Option ℕ) → o ≡ one_of name rows → (o ≡ None → r ≡ None)
      → ((t : Text) → o ≡ Some t → ReadsOne GivesU64 t r) → IfNone r ((n : ℕ) → ReadsNumber name rows n → 2 ^ 64 ≤ n)
  number_large o (Some n) is_text none value = tt
  number_large None None is_text none value =
      λ n reads. let bad : Some reads.0 ≡ None = sym reads.1 ∙ sym is_text in absurd (cc)
  number_large (Some t) None is_text none value = λ n reads. not_read t n reads is_text (value t refl).1.0

-- what `get_strs` gives are the files that the rows name, none, or too many
pub files_read : (rows : List Row) (o : Option (Bor (List (Bor Text)))) (files : Bor (List (Bor Text)))
    → option_map (λ s. map (λ v. v.now) s.now) o ≡ all_of (codes "files") rows → o ≡ Some files → length files.now ≤ 256
    → NamesFiles rows (map (λ v. v.now) files.now)
files_read rows o files is some most =
    let long = length-map files.now (λ (v : Bor Text). v.now) in
    let named : all_of (codes "files") rows ≡ Some (map (λ v. v.now) files.now) = sym is ∙ ap (option_map (λ s. map (λ v. v.now) s.now)) some in
    (named, omega (arith, long, most))

pub files_missing : (rows : List Row) (o : Option (Bor (List (Bor Text))))
    → option_map (λ s. map (λ v. v.now) s.now) o ≡ all_of (codes "files") rows → o ≡ None → (files : List Text) → ¬ NamesFiles rows files
files_missing rows o is none files names =
    let missing : all_of (codes "files") rows ≡ None = sym is ∙ ap (option_map (λ s. map (λ v. v.now) s.now)) none in
    let bad : Some files ≡ None = sym names.0 ∙ missing in absurd (cc)

pub files_too_many : (rows : List Row) (o : Option (Bor (List (Bor Text)))) (files : Bor (List (Bor Text)))
    → option_map (λ s. map (λ v. v.now) s.now) o ≡ all_of (codes "files") rows → o ≡ Some files → (length files.now ≤ 256 → ⊥)
    → (others : List Text) → ¬ NamesFiles rows others
files_too_many rows o files is some many others names =
    let named : all_of (codes "files") rows ≡ Some (map (λ v. v.now) files.now) = sym is ∙ ap (option_map (λ s. map (λ v. v.now) s.now)) some in
    let both : Some others ≡ Some (map (λ v. v.now) files.now) = sym names.0 ∙ named in
    let same : others ≡ map (λ v. v.now) files.now = cc in
    let long = ap length same ∙ length-map files.now (λ (v : Bor Text). v.now) in
    let most = names.1 in
    many (omega (arith, long, most))

-- without its two numbers no report is asked for
module _ (rows : List Row) where
  no_number : (question : Question) → HasNumbers rows question
      → ((n : ℕ) → ReadsNumber (codes "workers") rows n → 2 ^ 64 ≤ n)
      ⊎ ((n : ℕ) → ReadsNumber (codes "piece") rows n → 2 ^ 64 ≤ n) → ⊥
  no_number (Report workers piece) has (inl large) =
      let big = large workers.number has.0 in let small = workers.at_most_64 in omega arith
  no_number (Report workers piece) has (inr large) =
      let big = large piece.frames has.1 in let small = piece.at_most_65536 in omega arith
  no_number FirstFault has large = has

  pub no_workers : ((n : ℕ) → ReadsNumber (codes "workers") rows n → 2 ^ 64 ≤ n) → (request : Request) → ¬ AsksReport rows request
  no_workers large request asks = no_number request.question asks.0 (inl large)

  pub no_piece : ((n : ℕ) → ReadsNumber (codes "piece") rows n → 2 ^ 64 ≤ n) → (request : Request) → ¬ AsksReport rows request
  no_piece large request asks = no_number request.question asks.0 (inr large)
