-- Lemmas about how a run ends: from readers to their files, from one form of the capture or of the answer to another,
-- and if a line could not be written.
use Rattle.std.proofs.Common.{◌≡◌, ℕ, ◌+◌, ◌<◌, List, [], ◌∷◌, ◌++◌, length, map, take, get_or, Vec, Global, Bor, Option, Some, None, Result, Ok, Err, refl, sym, ap, ap₂, subst, ◌∙◌, arith}
use Rattle.std.specs.Io.KnownBytes.{Appends}
use Rattle.std.specs.List.{AllZip}
use Rattle.std.proofs.lemmas.List.{length-map, map-append, take_more}
use Rattle.std.proofs.lemmas.Slice.Zip.{AllZip-long}
use Rattle.streams.specs.declared.run_error.RunError.{RunError}
use Rattle.streams.specs.declared.run_error.RunError.TheVariants.{Memory, TooLarge, Read, Write, Open}
use Rattle.streams.specs.KnownBytes.{AppendsPrefix}
use Rattle.streams.specs.Parts.{IsAllOf}
use Rattle.audit_run.specs.PartRuns.{FilesGive, IsOpeningError, ReadersGive}
use Rattle.audit_run.specs.Store.{HasLeft}
use Rattle.audit_run.specs.Run.{RunEnds, Writes, given, none_given}

-- a part is all of what is known of its file, if its reader had all of that left
all_known : (known left : List (Option (List ℕ))) (parts : List (List ℕ)) → AllZip HasLeft known left → AllZip IsAllOf left parts
    → AllZip IsAllOf known parts
all_known [] [] parts has read = read
all_known [] (l ∷ left) parts has read = absurd has
all_known (k ∷ known) [] parts has read = absurd has
all_known (k ∷ known) (l ∷ left) [] has read = absurd read
all_known (None ∷ known) (l ∷ left) (p ∷ parts) has read = (tt, all_known known left parts has.1 read.1)
all_known (Some bytes ∷ known) (l ∷ left) (p ∷ parts) has read = (rw has.0 at read.0, all_known known left parts has.1 read.1)

-- if the bytes of all files are known, their readers had just these left
left_of_known : (known left : List (Option (List ℕ))) (bytes : List (List ℕ)) → AllZip HasLeft known left → known ≡ map Some bytes
    → left ≡ map Some bytes
left_of_known [] [] bytes has is = is
left_of_known [] (l ∷ left) bytes has is = absurd has
left_of_known (k ∷ known) [] bytes has is = absurd has
left_of_known (k ∷ known) (l ∷ left) [] has is = absurd (cc)
left_of_known (k ∷ known) (l ∷ left) (b ∷ bytes) has is =
    let first : k ≡ Some b = cc in
    let rest : known ≡ map Some bytes = cc in
    ap₂ (λ x xs. x ∷ xs) (rw first at has.0) (left_of_known known left bytes has.1 rest)

-- an error that readers may give is one that their files may give
files_give : (known left : List (Option (List ℕ))) (error : RunError) → AllZip HasLeft known left → ReadersGive left (Err error)
    → FilesGive known (Err error)
files_give known left Memory has gives = gives
files_give known left TooLarge has gives = λ bytes is. gives bytes (left_of_known known left bytes has is)
files_give known left Read has gives = gives
files_give known left Write has gives = gives
files_give known left Open has gives = absurd gives

-- how a run on the readers ends is how the run on their files ends
pub run_on_files : {A : Type 0} (known left : List (Option (List ℕ))) (text_of : List (List ℕ) → List ℕ) (value_of : List (List ℕ) → A)
    (old new : Option (List ℕ)) (result : Result A RunError) → AllZip HasLeft known left
    → RunEnds (ReadersGive left) text_of value_of old new result → RunEnds (FilesGive known) text_of value_of old new result
run_on_files known left text_of value_of old new result has (given parts gives writes) =
    given parts ((all_known known left parts has gives.0.0, gives.0.1), gives.1) writes
run_on_files known left text_of value_of old new result has (none_given error gives is keeps) =
    none_given error (files_give known left error has gives) is keeps

-- an error of opening files is one that files may give
pub opening_gives : (known : List (Option (List ℕ))) (error : RunError) → IsOpeningError error → FilesGive known (Err error)
opening_gives known Memory fault = tt
opening_gives known TooLarge fault = absurd fault
opening_gives known Read fault = absurd fault
opening_gives known Write fault = absurd fault
opening_gives known Open fault = tt

has_next : {R : Type 0} (bytes_of : List ℕ → Option (List ℕ)) (remaining : R → Option (List ℕ)) (names : List (List ℕ)) (readers : List R)
    (name : List ℕ) (reader : R) → AllZip HasLeft (map bytes_of names) (map remaining readers) → HasLeft (bytes_of name) (remaining reader)
    → AllZip HasLeft (map bytes_of (names ++ name ∷ [])) (map remaining (readers ++ reader ∷ []))
has_next bytes_of remaining [] [] name reader each one = (one, tt)
has_next bytes_of remaining [] (r ∷ readers) name reader each one = absurd each
has_next bytes_of remaining (n ∷ names) [] name reader each one = absurd each
has_next bytes_of remaining (n ∷ names) (r ∷ readers) name reader each one =
    (each.0, has_next bytes_of remaining names readers name reader each.1 one)

-- with one file more, and its reader, each reader still has left what is known of its file
pub open_next : {F R : Type 0} (name_of : F → List ℕ) (bytes_of : List ℕ → Option (List ℕ)) (remaining : R → Option (List ℕ)) (files : List F)
    (readers : List R) (reader : R) (i : ℕ) (default : F) → i < length files
    → AllZip HasLeft (map bytes_of (map name_of (take i files))) (map remaining readers)
    → HasLeft (bytes_of (name_of (get_or files i default))) (remaining reader)
    → AllZip HasLeft (map bytes_of (map name_of (take (i + 1) files))) (map remaining (readers ++ reader ∷ []))
open_next name_of bytes_of remaining files readers reader i default inside each one =
    rw (take_more files i default inside, map-append name_of (take i files) (get_or files i default ∷ []))
    (has_next bytes_of remaining (map name_of (take i files)) readers (name_of (get_or files i default)) reader each one)

-- there are as many readers as files
pub a_reader_each : {F R : Type 0} (name_of : F → List ℕ) (bytes_of : List ℕ → Option (List ℕ)) (remaining : R → Option (List ℕ)) (files : List F)
    (readers : List R) → AllZip HasLeft (map bytes_of (map name_of files)) (map remaining readers) → length readers ≡ length files
a_reader_each name_of bytes_of remaining files readers each =
    sym (length-map readers remaining) ∙ AllZip-long HasLeft (map bytes_of (map name_of files)) (map remaining readers) each
    ∙ length-map (map name_of files) bytes_of ∙ length-map files name_of

-- there are as many parts as readers
pub a_part_each : {R : Type 0} (remaining : R → Option (List ℕ)) (readers : List R) (parts : List (Vec ℕ Global))
    → AllZip IsAllOf (map remaining readers) (map (λ (part : Vec ℕ Global). part.items) parts) → length parts ≡ length readers
a_part_each remaining readers parts read =
    sym (length-map parts (λ (part : Vec ℕ Global). part.items))
    ∙ AllZip-long IsAllOf (map remaining readers) (map (λ (part : Vec ℕ Global). part.items) parts) read ∙ length-map readers remaining

-- there are as many slices as readers, so they are as few
pub few_slices : {R : Type 0} (remaining : R → Option (List ℕ)) (readers : List R) (parts : List (List ℕ)) (slices : List (Bor (List ℕ))) (most : ℕ)
    → AllZip IsAllOf (map remaining readers) parts → map (λ (slice : Bor (List ℕ)). slice.now) slices ≡ parts → length readers < most
    → length slices < most
few_slices remaining readers parts slices most read same few =
    let many = AllZip-long IsAllOf (map remaining readers) parts read ∙ length-map readers remaining in
    let one_each = sym (length-map slices (λ (slice : Bor (List ℕ)). slice.now)) ∙ ap length same in
    omega (arith, many, one_each, few)

-- a run that ends with an error, said of the capture in another form, on which the same text is to be written
pub broken_by : {C D A B : Type 0} (text_of : C → List ℕ) (value_of : C → A) (other_text : D → List ℕ) (other_value : D → B) (read : C) (form : D)
    (old new : Option (List ℕ)) (error : RunError) → text_of read ≡ other_text form → Writes text_of value_of read old new (Err error)
    → Writes other_text other_value form old new (Err error)
broken_by text_of value_of other_text other_value read form old new Memory same breaks = breaks
broken_by text_of value_of other_text other_value read form old new TooLarge same breaks = breaks
broken_by text_of value_of other_text other_value read form old new Read same breaks = breaks
broken_by text_of value_of other_text other_value read form old new Write same breaks = subst (AppendsPrefix old new) same breaks
broken_by text_of value_of other_text other_value read form old new Open same breaks = breaks

-- the end of a run that is Ok, with another kind of value
pub runs_to : {C A B : Type 0} (Gives : Result C RunError → Type 0) (text_of : C → List ℕ) (value_of : C → A) (other_value : C → B)
    (old new : Option (List ℕ)) (value : A) (other : B) → ((read : C) → value ≡ value_of read → other ≡ other_value read)
    → RunEnds Gives text_of value_of old new (Ok value) → RunEnds Gives text_of other_value old new (Ok other)
runs_to Gives text_of value_of other_value old new value other same (given read gives writes) =
    given read gives (writes.0, same read writes.1)
runs_to Gives text_of value_of other_value old new value other same (none_given error gives is keeps) = absurd (cc)

abbrev error_of : (A : Type 0) → RunError → Result A RunError
error_of A error = Err error

same_error : (A : Type 0) (error other : RunError) → error_of A error ≡ error_of A other → error ≡ other
same_error A error other is = cc

-- the end of a run that ends with an error, for another kind of value
pub runs_out : {C A B : Type 0} (Gives : Result C RunError → Type 0) (text_of : C → List ℕ) (value_of : C → A) (other_value : C → B)
    (old new : Option (List ℕ)) (error : RunError) → RunEnds Gives text_of value_of old new (Err error)
    → RunEnds Gives text_of other_value old new (Err error)
runs_out Gives text_of value_of other_value old new error (given read gives breaks) =
    given read gives (broken_by text_of value_of text_of other_value read read old new error refl breaks)
runs_out {C} {A} {B} Gives text_of value_of other_value old new error (none_given other gives is keeps) =
    none_given other gives (ap (error_of B) (same_error A error other is)) keeps

-- a run ends with `Write` if the line that is to be written was written only in part
pub line_begun : {C A : Type 0} (text_of : C → List ℕ) (value_of : C → A) (read : C) (line : List ℕ) (error : RunError) (old new : Option (List ℕ))
    → text_of read ≡ line → error ≡ Write → AppendsPrefix old new line → Writes text_of value_of read old new (Err error)
line_begun text_of value_of read line error old new right is begun =
    subst (λ (e : RunError). Writes text_of value_of read old new (Err e)) (sym is) (subst (AppendsPrefix old new) (sym right) begun)

-- a run is Ok if the text that is to be written was written whole, and the value is the one that is to be returned
pub line_written : {C A : Type 0} (text_of : C → List ℕ) (value_of : C → A) (read : C) (line : List ℕ) (value : A) (old new : Option (List ℕ))
    → text_of read ≡ line → value ≡ value_of read → Appends old new line → Writes text_of value_of read old new (Ok value)
line_written text_of value_of read line value old new right is written = (subst (Appends old new) (sym right) written, is)
