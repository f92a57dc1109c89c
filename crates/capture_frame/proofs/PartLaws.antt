-- The frames of parts are those of their joined capture.
use Rattle.std.proofs.Common.{All, subst, ◌≡◌, ℕ, ◌+◌, List, [], ◌∷◌, ◌++◌, length, drop, sum_by, flat_map, Option, Some, None, option_map, Result, Ok, Err, refl, sym, ap, ap₂, ◌∙◌, append-nil, length-append, length-drop, le-leb, arith}
use Rattle.std.proofs.lemmas.List.{drop-append-le}
use Rattle.std.proofs.lemmas.List.Concat.{flat_map-cons}
use Rattle.std.proofs.lemmas.List.Elements.{All-cons, All-head, All-nil, All-tail, All-weaker}
use Rattle.capture_frame.specs.declared.fault.Fault.{Fault}
use Rattle.capture_frame.specs.declared.fault.PartFault.{PartFault}
use Rattle.capture_frame.specs.declared.version.Version.{Version}
use Rattle.capture_frame.specs.declared.version.Version.TheVariants.{One, Two}
use Rattle.capture_frame.specs.Envelope.{FrameText, PlacedFrame, Before, in_version, file_header, number_at}
use Rattle.capture_frame.specs.Parts.{ParsedParts, header_at, frames_if, frames_of_part, last_of, one_part_on, part_and_later, parts_read, joined_as, Takes, TakesPart}
use Rattle.capture_frame.specs.ReadOn.{Parser, Parsed, with_unit, parsed_by}
use Rattle.capture_frame.specs.Units.{placed_at, placed, units_of}
use Rattle.capture_frame.proofs.ReadOnLaws.{HasWidths, by_units, unit_here, units_fill, units_of-placed, placed-append}

-- a parser of frames for which a good frame is good in every version that takes its own, at any place, and whatever follows it
pub record IsWide (parser : Parser Before FrameText) : Type 0 where
  pub widths : HasWidths parser
  pub after : (before : Before) (frame : FrameText) → parser.after before frame ≡ in_version before.version (Some frame.sequence)
  pub stays : (version : Version) (before : Before) (place other : ℕ) (bytes more : List ℕ) (frame : FrameText) → Takes version before.version
      → parser.first before place bytes ≡ Ok frame → parser.first (in_version version before.last) other (bytes ++ more) ≡ Ok frame

-- the file header of a version is good
header_joined : (version : Version) (bytes : List ℕ) → header_at (file_header version ++ bytes) ≡ Ok version
unfolding number_at
header_joined One bytes = rw (le-leb 16 (length (file_header One ++ bytes)) (omega arith)) refl
header_joined Two bytes = rw (le-leb 16 (length (file_header Two ++ bytes)) (omega arith)) refl

after_header : (version : Version) (bytes : List ℕ) → drop 16 (file_header version ++ bytes) ≡ bytes
after_header One bytes = refl
after_header Two bytes = refl

takes_itself : (version : Version) → Takes version version
takes_itself One = tt
takes_itself Two = tt

none_later : (fault : Option PartFault) → option_map one_part_on fault ≡ None → fault ≡ None
none_later None good = refl
none_later (Some found) good = let no : ⊥ = cc in absurd no

module _ (parser : Parser Before FrameText) (wide : IsWide parser) (version : Version) where
  -- these frames at this place, and then what comes later
  abbrev before_later : ℕ → List FrameText → Parsed FrameText → Parsed FrameText
  before_later place frames later = record { units = placed parser.width place frames ++ later.units; fault = later.fault }

  -- what bytes of this version come to, from this place and after this sequence on
  abbrev read_from : Option ℕ → ℕ → List ℕ → Parsed FrameText
  read_from last place bytes = parsed_by parser (in_version version last) place bytes

  -- bytes without a fault come to the same frames in this version and at any place, and then to what the bytes after them come to
  read_before : (before : Before) (place : ℕ) (bytes : List ℕ) → Takes version before.version → (parsed_by parser before place bytes).fault ≡ None
      → (other : ℕ) (more : List ℕ) → read_from before.last other (bytes ++ more)
      ≡ before_later other (units_of (parsed_by parser before place bytes).units)
      (read_from (last_of before.last (units_of (parsed_by parser before place bytes).units)) (other + length bytes) more)
  read_before = by_units parser wide.widths
      (λ before place bytes found. Takes version before.version → found.fault ≡ None → (other : ℕ) (more : List ℕ) → read_from before.last other (bytes ++ more)
      ≡ before_later other (units_of found.units) (read_from (last_of before.last (units_of found.units)) (other + length bytes) more))
      (λ before place takes good other more. ap (λ (p : ℕ). read_from before.last p more) (let e : other ≡ other + 0 = omega arith in e))
      (λ before place bytes fault some is takes good. let no : ⊥ = cc in absurd no)
      (λ before place bytes unit later some is others takes good other more.
      let w = parser.width unit in
      let fits = wide.widths.fits before place bytes unit is in
      let next = in_version version (Some unit.sequence) in
      let after = ap (λ (s : Before). in_version version s.last) (wide.after before unit) in
      let frames = units_of later.units in
      let far : other + w + length (drop w bytes) ≡ other + length bytes = omega (arith, length-drop w bytes) in
      unit_here parser (in_version version before.last) other (bytes ++ more) unit (omega (arith, length-append bytes more))
      (wide.stays version before place other bytes more unit takes is) (wide.widths.some unit)
      ∙ ap (with_unit (placed_at other unit))
      (ap₂ (λ (s : Before) (t : List ℕ). parsed_by parser s (other + w) t) (wide.after (in_version version before.last) unit) (drop-append-le w bytes more fits)
      ∙ ap (λ (s : Before). parsed_by parser s (other + w) (drop w bytes ++ more)) (sym after)
      ∙ others (rw (wide.after before unit) takes) good (other + w) more
      ∙ ap₂ (λ (l : Option ℕ) (p : ℕ). before_later (other + w) frames (read_from (last_of l frames) p more))
      (ap (λ (s : Before). s.last) (wide.after before unit)) far))

  -- where a part and the later parts have no fault, neither has one, and the part's file header is good
  none_of_both : (frames : List FrameText) (fault : Option Fault) (later : ParsedParts) → (part_and_later frames fault later).fault ≡ None
      → (fault ≡ None) × (later.fault ≡ None)
  none_of_both frames (Some fault) later good = let no : ⊥ = cc in absurd no
  none_of_both frames None later good = (refl, none_later later.fault good)

  good_header : (last : Option ℕ) (part : List ℕ) (judged : Result Version Fault) → (frames_if parser last part judged).fault ≡ None
      → (named : Version) × (judged ≡ Ok named)
  good_header last part (Ok named) good = (named, refl)
  good_header last part (Err fault) good = let no : ⊥ = cc in absurd no

  -- the bytes after the file headers of parts without a fault come to the frames of the parts
  parts_read_on : (parts : List (List ℕ)) (place : ℕ) (last : Option ℕ) → All (TakesPart version) parts → (parts_read parser last parts).fault ≡ None
      → read_from last place (flat_map (drop 16) parts) ≡ record { units = placed parser.width place (parts_read parser last parts).frames; fault = None }
  parts_read_on [] place last takes good = refl
  parts_read_on (part ∷ parts) place last takes good =
      let first = frames_of_part parser last part in
      let us = units_of first.units in
      let later = parts_read parser (last_of last us) parts in
      let both = none_of_both us first.fault later good in
      let header = good_header last part (header_at part) both.0 in
      let found = parsed_by parser (in_version header.0 last) 16 (drop 16 part) in
      let same : first ≡ found = ap (frames_if parser last part) header.1 in
      let fault : found.fault ≡ None = sym (ap (λ (p : Parsed FrameText). p.fault) same) ∙ both.0 in
      let rest = flat_map (drop 16) parts in
      let end = place + length (drop 16 part) in
      let fill : sum_by parser.width us ≡ length (drop 16 part) =
      ap (λ (p : Parsed FrameText). sum_by parser.width (units_of p.units)) same ∙ units_fill parser wide.widths (in_version header.0 last) 16 (drop 16 part) fault in
      ap (read_from last place) (flat_map-cons (drop 16) part parts)
      ∙ read_before (in_version header.0 last) 16 (drop 16 part) (All-head (TakesPart version) part parts takes header.0 header.1) fault place rest
      ∙ ap (λ (p : Parsed FrameText). before_later place (units_of p.units) (read_from (last_of last (units_of p.units)) end rest)) (sym same)
      ∙ ap (before_later place us) (parts_read_on parts end (last_of last us) (All-tail (TakesPart version) part parts takes) both.1)
      ∙ ap (λ (units : List PlacedFrame). record { units = units; fault = None })
      (ap (λ (n : ℕ). placed parser.width place us ++ placed parser.width (place + n) later.frames) (sym fill)
      ∙ sym (placed-append parser.width place us later.frames)
      ∙ ap (λ (f : Option Fault). placed parser.width place (part_and_later us f later).frames) (sym both.0))

  pub parts_joined : (parts : List (List ℕ)) → All (TakesPart version) parts → (parts_read parser None parts).fault ≡ None
      → parts_read parser None (joined_as version parts ∷ []) ≡ parts_read parser None parts
  parts_joined parts takes good =
      let all = parts_read parser None parts in
      let none : ParsedParts = record { frames = []; fault = None } in
      ap (λ (p : Parsed FrameText). part_and_later (units_of p.units) p.fault none)
      (ap (frames_if parser None (joined_as version parts)) (header_joined version (flat_map (drop 16) parts))
      ∙ ap (read_from None 16) (after_header version (flat_map (drop 16) parts)) ∙ parts_read_on parts 16 None takes good)
      ∙ ap₂ (λ (fs : List FrameText) (f : Option PartFault). record { frames = fs; fault = f })
      (append-nil (units_of (placed parser.width 16 all.frames)) ∙ units_of-placed parser.width 16 all.frames) (sym good)

-- version 2 takes all parts
pub all_taken : (parts : List (List ℕ)) → All (TakesPart Two) parts
all_taken [] = All-nil (TakesPart Two)
all_taken (part ∷ parts) = All-cons (TakesPart Two) part parts (λ named is. tt) (all_taken parts)

-- a version takes parts that are of this version
pub taken_of_same : (version : Version) (parts : List (List ℕ)) → All (λ part. header_at part ≡ Ok version) parts → All (TakesPart version) parts
taken_of_same version = All-weaker (λ part. header_at part ≡ Ok version) (TakesPart version)
    (λ part is named also. let same : version ≡ named = cc in subst (Takes version) same (takes_itself version))
