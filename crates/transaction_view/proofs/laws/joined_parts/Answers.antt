use Rattle.std.proofs.Common.{List, Result, ap, sym}
use Rattle.capture_frame.specs.declared.fault.PartFault.{PartFault}
use Rattle.capture_frame.specs.declared.version.Version.TheVariants.{Two}
use Rattle.capture_frame.specs.Envelope.{PlacedFrame}
use Rattle.capture_frame.specs.Parts.{ParsedParts, joined_frames}
use Rattle.capture_frame.proofs.PartLaws.{all_taken, parts_joined, taken_of_same}
use Rattle.transaction_view.specs.Grammar.{unless, whole_parser}
use Rattle.transaction_view.proofs.WholeLaws.{whole_wide}
use Rattle.transaction_view.proofs.laws.joined_parts.Goals as goal

-- what these parts come to, as frames or as a fault
abbrev read_as : ParsedParts → Result (List PlacedFrame) PartFault
read_as read = unless read.fault (joined_frames read.frames)

pub returns-clause-joined : goal.returns-clause-joined
returns-clause-joined c parts good = ap read_as (sym (parts_joined whole_parser whole_wide Two parts (all_taken parts) good))

pub returns-clause-of_one_version : goal.returns-clause-of_one_version
returns-clause-of_one_version c version parts same good =
    ap read_as (sym (parts_joined whole_parser whole_wide version parts (taken_of_same version parts same) good))
