-- The line that names a first fault, and the one that says that there is none (docs/ENVELOPE.md).
use Rattle.std.specs.Prelude.{ℕ, suc, zero, List, ◌++◌, codes}
use Rattle.std.specs.Fmt.{decimal}
use Rattle.capture_frame.specs.declared.fault.Fault.{Fault}
use Rattle.capture_frame.specs.declared.fault.PartFault.{PartFault}
use Rattle.capture_frame.specs.declared.fault.FaultKind.{FaultKind}
use Rattle.capture_frame.specs.declared.fault.FaultKind.TheVariants.{HeaderShort, HeaderMagic, HeaderProtocol, HeaderReserved, FrameShort, FrameSequence, FrameDirection, FrameReserved, FrameLength, RecordShort, RecordDirection, RecordSize, AttachShort, AttachRecord, AttachSize}
use Rattle.report_text.specs.Line.{ended}

-- the name of a kind of fault, as it is printed
abbrev pub fault_name : FaultKind → List ℕ
fault_name HeaderShort = codes "HeaderShort"
fault_name HeaderMagic = codes "HeaderMagic"
fault_name HeaderProtocol = codes "HeaderProtocol"
fault_name HeaderReserved = codes "HeaderReserved"
fault_name FrameShort = codes "FrameShort"
fault_name FrameSequence = codes "FrameSequence"
fault_name FrameDirection = codes "FrameDirection"
fault_name FrameReserved = codes "FrameReserved"
fault_name FrameLength = codes "FrameLength"
fault_name RecordShort = codes "RecordShort"
fault_name RecordDirection = codes "RecordDirection"
fault_name RecordSize = codes "RecordSize"
fault_name AttachShort = codes "AttachShort"
fault_name AttachRecord = codes "AttachRecord"
fault_name AttachSize = codes "AttachSize"

-- what is wrong, by the kind of the fault, and at which place
abbrev pub fault_words : Fault → List ℕ
fault_words fault = codes "malformed " ++ fault_name fault.kind ++ codes " at " ++ decimal fault.place

-- the line that names the first fault of a capture
unfoldable pub fault_line : Fault → List ℕ
fault_line fault = ended (fault_words fault)

-- the line that names the first fault of a capture in parts, given how many there are: for a single part the line of a
-- capture, otherwise with the number of the part
unfoldable pub part_fault_line : ℕ → PartFault → List ℕ
part_fault_line (suc zero) found = fault_line found.fault
part_fault_line parts found = ended (fault_words found.fault ++ codes " in part " ++ decimal found.part)

-- the line that says that there is no fault
abbrev pub no_fault_line : List ℕ
no_fault_line = ended (codes "no malformed record")
