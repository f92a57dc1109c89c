-- The definitions at findings that were worked out by hand.
use Rattle.std.proofs.Common.{◌≡◌, ℕ, List, [], ◌∷◌, ◌++◌, replicate, codes, take, refl, ap, ◌∙◌, arith}
use Rattle.std.specs.Prelude.{Some, None, pos, negsuc}
use Rattle.std.specs.Fmt.{decimal, digits}
use Rattle.std.proofs.lemmas.Fmt.{decimal_digit}
use Rattle.itoa.proofs.Decimal.{decimal_two, decimal_pair}
use Rattle.binder_code.specs.Commands.{command_lines, return_lines}
use Rattle.binder_code.specs.declared.record_kind.Kind.TheVariants.{BcDeadBinderDone, BcTransaction, BrDeadBinder, BrFailedReply, BrTransaction}
use Rattle.capture_frame.specs.Envelope.{FrameText, file_header, frame_bytes, number_at}
use Rattle.capture_frame.specs.declared.direction.Direction.TheVariants.{Read}
use Rattle.capture_frame.specs.declared.version.Version.TheVariants.{One, Two}
use Rattle.capture_frame.specs.declared.fault.FaultKind.TheVariants.{RecordDirection}
use Rattle.object_view.specs.declared.bad_object.Cause.TheVariants.{ListLength, Misaligned, Overlap, Short, UnknownSort}
use Rattle.object_view.specs.Objects.{bad_at}
use Rattle.event_core.specs.declared.oneway.OnewayKey.TheVariants.{Sent, Received}
use Rattle.event_core.specs.Events.{EventRead}
use Rattle.call_stacks.specs.declared.verdict.Verdict.TheVariants.{Failed, Crossed, Open}
use Rattle.capture_frame.specs.declared.process.Process.{Process}
use Rattle.audit_findings.specs.declared.findings.Sections.{Sections}
use Rattle.audit_findings.specs.InTurn.{process_row}
use Rattle.report_text.specs.Answers.{answer, first_fault_line}
use Rattle.report_text.specs.Calls.{calls_row}
use Rattle.report_text.specs.Codes.{codes_row}
use Rattle.report_text.specs.Deaths.{deaths_row}
use Rattle.report_text.specs.EventRow.{kind_row}
use Rattle.report_text.specs.Fault.{fault_line, no_fault_line, part_fault_line}
use Rattle.report_text.specs.Flags.{flags_row}
use Rattle.report_text.specs.Handles.{handles_row}
use Rattle.report_text.specs.Line.{hex_number}
use Rattle.report_text.specs.Nodes.{nodes_row}
use Rattle.report_text.specs.Objects.{cause_name, objects_head, objects_row}
use Rattle.report_text.specs.Oneway.{oneway_row}
use Rattle.report_text.specs.Served.{served_row}
use Rattle.report_text.specs.Text.{report_text}

-- a process of the device 1, by its number
abbrev numbered : ℕ → Process
numbered number = record { device = 1; number = number }

nothing : Sections EventRead
nothing = record {
  frames = 0;
  missing = 0;
  events = record {
    records = 0;
    opaque = 0;
    codes = [];
    counts = record { deliveries = 0; frees = 0; requests = 0; deaths = 0; clears = 0 };
    oneway = record { sent = 0; received = 0 };
    objects = record { binder = 0; weak_binder = 0; handle = 0; weak_handle = 0; fd = 0; fda = 0; ptr = 0 };
    bad_objects = [];
    flags = [];
  };
  calls = record {
    calls = record { all = 0; answered = 0; failed = 0; unanswered = 0; rows = [] };
    served = record { all = 0; replied = 0; crossed = 0; left_open = 0; rows = [] };
    strays = [];
    refused = record { oneway = 0; rows = [] };
  };
  processes = record {
    handles = record { unbalanced = 0; rows = [] };
    nodes = record { unbalanced = 0; rows = [] };
    leaked = [];
    stray_frees = [];
    standing = [];
    deaths = record { unclosed = 0; strays = 0; rows = [] };
    clears = record { unclosed = 0; strays = 0; rows = [] };
    oneway = [];
  };
}

-- `BC_TRANSACTION` to the handle 1 with flags 0x82, on the device 1
send : EventRead
send = record {
  place = 48;
  device = 1;
  process = 100;
  thread = 101;
  kind = BcTransaction;
  code = 0x40406300;
  payload = 1 ∷ replicate 19 0 ++ 0x82 ∷ replicate 43 0;
  entry = None;
}

zero_said : decimal 0 ≡ codes "0"
zero_said = decimal_digit 0 (omega arith)

one_said : decimal 1 ≡ codes "1"
one_said = decimal_digit 1 (omega arith)

two_said : decimal 2 ≡ codes "2"
two_said = decimal_digit 2 (omega arith)

twenty_said : decimal 20 ≡ codes "20"
twenty_said = decimal_two 20 (omega arith) (omega arith)

forty_eight_said : decimal 48 ≡ codes "48"
forty_eight_said = decimal_two 48 (omega arith) (omega arith)

eighty_four_said : decimal 84 ≡ codes "84"
eighty_four_said = decimal_two 84 (omega arith) (omega arith)

hundred_said : decimal 100 ≡ codes "100"
hundred_said = decimal_pair 100 (omega arith) (omega arith) ∙ ap (λ (t : List ℕ). t ++ codes "00") (decimal_digit 1 (omega arith))

empty_report : report_text nothing
    ≡ codes "BINDER AUDIT 2\nframes 0 records 0 opaque 0 missing 0\ncodes 0\ncalls 0 answered 0 failed 0 unanswered 0\nserved 0 replied 0 crossed 0 open 0\nstrays 0\nrefused 0\nhandles 0 unbalanced 0\nnodes 0 unbalanced 0\nbuffers 0 leaked 0\nfrees 0 stray 0\nrequests 0 standing 0\ndeaths 0 unacknowledged 0 stray 0\nclears 0 unconfirmed 0 stray 0\noneway sent 0 received 0 refused 0\nobjects binder 0 weak_binder 0 handle 0 weak_handle 0 fd 0 fda 0 ptr 0 bad 0\nflags 0\n"
unfolding nothing report_text
empty_report = rw zero_said refl

acquire_row : codes_row (record { word = 0x40046305; count = 2 }) ≡ codes "  0x40046305 BC_ACQUIRE 2"
unfolding command_lines return_lines
acquire_row = rw two_said refl

opaque_row : codes_row (record { word = 0x400c6313; count = 1 }) ≡ codes "  0x400c6313 OPAQUE 1"
unfolding command_lines return_lines
opaque_row = rw one_said refl

open_row : calls_row (record { event = send; verdict = Open; closer = None }) ≡ codes "  48 1 100 101 1 0 open -"
unfolding send number_at digits
open_row = refl

failed_row : calls_row (record { event = send; verdict = Failed; closer = Some 148 }) ≡ codes "  48 1 100 101 1 0 failed 148"
unfolding send number_at digits
failed_row = refl

-- code 7, and a sender_pid below zero
crossed_row : served_row (record {
  event = record send { kind = BrTransaction; payload = replicate 16 0 ++ 7 ∷ replicate 7 0 ++ 0xfe ∷ replicate 3 0xff ++ replicate 36 0 };
  verdict = Crossed;
  closer = Some 148;
}) ≡ codes "  48 1 100 101 -2 7 crossed 148"
unfolding send number_at digits
crossed_row = refl

error_row : kind_row (record send { kind = BrFailedReply; payload = [] }) ≡ codes "  48 1 100 101 BR_FAILED_REPLY"
unfolding command_lines return_lines send digits
error_row = refl

sent_row : oneway_row (process_row (numbered 100) (Sent 3, 2, 36893488147419103230)) ≡ codes "  1 100 sent 3 2 36893488147419103230"
unfolding digits
sent_row = refl

received_row : oneway_row (process_row (numbered 100) (Received, 2, 0)) ≡ codes "  1 100 received 2 0"
unfolding digits
received_row = refl

overlap_row : objects_row (record { owner = send; bad = bad_at 1 20 Overlap }) ≡ codes "  48 1 100 1 20 Overlap"
unfolding send
overlap_row = rw (forty_eight_said, hundred_said, one_said, twenty_said) refl

unknown_row : flags_row send ≡ codes "  48 1 100 0x00000082"
unfolding send number_at
unknown_row = rw (forty_eight_said, one_said, hundred_said) refl

zero_number : hex_number 0 ≡ codes "0x0"
unfolding digits
zero_number = refl

address_number : hex_number 0x70a0 ≡ codes "0x70a0"
unfolding digits
address_number = refl

negative_row : handles_row (process_row (numbered 100) (record {
  handle = 2;
  taken = record { strong = record { sum = pos 0; low = negsuc 1 }; weak = record { sum = pos 1; low = pos 0 } };
  held_strong = 0;
  held_weak = 2;
})) ≡ codes "  1 100 2 0 -2 1 0 0 2"
negative_row = rw (hundred_said, zero_said, one_said, two_said) refl

dead_row : deaths_row (record send { kind = BrDeadBinder; payload = 1 ∷ replicate 7 0 }) ≡ codes "  48 1 100 0x1 unacknowledged"
unfolding send number_at digits
dead_row = refl

done_row : deaths_row (record send { kind = BcDeadBinderDone; payload = 1 ∷ replicate 7 0 }) ≡ codes "  48 1 100 0x1 stray"
unfolding send number_at digits
done_row = refl

direction_line : fault_line (record { kind = RecordDirection; place = 84 }) ≡ codes "malformed RecordDirection at 84\n"
unfolding fault_line
direction_line = rw eighty_four_said refl

second_part_line : part_fault_line 2 (record { part = 2; fault = record { kind = RecordDirection; place = 84 } })
    ≡ codes "malformed RecordDirection at 84 in part 2\n"
unfolding part_fault_line
second_part_line = rw (eighty_four_said, decimal_digit 2 (omega arith)) refl

good_line : no_fault_line ≡ codes "no malformed record\n"
good_line = refl

no_reply_row : codes_row (record { word = 0x80407203; count = 0 }) ≡ codes "  0x80407203 BR_REPLY 0"
unfolding command_lines return_lines digits
no_reply_row = refl

looper_row : codes_row (record { word = 0x630c; count = 10 }) ≡ codes "  0x0000630c BC_ENTER_LOOPER 10"
unfolding command_lines return_lines digits
looper_row = refl

widest_row : codes_row (record { word = 0x80087210; count = 18446744073709551615 })
    ≡ codes "  0x80087210 BR_CLEAR_DEATH_NOTIFICATION_DONE 18446744073709551615"
unfolding command_lines return_lines digits
widest_row = refl

list_length_named : cause_name ListLength ≡ codes "ListLength"
list_length_named = refl

misaligned_named : cause_name Misaligned ≡ codes "Misaligned"
misaligned_named = refl

overlap_named : cause_name Overlap ≡ codes "Overlap"
overlap_named = refl

short_named : cause_name Short ≡ codes "Short"
short_named = refl

unknown_sort_named : cause_name UnknownSort ≡ codes "UnknownSort"
unknown_sort_named = refl

most : ℕ
most = 18446744073709551615

widest_objects : objects_head (record { binder = most; weak_binder = most; handle = most; weak_handle = most; fd = most; fda = most; ptr = most }) most
    ≡ codes "objects binder 18446744073709551615 weak_binder 18446744073709551615 handle 18446744073709551615 weak_handle 18446744073709551615 fd 18446744073709551615 fda 18446744073709551615 ptr 18446744073709551615 bad 18446744073709551615"
unfolding most digits
widest_objects = refl

-- the least number is `negsuc` of one less than its amount
widest_handle : handles_row (process_row (numbered 4294967295) (record {
  handle = 0;
  taken = record {
    strong = record { sum = negsuc 0; low = negsuc 9223372036854775807 };
    weak = record { sum = pos 9223372036854775807; low = pos 0 };
  };
  held_strong = 18446744073709551615;
  held_weak = 1;
})) ≡ codes "  1 4294967295 0 -1 -9223372036854775808 9223372036854775807 0 18446744073709551615 1"
unfolding digits
widest_handle = refl

widest_node : nodes_row (process_row (numbered 7) (record {
  key = record { ptr = 0; cookie = most };
  counts = record {
    strong = record { sum = pos 10; low = negsuc 9 };
    weak = record { sum = pos 2; low = negsuc 2 };
    strong_due = pos 4;
    weak_due = negsuc 9223372036854775807;
  };
})) ≡ codes "  1 7 0x0 0xffffffffffffffff 10 -10 2 -3 4 -9223372036854775808"
unfolding most digits
widest_node = refl

-- ---- the answer to parts, from their bytes

-- a file header alone is a capture without frames
empty_answer : answer (file_header One ∷ [])
    ≡ codes "BINDER AUDIT 2\nframes 0 records 0 opaque 0 missing 0\ncodes 0\ncalls 0 answered 0 failed 0 unanswered 0\nserved 0 replied 0 crossed 0 open 0\nstrays 0\nrefused 0\nhandles 0 unbalanced 0\nnodes 0 unbalanced 0\nbuffers 0 leaked 0\nfrees 0 stray 0\nrequests 0 standing 0\ndeaths 0 unacknowledged 0 stray 0\nclears 0 unconfirmed 0 stray 0\noneway sent 0 received 0 refused 0\nobjects binder 0 weak_binder 0 handle 0 weak_handle 0 fd 0 fda 0 ptr 0 bad 0\nflags 0\n"
unfolding number_at report_text digits
empty_answer = refl

-- a file header that is cut
cut_answer : answer (take 15 (file_header Two) ∷ []) ≡ codes "malformed HeaderShort at 0\n"
unfolding number_at part_fault_line fault_line digits
cut_answer = refl

-- the second of two parts has another magic
second_part_answer : answer (file_header Two ∷ (0 ∷ file_header Two) ∷ []) ≡ codes "malformed HeaderMagic at 0 in part 2\n"
unfolding number_at part_fault_line digits
second_part_answer = refl

no_fault_answer : first_fault_line (file_header One ∷ file_header Two ∷ []) ≡ codes "no malformed record\n"
unfolding number_at
no_fault_answer = refl

-- a frame of process 100 with the one record `BR_FAILED_REPLY`, which ends no call
lone_reply : FrameText
lone_reply = record {
  sequence = 1;
  device = 0;
  process = 100;
  thread = 101;
  direction = Read;
  commands = 0x11 ∷ 0x72 ∷ 0 ∷ 0 ∷ [];
  attachments = [];
}

stray_answer : answer ((file_header One ++ frame_bytes lone_reply) ∷ [])
    ≡ codes "BINDER AUDIT 2\nframes 1 records 1 opaque 0 missing 0\ncodes 1\n  0x00007211 BR_FAILED_REPLY 1\ncalls 0 answered 0 failed 0 unanswered 0\nserved 0 replied 0 crossed 0 open 0\nstrays 1\n  48 0 100 101 BR_FAILED_REPLY\nrefused 0\nhandles 0 unbalanced 0\nnodes 0 unbalanced 0\nbuffers 0 leaked 0\nfrees 0 stray 0\nrequests 0 standing 0\ndeaths 0 unacknowledged 0 stray 0\nclears 0 unconfirmed 0 stray 0\noneway sent 0 received 0 refused 0\nobjects binder 0 weak_binder 0 handle 0 weak_handle 0 fd 0 fda 0 ptr 0 bad 0\nflags 0\n"
unfolding command_lines return_lines lone_reply number_at frame_bytes report_text digits
stray_answer = refl
