-- Captures with a fault.
use Rattle.std.specs.Prelude.{ℕ, List, ◌++◌}
use Rattle.worked_rows.specs.Bytes.{header, hex, zeros}

-- a frame after a good one has a length of 100 bytes that are not there
abbrev pub later_frame_past_the_end : List ℕ
later_frame_past_the_end = header
    ++ hex "0100000000000000 01000000 01000000 01000000 04000000 00000000 00000000"
    ++ hex "0c630000"
    ++ hex "0200000000000000 01000000 01000000 01000000 64000000 00000000 00000000"

-- two bytes of a code word, and after them a frame that is wrong too
abbrev pub code_cut_before_a_bad_frame : List ℕ
code_cut_before_a_bad_frame = header
    ++ hex "0100000000000000 01000000 01000000 01000000 06000000 00000000 00000000"
    ++ hex "0c630000" ++ hex "0563"
    ++ hex "0200000000000000 01000000 01000000 01000000 64000000 00000000 00000000"

-- BC_TRANSACTION of 40 bytes
abbrev pub call_of_40_bytes : List ℕ
call_of_40_bytes = header
    ++ hex "0100000000000000 01000000 01000000 01000000 2c000000 00000000 00000000"
    ++ hex "00632840" ++ zeros 40

-- three empty frames with the sequences 5, 9 and 9
abbrev pub sequence : List ℕ
sequence = header
    ++ hex "0500000000000000 01000000 01000000 01000000 00000000 00000000 00000000"
    ++ hex "0900000000000000 01000000 01000000 01000000 00000000 00000000 00000000"
    ++ hex "0900000000000000 01000000 01000000 01000000 00000000 00000000 00000000"

-- the body of an attachment is a byte shorter than its record says
abbrev pub wrong_attachment : List ℕ
wrong_attachment = header
    ++ hex "0100000000000000 64000000 65000000 02000000 44000000 2b000000 00000000"
    ++ hex "02724080 0000000000000000 0000000000000000 00000000 01000000 00000000 00000000"
    ++ hex "1800000000000000 0800000000000000 0090000000000000 0000000000000000"
    ++ hex "00000000 17000000 08000000"
    ++ hex "852a687300000000000000000000000000000000000000"
    ++ hex "0000000000000000"
