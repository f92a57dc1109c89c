-- A capture of version 2, captures in parts, and the reports on them.
use Rattle.std.specs.Prelude.{ℕ, List, ◌++◌, drop, take, codes}
use Rattle.worked_rows.specs.Bytes.{header, header_2, hex}
use Rattle.worked_rows.specs.Calls.{reply}
use Rattle.worked_rows.specs.Sections.{title, no_codes, no_calls, no_served, no_strays, no_refused, no_handles, no_nodes, no_buffers, no_frees, no_requests, no_deaths, no_clears, no_oneway, no_objects, no_flags}

-- one handle number of one process number on two devices
abbrev pub handle_of_two_devices : List ℕ
handle_of_two_devices = header_2
    ++ hex "0100000000000000 64000000 65000000 01000000 08000000 00000000 01000000"
    ++ hex "05630440 05000000"
    ++ hex "0200000000000000 64000000 65000000 01000000 08000000 00000000 00000000"
    ++ hex "06630440 05000000"

abbrev pub handle_of_two_devices_text : List ℕ
handle_of_two_devices_text = title ++ codes "frames 2 records 2 opaque 0 missing 0\n"
    ++ codes "codes 2\n  0x40046305 BC_ACQUIRE 1\n  0x40046306 BC_RELEASE 1\n"
    ++ no_calls ++ no_served ++ no_strays ++ no_refused
    ++ codes "handles 2 unbalanced 2\n  1 100 5 1 0 0 0 0 0\n  0 100 5 -1 -1 0 0 0 0\n"
    ++ no_nodes ++ no_buffers ++ no_frees ++ no_requests ++ no_deaths ++ no_clears ++ no_oneway ++ no_objects
    ++ no_flags

-- a call
abbrev pub first_part : List ℕ
first_part = take 116 reply

-- its reply
abbrev pub second_part : List ℕ
second_part = header
    ++ drop 116 reply

-- an empty frame with the sequence 5
abbrev pub sequence_5 : List ℕ
sequence_5 = header
    ++ hex "0500000000000000 01000000 01000000 01000000 00000000 00000000 00000000"

-- an empty frame with the sequence 9
abbrev pub sequence_9_of_version_2 : List ℕ
sequence_9_of_version_2 = header_2
    ++ hex "0900000000000000 01000000 01000000 01000000 00000000 00000000 00000000"

-- three sequences are missing between the two
abbrev pub missing_between_parts_text : List ℕ
missing_between_parts_text = title ++ codes "frames 2 records 0 opaque 0 missing 3\n"
    ++ no_codes ++ no_calls ++ no_served ++ no_strays ++ no_refused ++ no_handles ++ no_nodes ++ no_buffers
    ++ no_frees ++ no_requests ++ no_deaths ++ no_clears ++ no_oneway ++ no_objects ++ no_flags
