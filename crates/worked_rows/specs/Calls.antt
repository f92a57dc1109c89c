-- Captures with calls and oneway transactions, and the reports on them.
use Rattle.std.specs.Prelude.{ℕ, List, ◌++◌, codes}
use Rattle.worked_rows.specs.Bytes.{header, hex}
use Rattle.worked_rows.specs.Sections.{title, no_calls, no_served, no_strays, no_refused, no_handles, no_nodes, no_buffers, no_frees, no_requests, no_deaths, no_clears, no_oneway, no_objects, no_flags}

-- a call at 48, and its reply at 156
abbrev pub reply : List ℕ
reply = header
    ++ hex "0100000000000000 64000000 65000000 01000000 44000000 00000000 00000000"
    ++ hex "00634040 0100000000000000 0000000000000000 02000000 00000000 00000000 00000000"
    ++ hex "0000000000000000 0000000000000000 0000000000000000 0000000000000000"
    ++ hex "0200000000000000 64000000 65000000 02000000 4c000000 00000000 00000000"
    ++ hex "0c720000" ++ hex "06720000"
    ++ hex "03724080 0000000000000000 0000000000000000 00000000 00000000 00000000 00000000"
    ++ hex "0000000000000000 0000000000000000 0070000000000000 0000000000000000"

abbrev pub reply_text : List ℕ
reply_text = title ++ codes "frames 2 records 4 opaque 0 missing 0\n"
    ++ codes "codes 4\n  0x00007206 BR_TRANSACTION_COMPLETE 1\n  0x0000720c BR_NOOP 1\n"
    ++ codes "  0x40406300 BC_TRANSACTION 1\n  0x80407203 BR_REPLY 1\n"
    ++ codes "calls 1 answered 1 failed 0 unanswered 0\n"
    ++ no_served ++ no_strays ++ no_refused ++ no_handles ++ no_nodes
    ++ codes "buffers 1 leaked 1\n  156 0 100 0x7000 0 BR_REPLY\n"
    ++ no_frees ++ no_requests ++ no_deaths ++ no_clears ++ no_oneway ++ no_objects ++ no_flags

-- then another thread frees the buffer of the reply
abbrev pub freed_reply : List ℕ
freed_reply = reply
    ++ hex "0300000000000000 64000000 66000000 01000000 0c000000 00000000 00000000"
    ++ hex "03630840 0070000000000000"

abbrev pub freed_reply_text : List ℕ
freed_reply_text = title ++ codes "frames 3 records 5 opaque 0 missing 0\n"
    ++ codes "codes 5\n  0x00007206 BR_TRANSACTION_COMPLETE 1\n  0x0000720c BR_NOOP 1\n"
    ++ codes "  0x40086303 BC_FREE_BUFFER 1\n  0x40406300 BC_TRANSACTION 1\n  0x80407203 BR_REPLY 1\n"
    ++ codes "calls 1 answered 1 failed 0 unanswered 0\n"
    ++ no_served ++ no_strays ++ no_refused ++ no_handles ++ no_nodes
    ++ codes "buffers 1 leaked 0\n"
    ++ codes "frees 1 stray 0\n"
    ++ no_requests ++ no_deaths ++ no_clears ++ no_oneway ++ no_objects ++ no_flags

-- a call to a process that has died
abbrev pub dead_reply : List ℕ
dead_reply = header
    ++ hex "0100000000000000 64000000 65000000 01000000 44000000 00000000 00000000"
    ++ hex "00634040 0100000000000000 0000000000000000 00000000 00000000 00000000 00000000"
    ++ hex "0000000000000000 0000000000000000 0000000000000000 0000000000000000"
    ++ hex "0200000000000000 64000000 65000000 02000000 04000000 00000000 00000000"
    ++ hex "05720000"

abbrev pub dead_reply_text : List ℕ
dead_reply_text = title ++ codes "frames 2 records 2 opaque 0 missing 0\n"
    ++ codes "codes 2\n  0x00007205 BR_DEAD_REPLY 1\n  0x40406300 BC_TRANSACTION 1\n"
    ++ codes "calls 1 answered 0 failed 1 unanswered 0\n  48 0 100 101 1 0 failed 148\n"
    ++ no_served ++ no_strays ++ no_refused ++ no_handles ++ no_nodes ++ no_buffers ++ no_frees ++ no_requests
    ++ no_deaths ++ no_clears ++ no_oneway ++ no_objects ++ no_flags

-- a reply is sent while a later call of the same thread has no answer
abbrev pub crossed_call : List ℕ
crossed_call = header
    ++ hex "0100000000000000 64000000 65000000 02000000 44000000 00000000 00000000"
    ++ hex "02724080 0000000000000000 0000000000000000 00000000 00000000 c8000000 00000000"
    ++ hex "0000000000000000 0000000000000000 0080000000000000 0000000000000000"
    ++ hex "0200000000000000 64000000 65000000 01000000 88000000 00000000 00000000"
    ++ hex "00634040 0100000000000000 0000000000000000 00000000 00000000 00000000 00000000"
    ++ hex "0000000000000000 0000000000000000 0000000000000000 0000000000000000"
    ++ hex "01634040 0000000000000000 0000000000000000 00000000 00000000 00000000 00000000"
    ++ hex "0000000000000000 0000000000000000 0000000000000000 0000000000000000"

abbrev pub crossed_call_text : List ℕ
crossed_call_text = title ++ codes "frames 2 records 3 opaque 0 missing 0\n"
    ++ codes "codes 3\n  0x40406300 BC_TRANSACTION 1\n  0x40406301 BC_REPLY 1\n  0x80407202 BR_TRANSACTION 1\n"
    ++ codes "calls 1 answered 0 failed 0 unanswered 1\n  148 0 100 101 1 0 crossed 216\n"
    ++ codes "served 1 replied 0 crossed 0 open 1\n  48 0 100 101 200 0 open -\n"
    ++ no_strays ++ no_refused ++ no_handles ++ no_nodes
    ++ codes "buffers 1 leaked 1\n  48 0 100 0x8000 0 BR_TRANSACTION\n"
    ++ no_frees ++ no_requests ++ no_deaths ++ no_clears ++ no_oneway ++ no_objects ++ no_flags

-- within a served call a oneway send is refused; the call around both stays open
abbrev pub refused_oneway : List ℕ
refused_oneway = header
    ++ hex "0100000000000000 64000000 65000000 01000000 44000000 00000000 00000000"
    ++ hex "00634040 0100000000000000 0000000000000000 00000000 00000000 00000000 00000000"
    ++ hex "0000000000000000 0000000000000000 0000000000000000 0000000000000000"
    ++ hex "0200000000000000 64000000 65000000 02000000 48000000 00000000 00000000"
    ++ hex "06720000"
    ++ hex "02724080 0000000000000000 0000000000000000 00000000 00000000 c8000000 00000000"
    ++ hex "0000000000000000 0000000000000000 0080000000000000 0000000000000000"
    ++ hex "0300000000000000 64000000 65000000 01000000 44000000 00000000 00000000"
    ++ hex "00634040 0200000000000000 0000000000000000 00000000 01000000 00000000 00000000"
    ++ hex "0000000000000000 0000000000000000 0000000000000000 0000000000000000"
    ++ hex "0400000000000000 64000000 65000000 02000000 04000000 00000000 00000000"
    ++ hex "11720000"

abbrev pub refused_oneway_text : List ℕ
refused_oneway_text = title ++ codes "frames 4 records 5 opaque 0 missing 0\n"
    ++ codes "codes 4\n  0x00007206 BR_TRANSACTION_COMPLETE 1\n  0x00007211 BR_FAILED_REPLY 1\n"
    ++ codes "  0x40406300 BC_TRANSACTION 2\n  0x80407202 BR_TRANSACTION 1\n"
    ++ codes "calls 1 answered 0 failed 0 unanswered 1\n  48 0 100 101 1 0 open -\n"
    ++ codes "served 1 replied 0 crossed 0 open 1\n  152 0 100 101 200 0 open -\n"
    ++ no_strays
    ++ codes "refused 1\n  352 0 100 101 BR_FAILED_REPLY\n"
    ++ no_handles ++ no_nodes
    ++ codes "buffers 1 leaked 1\n  152 0 100 0x8000 0 BR_TRANSACTION\n"
    ++ no_frees ++ no_requests ++ no_deaths ++ no_clears
    ++ codes "oneway sent 1 received 0 refused 1\n  0 100 sent 2 1 0\n"
    ++ no_objects ++ no_flags

-- a served call, freed and then replied
abbrev pub freed_then_replied : List ℕ
freed_then_replied = header
    ++ hex "0100000000000000 64000000 65000000 02000000 4c000000 00000000 00000000"
    ++ hex "02724880 0000000000000000 0000000000000000 00000000 00000000 c8000000 00000000"
    ++ hex "0000000000000000 0000000000000000 0080000000000000 0000000000000000 0000000000000000"
    ++ hex "0200000000000000 64000000 65000000 01000000 58000000 00000000 00000000"
    ++ hex "03630840 0080000000000000"
    ++ hex "12634840 0000000000000000 0000000000000000 00000000 00000000 00000000 00000000"
    ++ hex "0000000000000000 0000000000000000 0000000000000000 0000000000000000 0000000000000000"

abbrev pub freed_then_replied_text : List ℕ
freed_then_replied_text = title ++ codes "frames 2 records 3 opaque 0 missing 0\n"
    ++ codes "codes 3\n  0x40086303 BC_FREE_BUFFER 1\n  0x40486312 BC_REPLY_SG 1\n"
    ++ codes "  0x80487202 BR_TRANSACTION_SEC_CTX 1\n"
    ++ no_calls
    ++ codes "served 1 replied 1 crossed 0 open 0\n"
    ++ no_strays ++ no_refused ++ no_handles ++ no_nodes
    ++ codes "buffers 1 leaked 0\n"
    ++ codes "frees 1 stray 0\n"
    ++ no_requests ++ no_deaths ++ no_clears ++ no_oneway ++ no_objects ++ no_flags

-- an error reply to no call
abbrev pub error_to_no_call : List ℕ
error_to_no_call = header
    ++ hex "0100000000000000 64000000 65000000 02000000 04000000 00000000 00000000"
    ++ hex "11720000"

abbrev pub error_to_no_call_text : List ℕ
error_to_no_call_text = title ++ codes "frames 1 records 1 opaque 0 missing 0\n"
    ++ codes "codes 1\n  0x00007211 BR_FAILED_REPLY 1\n"
    ++ no_calls ++ no_served
    ++ codes "strays 1\n  48 0 100 101 BR_FAILED_REPLY\n"
    ++ no_refused ++ no_handles ++ no_nodes ++ no_buffers ++ no_frees ++ no_requests ++ no_deaths ++ no_clears
    ++ no_oneway ++ no_objects ++ no_flags

-- oneway sends whose sizes add up to more than 64 bits hold
abbrev pub greatest_data_sizes : List ℕ
greatest_data_sizes = header
    ++ hex "0100000000000000 64000000 65000000 01000000 88000000 00000000 00000000"
    ++ hex "00634040 0200000000000000 0000000000000000 00000000 01000000 00000000 00000000"
    ++ hex "ffffffffffffffff 0000000000000000 0000000000000000 0000000000000000"
    ++ hex "00634040 0200000000000000 0000000000000000 00000000 01000000 00000000 00000000"
    ++ hex "ffffffffffffffff 0000000000000000 0000000000000000 0000000000000000"

abbrev pub greatest_data_sizes_text : List ℕ
greatest_data_sizes_text = title ++ codes "frames 1 records 2 opaque 0 missing 0\n"
    ++ codes "codes 1\n  0x40406300 BC_TRANSACTION 2\n"
    ++ no_calls ++ no_served ++ no_strays ++ no_refused ++ no_handles ++ no_nodes ++ no_buffers ++ no_frees
    ++ no_requests ++ no_deaths ++ no_clears
    ++ codes "oneway sent 2 received 0 refused 0\n  0 100 sent 2 2 36893488147419103230\n"
    ++ no_objects ++ no_flags

-- a call with unknown flags
abbrev pub unknown_flags : List ℕ
unknown_flags = header
    ++ hex "0100000000000000 64000000 65000000 01000000 44000000 00000000 00000000"
    ++ hex "00634040 0100000000000000 0000000000000000 00000000 82000000 00000000 00000000"
    ++ hex "0000000000000000 0000000000000000 0000000000000000 0000000000000000"

abbrev pub unknown_flags_text : List ℕ
unknown_flags_text = title ++ codes "frames 1 records 1 opaque 0 missing 0\n"
    ++ codes "codes 1\n  0x40406300 BC_TRANSACTION 1\n"
    ++ codes "calls 1 answered 0 failed 0 unanswered 1\n  48 0 100 101 1 0 open -\n"
    ++ no_served ++ no_strays ++ no_refused ++ no_handles ++ no_nodes ++ no_buffers ++ no_frees ++ no_requests
    ++ no_deaths ++ no_clears ++ no_oneway ++ no_objects
    ++ codes "flags 1\n  48 0 100 0x00000082\n"
