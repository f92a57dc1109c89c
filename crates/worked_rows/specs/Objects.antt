-- Captures with attachments, and the reports on them.
use Rattle.std.specs.Prelude.{ℕ, List, ◌++◌, codes}
use Rattle.worked_rows.specs.Bytes.{header, hex}
use Rattle.worked_rows.specs.Sections.{title, no_calls, no_served, no_strays, no_refused, no_handles, no_nodes, no_frees, no_requests, no_deaths, no_clears, no_flags}

-- a oneway transaction with a HANDLE, whose entry is at 116
abbrev pub attachment : List ℕ
attachment = header
    ++ hex "0100000000000000 64000000 65000000 02000000 44000000 2c000000 00000000"
    ++ hex "02724080 0000000000000000 0000000000000000 00000000 01000000 00000000 00000000"
    ++ hex "1800000000000000 0800000000000000 0090000000000000 0000000000000000"
    ++ hex "00000000 18000000 08000000"
    ++ hex "852a6873 00000000 0000000000000000 0000000000000000"
    ++ hex "0000000000000000"

abbrev pub attachment_text : List ℕ
attachment_text = title ++ codes "frames 1 records 1 opaque 0 missing 0\n"
    ++ codes "codes 1\n  0x80407202 BR_TRANSACTION 1\n"
    ++ no_calls ++ no_served ++ no_strays ++ no_refused
    ++ codes "handles 1 unbalanced 0\n  0 100 0 0 0 0 0 1 0\n"
    ++ no_nodes
    ++ codes "buffers 1 leaked 1\n  48 0 100 0x9000 24 BR_TRANSACTION\n"
    ++ no_frees ++ no_requests ++ no_deaths ++ no_clears
    ++ codes "oneway sent 0 received 1 refused 0\n  0 100 received 1 24\n"
    ++ codes "objects binder 0 weak_binder 0 handle 1 weak_handle 0 fd 0 fda 0 ptr 0 bad 0\n"
    ++ no_flags

-- its object is at an offset that is not a multiple of 4
abbrev pub bad_object : List ℕ
bad_object = header
    ++ hex "0100000000000000 64000000 65000000 02000000 44000000 30000000 00000000"
    ++ hex "02724080 0000000000000000 0000000000000000 00000000 01000000 00000000 00000000"
    ++ hex "1c00000000000000 0800000000000000 0090000000000000 0000000000000000"
    ++ hex "00000000 1c000000 08000000"
    ++ hex "0000852a 68730000 0000000000000000 0000000000000000"
    ++ hex "00000000"
    ++ hex "0200000000000000"

abbrev pub bad_object_text : List ℕ
bad_object_text = title ++ codes "frames 1 records 1 opaque 0 missing 0\n"
    ++ codes "codes 1\n  0x80407202 BR_TRANSACTION 1\n"
    ++ no_calls ++ no_served ++ no_strays ++ no_refused ++ no_handles ++ no_nodes
    ++ codes "buffers 1 leaked 1\n  48 0 100 0x9000 28 BR_TRANSACTION\n"
    ++ no_frees ++ no_requests ++ no_deaths ++ no_clears
    ++ codes "oneway sent 0 received 1 refused 0\n  0 100 received 1 28\n"
    ++ codes "objects binder 0 weak_binder 0 handle 0 weak_handle 0 fd 0 fda 0 ptr 0 bad 1\n"
    ++ codes "  48 0 100 0 2 Misaligned\n"
    ++ no_flags

-- the second object begins within the first; the third is good and is not read
abbrev pub overlapping_objects : List ℕ
overlapping_objects = header
    ++ hex "0100000000000000 64000000 65000000 02000000 44000000 54000000 00000000"
    ++ hex "02724080 0000000000000000 0000000000000000 00000000 01000000 00000000 00000000"
    ++ hex "3000000000000000 1800000000000000 0090000000000000 0000000000000000"
    ++ hex "00000000 30000000 18000000"
    ++ hex "852a6873 00000000 0000000000000000 0000000000000000"
    ++ hex "852a6873 00000000 0000000000000000 0000000000000000"
    ++ hex "0000000000000000 1400000000000000 1800000000000000"

abbrev pub overlapping_objects_text : List ℕ
overlapping_objects_text = title ++ codes "frames 1 records 1 opaque 0 missing 0\n"
    ++ codes "codes 1\n  0x80407202 BR_TRANSACTION 1\n"
    ++ no_calls ++ no_served ++ no_strays ++ no_refused
    ++ codes "handles 1 unbalanced 0\n  0 100 0 0 0 0 0 1 0\n"
    ++ no_nodes
    ++ codes "buffers 1 leaked 1\n  48 0 100 0x9000 48 BR_TRANSACTION\n"
    ++ no_frees ++ no_requests ++ no_deaths ++ no_clears
    ++ codes "oneway sent 0 received 1 refused 0\n  0 100 received 1 48\n"
    ++ codes "objects binder 0 weak_binder 0 handle 1 weak_handle 0 fd 0 fda 0 ptr 0 bad 1\n"
    ++ codes "  48 0 100 1 20 Overlap\n"
    ++ no_flags

-- a HANDLE of 7 is delivered
abbrev pub held : List ℕ
held = header
    ++ hex "0100000000000000 64000000 65000000 02000000 44000000 2c000000 00000000"
    ++ hex "02724080 0000000000000000 0000000000000000 00000000 01000000 00000000 00000000"
    ++ hex "1800000000000000 0800000000000000 0090000000000000 0000000000000000"
    ++ hex "00000000 18000000 08000000"
    ++ hex "852a6873 00000000 0700000000000000 0000000000000000"
    ++ hex "0000000000000000"

-- the process takes a reference too
abbrev pub held_and_taken : List ℕ
held_and_taken = held
    ++ hex "0200000000000000 64000000 65000000 01000000 08000000 00000000 00000000"
    ++ hex "05630440 07000000"

abbrev pub held_and_taken_text : List ℕ
held_and_taken_text = title ++ codes "frames 2 records 2 opaque 0 missing 0\n"
    ++ codes "codes 2\n  0x40046305 BC_ACQUIRE 1\n  0x80407202 BR_TRANSACTION 1\n"
    ++ no_calls ++ no_served ++ no_strays ++ no_refused
    ++ codes "handles 1 unbalanced 1\n  0 100 7 1 0 0 0 1 0\n"
    ++ no_nodes
    ++ codes "buffers 1 leaked 1\n  48 0 100 0x9000 24 BR_TRANSACTION\n"
    ++ no_frees ++ no_requests ++ no_deaths ++ no_clears
    ++ codes "oneway sent 0 received 1 refused 0\n  0 100 received 1 24\n"
    ++ codes "objects binder 0 weak_binder 0 handle 1 weak_handle 0 fd 0 fda 0 ptr 0 bad 0\n"
    ++ no_flags

-- then the buffer is freed
abbrev pub held_taken_and_freed : List ℕ
held_taken_and_freed = held_and_taken
    ++ hex "0300000000000000 64000000 66000000 01000000 0c000000 00000000 00000000"
    ++ hex "03630840 0090000000000000"

abbrev pub held_taken_and_freed_text : List ℕ
held_taken_and_freed_text = title ++ codes "frames 3 records 3 opaque 0 missing 0\n"
    ++ codes "codes 3\n  0x40046305 BC_ACQUIRE 1\n  0x40086303 BC_FREE_BUFFER 1\n  0x80407202 BR_TRANSACTION 1\n"
    ++ no_calls ++ no_served ++ no_strays ++ no_refused
    ++ codes "handles 1 unbalanced 1\n  0 100 7 1 0 0 0 0 0\n"
    ++ no_nodes
    ++ codes "buffers 1 leaked 0\n"
    ++ codes "frees 1 stray 0\n"
    ++ no_requests ++ no_deaths ++ no_clears
    ++ codes "oneway sent 0 received 1 refused 0\n  0 100 received 1 24\n"
    ++ codes "objects binder 0 weak_binder 0 handle 1 weak_handle 0 fd 0 fda 0 ptr 0 bad 0\n"
    ++ no_flags

-- the buffer is freed, and no reference is taken
abbrev pub held_and_freed : List ℕ
held_and_freed = held
    ++ hex "0300000000000000 64000000 66000000 01000000 0c000000 00000000 00000000"
    ++ hex "03630840 0090000000000000"

abbrev pub held_and_freed_text : List ℕ
held_and_freed_text = title ++ codes "frames 2 records 2 opaque 0 missing 1\n"
    ++ codes "codes 2\n  0x40086303 BC_FREE_BUFFER 1\n  0x80407202 BR_TRANSACTION 1\n"
    ++ no_calls ++ no_served ++ no_strays ++ no_refused ++ no_handles ++ no_nodes
    ++ codes "buffers 1 leaked 0\n"
    ++ codes "frees 1 stray 0\n"
    ++ no_requests ++ no_deaths ++ no_clears
    ++ codes "oneway sent 0 received 1 refused 0\n  0 100 received 1 24\n"
    ++ codes "objects binder 0 weak_binder 0 handle 1 weak_handle 0 fd 0 fda 0 ptr 0 bad 0\n"
    ++ no_flags
