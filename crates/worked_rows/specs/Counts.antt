-- Captures with references, buffers and death notifications, and the reports on them.
use Rattle.std.specs.Prelude.{ℕ, List, ◌++◌, codes}
use Rattle.worked_rows.specs.Bytes.{header, hex}
use Rattle.worked_rows.specs.Sections.{title, no_codes, no_calls, no_served, no_strays, no_refused, no_handles, no_nodes, no_buffers, no_frees, no_requests, no_deaths, no_clears, no_oneway, no_objects, no_flags}

-- a file header alone
abbrev pub empty : List ℕ
empty = header

abbrev pub empty_text : List ℕ
empty_text = title ++ codes "frames 0 records 0 opaque 0 missing 0\n"
    ++ no_codes ++ no_calls ++ no_served ++ no_strays ++ no_refused ++ no_handles ++ no_nodes ++ no_buffers
    ++ no_frees ++ no_requests ++ no_deaths ++ no_clears ++ no_oneway ++ no_objects ++ no_flags

-- two references to handle 5
abbrev pub acquire : List ℕ
acquire = header
    ++ hex "0100000000000000 64000000 65000000 01000000 10000000 00000000 00000000"
    ++ hex "05630440 05000000" ++ hex "05630440 05000000"

abbrev pub acquire_text : List ℕ
acquire_text = title ++ codes "frames 1 records 2 opaque 0 missing 0\n"
    ++ codes "codes 1\n  0x40046305 BC_ACQUIRE 2\n"
    ++ no_calls ++ no_served ++ no_strays ++ no_refused
    ++ codes "handles 1 unbalanced 1\n  0 100 5 2 0 0 0 0 0\n"
    ++ no_nodes ++ no_buffers ++ no_frees ++ no_requests ++ no_deaths ++ no_clears ++ no_oneway ++ no_objects
    ++ no_flags

-- a handle is released and then acquired
abbrev pub released_before_acquired : List ℕ
released_before_acquired = header
    ++ hex "0100000000000000 64000000 65000000 01000000 08000000 00000000 00000000"
    ++ hex "06630440 03000000"
    ++ hex "0200000000000000 64000000 65000000 01000000 08000000 00000000 00000000"
    ++ hex "05630440 03000000"

abbrev pub released_before_acquired_text : List ℕ
released_before_acquired_text = title ++ codes "frames 2 records 2 opaque 0 missing 0\n"
    ++ codes "codes 2\n  0x40046305 BC_ACQUIRE 1\n  0x40046306 BC_RELEASE 1\n"
    ++ no_calls ++ no_served ++ no_strays ++ no_refused
    ++ codes "handles 1 unbalanced 0\n  0 100 3 0 -1 0 0 0 0\n"
    ++ no_nodes ++ no_buffers ++ no_frees ++ no_requests ++ no_deaths ++ no_clears ++ no_oneway ++ no_objects
    ++ no_flags

-- handles of two processes, the greater process first
abbrev pub handles_of_two_processes : List ℕ
handles_of_two_processes = header
    ++ hex "0100000000000000 09000000 01000000 01000000 08000000 00000000 00000000"
    ++ hex "05630440 02000000"
    ++ hex "0200000000000000 04000000 01000000 01000000 10000000 00000000 00000000"
    ++ hex "05630440 08000000" ++ hex "04630440 01000000"

abbrev pub handles_of_two_processes_text : List ℕ
handles_of_two_processes_text = title ++ codes "frames 2 records 3 opaque 0 missing 0\n"
    ++ codes "codes 2\n  0x40046304 BC_INCREFS 1\n  0x40046305 BC_ACQUIRE 2\n"
    ++ no_calls ++ no_served ++ no_strays ++ no_refused
    ++ codes "handles 3 unbalanced 3\n  0 9 2 1 0 0 0 0 0\n  0 4 1 0 0 1 0 0 0\n  0 4 8 1 0 0 0 0 0\n"
    ++ no_nodes ++ no_buffers ++ no_frees ++ no_requests ++ no_deaths ++ no_clears ++ no_oneway ++ no_objects
    ++ no_flags

-- of two references to a node one is confirmed
abbrev pub node_half_confirmed : List ℕ
node_half_confirmed = header
    ++ hex "0100000000000000 64000000 65000000 02000000 28000000 00000000 00000000"
    ++ hex "07721080 2000000000000000 3000000000000000" ++ hex "08721080 2000000000000000 3000000000000000"
    ++ hex "0200000000000000 64000000 65000000 01000000 14000000 00000000 00000000"
    ++ hex "08631040 2000000000000000 3000000000000000"

abbrev pub node_half_confirmed_text : List ℕ
node_half_confirmed_text = title ++ codes "frames 2 records 3 opaque 0 missing 0\n"
    ++ codes "codes 3\n  0x40106308 BC_INCREFS_DONE 1\n  0x80107207 BR_INCREFS 1\n  0x80107208 BR_ACQUIRE 1\n"
    ++ no_calls ++ no_served ++ no_strays ++ no_refused ++ no_handles
    ++ codes "nodes 1 unbalanced 1\n  0 100 0x20 0x30 1 0 1 0 1 0\n"
    ++ no_buffers ++ no_frees ++ no_requests ++ no_deaths ++ no_clears ++ no_oneway ++ no_objects ++ no_flags

-- a buffer is freed before two transactions arrive in it
abbrev pub freed_before_delivered : List ℕ
freed_before_delivered = header
    ++ hex "0100000000000000 64000000 65000000 01000000 0c000000 00000000 00000000"
    ++ hex "03630840 1000000000000000"
    ++ hex "0200000000000000 64000000 65000000 02000000 88000000 00000000 00000000"
    ++ hex "02724080 0000000000000000 0000000000000000 00000000 01000000 00000000 00000000"
    ++ hex "0000000000000000 0000000000000000 1000000000000000 0000000000000000"
    ++ hex "02724080 0000000000000000 0000000000000000 00000000 01000000 00000000 00000000"
    ++ hex "0000000000000000 0000000000000000 1000000000000000 0000000000000000"

abbrev pub freed_before_delivered_text : List ℕ
freed_before_delivered_text = title ++ codes "frames 2 records 3 opaque 0 missing 0\n"
    ++ codes "codes 2\n  0x40086303 BC_FREE_BUFFER 1\n  0x80407202 BR_TRANSACTION 2\n"
    ++ no_calls ++ no_served ++ no_strays ++ no_refused ++ no_handles ++ no_nodes
    ++ codes "buffers 2 leaked 2\n  92 0 100 0x10 0 BR_TRANSACTION\n  160 0 100 0x10 0 BR_TRANSACTION\n"
    ++ codes "frees 1 stray 1\n  48 0 100 0x10\n"
    ++ no_requests ++ no_deaths ++ no_clears
    ++ codes "oneway sent 0 received 2 refused 0\n  0 100 received 2 0\n"
    ++ no_objects ++ no_flags

-- a death that nobody acknowledges
abbrev pub death_not_acknowledged : List ℕ
death_not_acknowledged = header
    ++ hex "0100000000000000 64000000 65000000 01000000 10000000 00000000 00000000"
    ++ hex "0e630c40 07000000 0100000000000000"
    ++ hex "0200000000000000 64000000 65000000 02000000 0c000000 00000000 00000000"
    ++ hex "0f720880 01000000 00000000"

abbrev pub death_not_acknowledged_text : List ℕ
death_not_acknowledged_text = title ++ codes "frames 2 records 2 opaque 0 missing 0\n"
    ++ codes "codes 2\n  0x400c630e BC_REQUEST_DEATH_NOTIFICATION 1\n  0x8008720f BR_DEAD_BINDER 1\n"
    ++ no_calls ++ no_served ++ no_strays ++ no_refused ++ no_handles ++ no_nodes ++ no_buffers ++ no_frees
    ++ codes "requests 1 standing 0\n"
    ++ codes "deaths 1 unacknowledged 1 stray 0\n  96 0 100 0x1 unacknowledged\n"
    ++ no_clears ++ no_oneway ++ no_objects ++ no_flags

-- a cleared death notification, confirmed twice
abbrev pub clear_confirmed_twice : List ℕ
clear_confirmed_twice = header
    ++ hex "0100000000000000 64000000 65000000 01000000 10000000 00000000 00000000"
    ++ hex "0f630c40 07000000 0100000000000000"
    ++ hex "0200000000000000 64000000 65000000 02000000 18000000 00000000 00000000"
    ++ hex "10720880 01000000 00000000" ++ hex "10720880 01000000 00000000"

abbrev pub clear_confirmed_twice_text : List ℕ
clear_confirmed_twice_text = title ++ codes "frames 2 records 3 opaque 0 missing 0\n"
    ++ codes "codes 2\n  0x400c630f BC_CLEAR_DEATH_NOTIFICATION 1\n"
    ++ codes "  0x80087210 BR_CLEAR_DEATH_NOTIFICATION_DONE 2\n"
    ++ no_calls ++ no_served ++ no_strays ++ no_refused ++ no_handles ++ no_nodes ++ no_buffers ++ no_frees
    ++ no_requests ++ no_deaths
    ++ codes "clears 1 unconfirmed 0 stray 1\n  108 0 100 0x1 stray\n"
    ++ no_oneway ++ no_objects ++ no_flags

-- a record whose number is in no table, and one whose number is
abbrev pub opaque : List ℕ
opaque = header
    ++ hex "0100000000000000 01000000 01000000 01000000 14000000 00000000 00000000"
    ++ hex "13630c40 00000000 0000000000000000" ++ hex "0c630000"

abbrev pub opaque_text : List ℕ
opaque_text = title ++ codes "frames 1 records 2 opaque 1 missing 0\n"
    ++ codes "codes 2\n  0x0000630c BC_ENTER_LOOPER 1\n  0x400c6313 OPAQUE 1\n"
    ++ no_calls ++ no_served ++ no_strays ++ no_refused ++ no_handles ++ no_nodes ++ no_buffers ++ no_frees
    ++ no_requests ++ no_deaths ++ no_clears ++ no_oneway ++ no_objects ++ no_flags

-- the least and the greatest sequence
abbrev pub missing : List ℕ
missing = header
    ++ hex "0000000000000000 01000000 01000000 01000000 00000000 00000000 00000000"
    ++ hex "ffffffffffffffff 01000000 01000000 01000000 00000000 00000000 00000000"

abbrev pub missing_text : List ℕ
missing_text = title ++ codes "frames 2 records 0 opaque 0 missing 18446744073709551614\n"
    ++ no_codes ++ no_calls ++ no_served ++ no_strays ++ no_refused ++ no_handles ++ no_nodes ++ no_buffers
    ++ no_frees ++ no_requests ++ no_deaths ++ no_clears ++ no_oneway ++ no_objects ++ no_flags
