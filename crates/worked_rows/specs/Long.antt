-- Captures of many frames.
use Rattle.std.specs.Prelude.{ℕ, List, ◌++◌, codes}
use Rattle.std.specs.List.{flat_map, range_with_len}
use Rattle.byteorder.specs.Endian.{little_bytes}
use Rattle.worked_rows.specs.Bytes.{header, hex}
use Rattle.worked_rows.specs.Sections.{title, no_calls, no_served, no_strays, no_refused, no_handles, no_nodes, no_buffers, no_frees, no_requests, no_deaths, no_clears, no_oneway, no_objects, no_flags}

-- a write of thread 1 of process 1 with this one code word and this sequence
abbrev pub one_word : List ℕ → ℕ → List ℕ
one_word word sequence =
    little_bytes 8 sequence ++ hex "01000000 01000000 01000000 04000000 00000000 00000000" ++ word

-- BC_ENTER_LOOPER
abbrev pub enter : List ℕ
enter = hex "0c630000"

-- BR_NOOP, which no write may have
abbrev pub noop : List ℕ
noop = hex "0c720000"

-- 257 frames
abbrev pub many_frames : List ℕ
many_frames = header ++ flat_map (one_word enter) (range_with_len 1 257)

abbrev pub many_frames_text : List ℕ
many_frames_text = title ++ codes "frames 257 records 257 opaque 0 missing 0\n"
    ++ codes "codes 1\n  0x0000630c BC_ENTER_LOOPER 257\n"
    ++ no_calls ++ no_served ++ no_strays ++ no_refused ++ no_handles ++ no_nodes ++ no_buffers ++ no_frees ++ no_requests
    ++ no_deaths ++ no_clears ++ no_oneway ++ no_objects ++ no_flags

-- 900 frames; the second and the last have a return
abbrev pub two_wrong_directions : List ℕ
two_wrong_directions =
    header ++ one_word enter 1 ++ one_word noop 2 ++ flat_map (one_word enter) (range_with_len 3 897) ++ one_word noop 900
