-- The title of a report, and the lines of sections in which nothing is.
use Rattle.std.specs.Prelude.{ℕ, List, codes}

abbrev pub title : List ℕ
title = codes "BINDER AUDIT 2\n"

abbrev pub no_codes : List ℕ
no_codes = codes "codes 0\n"

abbrev pub no_calls : List ℕ
no_calls = codes "calls 0 answered 0 failed 0 unanswered 0\n"

abbrev pub no_served : List ℕ
no_served = codes "served 0 replied 0 crossed 0 open 0\n"

abbrev pub no_strays : List ℕ
no_strays = codes "strays 0\n"

abbrev pub no_refused : List ℕ
no_refused = codes "refused 0\n"

abbrev pub no_handles : List ℕ
no_handles = codes "handles 0 unbalanced 0\n"

abbrev pub no_nodes : List ℕ
no_nodes = codes "nodes 0 unbalanced 0\n"

abbrev pub no_buffers : List ℕ
no_buffers = codes "buffers 0 leaked 0\n"

abbrev pub no_frees : List ℕ
no_frees = codes "frees 0 stray 0\n"

abbrev pub no_requests : List ℕ
no_requests = codes "requests 0 standing 0\n"

abbrev pub no_deaths : List ℕ
no_deaths = codes "deaths 0 unacknowledged 0 stray 0\n"

abbrev pub no_clears : List ℕ
no_clears = codes "clears 0 unconfirmed 0 stray 0\n"

abbrev pub no_oneway : List ℕ
no_oneway = codes "oneway sent 0 received 0 refused 0\n"

abbrev pub no_objects : List ℕ
no_objects = codes "objects binder 0 weak_binder 0 handle 0 weak_handle 0 fd 0 fda 0 ptr 0 bad 0\n"

abbrev pub no_flags : List ℕ
no_flags = codes "flags 0\n"
