-- How clap reads the words of a report and of `first-fault`: a walk over the words, and what is found after it.
use Rattle.std.proofs.Common.{◌≡◌, ◌∙◌, ℕ, zero, suc, ◌≤◌, ◌&&◌, Bool, true, false, refl, sym, ap, ap₂, arith, List, [], ◌∷◌, ◌++◌, length, Some, None, codes, nat_eq, cond, append_assoc, append-nil, le-ltb, subst}
use Rattle.std.specs.Prelude.{⊤}
use Rattle.std.proofs.Math.Dec.{eqb-suc-zero}
use Rattle.std.specs.List.{All, fold}
use Rattle.std.specs.Str.{bytes_eq}
use Rattle.std.proofs.lemmas.List.Elements.{All-head, All-tail}
use Rattle.clap.specs.Lexer.{long_of, short_of, strip_byte, usize_max}
use Rattle.clap.specs.Words.{App, Row, Rule, Text, all_of, fault_of, one_of, subcommand_of}
use Rattle.clap.specs.ValueTests.{is_unsigned_in}
use Rattle.clap.specs.declared.error.kind.ErrorKind.TheVariants as kind
use Rattle.clap.specs.Kinds.{Kinds, or_else, range_kinds, values_kinds}
use Rattle.clap.specs.declared.builder.value_parser.ValueParser.TheVariants as vp
use Rattle.clap.specs.Walk.{Held, Names, Walk, arg_by_id, arg_by_index, finished, has_row, is_pending, nothing_held, positional, rows_after, settled, values_or_missing, walk, walk_from, walked}
use Rattle.clap.specs.Simple.{Shape, built, built_leaf, entered, filled, inherited, marked_built, names_of, with_index, with_leaf_noted}
use Rattle.clap.specs.Faults.{check_fault, defaults_fault, level_fault, settle_fault, turn_fault, walk_fault}
use Rattle.clap.proofs.OnLiterals.{clap_on_literals}
use Rattle.clap.proofs.WalkLemmas.{walk_stopped}
use Rattle.audit_words.specs.CommandLine.{audit_app, files_rule, first_fault_app, report_app}

-- the word does not begin with a hyphen
abbrev pub IsName : Text → Type 0
IsName word = strip_byte 45 word ≡ None

-- it is no flag
no_dashes : (word : Text) → IsName word → bytes_eq word (45 ∷ 45 ∷ []) ≡ false
no_dashes [] name = refl
no_dashes (x ∷ xs) name = go (nat_eq x 45) name
  where
    go : (b : Bool) → cond b (Some xs) None ≡ None → (b && bytes_eq xs (45 ∷ [])) ≡ false
    go true is = absurd (cc)
    go false is = refl

no_long : (word : Text) → IsName word → long_of word ≡ None
no_long word name = rw name refl

no_short : (word : Text) → IsName word → short_of word ≡ None
no_short word name = rw name refl

-- the files, as clap has them once the command is built
abbrev files : Rule
files = with_index 1 (filled files_rule)

-- where the walk is after these names
abbrev at_names : List Row → List Text → Walk
at_names rows names = record {
  held = record { rows = rows; pending = Some (codes "files", names); skip = 0 };
  waiting = positional;
  position = 1;
  is_trailing = false;
  stopped = None;
}

-- one name more
next_name : (c : List Rule) → arg_by_index c 1 ≡ Some files → (rows : List Row) (names : List Text) (name : Text) → IsName name
    → walked c [] (at_names rows names) name ≡ at_names rows (names ++ name ∷ [])
unfolding clap_on_literals
next_name c takes rows names name is = rw (no_dashes name is, no_long name is, no_short name is, takes) refl

more_names : (c : List Rule) → arg_by_index c 1 ≡ Some files → (rows : List Row) (before names : List Text) → All IsName names
    → fold (walked c []) (at_names rows before) names ≡ at_names rows (before ++ names)
more_names c takes rows before [] are = ap (at_names rows) (sym (append-nil before))
more_names c takes rows before (name ∷ names) are =
    ap (λ w. fold (walked c []) w names) (next_name c takes rows before name (All-head IsName name names are))
    ∙ more_names c takes rows (before ++ name ∷ []) names (All-tail IsName name names are)
    ∙ ap (at_names rows) (append_assoc before (name ∷ []) names)

-- the first name ends the option before it
first_name : (c : List Rule) → arg_by_index c 1 ≡ Some files → (h : Held) (name : Text) → IsName name → is_pending files h.pending ≡ false → h.skip ≡ 0
    → walked c [] (walk_from h) name ≡ at_names (settled c h).rows (name ∷ [])
unfolding clap_on_literals
first_name c takes h name is other skip = rw (no_dashes name is, no_long name is, no_short name is, takes, other, skip) refl

all_names : (c : List Rule) → arg_by_index c 1 ≡ Some files → (h : Held) (name : Text) (names : List Text) → IsName name → All IsName names
    → is_pending files h.pending ≡ false → h.skip ≡ 0
    → fold (walked c []) (walk_from h) (name ∷ names) ≡ at_names (settled c h).rows (name ∷ names)
all_names c takes h name names is are other skip =
    ap (λ w. fold (walked c []) w names) (first_name c takes h name is other skip) ∙ more_names c takes (settled c h).rows (name ∷ []) names are

-- a name is no fault
next_passes : (s : Shape) → arg_by_index s.rules 1 ≡ Some files → (rows : List Row) (names : List Text) (name : Text) → IsName name
    → turn_fault s [] (at_names rows names) name ≡ []
unfolding clap_on_literals
next_passes s takes rows names name is = rw (no_dashes name is, no_long name is, no_short name is, takes) refl

more_pass : (s : Shape) → arg_by_index s.rules 1 ≡ Some files → (rows : List Row) (before names : List Text) → All IsName names
    → walk_fault s [] (at_names rows before) names ≡ []
unfolding clap_on_literals
more_pass s takes rows before [] are = refl
more_pass s takes rows before (name ∷ names) are =
    ap₂ or_else (next_passes s takes rows before name (All-head IsName name names are))
    (ap (λ w. walk_fault s [] w names) (next_name s.rules takes rows before name (All-head IsName name names are))
    ∙ more_pass s takes rows (before ++ name ∷ []) names (All-tail IsName name names are))

first_passes : (s : Shape) → arg_by_index s.rules 1 ≡ Some files → (h : Held) (name : Text) → IsName name → is_pending files h.pending ≡ false
    → settle_fault s.rules s.args_override_self h ≡ [] → turn_fault s [] (walk_from h) name ≡ []
unfolding clap_on_literals
first_passes s takes h name is other settles =
    rw (no_dashes name is, no_long name is, no_short name is, takes, other, settles) refl

all_pass : (s : Shape) → arg_by_index s.rules 1 ≡ Some files → (h : Held) (name : Text) (names : List Text) → IsName name → All IsName names
    → is_pending files h.pending ≡ false → h.skip ≡ 0 → settle_fault s.rules s.args_override_self h ≡ []
    → walk_fault s [] (walk_from h) (name ∷ names) ≡ []
unfolding clap_on_literals
all_pass s takes h name names is are other skip settles =
    ap₂ or_else (first_passes s takes h name is other settles)
    (ap (λ w. walk_fault s [] w names) (first_name s.rules takes h name is other skip)
    ∙ more_pass s takes (settled s.rules h).rows (name ∷ []) names are)

-- the names pass as values of the argument
any_values : (ignore_case : Bool) (values : List Text) → values_kinds ignore_case vp.String values ≡ []
any_values ignore_case [] = refl
any_values ignore_case (v ∷ vs) = any_values ignore_case vs

in_range : (n : ℕ) → 1 ≤ n → n ≤ usize_max → range_kinds 1 usize_max n ≡ []
in_range zero least most = absurd (omega arith)
in_range (suc n) least most = rw (eqb-suc-zero n, le-ltb (suc n) 1 least, le-ltb usize_max (suc n) most) refl

-- ---- the two subcommands, once the command is built

abbrev pub top : Shape
top = (built audit_app).top

abbrev pub tops : Names
tops = names_of (built audit_app)

abbrev pub built_sub : App → Shape
built_sub sub = built_leaf (inherited (with_leaf_noted (marked_built audit_app.top)) sub.top)

abbrev pub report : Shape
report = built_sub report_app

abbrev pub first_fault : Shape
first_fault = built_sub first_fault_app

-- the walk of the command stops at the subcommand, and leaves it the other words
stopped_passes : (name : Text) (seen rest : List Text) → walk_fault top tops (record (walk_from nothing_held) { stopped = Some (name, seen) }) rest ≡ []
unfolding clap_on_literals
stopped_passes name seen [] = refl
stopped_passes name seen (word ∷ rest) = stopped_passes name (seen ++ word ∷ []) rest

report_walk : (rest : List Text) → walk top.rules tops nothing_held (codes "report" ∷ rest) ≡ record (walk_from nothing_held) { stopped = Some (codes "report", rest) }
unfolding clap_on_literals
report_walk rest = sym (walk_stopped top.rules tops (walk_from nothing_held) (codes "report") [] rest)

first_fault_walk : (rest : List Text) → walk top.rules tops nothing_held (codes "first-fault" ∷ rest) ≡ record (walk_from nothing_held) { stopped = Some (codes "first-fault", rest) }
unfolding clap_on_literals
first_fault_walk rest = sym (walk_stopped top.rules tops (walk_from nothing_held) (codes "first-fault") [] rest)

only_below : (below : Kinds) → or_else below [] ≡ below
only_below [] = refl
only_below (k ∷ ks) = refl

pub report_fault : (own : Text) (rest : List Text) → fault_of audit_app (own ∷ codes "report" ∷ rest) ≡ level_fault report [] nothing_held rest false []
unfolding clap_on_literals
report_fault own rest = rw (report_walk rest, stopped_passes (codes "report") [] rest) (only_below (level_fault report [] nothing_held rest false []))

pub first_fault_fault : (own : Text) (rest : List Text) → fault_of audit_app (own ∷ codes "first-fault" ∷ rest) ≡ level_fault first_fault [] nothing_held rest false []
unfolding clap_on_literals
first_fault_fault own rest = rw (first_fault_walk rest, stopped_passes (codes "first-fault") [] rest) (only_below (level_fault first_fault [] nothing_held rest false []))

pub report_rows : (own : Text) (rest : List Text) → subcommand_of audit_app (own ∷ codes "report" ∷ rest) ≡ Some (codes "report", rows_after report.rules [] rest)
unfolding clap_on_literals
report_rows own rest = ap (λ (w : Walk). entered (built audit_app) w.stopped) (report_walk rest)

pub first_fault_rows : (own : Text) (rest : List Text) → subcommand_of audit_app (own ∷ codes "first-fault" ∷ rest) ≡ Some (codes "first-fault", rows_after first_fault.rules [] rest)
unfolding clap_on_literals
first_fault_rows own rest = ap (λ (w : Walk). entered (built audit_app) w.stopped) (first_fault_walk rest)

-- ---- one level of the parse

-- what is found after the walk: the defaults and what is required
abbrev closing_fault : Shape → Held → Kinds
closing_fault s end = or_else (defaults_fault (settled s.rules end).rows s.rules) (check_fault s (finished s.rules end) false)

level_is : (s : Shape) (words : List Text) (end : Held) (kinds : Kinds) → (walk s.rules [] nothing_held words).held ≡ end
    → walk_fault s [] (walk_from nothing_held) words ≡ [] → settle_fault s.rules s.args_override_self end ≡ [] → closing_fault s end ≡ kinds
    → level_fault s [] nothing_held words false [] ≡ kinds
level_is s words end kinds walks passes settles closes =
    ap₂ (λ (h : Held) (k : Kinds). or_else k (or_else (settle_fault s.rules s.args_override_self h) (closing_fault s h))) walks passes
    ∙ ap₂ or_else settles closes

-- the names are read as the values of `files`
settle_names : (s : Shape) → arg_by_id s.rules (codes "files") ≡ Some files → (rows : List Row) (names : List Text) → 1 ≤ length names
    → length names ≤ usize_max → settle_fault s.rules s.args_override_self (at_names rows names).held ≡ []
settle_names s by_id rows names least most =
    rw (by_id, in_range (length names) least most, any_values false (values_or_missing files names)) refl

-- The words of some options, before any name, leave this held, and have no fault. With names after them the level has
-- no fault, and its rows have the names and are right; with none it lacks an argument.
pub record Stage (s : Shape) (options : List Text) (AreRight : List Row → Type 0) : Type 0 where
  pub held : Held
  pub by_index : arg_by_index s.rules 1 ≡ Some files
  pub by_id : arg_by_id s.rules (codes "files") ≡ Some files
  pub walks : (rest : List Text) → fold (walked s.rules []) (walk_from nothing_held) (options ++ rest) ≡ fold (walked s.rules []) (walk_from held) rest
  pub passes : (rest : List Text) → walk_fault s [] (walk_from nothing_held) (options ++ rest) ≡ walk_fault s [] (walk_from held) rest
  pub other : is_pending files held.pending ≡ false
  pub skip : held.skip ≡ 0
  pub settles : settle_fault s.rules s.args_override_self held ≡ []
  pub closes : (name : Text) (names : List Text) → closing_fault s (at_names (settled s.rules held).rows (name ∷ names)).held ≡ []
  pub rows : (name : Text) (names : List Text) → (all_of (codes "files") (finished s.rules (at_names (settled s.rules held).rows (name ∷ names)).held) ≡ Some (name ∷ names))
      × AreRight (finished s.rules (at_names (settled s.rules held).rows (name ∷ names)).held)
  pub lacks : closing_fault s held ≡ kind.MissingRequiredArgument ∷ []

module _ {s : Shape} {options : List Text} {AreRight : List Row → Type 0} (stage : Stage s options AreRight) where
  stage_walk : (name : Text) (names : List Text) → IsName name → All IsName names
      → walk s.rules [] nothing_held (options ++ name ∷ names) ≡ at_names (settled s.rules stage.held).rows (name ∷ names)
  stage_walk name names is are =
      stage.walks (name ∷ names) ∙ all_names s.rules stage.by_index stage.held name names is are stage.other stage.skip

  pub stage_taken : (name : Text) (names : List Text) → IsName name → All IsName names → length (name ∷ names) ≤ usize_max
      → level_fault s [] nothing_held (options ++ name ∷ names) false [] ≡ []
  unfolding clap_on_literals
  stage_taken name names is are most =
      level_is s (options ++ name ∷ names) (at_names (settled s.rules stage.held).rows (name ∷ names)).held []
      (ap (λ (w : Walk). w.held) (stage_walk name names is are))
      (stage.passes (name ∷ names) ∙ all_pass s stage.by_index stage.held name names is are stage.other stage.skip stage.settles)
      (settle_names s stage.by_id (settled s.rules stage.held).rows (name ∷ names) (omega arith) most)
      (stage.closes name names)

  pub stage_rows : (name : Text) (names : List Text) → IsName name → All IsName names
      → (all_of (codes "files") (rows_after s.rules [] (options ++ name ∷ names)) ≡ Some (name ∷ names))
      × AreRight (rows_after s.rules [] (options ++ name ∷ names))
  stage_rows name names is are =
      subst (λ (w : Walk). (all_of (codes "files") (finished s.rules w.held) ≡ Some (name ∷ names)) × AreRight (finished s.rules w.held))
      (sym (stage_walk name names is are)) (stage.rows name names)

  pub stage_lacks : level_fault s [] nothing_held (options ++ []) false [] ≡ kind.MissingRequiredArgument ∷ []
  unfolding clap_on_literals
  stage_lacks = level_is s (options ++ []) stage.held (kind.MissingRequiredArgument ∷ []) (ap (λ (w : Walk). w.held) (stage.walks [])) (stage.passes []) stage.settles stage.lacks

-- ---- the options of a report

-- what is held after an option
abbrev held_option : List Row → Text → Text → Held
held_option rows id text = record { rows = rows; pending = Some (id, text ∷ []); skip = 0 }

module _ (h : Held) (skip : h.skip ≡ 0) (text : Text) (is : IsName text) (rest : List Text) where
  workers_walk : fold (walked report.rules []) (walk_from h) (codes "--workers" ∷ text ∷ rest)
      ≡ fold (walked report.rules []) (walk_from (held_option (settled report.rules h).rows (codes "workers") text)) rest
  unfolding clap_on_literals
  workers_walk = rw (no_dashes text is, no_long text is, no_short text is, skip) refl

  piece_walk : fold (walked report.rules []) (walk_from h) (codes "--piece" ∷ text ∷ rest)
      ≡ fold (walked report.rules []) (walk_from (held_option (settled report.rules h).rows (codes "piece") text)) rest
  unfolding clap_on_literals
  piece_walk = rw (no_dashes text is, no_long text is, no_short text is, skip) refl

  workers_pass : settle_fault report.rules false h ≡ [] → walk_fault report [] (walk_from h) (codes "--workers" ∷ text ∷ rest)
      ≡ walk_fault report [] (walk_from (held_option (settled report.rules h).rows (codes "workers") text)) rest
  unfolding clap_on_literals
  workers_pass settles = rw (settles, no_dashes text is, no_long text is, no_short text is, skip) refl

  piece_pass : settle_fault report.rules false h ≡ [] → walk_fault report [] (walk_from h) (codes "--piece" ∷ text ∷ rest)
      ≡ walk_fault report [] (walk_from (held_option (settled report.rules h).rows (codes "piece") text)) rest
  unfolding clap_on_literals
  piece_pass settles = rw (settles, no_dashes text is, no_long text is, no_short text is, skip) refl

settle_workers : (rows : List Row) (text : Text) → has_row (codes "workers") rows ≡ false → is_unsigned_in 1 64 text ≡ true
    → settle_fault report.rules false (held_option rows (codes "workers") text) ≡ []
settle_workers rows text new takes = rw (new, takes) refl

settle_piece : (rows : List Row) (text : Text) → has_row (codes "piece") rows ≡ false → is_unsigned_in 1 65536 text ≡ true
    → settle_fault report.rules false (held_option rows (codes "piece") text) ≡ []
settle_piece rows text new takes = rw (new, takes) refl

-- the rows have the texts of the two numbers
abbrev pub HaveNumbers : Text → Text → List Row → Type 0
HaveNumbers workers piece rows = (one_of (codes "workers") rows ≡ Some workers) × (one_of (codes "piece") rows ≡ Some piece)

pub report_stage : Stage report [] (HaveNumbers (codes "4") (codes "256"))
unfolding clap_on_literals
report_stage = record {
  held = nothing_held;
  by_index = refl;
  by_id = refl;
  walks = λ rest. refl;
  passes = λ rest. refl;
  other = refl;
  skip = refl;
  settles = refl;
  closes = λ name names. refl;
  rows = λ name names. (refl, (refl, refl));
  lacks = refl;
}

pub first_fault_stage : Stage first_fault [] (λ rows. ⊤)
unfolding clap_on_literals
first_fault_stage = record {
  held = nothing_held;
  by_index = refl;
  by_id = refl;
  walks = λ rest. refl;
  passes = λ rest. refl;
  other = refl;
  skip = refl;
  settles = refl;
  closes = λ name names. refl;
  rows = λ name names. (refl, tt);
  lacks = refl;
}

pub workers_stage : (text : Text) → IsName text → is_unsigned_in 1 64 text ≡ true
    → Stage report (codes "--workers" ∷ text ∷ []) (HaveNumbers text (codes "256"))
unfolding clap_on_literals
workers_stage text is takes = record {
  held = held_option [] (codes "workers") text;
  by_index = refl;
  by_id = refl;
  walks = λ rest. workers_walk nothing_held refl text is rest;
  passes = λ rest. workers_pass nothing_held refl text is rest refl;
  other = refl;
  skip = refl;
  settles = settle_workers [] text refl takes;
  closes = λ name names. refl;
  rows = λ name names. (refl, (refl, refl));
  lacks = refl;
}

pub piece_stage : (text : Text) → IsName text → is_unsigned_in 1 65536 text ≡ true
    → Stage report (codes "--piece" ∷ text ∷ []) (HaveNumbers (codes "4") text)
unfolding clap_on_literals
piece_stage text is takes = record {
  held = held_option [] (codes "piece") text;
  by_index = refl;
  by_id = refl;
  walks = λ rest. piece_walk nothing_held refl text is rest;
  passes = λ rest. piece_pass nothing_held refl text is rest refl;
  other = refl;
  skip = refl;
  settles = settle_piece [] text refl takes;
  closes = λ name names. refl;
  rows = λ name names. (refl, (refl, refl));
  lacks = refl;
}

-- the rows after one option
abbrev rows_of_option : Text → Text → List Row
rows_of_option id text = (settled report.rules (held_option [] id text)).rows

module _ (workers piece : Text) (is_workers : IsName workers) (is_piece : IsName piece) (takes_workers : is_unsigned_in 1 64 workers ≡ true)
    (takes_piece : is_unsigned_in 1 65536 piece ≡ true) where
  pub workers_piece_stage : Stage report (codes "--workers" ∷ workers ∷ codes "--piece" ∷ piece ∷ []) (HaveNumbers workers piece)
  unfolding clap_on_literals
  workers_piece_stage = record {
    held = held_option (rows_of_option (codes "workers") workers) (codes "piece") piece;
    by_index = refl;
    by_id = refl;
    walks = λ rest. workers_walk nothing_held refl workers is_workers (codes "--piece" ∷ piece ∷ rest)
        ∙ piece_walk (held_option [] (codes "workers") workers) refl piece is_piece rest;
    passes = λ rest. workers_pass nothing_held refl workers is_workers (codes "--piece" ∷ piece ∷ rest) refl
        ∙ piece_pass (held_option [] (codes "workers") workers) refl piece is_piece rest (settle_workers [] workers refl takes_workers);
    other = refl;
    skip = refl;
    settles = settle_piece (rows_of_option (codes "workers") workers) piece refl takes_piece;
    closes = λ name names. refl;
    rows = λ name names. (refl, (refl, refl));
    lacks = refl;
  }

  pub piece_workers_stage : Stage report (codes "--piece" ∷ piece ∷ codes "--workers" ∷ workers ∷ []) (HaveNumbers workers piece)
  unfolding clap_on_literals
  piece_workers_stage = record {
    held = held_option (rows_of_option (codes "piece") piece) (codes "workers") workers;
    by_index = refl;
    by_id = refl;
    walks = λ rest. piece_walk nothing_held refl piece is_piece (codes "--workers" ∷ workers ∷ rest)
        ∙ workers_walk (held_option [] (codes "piece") piece) refl workers is_workers rest;
    passes = λ rest. piece_pass nothing_held refl piece is_piece (codes "--workers" ∷ workers ∷ rest) refl
        ∙ workers_pass (held_option [] (codes "piece") piece) refl workers is_workers rest (settle_piece [] piece refl takes_piece);
    other = refl;
    skip = refl;
    settles = settle_workers (rows_of_option (codes "piece") piece) workers refl takes_workers;
    closes = λ name names. refl;
    rows = λ name names. (refl, (refl, refl));
    lacks = refl;
  }
