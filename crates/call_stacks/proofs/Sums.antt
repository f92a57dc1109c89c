-- What a value holds if it sums a list of events.
use Rattle.std.proofs.Common.{◌≡◌, ℕ, suc, ◌≤◌, Bool, true, false, cond, Option, Some, None, refl, sym, ap, subst, ◌∙◌, arith}
use Rattle.std.proofs.Common.{List, [], ◌∷◌, ◌++◌, map, length}
use Rattle.std.proofs.lemmas.List.{append-nil, map-append, length-map}
use Rattle.std.proofs.lemmas.List.Sums.{count_by-le-length}
use Rattle.std.proofs.lemmas.List.Elements.{filter_map-append}
use Rattle.std.proofs.lemmas.List.Folds.{find-append}
use Rattle.std.proofs.lemmas.List.Sums.{fold-append}
use Rattle.std.specs.List.{fold, find, cons_option}
use Rattle.std.specs.Option.{option_or, option_and_then, is_some}
use Rattle.event_core.specs.declared.marks.Bracket.{Bracket}
use Rattle.event_core.specs.declared.marks.Bracket.TheVariants.{Call, Served, Reply, Sent, Error, Refused, Neither}
use Rattle.event_core.specs.declared.marks.Mark.{Mark}
use Rattle.summary_law.specs.Fits.{IsPlaced}
use Rattle.call_stacks.specs.declared.opener.Opener.{Opener}
use Rattle.call_stacks.specs.declared.calls.Calls.{Calls}
use Rattle.call_stacks.specs.declared.verdict.Verdict.{Verdict}
use Rattle.std.specs.List.Sorted.{IsPermutation}
use Rattle.call_stacks.specs.Calls.{Reads, Bracketed, bracketed_with, bracketed_piece, mark_read, bracket_read, bracket_in_piece, mark_after, last_mark, is_error, is_refused, if_error_reply, undecided_of, refused_of, refused_send, openers_in_piece, CallsSum, with_verdict, how_many, kept_of}
use Rattle.call_stacks.specs.Content.{Content, content_of, sum_64, Closes, closes_last, closes_none, Enters}
use Rattle.call_stacks.specs.Matching.{Side, opener, closer, neither}
use Rattle.call_stacks.specs.Verdicts.{side_of, is_answered, is_replied, is_open, is_closed}
use Rattle.call_stacks.proofs.MarkLaws.{error_marks}
use Rattle.call_stacks.proofs.Bracketing.{pair, side, paired, bracketed-append, not_sent}
use Rattle.call_stacks.proofs.Found.{openers-found, strays-found}
use Rattle.call_stacks.proofs.Lists.{found}
use Rattle.call_stacks.proofs.Model.{openers, strays, entry}
use Rattle.call_stacks.proofs.Steps.{all_found, Models, models_same, passes_models, enters_models}

entry_short : {A : Type 0} (s : Side) (x : A) (later : List A) (rest : List (A × Option A)) (n : ℕ) → length rest ≤ n → length (entry s x later rest) ≤ suc n
entry_short opener x later rest n short = omega arith
entry_short closer x later rest n short = omega arith
entry_short neither x later rest n short = omega arith

openers_short : {A : Type 0} (side : A → Side) (items : List A) → length (openers side items) ≤ length items
openers_short side [] = omega arith
openers_short side (x ∷ items) = entry_short (side x) x (strays side items) (openers side items) (length items) (openers_short side items)

module _ {E : Type 0} where
  none_sent : (bracketed : Bracketed E) → is_refused bracketed.bracket ≡ false → refused_of (bracketed ∷ []) ≡ []
  none_sent bracketed plain = ap (λ o. cons_option o []) (not_sent bracketed plain)

  pub none_of_one : (bracket : Bracket) (e : E) (before : Option Mark) → is_refused bracket ≡ false
      → refused_of (record { event = e; before = before; bracket = bracket } ∷ []) ≡ []
  none_of_one bracket e before plain = none_sent (record { event = e; before = before; bracket = bracket }) plain

module _ {E : Type 0} (reads : Reads E) where
  -- ---- the marks of a list

  abbrev pub marked : E → Bool
  marked event = is_some (mark_read reads event)

  stays_marked : (mark : Mark) (events : List E) → fold (mark_after reads) (Some mark) events ≡ None → ⊥
  stays_marked mark [] e = cc
  stays_marked mark (x ∷ events) e =
      elim (mark_read reads x) as (λ o. fold (mark_after reads) (option_or o (Some mark)) events ≡ None → ⊥) [
        | None ↦ stays_marked mark events
        | Some next ↦ stays_marked next events
      ] e

  no_mark_found : (events : List E) → last_mark reads events ≡ None → find marked events ≡ None
  no_mark_found [] e = refl
  no_mark_found (x ∷ events) e =
      elim (mark_read reads x) as (λ o. fold (mark_after reads) (option_or o None) events ≡ None → cond (is_some o) (Some x) (find marked events) ≡ None) [
        | None ↦ no_mark_found events
        | Some mark ↦ λ none. absurd (stays_marked mark events none)
      ] e

  mark_found : (mark : Mark) (events : List E) → last_mark reads events ≡ Some mark → (x : E) × (find marked events ≡ Some x)
  mark_found mark [] e = absurd cc
  mark_found mark (x ∷ events) e =
      elim (mark_read reads x) as (λ o. fold (mark_after reads) (option_or o None) events ≡ Some mark
      → (y : E) × (cond (is_some o) (Some x) (find marked events) ≡ Some y)) [
        | None ↦ mark_found mark events
        | Some first ↦ λ found. (x, refl)
      ] e

  -- the undecided error reply of a list that is followed by another: after a mark, and after none
  pub undecided_kept : (mark : Mark) (first second : List E) → last_mark reads first ≡ Some mark → undecided_of reads (first ++ second) ≡ undecided_of reads first
  undecided_kept mark first second e =
      let there = mark_found mark first e in
      ap (option_and_then (if_error_reply reads)) (find-append marked first second ∙ ap (λ o. option_or o (find marked second)) there.1 ∙ sym there.1)

  pub undecided_later : (first second : List E) → last_mark reads first ≡ None → undecided_of reads (first ++ second) ≡ undecided_of reads second
  undecided_later first second e =
      ap (option_and_then (if_error_reply reads)) (find-append marked first second ∙ ap (λ o. option_or o (find marked second)) (no_mark_found first e))

  pub no_mark_undecided : (events : List E) → last_mark reads events ≡ None → undecided_of reads events ≡ None
  no_mark_undecided events e = ap (option_and_then (if_error_reply reads)) (no_mark_found events e)

  stays_same : (mark : Mark) (events : List E) (before : Option Mark)
      → fold (mark_after reads) (Some mark) events ≡ option_or (fold (mark_after reads) (Some mark) events) before
  stays_same mark [] before = refl
  stays_same mark (x ∷ events) before =
      elim (mark_read reads x) as (λ o. fold (mark_after reads) (option_or o (Some mark)) events ≡ option_or (fold (mark_after reads) (option_or o (Some mark)) events) before) [
        | None ↦ stays_same mark events before
        | Some next ↦ stays_same next events before
      ]

  pub fold_mark : (before : Option Mark) (events : List E) → fold (mark_after reads) before events ≡ option_or (last_mark reads events) before
  fold_mark before [] = refl
  fold_mark before (x ∷ events) =
      elim (mark_read reads x) as (λ o. fold (mark_after reads) (option_or o before) events ≡ option_or (fold (mark_after reads) (option_or o None) events) before) [
        | None ↦ fold_mark before events
        | Some mark ↦ stays_same mark events before
      ]

  -- ---- a list followed by another

  pub paired-append : (bracket_by : Option Mark → E → Bracket) (before : Option Mark) (first second : List E)
      → paired reads bracket_by before (first ++ second) ≡ paired reads bracket_by before first ++ paired reads bracket_by (fold (mark_after reads) before first) second
  paired-append bracket_by before first second =
      ap (map pair) (bracketed-append reads bracket_by before first second)
      ∙ map-append pair (bracketed_with reads bracket_by before first) (bracketed_with reads bracket_by (fold (mark_after reads) before first) second)

  pub refused-append : (bracket_by : Option Mark → E → Bracket) (before : Option Mark) (first second : List E)
      → refused_of (bracketed_with reads bracket_by before (first ++ second)) ≡ refused_of (bracketed_with reads bracket_by before first) ++ refused_of (bracketed_with reads bracket_by
      (fold (mark_after reads) before first) second)
  refused-append bracket_by before first second =
      ap refused_of (bracketed-append reads bracket_by before first second)
      ∙ filter_map-append refused_send (bracketed_with reads bracket_by before first) (bracketed_with reads bracket_by (fold (mark_after reads) before first) second)

  -- one event by itself
  pub error_alone : (e : E) → is_error (bracket_read reads None e) ≡ true → undecided_of reads (e ∷ []) ≡ Some e
  error_alone e error =
      ap (λ b. option_and_then (if_error_reply reads) (cond b (Some e) None)) (error_marks (reads.kind e) (reads.oneway e) error) ∙ ap (λ b. cond b (Some e) None) error

  sure_alone : (e : E) → is_error (bracket_read reads None e) ≡ false → undecided_of reads (e ∷ []) ≡ None
  sure_alone e sure =
      elim (mark_read reads e) as (λ o. option_and_then (if_error_reply reads) (cond (is_some o) (Some e) None) ≡ None) [
        | None ↦ refl
        | Some mark ↦ ap (λ b. cond b (Some e) None) sure
      ]

  bracketed_length : (bracket_by : Option Mark → E → Bracket) (before : Option Mark) (events : List E) → length (bracketed_with reads bracket_by before events) ≡ length events
  bracketed_length bracket_by before [] = refl
  bracketed_length bracket_by before (e ∷ events) = ap suc (bracketed_length bracket_by (mark_after reads before e) events)

  -- there are few openers, so a sum that saturates at 64 bits is exact
  pub exact_count : (events : List E) (test : Verdict → Bool) → IsPlaced reads.place events
      → sum_64 (how_many test (all_found reads (paired reads (bracket_in_piece reads) None events))) 0
      ≡ how_many test (all_found reads (paired reads (bracket_in_piece reads) None events))
  exact_count events test placed =
      let pairs = paired reads (bracket_in_piece reads) None events in
      let few = placed.0 in
      let passed = count_by-le-length (λ (o : Opener E). test o.verdict) (all_found reads pairs) in
      let mapped = length-map (openers side pairs) (found reads) in
      let fewer = openers_short side pairs in
      let long = length-map (bracketed_piece reads events) pair ∙ bracketed_length (bracket_in_piece reads) None events in
      omega arith

module _ {E : Type 0} (reads : Reads E) (all_kept : Bool) where
  -- the value holds what sums these events
  pub record Holds (content : Content E) (events : List E) : Type 0 where
    pub placed : IsPlaced reads.place events
    pub last : content.last ≡ last_mark reads events
    pub undecided : content.undecided ≡ undecided_of reads events
    pub models : Models reads all_kept content (paired reads (bracket_in_piece reads) None events)
    pub refused : content.refused ≡ refused_of (bracketed_piece reads events)

  -- ---- from the definition to what a value holds, and back

  pub holds : (calls : Calls E) (events : List E) → CallsSum reads all_kept calls events → Holds (content_of calls) events
  holds calls events sums =
      let pairs = paired reads (bracket_in_piece reads) None events in
      let same : openers_in_piece reads events ≡ all_found reads pairs = openers-found reads (bracketed_piece reads events) in
      let number : (test : Verdict → Bool) (n : ℕ) → n ≡ how_many test (openers_in_piece reads events) → n ≡ sum_64 (how_many test (all_found reads pairs)) 0
      = λ test n is. is ∙ ap (how_many test) same ∙ sym (exact_count reads events test sums.placed) in
      record {
        placed = sums.placed;
        last = sums.last;
        undecided = sums.undecided;
        models = record {
          calls = record {
            unmatched_are = sums.unmatched ∙ ap (with_verdict is_open) same;
            closed_are = subst (λ (l : List (Opener E)). IsPermutation (kept_of all_kept (with_verdict is_closed l)) calls.closed.items) same sums.closed;
            answered_are = number is_answered calls.answered sums.answered;
            replied_are = number is_replied calls.replied sums.replied;
          };
          strays_are = sums.strays ∙ strays-found (bracketed_piece reads events);
        };
        refused = sums.refused;
      }

  pub sums : (calls : Calls E) (events : List E) → Holds (content_of calls) events → CallsSum reads all_kept calls events
  sums calls events holds =
      let pairs = paired reads (bracket_in_piece reads) None events in
      let held = holds.models.calls in
      let same : all_found reads pairs ≡ openers_in_piece reads events = sym (openers-found reads (bracketed_piece reads events)) in
      record {
        placed = holds.placed;
        last = holds.last;
        undecided = holds.undecided;
        unmatched = held.unmatched_are ∙ ap (with_verdict is_open) same;
        closed = subst (λ (l : List (Opener E)). IsPermutation (kept_of all_kept (with_verdict is_closed l)) calls.closed.items) same held.closed_are;
        answered = held.answered_are ∙ exact_count reads events is_answered holds.placed ∙ ap (how_many is_answered) same;
        replied = held.replied_are ∙ exact_count reads events is_replied holds.placed ∙ ap (how_many is_replied) same;
        strays = holds.models.strays_are ∙ sym (strays-found (bracketed_piece reads events));
        refused = holds.refused;
      }

  -- ---- one more event

  abbrev bracketed_one : Option Mark → E → List (Bracketed E)
  bracketed_one before e = record { event = e; before = before; bracket = bracket_in_piece reads before e } ∷ []

  holds_push : (new : Content E) (events : List E) (e : E) (before : Option Mark) → IsPlaced reads.place (events ++ e ∷ []) → before ≡ last_mark reads events
      → new.last ≡ mark_after reads before e → new.undecided ≡ undecided_of reads (events ++ e ∷ [])
      → Models reads all_kept new (paired reads (bracket_in_piece reads) None events ++ (e, side_of (bracket_in_piece reads before e)) ∷ [])
      → new.refused ≡ refused_of (bracketed_piece reads events) ++ refused_of (bracketed_one before e)
      → Holds new (events ++ e ∷ [])
  holds_push new events e before placed is last undecided models refused = record {
    placed = placed;
    last = last ∙ ap (λ o. mark_after reads o e) is ∙ sym (fold-append (mark_after reads) None events (e ∷ []));
    undecided = undecided;
    models = subst (λ (l : List (E × Side)). Models reads all_kept new l) (sym (paired-append reads (bracket_in_piece reads) None events (e ∷ [])))
        (subst (λ (o : Option Mark). Models reads all_kept new (paired reads (bracket_in_piece reads) None events ++ (e, side_of (bracket_in_piece reads o e)) ∷ [])) is models);
    refused = refused ∙ ap (λ o. refused_of (bracketed_piece reads events) ++ refused_of (bracketed_one o e)) is ∙ sym (refused-append reads (bracket_in_piece reads) None events (e ∷ []));
  }

  -- an error reply that is the first mark
  pub add_undecided : (old new : Content E) (events : List E) (e : E) → Holds old events → IsPlaced reads.place (events ++ e ∷ []) → old.last ≡ None
      → is_error (bracket_read reads None e) ≡ true → new ≡ record old { last = mark_after reads old.last e; undecided = Some e } → Holds new (events ++ e ∷ [])
  add_undecided old new events e holds placed none error is =
      let first : last_mark reads events ≡ None = sym holds.last ∙ none in
      let part : bracket_in_piece reads old.last e ≡ Neither = ap (λ o. bracket_in_piece reads o e) none ∙ ap (λ b. cond b Neither (bracket_read reads None e)) error in
      let models = models_same reads all_kept old new (paired reads (bracket_in_piece reads) None events)
      (ap (λ (c : Content E). c.unmatched) is) (ap (λ (c : Content E). c.closed) is) (ap (λ (c : Content E). c.answered) is) (ap (λ (c : Content E). c.replied) is)
      (ap (λ (c : Content E). c.strays) is) holds.models in
      holds_push new events e old.last placed holds.last
      (ap (λ (c : Content E). c.last) is)
      (ap (λ (c : Content E). c.undecided) is ∙ sym (error_alone reads e error) ∙ sym (undecided_later reads events (e ∷ []) first))
      (subst (λ (b : Bracket). Models reads all_kept new (paired reads (bracket_in_piece reads) None events ++ (e, side_of b) ∷ [])) (sym part)
      (passes_models reads all_kept new (paired reads (bracket_in_piece reads) None events) e models))
      (ap (λ (c : Content E). c.refused) is ∙ holds.refused ∙ sym (append-nil (refused_of (bracketed_piece reads events)))
      ∙ ap (λ (b : Bracket). refused_of (bracketed_piece reads events) ++ refused_of (record { event = e; before = old.last; bracket = b } ∷ [])) (sym part))

  -- what an event leaves unchanged
  record Keeps (bracket : Bracket) (e : E) (old new : Content E) : Type 0 where
    last : new.last ≡ old.last
    undecided : new.undecided ≡ old.undecided
    refused : new.refused ≡ old.refused ++ refused_of (record { event = e; before = old.last; bracket = bracket } ∷ [])

  pub closes_keeps : (old new : Content E) (e : E) → Closes reads all_kept old e new → (new.last ≡ old.last) × (new.undecided ≡ old.undecided) × (new.refused ≡ old.refused)
  closes_keeps old new e (closes_last front call last is) =
      (ap (λ (c : Content E). c.last) is, ap (λ (c : Content E). c.undecided) is, ap (λ (c : Content E). c.refused) is)
  closes_keeps old new e (closes_none none is) =
      (ap (λ (c : Content E). c.last) is, ap (λ (c : Content E). c.undecided) is, ap (λ (c : Content E). c.refused) is)

  keeps_same : (bracket : Bracket) (e : E) (old new : Content E) → is_refused bracket ≡ false → new.last ≡ old.last → new.undecided ≡ old.undecided
      → new.refused ≡ old.refused → Keeps bracket e old new
  keeps_same bracket e old new plain last undecided refused = record {
    last = last;
    undecided = undecided;
    refused = refused ∙ sym (append-nil old.refused) ∙ ap (λ t. old.refused ++ t) (sym (none_of_one bracket e old.last plain));
  }

  enters_keeps : (bracket : Bracket) (e : E) (old new : Content E) → Enters reads all_kept bracket e old new → Keeps bracket e old new
  enters_keeps Call e old new is =
      keeps_same Call e old new refl (ap (λ (c : Content E). c.last) is) (ap (λ (c : Content E). c.undecided) is) (ap (λ (c : Content E). c.refused) is)
  enters_keeps Served e old new is =
      keeps_same Served e old new refl (ap (λ (c : Content E). c.last) is) (ap (λ (c : Content E). c.undecided) is) (ap (λ (c : Content E). c.refused) is)
  enters_keeps Reply e old new step = let kept = closes_keeps old new e step in keeps_same Reply e old new refl kept.0 kept.1 kept.2
  enters_keeps Sent e old new step = let kept = closes_keeps old new e step in keeps_same Sent e old new refl kept.0 kept.1 kept.2
  enters_keeps Error e old new step = let kept = closes_keeps old new e step in keeps_same Error e old new refl kept.0 kept.1 kept.2
  enters_keeps Refused e old new is = record {
    last = ap (λ (c : Content E). c.last) is;
    undecided = ap (λ (c : Content E). c.undecided) is;
    refused = ap (λ (c : Content E). c.refused) is;
  }
  enters_keeps Neither e old new is =
      keeps_same Neither e old new refl (ap (λ (c : Content E). c.last) is) (ap (λ (c : Content E). c.undecided) is) (ap (λ (c : Content E). c.refused) is)

  -- taking in an event does not set the latest mark
  pub enters_last : (bracket : Bracket) (e : E) (old new : Content E) → Enters reads all_kept bracket e old new → new.last ≡ old.last
  enters_last bracket e old new step = (enters_keeps bracket e old new step).last

  -- the bracket of an event that is decided
  decided_bracket : (before : Option Mark) (e : E) → (before ≡ None → is_error (bracket_read reads None e) ≡ false) → bracket_in_piece reads before e ≡ bracket_read reads before e
  decided_bracket None e sure = ap (λ b. cond b Neither (bracket_read reads None e)) (sure refl)
  decided_bracket (Some mark) e sure = refl

  decided_kept : (before : Option Mark) (events : List E) (e : E) → before ≡ last_mark reads events → (before ≡ None → is_error (bracket_read reads None e) ≡ false)
      → undecided_of reads events ≡ undecided_of reads (events ++ e ∷ [])
  decided_kept None events e is sure =
      no_mark_undecided reads events (sym is) ∙ sym (sure_alone reads e (sure refl)) ∙ sym (undecided_later reads events (e ∷ []) (sym is))
  decided_kept (Some mark) events e is sure = sym (undecided_kept reads mark events (e ∷ []) (sym is))

  pub add_entered : (old between new : Content E) (events : List E) (e : E) (bracket : Bracket) → Holds old events → IsPlaced reads.place (events ++ e ∷ [])
      → bracket ≡ bracket_read reads old.last e → (old.last ≡ None → is_error (bracket_read reads None e) ≡ false) → Enters reads all_kept bracket e old between
      → new ≡ record between { last = mark_after reads old.last e } → Holds new (events ++ e ∷ [])
  add_entered old between new events e bracket holds placed which sure step is =
      let kept = enters_keeps bracket e old between step in
      let part : bracket_in_piece reads old.last e ≡ bracket = decided_bracket old.last e sure ∙ sym which in
      let models = models_same reads all_kept between new (paired reads (bracket_in_piece reads) None events ++ (e, side_of bracket) ∷ [])
      (ap (λ (c : Content E). c.unmatched) is) (ap (λ (c : Content E). c.closed) is) (ap (λ (c : Content E). c.answered) is) (ap (λ (c : Content E). c.replied) is)
      (ap (λ (c : Content E). c.strays) is)
      (enters_models reads all_kept bracket e old between (paired reads (bracket_in_piece reads) None events) holds.models step) in
      holds_push new events e old.last placed holds.last
      (ap (λ (c : Content E). c.last) is)
      (ap (λ (c : Content E). c.undecided) is ∙ kept.undecided ∙ holds.undecided ∙ decided_kept old.last events e holds.last sure)
      (subst (λ (b : Bracket). Models reads all_kept new (paired reads (bracket_in_piece reads) None events ++ (e, side_of b) ∷ [])) (sym part) models)
      (ap (λ (c : Content E). c.refused) is ∙ kept.refused
      ∙ ap (λ l. l ++ refused_of (record { event = e; before = old.last; bracket = bracket } ∷ [])) holds.refused
      ∙ ap (λ (b : Bracket). refused_of (bracketed_piece reads events) ++ refused_of (record { event = e; before = old.last; bracket = b } ∷ [])) (sym part))
