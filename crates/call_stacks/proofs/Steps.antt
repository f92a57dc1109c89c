-- What a value holds, step by step.
use Rattle.std.proofs.Common.{◌≡◌, ℕ, ◌+◌, Bool, true, false, cond, not, Option, Some, None, refl, sym, ap, ap₂, subst, ◌∙◌, arith}
use Rattle.std.proofs.Common.{List, [], ◌∷◌, ◌++◌, map, drop, append_assoc}
use Rattle.std.proofs.lemmas.List.{append-nil, map-append}
use Rattle.std.proofs.lemmas.List.Elements.{filter-append}
use Rattle.std.proofs.lemmas.List.Sorted.{IsPermutation-append, IsPermutation-append_comm, IsPermutation-append_left, IsPermutation-append_right, IsPermutation-trans}
use Rattle.std.proofs.lemmas.List.Sums.{sum_by-append, sum_by-cons}
use Rattle.std.specs.List.Sorted.{IsPermutation}
use Rattle.event_core.specs.declared.marks.Bracket.{Bracket}
use Rattle.event_core.specs.declared.marks.Bracket.TheVariants.{Call, Served, Reply, Sent, Error, Refused, Neither}
use Rattle.call_stacks.specs.declared.opener.Opener.{Opener}
use Rattle.call_stacks.specs.declared.verdict.Verdict.{Verdict}
use Rattle.call_stacks.specs.Calls.{Reads, bracket_read, with_verdict, how_many, kept_of, open_call}
use Rattle.call_stacks.specs.Content.{Content, closed_with, sum_64, one_more, taken, begun, refused_too, Closes, closes_last, closes_none, ClosesAll, Enters}
use Rattle.call_stacks.specs.Matching.{Side, opener, closer, neither}
use Rattle.call_stacks.specs.Verdicts.{side_of, verdict_of, is_answered, is_replied, is_open, is_closed}
use Rattle.call_stacks.proofs.Bracketing.{side}
use Rattle.call_stacks.proofs.Kept.{kept-append}
use Rattle.call_stacks.proofs.Lists.{found, event_of}
use Rattle.call_stacks.proofs.Model as model
use Rattle.call_stacks.proofs.Model.{strays, openers, strays-append, openers-append, AllClosed, first_is}

-- ---- calls by their verdicts

-- a call that something closes is not open
pub never_open : (call answer : Bracket) → is_open (verdict_of call answer) ≡ false
never_open Call Reply = refl
never_open Call Error = refl
never_open Served Sent = refl
never_open _ _ = refl

module _ {E : Type 0} where
  how_many-append : (test : Verdict → Bool) (first second : List (Opener E)) → how_many test (first ++ second) ≡ how_many test first + how_many test second
  how_many-append test first second = sum_by-append _ first second

  -- how many calls pass, with one call more among them
  how_many_among : (test : Verdict → Bool) (before after : List (Opener E)) (call : Opener E)
      → how_many test (before ++ call ∷ after) ≡ how_many test before + (cond (test call.verdict) 1 0 + how_many test after)
  how_many_among test before after call =
      how_many-append test before (call ∷ after)
      ∙ ap (λ (n : ℕ). how_many test before + n) (sum_by-cons (λ (o : Opener E). cond (test o.verdict) 1 0) call after)

  -- the calls that pass, with one call more among them
  with_among : (test : Verdict → Bool) (before after : List (Opener E)) (call : Opener E) (b : Bool) → test call.verdict ≡ b
      → with_verdict test (before ++ call ∷ after) ≡ with_verdict test before ++ cond b (call ∷ with_verdict test after) (with_verdict test after)
  with_among test before after call b is =
      filter-append (λ (o : Opener E). test o.verdict) before (call ∷ after)
      ∙ ap (λ (c : Bool). with_verdict test before ++ cond c (call ∷ with_verdict test after) (with_verdict test after)) is

one_counted : (b : Bool) (old before after : ℕ) → old ≡ sum_64 (before + (0 + after)) 0 → one_more b old ≡ sum_64 (before + (cond b 1 0 + after)) 0
one_counted true old before after is = omega (arith, is)
one_counted false old before after is = is

sums_counted : (a b first second : ℕ) → a ≡ sum_64 first 0 → b ≡ sum_64 second 0 → sum_64 a b ≡ sum_64 (first + second) 0
sums_counted a b first second is is_too = omega (arith, is, is_too)

none_counted : (old n : ℕ) → old ≡ sum_64 n 0 → old ≡ sum_64 (n + (0 + 0)) 0
none_counted old n is = omega (arith, is)

-- ---- the openers without a closer

push_is_nil : {X Y : Type 0} (f : X → Y) (xs : List X) (x : X) → map f (xs ++ x ∷ []) ≡ [] → ⊥
push_is_nil f [] x e = cc
push_is_nil f (y ∷ xs) x e = cc

module _ {E : Type 0} where
  -- these events, all as closers
  abbrev pub as_closers : List E → List (E × Side)
  as_closers events = map (λ event. (event, closer)) events

  -- one more record that neither opens nor closes
  push_strays : (pairs : List (E × Side)) (p : E × Side) → strays side (p ∷ []) ≡ [] → strays side (pairs ++ p ∷ []) ≡ strays side pairs
  push_strays pairs p none =
      strays-append side pairs (p ∷ []) ∙ ap (λ t. strays side (pairs ++ t)) none ∙ ap (strays side) (append-nil pairs)

  push_openers : (pairs : List (E × Side)) (p : E × Side) → strays side (p ∷ []) ≡ []
      → openers side (pairs ++ p ∷ []) ≡ openers side pairs ++ openers side (p ∷ [])
  push_openers pairs p none =
      openers-append side pairs (p ∷ [])
      ∙ ap (λ t. openers side (pairs ++ t) ++ openers side (p ∷ [])) none
      ∙ ap (λ t. openers side t ++ openers side (p ∷ [])) (append-nil pairs)

module _ {E : Type 0} (reads : Reads E) where
  -- the calls by these sides
  abbrev pub all_found : List (E × Side) → List (Opener E)
  all_found pairs = map (found reads) (openers side pairs)

  abbrev open_found : List ((E × Side) × Option (E × Side)) → List (Opener E)
  open_found items = with_verdict is_open (map (found reads) items)

  -- a call that has its closer is not open
  closed_found : (x c : E × Side) (later : List ((E × Side) × Option (E × Side))) → open_found ((x, Some c) ∷ later) ≡ open_found later
  closed_found x c later =
      ap (λ (b : Bool). cond b (found reads (x, Some c) ∷ open_found later) (open_found later)) (never_open (bracket_read reads None x.0) (bracket_read reads None c.0))

  all_closed : (items : List ((E × Side) × Option (E × Side))) → open_found items ≡ [] → AllClosed items
  all_closed [] e = tt
  all_closed ((x, None) ∷ later) e = cc
  all_closed ((x, Some c) ∷ later) e = all_closed later (sym (closed_found x c later) ∙ e)

  none_open : (items : List ((E × Side) × Option (E × Side))) → AllClosed items → open_found items ≡ []
  none_open [] all = refl
  none_open ((x, None) ∷ later) all = absurd all
  none_open ((x, Some c) ∷ later) all = closed_found x c later ∙ none_open later all

  -- the last opener without a closer, and what comes before and after it
  record LastOpen (items : List ((E × Side) × Option (E × Side))) (front : List E) (event : E) : Type 0 where
    before : List ((E × Side) × Option (E × Side))
    call : E × Side
    after : List ((E × Side) × Option (E × Side))
    split : items ≡ before ++ (call, None) ∷ after
    closed_later : AllClosed after
    call_is : call.0 ≡ event
    front_is : map open_call front ≡ open_found before

  last_open : (items : List ((E × Side) × Option (E × Side))) (front : List E) (event : E) → map open_call (front ++ event ∷ []) ≡ open_found items
      → LastOpen items front event
  last_open [] front event e = absurd (push_is_nil open_call front event e)
  last_open ((x, Some c) ∷ later) front event e =
      let rest = last_open later front event (e ∙ closed_found x c later) in
      record {
        before = (x, Some c) ∷ rest.before;
        call = rest.call;
        after = rest.after;
        split = ap (λ t. (x, Some c) ∷ t) rest.split;
        closed_later = rest.closed_later;
        call_is = rest.call_is;
        front_is = rest.front_is ∙ sym (closed_found x c rest.before);
      }
  last_open ((x, None) ∷ later) [] event e = record {
    before = [];
    call = x;
    after = later;
    split = refl;
    closed_later = all_closed later (sym (ap (drop 1) e));
    call_is = ap (λ (o : Opener E). o.event) (sym (first_is (open_call event) (found reads (x, None)) [] (open_found later) e));
    front_is = refl;
  }
  last_open ((x, None) ∷ later) (f ∷ front) event e =
      let rest = last_open later front event (ap (drop 1) e) in
      record {
        before = (x, None) ∷ rest.before;
        call = rest.call;
        after = rest.after;
        split = ap (λ t. (x, None) ∷ t) rest.split;
        closed_later = rest.closed_later;
        call_is = rest.call_is;
        front_is = ap (λ t. open_call f ∷ t) rest.front_is
            ∙ ap (λ (o : Opener E). o ∷ open_found rest.before)
            (first_is (open_call f) (found reads (x, None)) (map open_call (front ++ event ∷ [])) (open_found later) e);
      }

module _ {E : Type 0} (reads : Reads E) (all_kept : Bool) where
  -- ---- what a value holds of calls, and of a list of sides

  pub record HoldsCalls (content : Content E) (calls : List (Opener E)) : Type 0 where
    pub unmatched_are : map open_call content.unmatched ≡ with_verdict is_open calls
    pub closed_are : IsPermutation (kept_of all_kept (with_verdict is_closed calls)) content.closed
    pub answered_are : content.answered ≡ sum_64 (how_many is_answered calls) 0
    pub replied_are : content.replied ≡ sum_64 (how_many is_replied calls) 0

  pub record Models (content : Content E) (pairs : List (E × Side)) : Type 0 where
    pub calls : HoldsCalls content (all_found reads pairs)
    pub strays_are : content.strays ≡ map event_of (strays side pairs)

  -- the calls of one list followed by those of another
  pub holds_both : (first second new : Content E) (front back : List (Opener E)) → HoldsCalls first front → HoldsCalls second back
      → new.unmatched ≡ first.unmatched ++ second.unmatched → new.closed ≡ first.closed ++ second.closed
      → new.answered ≡ sum_64 first.answered second.answered → new.replied ≡ sum_64 first.replied second.replied → HoldsCalls new (front ++ back)
  holds_both first second new front back a b unmatched closed answered replied =
      let kept = λ (calls : List (Opener E)). kept_of all_kept (with_verdict is_closed calls) in
      let lists : kept (front ++ back) ≡ kept front ++ kept back
      = ap (kept_of all_kept) (filter-append (λ (o : Opener E). is_closed o.verdict) front back)
      ∙ kept-append all_kept (with_verdict is_closed front) (with_verdict is_closed back) in
      record {
        unmatched_are = ap (map open_call) unmatched ∙ map-append open_call first.unmatched second.unmatched
            ∙ ap₂ (λ (xs ys : List (Opener E)). xs ++ ys) a.unmatched_are b.unmatched_are
            ∙ sym (filter-append (λ (o : Opener E). is_open o.verdict) front back);
        closed_are = subst (λ (l : List (Opener E)). IsPermutation l new.closed) (sym lists)
            (subst (IsPermutation (kept front ++ kept back)) (sym closed)
            (IsPermutation-append (kept front) first.closed (kept back) second.closed a.closed_are b.closed_are));
        answered_are = answered
            ∙ sums_counted first.answered second.answered (how_many is_answered front) (how_many is_answered back) a.answered_are b.answered_are
            ∙ ap (λ (n : ℕ). sum_64 n 0) (sym (how_many-append is_answered front back));
        replied_are = replied
            ∙ sums_counted first.replied second.replied (how_many is_replied front) (how_many is_replied back) a.replied_are b.replied_are
            ∙ ap (λ (n : ℕ). sum_64 n 0) (sym (how_many-append is_replied front back));
      }

  -- one more open call
  holds_begun : (old : Content E) (calls : List (Opener E)) (event : E) → HoldsCalls old calls → HoldsCalls (begun event old) (calls ++ open_call event ∷ [])
  holds_begun old calls event held = record {
    unmatched_are = map-append open_call old.unmatched (event ∷ [])
        ∙ ap (λ (l : List (Opener E)). l ++ open_call event ∷ []) held.unmatched_are
        ∙ sym (filter-append (λ (o : Opener E). is_open o.verdict) calls (open_call event ∷ []));
    closed_are = subst (λ (l : List (Opener E)). IsPermutation (kept_of all_kept l) old.closed)
        (sym (append-nil (with_verdict is_closed calls)) ∙ sym (filter-append (λ (o : Opener E). is_closed o.verdict) calls (open_call event ∷ []))) held.closed_are;
    answered_are = none_counted old.answered (how_many is_answered calls) held.answered_are
        ∙ ap (λ (n : ℕ). sum_64 n 0) (sym (how_many_among is_answered calls [] (open_call event)));
    replied_are = none_counted old.replied (how_many is_replied calls) held.replied_are
        ∙ ap (λ (n : ℕ). sum_64 n 0) (sym (how_many_among is_replied calls [] (open_call event)));
  }

  -- the last open call is closed
  holds_taken : (old : Content E) (front : List E) (before after : List (Opener E)) (event answer : E)
      → HoldsCalls old (before ++ open_call event ∷ after) → map open_call front ≡ with_verdict is_open before → with_verdict is_open after ≡ []
      → HoldsCalls (taken all_kept (closed_with reads answer (open_call event)) (record old { unmatched = front }))
      (before ++ closed_with reads answer (open_call event) ∷ after)
  holds_taken old front before after event answer held front_is none =
      let call : Opener E = closed_with reads answer (open_call event) in
      let closed : is_open call.verdict ≡ false = never_open (bracket_read reads None event) (bracket_read reads None answer) in
      let kept = λ (calls : List (Opener E)). kept_of all_kept (with_verdict is_closed calls) in
      let one = kept_of all_kept (call ∷ []) in
      let were : kept (before ++ open_call event ∷ after) ≡ kept before ++ kept after
      = ap (kept_of all_kept) (with_among is_closed before after (open_call event) false refl)
      ∙ kept-append all_kept (with_verdict is_closed before) (with_verdict is_closed after) in
      let are : kept (before ++ call ∷ after) ≡ kept before ++ (one ++ kept after)
      = ap (kept_of all_kept) (with_among is_closed before after call true (ap not closed))
      ∙ kept-append all_kept (with_verdict is_closed before) (call ∷ with_verdict is_closed after)
      ∙ ap (λ (l : List (Opener E)). kept before ++ l) (kept-append all_kept (call ∷ []) (with_verdict is_closed after)) in
      let old_closed : IsPermutation (kept before ++ kept after) old.closed
      = subst (λ (l : List (Opener E)). IsPermutation l old.closed) were held.closed_are in
      let last : IsPermutation (kept before ++ (one ++ kept after)) ((kept before ++ kept after) ++ one)
      = subst (IsPermutation (kept before ++ (one ++ kept after))) (sym (append_assoc (kept before) (kept after) one))
      (IsPermutation-append_right (kept before) (one ++ kept after) (kept after ++ one) (IsPermutation-append_comm one (kept after))) in
      record {
        unmatched_are = front_is ∙ sym (append-nil (with_verdict is_open before))
            ∙ ap (λ (l : List (Opener E)). with_verdict is_open before ++ l) (sym none)
            ∙ sym (with_among is_open before after call false closed);
        closed_are = subst (λ (l : List (Opener E)). IsPermutation l (old.closed ++ one)) (sym are)
            (IsPermutation-trans (kept before ++ (one ++ kept after)) ((kept before ++ kept after) ++ one) (old.closed ++ one) last
            (IsPermutation-append_left one (kept before ++ kept after) old.closed old_closed));
        answered_are =
            one_counted (is_answered call.verdict) old.answered (how_many is_answered before) (how_many is_answered after)
            (held.answered_are ∙ ap (λ (n : ℕ). sum_64 n 0) (how_many_among is_answered before after (open_call event)))
            ∙ ap (λ (n : ℕ). sum_64 n 0) (sym (how_many_among is_answered before after call));
        replied_are =
            one_counted (is_replied call.verdict) old.replied (how_many is_replied before) (how_many is_replied after)
            (held.replied_are ∙ ap (λ (n : ℕ). sum_64 n 0) (how_many_among is_replied before after (open_call event)))
            ∙ ap (λ (n : ℕ). sum_64 n 0) (sym (how_many_among is_replied before after call));
      }

  -- the same openers give the same calls
  pub holds_same : (content : Content E) (items others : List ((E × Side) × Option (E × Side))) → items ≡ others
      → HoldsCalls content (map (found reads) items) → HoldsCalls content (map (found reads) others)
  holds_same content items others same held =
      subst (λ (l : List ((E × Side) × Option (E × Side))). HoldsCalls content (map (found reads) l)) same held

  -- a value with the same lists and numbers
  pub models_same : (old new : Content E) (pairs : List (E × Side)) → new.unmatched ≡ old.unmatched → new.closed ≡ old.closed
      → new.answered ≡ old.answered → new.replied ≡ old.replied → new.strays ≡ old.strays → Models old pairs → Models new pairs
  models_same old new pairs a b c d e models = record {
    calls = record {
      unmatched_are = ap (map open_call) a ∙ models.calls.unmatched_are;
      closed_are = subst (IsPermutation (kept_of all_kept (with_verdict is_closed (all_found reads pairs)))) (sym b) models.calls.closed_are;
      answered_are = c ∙ models.calls.answered_are;
      replied_are = d ∙ models.calls.replied_are;
    };
    strays_are = e ∙ models.strays_are;
  }

  pub passes_models : (content : Content E) (pairs : List (E × Side)) (event : E) → Models content pairs → Models content (pairs ++ (event, neither) ∷ [])
  passes_models content pairs event models = record {
    calls = holds_same content (openers side pairs) (openers side (pairs ++ (event, neither) ∷ []))
        (sym (push_openers pairs (event, neither) refl ∙ append-nil (openers side pairs))) models.calls;
    strays_are = models.strays_are ∙ ap (map event_of) (sym (push_strays pairs (event, neither) refl));
  }

  -- one more opener
  pub begun_models : (old : Content E) (pairs : List (E × Side)) (event : E) → Models old pairs → Models (begun event old) (pairs ++ (event, opener) ∷ [])
  begun_models old pairs event models =
      let more : openers side (pairs ++ (event, opener) ∷ []) ≡ openers side pairs ++ ((event, opener), None) ∷ []
      = push_openers pairs (event, opener) refl in
      record {
        calls = holds_same (begun event old) (openers side pairs ++ ((event, opener), None) ∷ []) (openers side (pairs ++ (event, opener) ∷ [])) (sym more)
            (subst (HoldsCalls (begun event old)) (sym (map-append (found reads) (openers side pairs) (((event, opener), None) ∷ [])))
            (holds_begun old (all_found reads pairs) event models.calls));
        strays_are = models.strays_are ∙ ap (map event_of) (sym (push_strays pairs (event, opener) refl));
      }

  -- one more closer
  pub closes_models : (old new : Content E) (pairs : List (E × Side)) (event : E) → Models old pairs → Closes reads all_kept old event new
      → Models new (pairs ++ (event, closer) ∷ [])
  closes_models old new pairs event models (closes_none none is) =
      let all = all_closed reads (openers side pairs) (sym models.calls.unmatched_are ∙ ap (map open_call) none) in
      let step = model.closes_none side pairs (event, closer) refl all in
      subst (λ (c : Content E). Models c (pairs ++ (event, closer) ∷ [])) (sym is) (record {
        calls = let held = holds_same old (openers side pairs) (openers side (pairs ++ (event, closer) ∷ [])) (sym step.0) models.calls in
            record {
              unmatched_are = held.unmatched_are;
              closed_are = held.closed_are;
              answered_are = held.answered_are;
              replied_are = held.replied_are;
            };
        strays_are = ap (λ t. t ++ event ∷ []) models.strays_are
            ∙ sym (map-append event_of (strays side pairs) ((event, closer) ∷ []))
            ∙ ap (map event_of) (sym step.1);
      })
  closes_models old new pairs event models (closes_last front call last is) =
      let open_last = last_open reads (openers side pairs) front call (sym (ap (map open_call) last) ∙ models.calls.unmatched_are) in
      let before = open_last.before in
      let x = open_last.call in
      let after = open_last.after in
      let step = model.closes_last side pairs (event, closer) before x after refl open_last.split open_last.closed_later in
      let were : all_found reads pairs ≡ map (found reads) before ++ open_call call ∷ map (found reads) after
      = ap (map (found reads)) open_last.split ∙ map-append (found reads) before ((x, None) ∷ after)
      ∙ ap (λ (e : E). map (found reads) before ++ open_call e ∷ map (found reads) after) open_last.call_is in
      let are : map (found reads) before ++ closed_with reads event (open_call call) ∷ map (found reads) after ≡ all_found reads (pairs ++ (event, closer) ∷ [])
      = ap (λ (e : E). map (found reads) before ++ closed_with reads event (open_call e) ∷ map (found reads) after) (sym open_last.call_is)
      ∙ sym (map-append (found reads) before ((x, Some (event, closer)) ∷ after))
      ∙ ap (map (found reads)) (sym step.0) in
      subst (λ (c : Content E). Models c (pairs ++ (event, closer) ∷ [])) (sym is) (record {
        calls = subst (HoldsCalls (taken all_kept (closed_with reads event (open_call call)) (record old { unmatched = front }))) are
            (holds_taken old front (map (found reads) before) (map (found reads) after) call event
            (subst (HoldsCalls old) were models.calls) open_last.front_is (none_open reads after open_last.closed_later));
        strays_are = models.strays_are ∙ ap (map event_of) (sym step.1);
      })

  pub closes_all_models : (old new : Content E) (pairs : List (E × Side)) (events : List E) → Models old pairs → ClosesAll reads all_kept old events new
      → Models new (pairs ++ as_closers events)
  closes_all_models old new pairs [] models is =
      subst (λ (l : List (E × Side)). Models new l) (sym (append-nil pairs)) (subst (λ (c : Content E). Models c pairs) (sym is) models)
  closes_all_models old new pairs (e ∷ events) models step =
      subst (λ (l : List (E × Side)). Models new l) (append_assoc pairs ((e, closer) ∷ []) (as_closers events))
      (closes_all_models step.0 new (pairs ++ (e, closer) ∷ []) events (closes_models old step.0 pairs e models step.1) step.2)

  -- an event with this bracket
  pub enters_models : (bracket : Bracket) (event : E) (old new : Content E) (pairs : List (E × Side)) → Models old pairs → Enters reads all_kept bracket event old new
      → Models new (pairs ++ (event, side_of bracket) ∷ [])
  enters_models Call event old new pairs models is =
      subst (λ (c : Content E). Models c (pairs ++ (event, opener) ∷ [])) (sym is) (begun_models old pairs event models)
  enters_models Served event old new pairs models is =
      subst (λ (c : Content E). Models c (pairs ++ (event, opener) ∷ [])) (sym is) (begun_models old pairs event models)
  enters_models Reply event old new pairs models step = closes_models old new pairs event models step
  enters_models Sent event old new pairs models step = closes_models old new pairs event models step
  enters_models Error event old new pairs models step = closes_models old new pairs event models step
  enters_models Refused event old new pairs models is =
      subst (λ (c : Content E). Models c (pairs ++ (event, neither) ∷ [])) (sym is)
      (passes_models (refused_too event old) pairs event (models_same old (refused_too event old) pairs refl refl refl refl refl models))
  enters_models Neither event old new pairs models is =
      subst (λ (c : Content E). Models c (pairs ++ (event, neither) ∷ [])) (sym is) (passes_models old pairs event models)

  -- ---- closers in turn

  pub closes_all_push : (old between new : Content E) (events : List E) (e : E) → ClosesAll reads all_kept old events between → Closes reads all_kept between e new
      → ClosesAll reads all_kept old (events ++ e ∷ []) new
  closes_all_push old between new [] e is step = (new, subst (λ (c : Content E). Closes reads all_kept c e new) is step, refl)
  closes_all_push old between new (x ∷ events) e steps step = (steps.0, steps.1, closes_all_push steps.0 between new events e steps.2 step)
