-- The calls of events that are given in another form: if the other form reads the same, they are the same.
use Rattle.std.proofs.Common.{◌≡◌, ℕ, Bool, true, false, cond, Option, Some, None, refl, sym, ap, ap₂, ◌∙◌}
use Rattle.std.proofs.Common.{List, [], ◌∷◌, map}
use Rattle.std.proofs.lemmas.Simd.{map-map}
use Rattle.std.specs.List.{cons_option}
use Rattle.std.specs.Option.{option_or}
use Rattle.event_core.specs.Brackets.{mark_of, bracket_of}
use Rattle.event_core.specs.declared.marks.Bracket.{Bracket}
use Rattle.event_core.specs.declared.marks.Mark.{Mark}
use Rattle.call_stacks.specs.declared.findings.CallFindings.{CallFindings}
use Rattle.call_stacks.specs.declared.findings.RefusedSend.{RefusedSend}
use Rattle.call_stacks.specs.declared.opener.Opener.{Opener}
use Rattle.call_stacks.specs.Calls.{Reads, Bracketed, bracket_read, mark_after, bracketed_with, bracketed_of, openers_of, strays_in, verdict_read}
use Rattle.call_stacks.specs.Calls.{is_refused, is_oneway_mark, refused_of, AreFindings, how_many, kept_of}
use Rattle.call_stacks.specs.Matching.{Side}
use Rattle.summary_law.proofs.FilterLaws.{count_by-map, filter-map}
use Rattle.call_stacks.specs.Verdicts.{side_of, verdict_of, is_answered, is_replied, lacks_reply}
use Rattle.call_stacks.specs.declared.verdict.Verdict.{Verdict}
use Rattle.call_stacks.proofs.Found.{openers-found, strays-found}
use Rattle.call_stacks.proofs.Bracketing.{pair, side}
use Rattle.call_stacks.proofs.Lists.{found, event_of, openers_found, strays_found}
use Rattle.call_stacks.proofs.Model.{both, openers, strays, openers-map, strays-map}

-- ---- bracketed events

-- both forms read the same
pub record ReadAlike {E F : Type 0} (from : Reads E) (into : Reads F) (tell : E → F) : Type 0 where
  pub place : (e : E) → into.place (tell e) ≡ from.place e
  pub kind : (e : E) → into.kind (tell e) ≡ from.kind e
  pub oneway : (e : E) → into.oneway (tell e) ≡ from.oneway e

abbrev pub told_bracketed : {E F : Type 0} → (E → F) → Bracketed E → Bracketed F
told_bracketed tell found = record { event = tell found.event; before = found.before; bracket = found.bracket }

abbrev pub told_opener : {E F : Type 0} → (E → F) → Opener E → Opener F
told_opener tell call = record { event = tell call.event; verdict = call.verdict; closer = call.closer }

abbrev pub told_send : {E F : Type 0} → (E → F) → RefusedSend E → RefusedSend F
told_send tell sent = record { event = tell sent.event; oneway = sent.oneway }

module _ {E F : Type 0} (from : Reads E) (into : Reads F) (tell : E → F) (alike : ReadAlike from into tell) where
  bracket_told : (before : Option Mark) (e : E) → bracket_read into before (tell e) ≡ bracket_read from before e
  bracket_told before e = ap₂ (bracket_of before) (alike.kind e) (alike.oneway e)

  after_told : (before : Option Mark) (e : E) → mark_after into before (tell e) ≡ mark_after from before e
  after_told before e = ap (λ (m : Option Mark). option_or m before) (ap₂ mark_of (alike.kind e) (alike.oneway e))

  bracketed_from : (before : Option Mark) (events : List E)
      → bracketed_with into (bracket_read into) before (map tell events) ≡ map (told_bracketed tell) (bracketed_with from (bracket_read from) before events)
  bracketed_from before [] = refl
  bracketed_from before (e ∷ events) =
      let head : Bracket → Bracketed F = λ b. record { event = tell e; before = before; bracket = b } in
      ap₂ (λ (b : Bracket) (rest : List (Bracketed F)). head b ∷ rest) (bracket_told before e)
      (ap (λ (m : Option Mark). bracketed_with into (bracket_read into) m (map tell events)) (after_told before e)
      ∙ bracketed_from (mark_after from before e) events)

  pub bracketed_told : (events : List E) → bracketed_of into (map tell events) ≡ map (told_bracketed tell) (bracketed_of from events)
  bracketed_told events = bracketed_from None events

  verdict_told : (call answer : E) → verdict_read into (tell call) (tell answer) ≡ verdict_read from call answer
  verdict_told call answer = ap₂ verdict_of (bracket_told None call) (bracket_told None answer)

  -- ---- openers and strays

  abbrev told_pair : E × Side → F × Side
  told_pair p = (tell p.0, p.1)

  pairs_told : (items : List (Bracketed E)) → map pair (map (told_bracketed tell) items) ≡ map told_pair (map pair items)
  pairs_told [] = refl
  pairs_told (j ∷ items) = ap (λ ps. (tell j.event, side_of j.bracket) ∷ ps) (pairs_told items)

  found_told : (p : (E × Side) × Option (E × Side)) → found into (both told_pair p) ≡ told_opener tell (found from p)
  found_told (p, None) = refl
  found_told (p, Some answer) =
      let with : Verdict → ℕ → Opener F = λ v n. record { event = tell p.0; verdict = v; closer = Some n } in
      ap₂ with (verdict_told p.0 answer.0) (alike.place answer.0)

  all_told : (ps : List ((E × Side) × Option (E × Side))) → map (found into) (map (both told_pair) ps) ≡ map (told_opener tell) (map (found from) ps)
  all_told [] = refl
  all_told (p ∷ ps) = ap₂ (λ (call : Opener F) calls. call ∷ calls) (found_told p) (all_told ps)

  openers_told : (items : List (Bracketed E)) → openers_found into (map (told_bracketed tell) items) ≡ map (told_opener tell) (openers_found from items)
  openers_told items =
      ap (λ ps. map (found into) (openers side ps)) (pairs_told items)
      ∙ ap (map (found into)) (openers-map told_pair side (map pair items))
      ∙ all_told (openers side (map pair items))

  strays_told : (items : List (Bracketed E)) → strays_found (map (told_bracketed tell) items) ≡ map tell (strays_found items)
  strays_told items =
      ap (λ ps. map event_of (strays side ps)) (pairs_told items)
      ∙ ap (map event_of) (strays-map told_pair side (map pair items))
      ∙ map-map event_of told_pair (strays side (map pair items))
      ∙ sym (map-map tell event_of (strays side (map pair items)))

-- ---- refused sends

refused_told : {E F : Type 0} (tell : E → F) (items : List (Bracketed E)) → refused_of (map (told_bracketed tell) items) ≡ map (told_send tell) (refused_of items)
refused_told tell [] = refl
refused_told {E} {F} tell (j ∷ items) =
    let own : RefusedSend E = record { event = j.event; oneway = is_oneway_mark j.before } in
    let rest = refused_told tell items in
    elim (is_refused j.bracket) as (λ b. cons_option (cond b (Some (told_send tell own)) None) (refused_of (map (told_bracketed tell) items))
    ≡ map (told_send tell) (cons_option (cond b (Some own) None) (refused_of items))) [
      | true ↦ ap (λ sends. told_send tell own ∷ sends) rest
      | false ↦ rest
    ]

-- ---- calls by their verdicts

kept_told : {E F : Type 0} (tell : E → F) (all_kept : Bool) (calls : List (Opener E))
    → kept_of all_kept (map (told_opener tell) calls) ≡ map (told_opener tell) (kept_of all_kept calls)
kept_told tell true calls = refl
kept_told tell false calls = filter-map (told_opener tell) (λ o. lacks_reply o.verdict) calls

-- ---- the findings of events in another form, as those of the events themselves

module _ {E F : Type 0} (from : Reads E) (into : Reads F) (tell : E → F) (alike : ReadAlike from into tell) (events : List E) where
  all_openers : openers_of into (map tell events) ≡ map (told_opener tell) (openers_of from events)
  all_openers =
      openers-found into (bracketed_of into (map tell events))
      ∙ ap (openers_found into) (bracketed_told from into tell alike events)
      ∙ openers_told from into tell alike (bracketed_of from events)
      ∙ ap (map (told_opener tell)) (sym (openers-found from (bracketed_of from events)))

  all_strays : strays_in (bracketed_of into (map tell events)) ≡ map tell (strays_in (bracketed_of from events))
  all_strays =
      ap (λ (items : List (Bracketed F)). strays_in items) (bracketed_told from into tell alike events)
      ∙ strays-found (map (told_bracketed tell) (bracketed_of from events))
      ∙ strays_told from into tell alike (bracketed_of from events)
      ∙ ap (map tell) (sym (strays-found (bracketed_of from events)))

  module _ (all_kept : Bool) (findings : CallFindings F) (are : AreFindings into all_kept (map tell events) findings) where
    pub record Retold : Type 0 where
      pub kept : findings.openers.items ≡ map (told_opener tell) (kept_of all_kept (openers_of from events))
      pub answered : findings.answered ≡ how_many is_answered (openers_of from events)
      pub replied : findings.replied ≡ how_many is_replied (openers_of from events)
      pub strays : findings.strays.items ≡ map tell (strays_in (bracketed_of from events))
      pub refused : findings.refused.items ≡ map (told_send tell) (refused_of (bracketed_of from events))

    pub retold : Retold
    retold = record {
      kept = are.kept ∙ ap (kept_of all_kept) all_openers ∙ kept_told tell all_kept (openers_of from events);
      answered = are.answered ∙ ap (how_many is_answered) all_openers ∙ count_by-map (told_opener tell) (λ o. is_answered o.verdict) (openers_of from events);
      replied = are.replied ∙ ap (how_many is_replied) all_openers ∙ count_by-map (told_opener tell) (λ o. is_replied o.verdict) (openers_of from events);
      strays = are.strays ∙ all_strays;
      refused = are.refused ∙ ap refused_of (bracketed_told from into tell alike events) ∙ refused_told tell (bracketed_of from events);
    }
