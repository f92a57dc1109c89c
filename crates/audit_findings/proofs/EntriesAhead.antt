-- The frame of the first place that is left, among the frames ahead.
use Rattle.std.proofs.Common.{◌≡◌, ℕ, suc, ◌+◌, ◌-◌, ◌*◌, ◌^◌, ◌<◌, ◌≤◌, Bool, List, [], ◌∷◌, ◌++◌, length, map, take, drop, All, Option, Some, None, refl, sym, ap, subst, ◌∙◌, append_assoc, arith, get_or}
use Rattle.std.proofs.Math.Seq.{split_at}
use Rattle.std.specs.Prelude.{AllPairs, filter, slice_get}
use Rattle.std.specs.Option.{unwrap_or}
use Rattle.std.specs.List.{sum_by}
use Rattle.std.proofs.lemmas.List.{append-nil, map-append}
use Rattle.std.proofs.lemmas.List.Elements.{All-filter, All-head, All-map, All-weaker, filter-append, filter_map-append}
use Rattle.std.proofs.lemmas.List.Sums.{sum_by-append, sum_by-cons}
use Rattle.std.proofs.lemmas.Option.{get_or_from_slice_get}
use Rattle.capture_frame.specs.Envelope.{PlacedFrame}
use Rattle.capture_frame.specs.Lookup.{AreApart, IsSplitAt, span_of}
use Rattle.event_core.specs.Events.{EventRead, events_of, events_of_frames}
use Rattle.transaction_view.specs.State.{placed_entry}
use Rattle.transaction_view.specs.Grammar.{IsGood}
use Rattle.transaction_view.specs.declared.entry.Entry.{Entry}
use Rattle.audit_findings.specs.Entries.{AddsEntries, AreChosen, AreEntriesAt, ShowAttachments, carried_by, list_bytes}
use Rattle.audit_findings.specs.Frames.{AreGoodFrames}
use Rattle.audit_findings.specs.Kept.{places_of}
use Rattle.audit_findings.proofs.FrameLaws.{events-append, events_after, events_before, first_same}
use Rattle.capture_frame.proofs.Pairs.{pairs_before, pairs_head}
use Rattle.summary_law.specs.Fits.{all_halves, pairs_halves}

-- how many attachment bytes a frame has
abbrev attachment_bytes : PlacedFrame → ℕ
attachment_bytes frame = length frame.unit.attachments

attached_within : (frames : List PlacedFrame) → sum_by attachment_bytes frames + 32 * length frames ≤ sum_by span_of frames
attached_within [] = omega arith
attached_within (f ∷ frames) =
    let long : length (f ∷ frames) ≡ length frames + 1 = omega arith in
    omega (arith, attached_within frames, sum_by-cons attachment_bytes f frames, sum_by-cons span_of f frames, long)

-- a list whose first element is known
pub begins_with : (numbers : List ℕ) (first : ℕ) → Some first ≡ slice_get numbers 0 → (rest : List ℕ) × (numbers ≡ first ∷ rest)
begins_with [] first is = let wrong : Some first ≡ None = is in absurd (cc)
begins_with (n ∷ numbers) first is = (numbers, ap (λ m. m ∷ numbers) (ap (λ (o : Option ℕ). unwrap_or o n) (sym is)))

pub begins_with_none : (numbers : List ℕ) → None ≡ slice_get numbers 0 → numbers ≡ []
begins_with_none [] is = refl
begins_with_none (n ∷ numbers) is = let wrong : None ≡ Some n = is in absurd (cc)

-- ---- the chosen events of frames

-- the chosen ones of the events of these frames
abbrev pub chosen_in : (EventRead → Bool) → List PlacedFrame → List EventRead
chosen_in choice frames = filter choice (events_of_frames frames)

chosen-append : (choice : EventRead → Bool) (frames others : List PlacedFrame)
    → chosen_in choice (frames ++ others) ≡ chosen_in choice frames ++ chosen_in choice others
chosen-append choice frames others =
    ap (filter choice) (events-append frames others) ∙ filter-append choice (events_of_frames frames) (events_of_frames others)

chosen-one : (choice : EventRead → Bool) (frame : PlacedFrame) → chosen_in choice (frame ∷ []) ≡ filter choice (events_of frame)
chosen-one choice frame = ap (filter choice) (append-nil (events_of frame))

no_places : (events : List EventRead) → [] ≡ places_of events → events ≡ []
no_places [] none = refl
no_places (e ∷ events) none = let wrong : [] ≡ e.place ∷ places_of events = none in absurd (cc)

-- if the first of all places is this one, no events before it are among them
none_first : (events others : List EventRead) (place : ℕ) (rest : List ℕ) → place ∷ rest ≡ places_of (events ++ others) → All (λ e. e.place < place) events
    → events ≡ []
none_first [] others place rest left below = refl
none_first (e ∷ events) others place rest left below =
    let same = (first_same place e.place rest (places_of (events ++ others)) left).0 in
    let under = All-head (λ (x : EventRead). x.place < place) e events below in
    absurd (omega (arith, same, under))

-- ---- so far

-- Some frames are passed, and these are ahead. The lists of offsets of the entries are no longer than the attachment
-- bytes of the passed frames. Whatever events are chosen whose places are the given ones, the entries show the
-- attachments of those of the passed frames, and the places of the others are left.
pub record HasRead (frames : List PlacedFrame) (places : List ℕ) (ahead : List PlacedFrame) (left : List ℕ) (entries : List Entry) : Type 0 where
  pub passed : List PlacedFrame
  pub are : frames ≡ passed ++ ahead
  pub few : list_bytes entries ≤ sum_by attachment_bytes passed
  pub told : (choice : EventRead → Bool) → AreChosen choice (events_of_frames frames) [] places
      → (left ≡ places_of (chosen_in choice ahead)) × ShowAttachments entries (carried_by (chosen_in choice passed))

pub read_none : (frames ahead : List PlacedFrame) (places : List ℕ) (entries : List Entry) → ahead ≡ frames → entries ≡ []
    → HasRead frames places ahead places entries
read_none frames ahead places entries all none = record {
  passed = [];
  are = sym all;
  few = let no_bytes = ap list_bytes none in omega (arith, no_bytes);
  told = λ choice chosen.
      (chosen ∙ append-nil (places_of (chosen_in choice frames)) ∙ ap (λ fs. places_of (chosen_in choice fs)) (sym all), ap (map placed_entry) none);
}

module _ (frames : List PlacedFrame) (places : List ℕ) (ahead : List PlacedFrame) (left : List ℕ) (entries : List Entry) (good : AreGoodFrames frames)
    (read : HasRead frames places ahead left entries) where
  pub apart_ahead : AllPairs AreApart ahead
  apart_ahead = (pairs_halves AreApart read.passed ahead (subst (AllPairs AreApart) read.are good.apart)).1

  -- the lists of offsets have no more bytes than good frames may have
  pub few_bytes : list_bytes entries ≤ 2 ^ 32
  few_bytes =
      let few = read.few in
      let all = attached_within frames in
      let total = good.few in
      let parts = ap (sum_by attachment_bytes) read.are ∙ sum_by-append attachment_bytes read.passed ahead in
      omega (arith, few, all, total, parts)

  pub all_at_end : left ≡ [] → AreEntriesAt frames places entries
  all_at_end none choice chosen =
      let i = read.told choice chosen in
      let no_more = no_places (chosen_in choice ahead) (sym none ∙ i.0) in
      i.1 ∙ ap carried_by (sym
      (ap (chosen_in choice) read.are ∙ chosen-append choice read.passed ahead ∙ ap (λ es. chosen_in choice read.passed ++ es) no_more
      ∙ append-nil (chosen_in choice read.passed)))

  module _ (place : ℕ) (rest : List ℕ) (first : left ≡ place ∷ rest) (count : ℕ) (begun : IsSplitAt ahead place count) where
    -- the frame of the first place that is left has begun
    pub some_begun : count ≡ 0 → AreEntriesAt frames places entries
    some_begun none choice chosen =
        let later = events_after place ahead
        (λ i d within. let far = begun.after i d (omega (arith, none)) within in omega (arith, far)) in
        let all = All-map (λ p. place < p) (λ (e : EventRead). e.place) (chosen_in choice ahead)
        (All-filter choice (λ (e : EventRead). place < e.place) (events_of_frames ahead) later) in
        let above = All-head (λ p. place < p) place rest (subst (All (λ p. place < p)) (sym (read.told choice chosen).0 ∙ first) all) in
        absurd (omega (arith, above))

    module _ (found : PlacedFrame) (there : slice_get ahead (count - 1) ≡ Some found) (some : 0 < count) where
      abbrev front : List PlacedFrame
      front = take (count - 1) ahead

      abbrev after : List PlacedFrame
      after = drop count ahead

      is_found : get_or ahead (count - 1) found ≡ found
      is_found = get_or_from_slice_get ahead (count - 1) found found there

      within : count - 1 < length ahead
      within = let bound = begun.within in omega (arith, some, bound)

      pub good_there : IsGood found
      good_there = subst IsGood is_found ((all_halves IsGood read.passed ahead (subst (All IsGood) read.are good.good)).1 (count - 1) found within)

      split : ahead ≡ front ++ found ∷ after
      split =
          let one : suc (count - 1) ≡ count = omega (arith, some) in
          split_at ahead (count - 1) found within ∙ (λ i. front ++ is_found i ∷ drop (one i) ahead)

      apart_here : AllPairs AreApart (front ++ found ∷ after)
      apart_here = subst (AllPairs AreApart) split apart_ahead

      begins : found.place ≤ place
      begins = subst (λ (f : PlacedFrame). f.place ≤ place) is_found (begun.before (count - 1) found (omega (arith, some)))

      module _ (choice : EventRead → Bool) (chosen : AreChosen choice (events_of_frames frames) [] places) where
        abbrev others : List EventRead
        others = chosen_in choice after

        in_parts : chosen_in choice ahead ≡ chosen_in choice front ++ (filter choice (events_of found) ++ others)
        in_parts =
            ap (chosen_in choice) split ∙ chosen-append choice front (found ∷ after)
            ∙ ap (λ es. chosen_in choice front ++ es)
            (chosen-append choice (found ∷ []) after ∙ ap (λ es. es ++ others) (chosen-one choice found))

        left_is : place ∷ rest ≡ places_of (chosen_in choice front ++ (filter choice (events_of found) ++ others))
        left_is = sym first ∙ (read.told choice chosen).0 ∙ ap places_of in_parts

        -- no event of the frames before it is chosen
        none_before : chosen_in choice front ≡ []
        none_before =
            let ends = pairs_before AreApart front found after apart_here in
            none_first (chosen_in choice front) (filter choice (events_of found) ++ others) place rest left_is
            (All-filter choice (λ (e : EventRead). e.place < place) (events_of_frames front)
            (events_before place front
            (All-weaker (λ f. AreApart f found) (λ f. f.place + span_of f ≤ place) (λ f far. omega (arith, far, begins)) front ends)))

        left_here : AreChosen choice (events_of found) (places_of others) (place ∷ rest)
        left_here =
            left_is ∙ ap (λ es. places_of (es ++ (filter choice (events_of found) ++ others))) none_before
            ∙ map-append (λ (e : EventRead). e.place) (filter choice (events_of found)) others

        far_others : All (λ p. found.place + span_of found ≤ p) (places_of others)
        far_others =
            let end = found.place + span_of found in
            let apart = (pairs_halves AreApart front (found ∷ after) apart_here).1 in
            All-map (λ p. end ≤ p) (λ (e : EventRead). e.place) others
            (All-filter choice (λ (e : EventRead). end ≤ e.place) (events_of_frames after)
            (All-weaker (λ (e : EventRead). end < e.place) (λ (e : EventRead). end ≤ e.place) (λ e far. omega (arith, far)) (events_of_frames after)
            (events_after end after (pairs_head AreApart found after apart))))

        passed_parts : chosen_in choice (read.passed ++ (front ++ found ∷ [])) ≡ chosen_in choice read.passed ++ filter choice (events_of found)
        passed_parts =
            chosen-append choice read.passed (front ++ found ∷ [])
            ∙ ap (λ es. chosen_in choice read.passed ++ es)
            (chosen-append choice front (found ∷ []) ∙ ap (λ es. es ++ chosen_in choice (found ∷ [])) none_before ∙ chosen-one choice found)

      -- the frame is passed
      pub read_frame : (new : List Entry) (left_then : List ℕ) → list_bytes new ≤ list_bytes entries + length found.unit.attachments
          → AddsEntries entries found (place ∷ rest) new left_then → HasRead frames places after left_then new
      read_frame new left_then grows adds =
          let few = read.few in
          let sums = sum_by-append attachment_bytes read.passed (front ++ found ∷ []) in
          let more = sum_by-append attachment_bytes front (found ∷ []) in
          let one = sum_by-cons attachment_bytes found [] in
          record {
            passed = read.passed ++ (front ++ found ∷ []);
            are = read.are ∙ ap (λ fs. read.passed ++ fs) (split ∙ sym (append_assoc front (found ∷ []) after))
                ∙ sym (append_assoc read.passed (front ++ found ∷ []) after);
            few = omega (arith, few, grows, sums, more, one);
            told = λ choice chosen.
                let adds_these = adds choice (places_of (others choice chosen)) (far_others choice chosen) (left_here choice chosen) in (
                  adds_these.0,
                  adds_these.1 ∙ ap (λ us. us ++ carried_by (filter choice (events_of found))) (read.told choice chosen).1
                      ∙ sym (filter_map-append (λ (e : EventRead). e.entry) (chosen_in choice read.passed) (filter choice (events_of found)))
                      ∙ ap carried_by (sym (passed_parts choice chosen)),
                );
          }
