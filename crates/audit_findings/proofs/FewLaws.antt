-- Few events, and few frames.
use Rattle.std.proofs.Common.{◌≡◌, ℕ, ◌+◌, ◌<◌, ◌≤◌, ◌^◌, List, [], ◌∷◌, ◌++◌, length, cond, subst, sym, arith}
use Rattle.std.specs.Prelude.{count_by}
use Rattle.std.proofs.lemmas.List.{length-map, map-append}
use Rattle.std.proofs.lemmas.List.Sums.{sum_by-append, count_by-le-length}
use Rattle.audit_findings.specs.Codes.{code_words, is_opaque}
use Rattle.std.proofs.lemmas.List.Elements.{All-head}
use Rattle.event_core.specs.Events.{EventRead}
use Rattle.summary_law.specs.Fits.{IsShort, all_halves, placed_halves}
use Rattle.summary_law.specs.Summary.{FitsInHalves}
use Rattle.audit_findings.specs.Ledgers.{AreFewEvents, offset_bytes_of}

abbrev pub HasSmall : EventRead → Type 0
HasSmall e = offset_bytes_of e < 2 ^ 32

-- both halves of few events are few
pub few_halves : FitsInHalves AreFewEvents
few_halves first second few =
    let placed = placed_halves (λ (e : EventRead). e.place) first second few.0 in
    let small = all_halves HasSmall first second few.1 in
    ((placed.0, small.0), (placed.1, small.1))

-- the list of offsets of the last of them is small
pub last_small : (events : List EventRead) (e : EventRead) → AreFewEvents (events ++ e ∷ []) → offset_bytes_of e < 2 ^ 32
last_small events e few = All-head HasSmall e [] (few_halves events (e ∷ []) few).1.1

-- their code words are few
pub few_words : (events more : List EventRead) → AreFewEvents (events ++ more) → IsShort (code_words events ++ code_words more)
few_words events more few =
    let word : EventRead → ℕ = λ e. e.code in
    let both = map-append word events more in
    subst (λ (words : List ℕ). IsShort words) both (subst (λ (n : ℕ). n ≤ 2 ^ 32) (sym (length-map (events ++ more) word)) few.0.0)

-- how many opaque records there are in both halves
pub opaque-append : (events more : List EventRead) → count_by is_opaque (events ++ more) ≡ count_by is_opaque events + count_by is_opaque more
opaque-append events more = sum_by-append (λ (e : EventRead). cond (is_opaque e) 1 0) events more

pub opaque_one : (e : EventRead) → count_by is_opaque (e ∷ []) ≡ cond (is_opaque e) 1 0
opaque_one e = omega arith

pub opaque_short : (events : List EventRead) → count_by is_opaque events ≤ length events
opaque_short events = count_by-le-length is_opaque events
