-- How many oneway transactions there are among some events and others.
use Rattle.std.proofs.Common.{◌≡◌, ℕ, ◌+◌, ◌<◌, ◌≤◌, ◌^◌, Bool, cond, List, [], ◌∷◌, ◌++◌, Option, Some, length, ap, ap₂, sym, ◌∙◌, length-append, arith}
use Rattle.std.specs.Prelude.{count_by, not}
use Rattle.std.specs.List.{filter_map, cons_option}
use Rattle.std.proofs.lemmas.List.Elements.{filter_map-append}
use Rattle.std.proofs.lemmas.List.Sums.{sum_by-append, count_by-le-length}
use Rattle.event_core.specs.Events.{EventRead}
use Rattle.event_core.specs.declared.oneway.OnewayKey.{OnewayKey}
use Rattle.summary_law.proofs.ReadLaws.{length-read}
use Rattle.summary_law.specs.Fits.{IsShort}
use Rattle.audit_findings.specs.declared.oneway_counts.OnewayCounts.{OnewayCounts}
use Rattle.process_ledgers.specs.Items.{oneway_item_of}
use Rattle.audit_findings.specs.Oneway.{is_sent, is_sent_key, oneway_counts, received_count, sent_count}

-- how many oneway transactions of a sort there are
abbrev count_of : (OnewayKey × ℕ → Bool) → List EventRead → ℕ
count_of is events = count_by is (filter_map oneway_item_of events)

count_of-append : (is : OnewayKey × ℕ → Bool) (first second : List EventRead) → count_of is (first ++ second) ≡ count_of is first + count_of is second
count_of-append is first second =
    ap (count_by is) (filter_map-append oneway_item_of first second)
    ∙ sum_by-append (λ (item : OnewayKey × ℕ). cond (is item) 1 0) (filter_map oneway_item_of first) (filter_map oneway_item_of second)

count_of-short : (is : OnewayKey × ℕ → Bool) (events : List EventRead) → count_of is events ≤ length events
count_of-short is events =
    let counted = count_by-le-length is (filter_map oneway_item_of events) in
    let read = length-read oneway_item_of events in
    omega (arith, counted, read)

-- the count of one event: 1 or 0
abbrev one_if : Bool → ℕ
one_if b = cond b 1 0

count_of-one : (is : OnewayKey × ℕ → Bool) (e : EventRead) (item : OnewayKey × ℕ) → Some item ≡ oneway_item_of e → count_of is (e ∷ []) ≡ one_if (is item)
count_of-one is e item read =
    let one : filter_map oneway_item_of (e ∷ []) ≡ item ∷ [] = ap (λ (o : Option (OnewayKey × ℕ)). cons_option o []) (sym read) in
    ap (count_by is) one ∙ (omega arith)

same_counts : (counts : OnewayCounts) (events : List EventRead) → counts.sent ≡ sent_count events → counts.received ≡ received_count events
    → counts ≡ oneway_counts events
same_counts counts events sent received = λ i. record { sent = sent i; received = received i }

sent_is : (counts : OnewayCounts) (events : List EventRead) → counts ≡ oneway_counts events → counts.sent ≡ sent_count events
sent_is counts events is = ap (λ (c : OnewayCounts). c.sent) is

received_is : (counts : OnewayCounts) (events : List EventRead) → counts ≡ oneway_counts events → counts.received ≡ received_count events
received_is counts events is = ap (λ (c : OnewayCounts). c.received) is

pub counts_one : (counts : OnewayCounts) (e : EventRead) (item : OnewayKey × ℕ) (key : OnewayKey) → Some item ≡ oneway_item_of e → item.0 ≡ key
    → counts.sent ≡ one_if (is_sent_key key) → counts.received ≡ one_if (not (is_sent_key key)) → counts ≡ oneway_counts (e ∷ [])
counts_one counts e item key read same sent received =
    let given : (f : OnewayKey → Bool) → one_if (f item.0) ≡ one_if (f key) = λ f. ap (λ (k : OnewayKey). one_if (f k)) same in
    same_counts counts (e ∷ []) (sent ∙ sym (count_of-one is_sent e item read ∙ given is_sent_key))
    (received ∙ sym (count_of-one (λ item. not (is_sent item)) e item read ∙ given (λ k. not (is_sent_key k))))

-- the counts of some events and those of others add up to those of both
pub counts_both : (counts more both : OnewayCounts) (first second : List EventRead) → counts ≡ oneway_counts first → more ≡ oneway_counts second
    → both.sent ≡ counts.sent + more.sent → both.received ≡ counts.received + more.received → both ≡ oneway_counts (first ++ second)
counts_both counts more both first second a b sent received =
    same_counts both (first ++ second)
    (sent ∙ ap₂ ◌+◌ (sent_is counts first a) (sent_is more second b) ∙ sym (count_of-append is_sent first second))
    (received ∙ ap₂ ◌+◌ (received_is counts first a) (received_is more second b) ∙ sym (count_of-append (λ item. not (is_sent item)) first second))

-- and they are small if the events are few
small_sum : (is : OnewayKey × ℕ → Bool) (a b : ℕ) (first second : List EventRead) → IsShort (first ++ second) → a ≡ count_of is first → b ≡ count_of is second
    → a + b < 2 ^ 64
small_sum is a b first second short counted more =
    let here = count_of-short is first in
    let there = count_of-short is second in
    let long = length-append first second in
    omega (arith, short, counted, more, here, there, long)

pub counts_small : (counts more : OnewayCounts) (first second : List EventRead) → IsShort (first ++ second) → counts ≡ oneway_counts first
    → more ≡ oneway_counts second → (counts.sent + more.sent < 2 ^ 64) × (counts.received + more.received < 2 ^ 64)
counts_small counts more first second short a b = (
  small_sum is_sent counts.sent more.sent first second short (sent_is counts first a) (sent_is more second b),
  small_sum (λ item. not (is_sent item)) counts.received more.received first second short (received_is counts first a) (received_is more second b),
)
