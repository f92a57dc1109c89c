-- The steps in which deliveries are paired with sends, and what makes a pair certain in each (docs/DATABASE.md#send).
use Rattle.std.specs.Prelude.{◌≡◌, ◌≢◌, ◌⊎◌, ◌&&◌, if◌then◌else◌, ℕ, ◌+◌, Bool, true, false, List, [], ◌∷◌, Some, None, IsTrue, nat_eq, length, replicate, slice_get, slice_set}
use Rattle.std.specs.Bool.{OnTrue}
use Rattle.call_stacks.specs.declared.verdict.Verdict.TheVariants.{Answered}
use Rattle.indexmap.specs.IndexSet.{contains}
use Rattle.listing_tables.specs.declared.calls.Call.{Call}
use Rattle.listing_tables.specs.declared.calls.Closer.{Closer}
use Rattle.listing_tables.specs.declared.certainty.Evidence.{Evidence}
use Rattle.listing_tables.specs.declared.marks.Mark.{Mark}
use Rattle.listing_tables.specs.declared.marks.Marked.TheVariants.{By, Unmarked}
use Rattle.listing_tables.specs.declared.certainty.Sought.{Sought}
use Rattle.listing_tables.specs.declared.fitting.Fit.{Fit}
use Rattle.listing_tables.specs.declared.fitting.Fitting.{Fitting}
use Rattle.listing_tables.specs.declared.messages.Detail.TheVariants.{Delivered, Sent as IsSent}
use Rattle.listing_tables.specs.declared.messages.Message.{Message}
use Rattle.listing_tables.specs.declared.messages.Sent.{Sent}
use Rattle.listing_tables.specs.declared.pairs.Ends.{Ends}
use Rattle.listing_tables.specs.declared.pairs.Pairing.{Pairing}
use Rattle.listing_tables.specs.declared.waiting.Waiting.{Waiting}
use Rattle.listing_tables.specs.Certainty.{AreAlike, AreOfOneHandle, IsFitOf, IsListOf, IsOnlyOne, IsRefused, IsRepliedBy}
use Rattle.listing_tables.specs.Changes.{Couples, IsSendAt, Rates, RatesPair}
use Rattle.listing_tables.specs.Gaps.{AreGapsBefore, IsWholeCall}
use Rattle.listing_tables.specs.Guesses.{IsGuess}
use Rattle.listing_tables.specs.Learning.{marked_also}
use Rattle.listing_tables.specs.Numbered.{IsAt}
use Rattle.listing_tables.specs.Waiting.{HasNone, OthersWaitBut, waits}

-- the messages that are paired
abbrev pub messages_of : Pairing → List Message
messages_of pairing = pairing.messages.list.all.items

-- the calls that are known
abbrev pub calls_of : Pairing → List Call
calls_of pairing = pairing.facts.calls.now.all.items

-- ---- the begin of a walk

-- What an earlier walk made of messages is not kept: no send waits, no message is marked, of no key it is noted that more
-- sends waited than were looked at, and nothing was found by which another walk may find more. The pairs and the meanings
-- that are known stay.
pub record BeginsWalk (old new : Pairing) : Type 0 where
  pub waits : HasNone new.waiting
  pub crowded : (key : ℕ) → contains nat_eq new.crowded key ≡ false
  pub marks : new.marks.all.items ≡ replicate (length (messages_of old)) (record { other = Unmarked; guess = None })
  pub messages : new.messages ≡ old.messages
  pub meanings : new.meanings ≡ old.meanings
  pub facts : new.facts ≡ old.facts
  pub news : new.news ≡ false

-- ---- the sends that wait

-- A send is added to those that wait, in a list of its node. It is not if the driver refused it and no frame is missing
-- before it.
abbrev pub AddsSend : Pairing → ℕ → Message → Sent → Pairing → Type 0
AddsSend old index send sent new =
    (IsRefused sent × (send.gaps ≡ 0))
    ⊎ ((list : ℕ) × IsListOf old.meanings sent.generation send.gaps list
    × IsTrue (waits new.waiting (send.key, list, index)))

-- a message does not close a call of which the delivery is still looked for
abbrev pub ClosesNothing : Pairing → Message → Type 0
ClosesNothing pairing message =
    (call : Call) → IsAt (calls_of pairing) message.call call
    → (call.served ≡ true) ⊎ (call.place ≡ message.place)
    ⊎ ((send : Message) × (slice_get (messages_of pairing) call.opener ≡ Some send)
    × (send.partner ≢ None))

-- A message closes a call of which the delivery is still looked for. The send of the call does not wait any more in the
-- list of its node, and all others do.
pub record ClosesSend (old : Pairing) (message : Message) (new : Waiting) : Type 0 where
  pub call : Call
  pub closes : IsAt (calls_of old) message.call call
  pub made : call.served ≡ false
  pub later : call.place ≢ message.place
  pub send : Message
  pub there : slice_get (messages_of old) call.opener ≡ Some send
  pub free : send.partner ≡ None
  pub sent : Sent
  pub sends : IsSendAt (messages_of old) call.opener sent
  pub list : ℕ
  pub listed : IsListOf old.meanings sent.generation send.gaps list
  pub others : OthersWaitBut (send.key, list, call.opener) old.waiting new
  pub gone : waits new (send.key, list, call.opener) ≡ false

-- the send of the call that a message closes is taken out, if its delivery is still looked for
abbrev pub ClosesCall : Pairing → Message → Waiting → Type 0
ClosesCall old message new =
    (ClosesNothing old message × (new ≡ old.waiting)) ⊎ ClosesSend old message new

-- ---- the rule for sends that wait

-- the evidence is what is known on the walk
pub record IsEvidenceOf (pairing : Pairing) (evidence : Evidence) : Type 0 where
  pub messages : evidence.messages.now ≡ pairing.messages
  pub calls : evidence.calls.now ≡ pairing.facts.calls.now
  pub generations : evidence.generations.now ≡ pairing.facts.generations.now
  pub seen : evidence.seen.now ≡ pairing.facts.seen.now
  pub meanings : evidence.meanings.now ≡ pairing.meanings
  pub waiting : evidence.waiting.now ≡ pairing.waiting
  pub marks : evidence.marks.now ≡ pairing.marks

-- no other send can have been meant: it and the delivery are a pair, which is certain
pub record TakesOnly (pairing : Pairing) (sought : Sought) (new : List Message) : Type 0 where
  pub evidence : Evidence
  pub known : IsEvidenceOf pairing evidence
  pub fit : Fit
  pub only : IsOnlyOne evidence sought fit
  pub pairs : RatesPair (messages_of pairing) new fit.listed.index sought.index 1 true

-- all sends that can have been meant are of one handle: one of them is certain to be of it
pub record TakesOneOf (pairing : Pairing) (sought : Sought) (new : List Message) : Type 0 where
  pub evidence : Evidence
  pub known : IsEvidenceOf pairing evidence
  pub handle : AreOfOneHandle evidence sought
  pub fit : Fit
  pub is : IsFitOf evidence sought fit
  pub same : fit.sent.generation ≡ handle.generation
  pub count : ℕ
  pub rates : Rates (messages_of pairing) new fit.listed.index count true

-- a send is guessed: it is not certain
pub record Guesses (oneway : Bool) (old new : List Message) : Type 0 where
  pub fitting : Fitting
  pub fit : Fit
  pub is : IsGuess oneway fitting.list.items (Some fit)
  pub count : ℕ
  pub rates : Rates old new fit.listed.index count false

-- what may become of the messages where the send of a delivery is looked for
abbrev pub PairsDelivery : Pairing → Sought → List Message → Type 0
PairsDelivery pairing sought new =
    (new ≡ messages_of pairing) ⊎ Guesses sought.message.oneway (messages_of pairing) new
    ⊎ TakesOneOf pairing sought new ⊎ TakesOnly pairing sought new

-- of the fits of a delivery, which may be oneway, that one is rated so which is guessed; without one no message changes
abbrev pub GuessesFit : Bool → List Message → List Message → Fitting → ℕ → Bool → Type 0
GuessesFit oneway old new fitting count sure =
    ((new ≡ old) × IsGuess oneway fitting.list.items None)
    ⊎ ((fit : Fit) × IsGuess oneway fitting.list.items (Some fit)
    × Rates old new fit.listed.index count sure)

-- ---- the rule for calls that must have come

-- the message at an index is marked by one more
pub record MarksAlso (old new : List Mark) (index by : ℕ) : Type 0 where
  pub before : Mark
  pub there : slice_get old index ≡ Some before
  pub are : new ≡ slice_set old index (record before { other = marked_also before.other by })

-- each of these sends is marked by this delivery, one after another
abbrev pub MarksEach : List Mark → List Mark → List Fit → ℕ → Type 0
MarksEach old new [] by = new ≡ old
MarksEach old new (fit ∷ fits) by =
    (between : List Mark) × MarksAlso old between fit.listed.index by × MarksEach between new fits by

-- A call must have come: it was answered, no frame is missing in it, its delivery is not found, and all sends like it
-- were looked at.
pub record MustHaveCome (pairing : Pairing) (index : ℕ) : Type 0 where
  pub message : Message
  pub there : slice_get (messages_of pairing) index ≡ Some message
  pub sent : Sent
  pub is : message.detail ≡ IsSent sent
  pub free : message.partner ≡ None
  pub looked : contains nat_eq pairing.crowded message.key ≡ false
  pub call : Call
  pub opens : IsAt (calls_of pairing) message.call call
  pub answered : call.verdict ≡ Answered
  pub whole : IsWholeCall pairing.facts.seen.now call message.gaps

-- a delivery is marked by a call that must have come by it, as no other one can be of the call
pub record MarksClaimed (pairing : Pairing) (index : ℕ) (new : List Mark) : Type 0 where
  pub must : MustHaveCome pairing index
  pub mark : Mark
  pub there : slice_get pairing.marks.all.items index ≡ Some mark
  pub delivery : ℕ
  pub by : mark.other ≡ By delivery
  pub marks : MarksAlso pairing.marks.all.items new delivery index

-- one call alone is marked as having come by a delivery whose send is not found: they are a pair, which is certain
pub record Claims (pairing : Pairing) (index : ℕ) (new : List Message) : Type 0 where
  pub mark : Mark
  pub there : slice_get pairing.marks.all.items index ≡ Some mark
  pub send : ℕ
  pub by : mark.other ≡ By send
  pub delivery : Message
  pub delivers : slice_get (messages_of pairing) index ≡ Some delivery
  pub free : delivery.partner ≡ None
  pub pairs : RatesPair (messages_of pairing) new send index 1 true

-- ---- what is guessed

-- it is noted of the message at an index that this delivery took it by guess
pub record NotesGuess (old new : List Mark) (index delivery : ℕ) : Type 0 where
  pub before : Mark
  pub there : slice_get old index ≡ Some before
  pub are : new ≡ slice_set old index (record before { guess = Some delivery })

-- The sends that fit a delivery, which may be oneway, are marked by it, if nothing was found that speaks against them. Of
-- the one that is guessed it is noted that the delivery took it.
pub record MarksFits (oneway : Bool) (fitting : Fitting) (delivery : ℕ) (old new : List Mark) : Type 0 where
  pub between : List Mark
  pub marked : fitting.rank ≡ 0 → MarksEach old between fitting.list.items delivery
  pub unmarked : fitting.rank ≢ 0 → between ≡ old
  pub noted : (IsGuess oneway fitting.list.items None × (new ≡ between))
      ⊎ ((fit : Fit) × IsGuess oneway fitting.list.items (Some fit)
      × NotesGuess between new fit.listed.index delivery)

-- what is marked where the send of a delivery is looked for, which may be oneway
abbrev pub MarksSome : Bool → ℕ → List Mark → List Mark → Type 0
MarksSome oneway delivery old new =
    (new ≡ old) ⊎ ((fitting : Fitting) × MarksFits oneway fitting delivery old new)

-- so it is at the turn of a delivery; at that of any other message nothing is marked
abbrev pub MarksTurn : Message → ℕ → List Mark → List Mark → Type 0
MarksTurn message index old new =
    (new ≡ old)
    ⊎ ((buffer : ℕ) × (message.detail ≡ Delivered buffer) × MarksSome message.oneway index old new)

-- a send and the delivery that took it by guess are a pair, if neither is one of another pair
pub record KeepsGuess (pairing : Pairing) (index : ℕ) (new : List Message) : Type 0 where
  pub mark : Mark
  pub there : slice_get pairing.marks.all.items index ≡ Some mark
  pub delivery : ℕ
  pub by : mark.guess ≡ Some delivery
  pub send : Message
  pub sends : slice_get (messages_of pairing) index ≡ Some send
  pub free : send.partner ≡ None
  pub other : Message
  pub delivers : slice_get (messages_of pairing) delivery ≡ Some other
  pub untaken : other.partner ≡ None
  pub couples : Couples (messages_of pairing) new index delivery

-- ---- what is learnt

-- the message at this index comes after so many gaps
abbrev pub IsAfterGaps : List Message → ℕ → ℕ → Type 0
IsAfterGaps list index gaps =
    (message : Message) × (slice_get list index ≡ Some message) × (message.gaps ≡ gaps)

-- ---- replies

-- A delivery whose send is found opens a call that is replied, and the send a call that is answered, by a message of the
-- key of the reply.
pub record HasEnds (pairing : Pairing) (index : ℕ) (ends : Ends) : Type 0 where
  pub delivery : Message
  pub delivers : slice_get (messages_of pairing) index ≡ Some delivery
  pub paired : delivery.partner ≡ Some ends.send
  pub served : Call
  pub serves : IsAt (calls_of pairing) delivery.call served
  pub reply : Closer
  pub replies : IsRepliedBy served reply
  pub replied : reply.message ≡ ends.replied
  pub send : Message
  pub sends : slice_get (messages_of pairing) ends.send ≡ Some send
  pub made : Call
  pub makes : IsAt (calls_of pairing) send.call made
  pub answered : made.verdict ≡ Answered
  pub answer : made.closer ≡ Some ends.answered
  pub alike : AreAlike pairing.messages reply ends.answered

-- no frame is missing from the send of a call to its answer
abbrev pub HasNoGap : Pairing → Ends → Type 0
HasNoGap pairing ends =
    (send : Message) × (slice_get (messages_of pairing) ends.send ≡ Some send)
    × AreGapsBefore pairing.facts.seen.now ends.answered.place send.gaps

-- A reply and the answer of its call are a pair. With no frame missing it is as certain as the pair of the call, and as
-- many sends fit. Otherwise it is not certain, and one more may fit.
pub record PairsReply (pairing : Pairing) (index : ℕ) (new : List Message) : Type 0 where
  pub ends : Ends
  pub has : HasEnds pairing index ends
  pub sent : Sent
  pub sends : IsSendAt (messages_of pairing) ends.send sent
  pub whole : Bool
  pub says : OnTrue whole (HasNoGap pairing ends)
  pub pairs : RatesPair (messages_of pairing) new ends.replied ends.answered.message
      (if whole then sent.fits else sent.fits + 1) (whole && sent.certain)
