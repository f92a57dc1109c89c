-- When it is certain which send a delivery came from (docs/DATABASE.md#send).
use Rattle.std.specs.Prelude.{◌≡◌, ◌≢◌, ◌<◌, ◌≤◌, ◌^◌, ◌+◌, ◌⊎◌, ℕ, pos, Bool, true, false, List, Option, Some, IsTrue, length, slice_get}
use Rattle.call_stacks.specs.declared.verdict.Verdict.TheVariants.{Answered, Replied}
use Rattle.indexmap.specs.IndexMap.{get}
use Rattle.listing_tables.specs.declared.calls.Call.{Call}
use Rattle.listing_tables.specs.declared.calls.Closer.{Closer}
use Rattle.listing_tables.specs.declared.certainty.Certainty.TheVariants.{Sure, OneHandle, Several, Unknown}
use Rattle.listing_tables.specs.declared.certainty.Certainty.{Certainty}
use Rattle.listing_tables.specs.declared.certainty.Evidence.{Evidence}
use Rattle.listing_tables.specs.declared.marks.Mark.{Mark}
use Rattle.listing_tables.specs.declared.marks.Marked.TheVariants.{Unmarked}
use Rattle.listing_tables.specs.declared.certainty.Sought.{Sought}
use Rattle.listing_tables.specs.declared.fitting.Fit.{Fit}
use Rattle.listing_tables.specs.declared.fitting.Fitting.{Fitting}
use Rattle.listing_tables.specs.declared.generations.Generation.{Generation}
use Rattle.listing_tables.specs.declared.generations.Generations.{Generations}
use Rattle.listing_tables.specs.declared.meanings.Known.TheVariants.{One}
use Rattle.listing_tables.specs.declared.meanings.Meaning.{Meaning}
use Rattle.listing_tables.specs.declared.meanings.Meanings.{Meanings}
use Rattle.listing_tables.specs.declared.messages.Detail.TheVariants.{Sent as IsSent}
use Rattle.listing_tables.specs.declared.messages.Message.{Message}
use Rattle.listing_tables.specs.declared.messages.Messages.{Messages}
use Rattle.listing_tables.specs.declared.messages.Sent.{Sent}
use Rattle.listing_tables.specs.declared.messages.Settled.TheVariants.{Confirmed, Refused}
use Rattle.listing_tables.specs.declared.seen.Seen.{Seen}
use Rattle.listing_tables.specs.declared.waiting.Look.{Look}
use Rattle.listing_tables.specs.declared.waiting.Waiting.{Waiting}
use Rattle.listing_tables.specs.Gaps.{IsWholeCall, same_reference}
use Rattle.listing_tables.specs.Numbered.{IsAt}
use Rattle.listing_tables.specs.Waiting.{all_looks, waits}

-- an element of a list
abbrev pub IsIn : {X : Type 0} → List X → X → Type 0
IsIn xs x = (at : ℕ) × (slice_get xs at ≡ Some x)

-- ---- whether a send may be missing

-- since so many gaps, and before this place, the driver told of references to the node, where none were before
abbrev pub IsReferred : Seen → ℕ → ℕ → ℕ → Type 0
IsReferred seen node gaps place =
    (at : ℕ) × (get same_reference seen.referred (node, gaps) ≡ Some at) × (at < place)

-- nothing shows that a process is older than the capture
abbrev pub IsWhole : Seen → ℕ → Type 0
IsWhole seen upid = slice_get seen.old.all.items upid ≡ Some false

-- The send of a delivery at this place is in the capture, and no frame is missing between them: the first handle of the
-- node was made after the last gap, or there is no gap and the process has begun in the capture.
abbrev pub HasAll : Seen → ℕ → ℕ → ℕ → ℕ → Type 0
HasAll seen upid node place gaps = IsReferred seen node gaps place ⊎ ((gaps ≡ 0) × IsWhole seen upid)

-- ---- what speaks against a send

-- a generation of a handle is known to mean this node, while so many gaps come before
abbrev pub MeansNode : Meanings → ℕ → ℕ → ℕ → Type 0
MeansNode meanings generation gaps node =
    (meaning : Meaning) × (slice_get meanings.list.all.items generation ≡ Some meaning)
    × (meaning.gaps ≡ gaps) × (meaning.known ≡ One node)

-- the list of a send: 0, or 1 more than the node to which it is known to go
abbrev pub IsListOf : Meanings → Option ℕ → ℕ → ℕ → Type 0
IsListOf meanings generation gaps list =
    (list ≡ 0)
    ⊎ ((index node : ℕ) × (generation ≡ Some index) × MeansNode meanings index gaps node × (list ≡ node + 1))

-- a generation that begins here begins before one with this end ends
abbrev pub BeginsBefore : ℕ → Option ℕ → Type 0
BeginsBefore begin end = (at : ℕ) → end ≡ Some at → begin < at

-- The process of a generation has another one at that time that is known to mean this node. So this one means another
-- node, as a process has one handle of a node at a time.
pub record HasOtherHandle (generations : Generations) (meanings : Meanings) (generation gaps node : ℕ) : Type 0 where
  pub row : Generation
  pub is : slice_get generations.list.all.items generation ≡ Some row
  pub at : ℕ
  pub other : Generation
  pub there : slice_get generations.list.all.items at ≡ Some other
  pub apart : at ≢ generation
  pub process : other.upid.index ≡ row.upid.index
  pub means : MeansNode meanings at gaps node
  pub begins : BeginsBefore row.begin other.end
  pub ends : BeginsBefore other.begin row.end

-- a generation is of a handle of this process, which owns the node: no process has a handle of its own node
abbrev pub IsOfProcess : Generations → ℕ → ℕ → Type 0
IsOfProcess generations generation upid =
    (row : Generation) × (slice_get generations.list.all.items generation ≡ Some row) × (row.upid.index ≡ upid)

-- a send goes to another node than that of a delivery
abbrev pub IsElsewhere : Evidence → Sought → Message → Sent → Type 0
IsElsewhere evidence sought message sent =
    (generation : ℕ) × (sent.generation ≡ Some generation)
    × (IsOfProcess evidence.generations.now generation sought.upid.index
    ⊎ HasOtherHandle evidence.generations.now evidence.meanings.now generation message.gaps sought.node)

-- a call that a message opens or closes
abbrev pub HasCall : Evidence → Message → Call → Type 0
HasCall evidence message call = IsAt evidence.calls.now.all.items message.call call

-- the reply by which a served call is closed
abbrev pub IsRepliedBy : Call → Closer → Type 0
IsRepliedBy served closer = (served.verdict ≡ Replied) × (served.closer ≡ Some closer)

-- two messages have the same key
abbrev pub AreAlike : Messages → Closer → Closer → Type 0
AreAlike messages one other =
    (a b : Message) × (slice_get messages.list.all.items one.message ≡ Some a)
    × (slice_get messages.list.all.items other.message ≡ Some b) × (a.key ≡ b.key)

-- A made call and a served call are not the two ends of one call: the made one is answered and the other one is not
-- replied, or it is closed before the reply, or its answer is another one than the reply.
abbrev pub LieBadly : Messages → Call → Call → Type 0
LieBadly messages call served =
    ((call.verdict ≡ Answered) × ((reply : Closer) → IsRepliedBy served reply → ⊥))
    ⊎ ((reply closer : Closer) × IsRepliedBy served reply × (call.closer ≡ Some closer)
    × ((closer.place ≤ reply.place) ⊎ ((call.verdict ≡ Answered) × (AreAlike messages reply closer → ⊥))))

-- so they lie, and no frame is missing in either: a call may have another closer in a missing frame
pub record LieApart (evidence : Evidence) (call : Call) (message : Message) (served : Call) (delivery : Message) : Type 0 where
  pub made : IsWholeCall evidence.seen.now call message.gaps
  pub got : IsWholeCall evidence.seen.now served delivery.gaps
  pub lie : LieBadly evidence.messages.now call served

-- the sender_pid of a delivery is not that of the sender, whose number is that of its process
pub record HasOtherSender (sought : Sought) (sent : Sent) : Type 0 where
  pub told : sought.sender ≢ pos 0
  pub other : sought.sender ≢ pos sent.process
  pub real : sent.process < 4194304

-- a call is not the one that a delivery serves
abbrev pub IsOtherCall : Evidence → Sought → Message → Sent → Type 0
IsOtherCall evidence sought message sent =
    HasOtherSender sought sent
    ⊎ ((call served : Call) × HasCall evidence message call × HasCall evidence sought.message served
    × LieApart evidence call message served sought.message)

-- Whatever send is at this index, it is not that of the delivery. With a frame missing between the two, its handle may
-- mean another node by now.
abbrev pub SpeaksAgainst : Evidence → Sought → ℕ → Type 0
SpeaksAgainst evidence sought index =
    (message : Message) (sent : Sent) → slice_get evidence.messages.now.list.all.items index ≡ Some message
    → message.detail ≡ IsSent sent
    → (message.gaps ≢ sought.message.gaps) ⊎ IsElsewhere evidence sought message sent
    ⊎ IsOtherCall evidence sought message sent

-- ---- what a fit is

-- the driver refused a send
abbrev pub IsRefused : Sent → Type 0
IsRefused sent = (place : ℕ) × (sent.settled ≡ Refused place)

-- no delivery so far may have come from the send at this index
abbrev pub IsUnmarked : List Mark → ℕ → Type 0
IsUnmarked marks index = (mark : Mark) × (slice_get marks index ≡ Some mark) × (mark.other ≡ Unmarked)

-- what is known of a send that is looked at. It is fresh if it has certainly not come before.
pub record IsFit (evidence : Evidence) (look : Look) (fit : Fit) : Type 0 where
  pub message : Message
  pub at : slice_get evidence.messages.now.list.all.items look.listed.index ≡ Some message
  pub is : message.detail ≡ IsSent fit.sent
  pub listed : fit.listed ≡ look.listed
  pub place : fit.place ≡ message.place
  pub gaps : fit.gaps ≡ message.gaps
  pub utid : fit.utid ≡ message.utid
  pub untaken : fit.fresh ≡ true → look.guessed ≡ false
  pub taken : fit.fresh ≡ true → IsRefused fit.sent → ⊥
  pub unmarked : fit.fresh ≡ true → IsUnmarked evidence.marks.now.all.items look.listed.index

-- a send of the same handle that the driver took after a fresh one, and that does not take the place of an earlier one:
-- one thread sent both, or the fresh one was confirmed before
pub record ComesAfter (first other : Fit) : Type 0 where
  pub fresh : first.fresh ≡ true
  pub same : other.sent.generation ≡ first.sent.generation
  pub kept : other.sent.updates ≡ false
  pub later : first.listed.index < other.listed.index
  pub taken : (other.utid.index ≡ first.utid.index) ⊎ ((at : ℕ) × (first.sent.settled ≡ Confirmed at) × (at < other.place))

-- a send is among the fits
abbrev pub HasFit : Fitting → ℕ → Type 0
HasFit fitting index = (fit : Fit) × IsIn fitting.list.items fit × (fit.listed.index ≡ index)

-- a fit of this rank is added: those that rank behind another one are left out
pub record Adds (old : Fitting) (rank : ℕ) (fit : Fit) (new : Fitting) : Type 0 where
  pub fits : (other : Fit) → IsIn new.list.items other → IsIn old.list.items other ⊎ (other ≡ fit)
  pub best : old.rank ≡ 0 → new.rank ≡ 0
  pub kept : old.rank ≡ 0 → (other : Fit) → IsIn old.list.items other → IsIn new.list.items other
  pub first : rank ≡ 0 → new.rank ≡ 0
  pub added : rank ≡ 0 → IsIn new.list.items fit
  pub looked : new.looked ≡ old.looked
  pub whole : new.is_whole ≡ old.is_whole

-- after one more look either something speaks against its send or it is among the fits, and their rank is 0
pub record LooksAtOne (evidence : Evidence) (sought : Sought) (look : Look) (old new : Fitting) : Type 0 where
  pub here : SpeaksAgainst evidence sought look.listed.index ⊎ ((new.rank ≡ 0) × HasFit new look.listed.index)
  pub best : old.rank ≡ 0 → new.rank ≡ 0
  pub kept : old.rank ≡ 0 → (fit : Fit) → IsIn old.list.items fit → IsIn new.list.items fit
  pub fits : (fit : Fit) → IsIn new.list.items fit → IsIn old.list.items fit ⊎ IsFit evidence look fit
  pub looked : new.looked ≡ old.looked
  pub whole : new.is_whole ≡ old.is_whole

-- so it is of the first of all looks
pub record LooksAt (evidence : Evidence) (sought : Sought) (fitting : Fitting) (count : ℕ) : Type 0 where
  pub each : (at : ℕ) → at < count → (look : Look) → slice_get fitting.looked.items at ≡ Some look
      → SpeaksAgainst evidence sought look.listed.index ⊎ ((fitting.rank ≡ 0) × HasFit fitting look.listed.index)
  pub fits : (fit : Fit) → IsIn fitting.list.items fit → (look : Look) × IsIn fitting.looked.items look × IsFit evidence look fit

-- so it is of all that wait, if all were looked at
pub record LooksAtAll (evidence : Evidence) (sought : Sought) (fitting : Fitting) : Type 0 where
  pub looks : LooksAt evidence sought fitting (length fitting.looked.items)
  pub all : fitting.is_whole ≡ true → fitting.looked.items ≡ all_looks evidence.waiting.now sought.message.key (sought.node + 1)

-- a send is no other one than this one, or a oneway one that comes after it
abbrev pub IsOutOfQuestion : Bool → Fit → Fit → Type 0
IsOutOfQuestion oneway only other =
    (other.listed.index ≡ only.listed.index) ⊎ ((oneway ≡ true) × ComesAfter only other)

-- this is the only fit, or each other one of oneway sends comes after it
pub record IsOnlyFit (oneway : Bool) (fitting : Fitting) (fit : Fit) : Type 0 where
  pub is : IsIn fitting.list.items fit
  pub only : (other : Fit) → IsIn fitting.list.items other → IsOutOfQuestion oneway fit other

-- all fits are of one generation of a handle
abbrev pub AreOfOneGeneration : Fitting → Type 0
AreOfOneGeneration fitting =
    (generation : Option ℕ) × ((fit : Fit) → IsIn fitting.list.items fit → fit.sent.generation ≡ generation)

-- ---- what is certain

-- a send waits that is not known to go to another node than that of the delivery, and that has all that the driver
-- copies: device, code, flags, sizes and bytes
abbrev pub MayBe : Waiting → Sought → ℕ → ℕ → Type 0
MayBe waiting sought list index =
    (index < 2 ^ 32) × ((list ≡ sought.node + 1) ⊎ (list ≡ 0)) × IsTrue (waits waiting (sought.message.key, list, index))

-- what is known of such a send
abbrev pub IsFitOf : Evidence → Sought → Fit → Type 0
IsFitOf evidence sought fit =
    (look : Look) × IsIn (all_looks evidence.waiting.now sought.message.key (sought.node + 1)) look × IsFit evidence look fit

-- this send is the only one that can have been meant
pub record IsOnlyOne (evidence : Evidence) (sought : Sought) (fit : Fit) : Type 0 where
  pub has_all : HasAll evidence.seen.now sought.upid.index sought.node sought.message.place sought.message.gaps
  pub is : IsFitOf evidence sought fit
  pub only : (list index : ℕ) → MayBe evidence.waiting.now sought list index
      → (index ≡ fit.listed.index) ⊎ SpeaksAgainst evidence sought index
      ⊎ ((sought.message.oneway ≡ true)
      × ((other : Fit) × IsFitOf evidence sought other × (other.listed.index ≡ index) × ComesAfter fit other))

-- all sends that can have been meant are of one generation of a handle
pub record AreOfOneHandle (evidence : Evidence) (sought : Sought) : Type 0 where
  pub has_all : HasAll evidence.seen.now sought.upid.index sought.node sought.message.place sought.message.gaps
  pub generation : Option ℕ
  pub only : (list index : ℕ) → MayBe evidence.waiting.now sought list index
      → SpeaksAgainst evidence sought index
      ⊎ ((other : Fit) × IsFitOf evidence sought other × (other.listed.index ≡ index)
      × (other.sent.generation ≡ generation))

-- what is said of a delivery is certain
abbrev pub IsJustified : Evidence → Sought → Certainty → Type 0
IsJustified evidence sought (Sure fit) = IsOnlyOne evidence sought fit
IsJustified evidence sought OneHandle = AreOfOneHandle evidence sought
IsJustified evidence sought Several = Unit {0}
IsJustified evidence sought Unknown = Unit {0}
