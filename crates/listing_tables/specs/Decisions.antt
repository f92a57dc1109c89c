-- What is noted of a delivery whose send is looked for, what is decided of it, and what is learnt of a certain pair
-- (docs/DATABASE.md#send).
use Rattle.std.specs.Prelude.{◌≡◌, ◌⊎◌, ◌==◌, ◌&&◌, ◌||◌, ℕ, nat_eq, Bool, not, true, false, List, [], ◌∷◌, Option, None, Some, slice_get}
use Rattle.indexmap.specs.IndexSet.{contains, insert_index}
use Rattle.listing_tables.specs.declared.buffers.Buffer.{Buffer}
use Rattle.listing_tables.specs.declared.certainty.Evidence.{Evidence}
use Rattle.listing_tables.specs.declared.certainty.Sought.{Sought}
use Rattle.listing_tables.specs.declared.fitting.Fit.{Fit}
use Rattle.listing_tables.specs.declared.handed.HandedOver.{HandedOver}
use Rattle.listing_tables.specs.declared.handed.Node.{Node}
use Rattle.listing_tables.specs.declared.meanings.Meanings.{Meanings}
use Rattle.listing_tables.specs.declared.messages.Messages.{Messages}
use Rattle.listing_tables.specs.declared.messages.Path.{Path}
use Rattle.listing_tables.specs.declared.messages.Sent.{Sent}
use Rattle.listing_tables.specs.declared.pairs.Pairing.{Pairing}
use Rattle.listing_tables.specs.declared.waiting.Waiting.{Waiting}
use Rattle.listing_tables.specs.Certainty.{IsOnlyOne, LooksAtAll}
use Rattle.listing_tables.specs.Changes.{IsSendAt, RatesPair}
use Rattle.listing_tables.specs.Doubts.{CountsCame, CountsDoubt, CountsLeaving}
use Rattle.listing_tables.specs.Meanings.{LearnsNode}
use Rattle.listing_tables.specs.OneHandle.{LeavesAll, LeavesOneHandle}
use Rattle.listing_tables.specs.Pairing.{IsAfterGaps, IsEvidenceOf, MarksFits, messages_of}
use Rattle.listing_tables.specs.Waiting.{AllWait, OthersWait, OthersWaitBut, entry_of, waits}

-- ---- what is noted of a delivery

-- whether two nodes are the same one of the same process
abbrev pub same_node : Node → Node → Bool
same_node a b = (a.upid.index == b.upid.index) && ((a.ptr == b.ptr) && (a.cookie == b.cookie))

-- the index of a node among all nodes: its own, or that of one that comes next
abbrev pub index_of_node : HandedOver → Node → ℕ
index_of_node handed node = insert_index same_node handed.nodes node

-- the node that transactions of a path go to
abbrev pub node_of_path : Path → Node
node_of_path path = record { upid = path.upid; ptr = path.target; cookie = path.cookie }

-- the path at an index among the paths of all messages leads to this node
abbrev pub LeadsTo : Messages → ℕ → Node → Type 0
LeadsTo messages index node =
    (path : Path) × (slice_get messages.paths.keys index ≡ Some path) × (node ≡ node_of_path path)

-- What is noted of a delivery that brings the buffer at an index: the sender_pid of the buffer, the node that its path
-- leads to, by the index of that, and the process of the node.
pub record NotesDelivery (pairing : Pairing) (index : ℕ) (sought : Sought) : Type 0 where
  pub buffer : Buffer
  pub there : slice_get pairing.facts.buffers.now.list.all.items index ≡ Some buffer
  pub sender : sought.sender ≡ buffer.sender
  pub node : Node
  pub leads : LeadsTo pairing.messages buffer.path node
  pub at : sought.node ≡ index_of_node pairing.handed node
  pub process : sought.upid ≡ node.upid

-- if more sends of the delivery's key waited than were looked at, that is noted of the key; what was noted of keys stays
pub record NotesCrowded (old : Pairing) (sought : Sought) (new : Pairing) : Type 0 where
  pub crowded : new.fitting.is_whole ≡ false → contains nat_eq new.crowded sought.message.key ≡ true
  pub stays : (key : ℕ) → contains nat_eq old.crowded key ≡ true → contains nat_eq new.crowded key ≡ true

-- ---- what waits after a delivery

-- what waited still waits, and of the sends in doubt nothing changes
pub record KeepsWaiting (old new : Waiting) : Type 0 where
  pub waits : AllWait old new
  pub doubted : new.doubted ≡ old.doubted
  pub doubts : new.doubts ≡ old.doubts

-- each of these sends comes into doubt, one after another, unless it was in doubt before
abbrev pub DoubtsEach : Waiting → Waiting → List Fit → Type 0
DoubtsEach old new [] = new ≡ old
DoubtsEach old new (fit ∷ fits) =
    (between : Waiting) × AllWait old between × CountsDoubt old fit.listed between × DoubtsEach between new fits

-- these sends are in doubt, and one of them came
pub record ComesInDoubt (old : Waiting) (fits : List Fit) (key : ℕ) (new : Waiting) : Type 0 where
  pub between : Waiting
  pub doubts : DoubtsEach old between fits
  pub came : CountsCame between key new
  pub others : OthersWait between new

-- ---- what is decided of a delivery

-- A delivery is sure to come from one send. They are a pair, which is certain, nothing is marked, and the send does not
-- wait any more. Another walk may find more, unless the send had certainly not come before.
pub record IsSure (old : Pairing) (sought : Sought) (new : Pairing) : Type 0 where
  pub evidence : Evidence
  pub known : IsEvidenceOf old evidence
  pub fit : Fit
  pub only : IsOnlyOne evidence sought fit
  pub pairs : RatesPair (messages_of old) (messages_of new) fit.listed.index sought.index 1 true
  pub marks : new.marks ≡ old.marks
  pub gone : waits new.waiting (entry_of fit.listed) ≡ false
  pub others : OthersWaitBut (entry_of fit.listed) old.waiting new.waiting
  pub counts : CountsLeaving old.waiting fit.listed 0 new.waiting
  pub news : new.news ≡ (old.news || not fit.fresh)

-- the delivery may have come from none of the sends that fit, as far as is known: none of them comes into doubt
pub record MayBeNone (evidence : Evidence) (sought : Sought) (old new : Pairing) : Type 0 where
  pub looks : LooksAtAll evidence sought new.fitting
  pub kept : KeepsWaiting old.waiting new.waiting

-- the delivery came from one of the sends that fit: they are in doubt, and one of them came
pub record IsOneOf (evidence : Evidence) (sought : Sought) (old new : Pairing) : Type 0 where
  pub left : LeavesAll evidence sought new.fitting ⊎ LeavesOneHandle evidence sought new.fitting
  pub guessed : Waiting
  pub kept : KeepsWaiting old.waiting guessed
  pub doubts : ComesInDoubt guessed new.fitting.list.items sought.message.key new.waiting

-- It is left open from which send a delivery came. The sends that fit are marked by it, if nothing speaks against them,
-- and of the one that is guessed it is noted that the delivery took it. Whether another walk may find
-- more stays as it was.
pub record LeavesOpen (old : Pairing) (sought : Sought) (new : Pairing) : Type 0 where
  pub evidence : Evidence
  pub known : IsEvidenceOf old evidence
  pub marks : MarksFits sought.message.oneway new.fitting sought.index old.marks.all.items new.marks.all.items
  pub how : MayBeNone evidence sought old new ⊎ IsOneOf evidence sought old new
  pub news : new.news ≡ old.news

-- a delivery is sure to come from one send, or it is left open
abbrev pub Decides : Pairing → Sought → Pairing → Type 0
Decides old sought new = IsSure old sought new ⊎ LeavesOpen old sought new

-- ---- what is learnt of a certain pair

-- it is noted that the target of a send after so many gaps means a node, if it is that of a handle with a generation
abbrev pub LearnsTarget : Meanings → Meanings → Option ℕ → ℕ → ℕ → Type 0
LearnsTarget old new None gaps node = new ≡ old
LearnsTarget old new (Some generation) gaps node = LearnsNode old new generation gaps node

-- it is noted that the target of the send at an index means a node
pub record LearnsOfSend (old : Pairing) (index node : ℕ) (new : Meanings) : Type 0 where
  pub sent : Sent
  pub sends : IsSendAt (messages_of old) index sent
  pub gaps : ℕ
  pub after : IsAfterGaps (messages_of old) index gaps
  pub learns : LearnsTarget old.meanings new sent.generation gaps node
