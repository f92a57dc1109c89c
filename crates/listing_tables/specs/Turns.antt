-- What a walk does at the turn of each message, and what is done of all messages in order (docs/DATABASE.md#send).
use Rattle.std.specs.Prelude.{◌≡◌, ◌≤◌, ◌⊎◌, ◌==◌, ◌||◌, ℕ, zero, suc, Bool, true, false, [], None, Some, length, slice_get}
use Rattle.listing_tables.specs.declared.calls.Call.{Call}
use Rattle.listing_tables.specs.declared.certainty.Sought.{Sought}
use Rattle.listing_tables.specs.declared.messages.Detail.TheVariants.{Delivered}
use Rattle.listing_tables.specs.declared.messages.Message.{Message}
use Rattle.listing_tables.specs.declared.numbered.Numbered.{Numbered}
use Rattle.listing_tables.specs.declared.pairs.Pairing.{Pairing}
use Rattle.listing_tables.specs.declared.traffic.Traffic.{Traffic}
use Rattle.listing_tables.specs.declared.waiting.Waiting.{Waiting}
use Rattle.listing_tables.specs.Decisions.{Decides, KeepsWaiting, NotesCrowded, NotesDelivery}
use Rattle.listing_tables.specs.Meanings.{BeginsEach, MakesAllKnown}
use Rattle.listing_tables.specs.Pairing.{BeginsWalk, Claims, ClosesCall, KeepsGuess, MarksClaimed, MarksTurn, PairsDelivery, PairsReply, messages_of}

-- A delivery has no partner yet. Its send is looked for, by what is known and noted so far. Before that the send of the
-- call that the delivery closes may be taken out.
pub record LooksForSend (old : Pairing) (index : ℕ) (message : Message) (new : Pairing) : Type 0 where
  pub buffer : ℕ
  pub is : message.detail ≡ Delivered buffer
  pub alone : message.partner ≡ None
  pub between : Pairing
  pub same : between ≡ record old { waiting = between.waiting; handed = between.handed }
  pub closes : ClosesCall old message between.waiting
  pub sought : Sought
  pub which : sought.index ≡ index
  pub what : sought.message ≡ message
  pub noted : NotesDelivery old buffer sought
  pub pairs : PairsDelivery between sought (messages_of new)
  pub decides : Decides between sought new
  pub crowded : NotesCrowded between sought new

-- At the turn of any other message no message changes. The send of the call that it closes may be taken out. All others
-- still wait, and of the sends in doubt nothing changes. What is noted of keys, and whether another walk may find more, stays
-- as it was.
pub record PassesOn (old : Pairing) (message : Message) (new : Pairing) : Type 0 where
  pub messages : messages_of new ≡ messages_of old
  pub between : Waiting
  pub closes : ClosesCall old message between
  pub kept : KeepsWaiting between new.waiting
  pub crowded : new.crowded ≡ old.crowded
  pub news : new.news ≡ old.news

-- the send of a delivery is looked for, or it is the turn of another message
abbrev pub TakesTurn : Pairing → ℕ → Message → Pairing → Type 0
TakesTurn old index message new = PassesOn old message new ⊎ LooksForSend old index message new

-- a message has its turn; a walk through the messages of calls passes over the oneway ones
pub record HasTurn (calls : Bool) (old : Pairing) (index : ℕ) (new : Pairing) : Type 0 where
  pub message : Message
  pub there : slice_get (messages_of old) index ≡ Some message
  pub passed : calls ≡ true → message.oneway ≡ true → new ≡ old
  pub turn : ((calls ≡ true) × (message.oneway ≡ true)) ⊎ TakesTurn old index message new
  pub marks : MarksTurn message index old.marks.all.items new.marks.all.items
  pub facts : new.facts ≡ old.facts

-- a delivery is marked by the call at an index, if that must have come by it
abbrev pub MarksIfClaimed : Pairing → ℕ → Pairing → Type 0
MarksIfClaimed old index new =
    (new ≡ record old { marks = new.marks })
    × ((new.marks ≡ old.marks) ⊎ MarksClaimed old index new.marks.all.items)

-- The delivery at an index and the one call that marks it become a pair, if there is one. Of that something may be learnt,
-- and another walk may find more.
abbrev pub ClaimsIfMarked : Pairing → ℕ → Pairing → Type 0
ClaimsIfMarked old index new =
    (new ≡ record old {
      messages = new.messages;
      handed = new.handed;
      meanings = new.meanings;
      news = new.news;
    })
    × (((messages_of new ≡ messages_of old) × (new.news ≡ old.news))
    ⊎ (Claims old index (messages_of new) × (new.news ≡ true)))

-- the send at an index and the delivery that took it by guess become a pair, if there is one
abbrev pub KeepsIfGuessed : Pairing → ℕ → Pairing → Type 0
KeepsIfGuessed old index new =
    (new ≡ record old { messages = new.messages })
    × ((messages_of new ≡ messages_of old) ⊎ KeepsGuess old index (messages_of new))

-- the reply to the call that the delivery at an index opens becomes a pair with its answer, if there is one
abbrev pub PairsIfReplied : Pairing → ℕ → Pairing → Type 0
PairsIfReplied old index new =
    (new ≡ record old { messages = new.messages })
    × ((messages_of new ≡ messages_of old) ⊎ PairsReply old index (messages_of new))

-- a step is made for each index below a count, in order, and no other one
abbrev pub MakesEach : (Pairing → ℕ → Pairing → Type 0) → Pairing → Pairing → ℕ → Type 0
MakesEach step old new zero = new ≡ old
MakesEach step old new (suc count) =
    (between : Pairing) × MakesEach step old between count × step between count new

-- how many messages there are
abbrev pub count_of : Pairing → ℕ
count_of pairing = length (messages_of pairing)

-- what is marked by calls is marked of all messages, before any of these deliveries is claimed
pub record ClaimsAll (old new : Pairing) : Type 0 where
  pub marked : Pairing
  pub marks : MakesEach MarksIfClaimed old marked (count_of old)
  pub claims : MakesEach ClaimsIfMarked marked new (count_of marked)

-- A walk begins anew, each message has its turn, then calls are claimed, and what was noted of nodes is made known. Another
-- walk may find more, if by one of these it may.
pub record Walks (calls : Bool) (old new : Pairing) : Type 0 where
  pub begun : Pairing
  pub begins : BeginsWalk old begun
  pub turned : Pairing
  pub turns : MakesEach (HasTurn calls) begun turned (count_of begun)
  pub claimed : Pairing
  pub claims : ClaimsAll turned claimed
  pub more : Bool
  pub settles : MakesAllKnown claimed.meanings.list.all.items new.meanings.list.all.items
      claimed.meanings.same.all.items more
  pub news : new.news ≡ (claimed.news || more)
  pub same : new ≡ record claimed { meanings = new.meanings; news = new.news }

-- the first walk is through the messages of calls
abbrev pub WalksAt : Pairing → ℕ → Pairing → Type 0
WalksAt old walk new = Walks (walk == 0) old new

-- So many walks are made, at least two and at most five: the first one is not through oneway messages. Fewer than five are
-- made only if the last one has found that another one finds no more.
abbrev pub WalksOn : Pairing → Pairing → Type 0
WalksOn old new =
    (walks : ℕ) × (2 ≤ walks) × (walks ≤ 5) × MakesEach WalksAt old new walks
    × ((walks ≡ 5) ⊎ (new.news ≡ false))

-- Messages are paired by some walks. After that what the last one guessed is kept, and replies are paired.
pub record PairsAll (old new : Pairing) : Type 0 where
  pub begun : Pairing
  pub same : begun ≡ record old { meanings = begun.meanings }
  pub alike : begun.meanings.same ≡ old.meanings.same
  pub begins : BeginsEach old.facts.seen.now old.meanings.list.all.items begun.meanings.list.all.items
      old.facts.generations.now.list.all.items
  pub walked : Pairing
  pub walks : WalksOn begun walked
  pub kept : Pairing
  pub keeps : MakesEach KeepsIfGuessed walked kept (count_of walked)
  pub replies : MakesEach PairsIfReplied kept new (count_of kept)

-- Pairing begins with all that has come of the records, and with the calls. Nothing is known yet of what generations mean,
-- and nothing is marked.
pub record BeginsWith (traffic : Traffic) (calls : Numbered Call) (begun : Pairing) : Type 0 where
  pub messages : begun.messages ≡ traffic.messages
  pub handed : begun.handed ≡ traffic.handles.handed
  pub buffers : begun.facts.buffers.now ≡ traffic.buffers
  pub generations : begun.facts.generations.now ≡ traffic.handles.generations
  pub seen : begun.facts.seen.now ≡ traffic.seen
  pub made : begun.facts.calls.now ≡ calls
  pub meanings : begun.meanings.list.all.items ≡ []
  pub same : begun.meanings.same.all.items ≡ []
  pub marks : begun.marks.all.items ≡ []

-- The messages of a traffic are paired. Of all else only the objects that are handed over may change.
pub record PairsTraffic (old : Traffic) (calls : Numbered Call) (new : Traffic) : Type 0 where
  pub begun : Pairing
  pub paired : Pairing
  pub pairs : PairsAll begun paired
  pub begins : BeginsWith old calls begun
  pub messages : new.messages ≡ paired.messages
  pub others : new ≡ record old {
    messages = new.messages;
    handles = record old.handles { handed = new.handles.handed };
  }
