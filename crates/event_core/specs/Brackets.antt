-- The calls of a thread: which records leave marks, which error replies report a refused send, and which records open
-- and close a call (docs/REPORT.md).
use Rattle.std.specs.Prelude.{ℕ, if◌then◌else◌, Bool, false, List, Option, Some, None}
use Rattle.binder_code.specs.declared.record_kind.Kind.{Kind}
use Rattle.binder_code.specs.declared.record_kind.Kind.TheVariants.{BcTransaction, BcReply, BcTransactionSg, BcReplySg, BrTransaction, BrTransactionSecCtx, BrReply, BrDeadReply, BrTransactionComplete, BrFailedReply, BrFrozenReply, BrOnewaySpamSuspect, BrTransactionPendingFrozen}
use Rattle.event_core.specs.declared.marks.Mark.{Mark}
use Rattle.event_core.specs.declared.marks.Mark.TheVariants.{Oneway, SentReply, Other}
use Rattle.event_core.specs.declared.marks.Bracket.{Bracket}
use Rattle.event_core.specs.declared.marks.Bracket.TheVariants.{Call, Served, Reply, Sent, Error, Refused, Neither}
use Rattle.event_core.specs.Oneway.{has_one_way}

-- whether a record is a transaction with `TF_ONE_WAY`, sent or received; on a reply the flag says nothing
abbrev pub is_oneway : Kind → List ℕ → Bool
is_oneway BcTransaction payload = has_one_way payload
is_oneway BcTransactionSg payload = has_one_way payload
is_oneway BrTransaction payload = has_one_way payload
is_oneway BrTransactionSecCtx payload = has_one_way payload
is_oneway _ payload = false

-- the mark of a transaction that the thread sends: Oneway for a oneway one, after which an error reply closes nothing,
-- and Other for a call
abbrev pub sent_mark : Bool → Option Mark
sent_mark oneway = Some (if oneway then Oneway else Other)

-- the mark of a transaction that the thread gets: none for a oneway one, and Other for a call to serve
abbrev pub received_mark : Bool → Option Mark
received_mark oneway = if oneway then None else Some Other

-- the mark that a record leaves in its thread, by its kind and by whether it is a oneway transaction: Oneway for a
-- oneway send, SentReply for a sent reply, Other for a call made or got, a reply got, an error reply or a
-- confirmation of a send. Every other record leaves none.
abbrev pub mark_of : Kind → Bool → Option Mark
mark_of BcTransaction oneway = sent_mark oneway
mark_of BcTransactionSg oneway = sent_mark oneway
mark_of BrTransaction oneway = received_mark oneway
mark_of BrTransactionSecCtx oneway = received_mark oneway
mark_of BcReply oneway = Some SentReply
mark_of BcReplySg oneway = Some SentReply
mark_of BrReply oneway = Some Other
mark_of BrTransactionComplete oneway = Some Other
mark_of BrOnewaySpamSuspect oneway = Some Other
mark_of BrTransactionPendingFrozen oneway = Some Other
mark_of BrDeadReply oneway = Some Other
mark_of BrFailedReply oneway = Some Other
mark_of BrFrozenReply oneway = Some Other
mark_of _ oneway = None

-- the bracket of a transaction: this opener, or Neither for a oneway one
abbrev pub unless_oneway : Bracket → Bool → Bracket
unless_oneway bracket oneway = if oneway then Neither else bracket

-- the bracket of an error reply, by the latest mark before it: after a oneway send or a sent reply it reports a refused
-- send; after any other mark, or none, it closes a call
abbrev pub error_reply : Option Mark → Bracket
error_reply (Some Oneway) = Refused
error_reply (Some SentReply) = Refused
error_reply _ = Error

-- the bracket of a record: what it is among the calls of its thread, by the latest mark before it. A call made or got
-- opens. A reply got or sent closes. An error reply closes, or reports a refused send. Every other record is neither.
abbrev pub bracket_of : Option Mark → Kind → Bool → Bracket
bracket_of last BcTransaction oneway = unless_oneway Call oneway
bracket_of last BcTransactionSg oneway = unless_oneway Call oneway
bracket_of last BrTransaction oneway = unless_oneway Served oneway
bracket_of last BrTransactionSecCtx oneway = unless_oneway Served oneway
bracket_of last BrReply oneway = Reply
bracket_of last BcReply oneway = Sent
bracket_of last BcReplySg oneway = Sent
bracket_of last BrDeadReply oneway = error_reply last
bracket_of last BrFailedReply oneway = error_reply last
bracket_of last BrFrozenReply oneway = error_reply last
bracket_of last _ oneway = Neither
