-- The bracket of an event by the mark before it. Only the bracket of an error reply depends on that mark.
use Rattle.std.proofs.Common.{◌≡◌, Bool, true, false, cond, Option, Some, None, refl}
use Rattle.binder_code.specs.declared.record_kind.Kind.{Kind}
use Rattle.binder_code.specs.declared.record_kind.Kind.TheVariants.{BcTransaction, BcReply, BcTransactionSg, BcReplySg, BrTransaction, BrTransactionSecCtx, BrReply, BrDeadReply, BrTransactionComplete, BrFailedReply, BrFrozenReply, BrOnewaySpamSuspect, BrTransactionPendingFrozen}
use Rattle.std.specs.Option.{is_some}
use Rattle.event_core.specs.Brackets.{mark_of, bracket_of, error_reply}
use Rattle.event_core.specs.declared.marks.Bracket.{Bracket}
use Rattle.event_core.specs.declared.marks.Bracket.TheVariants.{Call, Served, Neither}
use Rattle.event_core.specs.declared.marks.Mark.{Mark}
use Rattle.event_core.specs.declared.marks.Mark.TheVariants.{Other}
use Rattle.call_stacks.specs.Calls.{is_error, is_refused}

received : (b : Bool) → cond b None (Some Other) ≡ None → cond b Neither Served ≡ Neither
received true e = refl
received false e = absurd cc

-- a record that leaves no mark neither opens nor closes a call
pub no_mark : (before : Option Mark) (kind : Kind) (oneway : Bool) → mark_of kind oneway ≡ None → bracket_of before kind oneway ≡ Neither
no_mark before BcTransaction oneway e = absurd cc
no_mark before BcTransactionSg oneway e = absurd cc
no_mark before BrTransaction oneway e = received oneway e
no_mark before BrTransactionSecCtx oneway e = received oneway e
no_mark before BcReply oneway e = absurd cc
no_mark before BcReplySg oneway e = absurd cc
no_mark before BrReply oneway e = absurd cc
no_mark before BrTransactionComplete oneway e = refl
no_mark before BrOnewaySpamSuspect oneway e = refl
no_mark before BrTransactionPendingFrozen oneway e = refl
no_mark before BrDeadReply oneway e = absurd cc
no_mark before BrFailedReply oneway e = absurd cc
no_mark before BrFrozenReply oneway e = absurd cc
no_mark before _ oneway e = refl

-- after every mark, what is not an error reply has the same bracket
pub same_bracket : (before : Option Mark) (kind : Kind) (oneway : Bool) → is_error (bracket_of None kind oneway) ≡ false
    → bracket_of before kind oneway ≡ bracket_of None kind oneway
same_bracket before BrDeadReply oneway e = absurd cc
same_bracket before BrFailedReply oneway e = absurd cc
same_bracket before BrFrozenReply oneway e = absurd cc
same_bracket before _ oneway e = refl

no_error : (b : Bool) (bracket : Bracket) → is_error bracket ≡ false → is_error (cond b Neither bracket) ≡ false
no_error true bracket e = refl
no_error false bracket e = e

not_both : (b : Bool) → b ≡ false → b ≡ true → ⊥
not_both true first second = cc
not_both false first second = cc

-- an error reply has the bracket that the mark before it gives
pub error_bracket : (before : Option Mark) (kind : Kind) (oneway : Bool) → is_error (bracket_of None kind oneway) ≡ true
    → bracket_of before kind oneway ≡ error_reply before
error_bracket before BcTransaction oneway e = absurd (not_both _ (no_error oneway Call refl) e)
error_bracket before BcTransactionSg oneway e = absurd (not_both _ (no_error oneway Call refl) e)
error_bracket before BrTransaction oneway e = absurd (not_both _ (no_error oneway Served refl) e)
error_bracket before BrTransactionSecCtx oneway e = absurd (not_both _ (no_error oneway Served refl) e)
error_bracket before BrDeadReply oneway e = refl
error_bracket before BrFailedReply oneway e = refl
error_bracket before BrFrozenReply oneway e = refl
error_bracket before _ oneway e = absurd cc

not_refused : (b : Bool) (bracket : Bracket) → is_refused bracket ≡ false → is_refused (cond b Neither bracket) ≡ false
not_refused true bracket e = refl
not_refused false bracket e = e

-- without a mark before it, no record is a refused send
pub none_refused : (kind : Kind) (oneway : Bool) → is_refused (bracket_of None kind oneway) ≡ false
none_refused BcTransaction oneway = not_refused (oneway) Call refl
none_refused BcTransactionSg oneway = not_refused (oneway) Call refl
none_refused BrTransaction oneway = not_refused (oneway) Served refl
none_refused BrTransactionSecCtx oneway = not_refused (oneway) Served refl
none_refused _ oneway = refl

-- an error reply leaves a mark
pub error_marks : (kind : Kind) (oneway : Bool) → is_error (bracket_of None kind oneway) ≡ true → is_some (mark_of kind oneway) ≡ true
error_marks BcTransaction oneway e = refl
error_marks BcTransactionSg oneway e = refl
error_marks BrTransaction oneway e = absurd (not_both _ (no_error oneway Served refl) e)
error_marks BrTransactionSecCtx oneway e = absurd (not_both _ (no_error oneway Served refl) e)
error_marks BrDeadReply oneway e = refl
error_marks BrFailedReply oneway e = refl
error_marks BrFrozenReply oneway e = refl
error_marks _ oneway e = absurd cc
