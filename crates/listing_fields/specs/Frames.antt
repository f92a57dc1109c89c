-- What a frame and a record say.
use Rattle.std.specs.Prelude.{Bool, true, false}
use Rattle.binder_code.specs.declared.record_kind.Kind.{Kind}
use Rattle.binder_code.specs.declared.record_kind.Kind.TheVariants.{BcReply, BcReplySg, BrReply}
use Rattle.capture_frame.specs.declared.process.Thread.{Thread}
use Rattle.capture_frame.specs.Envelope.{PlacedFrame}
use Rattle.capture_frame.specs.Process.{process_of_frame}

-- the thread of a frame
abbrev pub thread_of : PlacedFrame → Thread
thread_of frame = record { process = process_of_frame frame.unit; number = frame.unit.thread }

-- whether records of a kind are replies
abbrev pub is_reply : Kind → Bool
is_reply BcReply = true
is_reply BcReplySg = true
is_reply BrReply = true
is_reply _ = false
