-- What a row of `handles` says, in counts of records over all events and of objects in outstanding deliveries
-- (docs/REPORT.md). By a law, the findings have the same rows.
use Rattle.std.specs.Prelude.{◌≡◌, ◌==◌, ◌<◌, ◌+◌, ℕ, ℤ, ◌&&◌, ◌||◌, not, Bool, true, false, List, count_by, filter, nat_lt}
use Rattle.std.specs.List.{list_any}
use Rattle.binder_code.specs.declared.record_kind.Kind.{Kind}
use Rattle.binder_code.specs.declared.record_kind.Kind.TheVariants.{BcAcquire, BcDecrefs, BcFreeBuffer, BcIncrefs, BcRelease, BrReply, BrTransaction, BrTransactionSecCtx}
use Rattle.capture_frame.specs.Envelope.{number_at}
use Rattle.capture_frame.specs.Process.{same_process}
use Rattle.capture_frame.specs.declared.process.Process.{Process}
use Rattle.event_core.specs.Events.{EventRead, process_of}
use Rattle.event_core.specs.declared.strength.Strength.{Strength}
use Rattle.event_core.specs.declared.strength.Strength.TheVariants.{Strong, Weak}
use Rattle.handle_ledger.specs.declared.held_row.HeldRow.{HeldRow}
use Rattle.object_view.specs.declared.sort.Sort.{Sort}
use Rattle.object_view.specs.declared.sort.Sort.TheVariants.{Handle, WeakHandle}
use Rattle.transaction_view.specs.Transaction.{buffer}
use Rattle.audit_findings.specs.EventCounts.{HasValue, difference_in, times_in}
use Rattle.audit_findings.specs.Objects.{good_objects, same_sort}

-- whether a record takes a reference of this strength by handle: BC_ACQUIRE a strong one, BC_INCREFS a weak one
abbrev pub takes : Strength → Kind → Bool
takes Strong BcAcquire = true
takes Weak BcIncrefs = true
takes _ _ = false

-- whether it gives one back: BC_RELEASE a strong one, BC_DECREFS a weak one
abbrev pub gives_back : Strength → Kind → Bool
gives_back Strong BcRelease = true
gives_back Weak BcDecrefs = true
gives_back _ _ = false

-- whether it is one of these four
abbrev pub changes_handle : Kind → Bool
changes_handle kind = takes Strong kind || takes Weak kind || gives_back Strong kind || gives_back Weak kind

-- whether the event is of a kind that passes the test, and names the handle
abbrev pub names_handle : (Kind → Bool) → ℕ → EventRead → Bool
names_handle test handle e = test e.kind && number_at 4 0 e.payload == handle

-- how many references of this strength to the handle the process takes in these events, less how many it gives back
abbrev pub handle_value : Process → ℕ → Strength → List EventRead → ℤ
handle_value process handle strength events =
    difference_in process (names_handle (takes strength) handle) (names_handle (gives_back strength) handle) events

-- whether a record delivers a buffer
abbrev pub delivers : Kind → Bool
delivers BrTransaction = true
delivers BrTransactionSecCtx = true
delivers BrReply = true
delivers _ = false

-- whether a record frees one
abbrev pub frees : Kind → Bool
frees BcFreeBuffer = true
frees _ = false

-- whether the event frees the buffer at this address, for this process and after this place
abbrev pub frees_after : Process → ℕ → ℕ → EventRead → Bool
frees_after process address place e =
    same_process process (process_of e) && (frees e.kind && number_at 8 0 e.payload == address && nat_lt place e.place)

-- whether the event is an outstanding delivery of the process: one whose address none of these events frees after it
abbrev pub is_outstanding : List EventRead → Process → EventRead → Bool
is_outstanding events process e =
    same_process process (process_of e)
    && (delivers e.kind && not (list_any (frees_after process (buffer e.payload) e.place) events))

-- how many good objects of this sort, with this handle, the attachments of the outstanding deliveries of the process have
abbrev pub held_objects : List EventRead → Process → Sort → ℕ → ℕ
held_objects events process sort handle =
    count_by (λ o. same_sort o.sort sort && number_at 4 8 o.bytes == handle)
    (good_objects (filter (is_outstanding events process) events))

-- The row is one of the process: one of its events names the handle, or one of its outstanding deliveries holds it. The
-- counts and lows are those of all events, and what is held is that of all attachments.
pub record IsHandleRow (events : List EventRead) (process : Process) (row : HeldRow) : Type 0 where
  pub listed : 0 < times_in process (names_handle changes_handle row.handle) events + row.held_strong + row.held_weak
  pub strong : HasValue (handle_value process row.handle Strong) events row.taken.strong
  pub weak : HasValue (handle_value process row.handle Weak) events row.taken.weak
  pub held_strong : row.held_strong ≡ held_objects events process Handle row.handle
  pub held_weak : row.held_weak ≡ held_objects events process WeakHandle row.handle
