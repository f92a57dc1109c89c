-- The section `flags`: transactions and replies with unknown flags, which the header does not name (docs/REPORT.md).
use Rattle.std.specs.Prelude.{ℕ, ◌==◌, if◌then◌else◌, Bool, true, false, List, filter}
use Rattle.binder_code.specs.Flags.{unknown_of}
use Rattle.transaction_view.specs.Transaction.{has_transaction_data, flags}
use Rattle.event_core.specs.Events.{EventRead}

-- the unknown flags of a transaction or a reply: the bits of its flags word outside 0x7d; 0 for any other record
abbrev pub unknown_flags : EventRead → ℕ
unknown_flags e = if has_transaction_data e.kind then unknown_of (flags e.payload) else 0

-- whether the record has unknown flags
abbrev pub has_unknown_flags : EventRead → Bool
has_unknown_flags e = if unknown_flags e == 0 then false else true

-- the section: the events with unknown flags
abbrev pub flagged : List EventRead → List EventRead
flagged events = filter has_unknown_flags events
