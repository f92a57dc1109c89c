use Rattle.std.specs.Prelude.{◌≡◌, ℕ, ◌+◌, ◌*◌, ◌^◌, ◌==◌, ◌&&◌, Bool, true, false, if◌then◌else◌, List, [], ◌∷◌, ◌++◌, Option, Some, None, Result, Ok, Err, IsSomeAnd, find, option_map, codes}
use Rattle.std.specs.List.{list_any}
use Rattle.std.specs.Option.{option_map_or, unwrap_or}
use Rattle.binder_code.specs.Code.{number, letter, size, direction}
use Rattle.binder_code.specs.contracts.record_kind.Kind.{the_type}
use Rattle.binder_code.specs.declared.protocol.Protocol.{Protocol}
use Rattle.binder_code.specs.declared.protocol.Protocol.TheVariants.{Command, Return}
use Rattle.binder_code.specs.declared.code.CodeFault.{CodeFault}
use Rattle.binder_code.specs.declared.code.CodeFault.TheVariants.{Direction, Size}
use Rattle.binder_code.specs.declared.record_kind.Kind.{Kind}
use Rattle.binder_code.specs.declared.record_kind.Kind.TheVariants.{BcTransaction, BcReply, BcAcquireResult, BcFreeBuffer, BcIncrefs, BcAcquire, BcRelease, BcDecrefs, BcIncrefsDone, BcAcquireDone, BcAttemptAcquire, BcRegisterLooper, BcEnterLooper, BcExitLooper, BcRequestDeathNotification, BcClearDeathNotification, BcDeadBinderDone, BcTransactionSg, BcReplySg, BrError, BrOk, BrTransaction, BrTransactionSecCtx, BrReply, BrAcquireResult, BrDeadReply, BrTransactionComplete, BrIncrefs, BrAcquire, BrRelease, BrDecrefs, BrAttemptAcquire, BrNoop, BrSpawnLooper, BrFinished, BrDeadBinder, BrClearDeathNotificationDone, BrFailedReply, BrFrozenReply, BrOnewaySpamSuspect, BrTransactionPendingFrozen, Opaque}
use denote.Enum.Bare.{sameb}

-- a line of one of the header's two tables: its protocol, its kind, its number, the size of its payload in bytes, its
-- code word and its name (`linux/android/binder.h`)
pub record Row : Type 0 where
  pub protocol : Protocol
  pub kind : Kind
  pub number : ℕ
  pub size : ℕ
  pub word : ℕ
  pub name : List ℕ

-- a line of `binder_driver_command_protocol` (`linux/android/binder.h`)
abbrev pub command_row : Kind → ℕ → ℕ → ℕ → List ℕ → Row
command_row means n bytes code text =
    record { protocol = Command; kind = means; number = n; size = bytes; word = code; name = text }

-- a line of `binder_driver_return_protocol` (`linux/android/binder.h`)
abbrev pub return_row : Kind → ℕ → ℕ → ℕ → List ℕ → Row
return_row means n bytes code text =
    record { protocol = Return; kind = means; number = n; size = bytes; word = code; name = text }

-- the commands that `linux/android/binder.h` of Linux 6.11 lists (docs/COMMANDS.md)
unfoldable pub command_lines : List Row
command_lines =
    command_row BcTransaction 0 64 0x40406300 (codes "BC_TRANSACTION") ∷
    command_row BcReply 1 64 0x40406301 (codes "BC_REPLY") ∷
    command_row BcAcquireResult 2 4 0x40046302 (codes "BC_ACQUIRE_RESULT") ∷
    command_row BcFreeBuffer 3 8 0x40086303 (codes "BC_FREE_BUFFER") ∷
    command_row BcIncrefs 4 4 0x40046304 (codes "BC_INCREFS") ∷
    command_row BcAcquire 5 4 0x40046305 (codes "BC_ACQUIRE") ∷
    command_row BcRelease 6 4 0x40046306 (codes "BC_RELEASE") ∷
    command_row BcDecrefs 7 4 0x40046307 (codes "BC_DECREFS") ∷
    command_row BcIncrefsDone 8 16 0x40106308 (codes "BC_INCREFS_DONE") ∷
    command_row BcAcquireDone 9 16 0x40106309 (codes "BC_ACQUIRE_DONE") ∷
    command_row BcAttemptAcquire 10 8 0x4008630a (codes "BC_ATTEMPT_ACQUIRE") ∷
    command_row BcRegisterLooper 11 0 0x0000630b (codes "BC_REGISTER_LOOPER") ∷
    command_row BcEnterLooper 12 0 0x0000630c (codes "BC_ENTER_LOOPER") ∷
    command_row BcExitLooper 13 0 0x0000630d (codes "BC_EXIT_LOOPER") ∷
    command_row BcRequestDeathNotification 14 12 0x400c630e (codes "BC_REQUEST_DEATH_NOTIFICATION") ∷
    command_row BcClearDeathNotification 15 12 0x400c630f (codes "BC_CLEAR_DEATH_NOTIFICATION") ∷
    command_row BcDeadBinderDone 16 8 0x40086310 (codes "BC_DEAD_BINDER_DONE") ∷
    command_row BcTransactionSg 17 72 0x40486311 (codes "BC_TRANSACTION_SG") ∷
    command_row BcReplySg 18 72 0x40486312 (codes "BC_REPLY_SG") ∷
    []

-- the returns that `linux/android/binder.h` of Linux 6.11 lists; two of them have the number 2 (docs/COMMANDS.md)
unfoldable pub return_lines : List Row
return_lines =
    return_row BrError 0 4 0x80047200 (codes "BR_ERROR") ∷
    return_row BrOk 1 0 0x00007201 (codes "BR_OK") ∷
    return_row BrTransaction 2 64 0x80407202 (codes "BR_TRANSACTION") ∷
    return_row BrTransactionSecCtx 2 72 0x80487202 (codes "BR_TRANSACTION_SEC_CTX") ∷
    return_row BrReply 3 64 0x80407203 (codes "BR_REPLY") ∷
    return_row BrAcquireResult 4 4 0x80047204 (codes "BR_ACQUIRE_RESULT") ∷
    return_row BrDeadReply 5 0 0x00007205 (codes "BR_DEAD_REPLY") ∷
    return_row BrTransactionComplete 6 0 0x00007206 (codes "BR_TRANSACTION_COMPLETE") ∷
    return_row BrIncrefs 7 16 0x80107207 (codes "BR_INCREFS") ∷
    return_row BrAcquire 8 16 0x80107208 (codes "BR_ACQUIRE") ∷
    return_row BrRelease 9 16 0x80107209 (codes "BR_RELEASE") ∷
    return_row BrDecrefs 10 16 0x8010720a (codes "BR_DECREFS") ∷
    return_row BrAttemptAcquire 11 24 0x8018720b (codes "BR_ATTEMPT_ACQUIRE") ∷
    return_row BrNoop 12 0 0x0000720c (codes "BR_NOOP") ∷
    return_row BrSpawnLooper 13 0 0x0000720d (codes "BR_SPAWN_LOOPER") ∷
    return_row BrFinished 14 0 0x0000720e (codes "BR_FINISHED") ∷
    return_row BrDeadBinder 15 8 0x8008720f (codes "BR_DEAD_BINDER") ∷
    return_row BrClearDeathNotificationDone 16 8 0x80087210 (codes "BR_CLEAR_DEATH_NOTIFICATION_DONE") ∷
    return_row BrFailedReply 17 0 0x00007211 (codes "BR_FAILED_REPLY") ∷
    return_row BrFrozenReply 18 0 0x00007212 (codes "BR_FROZEN_REPLY") ∷
    return_row BrOnewaySpamSuspect 19 0 0x00007213 (codes "BR_ONEWAY_SPAM_SUSPECT") ∷
    return_row BrTransactionPendingFrozen 20 0 0x00007214 (codes "BR_TRANSACTION_PENDING_FROZEN") ∷
    []

-- the lines of a protocol
abbrev pub lines_of : Protocol → List Row
lines_of Command = command_lines
lines_of Return = return_lines

-- the lines of both protocols
abbrev pub lines : List Row
lines = command_lines ++ return_lines

-- whether a line is the kind's
abbrev pub is_kind : Kind → Row → Bool
is_kind kind row = sameb the_type row.kind kind

-- a kind's line; an opaque record has none
abbrev pub row_of : Kind → Option Row
row_of kind = find (is_kind kind) lines

-- a kind's name: the header's own (`linux/android/binder.h`), or `OPAQUE` for an opaque record
abbrev pub name_of : Kind → List ℕ
name_of kind = unwrap_or (option_map (λ row. row.name) (row_of kind)) (codes "OPAQUE")

-- the letter of a protocol's codes, `c` or `r` (`linux/android/binder.h`)
abbrev pub letter_of : Protocol → ℕ
letter_of Command = 0x63
letter_of Return = 0x72

-- the direction bits of a code word with a payload: 1 for a command, 2 for a return (`asm-generic/ioctl.h`)
abbrev pub payload_direction : Protocol → ℕ
payload_direction Command = 1
payload_direction Return = 2

-- the direction bits of a code word with so many payload bytes: 0 if there are none (`asm-generic/ioctl.h`)
abbrev pub direction_of : Protocol → ℕ → ℕ
direction_of protocol bytes = if bytes == 0 then 0 else payload_direction protocol

-- the code word that the header's macros compute for a line: direction × 2^30 + size × 2^16 + letter × 2^8 + number
-- (`asm-generic/ioctl.h`, `_IOC`)
abbrev pub word_of : Row → ℕ
word_of row =
    direction_of row.protocol row.size * 2 ^ 30 + row.size * 2 ^ 16 + letter_of row.protocol * 2 ^ 8 + row.number

-- a code word is of the protocol: its letter is the protocol's, and its direction bits go with its size
-- (`asm-generic/ioctl.h`)
pub record IsOfProtocol (protocol : Protocol) (code : ℕ) : Type 0 where
  pub right_letter : letter code ≡ letter_of protocol
  pub right_direction : direction code ≡ direction_of protocol (size code)

-- the kind's line is of this protocol and has the code word's number and size (`linux/android/binder.h`)
abbrev pub HasCode : Kind → Protocol → ℕ → Type 0
HasCode kind protocol code =
    IsSomeAnd (row_of kind) (λ row. (row.protocol ≡ protocol) × (row.number ≡ number code) × (row.size ≡ size code))

-- the protocol lists the code word's number with its size (`linux/android/binder.h`)
abbrev pub ListsCode : Protocol → ℕ → Type 0
ListsCode protocol code = (kind : Kind) × HasCode kind protocol code

-- the protocol lists this number (`linux/android/binder.h`)
abbrev pub ListsNumber : Protocol → ℕ → Type 0
ListsNumber protocol n =
    (kind : Kind) × IsSomeAnd (row_of kind) (λ row. (row.protocol ≡ protocol) × (row.number ≡ n))

-- whether a code word has the protocol's letter, and the direction bits that go with its size (`asm-generic/ioctl.h`)
abbrev pub is_of : Protocol → ℕ → Bool
is_of protocol code = (letter code == letter_of protocol) && (direction code == direction_of protocol (size code))

-- whether a line has this number
abbrev pub has_number : ℕ → Row → Bool
has_number n row = row.number == n

-- whether a line has this number and this size
abbrev pub has_size : ℕ → ℕ → Row → Bool
has_size n bytes row = has_number n row && (row.size == bytes)

-- the kind if one was found; otherwise Size if the number is listed, and Opaque if it is not
abbrev pub judged : Option Kind → Bool → Result Kind CodeFault
judged (Some kind) numbered = Ok kind
judged None true = Err Size
judged None false = Ok Opaque

-- what a number and a payload size of the protocol mean: the kind that is listed with both; or Size, if the number is
-- listed, but not with this size; or Opaque, if the number is not listed (`linux/android/binder.h`)
abbrev pub listing_of : Protocol → ℕ → ℕ → Result Kind CodeFault
listing_of protocol n bytes =
    judged (option_map (λ row. row.kind) (find (has_size n bytes) (lines_of protocol)))
    (list_any (has_number n) (lines_of protocol))

-- what a code word means in a frame of the protocol: Direction, if its letter or its direction bits are not the
-- protocol's; otherwise what its number and its size mean (`linux/android/binder.h`)
abbrev pub kind_of : Protocol → ℕ → Result Kind CodeFault
kind_of protocol code =
    if is_of protocol code then listing_of protocol (number code) (size code) else Err Direction

-- the protocol that the letter of a code word names: commands for `c`, returns for any other letter. So a good code
-- word says its kind by itself.
abbrev pub protocol_of_word : ℕ → Protocol
protocol_of_word word = if letter word == letter_of Command then Command else Return

-- whether the line has this code word
abbrev pub has_word : ℕ → Row → Bool
has_word word row = word == row.word

-- whether the code word is that of the kind's line; no code word is that of an opaque record
abbrev pub is_word_of : Kind → ℕ → Bool
is_word_of kind word = option_map_or (has_word word) (row_of kind) false

-- the kind of a record with this code word: the listed kind whose code word it is, or Opaque, if no listed kind has it.
-- The code word of a good record has the letter of its protocol, so `kind_of` gives the same kind in its frame.
abbrev pub kind_of_word : ℕ → Kind
kind_of_word word = option_map_or (λ row. row.kind) (find (has_word word) lines) Opaque
