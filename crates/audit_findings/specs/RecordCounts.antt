-- The first numbers of the heads from `buffers` to `clears`: how many records of the kind there are, by their code
-- words (docs/REPORT.md).
use Rattle.std.specs.Prelude.{◌+◌, ℕ, List, count_by}
use Rattle.binder_code.specs.Commands.{is_word_of}
use Rattle.binder_code.specs.declared.record_kind.Kind.{Kind}
use Rattle.binder_code.specs.declared.record_kind.Kind.TheVariants.{BcFreeBuffer, BcRequestDeathNotification, BcClearDeathNotification, BrTransaction, BrTransactionSecCtx, BrReply, BrDeadBinder}
use Rattle.audit_findings.specs.declared.record_counts.RecordCounts.{RecordCounts}

-- how many of these code words are the kind's
abbrev pub times : Kind → List ℕ → ℕ
times kind words = count_by (is_word_of kind) words

-- how many of these code words are those of deliveries, frees, requests, deaths and clears
abbrev pub record_counts : List ℕ → RecordCounts
record_counts words = record {
  deliveries = times BrTransaction words + times BrTransactionSecCtx words + times BrReply words;
  frees = times BcFreeBuffer words;
  requests = times BcRequestDeathNotification words;
  deaths = times BrDeadBinder words;
  clears = times BcClearDeathNotification words;
}
