use Rattle.std.proofs.Common.{Result, ap, ◌∙◌}
use Rattle.std.specs.Result.{result_unwrap_or}
use Rattle.binder_code.specs.Commands.{kind_of}
use Rattle.binder_code.specs.declared.code.CodeFault.{CodeFault}
use Rattle.binder_code.specs.declared.protocol.Protocol.{Protocol}
use Rattle.binder_code.specs.declared.record_kind.Kind.{Kind}
use Rattle.binder_code.specs.declared.record_kind.Kind.TheVariants.{Opaque}
use Rattle.binder_code.proofs.WordKinds.{kind_by_word}
use Rattle.report_text.proofs.codes.kind_of_word.Goals as goal

pub returns : goal.returns
returns c =
    let meant = c.kind.ensures.exact ∙ ap (λ (p : Protocol). kind_of p c.args.word) c.protocol_of.ensures in
    c.unwrap_or.ensures ∙ ap (λ (found : Result Kind CodeFault). result_unwrap_or found Opaque) meant ∙ kind_by_word c.args.word
