use Rattle.std.proofs.Common.{Result, Ok, length, get_or, sym, ap, ◌∙◌}
use Rattle.std.proofs.lemmas.Bool.{ltb-true}
use Rattle.std.proofs.lemmas.List.{get_or-map}
use Rattle.binder_code.specs.Commands.{kind_of}
use Rattle.binder_code.specs.declared.code.CodeFault.{CodeFault}
use Rattle.binder_code.specs.declared.record_kind.Kind.{Kind}
use Rattle.binder_code.specs.declared.record_kind.Line.{Line}
use Rattle.binder_code.proofs.judge.kind_at.Goals as goal

pub returns-in-Some : goal.returns-in-Some
returns-in-Some c =
    let lines = c.lines.result.now in
    let place = c.args.place in
    let line = c.in-Some.line.now in
    let within = ltb-true place (length lines) (sym c.in-Some.ensures.lookup.0) in
    let meaning : Line → Result Kind CodeFault = λ line. kind_of c.args.protocol line.word in
    let due : Line → Result Kind CodeFault = λ line. Ok line.kind in
    ap (λ word. kind_of c.args.protocol word) (sym c.if-line-code.true) ∙ ap meaning c.in-Some.ensures.lookup.1
    ∙ sym (get_or-map meaning lines place line (due line) within) ∙ ap (λ kinds. get_or kinds place (due line)) c.lines.ensures.meant
    ∙ get_or-map due lines place line (due line) within ∙ ap due (sym c.in-Some.ensures.lookup.1)
