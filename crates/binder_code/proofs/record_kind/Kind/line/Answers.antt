use Rattle.binder_code.proofs.LinesOfKinds.{column}
use Rattle.binder_code.proofs.record_kind.Kind.line.Goals as goal

pub returns-clause-word : goal.returns-clause-word
returns-clause-word c =
    column (λ line. line.word) (λ row. row.word) c.all.result.now c.all.ensures.words c.args.self c.place.result c.place.ensures c.get.result
    c.get.ensures.lookup

pub returns-clause-name : goal.returns-clause-name
returns-clause-name c =
    column (λ line. line.name.now) (λ row. row.name) c.all.result.now c.all.ensures.names c.args.self c.place.result c.place.ensures c.get.result
    c.get.ensures.lookup
