use Rattle.std.proofs.Common.{◌≡◌, [], ◌∷◌, ◌++◌, rules}
use Rattle.audit_run.proofs.RunLaws.{open_next}
use Rattle.audit_run.proofs.answers.open_files.Goals as goal

pub loop-file-preserved : goal.loop-file-preserved
loop-file-preserved g c =
    let opened : c.push.new.self.items ≡ c.loop-file.opened.items ++ c.in_ok-reader.reader ∷ [] = search rules in
    rw opened (open_next (λ file. file.now) (g.S.Store.bytes_of c.args.store.now) g.S.Part.Read.remaining c.args.files.now c.loop-file.opened.items
    c.in_ok-reader.reader c.loop-file.file-index _ c.loop-file-test.true c.loop-file.invariant c.in_ok-reader.ensures.left)
