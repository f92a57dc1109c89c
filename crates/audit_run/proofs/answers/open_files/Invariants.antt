use Rattle.std.proofs.Common.{map, take}
use Rattle.std.specs.List.{AllZip}
use Rattle.audit_run.specs.Store.{HasLeft}
use Rattle.audit_run.proofs.answers.open_files.Given as goal

-- a file is open for each name so far, and has left what is known of it
abbrev pub invariant-loop-file : goal.invariant-loop-file
invariant-loop-file g l =
    AllZip HasLeft (map (g.S.Store.bytes_of l.store) (map (λ file. file.now) (take l.file-index l.fn.files)))
    (map g.S.Part.Read.remaining l.opened.items)
