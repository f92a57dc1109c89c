-- What a request names.
use Rattle.std.specs.Prelude.{ℕ, List, map}
use Rattle.audit_words.specs.declared.request.Request.{Request}

-- the names of the files of a request, in order
abbrev pub names_of : Request → List (List ℕ)
names_of request = map (λ file. file.now) request.files.now
