-- Captures that are cut.
use Rattle.std.specs.Prelude.{◌≡◌, ℕ, ◌+◌, ◌-◌, List, [], ◌∷◌, length, map, take, replicate}
use Rattle.std.specs.List.{range_with_len}
use Rattle.report_text.specs.Answers.{answer}

-- the text that is written of the first `length` bytes of the capture, for each length from `first` to `last`
abbrev pub answers_to_cuts : (first last : ℕ) → List ℕ → List (List ℕ)
answers_to_cuts first last capture =
    map (λ length. answer (take length capture ∷ [])) (range_with_len first (last + 1 - first))

-- it is the same text for each of them
abbrev pub EachCutGives : (first last : ℕ) → List ℕ → List ℕ → Type 0
EachCutGives first last capture text = answers_to_cuts first last capture ≡ replicate (last + 1 - first) text

-- the text begins with these bytes
abbrev pub BeginsWith : List ℕ → List ℕ → Type 0
BeginsWith bytes text = take (length bytes) text ≡ bytes
