use Rattle.std.specs.Prelude.{◌≡◌, ◌==◌, Bool, Ok, IfSome, IsTrue, refl}
use Rattle.std.specs.List.{list_all}
use Rattle.binder_code.specs.Commands.{Row, command_lines, return_lines, lines, row_of, word_of, kind_of}
use Rattle.binder_code.specs.declared.record_kind.Kind.{Kind}
use Rattle.binder_code.specs.declared.record_kind.Kind.TheVariants.{Opaque}

-- whether the line's code word is the one that the header's macros compute
abbrev pub has_own_word : Row → Bool
has_own_word row = row.word == word_of row

-- each line's code word is the one that the header's macros compute
abbrev pub MakesStatedWords : Type 0
MakesStatedWords = IsTrue (list_all has_own_word lines)

-- they are
pub words-stated : MakesStatedWords
unfolding command_lines return_lines
words-stated = refl

-- a listed kind's code word means that kind in a frame of its protocol
abbrev pub MeansItsKind : Kind → Type 0
MeansItsKind kind = IfSome (row_of kind) (λ row. kind_of row.protocol row.word ≡ Ok kind)

-- the code word of every listed kind does
pub kind_of-word : (kind : Kind) → MeansItsKind kind
unfolding command_lines return_lines
kind_of-word Opaque = tt
kind_of-word _ = refl
