-- What is noted and made known of the nodes that generations mean (docs/DATABASE.md#send).
use Rattle.std.specs.Prelude.{◌≡◌, ◌≤◌, ◌⊎◌, ℕ, zero, suc, Bool, false, List, [], ◌∷◌, ◌++◌, Some, map, slice_get, slice_set}
use Rattle.listing_tables.specs.declared.generations.Generation.{Generation}
use Rattle.listing_tables.specs.declared.handed.Handed.{Handed}
use Rattle.listing_tables.specs.declared.handed.Object.{Object}
use Rattle.listing_tables.specs.declared.handed.Object.TheVariants.{Own, Of}
use Rattle.listing_tables.specs.declared.meanings.Known.{Known}
use Rattle.listing_tables.specs.declared.meanings.Known.TheVariants.{Nothing, One}
use Rattle.listing_tables.specs.declared.meanings.Meaning.{Meaning}
use Rattle.listing_tables.specs.declared.meanings.Meanings.{Meanings}
use Rattle.listing_tables.specs.declared.seen.Seen.{Seen}
use Rattle.listing_tables.specs.Certainty.{IsIn}
use Rattle.listing_tables.specs.Gaps.{AreGapsBefore}
use Rattle.listing_tables.specs.Learning.{IsPastGap, known_of_two}

-- each of these generations begins after as many gaps as are kept of it, and nothing is noted or known of its node
abbrev pub BeginsEach : Seen → List Meaning → List Meaning → List Generation → Type 0
BeginsEach seen old new [] = new ≡ old
BeginsEach seen old new (generation ∷ generations) =
    (count : ℕ) × AreGapsBefore seen generation.begin count
    × BeginsEach seen (old ++ (record { gaps = count; known = Nothing; learnt = Nothing }) ∷ []) new generations

-- this is noted of the generation at an index, beside what was noted before, and nothing of any other one
pub record LearnsKnown (old new : List Meaning) (index : ℕ) (other : Known) : Type 0 where
  pub before : Meaning
  pub there : slice_get old index ≡ Some before
  pub are : new ≡ slice_set old index (record before { learnt = known_of_two before.learnt other })

-- what was noted of the generation at an index is known
pub record MakesKnown (old new : List Meaning) (index : ℕ) : Type 0 where
  pub before : Meaning
  pub there : slice_get old index ≡ Some before
  pub are : new ≡ slice_set old index (record before { known = before.learnt })

-- What was noted of one of two generations is noted of the other one too, and the other way round. Both mean the same.
pub record SpreadsOne (old new : List Meaning) (one other : ℕ) : Type 0 where
  pub first : Meaning
  pub there : slice_get old one ≡ Some first
  pub between : List Meaning
  pub onward : LearnsKnown old between other first.learnt
  pub second : Meaning
  pub here : slice_get between other ≡ Some second
  pub back : LearnsKnown between new one second.learnt

-- so it is of each of these pairs, one after another
abbrev pub SpreadsEach : List Meaning → List Meaning → List (ℕ × ℕ) → Type 0
SpreadsEach old new [] = new ≡ old
SpreadsEach old new (pair ∷ pairs) =
    (between : List Meaning) × SpreadsOne old between pair.0 pair.1 × SpreadsEach between new pairs

-- so it is time after time, so many times
abbrev pub SpreadsTimes : List Meaning → List Meaning → List (ℕ × ℕ) → ℕ → Type 0
SpreadsTimes old new pairs zero = new ≡ old
SpreadsTimes old new pairs (suc times) =
    (between : List Meaning) × SpreadsTimes old between pairs times × SpreadsEach between new pairs

-- what was noted is spread over these pairs until once more changes nothing, or sixteen times
pub record SpreadsAll (old new : List Meaning) (pairs : List (ℕ × ℕ)) : Type 0 where
  pub times : ℕ
  pub few : times ≤ 16
  pub spreads : SpreadsTimes old new pairs times
  pub done : (times ≡ 16) ⊎ SpreadsEach new new pairs

-- a meaning of which all that was noted is known
abbrev pub made_known : Meaning → Meaning
made_known meaning = record meaning { known = meaning.learnt }

-- What was noted of all generations, and is spread over these pairs of them, is known. If it is said that this is no more
-- than before, all that is noted was known.
pub record MakesAllKnown (old new : List Meaning) (pairs : List (ℕ × ℕ)) (more : Bool) : Type 0 where
  pub between : List Meaning
  pub spreads : SpreadsAll old between pairs
  pub known : new ≡ map made_known between
  pub same : more ≡ false → new ≡ between

-- it is noted that a generation means a node, unless more or fewer gaps come before its begin than these
abbrev pub LearnsNode : Meanings → Meanings → ℕ → ℕ → ℕ → Type 0
LearnsNode old new generation gaps node =
    (IsPastGap old generation gaps × (new ≡ old))
    ⊎ (LearnsKnown old.list.all.items new.list.all.items generation (One node) × (new.same ≡ old.same))

-- it is noted that two generations mean the same node, unless more or fewer gaps come before the begin of one of them
abbrev pub LearnsSame : Meanings → Meanings → ℕ × ℕ → ℕ × ℕ → Type 0
LearnsSame old new one other =
    (IsPastGap old one.0 one.1 × (new ≡ old)) ⊎ (IsPastGap old other.0 other.1 × (new ≡ old))
    ⊎ ((new.same.all.items ≡ old.same.all.items ++ (one.0, other.0) ∷ []) × (new.list ≡ old.list))

-- An object is one node to the process that hands it over after so many gaps, and to the one that gets it after so many.
-- What only one of the two knows as its own is noted of the handle of the other one.
abbrev pub LearnsObject : Meanings → Meanings → Object → ℕ → Object → ℕ → Type 0
LearnsObject old new (Own node) before (Own other) after = new ≡ old
LearnsObject old new (Own node) before (Of reference) after = LearnsNode old new reference.generation after node
LearnsObject old new (Of reference) before (Own node) after = LearnsNode old new reference.generation before node
LearnsObject old new (Of one) before (Of other) after = LearnsSame old new (one.generation, before) (other.generation, after)

-- so it is of an object that is handed over and one with the same number that comes, or nothing is noted
abbrev pub LearnsOne : Meanings → Meanings → Handed → ℕ → List Handed → ℕ → Type 0
LearnsOne old new one before others after =
    (new ≡ old)
    ⊎ ((other : Handed) × IsIn others other × (other.number ≡ one.number)
    × LearnsObject old new one.object before other.object after)

-- so it is of each of these objects, one after another
abbrev pub LearnsEach : Meanings → Meanings → List Handed → ℕ → List Handed → ℕ → Type 0
LearnsEach old new [] before others after = new ≡ old
LearnsEach old new (one ∷ objects) before others after =
    (between : Meanings) × LearnsOne old between one before others after × LearnsEach between new objects before others after
