-- Strong and weak references: a record changes the count of one strength alone (docs/REPORT.md).
use Rattle.event_core.specs.declared.strength.Strength.{Strength}
use Rattle.event_core.specs.declared.strength.Strength.TheVariants.{Strong, Weak}
use Rattle.summary_law.specs.Count.{Change, keeps}

-- what a change of the second strength does to the count of the first: nothing if they differ
abbrev pub change_of : Strength → Strength → Change → Change
change_of Strong Strong change = change
change_of Strong Weak change = keeps
change_of Weak Strong change = keeps
change_of Weak Weak change = change
