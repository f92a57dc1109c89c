-- What an item does to a count of one key (docs/REPORT.md).
use Rattle.std.specs.Prelude.{if◌then◌else◌}
use Rattle.std.specs.Ordering.{eq_by_cmp}
use Rattle.std.specs.declared.cmp.Ordering.{Ordering}
use Rattle.summary_law.specs.Count.{Change, keeps}

-- what an item does to a count of the key: nothing if the item is of another key
abbrev pub change_at : {K I : Type 0} → (K → K → Ordering) → (I → Change) → K → K × I → Change
change_at cmp change key item = if eq_by_cmp cmp key item.0 then change item.1 else keeps
