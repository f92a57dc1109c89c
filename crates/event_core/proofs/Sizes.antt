-- The length of the payloads that the steps read.
use Rattle.std.proofs.Common.{◌≡◌, ℕ, Option, Some, None, refl, subst, ◌∙◌}
use Rattle.std.specs.Option.{ForSome, option_map}
use Rattle.binder_code.specs.declared.record_kind.Kind.{Kind}
use Rattle.binder_code.specs.declared.record_kind.Kind.TheVariants.{BcAcquire, BcRelease, BcIncrefs, BcDecrefs, BrAcquire, BrRelease, BrIncrefs, BrDecrefs, BcAcquireDone, BcIncrefsDone, BrDeadBinder, BcDeadBinderDone}
use Rattle.binder_code.specs.Commands.{Row, command_lines, return_lines, row_of}
use Rattle.event_core.specs.declared.handle.HandleChange.{HandleChange}
use Rattle.event_core.specs.declared.node.NodeChange.{NodeChange}
use Rattle.event_core.specs.declared.pending.PendingChange.{PendingChange}
use Rattle.event_core.specs.declared.strength.Strength.{Strength}
use Rattle.event_core.specs.Handles.{handle_effect}
use Rattle.event_core.specs.Nodes.{node_effect}
use Rattle.event_core.specs.Deaths.{death_change}

-- the payload of this kind is as long as the header's line says
abbrev pub IsSized : Kind → ℕ → Type 0
IsSized kind n = ForSome (row_of kind) (λ row. n ≡ row.size)

row_sized : (line : Option Row) (n size : ℕ) → option_map (λ row. row.size) line ≡ Some size → ForSome line (λ row. n ≡ row.size) → n ≡ size
row_sized None n size listed sized = let wrong : None ≡ Some size = listed in cc
row_sized (Some row) n size listed sized =
    let same : row.size ≡ size = let some : Some row.size ≡ Some size = listed in cc in
    sized row refl ∙ same

-- the payload of a known kind is as long as the header's line says
pub sized_as : (kind known : Kind) (n size : ℕ) → kind ≡ known → option_map (λ row. row.size) (row_of known) ≡ Some size → IsSized kind n → n ≡ size
sized_as kind known n size is listed sized = row_sized (row_of known) n size listed (subst (λ (k : Kind). IsSized k n) is sized)

pub handle_sized : (kind : Kind) (n : ℕ) (effect : Strength × HandleChange) → handle_effect kind ≡ Some effect → IsSized kind n → n ≡ 4
unfolding command_lines return_lines
handle_sized BcAcquire n effect is sized = sized _ refl
handle_sized BcRelease n effect is sized = sized _ refl
handle_sized BcIncrefs n effect is sized = sized _ refl
handle_sized BcDecrefs n effect is sized = sized _ refl
handle_sized _ n effect is sized = let wrong : None ≡ Some effect = is in cc

pub node_sized : (kind : Kind) (n : ℕ) (effect : Strength × NodeChange) → node_effect kind ≡ Some effect → IsSized kind n → n ≡ 16
unfolding command_lines return_lines
node_sized BrAcquire n effect is sized = sized _ refl
node_sized BrRelease n effect is sized = sized _ refl
node_sized BrIncrefs n effect is sized = sized _ refl
node_sized BrDecrefs n effect is sized = sized _ refl
node_sized BcAcquireDone n effect is sized = sized _ refl
node_sized BcIncrefsDone n effect is sized = sized _ refl
node_sized _ n effect is sized = let wrong : None ≡ Some effect = is in cc

pub death_sized : (kind : Kind) (n : ℕ) (change : PendingChange) → death_change kind ≡ Some change → IsSized kind n → n ≡ 8
unfolding command_lines return_lines
death_sized BrDeadBinder n change is sized = sized _ refl
death_sized BcDeadBinderDone n change is sized = sized _ refl
death_sized _ n change is sized = let wrong : None ≡ Some change = is in cc
