-- Lines that are pushed one after another.
use Rattle.std.proofs.Common.{◌≡◌, ℕ, List, [], ◌∷◌, ◌++◌, map, refl, sym, subst}
use Rattle.std.specs.List.{AllZip, FoldsTo}
use Rattle.report_text.specs.Pushed.{TakesLines}

-- some lines that are taken, followed by others
pub FoldsTo-append : {L X : Type 0} (takes : L → X → L → Type 0) (a b c : L) (xs ys : List X) → FoldsTo takes a xs b → FoldsTo takes b ys c
    → FoldsTo takes a (xs ++ ys) c
FoldsTo-append takes a b c [] ys first then = subst (λ (s : _). FoldsTo takes s ys c) (sym first) then
FoldsTo-append takes a b c (x ∷ xs) ys first then = (first.0, first.1, FoldsTo-append takes first.0 b c xs ys first.2 then)

-- what holds between the items of one list and a view of the items of another
pub AllZip-mapped : {X Y Z : Type 0} (R : X → Z → Type 0) (f : Y → Z) (xs : List X) (ys : List Y) → AllZip (λ x y. R x (f y)) xs ys
    → AllZip R xs (map f ys)
AllZip-mapped R f [] [] all = tt
AllZip-mapped R f [] (y ∷ ys) all = absurd all
AllZip-mapped R f (x ∷ xs) [] all = absurd all
AllZip-mapped R f (x ∷ xs) (y ∷ ys) all = (all.0, AllZip-mapped R f xs ys all.1)

-- one line that is pushed
pub one_pushed : {L : Type 0} {takes : L → List ℕ → L → Type 0} {old new : L} (said : List ℕ) {line : List ℕ} → line ≡ said → takes old line new
    → TakesLines takes (said ∷ []) old new
one_pushed {takes = takes} {old = old} {new = new} said is pushed = record { taken = (new, subst (λ (l : List ℕ). takes old l new) is pushed, refl) }

-- no line that is pushed
pub none_pushed : {L : Type 0} {takes : L → List ℕ → L → Type 0} {at : L} → TakesLines takes [] at at
none_pushed = record { taken = refl }

infixr 20 ◌⨾◌
-- lines that are pushed, followed by others
pub ◌⨾◌ : {L : Type 0} {takes : L → List ℕ → L → Type 0} {p q : List (List ℕ)} {a b c : L} → TakesLines takes p a b → TakesLines takes q b c
    → TakesLines takes (p ++ q) a c
◌⨾◌ {takes = takes} {p = p} {q = q} {a = a} {b = b} {c = c} first others = record { taken = FoldsTo-append takes a b c p q first.taken others.taken }
