-- The lines of a section, and what holds lines.
use Rattle.std.proofs.Common.{◌≡◌, ℕ, ◌<◌, List, [], ◌∷◌, ◌++◌, length, map, refl, sym, ap, ap₂, subst, ◌∙◌, append_assoc, arith}
use Rattle.std.specs.Prelude.{All}
use Rattle.std.specs.List.{AllZip, FoldsTo, flat_map}
use Rattle.std.proofs.lemmas.List.{append-nil, get_or-map, length-map}
use Rattle.std.proofs.lemmas.List.Elements.{All-head, All-tail, All-cons, All-nil}

module _ {K S : Type 0} (Shows : K → List ℕ → Type 0) (keep : S → K) (line_of : S → List ℕ) where
  -- only the line of the row shows what is kept of it
  abbrev pub IsShownBy : S → Type 0
  IsShownBy s = (line : List ℕ) → Shows (keep s) line → line ≡ line_of s

  all_shown : (said : List S) (shown : List (List ℕ)) → All IsShownBy said → AllZip Shows (map keep said) shown → shown ≡ map line_of said
  all_shown [] [] each shows = refl
  all_shown [] (line ∷ shown) each shows = absurd shows
  all_shown (s ∷ said) [] each shows = absurd shows
  all_shown (s ∷ said) (line ∷ shown) each shows =
      ap₂ (λ (l : List ℕ) (ls : List (List ℕ)). l ∷ ls) (All-head IsShownBy s said each line shows.0)
      (all_shown said shown (All-tail IsShownBy s said each) shows.1)

  -- the lines that show what is kept of these rows are the lines of the rows
  pub shown_lines : (kept : List K) (said : List S) (shown : List (List ℕ)) → kept ≡ map keep said → All IsShownBy said → AllZip Shows kept shown
      → shown ≡ map line_of said
  shown_lines kept said shown keeps each shows = all_shown said shown each (subst (λ (ks : List K). AllZip Shows ks shown) keeps shows)

module _ {V : Type 0} (takes : V → List ℕ → V → Type 0) where
  -- what a value holds after it took lines, each of which it adds as a list
  pub taken : {A : Type 0} (view : V → List A) (spelled : List ℕ → List A)
      → ((old new : V) (line : List ℕ) → takes old line new → view new ≡ view old ++ spelled line) → (a b : V) (lines : List (List ℕ))
      → FoldsTo takes a lines b → view b ≡ view a ++ flat_map spelled lines
  taken view spelled one a b [] folds = sym (ap view folds) ∙ sym (append-nil (view a))
  taken view spelled one a b (line ∷ lines) folds =
      taken view spelled one folds.0 b lines folds.2 ∙ ap (λ (t : List _). t ++ flat_map spelled lines) (one a folds.0 line folds.1)
      ∙ append_assoc (view a) (spelled line) (flat_map spelled lines)

  -- what holds of each line that is taken
  pub taken_all : (P : List ℕ → Type 0) → ((old new : V) (line : List ℕ) → takes old line new → P line) → (a b : V) (lines : List (List ℕ))
      → FoldsTo takes a lines b → All P lines
  taken_all P one a b [] folds = All-nil P
  taken_all P one a b (line ∷ lines) folds = All-cons P line lines (one a folds.0 line folds.1) (taken_all P one folds.0 b lines folds.2)

-- lines joined one by one are the lines
pub one_by_one : (lines : List (List ℕ)) → flat_map (λ line. line ∷ []) lines ≡ lines
one_by_one [] = refl
one_by_one (line ∷ lines) = ap (λ (ls : List (List ℕ)). line ∷ ls) (one_by_one lines)

-- what holds of each view of a list's items
pub unmapped : {X Y : Type 0} (f : X → Y) (P : Y → Type 0) (xs : List X) → All P (map f xs) → All (λ x. P (f x)) xs
unmapped f P xs all = λ k d within.
    let inside : k < length (map f xs) = omega (arith, length-map xs f) in
    subst P (get_or-map f xs k d (f d) within) (all k (f d) inside)
