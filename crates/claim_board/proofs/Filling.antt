-- Results put into places, and taken from them in order.
use Rattle.std.proofs.Common.{◌≡◌, ℕ, ◌+◌, ◌<◌, ◌≢◌, ◌==◌, List, [], ◌∷◌, ◌++◌, map, length, set, get_or, sym, refl, ap, ◌∙◌, subst, ⊎_elim, arith, Option, Some, None, ne_eqb, length-set, length-append}
use mathlib.Core.List.{map-append}
use Rattle.std.specs.List.{slice_get}
use Rattle.std.proofs.lemmas.Option.{slice_get-get_or}
use Rattle.std.proofs.lemmas.List.Elements.{All-pop}
use Rattle.claim_board.specs.Running.{bit, one_at}
use Rattle.claim_board.specs.Results.{times, AreFilling, AreTaken}
use Rattle.claim_board.proofs.Totals.{total-append}
use Rattle.claim_board.proofs.Lists.{get_set, get_set_else, get_snoc}

module _ {X : Type 0} (gives : ℕ → X → Type 0) (n : ℕ) where
  pub fills : (list new : List (ℕ × X)) (places : List (Option X)) (i : ℕ) (x : X) → list ≡ new ++ (i, x) ∷ [] → AreFilling gives n list places
      → AreFilling gives n new (set places i (Some x))
  fills list new places i x e f =
      let within = All-pop (λ (p : ℕ × X). p.0 < n) list new (Some (i, x)) e f.within in
      let given = All-pop (λ (p : ℕ × X). gives p.0 p.1) list new (Some (i, x)) e f.given in
      let jobs : map (λ (p : ℕ × X). p.0) list ≡ map (λ (p : ℕ × X). p.0) new ++ i ∷ [] = ap (map (λ (p : ℕ × X). p.0)) e
      ∙ map-append (λ (p : ℕ × X). p.0) new ((i, x) ∷ []) in
      record {
        long = length-set places i (Some x) ∙ f.long;
        right = λ j y s. ⊎_elim
            (λ (t : (j ≡ i) × (Some x ≡ Some y)). let same : x ≡ y = cc in subst (λ k. gives k y) (sym t.0) (subst (λ z. gives i z) same given.1))
            (λ (t : (j ≢ i) × (slice_get places j ≡ Some (Some y))). f.right j y t.1)
            (get_set places i j (Some x) (Some y) s);
        open_yet = λ j s. ⊎_elim
            (λ (t : (j ≡ i) × (Some x ≡ None)). absurd (cc))
            (λ (t : (j ≢ i) × (slice_get places j ≡ Some None)).
            let old : 0 < times j (map (λ (p : ℕ × X). p.0) list) = f.open_yet j t.1 in
            let same : times j (map (λ (p : ℕ × X). p.0) list) ≡ times j (map (λ (p : ℕ × X). p.0) new ++ i ∷ []) = ap (times j) jobs in
            let two = total-append (one_at j) (map (λ (p : ℕ × X). p.0) new) (i ∷ []) in
            let apart = t.0 in
            let other : i ≢ j = λ q. apart (sym q) in
            let z : bit (i == j) ≡ 0 = ap bit (ne_eqb i j other) in
            omega arith)
            (get_set places i j (Some x) None s);
        within = within.0;
        given = given.0;
      }

  full_at : (places : List (Option X)) → AreFilling gives n [] places → (k : ℕ) (p : Option X) → slice_get places k ≡ Some p
      → (x : X) × (slice_get places k ≡ Some (Some x)) × gives k x
  full_at places f k None e = let z = f.open_yet k e in absurd (omega arith)
  full_at places f k (Some x) e = (x, e, f.right k x e)

  pub all_taken : (places : List (Option X)) → AreFilling gives n [] places → AreTaken gives n 0 places []
  all_taken places f = record {
    long = f.long;
    short = refl;
    taken = λ k low lt. let l = f.long in full_at places f k (get_or places k None) (slice_get-get_or places k None (omega arith));
    given = λ k x e. absurd (cc);
  }

  pub takes : (i : ℕ) (places : List (Option X)) (list : List X) (x : X) → i < n → slice_get places i ≡ Some (Some x) → AreTaken gives n i places list
      → AreTaken gives n (i + 1) (set places i None) (list ++ x ∷ [])
  takes i places list x lt here t = record {
    long = length-set places i None ∙ t.long;
    short = let a = length-append list (x ∷ []) in let s = t.short in omega arith;
    taken = λ k low high.
        let old = t.taken k (omega arith) high in
        let apart : k ≢ i = omega arith in
        (old.0, get_set_else places i k None apart ∙ old.1, old.2);
    given = λ k y e. ⊎_elim
        (λ (o : slice_get list k ≡ Some y). t.given k y o)
        (λ (o : (k ≡ length list) × (x ≡ y)).
        let at : k ≡ i = o.0 ∙ t.short in
        let g = t.taken i (omega arith) lt in
        let same : g.0 ≡ y = let s = sym g.1 ∙ here in let q = o.1 in cc in
        subst (λ j. gives j y) (sym at) (subst (λ z. gives i z) same g.2))
        (get_snoc list x y k e);
  }
