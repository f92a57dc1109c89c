-- The unmatched closers of a list, and its openers with their closers, from the end of the list. An opener takes the
-- first closer after it that is still unmatched.
use Rattle.std.proofs.Common.{◌≡◌, Option, Some, None, refl, sym, ap, subst, ◌∙◌}
use Rattle.std.proofs.Common.{List, [], ◌∷◌, ◌++◌, map, drop}
use Rattle.std.specs.Prelude.{slice_get, option_map}
use Rattle.std.proofs.lemmas.Option.{none-some}
use Rattle.call_stacks.specs.Matching.{Side, opener, closer, neither}

abbrev pub first_of : {A : Type 0} → List A → Option A
first_of items = slice_get items 0

-- the unmatched closers of a list that one more item precedes
abbrev pub put : {A : Type 0} → Side → A → List A → List A
put opener x later = drop 1 later
put closer x later = x ∷ later
put neither x later = later

-- the openers of a list that one more item precedes, by the unmatched closers of the list
abbrev pub entry : {A : Type 0} → Side → A → List A → List (A × Option A) → List (A × Option A)
entry opener x later rest = (x, first_of later) ∷ rest
entry closer x later rest = rest
entry neither x later rest = rest

-- the unmatched closers
abbrev pub strays : {A : Type 0} → (A → Side) → List A → List A
strays side [] = []
strays side (x ∷ later) = put (side x) x (strays side later)

-- the openers, each with its closer
abbrev pub openers : {A : Type 0} → (A → Side) → List A → List (A × Option A)
openers side [] = []
openers side (x ∷ later) = entry (side x) x (strays side later) (openers side later)

-- ---- closers alone

abbrev pub AllClosers : {A : Type 0} → (A → Side) → List A → Type 0
AllClosers side [] = Unit {0}
AllClosers side (x ∷ later) = (side x ≡ closer) × AllClosers side later

closers_put : {A : Type 0} (side : A → Side) (s : Side) (x : A) (later : List A)
    → side x ≡ s → AllClosers side later → AllClosers side (put s x later)
closers_put side opener x [] e all = tt
closers_put side opener x (y ∷ later) e all = all.1
closers_put side closer x later e all = (e, all)
closers_put side neither x later e all = all

pub strays_closers : {A : Type 0} (side : A → Side) (items : List A) → AllClosers side (strays side items)
strays_closers side [] = tt
strays_closers side (x ∷ items) = closers_put side (side x) x (strays side items) refl (strays_closers side items)

pub strays_of_closers : {A : Type 0} (side : A → Side) (items : List A) → AllClosers side items → strays side items ≡ items
strays_of_closers side [] all = refl
strays_of_closers side (x ∷ items) all =
    ap (λ (s : Side). put s x (strays side items)) all.0 ∙ ap (λ later. x ∷ later) (strays_of_closers side items all.1)

pub openers_of_closers : {A : Type 0} (side : A → Side) (items : List A) → AllClosers side items → openers side items ≡ []
openers_of_closers side [] all = refl
openers_of_closers side (x ∷ items) all =
    ap (λ (s : Side). entry s x (strays side items) (openers side items)) all.0 ∙ openers_of_closers side items all.1

pub strays-strays : {A : Type 0} (side : A → Side) (items : List A) → strays side (strays side items) ≡ strays side items
strays-strays side items = strays_of_closers side (strays side items) (strays_closers side items)

-- ---- a list followed by another

pub strays-append : {A : Type 0} (side : A → Side) (first second : List A)
    → strays side (first ++ second) ≡ strays side (first ++ strays side second)
strays-append side [] second = sym (strays-strays side second)
strays-append side (x ∷ first) second = ap (put (side x) x) (strays-append side first second)

entry-append : {A : Type 0} (s : Side) (x : A) (later : List A) (rest more : List (A × Option A))
    → entry s x later (rest ++ more) ≡ entry s x later rest ++ more
entry-append opener x later rest more = refl
entry-append closer x later rest more = refl
entry-append neither x later rest more = refl

pub openers-append : {A : Type 0} (side : A → Side) (first second : List A)
    → openers side (first ++ second) ≡ openers side (first ++ strays side second) ++ openers side second
openers-append side [] second =
    ap (λ rest. rest ++ openers side second) (sym (openers_of_closers side (strays side second) (strays_closers side second)))
openers-append side (x ∷ first) second =
    ap (λ later. entry (side x) x later (openers side (first ++ second))) (strays-append side first second)
    ∙ ap (entry (side x) x (strays side (first ++ strays side second))) (openers-append side first second)
    ∙ entry-append (side x) x (strays side (first ++ strays side second)) (openers side (first ++ strays side second)) (openers side second)

-- ---- items under a function

put-map : {A B : Type 0} (f : A → B) (s : Side) (x : A) (later : List A) → put s (f x) (map f later) ≡ map f (put s x later)
put-map f opener x [] = refl
put-map f opener x (y ∷ later) = refl
put-map f closer x later = refl
put-map f neither x later = refl

pub strays-map : {A B : Type 0} (f : A → B) (side : B → Side) (items : List A)
    → strays side (map f items) ≡ map f (strays (λ x. side (f x)) items)
strays-map f side [] = refl
strays-map f side (x ∷ items) =
    ap (put (side (f x)) (f x)) (strays-map f side items) ∙ put-map f (side (f x)) x (strays (λ y. side (f y)) items)

-- an opener and its closer, under a function
abbrev pub both : {A B : Type 0} → (A → B) → A × Option A → B × Option B
both f p = (f p.0, option_map f p.1)

entry-map : {A B : Type 0} (f : A → B) (s : Side) (x : A) (later : List A) (rest : List (A × Option A))
    → entry s (f x) (map f later) (map (both f) rest) ≡ map (both f) (entry s x later rest)
entry-map f opener x [] rest = refl
entry-map f opener x (y ∷ later) rest = refl
entry-map f closer x later rest = refl
entry-map f neither x later rest = refl

pub openers-map : {A B : Type 0} (f : A → B) (side : B → Side) (items : List A)
    → openers side (map f items) ≡ map (both f) (openers (λ x. side (f x)) items)
openers-map f side [] = refl
openers-map f side (x ∷ items) =
    ap (λ later. entry (side (f x)) (f x) later (openers side (map f items))) (strays-map f side items)
    ∙ ap (entry (side (f x)) (f x) (map f (strays (λ y. side (f y)) items))) (openers-map f side items)
    ∙ entry-map f (side (f x)) x (strays (λ y. side (f y)) items) (openers (λ y. side (f y)) items)

-- ---- one more closer

-- each of the openers has a closer
abbrev pub AllClosed : {A : Type 0} → List (A × Option A) → Type 0
AllClosed [] = Unit {0}
AllClosed ((x, None) ∷ rest) = ⊥
AllClosed ((x, Some c) ∷ rest) = AllClosed rest

none_step : {A : Type 0} (s : Side) (x c : A) (later new : List A) (rest more : List (A × Option A))
    → AllClosed (entry s x later rest) → (AllClosed rest → (more ≡ rest) × (new ≡ later ++ c ∷ []))
    → (entry s x new more ≡ entry s x later rest) × (put s x new ≡ put s x later ++ c ∷ [])
none_step opener x c [] new rest more all ih = absurd all
none_step opener x c (y ∷ later) new rest more all ih =
    let both = ih all in
    (ap (λ t. (x, first_of t) ∷ more) both.1 ∙ ap (λ t. (x, Some y) ∷ t) both.0, ap (drop 1) both.1)
none_step closer x c later new rest more all ih =
    let both = ih all in
    (both.0, ap (λ t. x ∷ t) both.1)
none_step neither x c later new rest more all ih = ih all

-- if each opener has a closer, one more closer is unmatched
pub closes_none : {A : Type 0} (side : A → Side) (items : List A) (c : A) → side c ≡ closer → AllClosed (openers side items)
    → (openers side (items ++ c ∷ []) ≡ openers side items) × (strays side (items ++ c ∷ []) ≡ strays side items ++ c ∷ [])
closes_none side [] c e all = (ap (λ (s : Side). entry s c [] []) e, ap (λ (s : Side). put s c []) e)
closes_none side (x ∷ items) c e all =
    none_step (side x) x c (strays side items) (strays side (items ++ c ∷ [])) (openers side items) (openers side (items ++ c ∷ [])) all
    (λ rest. closes_none side items c e rest)

-- ---- lists that differ

pub first_is : {A : Type 0} (x y : A) (xs ys : List A) → (x ∷ xs) ≡ (y ∷ ys) → x ≡ y
first_is x y xs ys e = cc

-- ---- one more closer after an opener that has none

last_step : {A : Type 0} (s : Side) (y c : A) (later new : List A) (rest more front : List (A × Option A)) (x : A) (back : List (A × Option A))
    → entry s y later rest ≡ front ++ (x, None) ∷ back → AllClosed back
    → (AllClosed rest → (more ≡ rest) × (new ≡ later ++ c ∷ []))
    → ((f : List (A × Option A)) → rest ≡ f ++ (x, None) ∷ back → (more ≡ f ++ (x, Some c) ∷ back) × (new ≡ later))
    → (entry s y new more ≡ front ++ (x, Some c) ∷ back) × (put s y new ≡ put s y later)
last_step {A} opener y c [] new rest more [] x back e all none some =
    let same : rest ≡ back = ap (drop 1) e in
    let both = none (subst AllClosed (sym same) all) in
    let here : y ≡ x = ap (λ p. p.0) (first_is (y, None) (x, None) rest back e) in
    (ap (λ t. (y, first_of t) ∷ more) both.1 ∙ ap (λ t. (y, Some c) ∷ t) (both.0 ∙ same) ∙ ap (λ t. (t, Some c) ∷ back) here, ap (drop 1) both.1)
last_step opener y c (z ∷ later) new rest more [] x back e all none some =
    let wrong : Some z ≡ None = ap (λ p. p.1) (first_is (y, Some z) (x, None) rest back e) in
    absurd (none-some z (sym wrong))
last_step opener y c later new rest more (f ∷ front) x back e all none some =
    let both = some front (ap (drop 1) e) in
    let here : (y, first_of later) ≡ f = first_is (y, first_of later) f rest (front ++ (x, None) ∷ back) e in (
      ap (λ t. (y, first_of t) ∷ more) both.1 ∙ ap (λ t. (y, first_of later) ∷ t) both.0 ∙ ap (λ t. t ∷ (front ++ (x, Some c) ∷ back)) here,
      ap (drop 1) both.1,
    )
last_step closer y c later new rest more front x back e all none some =
    let both = some front e in
    (both.0, ap (λ t. y ∷ t) both.1)
last_step neither y c later new rest more front x back e all none some = some front e

-- one more closer closes the last opener that has none
pub closes_last : {A : Type 0} (side : A → Side) (items : List A) (c : A) (front : List (A × Option A)) (x : A) (back : List (A × Option A))
    → side c ≡ closer → openers side items ≡ front ++ (x, None) ∷ back → AllClosed back
    → (openers side (items ++ c ∷ []) ≡ front ++ (x, Some c) ∷ back) × (strays side (items ++ c ∷ []) ≡ strays side items)
closes_last side [] c [] x back e is all = absurd cc
closes_last side [] c (f ∷ front) x back e is all = absurd cc
closes_last side (y ∷ items) c front x back e is all =
    last_step (side y) y c (strays side items) (strays side (items ++ c ∷ [])) (openers side items) (openers side (items ++ c ∷ [])) front x back is all
    (λ rest. closes_none side items c e rest)
    (λ f here. closes_last side items c f x back e here all)
