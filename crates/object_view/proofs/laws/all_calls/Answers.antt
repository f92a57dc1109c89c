use Rattle.std.proofs.Common.{List, [], ◌∷◌, Option, Some, None, Result, Ok, Err, refl, sym, subst}
use Rattle.transaction_view.specs.Calls.{Calls, one_more}
use Rattle.object_view.specs.declared.bad_object.BadObject.{BadObject}
use Rattle.object_view.specs.declared.object.Object.{Object}
use Rattle.object_view.specs.Objects.{Objects, no_objects}
use Rattle.object_view.specs.Reading.{Steps, GiveObjects}
use Rattle.object_view.proofs.laws.all_calls.Goals as goal

calls_give : (ahead : Objects) (results : List (Option (Result Object BadObject))) → Calls Steps ahead results → GiveObjects ahead results
calls_give ahead [] calls = tt
calls_give ahead (Some (Ok found) ∷ results) (one_more _ next _ _ steps calls) =
    subst (λ (o : Objects). GiveObjects o (Some (Ok found) ∷ results)) (sym steps.1) ((found, refl, refl, refl), calls_give next results calls)
calls_give ahead (Some (Err bad) ∷ results) (one_more _ next _ _ steps calls) =
    subst (λ (o : Objects). GiveObjects o (Some (Err bad) ∷ results)) (sym steps.0)
    (refl, calls_give no_objects results (subst (λ (o : Objects). Calls Steps o results) steps.1 calls))
calls_give ahead (None ∷ results) (one_more _ next _ _ steps calls) =
    subst (λ (o : Objects). GiveObjects o (None ∷ results)) (sym steps.0)
    (refl, calls_give no_objects results (subst (λ (o : Objects). Calls Steps o results) steps.1 calls))

pub returns : goal.returns
returns c = calls_give
