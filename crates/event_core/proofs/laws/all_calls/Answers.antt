use Rattle.std.proofs.Common.{List, [], ◌∷◌, Option, Some, None, refl, sym, subst}
use Rattle.capture_frame.specs.Calls.{Calls, one_more}
use Rattle.event_core.specs.declared.event.Event.{Event}
use Rattle.event_core.specs.Events.{EventRead}
use Rattle.event_core.specs.Reading.{GiveEvents, Steps}
use Rattle.event_core.proofs.laws.all_calls.Goals as goal

calls_give : (ahead : List EventRead) (results : List (Option Event)) → Calls Steps ahead results → GiveEvents ahead results
calls_give ahead [] calls = tt
calls_give ahead (Some found ∷ results) (one_more _ next _ _ steps calls) =
    subst (λ (l : List EventRead). GiveEvents l (Some found ∷ results)) (sym steps) (refl, calls_give next results calls)
calls_give ahead (None ∷ results) (one_more _ next _ _ steps calls) =
    subst (λ (l : List EventRead). GiveEvents l (None ∷ results)) (sym steps.0)
    (refl, subst (λ (l : List EventRead). GiveEvents l results) steps.1 (calls_give next results calls))

pub returns : goal.returns
returns c = calls_give
