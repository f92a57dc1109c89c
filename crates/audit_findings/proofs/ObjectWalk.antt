-- A reader of objects goes through an attachment. What it has given so far are the objects before those ahead of it.
use Rattle.std.proofs.Common.{◌≡◌, cond, ◌+◌, ◌<◌, ◌≤◌, List, [], ◌∷◌, ◌++◌, length, Option, ap, ◌∙◌, sym, append_assoc, length-append, arith}
use Rattle.std.proofs.lemmas.List.{append-nil}
use Rattle.object_view.specs.declared.bad_object.BadObject.{BadObject}
use Rattle.object_view.specs.Objects.{ObjectText, Objects, followed_by}
use Rattle.object_view.specs.declared.sort.Sort.{Sort}
use Rattle.std.proofs.lemmas.List.Sums.{sum_by-append, count_by-le-length}
use Rattle.audit_findings.specs.Objects.{same_sort, times_of}

-- of all these objects the reader has given these, and the others are ahead of it
pub record HasGiven (all ahead : Objects) (done : List ObjectText) : Type 0 where
  pub good : all.good ≡ done ++ ahead.good
  pub bad : all.bad ≡ ahead.bad

pub is_at_start : (all ahead : Objects) → ahead ≡ all → HasGiven all ahead []
is_at_start all ahead is = record { good = ap (λ (o : Objects). o.good) (sym is); bad = ap (λ (o : Objects). o.bad) (sym is) }

module _ (all ahead : Objects) (done : List ObjectText) (is_at : HasGiven all ahead done) where
  -- the reader has given one more object
  pub has_given_next : (o : ObjectText) (new : Objects) → ahead ≡ followed_by o new → HasGiven all new (done ++ o ∷ [])
  has_given_next o new is = record {
    good = is_at.good ∙ ap (λ (x : Objects). done ++ x.good) is ∙ sym (append_assoc done (o ∷ []) new.good);
    bad = is_at.bad ∙ ap (λ (x : Objects). x.bad) is;
  }

  pub room_for_one : (o : ObjectText) (new : Objects) → ahead ≡ followed_by o new → length done + 1 ≤ length all.good
  room_for_one o new is =
      let whole = ap length (has_given_next o new is).good ∙ length-append (done ++ o ∷ []) new.good in
      let longer = length-append done (o ∷ []) in
      omega (arith, whole, longer)

  pub left_falls : (o : ObjectText) (new : Objects) → ahead ≡ followed_by o new → length new.good < length ahead.good
  left_falls o new is = let long = ap (λ (x : Objects). length x.good) is in omega (arith, long)

  -- at the end these are all objects
  pub objects_end : (bad : Option BadObject) → ahead ≡ record { good = []; bad = bad } → (all.good ≡ done) × (all.bad ≡ bad)
  objects_end bad is = (is_at.good ∙ ap (λ (x : Objects). done ++ x.good) is ∙ append-nil done, is_at.bad ∙ ap (λ (x : Objects). x.bad) is)

-- ---- how many there are of a sort

pub times_of-append : (sort : Sort) (us vs : List ObjectText) → times_of sort (us ++ vs) ≡ times_of sort us + times_of sort vs
times_of-append sort us vs = sum_by-append (λ (o : ObjectText). cond (same_sort o.sort sort) 1 0) us vs

pub times_of-one : (sort : Sort) (o : ObjectText) → times_of sort (o ∷ []) ≡ cond (same_sort o.sort sort) 1 0
times_of-one sort o = omega arith

pub times_of-short : (sort : Sort) (objects : List ObjectText) → times_of sort objects ≤ length objects
times_of-short sort objects = count_by-le-length (λ (o : ObjectText). same_sort o.sort sort) objects
