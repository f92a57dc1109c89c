-- The steps of pairing, by what each part of them does.
use Rattle.std.proofs.Common.{◌≡◌, ◌≢◌, ⊎_elim, inl, inr, ℕ, ◌-◌, zero, suc, Bool, true, false, cond, List, [], ◌∷◌, ◌++◌, take, Option, Some, None, slice_get, refl, sym, ap, subst, ◌∙◌, arith}
use Rattle.std.specs.Bool.{OnTrue}
use Rattle.std.specs.Prelude.{Result, Ok, Err, OnOk, replicate}
use Rattle.listing_tables.specs.Certainty.{AreOfOneGeneration, HasAll, IsIn, IsOnlyOne, LooksAtAll}
use Rattle.listing_tables.specs.Changes.{RatesPair}
use Rattle.listing_tables.specs.Numbered.{IsAt, thing_at}
use Rattle.listing_tables.specs.OneHandle.{LeavesOneHandle}
use Rattle.listing_tables.specs.Pairing.{ClosesNothing, GuessesFit, IsEvidenceOf, MarksAlso, MarksEach, PairsDelivery, calls_of, messages_of}
use Rattle.listing_tables.specs.declared.calls.Call.{Call}
use Rattle.listing_tables.specs.declared.certainty.Evidence.{Evidence}
use Rattle.listing_tables.specs.declared.marks.Mark.{Mark}
use Rattle.listing_tables.specs.declared.certainty.Sought.{Sought}
use Rattle.listing_tables.specs.declared.fitting.Fit.{Fit}
use Rattle.listing_tables.specs.declared.fitting.Fitting.{Fitting}
use Rattle.listing_tables.specs.declared.messages.Message.{Message}
use Rattle.listing_tables.specs.declared.pairs.Pairing.{Pairing}
use Rattle.listing_tables.proofs.CertaintyLaws.{are_of_one_handle, is_fit, is_of_handle}

-- what holds anyway holds at Ok
pub on_ok_always : {T E P : Type 0} (r : Result T E) → P → OnOk r P
on_ok_always (Ok x) p = p
on_ok_always (Err e) p = tt

-- the thing at an index is the one that is found there
pub found_at : {X : Type 0} (things : List X) (index : Option ℕ) (a b : X) → IsAt things index a → Some b ≡ thing_at things index → a ≡ b
found_at things index a b h e =
    same_Some a b (sym h.2 ∙ ap (thing_at things) (sym h.1) ∙ sym e)
  where
    same_Some : {X : Type 0} (x y : X) → Some x ≡ Some y → x ≡ y
    same_Some x y q = cc

pub nothing_at : {X : Type 0} (things : List X) (index : Option ℕ) (a : X) → IsAt things index a → None ≡ thing_at things index → ⊥
nothing_at things index a h e = none_some a (e ∙ ap (thing_at things) h.1 ∙ h.2)
  where
    none_some : {X : Type 0} (x : X) → None ≡ Some x → ⊥
    none_some x q = cc

pub on_true_weaker : {P Q : Type 0} (b : Bool) → (P → Q) → OnTrue b P → OnTrue b Q
on_true_weaker true f p = f p
on_true_weaker false f p = tt

pub on_true_from : {P : Type 0} (b : Bool) → (b ≡ true → P) → OnTrue b P
on_true_from true f = f refl
on_true_from false f = tt

pub still_true : (b a : Bool) → a ≡ true → cond b true a ≡ true
still_true true a h = refl
still_true false a h = h

-- two facts at Ok
pub on_ok_both : {T E : Type 0} (P Q : Type 0) (r : Result T E) → OnOk r P → OnOk r Q → OnOk r (P × Q)
on_ok_both P Q (Ok x) p q = (p, q)
on_ok_both P Q (Err e) p q = tt

-- ---- a message that closes no call of which the delivery is still looked for

module _ (pairing : Pairing) (message : Message) (call : Call) (found : Some call ≡ thing_at (calls_of pairing) message.call) where
  same_call : (other : Call) → IsAt (calls_of pairing) message.call other → other ≡ call
  same_call other is = found_at (calls_of pairing) message.call other call is found

  pub closes_served : call.served ≡ true → ClosesNothing pairing message
  closes_served served other is = inl (ap (λ (c : Call). c.served) (same_call other is) ∙ served)

  pub closes_itself : call.place ≡ message.place → ClosesNothing pairing message
  closes_itself here other is = inr (inl (ap (λ (c : Call). c.place) (same_call other is) ∙ here))

  pub closes_paired : (send : Message) → slice_get (messages_of pairing) call.opener ≡ Some send → send.partner ≢ None
      → ClosesNothing pairing message
  closes_paired send there paired other is =
      inr (inr (send, ap (λ (c : Call). slice_get (messages_of pairing) c.opener) (same_call other is) ∙ there, paired))

-- ---- fits that are left

module _ (evidence : Evidence) (sought : Sought) (fitting : Fitting)
    (has_all : HasAll evidence.seen.now sought.upid.index sought.node sought.message.place sought.message.gaps)
    (looks : LooksAtAll evidence sought fitting) (whole : fitting.is_whole ≡ true) (one : AreOfOneGeneration fitting) where
  -- some of the fits
  pub leaves : (rest : Fitting) → ((fit : Fit) → IsIn rest.list.items fit → IsIn fitting.list.items fit)
      → LeavesOneHandle evidence sought rest
  leaves rest kept = record {
    handle = are_of_one_handle evidence sought fitting has_all looks whole one;
    fits = λ fit h. (
      is_fit evidence sought fitting has_all looks whole fit (kept fit h),
      is_of_handle evidence sought fitting has_all looks whole one fit (kept fit h),
    );
  }

-- ---- a delivery

-- what is guessed of the same messages and fits
pub guess_from : (oneway : Bool) (old mid : Pairing) (new : List Message) (fitting : Fitting) (count : ℕ) (sure : Bool)
    → messages_of mid ≡ messages_of old → mid.fitting ≡ fitting
    → GuessesFit oneway (messages_of mid) new mid.fitting count sure → GuessesFit oneway (messages_of old) new fitting count sure
guess_from oneway old mid new fitting count sure messages fits h =
    subst (λ (f : Fitting). GuessesFit oneway (messages_of old) new f count sure) fits
    (subst (λ (l : List Message). GuessesFit oneway l new mid.fitting count sure) messages h)

module _ (pairing : Pairing) (sought : Sought) (new : List Message) where
  pub pairs_guess : (fitting : Fitting) (count : ℕ)
      → GuessesFit sought.message.oneway (messages_of pairing) new fitting count false → PairsDelivery pairing sought new
  pairs_guess fitting count h = ⊎_elim (λ same. inl same.0)
      (λ found. inr (inl (record { fitting = fitting; fit = found.0; is = found.1; count = count; rates = found.2 }))) h

  pub pairs_one : (oneway : Bool) (evidence : Evidence) (fitting : Fitting) (count : ℕ) → IsEvidenceOf pairing evidence
      → LeavesOneHandle evidence sought fitting → GuessesFit oneway (messages_of pairing) new fitting count true
      → PairsDelivery pairing sought new
  pairs_one oneway evidence fitting count known left h = ⊎_elim (λ same. inl same.0)
      (λ found. inr (inr (inl (record {
        evidence = evidence;
        known = known;
        handle = left.handle;
        fit = found.0;
        is = (left.fits found.0 (found.1.is found.0 refl).0).0;
        same = (left.fits found.0 (found.1.is found.0 refl).0).1;
        count = count;
        rates = found.2;
      }))))
      h

  pub pairs_only : (evidence : Evidence) (fit : Fit) → IsEvidenceOf pairing evidence → IsOnlyOne evidence sought fit
      → RatesPair (messages_of pairing) new fit.listed.index sought.index 1 true → PairsDelivery pairing sought new
  pairs_only evidence fit known only pairs =
      inr (inr (inr (record { evidence = evidence; known = known; fit = fit; only = only; pairs = pairs })))

-- ---- marks

-- one more of these sends is marked
pub marks_more : (a b c : List Mark) (fits : List Fit) (fit : Fit) (by : ℕ) → MarksEach a b fits by
    → MarksAlso b c fit.listed.index by → MarksEach a c (fits ++ fit ∷ []) by
marks_more a b c [] fit by before also =
    (c, subst (λ (l : List Mark). MarksAlso l c fit.listed.index by) before also, refl)
marks_more a b c (first ∷ fits) fit by before also =
    (before.0, before.1, marks_more before.0 b c fits fit by before.2 also)

-- ---- the begin of a walk

module _ {X : Type 0} where
  none_of : (n : ℕ) → take {A = X} n [] ≡ []
  none_of zero = refl
  none_of (suc n) = refl

  -- an empty list is filled
  pub filled : (old : List X) (count len wanted : ℕ) (x : X) → old ≡ [] → len ≡ 0 → count ≡ wanted
      → take count old ++ replicate (count - len) x ≡ replicate wanted x
  filled old count len wanted x empty zero_len all =
      let left : count - len ≡ wanted = omega (arith, zero_len, all) in
      ap (λ (l : List X). take count l ++ replicate (count - len) x) empty
      ∙ ap (λ (l : List X). l ++ replicate (count - len) x) (none_of count)
      ∙ ap (λ (n : ℕ). replicate n x) left
