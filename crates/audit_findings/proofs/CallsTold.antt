-- Each call is counted once, and listed unless it has its reply.
use Rattle.std.proofs.Common.{◌≡◌, ℕ, ◌+◌, ◌<◌, ◌^◌, Bool, true, cond, not, List, [], ◌∷◌, length, map, filter, Option, Some, None, inl, inr, refl, ap, ◌∙◌, arith}
use Rattle.std.specs.Prelude.{count_by}
use Rattle.std.proofs.lemmas.List.{length-map}
use Rattle.std.proofs.lemmas.List.Recursion.{is_count_by}
use Rattle.std.proofs.lemmas.List.Sums.{count_by-le-length, length-filter, sum_by-cons}
use Rattle.call_stacks.specs.Calls.{Bracketed, bracket_read, how_many, opener_by, with_verdict}
use Rattle.call_stacks.specs.Verdicts.{is_answered, is_crossed, is_failed, is_open, is_replied, lacks_reply, verdict_of}
use Rattle.call_stacks.specs.declared.opener.Opener.{Opener}
use Rattle.call_stacks.specs.declared.verdict.Verdict.{Verdict}
use Rattle.event_core.specs.Events.{EventRead}
use Rattle.event_core.specs.declared.marks.Bracket.{Bracket}
use Rattle.event_core.specs.declared.marks.Bracket.TheVariants.{Call, Served, Reply, Sent, Error}
use Rattle.summary_law.proofs.Members.{In}
use Rattle.audit_findings.specs.Calls.{calls_of, is_call_bracket, is_made, is_served, is_unanswered, openers, served_of}
use Rattle.audit_findings.specs.Kept.{call_at_place}
use Rattle.audit_findings.specs.Laws.{AllMadeTold, AllServedTold}
use Rattle.audit_findings.specs.TextReads.{text_reads}
use Rattle.audit_findings.specs.ThreadRows.{AreAll}
use Rattle.audit_findings.proofs.Kept.{in_kept}
use Rattle.audit_findings.proofs.ThreadLists.{openers_are, openers_short}

-- one if the test is true
abbrev one : Bool → ℕ
one b = cond b 1 0

-- a verdict of a call that is made, or of one that is served: it is counted once, and is listed unless it has its reply
pub record Told (replied : Verdict → Bool) (first second : Verdict → Bool) (verdict : Verdict) : Type 0 where
  pub all : one (replied verdict) + one (lacks_reply verdict) ≡ 1
  pub lacking : one (first verdict) + one (second verdict) ≡ one (lacks_reply verdict)

abbrev MadeTold : Verdict → Type 0
MadeTold = Told is_answered is_failed is_unanswered

abbrev ServedTold : Verdict → Type 0
ServedTold = Told is_replied is_crossed is_open

-- what is closed, and what is left open, whoever makes the call
made_by : (answer : Bracket) → MadeTold (verdict_of Call answer)
made_by Reply = record { all = refl; lacking = refl }
made_by Error = record { all = refl; lacking = refl }
made_by _ = record { all = refl; lacking = refl }

served_by : (call answer : Bracket) → not (is_call_bracket call) ≡ true → ServedTold (verdict_of call answer)
served_by Call answer is = let no : ⊥ = cc in absurd no
served_by Served Sent is = record { all = refl; lacking = refl }
served_by Served _ is = record { all = refl; lacking = refl }
served_by _ _ is = record { all = refl; lacking = refl }

made_from : (call answer : Bracket) → is_call_bracket call ≡ true → MadeTold (verdict_of call answer)
made_from Call answer is = made_by answer
made_from _ answer is = let no : ⊥ = cc in absurd no

abbrev IsTold : Opener EventRead → Type 0
IsTold o = (is_made o ≡ true → MadeTold o.verdict) × (is_served o ≡ true → ServedTold o.verdict)

opener_told : (event : EventRead) (answer : Option (Bracketed EventRead)) → IsTold (opener_by text_reads event answer)
opener_told event None = (λ is. record { all = refl; lacking = refl }, λ is. record { all = refl; lacking = refl })
opener_told event (Some answer) =
    let call = bracket_read text_reads None event in
    let closer = bracket_read text_reads None answer.event in
    (λ is. made_from call closer is, λ is. served_by call closer is)

-- counts that add up for each element add up for the list
counts_add : {X : Type 0} (first second both : X → Bool) (xs : List X) → ((x : X) → In x xs → one (first x) + one (second x) ≡ one (both x))
    → count_by first xs + count_by second xs ≡ count_by both xs
counts_add first second both [] each = refl
counts_add {X} first second both (x ∷ xs) each =
    let here = each x (inl refl) in
    let rest = counts_add first second both xs (λ y there. each y (inr there)) in
    let a = sum_by-cons (λ (x : X). one (first x)) x xs in
    let b = sum_by-cons (λ (x : X). one (second x)) x xs in
    let c = sum_by-cons (λ (x : X). one (both x)) x xs in
    omega (arith, here, rest, a, b, c)

module _ (replied first second : Verdict → Bool) (told : List (Opener EventRead))
    (each : (o : Opener EventRead) → In o told → Told replied first second o.verdict) where
  all_listed : length told ≡ how_many replied told + length (with_verdict lacks_reply told)
  all_listed =
      let kept = length-filter (λ (o : Opener EventRead). lacks_reply o.verdict) told in
      let all = counts_add (λ (o : Opener EventRead). replied o.verdict) (λ o. lacks_reply o.verdict) (λ o. true) told (λ o there. (each o there).all) in
      let number = is_count_by length (λ (o : Opener EventRead). true) refl (λ o os. omega arith) told in
      omega (arith, kept, all, number)

  all_counted : length told ≡ how_many replied told + how_many first told + how_many second told
  all_counted =
      let kept = length-filter (λ (o : Opener EventRead). lacks_reply o.verdict) told in
      let lacking = counts_add (λ (o : Opener EventRead). first o.verdict) (λ o. second o.verdict) (λ o. lacks_reply o.verdict) told
      (λ o there. (each o there).lacking) in
      let listed = all_listed in
      omega (arith, kept, lacking, listed)

  -- the number of those that have their reply, and what is kept of the others
  all_kept : length told < 2 ^ 64 → (number : ℕ) → number ≡ how_many replied told → (kept : List (Opener ℕ))
      → kept ≡ map call_at_place (with_verdict lacks_reply told) → AreAll told number kept
  all_kept few number is kept are =
      let listed = all_listed in
      let long = ap length are ∙ length-map (with_verdict lacks_reply told) call_at_place in
      record { together = omega (arith, listed, long, is); few = few }

module _ (events : List EventRead) where
  each_made : (o : Opener EventRead) → In o (filter is_made (openers events)) → MadeTold o.verdict
  each_made o there =
      let at = in_kept is_made (openers events) o there in
      (openers_are IsTold opener_told events o at.0).0 at.1

  each_served : (o : Opener EventRead) → In o (filter is_served (openers events)) → ServedTold o.verdict
  each_served o there =
      let at = in_kept is_served (openers events) o there in
      (openers_are IsTold opener_told events o at.0).1 at.1

  -- of few events few are calls of one sort
  few_of : (test : Opener EventRead → Bool) → length events < 2 ^ 64 → length (filter test (openers events)) < 2 ^ 64
  few_of test few =
      let kept = length-filter test (openers events) in
      let most = count_by-le-length test (openers events) in
      let short = openers_short events in
      omega (arith, kept, most, short, few)

  pub made_told : AllMadeTold (calls_of (filter is_made (openers events)))
  made_told =
      let made = filter is_made (openers events) in
      record {
        counted = all_counted is_answered is_failed is_unanswered made each_made;
        listed = all_listed is_answered is_failed is_unanswered made each_made;
      }

  pub served_told : AllServedTold (served_of (filter is_served (openers events)))
  served_told =
      let served = filter is_served (openers events) in
      record {
        counted = all_counted is_replied is_crossed is_open served each_served;
        listed = all_listed is_replied is_crossed is_open served each_served;
      }

  pub made_kept : length events < 2 ^ 64 → (number : ℕ) → number ≡ how_many is_answered (filter is_made (openers events)) → (kept : List (Opener ℕ))
      → kept ≡ map call_at_place (with_verdict lacks_reply (filter is_made (openers events))) → AreAll (filter is_made (openers events)) number kept
  made_kept few =
      all_kept is_answered is_failed is_unanswered (filter is_made (openers events)) each_made (few_of is_made few)

  pub served_kept : length events < 2 ^ 64 → (number : ℕ) → number ≡ how_many is_replied (filter is_served (openers events)) → (kept : List (Opener ℕ))
      → kept ≡ map call_at_place (with_verdict lacks_reply (filter is_served (openers events))) → AreAll (filter is_served (openers events)) number kept
  served_kept few =
      all_kept is_replied is_crossed is_open (filter is_served (openers events)) each_served (few_of is_served few)
