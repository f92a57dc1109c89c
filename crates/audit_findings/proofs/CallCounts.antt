-- How many calls have a verdict, by those that are listed.
use Rattle.std.proofs.Common.{◌≡◌, ℕ, ◌+◌, Bool, true, cond, List, [], ◌∷◌, map, refl, ◌∙◌, arith}
use Rattle.std.proofs.lemmas.List.Sums.{sum_by-cons}
use Rattle.event_core.specs.Events.{EventRead}
use Rattle.call_stacks.specs.Calls.{how_many, with_verdict}
use Rattle.call_stacks.specs.Verdicts.{is_crossed, is_failed, is_open, lacks_reply}
use Rattle.call_stacks.specs.declared.opener.Opener.{Opener}
use Rattle.call_stacks.specs.declared.verdict.Verdict.{Verdict}
use Rattle.call_stacks.specs.declared.verdict.Verdict.TheVariants.{Answered, Failed, Replied, Crossed, Open}
use Rattle.audit_findings.specs.Calls.{is_unanswered}
use Rattle.audit_findings.specs.Kept.{call_at_place}
use Rattle.summary_law.proofs.FilterLaws.{count_by-map}
use Rattle.audit_findings.proofs.Kept.{kept_count}

-- the calls with a verdict that lacks a reply are all kept, so counting the kept ones counts all of them
pub kept_many : (test : Verdict → Bool) → ((verdict : Verdict) → test verdict ≡ true → lacks_reply verdict ≡ true) → (told : List (Opener EventRead))
    → how_many test (map call_at_place (with_verdict lacks_reply told)) ≡ how_many test told
kept_many test lacks told =
    count_by-map call_at_place (λ (o : Opener ℕ). test o.verdict) (with_verdict lacks_reply told)
    ∙ kept_count (λ (o : Opener EventRead). test o.verdict) (λ o. lacks_reply o.verdict) told (λ o there is. lacks o.verdict is)

one_unanswered : (verdict : Verdict) → cond (is_crossed verdict) 1 0 + cond (is_open verdict) 1 0 ≡ cond (is_unanswered verdict) 1 0
one_unanswered Answered = refl
one_unanswered Failed = refl
one_unanswered Replied = refl
one_unanswered Crossed = refl
one_unanswered Open = refl

-- the crossed and the open calls together are the unanswered ones
pub unanswered_many : (told : List (Opener EventRead)) → how_many is_crossed told + how_many is_open told ≡ how_many is_unanswered told
unanswered_many [] = refl
unanswered_many (o ∷ told) =
    let rest = unanswered_many told in
    let here = one_unanswered o.verdict in
    let crossed = sum_by-cons (λ (o : Opener EventRead). cond (is_crossed o.verdict) 1 0) o told in
    let left_open = sum_by-cons (λ (o : Opener EventRead). cond (is_open o.verdict) 1 0) o told in
    let both = sum_by-cons (λ (o : Opener EventRead). cond (is_unanswered o.verdict) 1 0) o told in
    omega (arith, rest, here, crossed, left_open, both)

-- failed, crossed and open calls lack their reply
pub failed_lacks : (verdict : Verdict) → is_failed verdict ≡ true → lacks_reply verdict ≡ true
failed_lacks Failed is = refl
failed_lacks _ is = let no : ⊥ = cc in absurd no

pub crossed_lacks : (verdict : Verdict) → is_crossed verdict ≡ true → lacks_reply verdict ≡ true
crossed_lacks Crossed is = refl
crossed_lacks _ is = let no : ⊥ = cc in absurd no

pub open_lacks : (verdict : Verdict) → is_open verdict ≡ true → lacks_reply verdict ≡ true
open_lacks Open is = refl
open_lacks _ is = let no : ⊥ = cc in absurd no
