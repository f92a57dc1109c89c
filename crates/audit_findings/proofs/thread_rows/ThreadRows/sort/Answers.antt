use Rattle.std.proofs.Common.{ℕ, refl, rules}
use Rattle.std.proofs.lemmas.List.Sorted.{IsNonDecreasingBy-from_sort, IsNonDecreasingBy-from_sort_by_key}
use Rattle.call_stacks.specs.declared.findings.RefusedSend.{RefusedSend}
use Rattle.call_stacks.specs.declared.opener.Opener.{Opener}
use Rattle.audit_findings.proofs.thread_rows.ThreadRows.sort.Goals as goal

pub returns : goal.returns
returns c = record {
  made = c.sort_unstable_by_key.ensures.permutation;
  made_rise = IsNonDecreasingBy-from_sort_by_key (λ (o : Opener ℕ). o.event) _ c.sort_unstable_by_key.ensures.sorted (λ a r q k. search rules);
  served = c.sort_unstable_by_key-2.ensures.permutation;
  served_rise = IsNonDecreasingBy-from_sort_by_key (λ (o : Opener ℕ). o.event) _ c.sort_unstable_by_key-2.ensures.sorted (λ a r q k. search rules);
  answered = refl;
  replied = refl;
  strays = c.sort_unstable.ensures.permutation;
  strays_rise = IsNonDecreasingBy-from_sort (λ (n : ℕ). n) _ c.sort_unstable.ensures.sorted;
  sends = c.sort_unstable_by_key-3.ensures.permutation;
  sends_rise = IsNonDecreasingBy-from_sort_by_key (λ (s : RefusedSend ℕ). s.event) _ c.sort_unstable_by_key-3.ensures.sorted (λ a r q k. search rules);
}
