use Rattle.std.proofs.Common.{◌++◌, List, ℕ, ap, get_or, sym, subst, arith}
use Rattle.std.specs.Ordering.{nat_cmp}
use Rattle.summary_law.specs.Fits.{IsShort}
use Rattle.summary_law.specs.Tally.{TallySums}
use Rattle.audit_findings.specs.CodeCounts.{listed_words}
use Rattle.audit_findings.proofs.LineCounts.{both_counted, counts-append, counts-le-length}
use Rattle.audit_findings.proofs.OpaqueWords.{items-append, opaque_items, opaque_few}
use Rattle.audit_findings.proofs.code_counts.CodeCounts.join.Goals as goal

pub add_all-requires : goal.add_all-requires
add_all-requires c = record {
  few = λ k.
      let first = c.requires.0 in
      let second = c.requires.1 in
      let own = ap (λ (counts : List ℕ). get_or counts k 0) c.requires.2.listed in
      let others = ap (λ (counts : List ℕ). get_or counts k 0) c.requires.3.listed in
      let both = counts-append first second listed_words k in
      let most = counts-le-length (first ++ second) listed_words k in
      omega (arith, own, others, both, most, c.requires.4);
}

pub join-requires : goal.join-requires
join-requires c =
    let first = c.requires.0 in
    let second = c.requires.1 in (
      opaque_items first,
      opaque_items second,
      c.requires.2.opaque,
      c.requires.3.opaque,
      subst IsShort (items-append first second) (opaque_few (first ++ second) c.requires.4),
    )

pub returns : goal.returns
returns c first second sums others short = record {
  listed = both_counted first second c.args.self.listed c.args.later.listed c.add_all.new.counts sums.listed others.listed c.add_all.array_long c.add_all.ensures;
  opaque = subst (TallySums nat_cmp c.in_ok-opaque.opaque) (sym (items-append first second))
      (c.in_ok-opaque.ensures (opaque_items first) (opaque_items second) sums.opaque others.opaque
      (subst IsShort (items-append first second) (opaque_few (first ++ second) short)));
}
