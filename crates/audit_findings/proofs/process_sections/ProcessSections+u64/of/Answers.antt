use Rattle.std.proofs.Common.{◌∙◌}
use Rattle.std.proofs.lemmas.Result.{IfOk-at_ok}
use Rattle.audit_findings.proofs.process_sections.ProcessSections+u64.of.Goals as goal

pub returns : goal.returns
returns c frames of unfreed listed rise =
    let whole = c.in_ok-handles.ensures in
    let first = IfOk-at_ok _ whole.0 c.both.ensures in
    let second = IfOk-at_ok _ whole.1 c.both-2.ensures in
    let references = IfOk-at_ok _ first.0 c.both-references.ensures in
    let buffers = IfOk-at_ok _ first.1 c.both-buffers.ensures in
    let pairs = IfOk-at_ok _ second.0 c.both-pairs.ensures in
    let others = IfOk-at_ok _ second.1 c.both-others.ensures in
    let handles = IfOk-at_ok _ references.0 c.handles_of.ensures frames listed in
    let nodes = IfOk-at_ok _ references.1 c.nodes_of.ensures frames of in
    let leaked = c.of.ensures ∙ IfOk-at_ok _ buffers.0 c.gathered.ensures frames rise unfreed in
    let strays = c.of-2.ensures ∙ IfOk-at_ok _ buffers.1 c.places_of.ensures frames of rise in
    let standing = c.of-3.ensures ∙ IfOk-at_ok _ others.0 c.places_of-2.ensures frames of rise in
    let deaths = IfOk-at_ok _ pairs.0 c.open_and_stray_of.ensures frames of rise in
    let clears = IfOk-at_ok _ pairs.1 c.open_and_stray_of-2.ensures frames of rise in
    let oneway = IfOk-at_ok _ others.1 c.oneway_rows.ensures frames of in
    λ i. record {
      handles = handles i;
      nodes = nodes i;
      leaked = leaked i;
      stray_frees = strays i;
      standing = standing i;
      deaths = deaths i;
      clears = clears i;
      oneway = oneway i;
    }
