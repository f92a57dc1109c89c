use Rattle.std.proofs.Common.{◌≡◌, ◌++◌, flat_map, drop, map, sym, ap, ◌∙◌, take, length, arith}
use Rattle.std.proofs.lemmas.List.{length-map}
use Rattle.streams.proofs.StretchLaws.{joined_all}
use Rattle.streams.proofs.stretches.read_stretches.Goals as goal

pub returns-in-Some-of_one_capture-clause-read : goal.returns-in-Some-of_one_capture-clause-read
returns-in-Some-of_one_capture-clause-read g c =
    let made = c.in_ok-parts-2.parts.items in
    let same = c.in-Some-of_one_capture.ensures.same in
    let kept = c.in-Some-of_one_capture.parts.items in
    let front = map (λ part. part.items) c.in_ok-parts.parts.items in
    let within = c.in-Some-of_one_capture.ensures.within in
    let bodies : flat_map (drop 16) (map (λ part. part.items) kept) ≡ flat_map (drop 16) front ++ drop 16 c.in_ok-rest.rest.items
    = ap (λ parts. flat_map (drop 16) (map (λ part. part.items) parts)) same ∙ c.in_ok-parts-2.ensures.read.1 in
    record {
      version = c.in-Some.version;
      same = c.in-Some-of_one_capture.ensures.version;
      some = omega (
        arith,
        c.in_ok-parts-2.ensures.read.0,
        c.in_ok-parts.ensures.read.0,
        c.in_ok-parts.parts.ok.0,
        c.in_ok-parts-2.parts.ok.0,
        length-map c.in_ok-parts.parts.items (λ part. part.items),
        length-map kept (λ part. part.items),
        ap length same,
      );
      within = within;
      are = joined_all (g.F.SharedFiles.known c.args.files.now c.args.name.now) c.in-Some.version c.in_ok-head.head.items front
          _ (map (λ part. part.items) kept) c.args.found.size c.args.limit (omega (arith, c.if-size.false)) (omega (arith, c.if-most-size.false)) within
          c.in_ok-head.ensures.bytes (ap (take 16) (sym c.as_slice.ensures.value) ∙ c.in-Some.ensures.printed) c.in_ok-parts.ensures.read c.in_ok-rest.ensures.read bodies;
    }
