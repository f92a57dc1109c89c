use Rattle.std.proofs.Common.{◌∙◌, arith}
use Rattle.std.proofs.lemmas.List.{drop_at}
use Rattle.streams.proofs.stretches.put_header.Goals as goal

pub returns-clause-after : goal.returns-clause-after
returns-clause-after c =
    drop_at c.copy_from_slice.new.self c.split_at_mut-front.result.1.now 16 (omega (arith, c.copy_from_slice.ensures.len, c.split_at_mut-front.ensures.front_len))
    ∙ c.split_at_mut-front.ensures.back
