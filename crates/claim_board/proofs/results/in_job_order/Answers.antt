use Rattle.claim_board.proofs.Filling.{all_taken}
use Rattle.claim_board.proofs.results.in_job_order.Goals as goal

pub take_from_places-requires : goal.take_from_places-requires
take_from_places-requires g c = all_taken _ _ _ c.put_in_places.ensures
