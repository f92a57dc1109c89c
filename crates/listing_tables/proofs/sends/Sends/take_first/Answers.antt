use Rattle.std.proofs.Common.{◌≡◌, Some, slice_get, rules}
use Rattle.std.proofs.lemmas.Option.{slice_get_read}
use Rattle.std.specs.VecDeque.{deque_items}
use Rattle.listing_tables.proofs.SettlingLaws.{takes_first}
use Rattle.listing_tables.proofs.sends.Sends.take_first.Goals as goal

pub returns : goal.returns
returns c =
    let queues = c.args.self.now.queues.all.items in
    let at = c.args.utid.index in
    let before = c.index_mut.result.now in
    let is : slice_get queues at ≡ Some before
    = slice_get_read queues c.len.result at before (search rules) (search rules) c.index_mut.ensures.value in
    takes_first deque_items queues at before c.pop_front.new.self is c.pop_front.result c.pop_front.ensures.items c.pop_front.ensures.rest
