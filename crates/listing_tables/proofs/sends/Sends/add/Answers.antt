use Rattle.std.proofs.Common.{◌≡◌, Some, slice_get, rules}
use Rattle.std.proofs.lemmas.Option.{slice_get_read}
use Rattle.std.specs.VecDeque.{deque_items}
use Rattle.listing_tables.proofs.SettlingLaws.{adds_last}
use Rattle.listing_tables.proofs.sends.Sends.add.Goals as goal

pub returns : goal.returns
returns c =
    let queues = c.args.self.now.queues.all.items in
    let at = c.args.utid.index in
    let before = c.index_mut.result.now in
    let is : slice_get queues at ≡ Some before
    = slice_get_read queues c.len.result at before (search rules) (search rules) c.index_mut.ensures.value in
    adds_last deque_items queues at before c.push_back.new.self is c.args.send c.in_ok-push_back.ensures.items
