use Rattle.std.proofs.Common.{rules}
use Rattle.pending_ledger.proofs.requests.change_cookie.Goals as goal

pub returns-in-Request : goal.returns-in-Request
returns-in-Request c = search rules
