use Rattle.listing_tables.proofs.CertaintyLaws.{are_of_one_handle, holds_if, is_only_one}
use Rattle.listing_tables.proofs.PairLaws.{leaves}
use Rattle.listing_tables.proofs.certainty.Evidence.certainty_of.Goals as goal

pub returns-in-Some-clause-justified : goal.returns-in-Some-clause-justified
returns-in-Some-clause-justified c =
    is_only_one c.args.self.now c.args.sought.now c.look_at_all.new.fitting
    (holds_if c.in_ok-all_there.all_there c.in_ok-all_there.ensures (cc)) c.in_ok-look_at_all.ensures (cc) c.in-Some.fit c.in-Some.ensures

pub returns-then-message-clause-justified : goal.returns-then-message-clause-justified
returns-then-message-clause-justified c =
    are_of_one_handle c.args.self.now c.args.sought.now c.look_at_all.new.fitting
    (holds_if c.in_ok-all_there.all_there c.in_ok-all_there.ensures (cc)) c.in_ok-look_at_all.ensures (cc) c.if-not-are_alike.ensures

pub returns-then-message-clause-left : goal.returns-then-message-clause-left
returns-then-message-clause-left c =
    leaves c.args.self.now c.args.sought.now c.look_at_all.new.fitting
    (holds_if c.in_ok-all_there.all_there c.in_ok-all_there.ensures (cc)) c.in_ok-look_at_all.ensures (cc) c.if-not-are_alike.ensures
    c.keep_next.new.self c.keep_next.ensures.next.kept

pub returns-else-message-clause-justified : goal.returns-else-message-clause-justified
returns-else-message-clause-justified c =
    are_of_one_handle c.args.self.now c.args.sought.now c.look_at_all.new.fitting
    (holds_if c.in_ok-all_there.all_there c.in_ok-all_there.ensures (cc)) c.in_ok-look_at_all.ensures (cc) c.if-not-are_alike.ensures

pub returns-else-message-clause-left : goal.returns-else-message-clause-left
returns-else-message-clause-left c =
    leaves c.args.self.now c.args.sought.now c.look_at_all.new.fitting
    (holds_if c.in_ok-all_there.all_there c.in_ok-all_there.ensures (cc)) c.in_ok-look_at_all.ensures (cc) c.if-not-are_alike.ensures
    c.look_at_all.new.fitting (λ fit h. h)

pub returns-then-not-are_alike-clause-left : goal.returns-then-not-are_alike-clause-left
returns-then-not-are_alike-clause-left c = record {
  has_all = holds_if c.in_ok-all_there.all_there c.in_ok-all_there.ensures (cc);
  looks = c.in_ok-look_at_all.ensures;
  whole = (cc);
  rank = (cc);
}
