use Rattle.std.proofs.Common.{List, true, false, inl, inr, refl, sym, ap, ◌∙◌, subst}
use Rattle.listing_tables.specs.Decisions.{ComesInDoubt}
use Rattle.std.proofs.lemmas.Result.{on_ok_weaker}
use Rattle.listing_tables.specs.Changes.{RatesPair}
use Rattle.listing_tables.specs.Pairing.{MarksFits, PairsDelivery, messages_of}
use Rattle.listing_tables.specs.declared.marks.Mark.{Mark}
use Rattle.listing_tables.specs.declared.messages.Message.{Message}
use Rattle.listing_tables.specs.declared.pairs.Pairing.{Pairing}
use Rattle.listing_tables.specs.declared.fitting.Fitting.{Fitting}
use Rattle.listing_tables.proofs.DecisionLaws.{crowded_still, decides_none, decides_one, decides_sure}
use Rattle.listing_tables.proofs.PairLaws.{guess_from, on_ok_always, on_ok_both, pairs_guess, pairs_one, pairs_only}
use Rattle.listing_tables.proofs.pairs.Pairing.pair_delivery.Goals as goal

pub returns-in-Sure-clause-pairs : goal.returns-in-Sure-clause-pairs
returns-in-Sure-clause-pairs c =
    let sought = c.args.sought.now in
    let fit = c.in-Sure.fit in
    let new = messages_of c.take.new.self in
    let only = rw c.in-Sure.is at c.in_ok-certainty.ensures.justified in
    let same = ap messages_of c.in_ok-note_crowded.ensures.same in
    on_ok_weaker c.take.result
    (λ pair. pairs_only c.args.self.now sought new _ fit
    (record { messages = refl; calls = refl; generations = refl; seen = refl; meanings = refl; waiting = refl; marks = refl })
    only (subst (λ (l : List Message). RatesPair l new fit.listed.index sought.index 1 true) same pair))
    c.take.ensures.pair

pub returns-in-OneHandle-clause-pairs : goal.returns-in-OneHandle-clause-pairs
returns-in-OneHandle-clause-pairs c =
    let mid = c.note_crowded.new.self in
    let same = c.in_ok-note_crowded.ensures.same in
    let new = messages_of c.take_one.new.self in
    let fitting = c.certainty_of.new.fitting in
    let left = rw c.in-OneHandle.is at c.in_ok-certainty.ensures.left in
    on_ok_weaker c.take_one.result
    (λ found. pairs_one c.args.self.now c.args.sought.now new c.args.sought.now.message.oneway _ fitting found.0
    (record { messages = refl; calls = refl; generations = refl; seen = refl; meanings = refl; waiting = refl; marks = refl })
    left (guess_from c.args.sought.now.message.oneway c.args.self.now mid new fitting found.0 true (ap messages_of same) (ap (λ (p : Pairing). p.fitting) same) found.1))
    c.take_one.ensures.rates

pub returns-in_ok-guess-in-Several-clause-pairs : goal.returns-in_ok-guess-in-Several-clause-pairs
returns-in_ok-guess-in-Several-clause-pairs c =
    let mid = c.note_crowded.new.self in
    let same = c.in_ok-note_crowded.ensures.same in
    let guessed = messages_of c.guess.new.self in
    on_ok_always c.doubt_all.result
    (subst (λ (l : List Message). PairsDelivery c.args.self.now c.args.sought.now l) (sym (ap messages_of c.doubt_all.ensures.same))
    (pairs_guess c.args.self.now c.args.sought.now guessed mid.fitting c.in_ok-fits.fits
    (guess_from c.args.sought.now.message.oneway c.args.self.now mid guessed mid.fitting c.in_ok-fits.fits false (ap messages_of same) refl c.in_ok-guess-in-Several.ensures.rates)))

pub returns-in_ok-one_more-in-Unknown-clause-pairs : goal.returns-in_ok-one_more-in-Unknown-clause-pairs
returns-in_ok-one_more-in-Unknown-clause-pairs c =
    let mid = c.note_crowded.new.self in
    let same = c.in_ok-note_crowded.ensures.same in
    let guessed = messages_of c.guess-in-Unknown.new.self in
    on_ok_weaker c.guess-in-Unknown.result
    (λ found. pairs_guess c.args.self.now c.args.sought.now guessed mid.fitting c.in_ok-one_more-in-Unknown.field-0
    (guess_from c.args.sought.now.message.oneway c.args.self.now mid guessed mid.fitting c.in_ok-one_more-in-Unknown.field-0 false (ap messages_of same) refl found))
    c.guess-in-Unknown.ensures.rates

pub returns-in-Sure-clause-facts : goal.returns-in-Sure-clause-facts
returns-in-Sure-clause-facts c =
    on_ok_weaker c.take.result
    (λ same. ap (λ (p : Pairing). p.facts) same ∙ ap (λ (p : Pairing). p.facts) c.in_ok-note_crowded.ensures.same)
    c.take.ensures.same

pub returns-in-OneHandle-clause-facts : goal.returns-in-OneHandle-clause-facts
returns-in-OneHandle-clause-facts c =
    on_ok_weaker c.take_one.result
    (λ same. ap (λ (p : Pairing). p.facts) same ∙ ap (λ (p : Pairing). p.facts) c.in_ok-note_crowded.ensures.same)
    c.take_one.ensures.same

pub returns-in_ok-guess-in-Several-clause-facts : goal.returns-in_ok-guess-in-Several-clause-facts
returns-in_ok-guess-in-Several-clause-facts c =
    on_ok_always c.doubt_all.result
    (ap (λ (p : Pairing). p.facts) c.doubt_all.ensures.same ∙ ap (λ (p : Pairing). p.facts) c.in_ok-guess-in-Several.ensures.same
    ∙ ap (λ (p : Pairing). p.facts) c.in_ok-note_crowded.ensures.same)

pub returns-in_ok-one_more-in-Unknown-clause-facts : goal.returns-in_ok-one_more-in-Unknown-clause-facts
returns-in_ok-one_more-in-Unknown-clause-facts c =
    on_ok_weaker c.guess-in-Unknown.result
    (λ same. ap (λ (p : Pairing). p.facts) same ∙ ap (λ (p : Pairing). p.facts) c.in_ok-note_crowded.ensures.same)
    c.guess-in-Unknown.ensures.same

pub returns-in-Sure-clause-decided : goal.returns-in-Sure-clause-decided
returns-in-Sure-clause-decided c =
    let taken = c.take.ensures in
    on_ok_weaker c.take.result
    (λ all. decides_sure c.args.self.now c.note_crowded.new.self c.take.new.self c.args.sought.now _
    (record { messages = refl; calls = refl; generations = refl; seen = refl; meanings = refl; waiting = refl; marks = refl })
    c.certainty_of.new.fitting c.in_ok-note_crowded.ensures.same c.in-Sure.fit (rw c.in-Sure.is at c.in_ok-certainty.ensures.justified)
    all.0 (ap (λ (p : Pairing). p.marks) all.1.0) all.1.1.0 all.1.1.1.0 all.1.1.1.1.0 all.1.1.1.1.1)
    (on_ok_both _ _ c.take.result taken.pair (on_ok_both _ _ c.take.result taken.same
    (on_ok_both _ _ c.take.result taken.gone (on_ok_both _ _ c.take.result taken.others
    (on_ok_both _ _ c.take.result taken.counts taken.news)))))

pub returns-in-OneHandle-clause-decided : goal.returns-in-OneHandle-clause-decided
returns-in-OneHandle-clause-decided c =
    let taken = c.take_one.ensures in
    on_ok_weaker c.take_one.result
    (λ all. decides_one c.args.self.now c.note_crowded.new.self c.take_one.new.self c.args.sought.now _
    (record { messages = refl; calls = refl; generations = refl; seen = refl; meanings = refl; waiting = refl; marks = refl })
    c.certainty_of.new.fitting c.in_ok-note_crowded.ensures.same (ap (λ (p : Pairing). p.fitting) all.0) (ap (λ (p : Pairing). p.news) all.0)
    all.1.0 (inr (rw c.in-OneHandle.is at c.in_ok-certainty.ensures.left)) all.1.1.0 all.1.1.1 all.1.1.2)
    (on_ok_both _ _ c.take_one.result taken.same (on_ok_both _ _ c.take_one.result taken.marks taken.doubts))

pub returns-in_ok-guess-in-Several-clause-decided : goal.returns-in_ok-guess-in-Several-clause-decided
returns-in_ok-guess-in-Several-clause-decided c =
    let guessed = c.guess.new.self in
    let was = c.in_ok-guess-in-Several.ensures in
    let new = c.doubt_all.new.self in
    let same = c.doubt_all.ensures.same in
    let sought = c.args.sought.now in
    let mid = c.note_crowded.new.self in
    on_ok_weaker c.doubt_all.result
    (λ doubts. decides_one c.args.self.now mid new sought _
    (record { messages = refl; calls = refl; generations = refl; seen = refl; meanings = refl; waiting = refl; marks = refl })
    c.certainty_of.new.fitting c.in_ok-note_crowded.ensures.same
    (ap (λ (p : Pairing). p.fitting) same ∙ ap (λ (p : Pairing). p.fitting) was.same)
    (ap (λ (p : Pairing). p.news) same ∙ ap (λ (p : Pairing). p.news) was.same)
    (subst (λ (l : List Mark). MarksFits sought.message.oneway mid.fitting sought.index mid.marks.all.items l)
    (sym (ap (λ (p : Pairing). p.marks.all.items) same)) was.marks)
    (inl (rw c.in-Several.is at c.in_ok-certainty.ensures.left)) guessed.waiting was.kept
    (subst (λ (f : Fitting). ComesInDoubt guessed.waiting f.list.items sought.message.key new.waiting) (ap (λ (p : Pairing). p.fitting) was.same) doubts))
    c.doubt_all.ensures.doubts

pub returns-in_ok-one_more-in-Unknown-clause-decided : goal.returns-in_ok-one_more-in-Unknown-clause-decided
returns-in_ok-one_more-in-Unknown-clause-decided c =
    let is = c.guess-in-Unknown.ensures in
    let result = c.guess-in-Unknown.result in
    on_ok_weaker result
    (λ all. decides_none c.args.self.now c.note_crowded.new.self c.guess-in-Unknown.new.self c.args.sought.now _
    (record { messages = refl; calls = refl; generations = refl; seen = refl; meanings = refl; waiting = refl; marks = refl })
    c.certainty_of.new.fitting c.in_ok-note_crowded.ensures.same (ap (λ (p : Pairing). p.fitting) all.0) (ap (λ (p : Pairing). p.news) all.0)
    all.1.0 (rw c.in-Unknown.is at c.in_ok-certainty.ensures.left) all.1.1)
    (on_ok_both _ _ result is.same (on_ok_both _ _ result is.marks is.kept))

pub returns-in-Sure-clause-crowded : goal.returns-in-Sure-clause-crowded
returns-in-Sure-clause-crowded c =
    let noted = c.in_ok-note_crowded.ensures in
    on_ok_weaker c.take.result
    (λ same. crowded_still c.args.self.now c.note_crowded.new.self c.take.new.self c.args.sought.now c.certainty_of.new.fitting noted.same noted.noted noted.stays
    (ap (λ (p : Pairing). p.fitting) same) (ap (λ (p : Pairing). p.crowded) same))
    c.take.ensures.same

pub returns-in-OneHandle-clause-crowded : goal.returns-in-OneHandle-clause-crowded
returns-in-OneHandle-clause-crowded c =
    let noted = c.in_ok-note_crowded.ensures in
    on_ok_weaker c.take_one.result
    (λ same. crowded_still c.args.self.now c.note_crowded.new.self c.take_one.new.self c.args.sought.now c.certainty_of.new.fitting noted.same noted.noted noted.stays
    (ap (λ (p : Pairing). p.fitting) same) (ap (λ (p : Pairing). p.crowded) same))
    c.take_one.ensures.same

pub returns-in_ok-one_more-in-Unknown-clause-crowded : goal.returns-in_ok-one_more-in-Unknown-clause-crowded
returns-in_ok-one_more-in-Unknown-clause-crowded c =
    let noted = c.in_ok-note_crowded.ensures in
    on_ok_weaker c.guess-in-Unknown.result
    (λ same. crowded_still c.args.self.now c.note_crowded.new.self c.guess-in-Unknown.new.self c.args.sought.now c.certainty_of.new.fitting noted.same noted.noted noted.stays
    (ap (λ (p : Pairing). p.fitting) same) (ap (λ (p : Pairing). p.crowded) same))
    c.guess-in-Unknown.ensures.same

pub returns-in_ok-guess-in-Several-clause-crowded : goal.returns-in_ok-guess-in-Several-clause-crowded
returns-in_ok-guess-in-Several-clause-crowded c =
    let noted = c.in_ok-note_crowded.ensures in
    let same = c.doubt_all.ensures.same in
    let was = c.in_ok-guess-in-Several.ensures.same in
    on_ok_always c.doubt_all.result
    (crowded_still c.args.self.now c.note_crowded.new.self c.doubt_all.new.self c.args.sought.now c.certainty_of.new.fitting noted.same noted.noted noted.stays
    (ap (λ (p : Pairing). p.fitting) same ∙ ap (λ (p : Pairing). p.fitting) was) (ap (λ (p : Pairing). p.crowded) same ∙ ap (λ (p : Pairing). p.crowded) was))
