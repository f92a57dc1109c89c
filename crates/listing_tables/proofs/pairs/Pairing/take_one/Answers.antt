use Rattle.std.proofs.Common.{◌≡◌, List, true, refl, sym, ap, subst, ◌∙◌}
use Rattle.std.proofs.lemmas.Result.{on_ok_weaker}
use Rattle.listing_tables.specs.Decisions.{ComesInDoubt, KeepsWaiting}
use Rattle.listing_tables.specs.Pairing.{GuessesFit, MarksFits, messages_of}
use Rattle.listing_tables.specs.declared.fitting.Fitting.{Fitting}
use Rattle.listing_tables.specs.declared.marks.Mark.{Mark}
use Rattle.listing_tables.specs.declared.messages.Message.{Message}
use Rattle.listing_tables.specs.declared.pairs.Pairing.{Pairing}
use Rattle.listing_tables.proofs.PairLaws.{guess_from, on_ok_always}
use Rattle.listing_tables.proofs.pairs.Pairing.take_one.Goals as goal

pub returns-clause-rates : goal.returns-clause-rates
returns-clause-rates c =
    let old = c.args.self.now in
    let mid = c.learn_target.new.self in
    let same = c.in_ok-learn_target.ensures.same in
    let guessed = messages_of c.guess.new.self in
    let fits = c.in_ok-fits.fits in
    on_ok_always c.doubt_all.result (
      fits,
      subst (λ (l : List Message). GuessesFit c.args.sought.now.message.oneway (messages_of old) l old.fitting fits true) (sym (ap messages_of c.doubt_all.ensures.same))
          (guess_from c.args.sought.now.message.oneway old mid guessed old.fitting fits true (ap messages_of same) (ap (λ (p : Pairing). p.fitting) same) c.in_ok-guess.ensures.rates),
    )

pub returns-clause-marks : goal.returns-clause-marks
returns-clause-marks c =
    let old = c.args.self.now in
    let sought = c.args.sought.now in
    let same = c.in_ok-learn_target.ensures.same in
    let guessed = c.guess.new.self.marks.all.items in
    on_ok_always c.doubt_all.result
    (subst (λ (l : List Mark). MarksFits sought.message.oneway old.fitting sought.index old.marks.all.items l)
    (sym (ap (λ (p : Pairing). p.marks.all.items) c.doubt_all.ensures.same))
    (subst (λ (f : Fitting). MarksFits sought.message.oneway f sought.index old.marks.all.items guessed) (ap (λ (p : Pairing). p.fitting) same)
    (subst (λ (l : List Mark). MarksFits sought.message.oneway c.learn_target.new.self.fitting sought.index l guessed)
    (ap (λ (p : Pairing). p.marks.all.items) same) c.in_ok-guess.ensures.marks)))

pub returns-clause-doubts : goal.returns-clause-doubts
returns-clause-doubts c =
    let same = c.in_ok-learn_target.ensures.same in
    let guessed = c.guess.new.self in
    on_ok_weaker c.doubt_all.result
    (λ doubts. (
      guessed.waiting,
      subst (λ (p : Pairing). KeepsWaiting p.waiting guessed.waiting) same c.in_ok-guess.ensures.kept,
      subst (λ (f : Fitting). ComesInDoubt guessed.waiting f.list.items c.args.sought.now.message.key c.doubt_all.new.self.waiting)
          (ap (λ (p : Pairing). p.fitting) c.in_ok-guess.ensures.same ∙ ap (λ (p : Pairing). p.fitting) same) doubts,
    ))
    c.doubt_all.ensures.doubts

pub returns-clause-same : goal.returns-clause-same
returns-clause-same c =
    let guessed = c.guess.new.self in
    let waiting = c.doubt_all.new.self.waiting in
    on_ok_always c.doubt_all.result
    (subst
    (λ (p : Pairing). p ≡ record c.args.self.now { messages = p.messages; meanings = p.meanings; waiting = p.waiting; marks = p.marks })
    (sym (c.doubt_all.ensures.same ∙ ap (λ (p : Pairing). record p { waiting = waiting }) c.in_ok-guess.ensures.same
    ∙ ap (λ (p : Pairing). record p { messages = guessed.messages; waiting = waiting; marks = guessed.marks }) c.in_ok-learn_target.ensures.same))
    refl)
