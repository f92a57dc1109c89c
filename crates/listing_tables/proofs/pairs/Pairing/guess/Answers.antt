use Rattle.std.proofs.Common.{◌≡◌, List, Some, None, inl, inr, refl, sym, ap, subst}
use Rattle.std.proofs.lemmas.Result.{on_ok_weaker}
use Rattle.listing_tables.specs.Changes.{Rates}
use Rattle.listing_tables.specs.Decisions.{KeepsWaiting}
use Rattle.listing_tables.specs.Guesses.{IsGuess}
use Rattle.listing_tables.specs.Pairing.{messages_of}
use Rattle.listing_tables.specs.declared.fitting.Fitting.{Fitting}
use Rattle.listing_tables.specs.declared.messages.Message.{Message}
use Rattle.listing_tables.specs.declared.pairs.Pairing.{Pairing}
use Rattle.listing_tables.proofs.DecisionLaws.{keeps_itself}
use Rattle.listing_tables.proofs.PairLaws.{on_ok_always}
use Rattle.listing_tables.proofs.pairs.Pairing.guess.Goals as goal

pub returns-clause-rates : goal.returns-clause-rates
returns-clause-rates c =
    let fit = c.in-Some.fit in
    let new = c.rate.new.self.list.all.items in
    let oneway = c.args.sought.now.message.oneway in
    let marked = c.in_ok-mark_all.ensures.same in
    let best = rw c.in-Some.is at c.best.ensures in
    on_ok_weaker c.rate.result
    (λ rates. inr (
      fit,
      subst (λ (f : Fitting). IsGuess oneway f.list.items (Some fit)) (ap (λ (p : Pairing). p.fitting) marked) best,
      subst (λ (l : List Message). Rates l new fit.listed.index c.args.fits c.args.certain) (ap messages_of marked) rates,
    ))
    c.rate.ensures

pub returns-in_default-clause-rates : goal.returns-in_default-clause-rates
returns-in_default-clause-rates c =
    let oneway = c.args.sought.now.message.oneway in
    let marked = c.in_ok-mark_all.ensures.same in
    let best = rw c.in_default.is at c.best.ensures in
    inl (
      ap messages_of marked,
      subst (λ (f : Fitting). IsGuess oneway f.list.items None) (ap (λ (p : Pairing). p.fitting) marked) best,
    )

pub returns-clause-marks : goal.returns-clause-marks
returns-clause-marks c =
    let fit = c.in-Some.fit in
    let oneway = c.args.sought.now.message.oneway in
    let best = rw c.in-Some.is at c.best.ensures in
    on_ok_always c.rate.result (record {
      between = c.mark_all.new.self.marks.all.items;
      marked = c.in_ok-mark_all.ensures.marks;
      unmarked = λ h. ap (λ (p : Pairing). p.marks.all.items) (c.in_ok-mark_all.ensures.none h);
      noted = inr (
        fit,
        subst (λ (f : Fitting). IsGuess oneway f.list.items (Some fit)) (ap (λ (p : Pairing). p.fitting) c.in_ok-mark_all.ensures.same) best,
        c.in_ok-note_guess.ensures,
      );
    })

pub returns-in_default-clause-marks : goal.returns-in_default-clause-marks
returns-in_default-clause-marks c =
    let oneway = c.args.sought.now.message.oneway in
    let best = rw c.in_default.is at c.best.ensures in
    record {
      between = c.mark_all.new.self.marks.all.items;
      marked = c.in_ok-mark_all.ensures.marks;
      unmarked = λ h. ap (λ (p : Pairing). p.marks.all.items) (c.in_ok-mark_all.ensures.none h);
      noted = inl (
        subst (λ (f : Fitting). IsGuess oneway f.list.items None) (ap (λ (p : Pairing). p.fitting) c.in_ok-mark_all.ensures.same) best,
        refl,
      );
    }

pub returns-clause-kept : goal.returns-clause-kept
returns-clause-kept c =
    let guessed = c.in_ok-guess.ensures in
    on_ok_always c.rate.result
    (subst (λ (p : Pairing). KeepsWaiting p.waiting c.guess.new.self) c.in_ok-mark_all.ensures.same
    (record { waits = guessed.kept; doubted = guessed.doubted; doubts = guessed.doubts }))

pub returns-in_default-clause-kept : goal.returns-in_default-clause-kept
returns-in_default-clause-kept c =
    subst (λ (p : Pairing). KeepsWaiting p.waiting c.mark_all.new.self.waiting) c.in_ok-mark_all.ensures.same
    (keeps_itself c.mark_all.new.self.waiting)

pub returns-clause-same : goal.returns-clause-same
returns-clause-same c =
    on_ok_always c.rate.result
    (ap (λ (p : Pairing). record p { messages = c.rate.new.self; waiting = c.guess.new.self; marks = c.note_guess.new.marks })
    c.in_ok-mark_all.ensures.same)

pub returns-in_default-clause-same : goal.returns-in_default-clause-same
returns-in_default-clause-same c =
    subst
    (λ (p : Pairing). p ≡ record c.args.self.now { messages = p.messages; waiting = p.waiting; marks = p.marks })
    (sym c.in_ok-mark_all.ensures.same) refl
