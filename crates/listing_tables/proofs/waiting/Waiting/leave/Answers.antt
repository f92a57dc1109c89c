use Rattle.std.proofs.Common.{◌≡◌, ◌≤◌, ◌+◌, ◌-◌, ℕ, Bool, true, false, Option, sym, ap, subst, ◌∙◌, arith, IsTrue}
use Rattle.std.specs.BTreeSet.{BTreeSet, contains}
use Rattle.std.specs.Option.{unwrap_or}
use Rattle.listing_tables.specs.declared.waiting.Doubt.{Doubt}
use Rattle.listing_tables.specs.declared.waiting.Waiting.{Waiting}
use Rattle.listing_tables.specs.Waiting.{Entry, doubt_of, entry_cmp, waits}
use Rattle.listing_tables.specs.Doubts.{CountsLeft}
use Rattle.listing_tables.proofs.DoubtLaws.{counted_as}
use Rattle.listing_tables.proofs.WaitingLaws.{leave_doubt, was_there}
use Rattle.listing_tables.proofs.waiting.Waiting.leave.Goals as goal
use Rattle.listing_tables.proofs.waiting.Waiting.leave.Goals.{then-remove+in_ok-one_fewer+in_ok-insert, else-remove}

pub returns-clause-others : goal.returns-clause-others
returns-clause-others c =
    let send = c.args.send in
    let old = c.args.self.now in
    let mid = c.if-remove.self in
    let gone : Entry = (send.key, send.index, send.list) in
    elim c.if-remove.branch [
      | then-remove+in_ok-one_fewer+in_ok-insert w ↦
          let left : doubt_of mid send.key ≡ record { sends = w.in_ok-one_fewer.field-0; came = w.saturating_sub.result }
          = ap (λ (m : Waiting). doubt_of m send.key) w.self-is ∙ ap (λ (o : Option Doubt). unwrap_or o (record { sends = 0; came = 0 })) w.in_ok-insert.ensures.updates.1 in
          leave_doubt old mid c.forget.new.self send.key (ap (λ (m : Waiting). m.untaken) w.self-is) (ap (λ (m : Waiting). m.guessed) w.self-is)
          (λ other h. was_there old.doubted c.remove.new.self gone c.remove.ensures.updates (other.0, other.2, other.1)
          (subst (λ (d : BTreeSet Entry). IsTrue (contains entry_cmp d (other.0, other.2, other.1))) (ap (λ (m : Waiting). m.doubted) w.self-is) h))
          (λ h.
          let all = subst (λ (d : Doubt). d.sends ≤ d.came) left h in
          subst (λ (d : Doubt). d.sends ≤ d.came + 1) w.doubt_of-doubt.ensures
          (omega (arith, all, w.in_ok-one_fewer.ensures, w.saturating_sub.ensures, c.requires)))
          c.forget.ensures.others
      | else-remove w ↦
          leave_doubt old mid c.forget.new.self send.key (ap (λ (m : Waiting). m.untaken) w.self-is) (ap (λ (m : Waiting). m.guessed) w.self-is)
          (λ other h. was_there old.doubted c.remove.new.self gone c.remove.ensures.updates (other.0, other.2, other.1)
          (subst (λ (d : BTreeSet Entry). IsTrue (contains entry_cmp d (other.0, other.2, other.1))) (ap (λ (m : Waiting). m.doubted) w.self-is) h))
          (λ h.
          let all = subst (λ (m : Waiting). (doubt_of m send.key).sends ≤ (doubt_of m send.key).came) w.self-is h in
          omega (arith, all))
          c.forget.ensures.others
    ]

pub returns-clause-fewer : goal.returns-clause-fewer
returns-clause-fewer c = λ other h.
    let old = c.args.self.now in
    let mid = c.if-remove.self in
    let here : IsTrue (waits mid other) = c.forget.ensures.fewer other h in
    elim c.if-remove.branch [
      | then-remove+in_ok-one_fewer+in_ok-insert w ↦ subst (λ (m : Waiting). IsTrue (waits m other)) w.self-is here
      | else-remove w ↦ subst (λ (m : Waiting). IsTrue (waits m other)) w.self-is here
    ]

pub returns-clause-counted : goal.returns-clause-counted
returns-clause-counted c =
    let send = c.args.send in
    let key = send.key in
    let new = c.forget.new.self in
    let mid = c.if-remove.self in
    record {
      doubted = λ was. elim c.if-remove.branch [
        | then-remove+in_ok-one_fewer+in_ok-insert w ↦
            let doubt = w.doubt_of-doubt.result in
            let left : doubt_of mid key ≡ record { sends = w.in_ok-one_fewer.field-0; came = w.saturating_sub.result }
            = ap (λ (m : Waiting). doubt_of m key) w.self-is ∙ ap (λ (o : Option Doubt). unwrap_or o (record { sends = 0; came = 0 })) w.in_ok-insert.ensures.updates.1 in
            let counts = counted_as mid new key w.in_ok-one_fewer.field-0 w.saturating_sub.result left c.forget.ensures.counted in
            let fewer : w.in_ok-one_fewer.field-0 ≡ doubt.sends - 1 = omega (arith, w.in_ok-one_fewer.ensures) in
            subst (λ (d : Doubt). CountsLeft (d.sends - 1) (d.came - c.args.came) key new) w.doubt_of-doubt.ensures
            (subst (λ (n : ℕ). CountsLeft (doubt.sends - 1) n key new) w.saturating_sub.ensures
            (subst (λ (n : ℕ). CountsLeft n w.saturating_sub.result key new) fewer counts))
        | else-remove w ↦ absurd (not_both _ (sym c.remove.ensures.test ∙ w.if-remove.false) was)
      ];
      other = λ was. elim c.if-remove.branch [
        | then-remove+in_ok-one_fewer+in_ok-insert w ↦ absurd (not_both _ was (sym c.remove.ensures.test ∙ w.if-remove.true))
        | else-remove w ↦ subst (λ (m : Waiting). CountsLeft (doubt_of m key).sends (doubt_of m key).came key new) w.self-is c.forget.ensures.counted
      ];
    }
  where
    not_both : (b : Bool) → b ≡ false → b ≡ true → ⊥
    not_both b e f = cc
