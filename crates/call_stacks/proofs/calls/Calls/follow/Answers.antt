use Rattle.std.proofs.Common.{◌≡◌, ◌++◌, ◌∷◌, [], true, false, Option, Some, None, refl, ap, sym, ◌∙◌}
use Rattle.std.specs.Option.{is_some, option_or}
use Rattle.event_core.specs.contracts.marks.Bracket.{the_type}
use Rattle.event_core.specs.declared.marks.Bracket.{Bracket}
use Rattle.event_core.specs.declared.marks.Bracket.TheVariants.{Call, Served, Reply, Sent, Error, Refused, Neither}
use Rattle.event_core.specs.declared.marks.Mark.{Mark}
use Rattle.call_stacks.specs.declared.calls.Calls.{Calls}
use Rattle.call_stacks.specs.Calls.{bracket_read, is_error, mark_read}
use Rattle.call_stacks.specs.Content.{Content, content_of}
use Rattle.call_stacks.proofs.Sums.{holds, sums, add_undecided, add_entered, enters_last}
use Rattle.call_stacks.proofs.calls.Calls.follow.Goals as goal
use Rattle.call_stacks.proofs.calls.Calls.follow.Goals.{then-is_none+then-eq, else-is_none+in_ok-enter, else-is_none-via-then-is_none+else-eq, else-is_none-via-else-is_none}
use denote.Enum.Bare.{sameb}

same_error : (bracket : Bracket) → sameb the_type bracket Error ≡ is_error bracket
same_error Call = refl
same_error Served = refl
same_error Reply = refl
same_error Sent = refl
same_error Error = refl
same_error Refused = refl
same_error Neither = refl

none_is : (o : Option Mark) → is_some o ≡ false → o ≡ None
none_is None e = refl
none_is (Some mark) e = absurd cc

not_none : (o : Option Mark) → is_some o ≡ true → o ≡ None → ⊥
not_none None e none = cc
not_none (Some mark) e none = cc

-- what a value holds, with this mark as the latest one
abbrev with_last : {E : Type 0} → Option Mark → Calls E → Content E
with_last mark calls = record (content_of calls) { last = mark }

pub returns : goal.returns
returns g c = λ events summed placed.
    let reads = g.E.CallRecord.reads in
    let all_kept = g.E.CallRecord.all_kept in
    let old = content_of c.args.self.now in
    let event = c.args.event in
    let held = holds reads all_kept c.args.self.now events summed in
    let last = λ (o : Option Mark). option_or (mark_read reads event) o in
    let mark_is : c.or-self.result ≡ last c.if-is_none.self.last
    = c.or-self.ensures ∙ ap (λ o. option_or o c.if-is_none.self.last) c.mark.ensures in
    sums reads all_kept _ (events ++ event ∷ [])
    (elim c.if-is_none.branch [
      | then-is_none+then-eq w ↦
          let none : old.last ≡ None = none_is old.last w.if-is_none.ensures in
          let same : is_error c.bracket-bracket.result ≡ true = sym (same_error c.bracket-bracket.result) ∙ sym w.eq.ensures ∙ w.if-eq.true in
          let error : is_error (bracket_read reads None event) ≡ true
          = ap (λ o. is_error (bracket_read reads o event)) (sym none) ∙ ap is_error (sym c.bracket-bracket.ensures) ∙ same in
          let mark_then : c.or-self.result ≡ last old.last = mark_is ∙ ap (λ (v : Calls _). last v.last) w.self-is in
          add_undecided reads all_kept old _ events event held placed none error
          (ap (with_last c.or-self.result) w.self-is ∙ ap (λ o. record old { last = o; undecided = Some event }) mark_then)
      | else-is_none+in_ok-enter w ↦
          add_entered reads all_kept old (content_of w.enter.new.self) _ events event c.bracket-bracket.result held placed c.bracket-bracket.ensures
          (λ none. elim w.else-is_none.branch [
            | else-is_none-via-then-is_none+else-eq v ↦
                ap (λ o. is_error (bracket_read reads o event)) (sym none) ∙ ap is_error (sym c.bracket-bracket.ensures)
                ∙ sym (same_error c.bracket-bracket.result) ∙ sym v.eq.ensures ∙ v.if-eq.false
            | else-is_none-via-else-is_none v ↦ absurd (not_none old.last v.if-is_none.ensures none)
          ])
          w.in_ok-enter.ensures
          (ap (with_last c.or-self.result) w.self-is
          ∙ ap (λ o. record (content_of w.enter.new.self) { last = o })
          (mark_is ∙ ap (λ (v : Calls _). last v.last) w.self-is
          ∙ ap last (enters_last reads all_kept c.bracket-bracket.result event old (content_of w.enter.new.self) w.in_ok-enter.ensures)))
    ])
