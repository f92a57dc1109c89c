use Rattle.std.proofs.Common.{◌≡◌, ℕ, List, length, take, Ok, refl, sym, ap, ap₂, ◌∙◌, arith}
use Rattle.std.proofs.lemmas.List.{take_rest, length-drop}
use Rattle.binder_code.specs.Code.{size}
use Rattle.binder_code.specs.Commands.{kind_of}
use Rattle.binder_code.proofs.WordLaws.{kind_of-by_word}
use Rattle.record_view.specs.Records.{RecordText, code_at}
use Rattle.record_view.proofs.RecordLaws.{record_good}
use Rattle.record_view.proofs.records.record_at.Goals as goal

pub invariant_of-result-clause-by_code : goal.invariant_of-result-clause-by_code
invariant_of-result-clause-by_code c = kind_of-by_word c.args.protocol c.u32_at.result c.in-Ok.kind (sym c.kind.ensures.exact ∙ c.in-Ok.is)

pub returns : goal.returns
returns c =
    let bytes = c.args.bytes.now in
    let sized : c.from-size.result ≡ size (code_at bytes) = c.from-size.ensures ∙ c.size.ensures ∙ ap size c.u32_at.ensures in
    let left = ap length (take_rest bytes 4) ∙ length-drop 4 bytes in
    let made : ℕ → List ℕ → RecordText = λ code payload. record { code = code; payload = payload } in
    let payload = c.split_at.ensures.front ∙ ap₂ (λ (n : ℕ) (t : List ℕ). take n t) sized (take_rest bytes 4) in
    let means = ap (kind_of c.args.protocol) (sym c.u32_at.ensures) ∙ sym c.kind.ensures.exact ∙ c.in-Ok.is in (
      record_good c.args.protocol bytes c.in-Ok.kind means (omega (arith, sized, left, c.if-rest-size.false, c.if-bytes-lt-CODE.false))
          ∙ ap Ok (sym (ap₂ made c.u32_at.ensures payload)),
      refl,
    )
