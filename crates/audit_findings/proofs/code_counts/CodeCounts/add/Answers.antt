use Rattle.std.proofs.Common.{ℕ, ◌+◌, [], ◌∷◌, ◌++◌, List, get_or, set, sym, ap, subst, ◌∙◌, arith, length-append}
use Rattle.std.proofs.lemmas.Result.{on_ok_weaker}
use Rattle.std.specs.Ordering.{nat_cmp}
use Rattle.summary_law.specs.Fits.{IsShort}
use Rattle.summary_law.specs.Tally.{TallySums}
use Rattle.summary_law.proofs.Members.{get_in}
use Rattle.binder_code.proofs.WordKinds.{kind_of_meant}
use Rattle.audit_findings.specs.CodeCounts.{listed_words}
use Rattle.audit_findings.proofs.LineCounts.{counts-le-length, own_key_counts, other_keys_stay, place_within, word_at, words_apart}
use Rattle.audit_findings.proofs.OpaqueWords.{no_item, not_opaque, one_item, opaque_items, opaque_few, opaque_word}
use Rattle.audit_findings.proofs.code_counts.CodeCounts.add.Goals as goal

pub add-requires : goal.add-requires
add-requires c =
    let word = c.args.code.0 in
    let words = c.requires.few.0 in
    let opaque = opaque_word word (kind_of_meant word c.args.kind c.requires.meant ∙ c.in-Opaque.is) in
    (opaque_items words, c.requires.few.1.opaque, subst IsShort (one_item words word opaque) (opaque_few (words ++ word ∷ []) c.requires.few.2))

pub returns-in-Opaque : goal.returns-in-Opaque
returns-in-Opaque c =
    let word = c.args.code.0 in
    let opaque = opaque_word word (kind_of_meant word c.args.kind c.requires.meant ∙ c.in-Opaque.is) in
    on_ok_weaker c.add.result
    (λ tally words sums short. record {
      listed = sums.listed ∙ sym (other_keys_stay words word listed_words (λ there. let listed = not_opaque word there in absurd cc));
      opaque = subst (TallySums nat_cmp c.add.new.self) (sym (one_item words word opaque))
          (tally (opaque_items words) sums.opaque (subst IsShort (one_item words word opaque) (opaque_few (words ++ word ∷ []) short)));
    })
    c.add.ensures

pub bounds-self-place : goal.bounds-self-place
bounds-self-place c = place_within c.args.kind c.place.result c.args.code.0 c.place.ensures c.in_default.not-Opaque c.requires.meant

pub bounds-self-place-in_default : goal.bounds-self-place-in_default
bounds-self-place-in_default c = place_within c.args.kind c.place.result c.args.code.0 c.place.ensures c.in_default.not-Opaque c.requires.meant

pub offset_bounds-self-place : goal.offset_bounds-self-place
offset_bounds-self-place c =
    let inside = place_within c.args.kind c.place.result c.args.code.0 c.place.ensures c.in_default.not-Opaque c.requires.meant in
    omega (arith, inside)

pub overflow_add-self : goal.overflow_add-self
overflow_add-self c =
    let words = c.requires.few.0 in
    let count = ap (λ (counts : List ℕ). get_or counts c.place.result 0) c.requires.few.1.listed in
    let most = counts-le-length words listed_words c.place.result in
    let short = c.requires.few.2 in
    let long = length-append words (c.args.code.0 ∷ []) in
    omega (arith, count, most, short, long)

pub returns-in_default : goal.returns-in_default
returns-in_default c words sums short =
    let word = c.args.code.0 in
    let place = c.place.result in
    let at = word_at c.args.kind place word c.place.ensures c.in_default.not-Opaque c.requires.meant in
    record {
      listed = ap (λ (counts : List ℕ). set counts place (get_or counts place 0 + 1)) sums.listed ∙ sym (own_key_counts words word listed_words place words_apart at);
      opaque = subst (TallySums nat_cmp c.args.self.now.opaque) (sym (no_item words word (not_opaque word (get_in listed_words place word at)))) sums.opaque;
    }
