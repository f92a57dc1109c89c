use Rattle.std.proofs.Common.{◌≡◌, ◌∷◌, ◌++◌, [], None, Some, cond, length, subst, sym, ap, ◌∙◌, rules}
use Rattle.std.specs.BTreeMap.{get}
use Rattle.std.specs.Ordering.{eq_by_cmp}
use Rattle.summary_law.proofs.PlaceLaws.{index_grows, no_place, part_put}
use Rattle.summary_law.specs.Places.{IsPut, part_map}
use Rattle.summary_law.proofs.by_key.ByKey.insert.Goals as goal

pub invariant_of-self-2 : goal.invariant_of-self-2
invariant_of-self-2 g c =
    let cmp = g.K.Ord.cmp in
    let index = c.self.inside.index in
    let parts = c.self.inside.parts.items in
    let none : get cmp index c.args.key ≡ None
    = no_place cmp g.met.K.Ord.total index parts c.self.invariant c.args.key (ap (λ m. get cmp m c.args.key) c.self.view_is ∙ c.requires) in
    let place : c.len-place.result ≡ length parts = search rules in
    let puts : IsPut cmp index c.args.key (length parts) c.insert.new.self
    = λ q. c.in_ok-insert.ensures.updates.0 q ∙ ap (λ n. cond (eq_by_cmp cmp c.args.key q) (Some n) (get cmp index q)) place in
    let grown : c.push_reserved.new.self.items ≡ parts ++ (c.args.key, c.args.part) ∷ [] = search rules in
    rw grown
    (index_grows cmp g.met.K.Ord.total index parts c.self.invariant c.args.key c.args.part c.insert.new.self none c.in_ok-insert.ensures.ordered puts)

pub returns : goal.returns
returns g c =
    let cmp = g.K.Ord.cmp in
    let index = c.self.inside.index in
    let parts = c.self.inside.parts.items in
    let none : get cmp index c.args.key ≡ None
    = no_place cmp g.met.K.Ord.total index parts c.self.invariant c.args.key (ap (λ m. get cmp m c.args.key) c.self.view_is ∙ c.requires) in
    let place : c.len-place.result ≡ length parts = search rules in
    let puts : IsPut cmp index c.args.key (length parts) c.insert.new.self
    = λ q. c.in_ok-insert.ensures.updates.0 q ∙ ap (λ n. cond (eq_by_cmp cmp c.args.key q) (Some n) (get cmp index q)) place in
    let grown : c.push_reserved.new.self.items ≡ parts ++ (c.args.key, c.args.part) ∷ [] = search rules in
    let put = part_put cmp g.met.K.Ord.total index parts c.self.invariant c.args.key c.args.part c.insert.new.self none c.in_ok-insert.ensures.ordered puts in
    subst (λ ps. IsPut cmp c.args.self.now c.args.key c.args.part (part_map c.insert.new.self ps)) (sym grown)
    (subst (λ m. IsPut cmp m c.args.key c.args.part (part_map c.insert.new.self (parts ++ (c.args.key, c.args.part) ∷ []))) c.self.view_is put)
