-- How the counts of sends in doubt change.
use Rattle.std.proofs.Common.{◌≡◌, ℕ, ◌<◌, ◌≤◌, ◌-◌, None, refl, subst, arith}
use Rattle.std.specs.Prelude.{nat_eq}
use Rattle.indexmap.specs.IndexMap.{get}
use Rattle.listing_tables.specs.Doubts.{CountsLeaving, CountsLeft}
use Rattle.listing_tables.specs.Waiting.{doubt_of}
use Rattle.listing_tables.specs.declared.waiting.Doubt.{Doubt}
use Rattle.listing_tables.specs.declared.waiting.Listed.{Listed}
use Rattle.listing_tables.specs.declared.waiting.Waiting.{Waiting}

-- nothing changes while some did not come
pub some_left : (waiting : Waiting) (key : ℕ) (doubt : Doubt) → doubt ≡ doubt_of waiting key → doubt.came < doubt.sends
    → CountsLeft (doubt_of waiting key).sends (doubt_of waiting key).came key waiting
some_left waiting key doubt is fewer =
    let both : (doubt_of waiting key).came < (doubt_of waiting key).sends = subst (λ (d : Doubt). d.came < d.sends) is fewer in
    record { some = λ l. refl; all = λ all. absurd (omega (arith, both, all)) }

-- nothing is counted once all came
pub none_left : (old new : Waiting) (key : ℕ) (doubt : Doubt) → doubt ≡ doubt_of old key → doubt.sends ≤ doubt.came
    → get nat_eq new.doubts key ≡ None → CountsLeft (doubt_of old key).sends (doubt_of old key).came key new
none_left old new key doubt is came gone =
    let both : (doubt_of old key).sends ≤ (doubt_of old key).came = subst (λ (d : Doubt). d.sends ≤ d.came) is came in
    record { some = λ l. absurd (omega (arith, both, l)); all = λ all. gone }

-- the same of what was counted before
pub counts_from : (old mid new : Waiting) (send : Listed) (came : ℕ) → mid.doubted ≡ old.doubted → mid.doubts ≡ old.doubts
    → CountsLeaving mid send came new → CountsLeaving old send came new
counts_from old mid new send came doubted doubts counts =
    let e : doubt_of mid send.key ≡ doubt_of old send.key = rw doubts refl in
    record {
      doubted = λ was. subst (λ (d : Doubt). CountsLeft (d.sends - 1) (d.came - came) send.key new) e (counts.doubted (rw doubted was));
      other = λ was. subst (λ (d : Doubt). CountsLeft d.sends d.came send.key new) e (counts.other (rw doubted was));
    }

-- by other names of the counts
pub counted_as : (mid new : Waiting) (key sends came : ℕ) → doubt_of mid key ≡ record { sends = sends; came = came }
    → CountsLeft (doubt_of mid key).sends (doubt_of mid key).came key new → CountsLeft sends came key new
counted_as mid new key sends came is counts = subst (λ (d : Doubt). CountsLeft d.sends d.came key new) is counts
