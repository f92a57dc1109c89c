-- The deliveries that no record frees are those that no later free has the address of.
use Rattle.std.proofs.Common.{◌≡◌, ◌&&◌, ◌||◌, not, Bool, true, false, cond, Some, None, refl, ap, ◌∙◌, List, [], ◌∷◌, ◌++◌, map}
use Rattle.std.specs.List.{cons_option, filter, find, list_any}
use Rattle.std.specs.Option.{is_none, option_map}
use Rattle.pending_ledger.specs.Pending.{closes, is_close, is_unclosed_item, place_of}
use Rattle.summary_law.specs.Readings.{chosen, read_each}
use Rattle.listing_tables.specs.Buffers.{AddressEvent, same_address, FreedDelivery, delivery_place, delivery_read, first_free, is_leaked}

none_found : {X Y : Type 0} (made : X → Y) (test : X → Bool) (xs : List X) → is_none (option_map made (find test xs)) ≡ not (list_any test xs)
none_found made test [] = refl
none_found made test (x ∷ xs) =
    elim (test x) as (λ b. is_none (option_map made (cond b (Some x) (find test xs))) ≡ not (b || list_any test xs)) [
      | true ↦ refl
      | false ↦ none_found made test xs
    ]

one_leaked : (b : Bool) (d : FreedDelivery) (ds : List FreedDelivery) (rest : List AddressEvent) → map delivery_place (filter is_leaked ds) ≡ map place_of rest
    → is_leaked d ≡ b → map delivery_place (cond b (d ∷ filter is_leaked ds) (filter is_leaked ds)) ≡ map place_of (cons_option (cond b (Some d.delivery) None) rest)
one_leaked true d ds rest same e = ap (λ l. place_of d.delivery ∷ l) same
one_leaked false d ds rest same e = same

pub leaked : (before items : List AddressEvent)
    → map delivery_place (filter is_leaked (read_each delivery_read before items))
    ≡ map place_of (read_each (chosen (is_unclosed_item same_address)) before items)
leaked before [] = refl
leaked before (x ∷ items) =
    let next = before ++ x ∷ [] in
    let ds = read_each delivery_read next items in
    let rest = read_each (chosen (is_unclosed_item same_address)) next items in
    let d : FreedDelivery = record { delivery = x; freed = first_free x.0 items } in
    let test = not (list_any (closes same_address x.0) items) in
    let is : is_leaked d ≡ test = none_found place_of (closes same_address x.0) items in
    elim (is_close x.1.change) as (λ b.
    map delivery_place (filter is_leaked (cons_option (cond b None (Some d)) ds)) ≡ map place_of (cons_option (cond (not b && test) (Some x) None) rest)) [
      | true ↦ leaked next items
      | false ↦
          one_leaked (is_leaked d) d ds rest (leaked next items) refl
          ∙ ap (λ (b : Bool). map place_of (cons_option (cond b (Some x) None) rest)) is
    ]
