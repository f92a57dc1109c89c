-- What `Buffers` has after one more delivery, and after each turn of a free.
use Rattle.std.proofs.Common.{◌≡◌, ℕ, ◌+◌, ◌<◌, ◌≤◌, ◌&&◌, ◌⊎◌, ⊎_elim, Bool, true, false, cond, Option, Some, None, refl, sym, ap, subst, ◌∙◌, arith}
use Rattle.std.proofs.Common.{List, [], ◌∷◌, ◌++◌, length, map, slice_get}
use Rattle.std.proofs.lemmas.List.{length-map, map-append}
use Rattle.std.proofs.lemmas.Option.{slice_get-map, slice_get_cases}
use Rattle.std.specs.Option.{option_map, option_or}
use Rattle.indexmap.specs.IndexMap.{get}
use Rattle.listing_tables.specs.Buffers.{Address, AddressEvent, same_address, delivery_at, free_at, deliveries_of, BufferRow, row_of_delivery, row_of_buffer, last_held, AreEarlier, earlier_of, BuffersSum, Frees}
use Rattle.listing_tables.specs.declared.buffers.Buffer.{Buffer}
use Rattle.listing_tables.specs.declared.buffers.Buffers.{Buffers}
use Rattle.listing_tables.proofs.BufferLaws.{all_so_far, earlier-freed, earlier-more, freed_by, FreesSoFar, last-freed, last-more, new_delivery, none_so_far, one_delivery, one_free, one_so_far}

abbrev rows_in : Buffers → List BufferRow
rows_in buffers = map row_of_buffer buffers.list.all.items

abbrev indices_in : Buffers → List (Option ℕ)
indices_in buffers = map earlier_of buffers.list.all.items

-- there is a buffer for each delivery
as_many : (buffers : Buffers) (items : List AddressEvent) → BuffersSum buffers items
    → length buffers.list.all.items ≡ length (deliveries_of items)
as_many buffers items sums =
    sym (length-map buffers.list.all.items row_of_buffer) ∙ ap length sums.rows ∙ length-map (deliveries_of items) row_of_delivery

put_last : (b : Bool) (n m : ℕ) (o : Option ℕ) → n ≡ m → cond b (Some n) o ≡ option_or (cond (b && true) (Some (0 + m)) None) o
put_last true n m o same = ap Some (same ∙ omega arith)
put_last false n m o same = refl

module _ (address : Address) (place : ℕ) where
  pub one_more_buffer : (old new : Buffers) (buffer : Buffer) (index : ℕ) → new.list.all.items ≡ old.list.all.items ++ buffer ∷ []
      → row_of_buffer buffer ≡ row_of_delivery (new_delivery address place) → buffer.earlier ≡ get same_address old.latest address
      → index ≡ length old.list.all.items
      → ((q : Address) → get same_address new.latest q ≡ cond (same_address address q) (Some index) (get same_address old.latest q))
      → (items : List AddressEvent) → BuffersSum old items → BuffersSum new (items ++ delivery_at address place ∷ [])
  one_more_buffer old new buffer index pushed row earlier at latest items sums =
      let ds = deliveries_of items in
      let d = new_delivery address place in
      let more : deliveries_of (items ++ delivery_at address place ∷ []) ≡ ds ++ d ∷ [] = one_delivery address place [] items in
      record {
        rows = ap (map row_of_buffer) pushed ∙ map-append row_of_buffer old.list.all.items (buffer ∷ [])
            ∙ ap (λ (l : List BufferRow). l ++ row_of_buffer buffer ∷ []) sums.rows
            ∙ ap (λ (r : BufferRow). map row_of_delivery ds ++ r ∷ []) row
            ∙ sym (map-append row_of_delivery ds (d ∷ [])) ∙ ap (map row_of_delivery) (sym more);
        latest = λ q.
            latest q ∙ ap (cond (same_address address q) (Some index)) (sums.latest q)
            ∙ put_last (same_address address q) index (length ds) (last_held q ds) (at ∙ as_many old items sums)
            ∙ sym (last-more address place 0 q ds d) ∙ ap (last_held q) (sym more);
        earlier = subst (AreEarlier [] (indices_in new)) (sym more)
            (subst (λ (l : List (Option ℕ)). AreEarlier [] l (ds ++ d ∷ []))
            (sym (ap (map earlier_of) pushed ∙ map-append earlier_of old.list.all.items (buffer ∷ [])))
            (earlier-more address place [] (indices_in old) ds buffer.earlier d sums.earlier (λ none. earlier ∙ sums.latest address)));
      }

  -- after so many turns of the free `next` is still to be freed, and what is before it
  pub record FreeTurns (initial now : Buffers) (next : Option ℕ) (turns : ℕ) : Type 0 where
    pub latest : (q : Address) → get same_address now.latest q ≡ cond (same_address address q) None (get same_address initial.latest q)
    pub so : (items : List AddressEvent) → BuffersSum initial items
        → FreesSoFar address place (deliveries_of items) (rows_in now) next turns × (indices_in now ≡ indices_in initial)

  pub no_turn : (initial now : Buffers) (next : Option ℕ) → next ≡ get same_address initial.latest address → now.list ≡ initial.list
      → ((q : Address) → get same_address now.latest q ≡ cond (same_address address q) None (get same_address initial.latest q))
      → FreeTurns initial now next 0
  no_turn initial now next is list latest = record {
    latest = latest;
    so = λ items sums. (
      none_so_far address place (deliveries_of items) (rows_in now) next (is ∙ sums.latest address)
          (ap (λ l. map row_of_buffer l.all.items) list ∙ sums.rows),
      ap (λ l. map earlier_of l.all.items) list,
    );
  }

  pub one_turn : (initial before after : Buffers) (index turns : ℕ) (given : Option ℕ) → FreeTurns initial before (Some index) turns
      → Frees before index place after given → FreeTurns initial after given (turns + 1)
  one_turn initial before after index turns given turned frees = record {
    latest = λ q. ap (λ l. get same_address l q) frees.latest ∙ turned.latest q;
    so = λ items sums.
        let here = turned.so items sums in
        let list = before.list.all.items in
        let few = here.0.few index refl in
        let same_many : length list ≡ length (deliveries_of items)
        = sym (length-map list earlier_of) ∙ ap length here.1 ∙ length-map initial.list.all.items earlier_of ∙ as_many initial items sums in
        ⊎_elim
        (λ there.
        let buffer = there.0 in
        let is : slice_get list index ≡ Some buffer = there.2 in
        let index_is : slice_get (indices_in before) index ≡ Some buffer.earlier
        = slice_get-map earlier_of list index ∙ ap (option_map earlier_of) is in (
          subst (λ (o : Option ℕ). FreesSoFar address place (deliveries_of items) (rows_in after) o (turns + 1)) (sym (frees.next buffer is))
              (subst (λ (l : List BufferRow). FreesSoFar address place (deliveries_of items) l buffer.earlier (turns + 1)) (sym (frees.rows buffer is))
              (one_so_far address place (deliveries_of items) (rows_in before) index turns (indices_in initial) (row_of_buffer buffer) buffer.earlier
              sums.earlier here.0 (slice_get-map row_of_buffer list index ∙ ap (option_map row_of_buffer) is)
              (ap (λ (l : List (Option ℕ)). slice_get l index) (sym here.1) ∙ index_is))),
          frees.earlier buffer is ∙ here.1,
        ))
        (λ past. let out = past.0 in absurd (omega (arith, few, same_many, out)))
        ((slice_get_cases list index).1);
  }

  pub all_turns : (initial now : Buffers) (next : Option ℕ) (turns : ℕ) → FreeTurns initial now next turns
      → (next ≡ None) ⊎ (length initial.list.all.items ≤ turns)
      → (items : List AddressEvent) → BuffersSum initial items → BuffersSum now (items ++ free_at address place ∷ [])
  all_turns initial now next turns turned ended items sums =
      let ds = deliveries_of items in
      let here = turned.so items sums in
      let many = as_many initial items sums in
      let few = here.0.few in
      let none : next ≡ None
      = ⊎_elim (λ (e : next ≡ None). e) (λ (long : length initial.list.all.items ≤ turns). no_next next turns (length ds) few (omega (arith, long, many))) ended in
      let more : deliveries_of (items ++ free_at address place ∷ []) ≡ map (freed_by address place) ds = one_free address place [] items in
      record {
        rows = all_so_far address place ds (rows_in now) next turns here.0 none ∙ ap (map row_of_delivery) (sym more);
        latest = λ q.
            turned.latest q ∙ ap (cond (same_address address q) None) (sums.latest q) ∙ sym (last-freed address place q ds)
            ∙ ap (last_held q) (sym more);
        earlier = subst (AreEarlier [] (indices_in now)) (sym more)
            (subst (λ (l : List (Option ℕ)). AreEarlier [] l (map (freed_by address place) ds)) (sym here.1)
            (earlier-freed address place [] (indices_in initial) ds sums.earlier));
      }
    where
      no_next : (next : Option ℕ) (turns many : ℕ) → ((i : ℕ) → next ≡ Some i → turns + i < many) → many ≤ turns → next ≡ None
      no_next None turns many few long = refl
      no_next (Some i) turns many few long = let here = few i refl in absurd (omega (arith, here, long))
