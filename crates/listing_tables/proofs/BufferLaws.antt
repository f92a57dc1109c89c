-- What a delivery and a free do to the deliveries of a list, and to the last one of them that is held at an address.
use Rattle.std.proofs.Common.{◌≡◌, ℕ, suc, ◌+◌, ◌<◌, ◌==◌, ◌&&◌, Bool, true, false, cond, Option, Some, None, refl, sym, ap, ap₂, subst, ◌∙◌, arith}
use Rattle.std.proofs.Common.{List, [], ◌∷◌, ◌++◌, length, map, set, slice_get, append_assoc, length-append, eq-eqb, zero}
use Rattle.std.proofs.lemmas.Bool.{and_from, and_left, and_parts, and_right, both_ways, cond-false, cond-true, eqb-true, false_from_ne_true}
use Rattle.std.proofs.lemmas.List.{append-nil, length-map, map-append, set_at}
use Rattle.std.proofs.lemmas.List.Folds.{find-append}
use Rattle.std.proofs.lemmas.Option.{cond_some, same_Some}
use Rattle.std.specs.List.{cons_option, find}
use Rattle.std.specs.Option.{is_none, option_map, option_or}
use Rattle.pending_ledger.specs.Pending.{closes, is_close, place_of}
use Rattle.summary_law.specs.Readings.{read_each}
use Rattle.listing_tables.specs.Buffers.{Address, AddressEvent, same_address, delivery_at, free_at, FreedDelivery, first_free, delivery_read, BufferRow, row_of_delivery, is_held_at, last_held_from, last_held, AreEarlier}

-- ---- addresses

same_is : (a b : Address) → same_address a b ≡ true → a ≡ b
same_is (m, n) (x, y) same =
    let parts = and_parts (m == x) (n == y) same in
    ap₂ (λ (i j : ℕ). (i, j)) (eqb-true m x parts.0) (eqb-true n y parts.1)

same_self : (a : Address) → same_address a a ≡ true
same_self a = and_from (a.0 == a.0) (a.1 == a.1) (eq-eqb a.0 a.0 refl) (eq-eqb a.1 a.1 refl)

same_back : (a b : Address) → same_address a b ≡ false → same_address b a ≡ false
same_back a b apart =
    false_from_ne_true (same_address b a) (λ same. both_ways (same_address a b) apart
    (subst (λ (c : Address). same_address a c ≡ true) (sym (same_is b a same)) (same_self a)))

-- ---- options

or_none : {X : Type 0} (o : Option X) → option_or o None ≡ o
or_none None = refl
or_none (Some x) = refl

or_assoc : {X : Type 0} (a b c : Option X) → option_or (option_or a b) c ≡ option_or a (option_or b c)
or_assoc None b c = refl
or_assoc (Some x) b c = refl

or_parts : {X : Type 0} (a b : Option X) → option_or a b ≡ None → (a ≡ None) × (b ≡ None)
or_parts None b none = (refl, none)
or_parts (Some x) b none = absurd cc

cond_none : {X : Type 0} (b : Bool) (x : X) → cond b (Some x) None ≡ None → b ≡ false
cond_none true x none = absurd cc
cond_none false x none = refl

none_is : {X : Type 0} (o : Option X) → is_none o ≡ true → o ≡ None
none_is None e = refl
none_is (Some x) e = absurd cc

cons-append : {X : Type 0} (o : Option X) (xs ys : List X) → cons_option o (xs ++ ys) ≡ cons_option o xs ++ ys
cons-append None xs ys = refl
cons-append (Some x) xs ys = refl

-- ---- lists

pub get_at : {X : Type 0} (front : List X) (x : X) (back : List X) → slice_get (front ++ x ∷ back) (length front) ≡ Some x
get_at [] x back = refl
get_at (y ∷ front) x back = get_at front x back

pub set_same : {X : Type 0} (xs : List X) (i : ℕ) (x : X) → slice_get xs i ≡ Some x → set xs i x ≡ xs
set_same [] i x e = absurd cc
set_same (y ∷ xs) zero x e = ap (λ z. z ∷ xs) (same_Some x y (sym e))
set_same (y ∷ xs) (suc i) x e = ap (λ zs. y ∷ zs) (set_same xs i x e)

-- ---- one more delivery, and one more free

-- a delivery, and what frees it
abbrev found_as : AddressEvent → Option ℕ → FreedDelivery
found_as item freed = record { delivery = item; freed = freed }

-- what is read of an item
abbrev read_as : Bool → AddressEvent → Option ℕ → Option FreedDelivery
read_as closes item freed = cond closes None (Some (found_as item freed))

abbrev put_first : Option FreedDelivery → List FreedDelivery → List FreedDelivery
put_first found later = cons_option found later

module _ (address : Address) (place : ℕ) where
  -- a delivery, after the record at this place frees the address
  abbrev pub freed_by : FreedDelivery → FreedDelivery
  freed_by found = cond (is_held_at address found) (record found { freed = Some place }) found

  abbrev pub new_delivery : FreedDelivery
  new_delivery = record { delivery = delivery_at address place; freed = None }

  not_freed : (other : Address) (items : List AddressEvent)
      → first_free other (items ++ delivery_at address place ∷ []) ≡ first_free other items
  not_freed other items =
      let found = find (closes same_address other) items in
      ap (option_map place_of)
      (find-append (closes same_address other) items (delivery_at address place ∷ [])
      ∙ ap (λ (b : Bool). option_or found (cond b (Some (delivery_at address place)) None)) (and_right (same_address other address) false refl)
      ∙ or_none found)

  pub one_delivery : (before items : List AddressEvent)
      → read_each delivery_read before (items ++ delivery_at address place ∷ []) ≡ read_each delivery_read before items ++ new_delivery ∷ []
  one_delivery before [] = refl
  one_delivery before (x ∷ items) =
      let next = before ++ x ∷ [] in
      ap₂ put_first (ap (read_as (is_close x.1.change) x) (not_freed x.0 items))
      (one_delivery next items)
      ∙ cons-append (delivery_read before x items) (read_each delivery_read next items) (new_delivery ∷ [])

  maybe_freed : (found : Option AddressEvent) (b : Bool)
      → option_map place_of (option_or found (cond (b && true) (Some (free_at address place)) None))
      ≡ option_or (option_map place_of found) (cond b (Some place) None)
  maybe_freed None true = refl
  maybe_freed None false = refl
  maybe_freed (Some x) b = refl

  one_freed : (x : AddressEvent) (free : Option ℕ) (b : Bool)
      → found_as x (option_or free (cond b (Some place) None)) ≡ cond (b && is_none free) (found_as x (Some place)) (found_as x free)
  one_freed x None true = refl
  one_freed x None false = refl
  one_freed x (Some q) true = refl
  one_freed x (Some q) false = refl

  pub one_free : (before items : List AddressEvent)
      → read_each delivery_read before (items ++ free_at address place ∷ []) ≡ map freed_by (read_each delivery_read before items)
  one_free before [] = refl
  one_free before (x ∷ items) =
      let next = before ++ x ∷ [] in
      let later = read_each delivery_read next items in
      let found = find (closes same_address x.0) items in
      let free : first_free x.0 (items ++ free_at address place ∷ [])
      ≡ option_or (first_free x.0 items) (cond (same_address x.0 address) (Some place) None)
      = ap (option_map place_of) (find-append (closes same_address x.0) items (free_at address place ∷ []))
      ∙ maybe_freed found (same_address x.0 address) in
      let here : found_as x (first_free x.0 (items ++ free_at address place ∷ [])) ≡ freed_by (found_as x (first_free x.0 items))
      = ap (found_as x) free ∙ one_freed x (first_free x.0 items) (same_address x.0 address) in
      elim (is_close x.1.change) as (λ b.
      put_first (read_as b x (first_free x.0 (items ++ free_at address place ∷ []))) (read_each delivery_read next (items ++ free_at address place ∷ []))
      ≡ map freed_by (put_first (read_as b x (first_free x.0 items)) later)) [
        | true ↦ one_free next items
        | false ↦ ap₂ (λ (d : FreedDelivery) (ds : List FreedDelivery). d ∷ ds) here (one_free next items)
      ]

  -- ---- the last one that is held

  first_or : (b : Bool) (n m : ℕ) → n ≡ m → option_or None (cond b (Some n) None) ≡ option_or (cond b (Some m) None) None
  first_or true n m same = ap Some same
  first_or false n m same = refl

  pub last-more : (n : ℕ) (q : Address) (ds : List FreedDelivery) (d : FreedDelivery)
      → last_held_from n q (ds ++ d ∷ []) ≡ option_or (cond (is_held_at q d) (Some (n + length ds)) None) (last_held_from n q ds)
  last-more n q [] d = first_or (is_held_at q d) n (n + 0) (omega arith)
  last-more n q (x ∷ ds) d =
      let here = cond (is_held_at q x) (Some n) None in
      let long : n + 1 + length ds ≡ n + length (x ∷ ds) = omega arith in
      ap (λ (o : Option ℕ). option_or o here) (last-more (n + 1) q ds d)
      ∙ or_assoc (cond (is_held_at q d) (Some (n + 1 + length ds)) None) (last_held_from (n + 1) q ds) here
      ∙ ap (λ (k : ℕ). option_or (cond (is_held_at q d) (Some k) None) (option_or (last_held_from (n + 1) q ds) here)) long

  held_here : (d : FreedDelivery) (b : Bool) → is_held_at address d ≡ b
      → is_held_at address (cond b (record d { freed = Some place }) d) ≡ false
  held_here d true e = and_right (same_address d.delivery.0 address) false refl
  held_here d false e = e

  held_else : (q : Address) (d : FreedDelivery) → same_address address q ≡ false → (b : Bool) → is_held_at address d ≡ b
      → is_held_at q (cond b (record d { freed = Some place }) d) ≡ is_held_at q d
  held_else q d apart true e =
      let same : d.delivery.0 ≡ address
      = same_is d.delivery.0 address ((and_parts (same_address d.delivery.0 address) (is_none d.freed) e).0) in
      let other : same_address d.delivery.0 q ≡ false = subst (λ (a : Address). same_address a q ≡ false) (sym same) apart in
      and_left (same_address d.delivery.0 q) false other ∙ sym (and_left (same_address d.delivery.0 q) (is_none d.freed) other)
  held_else q d apart false e = refl

  last_here : (n : ℕ) (ds : List FreedDelivery) → last_held_from n address (map freed_by ds) ≡ None
  last_here n [] = refl
  last_here n (d ∷ ds) =
      ap₂ (option_or {T = ℕ}) (last_here (n + 1) ds)
      (ap (λ (b : Bool). cond b (Some n) None) (held_here d (is_held_at address d) refl))

  last_else : (n : ℕ) (q : Address) (ds : List FreedDelivery) → same_address address q ≡ false
      → last_held_from n q (map freed_by ds) ≡ last_held_from n q ds
  last_else n q [] apart = refl
  last_else n q (d ∷ ds) apart =
      ap₂ (option_or {T = ℕ}) (last_else (n + 1) q ds apart)
      (ap (λ (b : Bool). cond b (Some n) None) (held_else q d apart (is_held_at address d) refl))

  pub last-freed : (q : Address) (ds : List FreedDelivery)
      → last_held q (map freed_by ds) ≡ cond (same_address address q) None (last_held q ds)
  last-freed q ds =
      elim (same_address address q) as (λ b. same_address address q ≡ b → last_held q (map freed_by ds) ≡ cond b None (last_held q ds)) [
        | true ↦ λ e. subst (λ (a : Address). last_held a (map freed_by ds) ≡ None) (same_is address q e) (last_here 0 ds)
        | false ↦ λ e. last_else 0 q ds e
      ] refl

  -- ---- the one before at the same address

  pub earlier-more : (before : List FreedDelivery) (indices : List (Option ℕ)) (ds : List FreedDelivery) (index : Option ℕ) (d : FreedDelivery)
      → AreEarlier before indices ds → (d.freed ≡ None → index ≡ last_held d.delivery.0 (before ++ ds))
      → AreEarlier before (indices ++ index ∷ []) (ds ++ d ∷ [])
  earlier-more before [] [] index d all is =
      ((λ none. is none ∙ ap (last_held d.delivery.0) (append-nil before)), tt)
  earlier-more before (i ∷ indices) (x ∷ ds) index d all is = (
    all.0,
    earlier-more (before ++ x ∷ []) indices ds index d all.1
        (λ none. is none ∙ ap (last_held d.delivery.0) (sym (append_assoc before (x ∷ []) ds))),
  )
  earlier-more before [] (x ∷ ds) index d all is = absurd all
  earlier-more before (i ∷ indices) [] index d all is = absurd all

  still_first : (before : List FreedDelivery) (index : Option ℕ) (d : FreedDelivery)
      → (d.freed ≡ None → index ≡ last_held d.delivery.0 before) → (b : Bool) → is_held_at address d ≡ b
      → (cond b (record d { freed = Some place }) d).freed ≡ None
      → index ≡ last_held (cond b (record d { freed = Some place }) d).delivery.0 (map freed_by before)
  still_first before index d is true e none = absurd cc
  still_first before index d is false e none =
      let key = d.delivery.0 in
      let unfreed : is_none d.freed ≡ true = ap is_none none in
      let apart : same_address key address ≡ false
      = false_from_ne_true (same_address key address)
      (λ same. both_ways (is_held_at address d) e (and_from (same_address key address) (is_none d.freed) same unfreed)) in
      is none ∙ sym (last-freed key before
      ∙ cond-false (same_address address key) None (last_held key before) (same_back key address apart))

  pub earlier-freed : (before : List FreedDelivery) (indices : List (Option ℕ)) (ds : List FreedDelivery)
      → AreEarlier before indices ds → AreEarlier (map freed_by before) indices (map freed_by ds)
  earlier-freed before [] [] all = tt
  earlier-freed before (i ∷ indices) (x ∷ ds) all = (
    still_first before i x all.0 (is_held_at address x) refl,
    subst (λ (l : List FreedDelivery). AreEarlier l indices (map freed_by ds)) (map-append freed_by before (x ∷ []))
        (earlier-freed (before ++ x ∷ []) indices ds all.1),
  )
  earlier-freed before [] (x ∷ ds) all = absurd all
  earlier-freed before (i ∷ indices) [] all = absurd all

  pub earlier-at : (before : List FreedDelivery) (indices : List (Option ℕ)) (front : List FreedDelivery) (d : FreedDelivery) (back : List FreedDelivery)
      (index : Option ℕ) → AreEarlier before indices (front ++ d ∷ back) → slice_get indices (length front) ≡ Some index → d.freed ≡ None
      → index ≡ last_held d.delivery.0 (before ++ front)
  earlier-at before [] [] d back index all e none = absurd all
  earlier-at before (i ∷ indices) [] d back index all e none =
      same_Some index i (sym e) ∙ all.0 none ∙ ap (last_held d.delivery.0) (sym (append-nil before))
  earlier-at before [] (x ∷ front) d back index all e none = absurd all
  earlier-at before (i ∷ indices) (x ∷ front) d back index all e none =
      earlier-at (before ++ x ∷ []) indices front d back index all.1 e none
      ∙ ap (last_held d.delivery.0) (append_assoc before (x ∷ []) front)

  -- ---- freeing one after another, from the last one on

  untouched : (n : ℕ) (ds : List FreedDelivery) → last_held_from n address ds ≡ None → map freed_by ds ≡ ds
  untouched n [] none = refl
  untouched n (d ∷ ds) none =
      let parts = or_parts (last_held_from (n + 1) address ds) (cond (is_held_at address d) (Some n) None) none in
      ap₂ (λ (x : FreedDelivery) (xs : List FreedDelivery). x ∷ xs)
      (cond-false (is_held_at address d) (record d { freed = Some place }) d (cond_none (is_held_at address d) n parts.1))
      (untouched (n + 1) ds parts.0)

  -- the list around the last delivery that is held
  record Around (n i : ℕ) (ds : List FreedDelivery) : Type 0 where
    front : List FreedDelivery
    last : FreedDelivery
    back : List FreedDelivery
    whole : ds ≡ front ++ last ∷ back
    index : i ≡ n + length front
    held : is_held_at address last ≡ true
    rest : map freed_by back ≡ back

  around : (n i : ℕ) (ds : List FreedDelivery) → last_held_from n address ds ≡ Some i → Around n i ds
  around n i [] e = absurd cc
  around n i (d ∷ ds) e =
      elim (last_held_from (n + 1) address ds) as (λ o. last_held_from (n + 1) address ds ≡ o
      → option_or o (cond (is_held_at address d) (Some n) None) ≡ Some i → Around n i (d ∷ ds)) [
        | None ↦ λ none here.
            let is = cond_some (is_held_at address d) n i here in
            record { front = []; last = d; back = ds; whole = refl; index = sym is.1 ∙ omega arith; held = is.0; rest = untouched (n + 1) ds none }
        | Some j ↦ λ there same.
            let more = around (n + 1) i ds (there ∙ same) in
            let at = more.index in
            record {
              front = d ∷ more.front;
              last = more.last;
              back = more.back;
              whole = ap (λ (l : List FreedDelivery). d ∷ l) more.whole;
              index = omega (arith, at);
              held = more.held;
              rest = more.rest;
            }
      ] refl e

  below : (i : ℕ) (ds : List FreedDelivery) → last_held address ds ≡ Some i → i < length ds
  below i ds e =
      let there = around 0 i ds e in
      let long = length-append there.front (there.last ∷ there.back) in
      let at = there.index in
      subst (λ (l : List FreedDelivery). i < length l) (sym there.whole) (omega (arith, long, at))

  -- so many turns freed all that are held in the back, and `next` is the last one that is held in the front
  pub record FreesSoFar (ds : List FreedDelivery) (rows : List BufferRow) (next : Option ℕ) (turns : ℕ) : Type 0 where
    pub front : List FreedDelivery
    pub back : List FreedDelivery
    pub whole : ds ≡ front ++ back
    pub next_is : next ≡ last_held address front
    pub rows_are : rows ≡ map row_of_delivery front ++ map row_of_delivery (map freed_by back)
    pub few : (i : ℕ) → next ≡ Some i → turns + i < length ds

  pub none_so_far : (ds : List FreedDelivery) (rows : List BufferRow) (next : Option ℕ) → next ≡ last_held address ds
      → rows ≡ map row_of_delivery ds → FreesSoFar ds rows next 0
  none_so_far ds rows next is are = record {
    front = ds;
    back = [];
    whole = sym (append-nil ds);
    next_is = is;
    rows_are = are ∙ sym (append-nil (map row_of_delivery ds));
    few = λ i e. let under = below i ds (sym is ∙ e) in omega (arith, under);
  }

  pub all_so_far : (ds : List FreedDelivery) (rows : List BufferRow) (next : Option ℕ) (turns : ℕ) → FreesSoFar ds rows next turns → next ≡ None
      → rows ≡ map row_of_delivery (map freed_by ds)
  all_so_far ds rows next turns so none =
      let same : map freed_by so.front ≡ so.front = untouched 0 so.front (sym so.next_is ∙ none) in
      so.rows_are
      ∙ ap (λ (l : List FreedDelivery). map row_of_delivery l ++ map row_of_delivery (map freed_by so.back)) (sym same)
      ∙ sym (map-append row_of_delivery (map freed_by so.front) (map freed_by so.back))
      ∙ ap (map row_of_delivery) (sym (map-append freed_by so.front so.back) ∙ ap (map freed_by) (sym so.whole))

  pub one_so_far : (ds : List FreedDelivery) (rows : List BufferRow) (i turns : ℕ) (indices : List (Option ℕ)) (row : BufferRow) (index : Option ℕ)
      → AreEarlier [] indices ds → FreesSoFar ds rows (Some i) turns → slice_get rows i ≡ Some row → slice_get indices i ≡ Some index
      → FreesSoFar ds (set rows i (record row { freed = Some place })) index (turns + 1)
  one_so_far ds rows i turns indices row index earlier so row_is index_is =
      let there = around 0 i so.front (sym so.next_is) in
      let front = there.front in
      let last = there.last in
      let rest = there.back ++ so.back in
      let at : i ≡ length front = there.index ∙ omega arith in
      let whole : ds ≡ front ++ last ∷ rest
      = so.whole ∙ ap (λ (l : List FreedDelivery). l ++ so.back) there.whole ∙ append_assoc front (last ∷ there.back) so.back in
      let rows_before = map row_of_delivery front in
      let rows_after = map row_of_delivery (map freed_by rest) in
      let after : map row_of_delivery there.back ++ map row_of_delivery (map freed_by so.back) ≡ rows_after
      = ap (λ (l : List FreedDelivery). map row_of_delivery l ++ map row_of_delivery (map freed_by so.back)) (sym there.rest)
      ∙ sym (map-append row_of_delivery (map freed_by there.back) (map freed_by so.back))
      ∙ ap (map row_of_delivery) (sym (map-append freed_by there.back so.back)) in
      let rows_now : rows ≡ rows_before ++ row_of_delivery last ∷ rows_after
      = so.rows_are ∙ ap (λ (l : List FreedDelivery). map row_of_delivery l ++ map row_of_delivery (map freed_by so.back)) there.whole
      ∙ ap (λ (l : List BufferRow). l ++ map row_of_delivery (map freed_by so.back)) (map-append row_of_delivery front (last ∷ there.back))
      ∙ append_assoc rows_before (map row_of_delivery (last ∷ there.back)) (map row_of_delivery (map freed_by so.back))
      ∙ ap (λ (l : List BufferRow). rows_before ++ row_of_delivery last ∷ l) after in
      let long : length rows_before ≡ i = length-map front row_of_delivery ∙ sym at in
      let row_last : row ≡ row_of_delivery last
      = same_Some row (row_of_delivery last)
      (sym row_is ∙ ap₂ (slice_get {X = BufferRow}) rows_now (sym long) ∙ get_at rows_before (row_of_delivery last) rows_after) in
      let new_row : BufferRow = record row { freed = Some place } in
      let freed_last : freed_by last ≡ record last { freed = Some place }
      = cond-true (is_held_at address last) (record last { freed = Some place }) last there.held in
      let new_is : new_row ≡ row_of_delivery (freed_by last)
      = ap (λ (r : BufferRow). record r { freed = Some place }) row_last ∙ ap row_of_delivery (sym freed_last) in
      let parts = and_parts (same_address last.delivery.0 address) (is_none last.freed) there.held in
      let key_is : last.delivery.0 ≡ address = same_is last.delivery.0 address parts.0 in
      let next : index ≡ last_held address front
      = earlier-at [] indices front last rest index (subst (AreEarlier [] indices) whole earlier)
      (ap (slice_get indices) (sym at) ∙ index_is) (none_is last.freed parts.1)
      ∙ ap (λ (a : Address). last_held a front) key_is in
      record {
        front = front;
        back = last ∷ rest;
        whole = whole;
        next_is = next;
        rows_are = ap (λ (l : List BufferRow). set l i new_row) rows_now
            ∙ set_at rows_before (row_of_delivery last) rows_after new_row i long
            ∙ ap (λ (r : BufferRow). rows_before ++ r ∷ rows_after) new_is;
        few = λ j e.
            let under = below j front (sym next ∙ e) in
            let few = so.few i refl in
            omega (arith, under, few, at);
      }
