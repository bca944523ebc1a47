-- How tables rise: not at all, by one cell, by one step after another. Assumes nothing.
use Rattle.std.proofs.Common.{◌≡◌, ℕ, ◌+◌, ◌*◌, ◌<◌, Bool, false, ◌||◌, List, length, get_or, set, sym, refl, ap, ◌∙◌, subst, inl, inr, arith, ◌⊎◌}
use Rattle.std.proofs.lemmas.List.{get_or-set_same, get_or-set_other}
use Rattle.std.proofs.lemmas.Bool.{cases_eq, both_ways, or_parts, or_cases}
use Rattle.scale.specs.Order.{Chain, AtMost, Laws}
use Rattle.scale.proofs.Minima.{at_most_refl, at_most_since}
use Rattle.logic.specs.Axioms.{Axiom}
use Rattle.logic.specs.Derivations.{Cell, pair, link, Within, Derives}
use Rattle.logic.specs.Ranks.{marks, weight}
use Rattle.logic.proofs.Marks.{among}
use Rattle.logic.proofs.Weights.{weight_falls}
use Rattle.catalogue.specs.Cells.{cells}
use Rattle.catalogue.specs.Climbing.{held, Stays, put_pair, put_link, Raised, raised, kept, Includes, Derived, room, Rise, Raises, Turns}
use Rattle.catalogue.specs.declared.sizes.Size.{Size}
use Rattle.catalogue.specs.declared.tables.Tables.{Tables}
use Rattle.std.proofs.lemmas.Nat.{mul-add-lt, same_from_place}
use Rattle.catalogue.proofs.Places.{link_inside}

pub stays_not : {M : Type 0} (t : Tables M) → Stays t t
stays_not t = record { size = refl; cards = refl; pairs = refl; links = refl }

pub stays_more : {M : Type 0} {a b c : Tables M} → Stays a b → Stays b c → Stays a c
stays_more p q = record { size = q.size ∙ p.size; cards = q.cards ∙ p.cards; pairs = q.pairs ∙ p.pairs; links = q.links ∙ p.links }

-- a cell of the tables is one of theirs later on
pub within_stays : {M : Type 0} {a b : Tables M} (c : Cell) → Stays a b → Within a.size.n a.size.k c → Within b.size.n b.size.k c
within_stays c p h = subst (λ s. Within s.n s.k c) (sym p.size) h

pub terms_stay : {M : Type 0} {a b : Tables M} → Stays a b → b.size.n ≡ a.size.n
terms_stay p = ap (λ s. s.n) p.size

-- what stands at a place of a table into which a mark was put
put_at : {M : Type 0} (d : M) (table : List M) (place i : ℕ) (m : M) → place < length table → (i ≡ place) × (get_or (set table place m) i d ≡ m) ⊎ (get_or (set table place m) i d ≡ get_or table i d)
put_at d table place i m lt = elim (cases_eq i place) [
  | inl e ↦ inl (e, ap (λ j. get_or (set table place m) j d) e ∙ get_or-set_same table place m d lt)
  | inr ne ↦ inr (get_or-set_other table place i m d ne)
]

module _ {M : Type 0} {C : Chain M} (laws : Laws C) where
  -- a mark above what a cell of a table held was put there: no cell fell
  put_rises : (table : List M) (place i : ℕ) (m : M) → place < length table → C.leq m (get_or table place C.low) ≡ false → AtMost C (get_or table i C.low) (get_or (set table place m) i C.low)
  put_rises table place i m lt above = elim (put_at C.low table place i m lt) [
    | inl e ↦ subst (λ v. AtMost C (get_or table i C.low) v) (sym e.1) (subst (λ j. AtMost C (get_or table j C.low) m) (sym e.0) (at_most_since laws m _ above))
    | inr e ↦ subst (λ v. AtMost C (get_or table i C.low) v) (sym e) (at_most_refl laws _)
  ]

  module _ (n k : ℕ) (pairs links : List M) (pair_size : length pairs ≡ n * n) (link_size : length links ≡ k * n * n) where
    -- what the cells then hold
    put_cells : (c : Cell) (m : M) (d : Cell) → Within n k c → Within n k d → (d ≡ c) × (cells C n (put_pair n c m pairs) (put_link n c m links) d ≡ m) ⊎ (cells C n (put_pair n c m pairs) (put_link n c m links) d ≡ cells C n pairs links d)
    put_cells (pair X Y) m (pair X' Y') h h' =
        let lt = mul-add-lt X n Y n h.0 h.1 in
        elim (put_at C.low pairs (X * n + Y) (X' * n + Y') m (omega arith)) [
          | inl e ↦ let (p, q) = same_from_place X' Y' X Y n h'.1 h.1 e.0 in inl (λ i. pair (p i) (q i), e.1)
          | inr e ↦ inr e
        ]
    put_cells (pair X Y) m (link X' r' Y') h h' = inr refl
    put_cells (link X r Y) m (pair X' Y') h h' = inr refl
    put_cells (link X r Y) m (link X' r' Y') h h' =
        let lt = link_inside n k X r Y h.0 h.1 h.2 in
        elim (put_at C.low links ((r * n + X) * n + Y) ((r' * n + X') * n + Y') m (omega arith)) [
          | inl e ↦
              let (row, q) = same_from_place (r' * n + X') Y' (r * n + X) Y n h'.2 h.2 e.0 in
              let (s, p) = same_from_place r' X' r X n h'.0 h.0 row in inl (λ i. link (p i) (s i) (q i), e.1)
          | inr e ↦ inr e
        ]

    -- what the cell itself then holds
    put_here : (c : Cell) (m : M) → Within n k c → cells C n (put_pair n c m pairs) (put_link n c m links) c ≡ m
    put_here (pair X Y) m h = let lt = mul-add-lt X n Y n h.0 h.1 in get_or-set_same pairs (X * n + Y) m C.low (omega arith)
    put_here (link X r Y) m h = let lt = link_inside n k X r Y h.0 h.1 h.2 in get_or-set_same links ((r * n + X) * n + Y) m C.low (omega arith)

    put_up : (c : Cell) (m : M) (d : Cell) → Within n k c → C.leq m (cells C n pairs links c) ≡ false → AtMost C (cells C n pairs links d) (cells C n (put_pair n c m pairs) (put_link n c m links) d)
    put_up (pair X Y) m (pair X' Y') h above = let lt = mul-add-lt X n Y n h.0 h.1 in put_rises pairs (X * n + Y) (X' * n + Y') m (omega arith) above
    put_up (pair X Y) m (link X' r' Y') h above = at_most_refl laws _
    put_up (link X r Y) m (pair X' Y') h above = at_most_refl laws _
    put_up (link X r Y) m (link X' r' Y') h above = let lt = link_inside n k X r Y h.0 h.1 h.2 in put_rises links ((r * n + X) * n + Y) ((r' * n + X') * n + Y') m (omega arith) above

    put_falls : (axioms : List (Axiom M)) (c : Cell) (m : M) → Within n k c → Derives C n k axioms c m → C.leq m (cells C n pairs links c) ≡ false
        → weight C (marks C axioms) (put_pair n c m pairs) + weight C (marks C axioms) (put_link n c m links) < weight C (marks C axioms) pairs + weight C (marks C axioms) links
    put_falls axioms (pair X Y) m h d above =
        let lt = mul-add-lt X n Y n h.0 h.1 in
        let fall = weight_falls laws (marks C axioms) pairs (X * n + Y) C.low m (omega arith) (among d) above in omega arith
    put_falls axioms (link X r Y) m h d above =
        let lt = link_inside n k X r Y h.0 h.1 h.2 in
        let fall = weight_falls laws (marks C axioms) links ((r * n + X) * n + Y) C.low m (omega arith) (among d) above in omega arith

-- what holds of a size and two lists holds of the tables that are these
by_parts : {M : Type 0} (Q : Size → List M → List M → Type 0) (t : Tables M) (s : Size) (p l : List M) → t.size ≡ s → t.pairs.now ≡ p → t.links.now ≡ l → Q s p l → Q t.size t.pairs.now t.links.now
by_parts Q t s p l es ep el q = subst (λ z. Q z t.pairs.now t.links.now) (sym es) (subst (λ z. Q s z t.links.now) (sym ep) (subst (λ z. Q s p z) (sym el) q))

pub raised_stays : {M : Type 0} {C : Chain M} {old new : Tables M} {c : Cell} {m : M} {rose : Bool} → Raised C old c m new rose → Stays old new
raised_stays (raised above puts up) = puts.stays
raised_stays {old = old} (kept below e f) = subst (λ t. Stays old t) (sym e) (stays_not old)

module _ {M : Type 0} {C : Chain M} (laws : Laws C) where
  -- the cell then holds at least the mark
  pub raised_now : (old new : Tables M) (c : Cell) (m : M) (rose : Bool) → Within old.size.n old.size.k c → Raised C old c m new rose → AtMost C m (held C new c)
  raised_now old new c m rose h (raised above puts up) =
      by_parts (λ s q r. AtMost C m (cells C s.n q r c)) new old.size (put_pair old.size.n c m old.pairs.now) (put_link old.size.n c m old.links.now) puts.stays.size puts.pairs puts.links
      (subst (λ v. AtMost C m v) (sym (put_here laws old.size.n old.size.k old.pairs.now old.links.now old.pairs_fit old.links_fit c m h)) (at_most_refl laws m))
  raised_now old new c m rose h (kept below e f) = subst (λ t. AtMost C m (held C t c)) (sym e) below

  pub raised_rise : (axioms : List (Axiom M)) (old new : Tables M) (c : Cell) (m : M) (rose : Bool) → Within old.size.n old.size.k c → Derived C axioms old → Derives C old.size.n old.size.k axioms c m → Raised C old c m new rose → Rise C axioms old new rose
  raised_rise axioms old new c m rose h d here (raised above puts up) =
      let n = old.size.n in
      let k = old.size.k in
      let p = old.pairs.now in
      let l = old.links.now in
      let put : (Q : Size → List M → List M → Type 0) → Q old.size (put_pair n c m p) (put_link n c m l) → Q new.size new.pairs.now new.links.now
      = λ Q. by_parts Q new old.size (put_pair n c m p) (put_link n c m l) puts.stays.size puts.pairs puts.links in
      let fall = put (λ s q r. weight C (marks C axioms) q + weight C (marks C axioms) r < room C axioms old) (put_falls laws n k p l old.pairs_fit old.links_fit axioms c m h here above) in
      record {
        derived =
            put (λ s q r. (e : Cell) → Within s.n s.k e → Derives C s.n s.k axioms e (cells C s.n q r e))
            (λ e w. elim (put_cells laws n k p l old.pairs_fit old.links_fit c m e h w) [
              | inl same ↦ subst (λ v. Derives C n k axioms e v) (sym same.1) (subst (λ x. Derives C n k axioms x m) (sym same.0) here)
              | inr other ↦ subst (λ v. Derives C n k axioms e v) (sym other) (d e w)
            ]);
        rises = put (λ s q r. (e : Cell) → AtMost C (held C old e) (cells C s.n q r e)) (λ e. put_up laws n k p l old.pairs_fit old.links_fit c m e h above);
        less = omega arith;
        falls = λ _. fall;
      }
  raised_rise axioms old new c m rose h d here (kept below e f) =
      subst (λ t. Rise C axioms old t rose) (sym e)
      (record { derived = d; rises = λ c. at_most_refl laws (held C old c); less = omega arith; falls = λ t. absurd (both_ways rose f t) })

  -- a cell that is raised to a mark that follows; F tells the mark from the tables
  pub raises_one : (some : List (Axiom M)) (F : Tables M → M) (c : Cell) {old new : Tables M} {m : M} {rose : Bool} → m ≡ F old → Within old.size.n old.size.k c
      → ((axioms : List (Axiom M)) → Includes some axioms → Derived C axioms old → Derives C old.size.n old.size.k axioms c (F old))
      → Raised C old c m new rose → Raises C some old new rose × (rose ≡ false → AtMost C (F new) (held C new c))
  raises_one some F c {old} {new} {m} {rose} is_m h follows r =
      let r' = subst (λ x. Raised C old c x new rose) is_m r in (
        record { stays = raised_stays r; still = still r; rise = λ axioms i d. raised_rise axioms old new c (F old) rose h d (follows axioms i d) r' },
        λ e. subst (λ t. AtMost C (F t) (held C t c)) (sym (still r e)) (met r' e),
      )
    where
      still : Raised C old c m new rose → rose ≡ false → new ≡ old
      still (raised above puts up) f = absurd (both_ways rose f up)
      still (kept below e g) f = e

      met : Raised C old c (F old) new rose → rose ≡ false → AtMost C (F old) (held C old c)
      met (raised above puts up) f = absurd (both_ways rose f up)
      met (kept below e g) f = below

  pub raises_none : (some : List (Axiom M)) (t : Tables M) → Raises C some t t false
  raises_none some t = record {
    stays = stays_not t;
    still = λ _. refl;
    rise = λ axioms i d. record { derived = d; rises = λ c. at_most_refl laws (held C t c); less = omega arith; falls = λ e. absurd (both_ways false refl e) };
  }

  pub raises_more : {some : List (Axiom M)} {a b c : Tables M} {r s : Bool} → Raises C some a b r → Raises C some b c s → Raises C some a c (r || s)
  raises_more {r = r} {s = s} p q = record {
    stays = stays_more p.stays q.stays;
    still = λ e. let (er, es) = or_parts r s e in q.still es ∙ p.still er;
    rise = λ axioms i d.
        let u = p.rise axioms i d in
        let v = q.rise axioms i u.derived in
        let ul = u.less in
        let vl = v.less in
        record {
          derived = v.derived;
          rises = λ e. laws.trans _ _ _ (u.rises e) (v.rises e);
          less = omega arith;
          falls = λ e. elim (or_cases r s e) [ inl t ↦ let f = u.falls t in omega arith | inr t ↦ let f = v.falls t in omega arith ];
        };
  }

  -- by fewer axioms
  pub raises_fewer : {some more : List (Axiom M)} {a b : Tables M} {r : Bool} → Includes some more → Raises C some a b r → Raises C more a b r
  raises_fewer h p = record { stays = p.stays; still = p.still; rise = λ axioms i. p.rise axioms (λ e s. i e (h e s)) }

  -- one more turn
  pub turns_more : {some : List (Axiom M)} {IsMet : Tables M → ℕ → Type 0} {a b c : Tables M} {x : ℕ} {r s : Bool} → Turns C some IsMet x a b r → Raises C some b c s → (s ≡ false → IsMet c x) → Turns C some IsMet (x + 1) a c (r || s)
  turns_more {IsMet = IsMet} {c = c} {x = x} {r = r} {s = s} p q here = record {
    raises = raises_more p.raises q;
    met = λ e j h.
        let (er, es) = or_parts r s e in
        elim (cases_eq j x) [
          | inl same ↦ subst (IsMet c) (sym same) (here es)
          | inr ne ↦ subst (λ t. IsMet t j) (sym (q.still es)) (p.met er j (omega arith))
        ];
  }

  -- one more turn, which raises one cell
  pub turns_raised : {some : List (Axiom M)} {IsMet : Tables M → ℕ → Type 0} (F : Tables M → M) (d : Cell) (x : ℕ) → ((t : Tables M) → AtMost C (F t) (held C t d) → IsMet t x)
      → {a b c : Tables M} {m : M} {r s : Bool} → Turns C some IsMet x a b r → m ≡ F b → Within a.size.n a.size.k d
      → ((axioms : List (Axiom M)) → Includes some axioms → Derived C axioms b → Derives C b.size.n b.size.k axioms d (F b))
      → Raised C b d m c s → Turns C some IsMet (x + 1) a c (r || s)
  turns_raised {some} F d x asks {a} {b} {c} {m} {r} {s} p is_m h follows up =
      let one = raises_one some F d is_m (within_stays d p.raises.stays h) follows up in turns_more p one.0 (λ e. asks c (one.1 e))
