-- The start marks: every cell lowest, then the highest put where a term falls under itself or under `any`. Assumes nothing.
use Rattle.std.proofs.Common.{◌≡◌, ℕ, ◌+◌, ◌*◌, ◌<◌, Bool, List, [], get_or, replicate, sym, ap, ◌∙◌, subst, inl, inr, arith}
use Rattle.std.proofs.lemmas.List.{get_or-replicate}
use Rattle.std.proofs.lemmas.Bool.{cases_eq}
use Rattle.scale.specs.Order.{Chain, AtMost, Laws}
use Rattle.logic.specs.Axioms.{Axiom, any}
use Rattle.logic.specs.Derivations.{Cell, pair, link, Within, Derives, self, top}
use Rattle.catalogue.specs.Cells.{cells}
use Rattle.catalogue.specs.Climbing.{held, Stays, Raised, Derived, Rise, Tops}
use Rattle.catalogue.specs.declared.tables.Tables.{Tables}
use Rattle.std.proofs.lemmas.Nat.{mul-add-lt}
use Rattle.catalogue.proofs.Places.{link_inside}
use Rattle.catalogue.proofs.Rising.{stays_more, within_stays, raised_stays, raised_now, raised_rise}

-- tables of lowest marks hold the lowest in every cell
pub all_low : {M : Type 0} (C : Chain M) (n k : ℕ) (pairs links : List M) (p l : M) → p ≡ C.low → l ≡ C.low → pairs ≡ replicate (n * n) p → links ≡ replicate (k * n * n) l → (c : Cell) → Within n k c → cells C n pairs links c ≡ C.low
all_low C n k pairs links p l e f ep el (pair X Y) h = ap (λ t. get_or t (X * n + Y) C.low) ep ∙ get_or-replicate (n * n) (X * n + Y) p C.low (mul-add-lt X n Y n h.0 h.1) ∙ e
all_low C n k pairs links p l e f ep el (link X r Y) h = ap (λ t. get_or t ((r * n + X) * n + Y) C.low) el ∙ get_or-replicate (k * n * n) ((r * n + X) * n + Y) l C.low (link_inside n k X r Y h.0 h.1 h.2) ∙ f

module _ {M : Type 0} {C : Chain M} (laws : Laws C) where
  -- a cell that is raised to the highest mark, as may be derived for it
  high : (a b : Tables M) (c : Cell) (m : M) (r : Bool) → m ≡ C.high → Within a.size.n a.size.k c → ((axioms : List (Axiom M)) → Derives C a.size.n a.size.k axioms c C.high) → ((axioms : List (Axiom M)) → Derived C axioms a) → Raised C a c m b r
      → Stays a b × ((axioms : List (Axiom M)) → Rise C axioms a b r) × AtMost C C.high (held C b c)
  high a b c m r e h d derived up =
      let up' = subst (λ v. Raised C a c v b r) e up in
      (raised_stays up', λ axioms. raised_rise laws axioms a b c C.high r h (derived axioms) (d axioms) up', raised_now laws a b c C.high r h up')

  pub started_more : (first a b c : Tables M) (x : ℕ) (m m' : M) (r s : Bool) → x < first.size.n → m ≡ C.high → m' ≡ C.high → Raised C a (pair x x) m b r → Raised C b (pair x any) m' c s
      → Stays first a × ((axioms : List (Axiom M)) → Derived C axioms a) × ((X : ℕ) → X < x → Tops C a X)
      → Stays first c × ((axioms : List (Axiom M)) → Derived C axioms c) × ((X : ℕ) → X < x + 1 → Tops C c X)
  started_more first a b c x m m' r s lt e e' up up' (stays, derived, before) =
      let two = first.size.limits.0 in
      let ha = within_stays (pair x x) stays (lt, lt) in
      let (stays₁, rise₁, here₁) = high a b (pair x x) m r e ha (λ axioms. self x ha.0) derived up in
      let hb = within_stays (pair x any) (stays_more stays stays₁) (lt, omega arith) in
      let (stays₂, rise₂, here₂) = high b c (pair x any) m' s e' hb (λ axioms. top x hb.0) (λ axioms. (rise₁ axioms).derived) up' in
      let rises₁ = (rise₁ []).rises in
      let rises₂ = (rise₂ []).rises in (
        stays_more (stays_more stays stays₁) stays₂,
        λ axioms. (rise₂ axioms).derived,
        λ X h. elim (cases_eq X x) [
          | inl same ↦ subst (Tops C c) (sym same) (laws.trans _ _ _ here₁ (rises₂ (pair x x)), here₂)
          | inr ne ↦
              let (p, q) = before X (omega arith) in
              (laws.trans _ _ _ p (laws.trans _ _ _ (rises₁ (pair X X)) (rises₂ (pair X X))), laws.trans _ _ _ q (laws.trans _ _ _ (rises₁ (pair X any)) (rises₂ (pair X any))))
        ],
      )
