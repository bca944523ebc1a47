-- A pair of scales is a scale. Assumes nothing.
use Rattle.std.specs.Prelude.{◌≡◌, Bool, true, false, cond, ◌⊎◌, refl}
use Rattle.std.proofs.Common.{ap, sym, inl, inr}
use Rattle.std.proofs.lemmas.Bool.{cases_Bool, true≢false, both_ways}
use Rattle.scale.specs.Order.{Chain, AtMost, Laws}
use Rattle.scale.specs.Pairs.{pair_order}
use Rattle.scale.specs.declared.pairs.Pair.{Pair}

-- the answer of the pair's order, taken apart and put together
split : (p q r : Bool) → cond p (cond q r true) false ≡ true → (p ≡ true) × (q ≡ true → r ≡ true)
split true true r e = (refl, λ _. e)
split true false r e = (refl, λ x. absurd (true≢false (sym x)))
split false q r e = absurd (true≢false (sym e))

join : (p q r : Bool) → p ≡ true → (q ≡ true → r ≡ true) → cond p (cond q r true) false ≡ true
join true true r e f = f refl
join true false r e f = refl
join false q r e f = e

module _ {A B : Type 0} (CA : Chain A) (CB : Chain B) (x y : Pair A B) where
  parts : AtMost (pair_order CA CB) x y → AtMost CA x.first y.first × (AtMost CA y.first x.first → AtMost CB x.second y.second)
  parts = split (CA.leq x.first y.first) (CA.leq y.first x.first) (CB.leq x.second y.second)

  from_parts : AtMost CA x.first y.first → (AtMost CA y.first x.first → AtMost CB x.second y.second) → AtMost (pair_order CA CB) x y
  from_parts = join (CA.leq x.first y.first) (CA.leq y.first x.first) (CB.leq x.second y.second)

module _ {A B : Type 0} {CA : Chain A} {CB : Chain B} (a : Laws CA) (b : Laws CB) where
  pair_total : (x y : Pair A B) → AtMost (pair_order CA CB) x y ⊎ AtMost (pair_order CA CB) y x
  pair_total x y = elim (cases_Bool (CA.leq x.first y.first)) [
    | inr above ↦ inr (from_parts CA CB y x (elim (a.total x.first y.first) [ inl h ↦ absurd (both_ways _ above h) | inr h ↦ h ]) (λ h. absurd (both_ways _ above h)))
    | inl below ↦ elim (cases_Bool (CA.leq y.first x.first)) [
      | inr above ↦ inl (from_parts CA CB x y below (λ h. absurd (both_ways _ above h)))
      | inl same ↦ elim (b.total x.second y.second) [
        | inl h ↦ inl (from_parts CA CB x y below (λ _. h))
        | inr h ↦ inr (from_parts CA CB y x same (λ _. h))
      ]
    ]
  ]

  pair_trans : (x y z : Pair A B) → AtMost (pair_order CA CB) x y → AtMost (pair_order CA CB) y z → AtMost (pair_order CA CB) x z
  pair_trans x y z p q =
      let xy = parts CA CB x y p in
      let yz = parts CA CB y z q in
      from_parts CA CB x z (a.trans _ _ _ xy.0 yz.0)
      (λ zx. b.trans _ _ _ (xy.1 (a.trans _ _ _ yz.0 zx)) (yz.1 (a.trans _ _ _ zx xy.0)))

  pair_antisym : (x y : Pair A B) → AtMost (pair_order CA CB) x y → AtMost (pair_order CA CB) y x → x ≡ y
  pair_antisym x y p q =
      let xy = parts CA CB x y p in
      let yx = parts CA CB y x q in
      let f = a.antisym _ _ xy.0 yx.0 in
      let s = b.antisym _ _ (xy.1 yx.0) (yx.1 xy.0) in λ i. record { first = f i; second = s i }

  pub pair_laws : Laws (pair_order CA CB)
  pair_laws = record {
    total = pair_total;
    trans = pair_trans;
    antisym = pair_antisym;
    least = λ x. from_parts CA CB _ x (a.least x.first) (λ _. b.least x.second);
    greatest = λ x. from_parts CA CB x _ (a.greatest x.first) (λ _. b.greatest x.second);
    apart = λ e. let f : Pair A B → A = λ p. p.first in a.apart (ap f e);
  }
