-- The marks that can be derived: the lowest, the highest and the cards' own. Assumes nothing.
use Rattle.std.proofs.Common.{ℕ, List, refl, inl, inr}
use mathlib.Core.List.Memᴰ
use Rattle.std.proofs.lemmas.Bool.{cond_both}
use Rattle.scale.specs.Order.{Chain, lower}
use Rattle.logic.specs.Axioms.{Axiom, mark_of, In}
use Rattle.logic.specs.Ranks.{marks, Among}
use Rattle.logic.specs.Derivations.{Cell, Derives, start, self, top, by_is, by_both, by_has, by_from, by_under, by_chain, widen, fall}

pub among_lower : {M : Type 0} (C : Chain M) (ms : List M) (a b : M) → Among C ms a → Among C ms b → Among C ms (lower C a b)
among_lower C ms a b p q = cond_both (C.leq a b) a b (Among C ms) (λ _. p) (λ _. q)

own : {M : Type 0} (C : Chain M) {axioms : List (Axiom M)} {a : Axiom M} → In a axioms → Among C (marks C axioms) (mark_of a)
own C i = inr (Memᴰ.tail (Memᴰ.map mark_of i))

module _ {M : Type 0} {C : Chain M} {n k : ℕ} {axioms : List (Axiom M)} where
  pub among : {c : Cell} {m : M} → Derives C n k axioms c m → Among C (marks C axioms) m
  among (start c h) = inl refl
  among (self X h) = inr (Memᴰ.head refl)
  among (top X h) = inr (Memᴰ.head refl)
  among (by_is i d) = among_lower C _ _ _ (among d) (own C i)
  among (by_both i d e) = among_lower C _ _ _ (among_lower C _ _ _ (among d) (among e)) (own C i)
  among (by_has i d) = among_lower C _ _ _ (among d) (own C i)
  among (by_from i d) = among_lower C _ _ _ (among d) (own C i)
  among (by_under i d) = among_lower C _ _ _ (among d) (own C i)
  among (by_chain i d e) = among_lower C _ _ _ (among_lower C _ _ _ (among d) (among e)) (own C i)
  among (widen ne d e) = among_lower C _ _ _ (among d) (among e)
  among (fall d e) = among_lower C _ _ _ (among d) (among e)
