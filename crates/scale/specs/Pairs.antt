-- The scale of pairs of marks: the first parts decide, and where they are equal the second parts do. Assumes nothing.
use Rattle.std.specs.Prelude.{◌≡◌, Bool, true, false, cond, ◌≢◌}
use Rattle.scale.specs.Order.{Chain}
use Rattle.scale.specs.declared.pairs.Pair.{Pair}

abbrev pub pair_order : {A B : Type 0} → Chain A → Chain B → Chain (Pair A B)
pair_order CA CB = record {
  leq = λ p q. cond (CA.leq p.first q.first) (cond (CA.leq q.first p.first) (CB.leq p.second q.second) true) false;
  low = record { first = CA.low; second = CB.low };
  high = record { first = CA.high; second = CB.high };
}

-- the answer to whether p is at most q, in words
pub record FirstDecides {A B : Type 0} (CA : Chain A) (CB : Chain B) (p q : Pair A B) (answer : Bool) : Type 0 where
  pub differing : (p.first ≢ q.first) → answer ≡ CA.leq p.first q.first
  pub equal : p.first ≡ q.first → answer ≡ CB.leq p.second q.second
