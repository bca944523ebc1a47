-- Laws of scales. Assumes nothing.
use Rattle.std.specs.Prelude.{◌≡◌, ℕ, ◌<◌, ◌≤◌}
use Rattle.std.proofs.Common.{ap, inl, inr, arith}
use Rattle.std.proofs.lemmas.Bool.{leb-true, le-leb, cases_lt}
use Rattle.scale.specs.Order.{Laws, numbered}

-- an order by a number is lawful where the number tells the marks apart and the ends have the least and the greatest number
pub numbered_laws : {M : Type 0} (number : M → ℕ) (low high : M) → ((a b : M) → number a ≡ number b → a ≡ b) → ((a : M) → number low ≤ number a) → ((a : M) → number a ≤ number high) → number low < number high → Laws (numbered number low high)
numbered_laws number low high once down up differ = record {
  total = λ a b. elim (cases_lt (number b) (number a)) [
    | inl h ↦ inr (le-leb (number b) (number a) (omega arith))
    | inr h ↦ inl (le-leb (number a) (number b) h)
  ];
  trans = λ a b c p q. let h = leb-true (number a) (number b) p in let k = leb-true (number b) (number c) q in le-leb (number a) (number c) (omega arith);
  antisym = λ a b p q. let h = leb-true (number a) (number b) p in let k = leb-true (number b) (number a) q in once a b (omega arith);
  least = λ a. le-leb (number low) (number a) (down a);
  greatest = λ a. le-leb (number a) (number high) (up a);
  apart = λ e. let h = ap number e in omega arith;
}
