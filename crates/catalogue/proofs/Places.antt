-- The place of a link cell is within the link table. Assumes nothing.
use Rattle.std.proofs.Common.{◌≡◌, ℕ, ◌+◌, ◌*◌, ◌<◌, ap, ◌∙◌, mul_comm, arith}
use Rattle.std.proofs.lemmas.Nat.{mul-add-lt}

pub link_inside : (n k x r y : ℕ) → x < n → r < k → y < n → (r * n + x) * n + y < k * n * n
link_inside n k x r y hx hr hy =
    let row = mul-add-lt r n x k hr hx in
    let place = mul-add-lt (r * n + x) n y (n * k) row hy in
    let same : n * (n * k) ≡ k * n * n = mul_comm n (n * k) ∙ ap (λ t. t * n) (mul_comm n k) in
    omega arith
