use Rattle.std.proofs.Common.{◌≡◌, ℕ, ◌+◌, List, [], ◌∷◌, ◌++◌, length, codes, sym, ap, ◌∙◌, append_assoc, arith, length-append}
use Rattle.scale.proofs.Printing.{printed_append, printed_then, printed_same}
use Rattle.tour.specs.Routes.{route_line}
use Rattle.tour.proofs.route.Route.print.Goals as goal

abbrev line : List ℕ → List ℕ → List ℕ → List ℕ
line a b s = a ++ (codes " then " ++ (b ++ (codes " gives " ++ (s ++ (10 ∷ [])))))

length_line : (a b s : List ℕ) → length (line a b s) ≡ length a + length b + length s + 14
length_line a b s = simp length-append (omega arith)

-- the line as it is written, piece after piece
line_pieces : (a b s : List ℕ) → line a b s ≡ ((((a ++ codes " then ") ++ b) ++ codes " gives ") ++ s) ++ (10 ∷ [])
line_pieces a b s = simp append_assoc

pub returns : goal.returns
returns g c =
    let order = g.S.Scale.order in
    let bytes = g.S.Written.bytes in
    let a = bytes c.args.self.first in
    let b = bytes c.args.self.second in
    let s = bytes c.strength-strength.result in
    let told = ap bytes c.strength-strength.ensures in
    let p₂ = printed_append _ _ _ _ _ _ a (codes " then ") c.in_ok-at.ensures c.in_ok-at-2.ensures in
    let p₃ = printed_append _ _ _ _ _ _ _ b p₂ c.in_ok-at-3.ensures in
    let p₄ = printed_append _ _ _ _ _ _ _ (codes " gives ") p₃ c.in_ok-at-4.ensures in
    let p₅ = printed_append _ _ _ _ _ _ _ s p₄ c.in_ok-at-5.ensures in
    let long = length_line a b s in
    let whole = ap length (line_pieces a b s) in
    let parts = length-append ((((a ++ codes " then ") ++ b) ++ codes " gives ") ++ s) (10 ∷ []) in
    printed_same (route_line order bytes c.args.self) _ _ _ _ _
    (printed_then _ _ _ _ _ c.put-3.result _ (10 ∷ []) (omega arith) p₅ c.put-3.ensures)
    (ap (line a b) (sym told) ∙ line_pieces a b s)
