-- Routes of two steps, and the line that tells a route's strength. Assumes nothing.
use Rattle.std.specs.Prelude.{ℕ, List, [], ◌∷◌, ◌++◌, codes}
use Rattle.scale.specs.Order.{Chain, lower}
use Rattle.tour.specs.declared.route.Route.{Route}

-- the strength of a route is the lower of its marks
abbrev pub strength : {M : Type 0} → Chain M → Route M → M
strength order route = lower order route.first route.second

-- as `700 then 400 gives 400`, and a line feed
abbrev pub route_line : {M : Type 0} → Chain M → (M → List ℕ) → Route M → List ℕ
route_line order bytes route = bytes route.first ++ (codes " then " ++ (bytes route.second ++ (codes " gives " ++ (bytes (strength order route) ++ (10 ∷ [])))))
