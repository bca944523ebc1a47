use Rattle.std.proofs.Common.{◌≡◌, length, replicate, List, [], ◌∷◌, ◌++◌, sym, refl, ap, ◌∙◌, length-append, rules}
use Rattle.std.proofs.lemmas.List.{replicate_more}
use Rattle.std.proofs.lemmas.Fn.{chained_keeps}
use Rattle.catalogue.proofs.tables.fill.Goals as goal

-- one more of the same item
more : {A : Type 0} (xs : List A) (x m : A) → xs ≡ replicate (length xs) m → x ≡ m → xs ++ x ∷ [] ≡ replicate (length (xs ++ x ∷ [])) m
more xs x m e f =
    ap (λ ys. ys ++ x ∷ []) e ∙ ap (λ y. replicate (length xs) m ++ y ∷ []) f ∙ replicate_more (length xs) m
    ∙ ap (λ n. replicate n m) (sym (length-append xs (x ∷ [])))

pub returns : goal.returns
returns g c =
    let m = c.args.mark in
    let (last, ran) = c.fill_with.ensures.ran in
    let all = chained_keeps _ (λ xs q. (xs ≡ replicate (length xs) m) × (q.0.now ≡ m))
    (λ xs q x v j r. let same : x ≡ m = search rules in (more xs x m j.0 same, search rules)) c.fill_with.new.self _ last (refl, refl) ran in
    all.0 ∙ ap (λ n. replicate n m) c.fill_with.ensures.len
