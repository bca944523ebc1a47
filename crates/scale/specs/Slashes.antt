-- Ranked marks: two forms with a slash between. Assumes nothing.
use Rattle.std.specs.Prelude.{◌≡◌, ℕ, ◌+◌, ◌≤◌, true, List, [], ◌∷◌, ◌++◌, length, refl}
use Rattle.std.proofs.Common.{ap, ◌∙◌, arith, length-append}
use Rattle.std.proofs.ByRecursion.{All-append}
use Rattle.scale.specs.Words.{slash, plain, NoSlash}
use Rattle.scale.specs.Forms.{Forms}
use Rattle.scale.specs.Grades.{grade_bytes}
use Rattle.scale.specs.Thousandths.{mille_bytes}
use Rattle.scale.specs.Ranks.{ranked_bytes}
use Rattle.scale.specs.declared.grades.Grade.{Grade}
use Rattle.scale.specs.declared.grades.Grade.TheVariants.{Partial}
use Rattle.scale.specs.declared.per_mille.PerMille.{PerMille}
use Rattle.scale.specs.declared.per_mille.PerMille.TheVariants.{Thousand}
use Rattle.scale.specs.declared.pairs.Pair.{Pair}
use Rattle.scale.specs.Grading.{grade_forms, grade_no_slash}
use Rattle.scale.specs.Numerals.{mille_forms, decimal_thousand}

-- a word is cut at its first slash in one way
pub cut_once : (u u' v v' : List ℕ) → NoSlash u → NoSlash u' → u ++ (slash ∷ v) ≡ u' ++ (slash ∷ v') → (u ≡ u') × (v ≡ v')
cut_once [] [] v v' p p' e = (refl, cc)
cut_once [] (b ∷ u') v v' p p' e = let z : b ≡ slash = cc in absurd (p'.0 z)
cut_once (b ∷ u) [] v v' p p' e = let z : b ≡ slash = cc in absurd (p.0 z)
cut_once (b ∷ u) (b' ∷ u') v v' p p' e =
    let z : b ≡ b' = cc in
    let t : u ++ (slash ∷ v) ≡ u' ++ (slash ∷ v') = cc in
    let r = cut_once u u' v v' p.1 p'.1 t in
    let first = r.0 in (cc, r.1)

length_ranked : (m : Pair Grade PerMille) → length (ranked_bytes m) ≡ length (grade_bytes m.first) + (1 + length (mille_bytes m.second))
length_ranked m = length-append (grade_bytes m.first) (slash ∷ mille_bytes m.second) ∙ omega arith

ranked_distinct : (a b : Pair Grade PerMille) → ranked_bytes a ≡ ranked_bytes b → a ≡ b
ranked_distinct a b e =
    let r = cut_once (grade_bytes a.first) (grade_bytes b.first) (mille_bytes a.second) (mille_bytes b.second) (grade_no_slash a.first) (grade_no_slash b.first) e in
    let f = grade_forms.distinct a.first b.first r.0 in
    let s = mille_forms.distinct a.second b.second r.1 in
    λ i. record { first = f i; second = s i }

ranked_within : (m : Pair Grade PerMille) → length (ranked_bytes m) ≤ 12
ranked_within m = omega (arith, length_ranked m, grade_forms.within m.first, mille_forms.within m.second)

-- the laws of ranked forms
pub ranked_forms : Forms ranked_bytes 12
ranked_forms = record {
  word = λ m. record {
    some = omega (arith, length_ranked m);
    short = omega (arith, ranked_within m);
    plainly = All-append (λ b. plain b ≡ true) (grade_bytes m.first) (slash ∷ mille_bytes m.second) (grade_forms.word m.first).plainly (refl, (mille_forms.word m.second).plainly);
  };
  distinct = ranked_distinct;
  within = ranked_within;
  widest = (record { first = Partial; second = Thousand }, length_ranked (record { first = Partial; second = Thousand }) ∙ ap (λ n. 7 + (1 + n)) (ap length decimal_thousand));
}
