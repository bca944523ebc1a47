-- What it is for a card to keep the rules, which rule a card breaks, which card of a list is the first that breaks one, and what cards say, in words; cards that keep the rules are in range. Assumes nothing.
use Rattle.std.proofs.Common.{◌≡◌, ℕ, zero, suc, ◌+◌, ◌<◌, Bool, true, false, not, eqb, ltb, ◌⊎◌, ◌↔◌, Option, Some, None, List, [], ◌∷◌, ◌++◌, length, sym, refl, ap, ◌∙◌, subst, inl, inr, arith}
use mathlib.Core.List.{Memᴰ}
use mathlib.Core.List.Memᴰ
use Rattle.std.proofs.lemmas.Bool.{both_ways, ltb-true, ltb-false, lt-ltb, le-ltb, eqb-true, eqb-false, ne_eqb}
use Rattle.scale.specs.Order.{Chain, AtMost}
use Rattle.logic.specs.declared.cards.Card.{Card}
use Rattle.logic.specs.declared.cards.Statement.{Statement}
use Rattle.logic.specs.Axioms.{Axiom, is, both, has, from, under, chain, InRange, AllInRange, In, mark_of}
use Rattle.logic.specs.Records.{card_of, card_with, says, axioms}
use Rattle.logic.proofs.Saying.{said, same_axiom, recorded_said}
use Rattle.catalogue.specs.declared.refusals.Place.{Place}
use Rattle.catalogue.specs.declared.refusals.Place.TheVariants.{First, Second, Third}
use Rattle.catalogue.specs.declared.rules.Kind.{Kind}
use Rattle.catalogue.specs.declared.rules.Kind.TheVariants.{Term, Link, Unused}
use Rattle.catalogue.specs.Refusals.{Verdict, fine, refuse, row, ◌then◌, place_number}
use Rattle.catalogue.specs.Rules.{kinds, admits, number_at, kind_at, IsOut, FirstOut, numbers_verdict, statement_verdict, card_verdict, cards_verdict, at_place, KeptInWords, RuleInWords, FirstBroken, BrokenInWords, SaidInWords}

-- the tests of three numbers, which pass or not
abbrev numbers_test : (first second third : Bool) → Verdict
numbers_test first second third = row 4 (1 ∷ []) (not first) then row 4 (2 ∷ []) (not second) then row 4 (3 ∷ []) (not third)

all_pass : (p q r : Bool) → numbers_test p q r ≡ fine → (p ≡ true) × (q ≡ true) × (r ≡ true)
all_pass true true true e = (refl, refl, refl)
all_pass true true false e = cc
all_pass true false r e = cc
all_pass false q r e = cc

all_fine : (p q r : Bool) → p ≡ true → q ≡ true → r ≡ true → numbers_test p q r ≡ fine
all_fine p q r ep eq er i = numbers_test (ep i) (eq i) (er i)

-- the test of the mark after another
marked_fine : (v : Verdict) (l : Bool) → (v then row 5 [] l) ≡ fine → (v ≡ fine) × (l ≡ false)
marked_fine fine false e = (refl, refl)
marked_fine fine true e = cc
marked_fine (refuse number values) l e = cc

-- of three answers, the one for a place
abbrev answer_at : Place → (first second third : Bool) → Bool
answer_at First p q r = p
answer_at Second p q r = q
answer_at Third p q r = r

first_out : (place : Place) (p q r l : Bool) → (numbers_test p q r then row 5 [] l) ≡ refuse 4 (place_number place ∷ []) → (answer_at place p q r ≡ false) × ((earlier : Place) → place_number earlier < place_number place → answer_at earlier p q r ≡ true)
first_out First false q r l e = (refl, earlier)
  where
    earlier : (at : Place) → place_number at < 1 → answer_at at false q r ≡ true
    earlier First h = absurd (omega arith)
    earlier Second h = absurd (omega arith)
    earlier Third h = absurd (omega arith)
first_out First true false r l e = cc
first_out First true true false l e = cc
first_out First true true true false e = cc
first_out First true true true true e = cc
first_out Second false q r l e = cc
first_out Second true false r l e = (refl, earlier)
  where
    earlier : (at : Place) → place_number at < 2 → answer_at at true false r ≡ true
    earlier First h = refl
    earlier Second h = absurd (omega arith)
    earlier Third h = absurd (omega arith)
first_out Second true true false l e = cc
first_out Second true true true false e = cc
first_out Second true true true true e = cc
first_out Third false q r l e = cc
first_out Third true false r l e = cc
first_out Third true true false l e = (refl, earlier)
  where
    earlier : (at : Place) → place_number at < 3 → answer_at at true true false ≡ true
    earlier First h = refl
    earlier Second h = refl
    earlier Third h = absurd (omega arith)
first_out Third true true true false e = cc
first_out Third true true true true e = cc

not_unknown : (p q r l : Bool) → (numbers_test p q r then row 5 [] l) ≡ refuse 3 [] → ⊥
not_unknown true true true true e = cc
not_unknown true true true false e = cc
not_unknown true true false l e = cc
not_unknown true false r l e = cc
not_unknown false q r l e = cc

lowest_last : (p q r l : Bool) → (numbers_test p q r then row 5 [] l) ≡ refuse 5 [] → (numbers_test p q r ≡ fine) × (l ≡ true)
lowest_last true true true true e = (refl, refl)
lowest_last true true true false e = cc
lowest_last true true false l e = cc
lowest_last true false r l e = cc
lowest_last false q r l e = cc

-- the forms that have no kinds
known_form : (form : ℕ) → 0 < form → form < 7 → (form ≡ 0) ⊎ (6 < form) → ⊥
known_form form some few (inl e) = omega arith
known_form form some few (inr lt) = omega arith

no_kinds : (form : ℕ) → (kinds form ≡ None) ↔ ((form ≡ 0) ⊎ (6 < form))
no_kinds zero = (λ _. inl refl, λ _. refl)
no_kinds (suc zero) = (λ e. cc, λ h. absurd (known_form 1 (omega arith) (omega arith) h))
no_kinds (suc (suc zero)) = (λ e. cc, λ h. absurd (known_form 2 (omega arith) (omega arith) h))
no_kinds (suc (suc (suc zero))) = (λ e. cc, λ h. absurd (known_form 3 (omega arith) (omega arith) h))
no_kinds (suc (suc (suc (suc zero)))) = (λ e. cc, λ h. absurd (known_form 4 (omega arith) (omega arith) h))
no_kinds (suc (suc (suc (suc (suc zero))))) = (λ e. cc, λ h. absurd (known_form 5 (omega arith) (omega arith) h))
no_kinds (suc (suc (suc (suc (suc (suc zero)))))) = (λ e. cc, λ h. absurd (known_form 6 (omega arith) (omega arith) h))
no_kinds (suc (suc (suc (suc (suc (suc (suc form))))))) = (λ _. inr (omega arith), λ _. refl)

-- a number is admitted where it is not out of range
module _ (n k : ℕ) where
  out_of : (kind : Kind) (x : ℕ) → admits n k kind x ≡ false → IsOut n k kind x
  out_of Term x e = ltb-false x n e
  out_of Link x e = ltb-false x k e
  out_of Unused x e = eqb-false x 0 e

  not_admitted : (kind : Kind) (x : ℕ) → IsOut n k kind x → admits n k kind x ≡ false
  not_admitted Term x h = le-ltb x n h
  not_admitted Link x h = le-ltb x k h
  not_admitted Unused x h = ne_eqb x 0 h

  not_out : (kind : Kind) (x : ℕ) → admits n k kind x ≡ true → IsOut n k kind x → ⊥
  not_out kind x e h = both_ways (admits n k kind x) (not_admitted kind x h) e

  admitted : (kind : Kind) (x : ℕ) → (IsOut n k kind x → ⊥) → admits n k kind x ≡ true
  admitted kind x within = by (admits n k kind x) refl
    where
      by : (b : Bool) → admits n k kind x ≡ b → admits n k kind x ≡ true
      by true e = e
      by false e = absurd (within (out_of kind x e))

-- the numbers of a form that is known, and of one that is not
module _ (n k : ℕ) (s : Statement) (l : Bool) where
  unknown_only : (o : Option (Kind × Kind × Kind)) → (numbers_verdict n k o s then row 5 [] l) ≡ refuse 3 [] → o ≡ None
  unknown_only None e = refl
  unknown_only (Some ks) e = absurd (not_unknown (admits n k ks.0 s.first) (admits n k ks.1 s.second) (admits n k ks.2 s.third) l e)

  lowest_only : (o : Option (Kind × Kind × Kind)) → (numbers_verdict n k o s then row 5 [] l) ≡ refuse 5 [] → (numbers_verdict n k o s ≡ fine) × (l ≡ true)
  lowest_only None e = cc
  lowest_only (Some ks) e = lowest_last (admits n k ks.0 s.first) (admits n k ks.1 s.second) (admits n k ks.2 s.third) l e

  answer_of : (ks : Kind × Kind × Kind) (place : Place) → answer_at place (admits n k ks.0 s.first) (admits n k ks.1 s.second) (admits n k ks.2 s.third) ≡ admits n k (kind_at place ks) (number_at place s)
  answer_of ks First = refl
  answer_of ks Second = refl
  answer_of ks Third = refl

  out_first : (place : Place) (o : Option (Kind × Kind × Kind)) → kinds s.form ≡ o → (numbers_verdict n k o s then row 5 [] l) ≡ refuse 4 (place_number place ∷ []) → FirstOut n k s place
  out_first place None known e = cc
  out_first place (Some ks) known e =
      let (out, before) = first_out place (admits n k ks.0 s.first) (admits n k ks.1 s.second) (admits n k ks.2 s.third) l e in
      record {
        expected = ks;
        known = known;
        out = out_of n k (kind_at place ks) (number_at place s) (sym (answer_of ks place) ∙ out);
        before = λ earlier h. not_out n k (kind_at earlier ks) (number_at earlier s) (sym (answer_of ks earlier) ∙ before earlier h);
      }

  first_refused : (place : Place) (ks : Kind × Kind × Kind) → admits n k (kind_at place ks) (number_at place s) ≡ false → ((earlier : Place) → place_number earlier < place_number place → admits n k (kind_at earlier ks) (number_at earlier s) ≡ true)
      → (numbers_verdict n k (Some ks) s then row 5 [] l) ≡ refuse 4 (place_number place ∷ [])
  first_refused First ks out before = λ i. numbers_test (out i) (admits n k ks.1 s.second) (admits n k ks.2 s.third) then row 5 [] l
  first_refused Second ks out before = let p = before First (omega arith) in λ i. numbers_test (p i) (out i) (admits n k ks.2 s.third) then row 5 [] l
  first_refused Third ks out before = let p = before First (omega arith) in let q = before Second (omega arith) in λ i. numbers_test (p i) (q i) (out i) then row 5 [] l

module _ {M : Type 0} (n k : ℕ) where
  -- a statement whose form and numbers pass is that of an axiom that is in range, with whatever mark
  statement_kept : (f a b c : ℕ) (m : M) → statement_verdict n k (card_with f a b c m).statement ≡ fine → (x : Axiom M) × (card_with f a b c m ≡ card_of x) × InRange n k x × (mark_of x ≡ m)
  statement_kept zero a b c m e = cc
  statement_kept (suc zero) a b c m e =
      let (p, q, r) = all_pass (ltb a n) (ltb b n) (eqb c 0) e in
      (is a b m, ap (λ z. card_with 1 a b z m) (eqb-true c 0 r), (ltb-true a n p, ltb-true b n q), refl)
  statement_kept (suc (suc zero)) a b c m e =
      let (p, q, r) = all_pass (ltb a n) (ltb b n) (ltb c n) e in
      (both a b c m, refl, (ltb-true a n p, ltb-true b n q, ltb-true c n r), refl)
  statement_kept (suc (suc (suc zero))) a b c m e =
      let (p, q, r) = all_pass (ltb a n) (ltb b k) (ltb c n) e in
      (has a b c m, refl, (ltb-true a n p, ltb-true b k q, ltb-true c n r), refl)
  statement_kept (suc (suc (suc (suc zero)))) a b c m e =
      let (p, q, r) = all_pass (ltb a k) (ltb b n) (ltb c n) e in
      (from a b c m, refl, (ltb-true a k p, ltb-true b n q, ltb-true c n r), refl)
  statement_kept (suc (suc (suc (suc (suc zero))))) a b c m e =
      let (p, q, r) = all_pass (ltb a k) (ltb b k) (eqb c 0) e in
      (under a b m, ap (λ z. card_with 5 a b z m) (eqb-true c 0 r), (ltb-true a k p, ltb-true b k q), refl)
  statement_kept (suc (suc (suc (suc (suc (suc zero)))))) a b c m e =
      let (p, q, r) = all_pass (ltb a k) (ltb b k) (ltb c k) e in
      (chain a b c m, refl, (ltb-true a k p, ltb-true b k q, ltb-true c k r), refl)
  statement_kept (suc (suc (suc (suc (suc (suc (suc f))))))) a b c m e = cc

  kept_statement : (a : Axiom M) → InRange n k a → statement_verdict n k (card_of a).statement ≡ fine
  kept_statement (is A B m) h = all_fine _ _ true (lt-ltb A n h.0) (lt-ltb B n h.1) refl
  kept_statement (both A B D m) h = all_fine _ _ _ (lt-ltb A n h.0) (lt-ltb B n h.1) (lt-ltb D n h.2)
  kept_statement (has A r B m) h = all_fine _ _ _ (lt-ltb A n h.0) (lt-ltb r k h.1) (lt-ltb B n h.2)
  kept_statement (from r A B m) h = all_fine _ _ _ (lt-ltb r k h.0) (lt-ltb A n h.1) (lt-ltb B n h.2)
  kept_statement (under r s m) h = all_fine _ _ true (lt-ltb r k h.0) (lt-ltb s k h.1) refl
  kept_statement (chain r q s m) h = all_fine _ _ _ (lt-ltb r k h.0) (lt-ltb q k h.1) (lt-ltb s k h.2)

  mark_kept : (a : Axiom M) → (card_of a).mark ≡ mark_of a
  mark_kept (is A B m) = refl
  mark_kept (both A B D m) = refl
  mark_kept (has A r B m) = refl
  mark_kept (from r A B m) = refl
  mark_kept (under r s m) = refl
  mark_kept (chain r q s m) = refl

  -- the verdict on the record of an axiom that is in range is that on its mark
  mark_left : (C : Chain M) (a : Axiom M) (l : Bool) → InRange n k a → C.leq (mark_of a) C.low ≡ l → card_verdict C n k (card_of a) ≡ row 5 [] l
  mark_left C a l h e = (λ i. kept_statement a h i then row 5 [] (C.leq (mark_kept a i) C.low)) ∙ ap (λ b. row 5 [] b) e

pub kept_in_words : {M : Type 0} (C : Chain M) → KeptInWords C
unfolding KeptInWords
kept_in_words C n k card = (
  λ e.
      let (v, l) = marked_fine (statement_verdict n k card.statement) _ e in
      let (a, is_a, h, m) = statement_kept n k card.statement.form card.statement.first card.statement.second card.statement.third card.mark v in
      (a, is_a, h, subst (λ x. C.leq x C.low ≡ false) (sym m) l),
  λ a e h l. subst (λ c. card_verdict C n k c ≡ fine) (sym e) (mark_left n k C a false h l),
)

pub rule_in_words : {M : Type 0} (C : Chain M) → RuleInWords C
unfolding RuleInWords
rule_in_words C n k card =
    let s = card.statement in
    let l = C.leq card.mark C.low in
    record {
      unknown = (
        λ e. (no_kinds s.form).0 (unknown_only n k s l (kinds s.form) e),
        λ h. ap (λ o. numbers_verdict n k o s then row 5 [] l) ((no_kinds s.form).1 h),
      );
      out_of_range = λ place. (
        λ e. out_first n k s l place (kinds s.form) refl e,
        λ f.
            ap (λ o. numbers_verdict n k o s then row 5 [] l) f.known
            ∙ first_refused n k s l place f.expected (not_admitted n k _ _ f.out) (λ earlier h. admitted n k _ _ (f.before earlier h)),
      );
      lowest = (
        λ e.
            let (v, low) = lowest_only n k s l (kinds s.form) e in
            let (a, is_a, h, m) = statement_kept n k s.form s.first s.second s.third card.mark v in
            (a, is_a, h, subst (λ x. AtMost C x C.low) (sym m) low),
        λ f. subst (λ c. card_verdict C n k c ≡ refuse 5 []) (sym f.1) (mark_left n k C f.0 true f.2 f.3),
      );
    }

first_fine : (place : ℕ) (v w : Verdict) → (at_place place v then w) ≡ fine → (v ≡ fine) × (w ≡ fine)
first_fine place fine w e = (refl, e)
first_fine place (refuse number values) w e = cc

module _ {M : Type 0} (C : Chain M) (n k : ℕ) where
  all_keep : (start : ℕ) (cards : List (Card M)) → cards_verdict C n k start cards ≡ fine → (card : Card M) → Memᴰ card cards → card_verdict C n k card ≡ fine
  all_keep start [] e card i = absurd (Memᴰ.not-nil i)
  all_keep start (c ∷ cards) e card i =
      let (here, rest) = first_fine start (card_verdict C n k c) _ e in
      elim (Memᴰ.cases_cons i) [
        | inl same ↦ subst (λ d. card_verdict C n k d ≡ fine) (sym same) here
        | inr later ↦ all_keep (suc start) cards rest card later
      ]

  fine_then : (start : ℕ) (cards : List (Card M)) → ((card : Card M) → Memᴰ card cards → card_verdict C n k card ≡ fine) → cards_verdict C n k start cards ≡ fine
  fine_then start [] h = refl
  fine_then start (c ∷ cards) h =
      subst (λ v. (at_place start v then cards_verdict C n k (suc start) cards) ≡ fine) (sym (h c (Memᴰ.head refl)))
      (fine_then (suc start) cards (λ card i. h card (Memᴰ.tail i)))

  -- the first card is broken, or keeps the rules and a later one is broken
  first_or_later : (start : ℕ) (c : Card M) (cards : List (Card M)) (place number : ℕ) → (cards_verdict C n k (suc start) cards ≡ refuse 9 (place ∷ number ∷ []) → FirstBroken C n k (suc start) cards place number)
      → (v : Verdict) → card_verdict C n k c ≡ v → (at_place start v then cards_verdict C n k (suc start) cards) ≡ refuse 9 (place ∷ number ∷ []) → FirstBroken C n k start (c ∷ cards) place number
  first_or_later start c cards place number later fine shown e =
      let b = later e in
      let at = b.stands_at in
      record {
        before = c ∷ b.before;
        card = b.card;
        after = b.after;
        parts = ap (λ l. c ∷ l) b.parts;
        stands_at = omega arith;
        keep = λ other i. elim (Memᴰ.cases_cons i) [
          | inl same ↦ subst (λ d. card_verdict C n k d ≡ fine) (sym same) shown
          | inr before ↦ b.keep other before
        ];
        values = b.values;
        broken = b.broken;
      }
  first_or_later start c cards place number later (refuse found values) shown e =
      let same_place : start ≡ place = cc in
      let same_number : found ≡ number = cc in
      record {
        before = [];
        card = c;
        after = cards;
        parts = refl;
        stands_at = omega arith;
        keep = λ other i. absurd (Memᴰ.not-nil i);
        values = values;
        broken = subst (λ x. card_verdict C n k c ≡ refuse x values) same_number shown;
      }

  one_broken : (start : ℕ) (cards : List (Card M)) (place number : ℕ) → cards_verdict C n k start cards ≡ refuse 9 (place ∷ number ∷ []) → FirstBroken C n k start cards place number
  one_broken start [] place number e = cc
  one_broken start (c ∷ cards) place number e = first_or_later start c cards place number (one_broken (suc start) cards place number) (card_verdict C n k c) refl e

  refused_then : (start place : ℕ) (before : List (Card M)) (card : Card M) (after : List (Card M)) (number : ℕ) (values : List ℕ) → start + length before ≡ place → ((other : Card M) → Memᴰ other before → card_verdict C n k other ≡ fine) → card_verdict C n k card ≡ refuse number values
      → cards_verdict C n k start (before ++ (card ∷ after)) ≡ refuse 9 (place ∷ number ∷ [])
  refused_then start place [] card after number values at keep broken =
      let here : start ≡ place = omega arith in
      ap (λ v. at_place start v then cards_verdict C n k (suc start) after) broken ∙ ap (λ p. refuse 9 (p ∷ number ∷ [])) here
  refused_then start place (c ∷ before) card after number values at keep broken =
      ap (λ v. at_place start v then cards_verdict C n k (suc start) (before ++ (card ∷ after))) (keep c (Memᴰ.head refl))
      ∙ refused_then (suc start) place before card after number values (omega arith) (λ other i. keep other (Memᴰ.tail i)) broken

pub broken_in_words : {M : Type 0} (C : Chain M) → BrokenInWords C
unfolding BrokenInWords
broken_in_words C n k start cards = record {
  all_keep = (all_keep C n k start cards, fine_then C n k start cards);
  one_broken = λ place number. (
    one_broken C n k start cards place number,
    λ b.
        subst (λ l. cards_verdict C n k start l ≡ refuse 9 (place ∷ number ∷ [])) (sym b.parts)
        (refused_then C n k start place b.before b.card b.after number b.values b.stands_at b.keep b.broken),
  );
}

-- of cards that keep the rules, an axiom is said exactly where its record is among them
said_recorded : {M : Type 0} (C : Chain M) (n k start : ℕ) (cards : List (Card M)) → cards_verdict C n k start cards ≡ fine → (a : Axiom M) → In a (axioms cards) → Memᴰ (card_of a) cards
unfolding KeptInWords
said_recorded C n k start [] e a i = absurd (Memᴰ.not-nil i)
said_recorded C n k start (card ∷ cards) e a i =
    let (here, rest) = first_fine start (card_verdict C n k card) _ e in
    let (b, is_b, h, l) = (kept_in_words C n k card).0 here in
    elim (Memᴰ.append_cases (says card) i) [
      | inl own ↦ Memᴰ.head (ap card_of (Memᴰ.eq_of_singleton (subst (In a) (ap says is_b ∙ said b) own)) ∙ sym is_b)
      | inr later ↦ Memᴰ.tail (said_recorded C n k (suc start) cards rest a later)
    ]

pub said_in_words : {M : Type 0} (C : Chain M) → SaidInWords C
unfolding SaidInWords
said_in_words C n k cards e a = (said_recorded C n k 0 cards e a, recorded_said cards a)

-- cards that keep the rules say axioms that are in range
pub cards_in_range : {M : Type 0} (C : Chain M) (n k place : ℕ) (cards : List (Card M)) → cards_verdict C n k place cards ≡ fine → AllInRange n k (axioms cards)
unfolding KeptInWords
cards_in_range C n k place cards e a i =
    let (b, same, h, l) = (kept_in_words C n k (card_of a)).0 (all_keep C n k place cards e (card_of a) (said_recorded C n k place cards e a i)) in
    subst (InRange n k) (sym (same_axiom a b same)) h
