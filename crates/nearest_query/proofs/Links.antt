-- The distances that are kept of the numbers, and the numbers in order.
use Rattle.std.proofs.Common.{◌≡◌, ◌≢◌, ℕ, Bool, true, false, cond, eqb, Option, Some, None, refl, sym, ap, subst, ◌∙◌, arith}
use Rattle.std.proofs.lemmas.Bool.Decides.{nat_tests}
use Rattle.std.proofs.lemmas.Map.Views.{tells_apart, exact_unsigned_eq}
use Rattle.std.specs.BTreeMap.{is_at}
use Rattle.std.specs.Cmp.{tied_itself}
use Rattle.std.specs.Ordering.{is_eq}
use Rattle.point_codec.specs.declared.entries.Near.{Near}
use Rattle.nearest_query.specs.Best.{near_cmp}
use Rattle.nearest_query.proofs.Order.{near_total, near_exact, same_near}

-- g gives the distance of each number that m has
abbrev pub Linked : (ℕ → Option ℕ) → (Near → Bool) → Type 0
Linked g m = (q : Near) → (g q.doc ≡ Some q.dist2 → m q ≡ true) × (m q ≡ true → g q.doc ≡ Some q.dist2)

-- the same, but m doesn't have the number of n
pub record LinkedBut (n : Near) (g : ℕ → Option ℕ) (m : Near → Bool) : Type 0 where
  pub none : (q : Near) → m q ≡ true → n.doc ≢ q.doc
  pub others : (q : Near) → n.doc ≢ q.doc → (g q.doc ≡ Some q.dist2 → m q ≡ true) × (m q ≡ true → g q.doc ≡ Some q.dist2)

pub at_one : (n q : Near) → is_at (near_cmp n) q ≡ true → n ≡ q
at_one n q h = tells_apart near_exact n q h

pub at_itself : (n q : Near) → n ≡ q → is_at (near_cmp n) q ≡ true
at_itself n q e = subst (λ y. is_at (near_cmp n) y ≡ true) e (ap is_eq (tied_itself near_total n))

not_true : (b : Bool) → (b ≡ true → ⊥) → b ≡ false
not_true true h = absurd (h refl)
not_true false h = refl

pub at_other : (n q : Near) → n.doc ≢ q.doc → is_at (near_cmp n) q ≡ false
at_other n q h = not_true _ (λ e. h (ap (λ y. y.doc) (at_one n q e)))

same_docs : (m n : ℕ) → m ≡ n → eqb m n ≡ true
same_docs m n e = grind (arith, nat_tests)

other_docs : (m n : ℕ) → m ≢ n → eqb m n ≡ false
other_docs m n e = grind (arith, nat_tests)

-- the two cases of a number
pub by_doc : (P : Type 0) (m n : ℕ) → (m ≡ n → P) → (m ≢ n → P) → P
by_doc P m n same other =
    elim (eqb m n) as (λ b. eqb m n ≡ b → P) [ true ↦ λ e. same (exact_unsigned_eq m n e) | false ↦ λ e. other (λ s. let t = same_docs m n s in cc) ] refl

-- the two cases of a test
pub by_test : (P : Type 0) (b : Bool) → (b ≡ true → P) → (b ≡ false → P) → P
by_test P b on off = elim b as (λ c. b ≡ c → P) [ true ↦ λ e. on e | false ↦ λ e. off e ] refl

module _ (n : Near) (g g' : ℕ → Option ℕ) (m m' : Near → Bool) (but : LinkedBut n g m)
    (placed : (q : Near) → m' q ≡ cond (is_at (near_cmp n) q) true (m q)) (kept : (d : ℕ) → g' d ≡ cond (eqb n.doc d) (Some n.dist2) (g d)) where
  given_here : (q : Near) → n.doc ≡ q.doc → g' q.doc ≡ Some n.dist2
  given_here q e = kept q.doc ∙ ap (λ b. cond b (Some n.dist2) (g q.doc)) (same_docs n.doc q.doc e)

  here_in : (q : Near) → n.doc ≡ q.doc → g' q.doc ≡ Some q.dist2 → m' q ≡ true
  here_in q e h =
      let far : n.dist2 ≡ q.dist2 = let f = given_here q e in cc in
      placed q ∙ ap (λ b. cond b true (m q)) (at_itself n q (same_near n q far e))

  here_out : (q : Near) → n.doc ≡ q.doc → m' q ≡ true → g' q.doc ≡ Some q.dist2
  here_out q e h = by_test _ (is_at (near_cmp n) q)
      (λ at. given_here q e ∙ ap (λ y. Some y.dist2) (at_one n q at))
      (λ off. absurd (but.none q (sym (placed q ∙ ap (λ b. cond b true (m q)) off) ∙ h) e))

  pub link_put : Linked g' m'
  link_put q = by_doc _ n.doc q.doc
      (λ e. (here_in q e, here_out q e))
      (λ e.
      let given : g' q.doc ≡ g q.doc = kept q.doc ∙ ap (λ b. cond b (Some n.dist2) (g q.doc)) (other_docs n.doc q.doc e) in
      let has : m' q ≡ m q = placed q ∙ ap (λ b. cond b true (m q)) (at_other n q e) in
      (λ h. has ∙ (but.others q e).0 (sym given ∙ h), λ h. given ∙ (but.others q e).1 (sym has ∙ h)))

pub but_none : (n : Near) (g : ℕ → Option ℕ) (m : Near → Bool) → Linked g m → g n.doc ≡ None → LinkedBut n g m
but_none n g m is h = record {
  none = λ q k e. let f = (is q).1 k in let s : g n.doc ≡ g q.doc = ap g e in cc;
  others = λ q e. is q;
}

-- without the entry w, whose distance g gives
module _ (w : Near) (g : ℕ → Option ℕ) (m m' : Near → Bool) (is : Linked g m) (given : g w.doc ≡ Some w.dist2)
    (gone : (q : Near) → m' q ≡ cond (is_at (near_cmp w) q) false (m q)) where
  -- it has no entry of the number any more
  pub none_left : (q : Near) → m' q ≡ true → w.doc ≢ q.doc
  none_left q h e = by_test ⊥ (is_at (near_cmp w) q)
      (λ at. let f : m' q ≡ false = gone q ∙ ap (λ b. cond b false (m q)) at in cc)
      (λ off.
      let has : m q ≡ true = sym (gone q ∙ ap (λ b. cond b false (m q)) off) ∙ h in
      let f = (is q).1 has in
      let s : g w.doc ≡ g q.doc = ap g e in
      let far : w.dist2 ≡ q.dist2 = cc in
      let at = at_itself w q (same_near w q far e) in cc)

  pub same_left : (q : Near) → w.doc ≢ q.doc → m' q ≡ m q
  same_left q e = gone q ∙ ap (λ b. cond b false (m q)) (at_other w q e)

  pub was_in : (q : Near) → m' q ≡ true → m q ≡ true
  was_in q h = sym (same_left q (none_left q h)) ∙ h

  pub but_improved : (n : Near) → n.doc ≡ w.doc → LinkedBut n g m'
  but_improved n e = record {
    none = λ q h f. none_left q h (sym e ∙ f);
    others = λ q f. let s = same_left q (λ t. f (e ∙ t)) in (λ h. s ∙ (is q).0 h, λ h. (is q).1 (sym s ∙ h));
  }

  pub but_replaced : (n : Near) (g' : ℕ → Option ℕ) → g n.doc ≡ None → ((d : ℕ) → g' d ≡ cond (eqb w.doc d) None (g d)) → LinkedBut n g' m'
  but_replaced n g' none lost = but_none n g' m' linked nothing
    where
      linked : Linked g' m'
      linked q = by_doc _ w.doc q.doc
          (λ e.
          let gone' : g' q.doc ≡ None = lost q.doc ∙ ap (λ b. cond b None (g q.doc)) (same_docs w.doc q.doc e) in
          (λ h. cc, λ h. absurd (none_left q h e)))
          (λ e.
          let s = same_left q e in
          let t : g' q.doc ≡ g q.doc = lost q.doc ∙ ap (λ b. cond b None (g q.doc)) (other_docs w.doc q.doc e) in
          (λ h. s ∙ (is q).0 (sym t ∙ h), λ h. t ∙ (is q).1 (sym s ∙ h)))

      nothing : g' n.doc ≡ None
      nothing = lost n.doc ∙ both (eqb w.doc n.doc) (g n.doc) none
        where
          both : (b : Bool) (x : Option ℕ) → x ≡ None → cond b None x ≡ None
          both true x h = refl
          both false x h = h
