-- Which names a list has, after each change of the list.
use Rattle.std.proofs.Common.{◌≡◌, ◌≢◌, ℕ, zero, suc, ◌≤◌, Bool, true, false, not, cond, ◌&&◌}
use Rattle.std.proofs.Common.{◌||◌, List, [], ◌∷◌, ◌++◌, refl, sym, ap, subst, ◌∙◌, ⊎_elim, arith}
use Rattle.std.specs.Prelude.{◌↔◌}
use Rattle.std.specs.List.{Contains, filter, items_where_true}
use Rattle.std.specs.List.Retain.{IsFiltered}
use Rattle.std.proofs.lemmas.Bool.{or_cases, or_left, or_right, cases_Bool, both_ways, false_from_ne_true}
use Rattle.std.proofs.lemmas.List.Folds.{list_any-append}
use Rattle.outer_io.specs.declared.file_name.FileName.{FileName}
use Rattle.outer_io.specs.declared.file_name.FileName.TheVariants.{Segment}
use Rattle.outer_io.specs.Names.{same_name}
use Rattle.outer_io.proofs.Names.{same_name-refl, same_name-true, same_name-other, same_name-false}
use Rattle.file_names.specs.Names.{is_named, NameList, AreBelow, IsBelow}

-- the test goes either way
pub same_name-swapped : (a b : FileName) → same_name a b ≡ same_name b a
same_name-swapped a b =
    ⊎_elim
    (λ (same : same_name a b ≡ true). rw (same_name-true a b same))
    (λ (apart : same_name a b ≡ false). apart ∙ sym (same_name-other b a (λ e. same_name-false a b apart (sym e))))
    (cases_Bool (same_name a b))

-- ---- the parts of a list

pub is_named-none : (name : FileName) → is_named [] name ≡ false
unfolding is_named
is_named-none name = refl

pub is_named-first : (n name : FileName) (ns : List FileName) → is_named (n ∷ ns) name ≡ (same_name n name || is_named ns name)
unfolding is_named
is_named-first n name ns = refl

pub is_named-append : (ms ns : List FileName) (name : FileName) → is_named (ms ++ ns) name ≡ (is_named ms name || is_named ns name)
unfolding is_named
is_named-append ms ns name = list_any-append (λ n. same_name n name) ms ns

head_named : (n : FileName) (ns : List FileName) → is_named (n ∷ ns) n ≡ true
head_named n ns = is_named-first n n ns ∙ or_left (same_name n n) (is_named ns n) (same_name-refl n)

tail_named : (n name : FileName) (ns : List FileName) → is_named ns name ≡ true → is_named (n ∷ ns) name ≡ true
tail_named n name ns h = is_named-first n name ns ∙ or_right (same_name n name) (is_named ns name) h

-- a name of a list is the first one or among the rest
named_cases : {P : Type 0} (n name : FileName) (ns : List FileName) → is_named (n ∷ ns) name ≡ true → (n ≡ name → P) → (is_named ns name ≡ true → P) → P
named_cases n name ns h first rest =
    ⊎_elim (λ e. first (same_name-true n name e)) rest (or_cases (same_name n name) (is_named ns name) (sym (is_named-first n name ns) ∙ h))

pub is_named-contains : (ns : List FileName) (name : FileName) → is_named ns name ≡ true → Contains ns name
is_named-contains [] name h = absurd (both_ways (is_named [] name) (is_named-none name) h)
is_named-contains (n ∷ ns) name h =
    named_cases n name ns h
    (λ e. (0, omega arith, e))
    (λ r. let k = is_named-contains ns name r in (suc k.0, omega (arith, k.1), k.2))

pub contains-is_named : (ns : List FileName) (name : FileName) → Contains ns name → is_named ns name ≡ true
contains-is_named [] name (k, h, e) = absurd (omega (arith, h))
contains-is_named (n ∷ ns) name (zero, h, e) = subst (λ (m : FileName). is_named (n ∷ ns) m ≡ true) e (head_named n ns)
contains-is_named (n ∷ ns) name (suc k, h, e) = tail_named n name ns (contains-is_named ns name (k, omega (arith, h), e))

pub named_contains : (ns : List FileName) (name : FileName) → (is_named ns name ≡ true) ↔ Contains ns name
named_contains ns name = (is_named-contains ns name, contains-is_named ns name)

-- names of which only one is in a list differ
pub is_named-apart : (ns : List FileName) (a b : FileName) → is_named ns a ≡ true → is_named ns b ≡ false → a ≢ b
is_named-apart ns a b h k e = both_ways (is_named ns b) k (subst (λ (m : FileName). is_named ns m ≡ true) e h)

-- ---- a name that joins

pub is_named-push : (ns : List FileName) (name other : FileName) → is_named (ns ++ name ∷ []) other ≡ (is_named ns other || same_name name other)
is_named-push ns name other =
    is_named-append ns (name ∷ []) other ∙ ap (λ b. is_named ns other || b) (is_named-first name other [] ∙ none (same_name name other))
  where
    none : (b : Bool) → (b || is_named [] other) ≡ b
    none true = refl
    none false = is_named-none other

pub joins : (ns : List FileName) (name : FileName) → is_named (ns ++ name ∷ []) name ≡ true
joins ns name = is_named-push ns name name ∙ or_right (is_named ns name) (same_name name name) (same_name-refl name)

pub stays : (ns : List FileName) (name other : FileName) → is_named ns other ≡ true → is_named (ns ++ name ∷ []) other ≡ true
stays ns name other h = is_named-push ns name other ∙ or_left (is_named ns other) (same_name name other) h

-- the same of a list that was made so
pub joins_as : (ns ms : List FileName) (name : FileName) → ms ≡ ns ++ name ∷ [] → is_named ms name ≡ true
joins_as ns ms name is = rw is (joins ns name)

pub stays_as : (old ns ms : List FileName) (name : FileName) → ns ≡ old → ms ≡ ns ++ name ∷ [] → (other : FileName) → is_named old other ≡ true
    → is_named ms other ≡ true
stays_as old ns ms name was is other h = rw (is, was) (stays old name other h)

pub others_stay : (ns : List FileName) (name other : FileName) → other ≢ name → is_named (ns ++ name ∷ []) other ≡ is_named ns other
others_stay ns name other h =
    is_named-push ns name other ∙ ap (λ b. is_named ns other || b) (same_name-other name other (λ e. h (sym e))) ∙ none (is_named ns other)
  where
    none : (b : Bool) → (b || false) ≡ b
    none true = refl
    none false = refl

-- ---- names that are taken out

pub is_named-filter : (keep : FileName → Bool) (ns : List FileName) (name : FileName) → is_named (filter keep ns) name ≡ (is_named ns name && keep name)
is_named-filter keep [] name = is_named-none name ∙ sym (ap (λ b. b && keep name) (is_named-none name))
is_named-filter keep (n ∷ ns) name =
    ⊎_elim
    (λ (same : same_name n name ≡ true).
    let is = same_name-true n name same in
    subst (λ (m : FileName). is_named (cond (keep m) (m ∷ filter keep ns) (filter keep ns)) name ≡ (is_named (m ∷ ns) name && keep name)) (sym is)
    (found (keep name) (is_named-filter keep ns name)))
    (λ (apart : same_name n name ≡ false).
    passed (keep n) apart (is_named-filter keep ns name)
    ∙ ap (λ b. b && keep name) (sym (is_named-first n name ns ∙ ap (λ b. b || is_named ns name) apart)))
    (cases_Bool (same_name n name))
  where
    found : (b : Bool) → is_named (filter keep ns) name ≡ (is_named ns name && b)
        → is_named (cond b (name ∷ filter keep ns) (filter keep ns)) name ≡ (is_named (name ∷ ns) name && b)
    found true e = head_named name (filter keep ns) ∙ sym (ap (λ b. b && true) (head_named name ns))
    found false e = e ∙ no (is_named ns name) ∙ sym (no (is_named (name ∷ ns) name))
      where
        no : (b : Bool) → (b && false) ≡ false
        no true = refl
        no false = refl

    passed : (b : Bool) → same_name n name ≡ false → is_named (filter keep ns) name ≡ (is_named ns name && keep name)
        → is_named (cond b (n ∷ filter keep ns) (filter keep ns)) name ≡ (is_named ns name && keep name)
    passed true apart e = is_named-first n name (filter keep ns) ∙ ap (λ b. b || is_named (filter keep ns) name) apart ∙ e
    passed false apart e = e

pub gone : (ns : List FileName) (name : FileName) → is_named (filter (λ n. not (same_name n name)) ns) name ≡ false
gone ns name =
    is_named-filter (λ n. not (same_name n name)) ns name ∙ ap (λ b. is_named ns name && not b) (same_name-refl name) ∙ no (is_named ns name)
  where
    no : (b : Bool) → (b && false) ≡ false
    no true = refl
    no false = refl

pub others_kept : (ns : List FileName) (name other : FileName) → other ≢ name → is_named (filter (λ n. not (same_name n name)) ns) other ≡ is_named ns other
others_kept ns name other h =
    is_named-filter (λ n. not (same_name n name)) ns other ∙ ap (λ b. is_named ns other && not b) (same_name-other other name h) ∙ yes (is_named ns other)
  where
    yes : (b : Bool) → (b && true) ≡ b
    yes true = refl
    yes false = refl

picked_named : (bs : List Bool) (ns : List FileName) (name : FileName) → is_named (items_where_true bs ns) name ≡ true → is_named ns name ≡ true
picked_named [] ns name h = absurd (both_ways (is_named [] name) (is_named-none name) h)
picked_named (b ∷ bs) [] name h = h
picked_named (true ∷ bs) (n ∷ ns) name h =
    named_cases n name (items_where_true bs ns) h
    (λ e. subst (λ (m : FileName). is_named (n ∷ ns) m ≡ true) e (head_named n ns))
    (λ r. tail_named n name ns (picked_named bs ns name r))
picked_named (false ∷ bs) (n ∷ ns) name h = tail_named n name ns (picked_named bs ns name h)

-- ---- the next segment

pub next_free : (n : NameList) → AreBelow n → is_named n.names (Segment n.next_segment) ≡ false
next_free n below = false_from_ne_true (is_named n.names (Segment n.next_segment)) (λ h. omega (arith, below.below n.next_segment h))

pub below_none : (next : ℕ) → AreBelow (record { names = []; next_segment = next })
below_none next = record { below = λ id h. absurd (both_ways (is_named [] (Segment id)) (is_named-none (Segment id)) h) }

pub below_push : (ns : List FileName) (old next : ℕ) (name : FileName) → AreBelow (record { names = ns; next_segment = old }) → old ≤ next → IsBelow next name
    → AreBelow (record { names = ns ++ name ∷ []; next_segment = next })
below_push ns old next name below more is = record {
  below = λ id h. ⊎_elim
      (λ k. omega (arith, below.below id k, more))
      (λ e. subst (IsBelow next) (same_name-true name (Segment id) e) is)
      (or_cases (is_named ns (Segment id)) (same_name name (Segment id)) (sym (is_named-push ns name (Segment id)) ∙ h));
}

pub below_filter : (keep : FileName → Bool) (ns : List FileName) (next : ℕ) → AreBelow (record { names = ns; next_segment = next })
    → AreBelow (record { names = filter keep ns; next_segment = next })
below_filter keep ns next below = record {
  below = λ id h. below.below id (both (is_named ns (Segment id)) (keep (Segment id)) (sym (is_named-filter keep ns (Segment id)) ∙ h));
}
  where
    both : (a b : Bool) → (a && b) ≡ true → a ≡ true
    both true b h = refl
    both false b h = h

-- names that a closure keeps are below the next id still
pub below_filtered : {P : Type 0} (R : P → FileName → Bool → P → Type 0) (p : P) (ns ms : List FileName) (next : ℕ) → IsFiltered R p ns ms
    → AreBelow (record { names = ns; next_segment = next }) → AreBelow (record { names = ms; next_segment = next })
below_filtered R p ns ms next f below = record {
  below = λ id h. below.below id (picked_named f.0 ns (Segment id) (subst (λ (ls : List FileName). is_named ls (Segment id) ≡ true) f.4 h));
}
