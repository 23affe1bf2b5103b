-- The entries of documents, one by one.
use Rattle.std.proofs.Common.{◌≡◌, ℕ, ◌<◌, ◌≤◌, List, [], ◌∷◌, length, sym, ap, subst, ◌∙◌, ⊎_elim, arith, ℤ}
use Rattle.std.specs.List.{Contains}
use Rattle.std.proofs.lemmas.List.Elements.{All-contains}
use Rattle.std.proofs.lemmas.List.Sorted.{IsPermutation-sym, Contains-permutation}
use Rattle.point_codec.specs.Points.{Item, ArePoints}
use Rattle.documents.specs.Documents.{Document, Ascend}
use Rattle.documents.specs.Entries.{AreDocs, entry_of, entries_of, entries_in}
use Rattle.documents.proofs.Lists.{cons_head, cons_cases, nil_none, in_map, of_map, in_flat_map, of_flat_map, pairs_head, pairs_tail}

-- a document of the list has the entry's number and its point
abbrev pub IsOf : List Document → Item → Type 0
IsOf docs x = (d : Document) × Contains docs d × (d.number ≡ x.doc) × Contains d.points x.at

pub entry_in : (docs : List Document) (d : Document) (p : List ℤ) → Contains docs d → Contains d.points p → Contains (entries_in docs) (entry_of d.number p)
entry_in docs d p h k = in_flat_map entries_of docs d (entry_of d.number p) h (in_map (entry_of d.number) d.points p k)

pub of_entry : (docs : List Document) (x : Item) → Contains (entries_in docs) x → IsOf docs x
of_entry docs x h =
    let doc = of_flat_map entries_of docs x h in
    let point = of_map (entry_of doc.0.number) doc.0.points x doc.2 in
    (doc.0, doc.1, ap (λ (y : Item). y.doc) point.2, subst (λ q. Contains doc.0.points q) (ap (λ (y : Item). y.at) point.2) point.1)

-- no two documents have one number
pub one_number : (docs : List Document) (d e : Document) → Ascend docs → Contains docs d → Contains docs e → d.number ≡ e.number → d ≡ e
one_number [] d e up h k same = nil_none d _ h
one_number (x ∷ xs) d e up h k same = ⊎_elim
    (λ here. ⊎_elim
    (λ there. sym here ∙ there)
    (λ later.
    let lt = pairs_head (λ (a b : Document). a.number < b.number) x xs up e later in
    absurd (omega (arith, lt, ap (λ (z : Document). z.number) here, same)))
    (cons_cases x xs e k))
    (λ after. ⊎_elim
    (λ there.
    let lt = pairs_head (λ (a b : Document). a.number < b.number) x xs up d after in
    absurd (omega (arith, lt, ap (λ (z : Document). z.number) there, same)))
    (λ later. one_number xs d e (pairs_tail (λ (a b : Document). a.number < b.number) x xs up) after later same)
    (cons_cases x xs e k))
    (cons_cases x xs d h)

-- ---- from entries in any order

pub has_entry_in : (n : ℕ) (xs : List Item) (docs : List Document) → AreDocs n xs docs → (d : Document) (p : List ℤ) → Contains docs d → Contains d.points p
    → Contains xs (entry_of d.number p)
has_entry_in n xs docs are d p h k =
    Contains-permutation (entries_in docs) xs (entry_of d.number p) (IsPermutation-sym xs (entries_in docs) are.same) (entry_in docs d p h k)

pub doc_of : (n : ℕ) (xs : List Item) (docs : List Document) → AreDocs n xs docs → (x : Item) → Contains xs x → IsOf docs x
doc_of n xs docs are x h = of_entry docs x (Contains-permutation xs (entries_in docs) x are.same h)

first_point : (ps : List (List ℤ)) → 1 ≤ length ps → (p : List ℤ) × Contains ps p
first_point [] h = absurd (omega (arith, h))
first_point (p ∷ ps) h = (p, cons_head p ps)

-- each document has a point
pub some_point : (n : ℕ) (xs : List Item) (docs : List Document) → AreDocs n xs docs → (d : Document) → Contains docs d → (p : List ℤ) × Contains d.points p
some_point n xs docs are d h = first_point d.points (All-contains (λ (e : Document). ArePoints e.points) docs d are.points h).some

-- an entry of a document's number is one of its own
pub own_entry : (n : ℕ) (xs : List Item) (docs : List Document) → AreDocs n xs docs → (d : Document) (x : Item) → Contains docs d → Contains xs x
    → x.doc ≡ d.number → Contains d.points x.at
own_entry n xs docs are d x h k same =
    let doc = doc_of n xs docs are x k in
    subst (λ (e : Document). Contains e.points x.at) (one_number docs doc.0 d are.ascend doc.1 h (doc.2 ∙ same)) doc.3
