use Rattle.document_checks.proofs.doubles.doubled.Given.{Over}
use Rattle.std.proofs.Common.{◌≡◌, ◌-◌, ◌≤◌, ℕ, Bool, List, true, filter, eqb, sym, ap, subst, ◌∙◌}
use Rattle.std.proofs.lemmas.Bool.{eqb-true}
use Rattle.std.proofs.lemmas.Option.{IfSome_then}
use Rattle.point_codec.specs.Points.{Item}
use Rattle.point_codec.specs.Seen.{items_of}
use Rattle.point_codec.specs.declared.entries.Entry.{Entry}
use Rattle.leaf_codec.specs.LeafOrder.{NoneTwice}
use Rattle.document_checks.specs.Marks.{is_marked}
use Rattle.document_checks.specs.Crowded.{AreFew, IsLeastCrowded, count_of}
use Rattle.document_checks.proofs.Moved.{IfNone_then, all_fit, count_entries, least_among, items-filter, lone}
use Rattle.document_checks.proofs.doubles.doubled.Goals as goal

-- the entries whose numbers are marked
kept : (g : Over) (c : goal.After-drop-again-2 g) → Item → Bool
kept g c x = is_marked c.in-Some.again.items (x.doc - c.reach-least.result.0)

collected : (g : Over) (c : goal.After-drop-again-2 g) → items_of c.in_ok-list.list.items ≡ filter (kept g c) (items_of c.args.entries.now)
unfolding kept
collected g c =
    ap items_of c.in_ok-list.ensures
    ∙ ap (λ (marks : List ℕ). items_of (filter (λ (e : Entry g.row.D). is_marked marks (e.doc - c.reach-least.result.0)) c.args.entries.now))
    c.as_slice.ensures.value
    ∙ items-filter (kept g c) c.args.entries.now

marked : (g : Over) (c : goal.After-drop-again-2 g) (n : ℕ) → 2 ≤ count_of n (items_of c.args.entries.now) → (x : Item) → eqb x.doc n ≡ true → kept g c x ≡ true
unfolding kept
marked g c n two x is =
    let told = rw c.in-Some.is at c.in_ok-again.ensures.some in
    let same = eqb-true x.doc n is in
    ap (λ (m : ℕ). is_marked c.in-Some.again.items (m - c.reach-least.result.0)) same
    ∙ told n (subst (λ (m : ℕ). 2 ≤ m) (count_entries n c.args.entries.now) two)

pub returns-in_default-clause-none : goal.returns-in_default-clause-none
returns-in_default-clause-none g c =
    let told = rw c.in_default.is at c.in_ok-again.ensures.none in
    lone (items_of c.args.entries.now) (λ n. subst (λ (m : ℕ). m ≤ 1) (sym (count_entries n c.args.entries.now)) (told n))

pub returns-clause-none : goal.returns-clause-none
returns-clause-none g c =
    IfNone_then c.crowded.result c.crowded.ensures.none (λ fit.
    all_fit (kept g c) (items_of c.args.entries.now) (marked g c)
    (subst (λ (xs : List Item). NoneTwice xs × AreFew xs) (collected g c) fit))

pub returns-clause-some : goal.returns-clause-some
returns-clause-some g c =
    IfSome_then c.crowded.result c.crowded.ensures.some (λ n crowded.
    least_among (kept g c) (items_of c.args.entries.now) (marked g c) n (subst (λ (xs : List Item). IsLeastCrowded n xs) (collected g c) crowded))
