use Rattle.document_checks.proofs.doubles.crowded.Given.{Over}
use Rattle.std.proofs.Common.{List, sym, subst, rules, is_lt}
use Rattle.std.specs.List.Sorted.{IsPermutation, IsSorted}
use Rattle.std.proofs.lemmas.Fn.{always_returns_same}
use Rattle.std.proofs.lemmas.Option.{IfSome_then}
use Rattle.std.proofs.lemmas.List.Sorted.{ranks_by, IsPermutation-map}
use Rattle.point_codec.specs.Points.{Item}
use Rattle.point_codec.specs.Seen.{items_of}
use Rattle.point_codec.specs.declared.entries.Entry.{Entry}
use Rattle.leaf_codec.specs.LeafOrder.{item_of}
use Rattle.leaf_codec.proofs.OrderLemmas.{sorted-map}
use Rattle.documents.proofs.Totals.{item_total}
use Rattle.document_checks.specs.Crowded.{by_number}
use Rattle.document_checks.proofs.InOrder.{least_crowded, stand_once}
use Rattle.document_checks.proofs.Moved.{IfNone_then, least_back, once_back}
use Rattle.document_checks.proofs.doubles.crowded.Goals as goal

-- what first_crowded is given is in order, and has the entries of the list
ascending : (g : Over) (c : goal.After-drop-list g) → IsSorted by_number (items_of c.as_slice.result.now)
ascending g c =
    let f = λ (e : Entry g.row.D). item_of e in
    let sorted = c.sort_unstable_by.ensures.sorted (λ (a b : Entry g.row.D). is_lt (by_number (f a) (f b))) (ranks_by item_total f)
    (always_returns_same _ _ _ (λ a r h k. search rules)) in
    subst (λ (xs : List (Entry g.row.D)). IsSorted by_number (items_of xs)) (sym c.as_slice.ensures.value)
    (sorted-map (λ (x y : Item). is_lt (by_number x y)) f c.sort_unstable_by.new.self.items sorted)

moved : (g : Over) (c : goal.After-drop-list g) → IsPermutation (items_of c.args.list.items) (items_of c.as_slice.result.now)
moved g c =
    subst (λ (xs : List (Entry g.row.D)). IsPermutation (items_of c.args.list.items) (items_of xs)) (sym c.as_slice.ensures.value)
    (IsPermutation-map (λ (e : Entry g.row.D). item_of e) c.args.list.items c.sort_unstable_by.new.self.items c.sort_unstable_by.ensures.permutation)

pub returns-clause-none : goal.returns-clause-none
returns-clause-none g c =
    IfNone_then c.first_crowded.result c.first_crowded.ensures.none (λ none.
    once_back (items_of c.args.list.items) (items_of c.as_slice.result.now) (moved g c) (stand_once c.as_slice.result.now (ascending g c) none))

pub returns-clause-some : goal.returns-clause-some
returns-clause-some g c =
    IfSome_then c.first_crowded.result c.first_crowded.ensures.some (λ n found.
    least_back (items_of c.args.list.items) (items_of c.as_slice.result.now) (moved g c) n (least_crowded c.as_slice.result.now n (ascending g c) found))
