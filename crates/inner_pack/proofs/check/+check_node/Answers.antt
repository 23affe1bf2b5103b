use Rattle.std.proofs.Common.{◌≡◌, ◌≤◌, ◌-◌, ◌/◌, ◌∙◌, ℕ, ℤ, refl, sym, ap, subst, arith, true≢false, slice_set, rules, to_z, of_z, to_z-of_z, FitsSigned, w32}
use Rattle.point_codec.specs.Keys.{key}
use Rattle.point_codec.specs.Cells.{left_of, right_of}
use Rattle.point_codec.specs.Seen.{region_of}
use Rattle.inner_pack.specs.Places.{Spot, leaf_begin}
use Rattle.inner_pack.specs.Trees.{Split, IsInCell}
use Rattle.inner_pack.specs.Bodies.{first_length, right_begin}
use Rattle.inner_pack.specs.Heads.{spot_of, SaysSplit}
use Rattle.inner_pack.proofs.PlaceLemmas.{fitted_to}
use Rattle.inner_pack.proofs.HeadLemmas.{left_lengths, in_cell_fits}
use Rattle.inner_pack.proofs.NodeLemmas.{is_split, left_node, right_node, joined_node, said_otherwise, as_split, split_span, right_found}
use Rattle.inner_pack.proofs.check.+check_node.Goals as goal

pub returns-in_err-head-clause-only : goal.returns-in_err-head-clause-only
returns-in_err-head-clause-only g t c t' h =
    let D = g.row.D in
    let form = c.args.form in
    let n = c.args.leaves in
    let e = spot_of c.args.behind in
    let path = region_of c.args.path.now in
    let refs = c.args.references.now in
    let b = c.args.part.bytes.now in
    let p = c.args.part.places.now in
    let two : 2 ≤ n = omega (arith, c.requires.leaves, c.if-leaves-eq1.false) in
    let sp = is_split n t' two h.shaped in
    let l = sp.l in
    let r = sp.r in
    let s = leaf_begin e (first_length l) in
    let node = as_split D form n e path refs b p t' sp.d sp.x l r sp.is h in
    let room : s.page ≤ 8388608 = omega (arith, fitted_to e (first_length l), c.requires.room, two) in
    let fits = in_cell_fits D sp.d sp.x path c.is_cell.ensures node.cells.0 in
    absurd (c.in_err-head.ensures.only s path sp.d sp.x l r room fits node)

pub returns-then-not-is_in_cell-clause-only : goal.returns-then-not-is_in_cell-clause-only
returns-then-not-is_in_cell-clause-only g t c t' h =
    let D = g.row.D in
    let form = c.args.form in
    let n = c.args.leaves in
    let e = spot_of c.args.behind in
    let path = region_of c.args.path.now in
    let refs = c.args.references.now in
    let b = c.args.part.bytes.now in
    let p = c.args.part.places.now in
    let two : 2 ≤ n = omega (arith, c.requires.leaves, c.if-leaves-eq1.false) in
    let sp = is_split n t' two h.shaped in
    let l = sp.l in
    let r = sp.r in
    let s = leaf_begin e (first_length l) in
    let node = as_split D form n e path refs b p t' sp.d sp.x l r sp.is h in
    let room : s.page ≤ 8388608 = omega (arith, fitted_to e (first_length l), c.requires.room, two) in
    let fits = in_cell_fits D sp.d sp.x path c.is_cell.ensures node.cells.0 in
    let head = c.in_ok-head.head in
    let hf : FitsSigned w32 c.in_ok-head.head.at = search rules in
    let at_is : to_z w32 (of_z w32 c.in_ok-head.head.at) ≡ c.in_ok-head.head.at = to_z-of_z hf in
    let says = c.in_ok-head.ensures.only s path sp.d sp.x l r room fits node in
    let inside = node.cells.0 in
    let here = subst (λ (d : ℕ). IsInCell D path d (to_z w32 (of_z w32 head.at))) (sym says.dimension)
    (subst (λ (x : ℤ). IsInCell D path sp.d x) (sym (at_is ∙ says.value)) inside) in
    absurd (true≢false (sym (c.is_in_cell.ensures.1 here) ∙ c.if-not-is_in_cell.true))

pub returns-in_err-left-clause-only : goal.returns-in_err-left-clause-only
returns-in_err-left-clause-only g t c t' h =
    let D = g.row.D in
    let form = c.args.form in
    let n = c.args.leaves in
    let e = spot_of c.args.behind in
    let path = region_of c.args.path.now in
    let refs = c.args.references.now in
    let b = c.args.part.bytes.now in
    let p = c.args.part.places.now in
    let two : 2 ≤ n = omega (arith, c.requires.leaves, c.if-leaves-eq1.false) in
    let sp = is_split n t' two h.shaped in
    let l = sp.l in
    let r = sp.r in
    let s = leaf_begin e (first_length l) in
    let node = as_split D form n e path refs b p t' sp.d sp.x l r sp.is h in
    let room : s.page ≤ 8388608 = omega (arith, fitted_to e (first_length l), c.requires.room, two) in
    let fits = in_cell_fits D sp.d sp.x path c.is_cell.ensures node.cells.0 in
    let head = c.in_ok-head.head in
    let hf : FitsSigned w32 c.in_ok-head.head.at = search rules in
    let at_is : to_z w32 (of_z w32 c.in_ok-head.head.at) ≡ c.in_ok-head.head.at = to_z-of_z hf in
    let says = c.in_ok-head.ensures.only s path sp.d sp.x l r room fits node in
    let moved : c.with_key-references.result ≡ slice_set refs sp.d (key sp.x) =
    c.with_key-references.ensures ∙ (λ i. slice_set refs (says.dimension i) (says.key_is i)) in
    let lpath : region_of c.split-left_path.result.0 ≡ left_of path sp.d sp.x =
    c.split-left_path.ensures.left ∙ (λ i. left_of path (says.dimension i) ((at_is ∙ says.value) i)) in
    let rpath : region_of c.split-left_path.result.1 ≡ right_of path sp.d sp.x =
    c.split-left_path.ensures.right ∙ (λ i. right_of path (says.dimension i) ((at_is ∙ says.value) i)) in
    let lnode = said_otherwise D form (n - n / 2) s s (left_of path sp.d sp.x) (region_of c.split-left_path.result.0) (slice_set refs sp.d (key sp.x))
    c.with_key-references.result head.left.bytes.now head.left.places.now l refl lpath moved
    (left_node D form n s path refs b p sp.d sp.x l r head node says) in
    absurd (c.in_err-left.ensures.only l lnode)

pub returns-in_err-right-clause-only : goal.returns-in_err-right-clause-only
returns-in_err-right-clause-only g t c t' h =
    let D = g.row.D in
    let form = c.args.form in
    let n = c.args.leaves in
    let e = spot_of c.args.behind in
    let path = region_of c.args.path.now in
    let refs = c.args.references.now in
    let b = c.args.part.bytes.now in
    let p = c.args.part.places.now in
    let two : 2 ≤ n = omega (arith, c.requires.leaves, c.if-leaves-eq1.false) in
    let sp = is_split n t' two h.shaped in
    let l = sp.l in
    let r = sp.r in
    let s = leaf_begin e (first_length l) in
    let node = as_split D form n e path refs b p t' sp.d sp.x l r sp.is h in
    let room : s.page ≤ 8388608 = omega (arith, fitted_to e (first_length l), c.requires.room, two) in
    let fits = in_cell_fits D sp.d sp.x path c.is_cell.ensures node.cells.0 in
    let head = c.in_ok-head.head in
    let hf : FitsSigned w32 c.in_ok-head.head.at = search rules in
    let at_is : to_z w32 (of_z w32 c.in_ok-head.head.at) ≡ c.in_ok-head.head.at = to_z-of_z hf in
    let says = c.in_ok-head.ensures.only s path sp.d sp.x l r room fits node in
    let moved : c.with_key-references.result ≡ slice_set refs sp.d (key sp.x) =
    c.with_key-references.ensures ∙ (λ i. slice_set refs (says.dimension i) (says.key_is i)) in
    let lpath : region_of c.split-left_path.result.0 ≡ left_of path sp.d sp.x =
    c.split-left_path.ensures.left ∙ (λ i. left_of path (says.dimension i) ((at_is ∙ says.value) i)) in
    let rpath : region_of c.split-left_path.result.1 ≡ right_of path sp.d sp.x =
    c.split-left_path.ensures.right ∙ (λ i. right_of path (says.dimension i) ((at_is ∙ says.value) i)) in
    let lnode = said_otherwise D form (n - n / 2) s s (left_of path sp.d sp.x) (region_of c.split-left_path.result.0) (slice_set refs sp.d (key sp.x))
    c.with_key-references.result head.left.bytes.now head.left.places.now l refl lpath moved
    (left_node D form n s path refs b p sp.d sp.x l r head node says) in
    let lspan = c.in_ok-left.ensures.only l lnode in
    let found = right_found e (spot_of c.in_ok-left.left.end) l r (left_lengths l r node.lengths) lspan.end in
    let rnode = said_otherwise D form (n / 2) (right_begin s l r) (leaf_begin (spot_of c.in_ok-left.left.end) (first_length r)) (right_of path sp.d sp.x)
    (region_of c.split-left_path.result.1) (slice_set refs sp.d (key sp.x)) c.with_key-references.result head.right.bytes.now head.right.places.now r found
    rpath moved (right_node D form n s path refs b p sp.d sp.x l r head node says) in
    absurd (c.in_err-right.ensures.only r rnode)

pub returns-then-not-tells-clause-only : goal.returns-then-not-tells-clause-only
returns-then-not-tells-clause-only g t c t' h =
    let D = g.row.D in
    let form = c.args.form in
    let n = c.args.leaves in
    let e = spot_of c.args.behind in
    let path = region_of c.args.path.now in
    let refs = c.args.references.now in
    let b = c.args.part.bytes.now in
    let p = c.args.part.places.now in
    let two : 2 ≤ n = omega (arith, c.requires.leaves, c.if-leaves-eq1.false) in
    let sp = is_split n t' two h.shaped in
    let l = sp.l in
    let r = sp.r in
    let s = leaf_begin e (first_length l) in
    let node = as_split D form n e path refs b p t' sp.d sp.x l r sp.is h in
    let room : s.page ≤ 8388608 = omega (arith, fitted_to e (first_length l), c.requires.room, two) in
    let fits = in_cell_fits D sp.d sp.x path c.is_cell.ensures node.cells.0 in
    let head = c.in_ok-head.head in
    let hf : FitsSigned w32 c.in_ok-head.head.at = search rules in
    let at_is : to_z w32 (of_z w32 c.in_ok-head.head.at) ≡ c.in_ok-head.head.at = to_z-of_z hf in
    let says = c.in_ok-head.ensures.only s path sp.d sp.x l r room fits node in
    let moved : c.with_key-references.result ≡ slice_set refs sp.d (key sp.x) =
    c.with_key-references.ensures ∙ (λ i. slice_set refs (says.dimension i) (says.key_is i)) in
    let lpath : region_of c.split-left_path.result.0 ≡ left_of path sp.d sp.x =
    c.split-left_path.ensures.left ∙ (λ i. left_of path (says.dimension i) ((at_is ∙ says.value) i)) in
    let rpath : region_of c.split-left_path.result.1 ≡ right_of path sp.d sp.x =
    c.split-left_path.ensures.right ∙ (λ i. right_of path (says.dimension i) ((at_is ∙ says.value) i)) in
    let lnode = said_otherwise D form (n - n / 2) s s (left_of path sp.d sp.x) (region_of c.split-left_path.result.0) (slice_set refs sp.d (key sp.x))
    c.with_key-references.result head.left.bytes.now head.left.places.now l refl lpath moved
    (left_node D form n s path refs b p sp.d sp.x l r head node says) in
    let lspan = c.in_ok-left.ensures.only l lnode in
    let found = right_found e (spot_of c.in_ok-left.left.end) l r (left_lengths l r node.lengths) lspan.end in
    let rnode = said_otherwise D form (n / 2) (right_begin s l r) (leaf_begin (spot_of c.in_ok-left.left.end) (first_length r)) (right_of path sp.d sp.x)
    (region_of c.split-left_path.result.1) (slice_set refs sp.d (key sp.x)) c.with_key-references.result head.right.bytes.now head.right.places.now r found
    rpath moved (right_node D form n s path refs b p sp.d sp.x l r head node says) in
    let rspan = c.in_ok-right.ensures.only r rnode in
    let begin : spot_of c.in_ok-right.right.begin ≡ right_begin s l r = rspan.begin ∙ found in
    let low : c.in_ok-left.left.begin.page ≡ s.page = ap (λ (v : Spot). v.page) lspan.begin in
    let high : c.in_ok-right.right.begin.page ≡ (right_begin s l r).page = ap (λ (v : Spot). v.page) begin in
    let offset : c.in_ok-right.right.begin.offset ≡ (right_begin s l r).offset = ap (λ (v : Spot). v.offset) begin in
    let pages : head.pages ≡ c.in_ok-right.right.begin.page - c.in_ok-left.left.begin.page = says.pages ∙ (λ i. sym high i - sym low i) in
    absurd (true≢false (sym (c.tells.ensures.1 (pages, says.offset ∙ sym offset)) ∙ c.if-not-tells.true))

pub returns-clause-found : goal.returns-clause-found
returns-clause-found g t c =
    let D = g.row.D in
    let form = c.args.form in
    let n = c.args.leaves in
    let e = spot_of c.args.behind in
    let path = region_of c.args.path.now in
    let refs = c.args.references.now in
    let b = c.args.part.bytes.now in
    let p = c.args.part.places.now in
    let two : 2 ≤ n = omega (arith, c.requires.leaves, c.if-leaves-eq1.false) in
    let head = c.in_ok-head.head in
    let hf : FitsSigned w32 c.in_ok-head.head.at = search rules in
    let at_is : to_z w32 (of_z w32 c.in_ok-head.head.at) ≡ c.in_ok-head.head.at = to_z-of_z hf in
    let is_head = c.in_ok-head.ensures.found in
    let left = c.in_ok-left.ensures.found in
    let right = c.in_ok-right.ensures.found in
    let l = left.tree in
    let r = right.tree in
    let s = leaf_begin e (first_length l) in
    let lower = slice_set refs head.dimension (key head.at) in
    let moved : lower ≡ c.with_key-references.result = sym (c.with_key-references.ensures ∙ (λ i. slice_set refs head.dimension (is_head.key_is i))) in
    let found = right_found e (spot_of c.in_ok-left.left.end) l r left.is.lengths left.span.end in
    let lnode = said_otherwise D form (n - n / 2) s s (region_of c.split-left_path.result.0) (left_of path head.dimension head.at) c.with_key-references.result
    lower head.left.bytes.now head.left.places.now l refl (sym (c.split-left_path.ensures.left ∙ (λ i. left_of path head.dimension (at_is i)))) moved left.is in
    let rnode = said_otherwise D form (n / 2) (leaf_begin (spot_of c.in_ok-left.left.end) (first_length r)) (right_begin s l r)
    (region_of c.split-left_path.result.1) (right_of path head.dimension head.at) c.with_key-references.result lower head.right.bytes.now head.right.places.now
    r (sym found) (sym (c.split-left_path.ensures.right ∙ (λ i. right_of path head.dimension (at_is i)))) moved right.is in
    let begin : spot_of c.in_ok-right.right.begin ≡ right_begin s l r = right.span.begin ∙ found in
    let low : c.in_ok-left.left.begin.page ≡ s.page = ap (λ (v : Spot). v.page) left.span.begin in
    let high : c.in_ok-right.right.begin.page ≡ (right_begin s l r).page = ap (λ (v : Spot). v.page) begin in
    let offset : c.in_ok-right.right.begin.offset ≡ (right_begin s l r).offset = ap (λ (v : Spot). v.offset) begin in
    let told = c.tells.ensures.0 c.if-not-tells.false in
    let says : SaysSplit form refs s head.dimension head.at l r head = record {
      dimension = refl;
      value = refl;
      key_is = is_head.key_is;
      pages = told.0 ∙ (λ i. high i - low i);
      offset = told.1 ∙ offset;
      left_bytes = lnode.spelled;
      left_places = lnode.told;
      right_bytes = rnode.spelled;
      right_places = rnode.told;
    } in
    let span = split_span e (spot_of c.in_ok-left.left.begin) (spot_of c.in_ok-left.left.end) (spot_of c.in_ok-right.right.end)
    (Split head.dimension head.at l r) head.dimension head.at l r refl left.span.begin left.span.end right.span.end in
    record {
      tree = Split head.dimension head.at l r;
      is = joined_node D form n s path refs b p l r head head.left.bytes.now head.left.places.now head.right.bytes.now head.right.places.now lower two
          (subst (λ (x : ℤ). IsInCell D path head.dimension x) at_is (c.is_in_cell.ensures.0 c.if-not-is_in_cell.false)) lnode rnode is_head says;
      span = record { begin = span.0; end = span.1 };
    }

pub returns-clause-only : goal.returns-clause-only
returns-clause-only g t c t' h =
    let D = g.row.D in
    let form = c.args.form in
    let n = c.args.leaves in
    let e = spot_of c.args.behind in
    let path = region_of c.args.path.now in
    let refs = c.args.references.now in
    let b = c.args.part.bytes.now in
    let p = c.args.part.places.now in
    let two : 2 ≤ n = omega (arith, c.requires.leaves, c.if-leaves-eq1.false) in
    let sp = is_split n t' two h.shaped in
    let l = sp.l in
    let r = sp.r in
    let s = leaf_begin e (first_length l) in
    let node = as_split D form n e path refs b p t' sp.d sp.x l r sp.is h in
    let room : s.page ≤ 8388608 = omega (arith, fitted_to e (first_length l), c.requires.room, two) in
    let fits = in_cell_fits D sp.d sp.x path c.is_cell.ensures node.cells.0 in
    let head = c.in_ok-head.head in
    let hf : FitsSigned w32 c.in_ok-head.head.at = search rules in
    let at_is : to_z w32 (of_z w32 c.in_ok-head.head.at) ≡ c.in_ok-head.head.at = to_z-of_z hf in
    let says = c.in_ok-head.ensures.only s path sp.d sp.x l r room fits node in
    let moved : c.with_key-references.result ≡ slice_set refs sp.d (key sp.x) =
    c.with_key-references.ensures ∙ (λ i. slice_set refs (says.dimension i) (says.key_is i)) in
    let lpath : region_of c.split-left_path.result.0 ≡ left_of path sp.d sp.x =
    c.split-left_path.ensures.left ∙ (λ i. left_of path (says.dimension i) ((at_is ∙ says.value) i)) in
    let rpath : region_of c.split-left_path.result.1 ≡ right_of path sp.d sp.x =
    c.split-left_path.ensures.right ∙ (λ i. right_of path (says.dimension i) ((at_is ∙ says.value) i)) in
    let lnode = said_otherwise D form (n - n / 2) s s (left_of path sp.d sp.x) (region_of c.split-left_path.result.0) (slice_set refs sp.d (key sp.x))
    c.with_key-references.result head.left.bytes.now head.left.places.now l refl lpath moved
    (left_node D form n s path refs b p sp.d sp.x l r head node says) in
    let lspan = c.in_ok-left.ensures.only l lnode in
    let found = right_found e (spot_of c.in_ok-left.left.end) l r (left_lengths l r node.lengths) lspan.end in
    let rnode = said_otherwise D form (n / 2) (right_begin s l r) (leaf_begin (spot_of c.in_ok-left.left.end) (first_length r)) (right_of path sp.d sp.x)
    (region_of c.split-left_path.result.1) (slice_set refs sp.d (key sp.x)) c.with_key-references.result head.right.bytes.now head.right.places.now r found
    rpath moved (right_node D form n s path refs b p sp.d sp.x l r head node says) in
    let rspan = c.in_ok-right.ensures.only r rnode in
    let span = split_span e (spot_of c.in_ok-left.left.begin) (spot_of c.in_ok-left.left.end) (spot_of c.in_ok-right.right.end) t' sp.d sp.x l r sp.is
    lspan.begin lspan.end rspan.end in
    record { begin = span.0; end = span.1 }
