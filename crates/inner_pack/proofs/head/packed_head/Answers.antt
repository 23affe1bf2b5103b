use Rattle.std.proofs.Common.{◌≡◌, ◌+◌, ◌-◌, ◌*◌, ◌/◌, ◌%◌, ◌≤◌, ◌∷◌, ◌++◌, ◌∙◌, ℕ, List, refl, sym, ap, arith}
use Rattle.std.proofs.Common.{rules, drop, length, slice_set, slice_index_or, [], to_z-of_z, FitsSigned, w32}
use Rattle.point_codec.specs.Keys.{key}
use Rattle.byte_cursor.specs.Vint.{vint}
use Rattle.inner_pack.specs.Trees.{Split}
use Rattle.inner_pack.specs.Bodies.{node_bytes, right_begin, shared_front}
use Rattle.inner_pack.proofs.SpelledLemmas.{spelled_packed, told_packed, no_places}
use Rattle.inner_pack.proofs.HeadLemmas.{packed_node, joins_packed, key_back, key_long}
use Rattle.inner_pack.proofs.head.packed_head.Goals as goal

pub returns-in_err-code-clause-only : goal.returns-in_err-code-clause-only
returns-in_err-code-clause-only g c form leaves s path d x l r packed room fits h =
    let n = packed_node g.row.D form leaves s path c.args.references.now c.args.part.bytes.now c.args.part.places.now d x l r c.requires.dims packed room h in
    let lower = slice_set c.args.references.now d (key x) in
    let right = right_begin s l r in
    let lb = node_bytes form lower s l in
    let rb = node_bytes form lower right r in
    let p = shared_front (key x) (slice_index_or c.args.references.now d []) in
    let r5 = lb ++ rb in
    let r4 = vint (length lb) ++ r5 in
    let r3 = vint right.offset ++ r4 in
    let r2 = vint (right.page - s.page) ++ r3 in
    let ref = slice_index_or c.args.references.now d [] in
    let r1 = drop p (key x) ++ r2 in
    absurd (c.in_err-code.ensures.only (5 * d + p) r1 n.is)

pub returns-then-dimension-clause-only : goal.returns-then-dimension-clause-only
returns-then-dimension-clause-only g c form leaves s path d x l r packed room fits h =
    let n = packed_node g.row.D form leaves s path c.args.references.now c.args.part.bytes.now c.args.part.places.now d x l r c.requires.dims packed room h in
    let lower = slice_set c.args.references.now d (key x) in
    let right = right_begin s l r in
    let lb = node_bytes form lower s l in
    let rb = node_bytes form lower right r in
    let p = shared_front (key x) (slice_index_or c.args.references.now d []) in
    let r5 = lb ++ rb in
    let r4 = vint (length lb) ++ r5 in
    let r3 = vint right.offset ++ r4 in
    let r2 = vint (right.page - s.page) ++ r3 in
    let ref = slice_index_or c.args.references.now d [] in
    let r1 = drop p (key x) ++ r2 in
    let a = c.in_ok-code.ensures.only (5 * d + p) r1 n.is in
    let sd : c.in_ok-code.code / 5 ≡ d = omega (arith, a.0, n.few) in
    let sp : c.in_ok-code.code % 5 ≡ p = omega (arith, a.0, n.few) in
    absurd (omega (arith, c.if-dimension.true, sd, h.cells.0.dimension))

pub returns-in_err-key-clause-only : goal.returns-in_err-key-clause-only
returns-in_err-key-clause-only g c form leaves s path d x l r packed room fits h =
    let n = packed_node g.row.D form leaves s path c.args.references.now c.args.part.bytes.now c.args.part.places.now d x l r c.requires.dims packed room h in
    let lower = slice_set c.args.references.now d (key x) in
    let right = right_begin s l r in
    let lb = node_bytes form lower s l in
    let rb = node_bytes form lower right r in
    let p = shared_front (key x) (slice_index_or c.args.references.now d []) in
    let r5 = lb ++ rb in
    let r4 = vint (length lb) ++ r5 in
    let r3 = vint right.offset ++ r4 in
    let r2 = vint (right.page - s.page) ++ r3 in
    let ref = slice_index_or c.args.references.now d [] in
    let r1 = drop p (key x) ++ r2 in
    let a = c.in_ok-code.ensures.only (5 * d + p) r1 n.is in
    let sd : c.in_ok-code.code / 5 ≡ d = omega (arith, a.0, n.few) in
    let sp : c.in_ok-code.code % 5 ≡ p = omega (arith, a.0, n.few) in
    let same : shared_front (key x) c.reference_in-reference.result ≡ c.in_ok-code.code % 5 =
    ap (shared_front (key x)) (c.reference_in-reference.ensures.value ∙ ap (λ i. slice_index_or c.args.references.now i []) sd) ∙ sym sp in
    let at1 : c.in_ok-code.rest.now ≡ drop (c.in_ok-code.code % 5) (key x) ++ r2 = a.1 ∙ ap (λ i. drop i (key x) ++ r2) (sym sp) in
    absurd (c.in_err-key.ensures.only (key x) r2 (key_long x) same at1)

pub returns-in_err-pages-clause-only : goal.returns-in_err-pages-clause-only
returns-in_err-pages-clause-only g c form leaves s path d x l r packed room fits h =
    let n = packed_node g.row.D form leaves s path c.args.references.now c.args.part.bytes.now c.args.part.places.now d x l r c.requires.dims packed room h in
    let lower = slice_set c.args.references.now d (key x) in
    let right = right_begin s l r in
    let lb = node_bytes form lower s l in
    let rb = node_bytes form lower right r in
    let p = shared_front (key x) (slice_index_or c.args.references.now d []) in
    let r5 = lb ++ rb in
    let r4 = vint (length lb) ++ r5 in
    let r3 = vint right.offset ++ r4 in
    let r2 = vint (right.page - s.page) ++ r3 in
    let ref = slice_index_or c.args.references.now d [] in
    let r1 = drop p (key x) ++ r2 in
    let a = c.in_ok-code.ensures.only (5 * d + p) r1 n.is in
    let sd : c.in_ok-code.code / 5 ≡ d = omega (arith, a.0, n.few) in
    let sp : c.in_ok-code.code % 5 ≡ p = omega (arith, a.0, n.few) in
    let same : shared_front (key x) c.reference_in-reference.result ≡ c.in_ok-code.code % 5 =
    ap (shared_front (key x)) (c.reference_in-reference.ensures.value ∙ ap (λ i. slice_index_or c.args.references.now i []) sd) ∙ sym sp in
    let at1 : c.in_ok-code.rest.now ≡ drop (c.in_ok-code.code % 5) (key x) ++ r2 = a.1 ∙ ap (λ i. drop i (key x) ++ r2) (sym sp) in
    let k = c.in_ok-key.ensures.only (key x) r2 (key_long x) same at1 in
    absurd (c.in_err-pages.ensures.only (right.page - s.page) r3 n.pages k.1)

pub returns-in_err-offset-clause-only : goal.returns-in_err-offset-clause-only
returns-in_err-offset-clause-only g c form leaves s path d x l r packed room fits h =
    let n = packed_node g.row.D form leaves s path c.args.references.now c.args.part.bytes.now c.args.part.places.now d x l r c.requires.dims packed room h in
    let lower = slice_set c.args.references.now d (key x) in
    let right = right_begin s l r in
    let lb = node_bytes form lower s l in
    let rb = node_bytes form lower right r in
    let p = shared_front (key x) (slice_index_or c.args.references.now d []) in
    let r5 = lb ++ rb in
    let r4 = vint (length lb) ++ r5 in
    let r3 = vint right.offset ++ r4 in
    let r2 = vint (right.page - s.page) ++ r3 in
    let ref = slice_index_or c.args.references.now d [] in
    let r1 = drop p (key x) ++ r2 in
    let a = c.in_ok-code.ensures.only (5 * d + p) r1 n.is in
    let sd : c.in_ok-code.code / 5 ≡ d = omega (arith, a.0, n.few) in
    let sp : c.in_ok-code.code % 5 ≡ p = omega (arith, a.0, n.few) in
    let same : shared_front (key x) c.reference_in-reference.result ≡ c.in_ok-code.code % 5 =
    ap (shared_front (key x)) (c.reference_in-reference.ensures.value ∙ ap (λ i. slice_index_or c.args.references.now i []) sd) ∙ sym sp in
    let at1 : c.in_ok-code.rest.now ≡ drop (c.in_ok-code.code % 5) (key x) ++ r2 = a.1 ∙ ap (λ i. drop i (key x) ++ r2) (sym sp) in
    let k = c.in_ok-key.ensures.only (key x) r2 (key_long x) same at1 in
    let v = c.in_ok-pages.ensures.only (right.page - s.page) r3 n.pages k.1 in
    absurd (c.in_err-offset.ensures.only right.offset r4 (omega (arith, n.offset)) v.1)

pub returns-in_err-left_length-clause-only : goal.returns-in_err-left_length-clause-only
returns-in_err-left_length-clause-only g c form leaves s path d x l r packed room fits h =
    let n = packed_node g.row.D form leaves s path c.args.references.now c.args.part.bytes.now c.args.part.places.now d x l r c.requires.dims packed room h in
    let lower = slice_set c.args.references.now d (key x) in
    let right = right_begin s l r in
    let lb = node_bytes form lower s l in
    let rb = node_bytes form lower right r in
    let p = shared_front (key x) (slice_index_or c.args.references.now d []) in
    let r5 = lb ++ rb in
    let r4 = vint (length lb) ++ r5 in
    let r3 = vint right.offset ++ r4 in
    let r2 = vint (right.page - s.page) ++ r3 in
    let ref = slice_index_or c.args.references.now d [] in
    let r1 = drop p (key x) ++ r2 in
    let a = c.in_ok-code.ensures.only (5 * d + p) r1 n.is in
    let sd : c.in_ok-code.code / 5 ≡ d = omega (arith, a.0, n.few) in
    let sp : c.in_ok-code.code % 5 ≡ p = omega (arith, a.0, n.few) in
    let same : shared_front (key x) c.reference_in-reference.result ≡ c.in_ok-code.code % 5 =
    ap (shared_front (key x)) (c.reference_in-reference.ensures.value ∙ ap (λ i. slice_index_or c.args.references.now i []) sd) ∙ sym sp in
    let at1 : c.in_ok-code.rest.now ≡ drop (c.in_ok-code.code % 5) (key x) ++ r2 = a.1 ∙ ap (λ i. drop i (key x) ++ r2) (sym sp) in
    let k = c.in_ok-key.ensures.only (key x) r2 (key_long x) same at1 in
    let v = c.in_ok-pages.ensures.only (right.page - s.page) r3 n.pages k.1 in
    let o = c.in_ok-offset.ensures.only right.offset r4 (omega (arith, n.offset)) v.1 in
    absurd (c.in_err-left_length.ensures.only (length lb) r5 n.left o.1)

pub returns-then-offset-from-clause-only : goal.returns-then-offset-from-clause-only
returns-then-offset-from-clause-only g c form leaves s path d x l r packed room fits h =
    let n = packed_node g.row.D form leaves s path c.args.references.now c.args.part.bytes.now c.args.part.places.now d x l r c.requires.dims packed room h in
    let lower = slice_set c.args.references.now d (key x) in
    let right = right_begin s l r in
    let lb = node_bytes form lower s l in
    let rb = node_bytes form lower right r in
    let p = shared_front (key x) (slice_index_or c.args.references.now d []) in
    let r5 = lb ++ rb in
    let r4 = vint (length lb) ++ r5 in
    let r3 = vint right.offset ++ r4 in
    let r2 = vint (right.page - s.page) ++ r3 in
    let ref = slice_index_or c.args.references.now d [] in
    let r1 = drop p (key x) ++ r2 in
    let a = c.in_ok-code.ensures.only (5 * d + p) r1 n.is in
    let sd : c.in_ok-code.code / 5 ≡ d = omega (arith, a.0, n.few) in
    let sp : c.in_ok-code.code % 5 ≡ p = omega (arith, a.0, n.few) in
    let same : shared_front (key x) c.reference_in-reference.result ≡ c.in_ok-code.code % 5 =
    ap (shared_front (key x)) (c.reference_in-reference.ensures.value ∙ ap (λ i. slice_index_or c.args.references.now i []) sd) ∙ sym sp in
    let at1 : c.in_ok-code.rest.now ≡ drop (c.in_ok-code.code % 5) (key x) ++ r2 = a.1 ∙ ap (λ i. drop i (key x) ++ r2) (sym sp) in
    let k = c.in_ok-key.ensures.only (key x) r2 (key_long x) same at1 in
    let v = c.in_ok-pages.ensures.only (right.page - s.page) r3 n.pages k.1 in
    let o = c.in_ok-offset.ensures.only right.offset r4 (omega (arith, n.offset)) v.1 in
    absurd (omega (arith, c.if-offset-from.true, c.from.ensures, o.0, n.offset))

pub returns-in_err-left-clause-only : goal.returns-in_err-left-clause-only
returns-in_err-left-clause-only g c form leaves s path d x l r packed room fits h =
    let n = packed_node g.row.D form leaves s path c.args.references.now c.args.part.bytes.now c.args.part.places.now d x l r c.requires.dims packed room h in
    let lower = slice_set c.args.references.now d (key x) in
    let right = right_begin s l r in
    let lb = node_bytes form lower s l in
    let rb = node_bytes form lower right r in
    let p = shared_front (key x) (slice_index_or c.args.references.now d []) in
    let r5 = lb ++ rb in
    let r4 = vint (length lb) ++ r5 in
    let r3 = vint right.offset ++ r4 in
    let r2 = vint (right.page - s.page) ++ r3 in
    let ref = slice_index_or c.args.references.now d [] in
    let r1 = drop p (key x) ++ r2 in
    let a = c.in_ok-code.ensures.only (5 * d + p) r1 n.is in
    let sd : c.in_ok-code.code / 5 ≡ d = omega (arith, a.0, n.few) in
    let sp : c.in_ok-code.code % 5 ≡ p = omega (arith, a.0, n.few) in
    let same : shared_front (key x) c.reference_in-reference.result ≡ c.in_ok-code.code % 5 =
    ap (shared_front (key x)) (c.reference_in-reference.ensures.value ∙ ap (λ i. slice_index_or c.args.references.now i []) sd) ∙ sym sp in
    let at1 : c.in_ok-code.rest.now ≡ drop (c.in_ok-code.code % 5) (key x) ++ r2 = a.1 ∙ ap (λ i. drop i (key x) ++ r2) (sym sp) in
    let k = c.in_ok-key.ensures.only (key x) r2 (key_long x) same at1 in
    let v = c.in_ok-pages.ensures.only (right.page - s.page) r3 n.pages k.1 in
    let o = c.in_ok-offset.ensures.only right.offset r4 (omega (arith, n.offset)) v.1 in
    let e = c.in_ok-left_length.ensures.only (length lb) r5 n.left o.1 in
    absurd (c.in_err-left.ensures.only lb rb (sym e.0) e.1)

pub returns-clause-found : goal.returns-clause-found
returns-clause-found g c form packed =
    let sf : FitsSigned w32 c.from_sortable.result = search rules in
    let code = c.in_ok-code.code in
    let key = c.in_ok-key.key in
    let few : c.in_ok-offset.offset ≤ 4064 = omega (arith, c.if-offset-from.false, c.from.ensures) in
    let e4 : c.in_ok-left_length.rest.now ≡ c.in_ok-left.left.now ++ c.in_ok-left.right.now = c.in_ok-left.ensures.found.1 in
    let e3 : c.in_ok-offset.rest.now ≡ vint (length c.in_ok-left.left.now) ++ (c.in_ok-left.left.now ++ c.in_ok-left.right.now) =
    c.in_ok-left_length.ensures.found ∙ (λ i. vint (sym c.in_ok-left.ensures.found.0 i) ++ e4 i) in
    let e2 = c.in_ok-offset.ensures.found ∙ ap (λ (t : List ℕ). vint c.in_ok-offset.offset ++ t) e3 in
    let e1 = c.in_ok-pages.ensures.found ∙ ap (λ (t : List ℕ). vint c.in_ok-pages.pages ++ t) e2 in
    let e0 = c.in_ok-code.ensures.found ∙ ap (λ (t : List ℕ). code ∷ t) (c.in_ok-key.ensures.found.1 ∙ ap (λ (t : List ℕ). drop (code % 5) key ++ t) e1) in
    record {
      dimension = omega (arith, c.if-dimension.false);
      key_is = sym (key_back c.from_sortable.result sf ∙ c.from_sortable.ensures.is);
      joins = λ s l r lengths says. joins_packed form c.args.references.now s l r _ c.args.part.bytes.now c.args.part.places.now [] code packed says e0 refl
          (ap (shared_front key) (sym c.reference_in-reference.ensures.value) ∙ c.in_ok-key.ensures.found.0) refl;
    }

pub returns-clause-only : goal.returns-clause-only
returns-clause-only g c form leaves s path d x l r packed room fits h =
    let n = packed_node g.row.D form leaves s path c.args.references.now c.args.part.bytes.now c.args.part.places.now d x l r c.requires.dims packed room h in
    let lower = slice_set c.args.references.now d (key x) in
    let right = right_begin s l r in
    let lb = node_bytes form lower s l in
    let rb = node_bytes form lower right r in
    let p = shared_front (key x) (slice_index_or c.args.references.now d []) in
    let r5 = lb ++ rb in
    let r4 = vint (length lb) ++ r5 in
    let r3 = vint right.offset ++ r4 in
    let r2 = vint (right.page - s.page) ++ r3 in
    let ref = slice_index_or c.args.references.now d [] in
    let r1 = drop p (key x) ++ r2 in
    let a = c.in_ok-code.ensures.only (5 * d + p) r1 n.is in
    let sd : c.in_ok-code.code / 5 ≡ d = omega (arith, a.0, n.few) in
    let sp : c.in_ok-code.code % 5 ≡ p = omega (arith, a.0, n.few) in
    let same : shared_front (key x) c.reference_in-reference.result ≡ c.in_ok-code.code % 5 =
    ap (shared_front (key x)) (c.reference_in-reference.ensures.value ∙ ap (λ i. slice_index_or c.args.references.now i []) sd) ∙ sym sp in
    let at1 : c.in_ok-code.rest.now ≡ drop (c.in_ok-code.code % 5) (key x) ++ r2 = a.1 ∙ ap (λ i. drop i (key x) ++ r2) (sym sp) in
    let k = c.in_ok-key.ensures.only (key x) r2 (key_long x) same at1 in
    let v = c.in_ok-pages.ensures.only (right.page - s.page) r3 n.pages k.1 in
    let o = c.in_ok-offset.ensures.only right.offset r4 (omega (arith, n.offset)) v.1 in
    let e = c.in_ok-left_length.ensures.only (length lb) r5 n.left o.1 in
    let lr = c.in_ok-left.ensures.only lb rb (sym e.0) e.1 in
    let sf : FitsSigned w32 c.from_sortable.result = search rules in
    let none = no_places g.row.D form leaves s path c.args.references.now c.args.part.bytes.now c.args.part.places.now (Split d x l r) packed h in
    record {
      dimension = sd;
      value = to_z-of_z sf ∙ c.from_sortable.ensures.back x fits (sym k.0);
      key_is = k.0;
      pages = v.0;
      offset = o.0;
      left_bytes = lr.0 ∙ sym (spelled_packed form lower s l packed);
      left_places = none ∙ sym (told_packed form s l packed);
      right_bytes = lr.1 ∙ sym (spelled_packed form lower right r packed);
      right_places = none ∙ sym (told_packed form right r packed);
    }
