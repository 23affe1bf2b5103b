use Rattle.std.proofs.Common.{◌≡◌, ◌+◌, refl, ap, arith}
use Rattle.point_codec.specs.Seen.{region_of}
use Rattle.inner_pack.specs.Places.{Spot, leaf_begin}
use Rattle.inner_pack.specs.Trees.{Leaf}
use Rattle.inner_pack.specs.Heads.{spot_of}
use Rattle.inner_pack.proofs.PlaceLemmas.{fitted_fits, first_fits}
use Rattle.inner_pack.proofs.NodeLemmas.{is_leaf, leaf_span, as_leaf}
use Rattle.inner_pack.proofs.check.check_leaf.Goals as goal

pub returns-in_err-length-clause-only : goal.returns-in_err-length-clause-only
returns-in_err-length-clause-only g c t h =
    let leaf = is_leaf 1 t refl h.shaped in
    absurd (c.in_err-length.ensures.only c.args.references.now leaf.size leaf.own
    (as_leaf g.row.D c.args.form (spot_of c.args.behind) (region_of c.args.path.now) c.args.references.now c.args.part.bytes.now c.args.part.places.now t
    leaf.size leaf.own leaf.is h))

pub fit-begin-requires-clause-length : goal.fit-begin-requires-clause-length
fit-begin-requires-clause-length g c =
    let found = c.in_ok-length.ensures.found c.args.references.now in
    (first_fits (Leaf c.in_ok-length.length found.own) found.is.lengths).1

pub behind-requires : goal.behind-requires
behind-requires g c =
    let found = c.in_ok-length.ensures.found c.args.references.now in
    let n = c.in_ok-length.length in
    let at : c.fit-begin.result.offset ≡ (leaf_begin (spot_of c.args.behind) n).offset = ap (λ (s : Spot). s.offset) c.fit-begin.ensures in
    omega (arith, at, fitted_fits (spot_of c.args.behind) n (first_fits (Leaf n found.own) found.is.lengths).1)

pub returns-clause-found : goal.returns-clause-found
returns-clause-found g c =
    let found = c.in_ok-length.ensures.found c.args.references.now in
    let n = c.in_ok-length.length in
    let span = leaf_span (spot_of c.args.behind) (spot_of c.fit-begin.result) (spot_of c.behind.result) (Leaf n found.own) n n found.own refl refl
    c.fit-begin.ensures c.behind.ensures in
    record { tree = Leaf n found.own; is = found.is; span = record { begin = span.0; end = span.1 } }

pub returns-clause-only : goal.returns-clause-only
returns-clause-only g c t h =
    let leaf = is_leaf 1 t refl h.shaped in
    let n = c.in_ok-length.length in
    let same : n ≡ leaf.size = c.in_ok-length.ensures.only c.args.references.now leaf.size leaf.own
    (as_leaf g.row.D c.args.form (spot_of c.args.behind) (region_of c.args.path.now) c.args.references.now c.args.part.bytes.now c.args.part.places.now t
    leaf.size leaf.own leaf.is h) in
    let span = leaf_span (spot_of c.args.behind) (spot_of c.fit-begin.result) (spot_of c.behind.result) t n leaf.size leaf.own leaf.is same c.fit-begin.ensures
    c.behind.ensures in
    record { begin = span.0; end = span.1 }

pub returns-clause-end : goal.returns-clause-end
returns-clause-end g c =
    let found = c.in_ok-length.ensures.found c.args.references.now in
    let n = c.in_ok-length.length in
    let at : c.fit-begin.result.offset ≡ (leaf_begin (spot_of c.args.behind) n).offset = ap (λ (s : Spot). s.offset) c.fit-begin.ensures in
    let end : c.behind.result.offset ≡ c.fit-begin.result.offset + n = ap (λ (s : Spot). s.offset) c.behind.ensures in
    omega (arith, at, end, fitted_fits (spot_of c.args.behind) n (first_fits (Leaf n found.own) found.is.lengths).1)
