-- What a corner moved in one dimension leaves of the cell.
use Rattle.std.proofs.Common.{rules, ◌≡◌, ◌∙◌, sym, length, set}
use Rattle.point_codec.specs.Seen.{region_of}
use Rattle.point_codec.proofs.Corners.{left_ordered, right_ordered, left_keeps, right_keeps, keeps_together, keeps_shared}
use Rattle.point_codec.proofs.boxes.Cell.split.Goals as goal

pub invariant_of-result : goal.invariant_of-result
invariant_of-result g c =
    let moved_hi : c.moved_to-hi.result.c ≡ set c.args.self.now.hi.c c.args.dim c.args.at = search rules in
    let low : length c.args.self.now.lo.c ≡ g.row.D = search rules in
    let high : length c.args.self.now.hi.c ≡ g.row.D = search rules in
    record {
      ordered = rw moved_hi
          (left_ordered (region_of c.args.self.now) c.args.dim c.args.at (low ∙ sym high) (rw high c.requires.dim) c.requires.from c.requires.to
          c.args.self.now.ordered);
    }

pub invariant_of-result-2 : goal.invariant_of-result-2
invariant_of-result-2 g c =
    let moved_lo : c.moved_to-lo.result.c ≡ set c.args.self.now.lo.c c.args.dim c.args.at = search rules in
    let low : length c.args.self.now.lo.c ≡ g.row.D = search rules in
    let high : length c.args.self.now.hi.c ≡ g.row.D = search rules in
    record {
      ordered = rw moved_lo
          (right_ordered (region_of c.args.self.now) c.args.dim c.args.at (low ∙ sym high) (rw high c.requires.dim) c.requires.from c.requires.to
          c.args.self.now.ordered);
    }

pub returns-clause-keeps_left : goal.returns-clause-keeps_left
returns-clause-keeps_left g c p e =
    let moved_hi : c.moved_to-hi.result.c ≡ set c.args.self.now.hi.c c.args.dim c.args.at = search rules in
    let low : length c.args.self.now.lo.c ≡ g.row.D = search rules in
    let high : length c.args.self.now.hi.c ≡ g.row.D = search rules in
    rw moved_hi (left_keeps (region_of c.args.self.now) c.args.dim c.args.at (low ∙ sym high) (rw high c.requires.dim) c.requires.from c.requires.to p
    (e ∙ sym high))

pub returns-clause-keeps_right : goal.returns-clause-keeps_right
returns-clause-keeps_right g c p e =
    let moved_lo : c.moved_to-lo.result.c ≡ set c.args.self.now.lo.c c.args.dim c.args.at = search rules in
    let low : length c.args.self.now.lo.c ≡ g.row.D = search rules in
    let high : length c.args.self.now.hi.c ≡ g.row.D = search rules in
    rw moved_lo (right_keeps (region_of c.args.self.now) c.args.dim c.args.at (low ∙ sym high) (rw high c.requires.dim) c.requires.from c.requires.to p
    (e ∙ sym high))

pub returns-clause-together : goal.returns-clause-together
returns-clause-together g c p e =
    let moved_hi : c.moved_to-hi.result.c ≡ set c.args.self.now.hi.c c.args.dim c.args.at = search rules in
    let moved_lo : c.moved_to-lo.result.c ≡ set c.args.self.now.lo.c c.args.dim c.args.at = search rules in
    let low : length c.args.self.now.lo.c ≡ g.row.D = search rules in
    let high : length c.args.self.now.hi.c ≡ g.row.D = search rules in
    rw (moved_hi, moved_lo)
    (keeps_together (region_of c.args.self.now) c.args.dim c.args.at (low ∙ sym high) (rw high c.requires.dim) c.requires.from c.requires.to p (e ∙ sym high))

pub returns-clause-shared : goal.returns-clause-shared
returns-clause-shared g c p e is =
    let moved_hi : c.moved_to-hi.result.c ≡ set c.args.self.now.hi.c c.args.dim c.args.at = search rules in
    let moved_lo : c.moved_to-lo.result.c ≡ set c.args.self.now.lo.c c.args.dim c.args.at = search rules in
    let low : length c.args.self.now.lo.c ≡ g.row.D = search rules in
    let high : length c.args.self.now.hi.c ≡ g.row.D = search rules in
    rw (moved_hi, moved_lo)
    (keeps_shared (region_of c.args.self.now) c.args.dim c.args.at (low ∙ sym high) (rw high c.requires.dim) c.requires.from c.requires.to p (e ∙ sym high) is)
