use Rattle.std.proofs.Common.{◌≡◌, ◌++◌, ◌∙◌, Bool, true, false, subst, rules, arith}
use Rattle.line_source.specs.Reader.{HoldsBytes, TakesPart, waiting}
use Rattle.line_source.proofs.Cuts.{reading_ends, reading_last, reading_on, waits_some}
use Rattle.line_source.proofs.reader.LineReader.next_line.Goals as goal

pub returns-then-not-branch-clause-gives : goal.returns-then-not-branch-clause-gives
returns-then-not-branch-clause-gives g c =
    let none : c.in_ok-hold.field-0 ≡ false = search rules in
    reading_last _ c.args.self.now _ c.pieces.self c.hold.new.self _ _ c.pieces.line.items c.pieces.is_begun c.pieces.invariant.reading
    (λ t knows.
    subst (λ (b : Bool). HoldsBytes c.hold.new.self (waiting c.pieces.self ++ g.S.Source.left c.pieces.source) (g.S.Source.left c.hold.new.source) b)
    none (c.in_ok-hold.ensures.holds t knows))

pub returns-then-branch-clause-gives : goal.returns-then-branch-clause-gives
returns-then-branch-clause-gives g c =
    let some : c.in_ok-hold.field-0 ≡ true = search rules in
    let whole : c.in_ok-extend_line.field-0 ≡ true = search rules in
    reading_ends _ c.args.self.now _ c.pieces.self c.hold.new.self _ _ c.pieces.line.items c.pieces.is_begun c.pieces.invariant.reading c.extend_line.new.self
    c.extend_line.new.line.items
    (λ t knows.
    subst (λ (b : Bool). HoldsBytes c.hold.new.self (waiting c.pieces.self ++ g.S.Source.left c.pieces.source) (g.S.Source.left c.hold.new.source) b)
    some (c.in_ok-hold.ensures.holds t knows))
    (subst (λ (b : Bool). TakesPart c.hold.new.self c.extend_line.new.self c.pieces.invariant.reading.seen c.extend_line.new.line.items b) whole
    (c.in_ok-extend_line.ensures.takes c.pieces.invariant.reading.seen c.pieces.invariant.reading.bytes_are))

pub pieces-preserved : goal.pieces-preserved
pieces-preserved g c =
    let some : c.in_ok-hold.field-0 ≡ true = search rules in
    let part : c.in_ok-extend_line.field-0 ≡ false = search rules in
    record {
      reading = reading_on _ c.args.self.now _ c.pieces.self c.hold.new.self _ _ c.pieces.line.items c.pieces.is_begun c.pieces.invariant.reading
          c.extend_line.new.self c.extend_line.new.line.items
          (λ t knows. subst
          (λ (b : Bool). HoldsBytes c.hold.new.self (waiting c.pieces.self ++ g.S.Source.left c.pieces.source) (g.S.Source.left c.hold.new.source) b) some
          (c.in_ok-hold.ensures.holds t knows))
          (subst (λ (b : Bool). TakesPart c.hold.new.self c.extend_line.new.self c.pieces.invariant.reading.seen c.extend_line.new.line.items b) part
          (c.in_ok-extend_line.ensures.takes c.pieces.invariant.reading.seen c.pieces.invariant.reading.bytes_are))
          (waits_some c.hold.new.self (c.in_ok-hold.ensures.some some));
      kept = c.extend_line.ensures.kept;
      behind = λ e.
          let before = c.pieces.invariant.behind e in
          let held = c.in_ok-hold.ensures.behind before.1 in
          let taken = c.in_ok-extend_line.ensures.takes c.pieces.invariant.reading.seen c.pieces.invariant.reading.bytes_are in
          (held.0 ∙ before.0, taken.ended ∙ held.1);
      faults = omega (arith, c.in_ok-hold.ensures.cause.on_ok, c.pieces.invariant.faults);
    }
