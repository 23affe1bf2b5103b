use Rattle.std.proofs.Common.{◌≡◌, ◌≤◌, length, IsTrue, true}
use Rattle.line_source.proofs.Cuts.{IsReading}
use Rattle.line_source.proofs.reader.LineReader.next_line.Given as goal

-- a part of the first line was read, and no call failed
abbrev pub invariant-pieces : goal.invariant-pieces
invariant-pieces g l = record {
  reading : IsReading (IsTrue g.S.Source.told) l.initial.self (g.S.Source.left l.initial.source) l.self (g.S.Source.left l.source) l.line.items l.is_begun;
  kept : length l.line.items ≤ 4194306;
  behind : l.initial.self.has_ended ≡ true → (l.source ≡ l.initial.source) × (l.self.has_ended ≡ true);
  faults : g.S.Source.faults l.source ≡ g.S.Source.faults l.initial.source;
}
