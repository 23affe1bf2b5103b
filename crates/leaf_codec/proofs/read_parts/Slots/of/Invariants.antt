use Rattle.std.proofs.Common.{◌≡◌, ◌<◌, ◌≤◌, ◌+◌, ◌-◌, ◌*◌, ◌^◌, ℕ, get_or, length, take, drop, cond, eqb}
use Rattle.leaf_codec.specs.Words.{number_of}
use Rattle.leaf_codec.specs.Raw.{start_of, gap_of, place_of}
use Rattle.leaf_codec.proofs.read_parts.Slots.of.Given as goal

abbrev pub invariant-loop-d : goal.invariant-loop-d
invariant-loop-d g l = record {
  from : l.from ≡ start_of l.parts.lengths.now l.d;
  place : l.place ≡ place_of l.parts.lengths.now l.parts.sorted l.d;
  few : l.place ≤ 4 * l.d;
  long : (length l.bases ≡ g.row.D) × (length l.scales ≡ g.row.D) × (length l.masks ≡ g.row.D) × (length l.places ≡ g.row.D);
  bases : (d : ℕ) → d < l.d
      → get_or l.bases d 0
      ≡ number_of (take (get_or l.parts.lengths.now d 0) (drop (start_of l.parts.lengths.now d) l.parts.prefixes.now))
      * 256 ^ (4 - get_or l.parts.lengths.now d 0);
  scales : (d : ℕ) → d < l.d → get_or l.scales d 0 ≡ cond (eqb d l.parts.sorted) (256 ^ gap_of l.parts.lengths.now l.parts.sorted d) 0;
  fresh : (d : ℕ) → l.d ≤ d → get_or l.scales d 0 ≡ 0;
  masks : (d : ℕ) → d < l.d → get_or l.masks d 0 ≡ 256 ^ gap_of l.parts.lengths.now l.parts.sorted d - 1;
  places : (d : ℕ) → d < l.d → get_or l.places d 0 ≡ place_of l.parts.lengths.now l.parts.sorted (d + 1);
}
