-- What a read of a record says of the records that a reader has left.
use Rattle.std.proofs.Common.{◌≡◌, ◌+◌, ℕ, true, false, Bor, List, [], ◌∷◌, length, Option, Some, refl, sym, ap, ◌∙◌, inl}
use Rattle.std.specs.Prelude.{unwrap_or}
use Rattle.csv.specs.Machine.{Read}
use Rattle.csv.specs.Reading.{Reached, ReadRecord, took_first, records_from, default_config}
use Rattle.csv.specs.declared.reader.Reader.{Reader}
use Rattle.csv.proofs.ReadFacts.{rows-end, rows-more}
use Rattle.csv_load.specs.Reading.{IsReading, GaveRecord, records_left, bytes_left}
use Rattle.csv_load.proofs.Steps.{next_leaves, records-some, records-none}

-- what std's `Read` says that a slice has left
abbrev slice_left : Bor (List ℕ) → Option (List ℕ)
slice_left s = Some s.now

-- a read that found a record
pub gave : (old new : Reader (Bor (List ℕ))) (fields : List (List ℕ)) → IsReading old → ReadRecord slice_left old new true fields → took_first new ≡ true
    → GaveRecord old new fields
unfolding Reached
gave old new fields r h first =
    let m = rows-more slice_left old new fields default_config old.state (bytes_left old) (bytes_left old) [] r.plain r.known (refl, refl) h in
    let p = m.2.0 in
    let same : bytes_left new ≡ m.0 = ap (λ o. unwrap_or o []) m.1 in
    let after : p.2 ≡ bytes_left new = m.2.3.1 ∙ sym same in
    let left = next_leaves default_config old.state (bytes_left old) p r.between m.2.1 in
    let known = m.1 in
    record {
      reading = record {
        plain = h.2 ∙ r.plain;
        untrimmed = h.3 ∙ r.untrimmed;
        ready = inl first;
        known = rw (← same) at known;
        between = rw m.2.3.0 at (left.0);
      };
      shorter = rw (← after) (left.1);
      first = records-some default_config old.state (bytes_left old) p r.between m.2.1 ∙ rows p m.2.2 m.2.3.0 after;
    }
  where
    rows : (p : Read) → fields ≡ p.0 → p.1 ≡ new.state → p.2 ≡ bytes_left new
        → p.0 ∷ records_from default_config (length p.2 + 1) p.1 p.2 ≡ fields ∷ records_left new
    rows p e s b = rw (e, ← s, ← b) refl

-- a read that found none
pub gave_none : (old new : Reader (Bor (List ℕ))) (fields : List (List ℕ)) → IsReading old → ReadRecord slice_left old new false fields → records_left old ≡ []
gave_none old new fields r h =
    records-none default_config old.state (bytes_left old) (rows-end slice_left old new fields default_config (bytes_left old) r.plain r.known h)
