-- Torn writes, one after another.
use Rattle.std.proofs.Common.{Result, Ok, Err, OnErr, ◌≡◌, ℕ, ◌+◌, ◌-◌, List, ◌++◌, length, take, drop, append_assoc, sym}
use Rattle.std.proofs.lemmas.List.{take_rest}
use Rattle.std.proofs.Math.Seq.{take-add}
use Rattle.outer_io.specs.Parts.{ReadsPart}

-- the next n bytes went out after those before `at`
pub sent_more : (old mid new : List ℕ) (at n : ℕ) (b : List ℕ) → mid ≡ old ++ take at b → new ≡ mid ++ take n (take (length b - at) (drop at b))
    → new ≡ old ++ take (at + n) b
sent_more old mid new at n b all more =
    rw (more, all, take_rest b at, take-add at n b) (append_assoc old (take at b) (take n (drop at b)))

-- bytes were taken twice: together they are a part that was taken
pub taken_twice : (old mid new first second : List ℕ) → old ≡ first ++ mid → mid ≡ second ++ new → ReadsPart old new
taken_twice old mid new first second all part =
    record {
      taken = first ++ second;
      whole = rw (all, part) (sym (append_assoc first second new));
    }

-- what holds anyway holds on an error
pub on_err : {T E P : Type 0} → (r : Result T E) → P → OnErr r P
on_err (Ok x) p = tt
on_err (Err e) p = p
