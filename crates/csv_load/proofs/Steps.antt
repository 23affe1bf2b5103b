-- Each record that is read shortens what is left, and the next one starts behind it.
use Rattle.std.specs.Prelude.{◌==◌}
use Rattle.std.proofs.Common.{◌≡◌, ℕ, zero, suc, ◌+◌, ◌<◌, ◌≤◌, Bool, true, false, cond, ◌&&◌, List}
use Rattle.std.proofs.Common.{[], ◌∷◌, ◌++◌, length, Option, Some, None, refl, ap, arith, add-one}
use Rattle.csv.specs.Machine.{Read, next_record, step, in_field, start_field, start_record, after_end, ends_with}
use Rattle.csv.specs.Machine.{ends_at_end, is_end, fields_after, field_after, is_byte, carriage_return, line_feed}
use Rattle.csv.specs.Reading.{records_from, records_next}
use Rattle.csv.specs.declared.parser.Config.{Config}
use Rattle.csv.specs.declared.parser.Terminator.{Terminator}
use Rattle.csv.specs.declared.parser.Terminator.TheVariants as term
use Rattle.csv.specs.declared.parser.State.{State}
use Rattle.csv.specs.declared.parser.State.TheVariants as st
use Rattle.csv.specs.declared.parser.Action.{Action}

-- where a step ends a record, the machine stands between two records
abbrev EndsBetween : State × Action → Type 0
EndsBetween r = is_end r.1 ≡ true → ends_at_end r.0 ≡ false

either : (b : Bool) (x y : State × Action) → EndsBetween x → EndsBetween y → EndsBetween (cond b x y)
either true x y h k = h
either false x y h k = k

after_end-between : (t : Terminator) (c : ℕ) → ends_at_end (after_end t c) ≡ false
after_end-between term.CRLF c = go (c == carriage_return)
  where
    go : (b : Bool) → ends_at_end (cond b st.AfterCr st.StartRecord) ≡ false
    go true = refl
    go false = refl
after_end-between (term.Any t) c = refl

in_field-between : (cfg : Config) (c : ℕ) → EndsBetween (in_field cfg c)
in_field-between cfg c =
    either (c == cfg.delimiter) _ _ (λ e. cc) (either (ends_with cfg.terminator c) _ _ (λ e. after_end-between cfg.terminator c) (λ e. cc))

start_field-between : (cfg : Config) (c : ℕ) → EndsBetween (start_field cfg c)
start_field-between cfg c = either (cfg.quoting && (c == cfg.quote)) _ _ (λ e. cc) (in_field-between cfg c)

start_record-between : (cfg : Config) (c : ℕ) → EndsBetween (start_record cfg c)
start_record-between cfg c =
    either (ends_with cfg.terminator c) _ _ (λ e. cc) (either (is_byte cfg.comment c) _ _ (λ e. cc) (start_field-between cfg c))

step-between : (cfg : Config) (s : State) (c : ℕ) → EndsBetween (step cfg s c)
step-between cfg st.StartRecord c = start_record-between cfg c
step-between cfg st.StartField c = start_field-between cfg c
step-between cfg st.InField c = in_field-between cfg c
step-between cfg st.InQuoted c = either (cfg.quoting && (c == cfg.quote)) _ _ (λ e. cc) (either (cfg.quoting && is_byte cfg.escape c) _ _ (λ e. cc) (λ e. cc))
step-between cfg st.InEscape c = λ e. cc
step-between cfg st.AfterQuote c = either (cfg.quoting && cfg.double_quote && (c == cfg.quote)) _ _ (λ e. cc) (in_field-between cfg c)
step-between cfg st.InComment c = either (c == line_feed) _ _ (λ e. cc) (λ e. cc)
step-between cfg st.AfterCr c = either (c == line_feed) _ _ (λ e. cc) (start_record-between cfg c)

-- what a record leaves: a state between records, and no more bytes than there were
record Leaves (p : Read) (xs : List ℕ) : Type 0 where
  between : ends_at_end p.1 ≡ false
  fewer : length p.2 ≤ length xs

leaves : (cfg : Config) (s : State) (fields : List (List ℕ)) (field xs : List ℕ) (p : Read) → next_record cfg s fields field xs ≡ Some p → Leaves p xs
unfolding next_record
leaves cfg s fields field [] p e = at_end (ends_at_end s) e
  where
    at_end : (b : Bool) → cond b (Some (fields ++ (field ∷ []), st.StartRecord, [])) None ≡ Some p → Leaves p []
    at_end true h = let q : (fields ++ (field ∷ []), st.StartRecord, []) ≡ p = cc in rw (← q) (record { between = refl; fewer = omega arith })
    at_end false h = absurd (cc)
leaves cfg s fields field (c ∷ rest) p e =
    go (is_end (step cfg s c).1) refl e (leaves cfg (step cfg s c).0 (fields_after (step cfg s c).1 fields field) (field_after (step cfg s c).1 c field) rest p)
  where
    go : (b : Bool) → is_end (step cfg s c).1 ≡ b
        → cond b (Some (fields_after (step cfg s c).1 fields field, (step cfg s c).0, rest))
        (next_record cfg (step cfg s c).0 (fields_after (step cfg s c).1 fields field) (field_after (step cfg s c).1 c field) rest) ≡ Some p
        → (next_record cfg (step cfg s c).0 (fields_after (step cfg s c).1 fields field) (field_after (step cfg s c).1 c field) rest ≡ Some p → Leaves p rest)
        → Leaves p (c ∷ rest)
    go true ends h more =
        let q : (fields_after (step cfg s c).1 fields field, (step cfg s c).0, rest) ≡ p = cc in
        rw (← q) (record { between = step-between cfg s c ends; fewer = omega arith })
    go false on h more = let l = more h in record { between = l.between; fewer = omega (arith, l.fewer) }

pub next_leaves : (cfg : Config) (s : State) (xs : List ℕ) (p : Read) → ends_at_end s ≡ false → next_record cfg s [] [] xs ≡ Some p
    → (ends_at_end p.1 ≡ false) × (length p.2 < length xs)
unfolding next_record
next_leaves cfg s [] p h e = absurd (cc (rw h at e))
next_leaves cfg s (c ∷ rest) p h e =
    go (is_end (step cfg s c).1) refl e
  where
    go : (b : Bool) → is_end (step cfg s c).1 ≡ b
        → cond b (Some (fields_after (step cfg s c).1 [] [], (step cfg s c).0, rest))
        (next_record cfg (step cfg s c).0 (fields_after (step cfg s c).1 [] []) (field_after (step cfg s c).1 c []) rest) ≡ Some p
        → (ends_at_end p.1 ≡ false) × (length p.2 < length (c ∷ rest))
    go true ends h =
        let q : (fields_after (step cfg s c).1 [] [], (step cfg s c).0, rest) ≡ p = cc in
        rw (← q) (step-between cfg s c ends, omega arith)
    go false on h =
        let l = leaves cfg (step cfg s c).0 (fields_after (step cfg s c).1 [] []) (field_after (step cfg s c).1 c []) rest p h in
        (l.between, omega (arith, l.fewer))

-- more turns than there are bytes find the same records
enough : (cfg : Config) (n m : ℕ) (s : State) (xs : List ℕ) → ends_at_end s ≡ false → length xs < n → length xs < m
    → records_from cfg n s xs ≡ records_from cfg m s xs
unfolding records_from
enough cfg zero m s xs h a b = absurd (omega arith)
enough cfg (suc n) zero s xs h a b = absurd (omega arith)
enough cfg (suc n) (suc m) s xs h a b = go (next_record cfg s [] [] xs) refl (enough cfg n m)
  where
    go : (o : Option Read) → next_record cfg s [] [] xs ≡ o
        → ((t : State) (ys : List ℕ) → ends_at_end t ≡ false → length ys < n → length ys < m → records_from cfg n t ys ≡ records_from cfg m t ys)
        → records_next (records_from cfg n) o ≡ records_next (records_from cfg m) o
    go None e same = refl
    go (Some p) e same =
        let l = next_leaves cfg s xs p h e in
        ap (λ rows. p.0 ∷ rows) (same p.1 p.2 l.0 (omega (arith, l.1)) (omega (arith, l.1)))

-- the records from here are the one that is read next and those behind it
pub records-some : (cfg : Config) (s : State) (xs : List ℕ) (p : Read) → ends_at_end s ≡ false → next_record cfg s [] [] xs ≡ Some p
    → records_from cfg (length xs + 1) s xs ≡ p.0 ∷ records_from cfg (length p.2 + 1) p.1 p.2
unfolding records_from
records-some cfg s xs p h e =
    let l = next_leaves cfg s xs p h e in
    rw (add-one, e) (ap (λ rows. p.0 ∷ rows) (enough cfg (length xs) (length p.2 + 1) p.1 p.2 l.0 l.1 (omega arith)))

pub records-none : (cfg : Config) (s : State) (xs : List ℕ) → next_record cfg s [] [] xs ≡ None → records_from cfg (length xs + 1) s xs ≡ []
unfolding records_from
records-none cfg s xs e = rw (add-one, e) refl
