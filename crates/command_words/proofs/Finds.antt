-- What a parse finds for the options of a plain command: each value has passed the parser of its option, and is read by it.
use Rattle.std.proofs.Common.{◌≡◌, ◌∙◌, ◌<◌, ◌&&◌, not, ap, zero, suc, ℕ, Bool, true, false, List, [], ◌∷◌}
use Rattle.std.proofs.Common.{map, length, is_some, Option, Some, None, refl, sym, subst, inl, inr, arith, codes}
use Rattle.std.specs.List.{All, slice_index_or, list_any}
use Rattle.std.specs.Str.{bytes_eq}
use Rattle.std.specs.Borrow.{Bor}
use Rattle.std.proofs.lemmas.Bool.{or_parts, both_ways, not-true}
use Rattle.std.proofs.lemmas.List.Elements.{All-map}
use Rattle.std.proofs.lemmas.Slice.Eq.{bytes_eq-Decides}
use Rattle.clap.specs.Words.{App, Rule, Accepts, IsParsedFrom, SameRules, app_of, args_of, groups_of, first_value}
use Rattle.clap.specs.Words.{found_of, has_subcommand, matched_of, one_text, parser_of, read_as, reading_of, rule_of}
use Rattle.clap.specs.Built.{IsAuto}
use Rattle.clap.specs.Simple.{has_simple_rules, is_buildable, is_simple}
use Rattle.clap.specs.Faults.{is_simple_and_free}
use Rattle.clap.specs.Facts.{EntryPasses, HasReading, IsParsed, PassesArg, parser_of_value}
use Rattle.clap.proofs.CallerLemmas.{entry_by_id, same_rules_by_id}
use Rattle.clap.proofs.SimpleLemmas.{plain_fields, simple_groups}
use Rattle.clap.proofs.WalkLemmas.{both}
use Rattle.clap.specs.declared.builder.arg.Arg.{Arg}
use Rattle.clap.specs.declared.builder.command.Command.{Command}
use Rattle.clap.specs.declared.builder.value_parser.Reading.{Reading}
use Rattle.clap.specs.declared.builder.value_parser.ValueParser.{ValueParser}
use Rattle.clap.specs.declared.parser.matches.ArgMatches.{ArgMatches}
use Rattle.clap.specs.declared.parser.matches.Found.{Found}
use Rattle.clap.specs.declared.parser.matches.MatchedArg.{MatchedArg}
use Rattle.command_words.specs.Commands.{Form, command_of}
use Rattle.command_words.specs.Found.{AreOptionTexts, HasText, IsOptionText, are_distinct, is_plain}

-- ---- ids that are apart

abbrev ids_of : List Arg → List (List ℕ)
ids_of xs = map (λ (option : Rule). option.id) (map rule_of xs)

apart : (id : List ℕ) (xs : List Arg) → list_any (bytes_eq id) (ids_of xs) ≡ false
    → (k : ℕ) (d : Arg) → k < length xs → (slice_index_or xs k d).id.now ≡ id → ⊥
apart id [] none k d lt same = absurd (omega arith)
apart id (x ∷ xs) none zero d lt same =
    both_ways _ (or_parts _ _ none).0 ((bytes_eq-Decides id x.id.now).1 (sym same))
apart id (x ∷ xs) none (suc k) d lt same = apart id xs (or_parts _ _ none).1 k d (omega arith) same

one_place : (xs : List Arg) → are_distinct (ids_of xs) ≡ true → (j k : ℕ) (d e : Arg) → j < length xs → k < length xs
    → (slice_index_or xs j e).id.now ≡ (slice_index_or xs k d).id.now → j ≡ k
one_place [] distinct j k d e in_j in_k same = absurd (omega arith)
one_place (x ∷ xs) distinct zero zero d e in_j in_k same = refl
one_place (x ∷ xs) distinct zero (suc k) d e in_j in_k same =
    absurd (apart x.id.now xs (not-true _ (both _ _ distinct).0) k d (omega arith) (sym same))
one_place (x ∷ xs) distinct (suc j) zero d e in_j in_k same =
    absurd (apart x.id.now xs (not-true _ (both _ _ distinct).0) j e (omega arith) same)
one_place (x ∷ xs) distinct (suc j) (suc k) d e in_j in_k same =
    ap suc (one_place xs (both _ _ distinct).1 j k d e (omega arith) (omega arith) same)

-- ---- what building keeps of an option's parser

same_parser : (a y : Arg) → SameRules a y → is_some a.value_parser ≡ true → parser_of y ≡ parser_of a
same_parser a y s some = go a.value_parser refl some
  where
    go : (o : Option ValueParser) → a.value_parser ≡ o → is_some o ≡ true → parser_of y ≡ parser_of_value a.value_parser
    go None e h = absurd (both_ways (is_some {T = ValueParser} None) refl h)
    go (Some q) e h = ap parser_of_value (s.parser q e ∙ sym e)

accepts_of : (a y : Arg) (text : List ℕ) → SameRules a y → is_some a.value_parser ≡ true
    → Accepts y.ignore_case (parser_of y) text → Accepts a.ignore_case (parser_of a) text
accepts_of a y text s some passes =
    let by_parser = subst (λ (q : ValueParser). Accepts y.ignore_case q text) (same_parser a y s some) passes in
    subst (λ (b : Bool). Accepts b (parser_of a) text) s.ignore_case by_parser

-- ---- what an entry gives

no_first : (f : Found) (id : List ℕ) → matched_of f id ≡ None → (first_value f id ≡ None) × (one_text f id ≡ None)
no_first f id none = (rw none refl, rw none refl)

empty_first : (f : Found) (id : List ℕ) (x : MatchedArg) → matched_of f id ≡ Some x → x.vals.items ≡ []
    → (first_value f id ≡ None) × (one_text f id ≡ None)
empty_first f id x found empty = (rw (found, empty) refl, rw (found, empty) refl)

first_at : (f : Found) (id : List ℕ) (x : MatchedArg) (v : Bor (List ℕ)) (vs : List (Bor (List ℕ))) → matched_of f id ≡ Some x
    → x.vals.items ≡ v ∷ vs → first_value f id ≡ Some v.now
first_at f id x v vs found vals = rw (found, vals) refl

read_at : (f : Found) (id : List ℕ) (x : MatchedArg) (v : Bor (List ℕ)) (vs : List (Bor (List ℕ))) (how : Reading)
    → matched_of f id ≡ Some x → x.vals.items ≡ v ∷ vs → x.reading ≡ how → one_text f id ≡ Some (read_as how v.now)
read_at f id x v vs how found vals reads = rw (found, vals, reads) refl

head_of : (P : Bor (List ℕ) → Type 0) (xs : List (Bor (List ℕ))) (v : Bor (List ℕ)) (vs : List (Bor (List ℕ))) → xs ≡ v ∷ vs
    → All P xs → P v
head_of P xs v vs e all =
    let moved : All P (v ∷ vs) = subst (All P) e all in
    moved 0 v (omega arith)

abbrev option_at : Command → ℕ → Arg → Arg
option_at c k d = slice_index_or (args_of c) k d

module _ (c : Command) (m : ArgMatches) (p : IsParsedFrom c m) (plain : is_plain (app_of c) ≡ true) where
  apart_names : are_distinct (codes "" ∷ codes "help" ∷ codes "version" ∷ ids_of (args_of c)) ≡ true
  apart_names = (both _ _ plain).1

  no_empty : list_any (bytes_eq []) (ids_of (args_of c)) ≡ false
  no_empty = not-true _ (both _ _ apart_names).0

  after_empty : (not (list_any (bytes_eq (codes "help")) (ids_of (args_of c)))
      && (not (list_any (bytes_eq (codes "version")) (ids_of (args_of c))) && are_distinct (ids_of (args_of c)))) ≡ true
  after_empty = (both _ _ apart_names).1

  after_help : (not (list_any (bytes_eq (codes "version")) (ids_of (args_of c))) && are_distinct (ids_of (args_of c))) ≡ true
  after_help = (both _ _ after_empty).1

  simple_rules : has_simple_rules (app_of c).top ≡ true
  simple_rules =
      let exact : is_simple_and_free (app_of c) ≡ true = (both _ _ plain).0 in
      let simple : is_simple (app_of c) ≡ true = (both _ _ exact).0 in
      let buildable : is_buildable (app_of c) ≡ true = (both _ _ simple).0 in
      (both _ _ buildable).0

  no_groups : groups_of p.built ≡ []
  no_groups =
      (p.from.same_groups (simple_groups c (both _ _ simple_rules).1)).1 ∙ (plain_fields c (both _ _ simple_rules).0).groups

  parsed : IsParsed p.built (found_of m) (has_subcommand m)
  parsed = p.parsed (p.from.globals ∙ (plain_fields c (both _ _ simple_rules).0).globals)

  module _ (k : ℕ) (d : Arg) (lt : k < length (args_of c)) where
    named : (option_at c k d).id.now ≡ [] → ⊥
    named same = apart [] (args_of c) no_empty k d lt same

    not_auto : IsAuto (option_at c k d) → ⊥
    not_auto (inl help) = apart _ (args_of c) (not-true _ (both _ _ after_empty).0) k d lt help
    not_auto (inr version) = apart _ (args_of c) (not-true _ (both _ _ after_help).0) k d lt version

    alone : (j : ℕ) (e : Arg) → j < length (args_of c)
        → bytes_eq (option_at c j e).id.now (option_at c k d).id.now ≡ true → j ≡ k
    alone j e in_j same =
        one_place (args_of c) (both _ _ after_help).1 j k d e in_j lt ((bytes_eq-Decides _ _).0 same)

    -- an argument of the built command with the option's id keeps its rules
    keeps : (j : ℕ) (x : Arg) → j < length (args_of p.built) → slice_index_or (args_of p.built) j x ≡ x
        → bytes_eq x.id.now (option_at c k d).id.now ≡ true → SameRules (option_at c k d) x
    keeps j x high at same = same_rules_by_id c m p k d lt alone not_auto j x high at same

    module _ (some : is_some (option_at c k d).value_parser ≡ true) where
      passes_by : (text : List ℕ) → PassesArg p.built (option_at c k d).id.now text
          → Accepts (option_at c k d).ignore_case (parser_of (option_at c k d)) text
      passes_by text any = accepts_of _ any.1 text (keeps any.0 any.1 any.2 any.3 any.4.0) some any.4.1

      reads_by : (r : Reading) → HasReading p.built (option_at c k d).id.now r → r ≡ reading_of (parser_of (option_at c k d))
      reads_by r any =
          sym any.4.1 ∙ ap reading_of (same_parser _ any.1 (keeps any.0 any.1 any.2 any.3 any.4.0) some)

      entry_gives : (x : MatchedArg) → matched_of (found_of m) (option_at c k d).id.now ≡ Some x
          → (v : Bor (List ℕ)) (vs : List (Bor (List ℕ))) → x.vals.items ≡ v ∷ vs
          → HasText (found_of m) (option_at c k d).id.now (option_at c k d).ignore_case (parser_of (option_at c k d))
      entry_gives x found v vs vals =
          let got = entry_by_id (EntryPasses p.built) (found_of m).entries.items (option_at c k d).id.now x parsed.values found in
          let key : got.0.0.now ≡ (option_at c k d).id.now = (bytes_eq-Decides _ _).0 got.2 in
          let no_group : got.0.1.is_group ≡ true → ⊥ = λ g. elim (got.3.3 g) [
            | inl empty ↦ named (sym key ∙ empty)
            | inr lots ↦
                let bad : 0 < 0 = rw no_groups at lots in
                absurd (omega arith)
          ] in
          let first : PassesArg p.built got.0.0.now v.now = elim got.3.0 [
            | inl g ↦ absurd (no_group g)
            | inr all ↦ head_of (λ w. PassesArg p.built got.0.0.now w.now) got.0.1.vals.items v vs
                (ap (λ (y : MatchedArg). y.vals.items) got.1 ∙ vals) all
          ] in
          let how : got.0.1.reading ≡ reading_of (parser_of (option_at c k d)) = elim got.3.4 [
            | inl g ↦ absurd (no_group g)
            | inr reading ↦ reads_by _ (subst (λ (w : List ℕ). HasReading p.built w got.0.1.reading) key reading)
          ] in
          record {
            text = v.now;
            first = first_at (found_of m) _ x v vs found vals;
            read = read_at (found_of m) _ x v vs _ found vals (ap (λ (y : MatchedArg). y.reading) (sym got.1) ∙ how);
            passes = passes_by v.now (subst (λ (w : List ℕ). PassesArg p.built w v.now) key first);
          }

      by_values : (x : MatchedArg) → matched_of (found_of m) (option_at c k d).id.now ≡ Some x
          → (vals : List (Bor (List ℕ))) → x.vals.items ≡ vals → IsOptionText (found_of m) (rule_of (option_at c k d))
      by_values x found [] empty = inl (empty_first (found_of m) _ x found empty)
      by_values x found (v ∷ vs) vals = inr (entry_gives x found v vs vals)

      by_entry : (o : Option MatchedArg) → matched_of (found_of m) (option_at c k d).id.now ≡ o
          → IsOptionText (found_of m) (rule_of (option_at c k d))
      by_entry None none = inl (no_first (found_of m) _ none)
      by_entry (Some x) found = by_values x found x.vals.items refl

-- what a parse of a plain command finds
pub finds : (c : Command) (m : ArgMatches) → IsParsedFrom c m → is_plain (app_of c) ≡ true → AreOptionTexts (found_of m) (app_of c).top.rules
finds c m p plain =
    All-map (λ (option : Rule). is_some option.parser ≡ true → IsOptionText (found_of m) option) rule_of (args_of c)
    (λ k d lt some. by_entry c m p plain k d lt some _ refl)

-- the same by the command's form
pub found_option : (found : Found) (command : App) (form : Form) → command ≡ command_of form → AreOptionTexts found command.top.rules
    → AreOptionTexts found (command_of form).top.rules
found_option found command form is all = subst (λ (a : App). AreOptionTexts found a.top.rules) is all
