-- What a line asks is within the limits, what it names are ranges, and no line fails for want of memory.
use Rattle.std.proofs.Common.{◌≡◌, ℕ, ◌*◌, ◌/◌, ◌%◌, ◌==◌, ◌&&◌, Bool, true, false, cond, List, [], ◌∷◌, Some, None, Result, Ok, Err, arith}
use Rattle.std.proofs.Common.{refl, sym, subst, ℤ}
use Rattle.std.specs.Prelude.{◌≢◌, not, IfOk, All, FitsSigned}
use Rattle.std.proofs.Common.{length, ◌∙◌}
use Rattle.std.specs.List.{list_all, Contains as HasElement}
use Rattle.std.proofs.lemmas.List.Elements.{All-contains, All-contains_itself, All-weaker}
use mir.Syntax.{w32}
use Rattle.std.proofs.Math.Nat.{div-mul-le_self, mod-eq-sub-div-mul}
use Rattle.std.proofs.lemmas.Bool.Decides.{nat_tests}
use Rattle.std.proofs.lemmas.List.Sums.{AllPass-from_list_all}
use Rattle.number_text.specs.Number.{coordinate, number}
use Rattle.point_codec.specs.Points.{Region, ordered_points}
use Rattle.script_lang.specs.Requests.{Request, Viewed}
use Rattle.script_lang.specs.Requests as asks
use Rattle.script_lang.specs.Reading.{Reading, Says, Fails, greatest_leaf, is_from_to, on_success}
use Rattle.script_lang.specs.Reading.{values_of, word_alone, create_reading}
use Rattle.script_lang.specs.Reading.{read_add, document_of, read_merge, query_of, box_of, pieces, points_of, text_of, read}
use Rattle.script_lang.specs.Lines.{words_of}
use Rattle.script_lang.proofs.Limits.{IsPart, value_part, values_part, name_part}
use Rattle.script_lang.specs.Seen.{IsWithinLimits, first_request_of}
use Rattle.script_lang.specs.declared.commands.First.{First}
use Rattle.script_lang.specs.declared.faults.LineFault.{LineFault}
use Rattle.script_lang.specs.declared.faults.LineFault.TheVariants as line
use Rattle.range_docs.specs.Ranges.{AreEnds, range_of, is_range}
use Rattle.range_docs.specs.Refusals.{fault_of}
use Rattle.range_docs.specs.Reading.{RangeRequest, Asks, Finds, RangeReading, as_points, from_part, read_create_ranges, if_ranges, read_delete_number}
use Rattle.range_docs.specs.Reading.{read_question, read_without_ranges, read_range_command, read_range_words, if_blank, range_read, read_range_text}
use Rattle.range_docs.proofs.Added.{IsPoint, all_ordered, are_values, box_long, pieces_are}
use Rattle.range_docs.specs.Seen.{of_points, request_in, AgreesOnRanges, AddsRanges, NamesRanges}
use Rattle.range_docs.specs.declared.ranges.Question.{Question}
use Rattle.range_docs.specs.declared.ranges.Question.TheVariants.{Intersects, Within, Contains}
use Rattle.range_docs.specs.declared.faults.RangeFault.{RangeFault}
use Rattle.range_docs.specs.declared.faults.RangeFault.TheVariants as fault

-- ---- lines that name no range

abbrev Fine : Reading → Type 0
Fine (Says request) = IsWithinLimits request × ((r : ℕ) → AddsRanges r request)
Fine (Fails f) = f ≢ line.Memory

record IsFine (reading : Reading) : Type 0 where
  fine : Fine reading

says : (request : Request) → IsWithinLimits request → ((r : ℕ) → AddsRanges r request) → IsFine (Says request)
says request limits ranges = record { fine = (limits, ranges) }

fails : (f : LineFault) → f ≢ line.Memory → IsFine (Fails f)
fails f h = record { fine = h }

wrong : IsFine (Fails line.Words)
wrong = fails line.Words (λ e. cc)

if_fine : (b : Bool) {x y : Reading} → IsFine x → IsFine y → IsFine (cond b x y)
if_fine true held other = held
if_fine false held other = other

given_fine : {X : Type 0} {part : Result X LineFault} {next : X → Reading} → IsPart part → ((x : X) → IsFine (next x)) → IsFine (on_success part next)
given_fine {X} {part = Ok x} {next} p fine = fine x
given_fine {X} {part = Err f} {next} p fine = fails f p.remembers

alone_fine : (words : List (List ℕ)) (request : Request) → IsFine (Says request) → IsFine (word_alone words request)
alone_fine [] request fine = fine
alone_fine (w ∷ ws) request fine = wrong

abbrev created_if : Bool → Bool → ℕ → ℕ → Reading
created_if d l dims leaf_size = cond (not d) (Fails line.Dims) (cond (not l) (Fails line.LeafSize) (Says (asks.Create dims leaf_size)))

created_fine : (dims leaf_size : ℕ) → IsFine (create_reading dims leaf_size)
created_fine dims leaf_size =
    elim (is_from_to 1 8 dims) as (λ t. is_from_to 1 8 dims ≡ t → IsFine (created_if t (is_from_to 2 (greatest_leaf dims) leaf_size) dims leaf_size)) [
      | true ↦ λ d. elim (is_from_to 2 (greatest_leaf dims) leaf_size) as (λ t.
          is_from_to 2 (greatest_leaf dims) leaf_size ≡ t → IsFine (created_if true t dims leaf_size)) [
            | true ↦ λ l.
                says (asks.Create dims leaf_size) (
                  grind (arith, nat_tests),
                  grind (arith, nat_tests),
                  grind (arith, nat_tests),
                  grind (arith, nat_tests),
                ) (λ r. tt)
            | false ↦ λ l. fails line.LeafSize (λ e. cc)
          ] refl
      | false ↦ λ d. fails line.Dims (λ e. cc)
    ] refl

create_fine : (words : List (List ℕ)) → IsFine (read_create_ranges words)
unfolding read_create_ranges
create_fine [] = wrong
create_fine (d ∷ []) = given_fine (value_part number 2 d) (λ r. created_fine (2 * r) (greatest_leaf (2 * r)))
create_fine (d ∷ word ∷ []) = wrong
create_fine (d ∷ word ∷ s ∷ []) =
    if_fine _ (given_fine (value_part number 2 d) (λ r. given_fine (value_part number 4 s) (λ leaf_size. created_fine (2 * r) leaf_size))) wrong
create_fine (d ∷ word ∷ s ∷ w ∷ ws) = wrong

delete_fine : (words : List (List ℕ)) → IsFine (read_delete_number words)
unfolding read_delete_number
delete_fine [] = wrong
delete_fine (w ∷ []) = if_fine _ wrong (given_fine (value_part number 2 w) (λ n. says (asks.Delete n) tt (λ r. tt)))
delete_fine (w ∷ v ∷ ws) = wrong

merge_fine : (words : List (List ℕ)) → IsFine (read_merge words)
unfolding read_merge
merge_fine [] = says asks.Merge tt (λ r. tt)
merge_fine (w ∷ ws) =
    if_fine _ (given_fine (values_part number 3 ws) (λ ps. says (asks.MergeBegin ps) tt (λ r. tt)))
    (if_fine _ (alone_fine ws asks.MergeEnd (says asks.MergeEnd tt (λ r. tt))) wrong)

without_ranges_fine : (verb : List ℕ) (words : List (List ℕ)) → IsFine (read_without_ranges verb words)
unfolding read_without_ranges
without_ranges_fine verb words =
    if_fine _ (create_fine words) (if_fine _ (delete_fine words) (if_fine _ (alone_fine words asks.Flush (says asks.Flush tt (λ r. tt)))
    (if_fine _ (merge_fine words) (if_fine _ (given_fine (name_part words) (λ n. says (asks.Snapshot n) tt (λ r. tt)))
    (if_fine _ (given_fine (name_part words) (λ n. says (asks.Release n) tt (λ r. tt)))
    (if_fine _ (alone_fine words asks.Commit (says asks.Commit tt (λ r. tt))) (if_fine _ (alone_fine words asks.Reopen (says asks.Reopen tt (λ r. tt)))
    (fails line.Unknown (λ e. cc)))))))))

pub create_within : (first : First) (words : List (List ℕ)) → Says (first_request_of first) ≡ read_create_ranges words
    → IsWithinLimits (first_request_of first)
create_within first words e = (subst IsFine (sym e) (create_fine words)).fine.0

pub create_remembers : (f : LineFault) (words : List (List ℕ)) → Fails f ≡ read_create_ranges words → f ≢ line.Memory
create_remembers f words e = (subst IsFine (sym e) (create_fine words)).fine

pub not_memory : (f : LineFault) → f ≢ line.Memory → fault_of f ≢ fault.Memory
not_memory line.Memory h e = h refl
not_memory f h e = cc

-- ---- all lines

abbrev Sound : ℕ → RangeReading → Type 0
Sound r (Ok request) = IsWithinLimits (of_points request) × NamesRanges r request
Sound r (Err f) = Unit {0}

record IsSound (r : ℕ) (reading : RangeReading) : Type 0 where
  sound : Sound r reading

refused : (r : ℕ) (f : RangeFault) → IsSound r (Err f)
refused r f = record { sound = tt }

if_sound : (r : ℕ) (b : Bool) {x y : RangeReading} → IsSound r x → IsSound r y → IsSound r (cond b x y)
if_sound r true held other = held
if_sound r false held other = other

from_part_sound : {X : Type 0} (r : ℕ) (part : Result X LineFault) {next : X → RangeReading} → ((x : X) → IsSound r (next x)) → IsSound r (from_part part next)
from_part_sound r (Ok x) sound = sound x
from_part_sound r (Err f) sound = refused r (fault.Line f)

points_sound : (r : ℕ) (reading : Reading) → IsFine reading → IsSound r (as_points reading)
points_sound r (Says request) f = record { sound = (f.fine.0, f.fine.1 r) }
points_sound r (Fails f) h = refused r (fault.Line f)

-- a part that was read, and what it is
from_part_says : {X : Type 0} (r : ℕ) (part : Result X LineFault) {next : X → RangeReading} → ((x : X) → part ≡ Ok x → IsSound r (next x))
    → IsSound r (from_part part next)
from_part_says r (Ok x) sound = sound x refl
from_part_says r (Err f) sound = refused r (fault.Line f)

all_ranges : (r : ℕ) (points : List (List ℤ)) → All (IsPoint (2 * r)) points → list_all (λ p. is_range (range_of r p)) points ≡ true → All (AreEnds r) points
all_ranges r points are e =
    let ranges = AllPass-from_list_all (λ p. is_range (range_of r p)) points e in
    All-weaker (λ p. HasElement points p) (AreEnds r) (λ p there.
    let point = All-contains (IsPoint (2 * r)) points p are there in
    record { long = point.long; fits = point.fits; ordered = All-contains (λ q. is_range (range_of r q) ≡ true) points p ranges there })
    points (All-contains_itself points)

ranges_sound : (r : ℕ) (points : List (List ℤ)) → All (IsPoint (2 * r)) points → IsSound r (if_ranges r (Says (asks.Add points)))
ranges_sound r points are =
    elim (list_all (λ p. is_range (range_of r p)) points) as (λ t. list_all (λ p. is_range (range_of r p)) points ≡ t
    → IsSound r (cond t (Ok (Asks (asks.Add points))) (Err fault.NotRange))) [
      | true ↦ λ e. record { sound = (tt, all_ranges r points are e) }
      | false ↦ λ e. refused r fault.NotRange
    ] refl

added_sound : (r count dims : ℕ) (read : Result (List ℤ) LineFault) → dims ≡ 2 * r
    → ((xs : List ℤ) → read ≡ Ok xs → (length xs ≡ count * dims) × All (λ x. FitsSigned w32 x) xs)
    → IsSound r (if_ranges r (on_success (points_of count dims read) (λ points. Says (asks.Add (ordered_points points)))))
added_sound r count dims (Err f) two are = refused r (fault.Line f)
added_sound r count dims (Ok xs) two are =
    let all = are xs refl in
    let points = all_ordered (IsPoint dims) (pieces count dims xs) (pieces_are count dims xs all.0 all.1) in
    ranges_sound r (ordered_points (pieces count dims xs)) (subst (λ (n : ℕ). All (IsPoint n) (ordered_points (pieces count dims xs))) two points)

add_sound : (r dims : ℕ) (words : List (List ℕ)) → dims ≡ 2 * r → IsSound r (if_ranges r (read_add dims words))
unfolding read_add document_of
add_sound r dims words two =
    by (length words % dims == 0) (is_from_to 1 16 (length words / dims)) refl
  where
    by : (whole few : Bool) → (length words % dims == 0) ≡ whole
        → IsSound r (if_ranges r
        (on_success (cond (whole && few) (points_of (length words / dims) dims (values_of coordinate 2 words)) (Err line.Words))
        (λ points. Says (asks.Add (ordered_points points)))))
    by true true e = added_sound r (length words / dims) dims (values_of coordinate 2 words) two (λ xs is.
        let values = are_values 2 words xs is in
        let none : length words % dims ≡ 0 = grind (arith, nat_tests) in
        let less = mod-eq-sub-div-mul (length words) dims in
        let within = div-mul-le_self (length words) dims in
        (values.long ∙ omega (arith, none, less, within), values.fits))
    by true false e = refused r (fault.Line line.Words)
    by false few e = refused r (fault.Line line.Words)

asked_sound : (r : ℕ) (question : Question) (view : Viewed) (query : Region) → length query.lo ≡ r → length query.hi ≡ r
    → IsSound r (cond (is_range query) (Ok (Finds question view query)) (Err fault.NotRange))
asked_sound r question view query lo hi =
    elim (is_range query) as (λ t. is_range query ≡ t → IsSound r (cond t (Ok (Finds question view query)) (Err fault.NotRange))) [
      | true ↦ λ e. record { sound = (tt, record { lo = lo; hi = hi; ordered = e }) }
      | false ↦ λ e. refused r fault.NotRange
    ] refl

question_sound : (r : ℕ) (question : Question) (words : List (List ℕ)) → IsSound r (read_question question r words)
unfolding read_question
question_sound r question words =
    from_part_sound r (query_of words) (λ q. from_part_says r (box_of r q.place q.words) (λ ends is.
    let long = box_long r q.place q.words ends is in
    asked_sound r question q.view (record { lo = ends.0; hi = ends.1 }) long.0 long.1))

command_sound : (dims : ℕ) (verb : List ℕ) (words : List (List ℕ)) → dims % 2 ≡ 0 → IsSound (dims / 2) (read_range_command dims verb words)
unfolding read_range_command
command_sound dims verb words even =
    if_sound (dims / 2) _ (add_sound (dims / 2) dims words (omega (arith, even))) (if_sound (dims / 2) _ (question_sound (dims / 2) Intersects words)
    (if_sound (dims / 2) _ (question_sound (dims / 2) Within words) (if_sound (dims / 2) _ (question_sound (dims / 2) Contains words)
    (points_sound (dims / 2) (read_without_ranges verb words) (without_ranges_fine verb words)))))

nothing_asked : (r : ℕ) → IsSound r (Ok (Asks asks.Blank))
nothing_asked r = record { sound = (tt, tt) }

words_sound : (dims : ℕ) (words : List (List ℕ)) → dims % 2 ≡ 0 → IsSound (dims / 2) (read_range_words (Some dims) words)
words_sound dims [] even = nothing_asked (dims / 2)
words_sound dims (verb ∷ words) even = if_sound (dims / 2) _ (nothing_asked (dims / 2)) (command_sound dims verb words even)

blank_sound : (r : ℕ) (reading : Reading) → IsSound r (if_blank reading)
blank_sound r (Says asks.Blank) = nothing_asked r
blank_sound r reading = refused r fault.NotRanges

line_sound : (dims : ℕ) (bytes : List ℕ) → IsSound (dims / 2) (range_read (Some dims) bytes)
unfolding range_read
line_sound dims bytes = by (dims % 2 == 0) refl
  where
    by : (b : Bool) → (dims % 2 == 0) ≡ b → IsSound (dims / 2) (cond b (read_range_text (Some dims) bytes) (if_blank (read None bytes)))
    by true e =
        let even : dims % 2 ≡ 0 = grind (arith, nat_tests) in
        from_part_sound (dims / 2) (text_of bytes) (λ text. words_sound dims (words_of text) even)
    by false e = blank_sound (dims / 2) (read None bytes)

-- what a line adds are ranges, and what it looks for is on a range
pub names_ranges : (dims : ℕ) (bytes : List ℕ) (request : RangeRequest) → range_read (Some dims) bytes ≡ Ok request → NamesRanges (dims / 2) request
names_ranges dims bytes request e = (subst (IsSound (dims / 2)) e (line_sound dims bytes)).sound.1

asked_within : (r : ℕ) (reading : RangeReading) (request : Request) → IsSound r reading → request_in reading ≡ Ok request
    → IsWithinLimits request × AddsRanges r request
asked_within r (Err f) request s e = cc
asked_within r (Ok (Asks asks)) request s e = let same : asks ≡ request = cc in rw (← same) (s.sound.0, s.sound.1)
asked_within r (Ok (Finds question view query)) request s e =
    let same : of_points (Finds question view query) ≡ request = cc in rw (← same) (tt, tt)

-- what a command that was read asks is within the limits, and what it adds are ranges
pub command_within : {C : Type 0} (request : C → Request) (result : Result C RangeFault) (dims : ℕ) (verb : List ℕ) (words : List (List ℕ)) → dims % 2 ≡ 0
    → AgreesOnRanges request result (read_range_command dims verb words) → IfOk result (λ c. IsWithinLimits (request c) × AddsRanges (dims / 2) (request c))
command_within request (Ok c) dims verb words even e =
    asked_within (dims / 2) (read_range_command dims verb words) (request c) (command_sound dims verb words even) e
command_within request (Err f) dims verb words even e = tt

pub if_both : {C E : Type 0} (P Q : C → Type 0) (result : Result C E) → IfOk result (λ c. P c × Q c) → IfOk result P × IfOk result Q
if_both P Q (Ok c) h = h
if_both P Q (Err e) h = (tt, tt)
